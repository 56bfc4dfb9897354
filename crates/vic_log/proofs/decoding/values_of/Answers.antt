use Rattle.vic_log.proofs.Words.{◌≡◌, ℕ, length, refl, sym, map-id, ◌∙◌, zip2_of_maps, splat_is_map, digit_or_255}
use Rattle.vic_log.proofs.Lanes.{chosen, on_bytes}
use Rattle.vic_log.proofs.decoding.values_of.Goals as goal

pub returns : goal.returns
returns c =
    let v = c.args.digits in
    let long : length v ≡ 16 = c.fits-digits.0 in
    let same = sym (map-id v) in
    let splat = λ (n : ℕ). splat_is_map v 16 n long in
    let number = zip2_of_maps _ _ _ v same (splat 48) in
    let letter = zip2_of_maps _ _ _ v (zip2_of_maps _ _ _ v same (splat 32)) (splat 97) in
    let letters = chosen _ _ _ v (zip2_of_maps _ _ _ v letter (splat 6)) (zip2_of_maps _ _ _ v letter (splat 10)) (splat 255) in
    chosen _ _ _ v (zip2_of_maps _ _ _ v number (splat 10)) number letters ∙ on_bytes _ digit_or_255 v refl c.fits-digits.1
