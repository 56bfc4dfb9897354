-- Which answers have which number.
use Rattle.vic_numbers.proofs.Words.{◌≡◌, arith, refl, Answered, Complete, Found, Verdict}
use Rattle.vic_numbers.specs.Numbers.{numbers_of}

pub kind_complete : (a : Answered Verdict) → (numbers_of a).kind ≡ 1 → a ≡ Found (Complete (numbers_of a).count)
kind_complete (Found (Complete n)) h = refl
kind_complete _ h = absurd (omega (arith, h))

pub kind_some : (a : Answered Verdict) → (numbers_of a).kind ≡ 0 → ⊥
kind_some (Found (Complete n)) h = omega (arith, h)
kind_some _ h = omega (arith, h)
