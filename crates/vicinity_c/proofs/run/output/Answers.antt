use Rattle.std.proofs.Common.{◌≡◌, ◌∙◌, length, map, string_bytes, sym, rules}
use Rattle.std.proofs.lemmas.List.{length-map}
use Rattle.vicinity_c.specs.Run.{AreNames, AreTexts}
use Rattle.vicinity_c.proofs.Asked.{other_count}
use Rattle.vicinity_c.proofs.run.output.Goals as goal

pub returns : goal.returns
returns c =
    let names = c.in-Some-2.names.items in
    let texts = c.in-Some-3.texts.items in
    let are_names : AreNames c.args.names.now (map string_bytes names) = search rules in
    let are_texts : AreTexts c.args.texts.now c.args.lengths.now (map (λ t. t.now) texts) = search rules in
    let differ : length names ≡ length texts → ⊥ = search rules in
    other_count c.args.number _ _ _ (map string_bytes names) (map (λ t. t.now) texts) are_names are_texts
    (λ e. differ (sym (length-map names string_bytes) ∙ (e ∙ length-map texts (λ t. t.now))))
