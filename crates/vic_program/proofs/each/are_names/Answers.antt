use Rattle.std.proofs.Common.{◌≡◌, ◌∙◌, ◌<◌, [], ap, arith, length, map, string_bytes, get_or, refl, subst, sym}
use Rattle.std.proofs.lemmas.Bool.{false≢true}
use Rattle.std.proofs.lemmas.List.{get_or-map, length-map, take_all}
use Rattle.std.specs.List.{All}
use Rattle.vic_survey.specs.Names.{IsName}
use Rattle.vic_program.proofs.InTurn.{names_more, no_name_in}
use Rattle.vic_program.proofs.each.are_names.Goals as goal

pub returns-then-not-branch : goal.returns-then-not-branch
returns-then-not-branch c =
    let ns = map string_bytes c.args.names.now in
    let i = c.loop-name.name-index in
    let within : i < length c.args.names.now = c.loop-name-test.true in
    let below : i < length ns = omega (arith, length-map c.args.names.now string_bytes, within) in
    let named : get_or ns i [] ≡ c.as_str.result.now = get_or-map string_bytes c.args.names.now i c.name-item.result [] within ∙ ap string_bytes (sym c.name-item.is) ∙ sym c.as_str.ensures.value in
    (λ h. absurd (false≢true h), λ all. absurd (no_name_in ns i c.as_str.result.now below named (λ is. false≢true (sym c.if-not-branch.true ∙ c.in_ok-is_name.ensures.1 is)) all))

pub loop-name-preserved : goal.loop-name-preserved
loop-name-preserved c =
    let ns = map string_bytes c.args.names.now in
    let i = c.loop-name.name-index in
    let within : i < length c.args.names.now = c.loop-name-test.true in
    let below : i < length ns = omega (arith, length-map c.args.names.now string_bytes, within) in
    let named : get_or ns i [] ≡ c.as_str.result.now = get_or-map string_bytes c.args.names.now i c.name-item.result [] within ∙ ap string_bytes (sym c.name-item.is) ∙ sym c.as_str.ensures.value in
    names_more ns i c.as_str.result.now below named (c.in_ok-is_name.ensures.0 c.if-not-branch.false) c.loop-name.invariant

pub returns : goal.returns
returns c =
    let ns = map string_bytes c.args.names.now in
    let end = c.loop-name-test.false in
    (λ h. subst (All IsName) (take_all c.loop-name.name-index ns (omega (arith, length-map c.args.names.now string_bytes, end))) c.loop-name.invariant, λ all. refl)
