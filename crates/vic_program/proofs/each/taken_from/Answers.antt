use Rattle.std.proofs.Common.{◌≡◌, ◌∙◌, ◌++◌, ◌∷◌, ◌<◌, [], ap, arith, IsErrAnd, inl, length, map, string_bytes, get_or, rules, subst, sym, take}
use Rattle.std.proofs.lemmas.List.{get_or-map, length-map, take_all}
use Rattle.vic_program.specs.Each.{ReadsEach}
use Rattle.vic_program.specs.Ends.{line_of}
use Rattle.vic_program.specs.FilesView.{files_view}
use Rattle.vic_program.proofs.InTurn.{err_is, reads_more, stops_at, taken_next}
use Rattle.vic_program.proofs.each.taken_from.Goals as goal

pub returns-in_err-text-clause-stops : goal.returns-in_err-text-clause-stops
returns-in_err-text-clause-stops g c =
    let ns = map string_bytes c.args.names.now in
    let i = c.loop-name.name-index in
    let within : i < length c.args.names.now = c.loop-name-test.true in
    let below : i < length ns = omega (arith, length-map c.args.names.now string_bytes, within) in
    let named : get_or ns i [] ≡ c.as_str.result.now = get_or-map string_bytes c.args.names.now i c.name-item.result [] within ∙ ap string_bytes (sym c.name-item.is) ∙ sym c.as_str.ensures.value in
    let same : IsErrAnd c.from_residual.result (λ e. e ≡ c.in_err-text.field-0.0) = search rules in
    err_is c.from_residual.result _ _ same (inl (stops_at _ ns i c.as_str.result.now (line_of c.in_err-text.field-0.0) _ below named c.loop-name.invariant c.in_err-text.ensures.unread))

pub loop-name-preserved : goal.loop-name-preserved
loop-name-preserved g c =
    let ns = map string_bytes c.args.names.now in
    let i = c.loop-name.name-index in
    let within : i < length c.args.names.now = c.loop-name-test.true in
    let below : i < length ns = omega (arith, length-map c.args.names.now string_bytes, within) in
    let named : get_or ns i [] ≡ c.as_str.result.now = get_or-map string_bytes c.args.names.now i c.name-item.result [] within ∙ ap string_bytes (sym c.name-item.is) ∙ sym c.as_str.ensures.value in
    let name = c.as_str.result.now in
    let text = c.in_ok-text.text.items in
    let other : c.as_str-in-loop-name.result.now ≡ name = c.as_str-in-loop-name.ensures.value ∙ sym c.as_str.ensures.value in
    let o = files_view g.F.Files g.F.File.Source c.args.files.now in
    subst (λ us. ReadsEach o us (λ texts. g.G.Gather.HasTaken us texts c.in_ok-taken.taken)) (sym (taken_next ns i name below named))
    (reads_more o (take i ns) name text _ (λ texts. g.G.Gather.HasTaken (take i ns ++ name ∷ []) texts c.in_ok-taken.taken) c.loop-name.invariant c.in_ok-text.ensures.text
    (λ texts h. subst (λ n. g.G.Gather.HasTaken (take i ns ++ n ∷ []) (texts ++ text ∷ []) c.in_ok-taken.taken) other (c.in_ok-taken.ensures (take i ns) texts h)))

pub returns-clause-taken : goal.returns-clause-taken
returns-clause-taken g c =
    let ns = map string_bytes c.args.names.now in
    let end = c.loop-name-test.false in
    let o = files_view g.F.Files g.F.File.Source c.args.files.now in
    subst (λ us. ReadsEach o us (λ texts. g.G.Gather.HasTaken us texts c.loop-name.taken)) (take_all c.loop-name.name-index ns (omega (arith, length-map c.args.names.now string_bytes, end))) c.loop-name.invariant
