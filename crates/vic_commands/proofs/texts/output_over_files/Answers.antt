use Rattle.std.proofs.Common.{◌≡◌, ◌∙◌, ◌++◌, ◌+◌, ◌<◌, ℕ, List, [], ◌∷◌, ap, arith, length, map, string_bytes, sym, take}
use Rattle.std.proofs.lemmas.List.{get_or-map, length-map, take_all, take_more}
use Rattle.std.proofs.lemmas.Result.{IfOk-weaker}
use Rattle.vic_commands.proofs.TextsSoFar.{take_now-more}
use Rattle.vic_commands.proofs.Outputs.{output-named}
use Rattle.vic_commands.proofs.texts.output_over_files.Goals as goal
use denote.Ref.{Bor}

pub loop-i-preserved : goal.loop-i-preserved
loop-i-preserved g c =
    let i = c.loop-i.i in
    let ns = map string_bytes c.args.names.now in
    let ts = map (λ t. t.now) c.args.texts.now in
    let within : i < length c.args.names.now = omega (arith, c.loop-i-test.true, c.if-names-texts.false) in
    let name : take (i + 1) ns ≡ take i ns ++ c.as_str.result.now ∷ [] =
    take_more ns i [] (omega (arith, length-map c.args.names.now string_bytes, within))
    ∙ ap (λ n. take i ns ++ n ∷ []) (get_or-map string_bytes c.args.names.now i c.index-names-i.result [] within ∙ ap string_bytes (sym c.index-names-i.is) ∙ sym c.as_str.ensures.value) in
    let text : take (i + 1) ts ≡ take i ts ++ c.in_ok-from_slice.field-0.items ∷ [] =
    take_now-more c.args.texts.now i _ c.loop-i-test.true ∙ ap (λ t. take i ts ++ t ∷ []) (sym c.in_ok-from_slice.ensures.items) in
    rw (name, text) (c.in_ok-taken.ensures (take i ns) (take i ts) c.loop-i.invariant)

pub returns : goal.returns
returns g c =
    let ns = map string_bytes c.args.names.now in
    let ts = map (λ (t : Bor (List ℕ)). t.now) c.args.texts.now in
    let names : length ns ≡ length c.args.names.now = length-map c.args.names.now string_bytes in
    let texts : length ts ≡ length c.args.texts.now = length-map c.args.texts.now (λ (t : Bor (List ℕ)). t.now) in
    let all_names : take c.loop-i.i ns ≡ ns = take_all _ _ (omega (arith, names, c.if-names-texts.false)) in
    let all_texts : take c.loop-i.i ts ≡ ts = take_all _ _ (omega (arith, texts)) in
    let taken = rw (all_names, all_texts) at c.loop-i.invariant in
    IfOk-weaker c.finish.result _ _ (λ output h. output-named g.G.Gather.Writes ns ts output (omega (arith, names, texts, c.if-names-texts.false)) (h ns ts taken)) c.finish.ensures
