use Rattle.std.proofs.Common.{◌≡◌, ◌∙◌, ap, arith, map}
use Rattle.std.proofs.lemmas.List.{take_all}
use Rattle.std.proofs.lemmas.Simd.{map-map}
use Rattle.std.proofs.lemmas.Result.{on_ok_weaker}
use Rattle.vic_log.specs.Order.{entries}
use Rattle.vic_margin.specs.UidMargins.{margin_of}
use Rattle.vic_report.specs.declared.shown.ShownUid.{ShownUid}
use Rattle.vic_object.proofs.finding.add_absent.Goals as goal

pub returns : goal.returns
returns c =
    let absent = c.args.absent.now in
    let margin = margin_of (entries c.args.log.now.lines) in
    let uids = c.deref.ensures.value ∙ c.loop-shown.invariant ∙ ap (λ xs. map (λ (s : ShownUid). s.uid) xs) (take_all c.loop-shown.shown-index absent (omega arith)) in
    let counts : c.deref-2.result.now ≡ map (λ (s : ShownUid). margin s.uid) absent = c.deref-2.ensures.value ∙ c.in_ok-counts.ensures ∙ ap (map margin) uids ∙ map-map margin (λ (s : ShownUid). s.uid) absent in
    on_ok_weaker c.add_with_counts.result (λ f. f margin counts) c.add_with_counts.ensures
