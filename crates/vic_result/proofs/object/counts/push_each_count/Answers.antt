use Rattle.vic_result.proofs.Words.{◌∙◌, ◌++◌, ◌+◌, ap, drop, flat_map, get_or, refl}
use Rattle.vic_collection.specs.declared.state.State.{State}
use Rattle.vic_collection.specs.declared.state.State.TheVariants.{NoTag}
use Rattle.vic_text.proofs.Pieces.{item_next}
use Rattle.vic_result.specs.ResultObject.{count_json}
use Rattle.vic_result.specs.StateNames.{state_name}
use Rattle.vic_result.proofs.object.counts.push_each_count.Goals as goal

pub loop-kind-preserved : goal.loop-kind-preserved
loop-kind-preserved c =
    let i = c.loop-kind.kind-index in
    let t = c.loop-kind.text.items in
    let kinds = c.args.kinds.now in
    let line = λ (kind : State). count_json c.args.states.now (state_name kind) in
    let pushed = c.in_ok-push_count.ensures ∙ ap (λ name. t ++ count_json c.args.states.now name) c.state_name.ensures in
    ap (λ s. s ++ flat_map line (drop (i + 1) kinds)) pushed
    ∙ (item_next line t kinds i (get_or kinds i NoTag) NoTag c.loop-kind-test.true refl ∙ c.loop-kind.invariant)
