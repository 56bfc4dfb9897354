use Rattle.std.proofs.Common.{◌≡◌, ◌∙◌, ◌+◌, ◌++◌, ap, sym, arith, append_assoc, codes, drop}
use Rattle.std.specs.List.{flat_map}
use Rattle.std.proofs.lemmas.List.Folds.{flat_map-map}
use Rattle.vic_text.proofs.Pieces.{item_next, no_item_left}
use Rattle.vic_text.proofs.json.push_behind_commas.Goals as goal

pub loop-value-preserved : goal.loop-value-preserved
loop-value-preserved g c =
    let f = λ (x : g.row.T.Denot). codes "," ++ g.T.ToJson.json_of x in
    let next = item_next f c.loop-value.text.items c.args.values.now c.loop-value.value-index c.value-item.result c.value-item.result c.loop-value-test.true c.value-item.is in
    let pushed : c.push_json.new.text.items ≡ c.loop-value.text.items ++ f c.value-item.result = c.in_ok-push_json.ensures ∙ ap (λ t. t ++ g.T.ToJson.json_of c.value-item.result) c.in_ok-extend_from_slice.ensures.items ∙ append_assoc c.loop-value.text.items (codes ",") (g.T.ToJson.json_of c.value-item.result) in
    ap (λ t. t ++ flat_map f (drop (c.loop-value.value-index + 1) c.args.values.now)) pushed ∙ next ∙ c.loop-value.invariant

pub returns : goal.returns
returns g c =
    let f = λ (x : g.row.T.Denot). codes "," ++ g.T.ToJson.json_of x in
    sym (no_item_left f c.loop-value.text.items c.args.values.now c.loop-value.value-index (omega arith)) ∙ c.loop-value.invariant
    ∙ ap (λ t. c.args.text.now.items ++ t) (sym (flat_map-map (λ v. codes "," ++ v) g.T.ToJson.json_of c.args.values.now))
