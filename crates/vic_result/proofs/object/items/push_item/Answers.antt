use Rattle.vic_result.proofs.Words.{◌≡◌, ◌++◌}
use Rattle.vic_table.specs.Values.{ItemValue}
use Rattle.vic_table.specs.Columns.{separator_byte}
use Rattle.vic_result.specs.ResultObject.{item_head_json, item_json, item_place_json, logs_json, row_json}
use Rattle.vic_result.specs.StateNames.{state_name}
use Rattle.vic_result.proofs.Elements.{four_parts, item_at, some_and, some_at}
use Rattle.vic_result.proofs.object.items.push_item.Goals as goal

pub returns : goal.returns
returns c =
    let items = c.args.catalogue.now.items in
    let separator = separator_byte c.args.catalogue.now.columns.separator in
    let state = state_name c.args.state in
    let t = c.args.text.now.items in
    let found = item_at items c.args.index c.requires in
    let head = some_at _ (λ (item : ItemValue). c.push_item_head.new.text.items ≡ t ++ item_head_json item state) found.0 found.1 c.in_ok-push_item_head.ensures in
    let place = some_at _ (λ (item : ItemValue). c.push_item_place.new.text.items ≡ c.push_item_head.new.text.items ++ item_place_json item) found.0 found.1 c.in_ok-push_item_place.ensures in
    let row = some_at _ (λ (item : ItemValue). c.push_item_cells.new.text.items ≡ c.push_uid_logs.new.text.items ++ row_json separator item.row) found.0 found.1 c.in_ok-push_item_cells.ensures in
    some_and _ (λ (item : ItemValue). c.push_item_cells.new.text.items ≡ t ++ item_json separator item state c.args.logs.certain.now c.args.logs.undecided.now) found.0 found.1
    (four_parts t (item_head_json found.0 state) (item_place_json found.0) (logs_json c.args.logs.certain.now c.args.logs.undecided.now) (row_json separator found.0.row) head place c.in_ok-push_uid_logs.ensures row)
