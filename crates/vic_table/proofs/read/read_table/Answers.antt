use Rattle.vic_table.specs.Lines.{table_lines}
use Rattle.vic_table.specs.declared.columns.Columns.TheVariants.{Catalogue, Places}
use Rattle.vic_table.specs.inner.Kept.{item_values}
use Rattle.vic_table.proofs.Whole.{refuses_text, follows, catalogue_whole, places_whole}
use Rattle.vic_table.proofs.read.read_table.Goals as goal

pub returns-in-Ok : goal.returns-in-Ok
returns-in-Ok c =
    let text = c.args.text.items in
    let l = rw c.as_slice.ensures.value at c.in-Some.ensures.line in
    let marked = rw c.as_slice-2.ensures.value at c.first_start.ensures.lines in
    let named = rw (c.as_slice-3.ensures.value, c.in-Catalogue.is) at c.in_ok-columns.ensures in
    let f = follows text c.first_start.result c.in-Some.head l marked (Catalogue c.in-Catalogue.columns) named.0 named.1 in
    let read = rw c.as_slice-in-Catalogue.ensures.value at c.in-Ok.ensures.read in
    rw c.new.ensures (catalogue_whole text c.first_start.result c.in-Some.head l marked c.in-Catalogue.columns (item_values text c.in-Ok.items) f (read (table_lines text) f))

pub returns-in-Catalogue : goal.returns-in-Catalogue
returns-in-Catalogue c =
    let text = c.args.text.items in
    let l = rw c.as_slice.ensures.value at c.in-Some.ensures.line in
    let marked = rw c.as_slice-2.ensures.value at c.first_start.ensures.lines in
    let named = rw (c.as_slice-3.ensures.value, c.in-Catalogue.is) at c.in_ok-columns.ensures in
    let f = follows text c.first_start.result c.in-Some.head l marked (Catalogue c.in-Catalogue.columns) named.0 named.1 in
    let read = rw c.as_slice-in-Catalogue.ensures.value at c.in-Err.ensures.read in
    refuses_text text c.in-Err.fault (read (table_lines text) f)

pub returns-in-Ok-read_place_rows : goal.returns-in-Ok-read_place_rows
returns-in-Ok-read_place_rows c =
    let text = c.args.text.items in
    let l = rw c.as_slice.ensures.value at c.in-Some.ensures.line in
    let marked = rw c.as_slice-2.ensures.value at c.first_start.ensures.lines in
    let named = rw (c.as_slice-3.ensures.value, c.in-Places.is) at c.in_ok-columns.ensures in
    let f = follows text c.first_start.result c.in-Some.head l marked (Places c.in-Places.columns) named.0 named.1 in
    let read = rw c.as_slice-in-Places.ensures.value at c.in-Ok-read_place_rows.ensures in
    rw c.new-in-Ok-read_place_rows.ensures (places_whole text c.first_start.result c.in-Some.head l marked c.in-Places.columns c.in-Ok-read_place_rows.rows.items f (read (table_lines text) f))

pub returns : goal.returns
returns c =
    let text = c.args.text.items in
    let l = rw c.as_slice.ensures.value at c.in-Some.ensures.line in
    let marked = rw c.as_slice-2.ensures.value at c.first_start.ensures.lines in
    let named = rw (c.as_slice-3.ensures.value, c.in-Places.is) at c.in_ok-columns.ensures in
    let f = follows text c.first_start.result c.in-Some.head l marked (Places c.in-Places.columns) named.0 named.1 in
    let read = rw c.as_slice-in-Places.ensures.value at c.in-Err-read_place_rows.ensures in
    refuses_text text c.in-Err-read_place_rows.fault (read (table_lines text) f)
