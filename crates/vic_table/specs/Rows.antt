-- The rows of a table: the item or the log that a row names, and what is wrong with a row.
use Rattle.std.specs.Prelude.{ℕ, ◌==◌, Bool, false, ◌&&◌, ◌||◌, not, if◌then◌else◌, Option, Some, None, is_none, List, [], ◌∷◌, length, codes, get_or}
use Rattle.std.specs.List.{filter_map, list_all, list_any}
use Rattle.std.specs.Str.{bytes_eq}
use Rattle.vic_frame.specs.Uids.{has}
use Rattle.vic_table.specs.Cells.{cells_of}
use Rattle.vic_table.specs.Contents.{is_blank, trimmed, is_word, spelled_uid}
use Rattle.vic_table.specs.Columns.{separator_byte, tells_elsewhere}
use Rattle.vic_table.specs.Values.{ItemValue, PlaceRowValue}
use Rattle.vic_table.specs.declared.columns.CatalogueColumns.{CatalogueColumns}
use Rattle.vic_table.specs.declared.columns.PlacesColumns.{PlacesColumns}
use Rattle.vic_table.specs.declared.fault.TableLineFault.{TableLineFault}
use Rattle.vic_table.specs.declared.fault.TableLineFault.TheVariants as fault

-- a cell of a line, empty if the line has fewer
abbrev pub cell_at : List (List ℕ) → ℕ → List ℕ
cell_at cells i = get_or cells i []

-- all cells are blank, so the line is passed over
abbrev pub is_blank_line : List (List ℕ) → Bool
is_blank_line cells = list_all is_blank cells

-- ---- a row of a catalogue

-- the cell neither spells a UID nor is the word `none`
abbrev pub is_wrong_uid : List ℕ → Bool
is_wrong_uid cell = is_none (spelled_uid cell) && not (is_word (codes "none") cell)

-- the UID was given to a row before
abbrev pub is_given : List ℕ → Option ℕ → Bool
is_given before None = false
is_given before (Some u) = has before u

-- of the cell of a column that the table may lack: whether it is blank, whether it is a word
abbrev pub is_blank_at : List (List ℕ) → Option ℕ → Bool
is_blank_at cells None = false
is_blank_at cells (Some i) = is_blank (cell_at cells i)

abbrev pub is_word_at : List ℕ → List (List ℕ) → Option ℕ → Bool
is_word_at word cells None = false
is_word_at word cells (Some i) = is_word word (cell_at cells i)

-- the cell `away` is neither blank nor the word `away`
abbrev pub is_wrong_away : List (List ℕ) → Option ℕ → Bool
is_wrong_away cells None = false
is_wrong_away cells (Some i) =
    not (is_blank (cell_at cells i)) && not (is_word (codes "away") (cell_at cells i))

-- the first fault of a catalogue's row, after rows with these UIDs
abbrev pub item_fault : CatalogueColumns → List ℕ → List (List ℕ) → Option TableLineFault
item_fault c before cells =
    if not (length cells == c.count) then Some fault.Cells
    else if is_wrong_uid (cell_at cells c.uid) then Some fault.Uid
    else if tells_elsewhere c cells then Some fault.UidElsewhere
    else if is_given before (spelled_uid (cell_at cells c.uid)) then Some fault.DuplicateUid
    else if is_blank_at cells c.place then Some fault.Place
    else if is_wrong_away cells c.away then Some fault.Away
    else None

-- the place that a cell names: none if it is the word `any`
abbrev pub place_named : List ℕ → Option (List ℕ)
place_named cell = if is_word (codes "any") cell then None else Some (trimmed cell)

-- the place that a row names in a column that the table may lack
abbrev pub place_at : List (List ℕ) → Option ℕ → Option (List ℕ)
place_at cells None = None
place_at cells (Some i) = place_named (cell_at cells i)

-- the item of a row
abbrev pub item_of : CatalogueColumns → ℕ → List ℕ → List (List ℕ) → ItemValue
item_of c number line cells = record {
  line = number;
  row = line;
  uid = spelled_uid (cell_at cells c.uid);
  place = place_at cells c.place;
  away = is_word_at (codes "away") cells c.away;
}

-- the same of the cells of any line: `None` where a quote is wrong; a blank line is no row
abbrev pub cells_item_fault : CatalogueColumns → List ℕ → Option (List (List ℕ))
    → Option TableLineFault
cells_item_fault c before None = Some fault.Quote
cells_item_fault c before (Some cells) =
    if is_blank_line cells then None else item_fault c before cells

-- the first fault of what a catalogue's line behind the first says
abbrev pub item_line_fault : CatalogueColumns → List ℕ → List ℕ → Option TableLineFault
item_line_fault c before line =
    cells_item_fault c before (cells_of (separator_byte c.separator) line)

-- the item of the cells of any line, if they are a row
abbrev pub cells_item : CatalogueColumns → ℕ → List ℕ → Option (List (List ℕ)) → List ItemValue
cells_item c number line None = []
cells_item c number line (Some cells) =
    if is_blank_line cells then [] else item_of c number line cells ∷ []

-- the item of a line, if it is a row
abbrev pub line_item : CatalogueColumns → ℕ → List ℕ → List ItemValue
line_item c number line = cells_item c number line (cells_of (separator_byte c.separator) line)

-- the UIDs of items, in order
abbrev pub item_uids : List ItemValue → List ℕ
item_uids items = filter_map (λ item. item.uid) items

-- ---- a row of a table of places

-- the log was named by a row before
abbrev pub is_named : List PlaceRowValue → List ℕ → Bool
is_named before log = list_any (λ row. bytes_eq row.log log) before

-- the first fault of a row of a table of places, after these rows
abbrev pub place_fault : PlacesColumns → List PlaceRowValue → List (List ℕ) → Option TableLineFault
place_fault c before cells =
    if not (length cells == c.count) then Some fault.Cells
    else if is_blank (cell_at cells c.place) || is_blank (cell_at cells c.log)
    then Some fault.Place
    else if is_named before (trimmed (cell_at cells c.log)) then Some fault.DuplicateLog
    else None

-- the row of a table of places with these cells
abbrev pub place_row_of : PlacesColumns → ℕ → List (List ℕ) → PlaceRowValue
place_row_of c number cells = record {
  line = number;
  place = trimmed (cell_at cells c.place);
  log = trimmed (cell_at cells c.log);
}

-- the same of the cells of any line: `None` where a quote is wrong; a blank line is no row
abbrev pub cells_place_fault : PlacesColumns → List PlaceRowValue → Option (List (List ℕ))
    → Option TableLineFault
cells_place_fault c before None = Some fault.Quote
cells_place_fault c before (Some cells) =
    if is_blank_line cells then None else place_fault c before cells

-- the first fault of what a line behind the first says in a table of places
abbrev pub place_line_fault : PlacesColumns → List PlaceRowValue → List ℕ → Option TableLineFault
place_line_fault c before line =
    cells_place_fault c before (cells_of (separator_byte c.separator) line)

-- the row of the cells of any line, if they are one
abbrev pub cells_place_row : PlacesColumns → ℕ → Option (List (List ℕ)) → List PlaceRowValue
cells_place_row c number None = []
cells_place_row c number (Some cells) =
    if is_blank_line cells then [] else place_row_of c number cells ∷ []

-- the row of a line, unless it is blank
abbrev pub line_place_row : PlacesColumns → ℕ → List ℕ → List PlaceRowValue
line_place_row c number line =
    cells_place_row c number (cells_of (separator_byte c.separator) line)
