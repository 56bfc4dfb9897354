-- Why a line is refused, and the faults of an item's row in two parts.
use Rattle.std.specs.Prelude.{◌≡◌, ℕ, ◌==◌, not, if◌then◌else◌, Option, Some, None, List, length, ⊤}
use Rattle.vic_table.specs.Columns.{tells_elsewhere}
use Rattle.vic_table.specs.Rows.{cell_at, is_wrong_uid, is_blank_at, is_wrong_away}
use Rattle.vic_table.specs.declared.columns.CatalogueColumns.{CatalogueColumns}
use Rattle.vic_table.specs.declared.fault.TableLineFault.{TableLineFault}
use Rattle.vic_table.specs.declared.fault.TableLineFault.TheVariants as fault
use Rattle.vic_table.specs.declared.fault.TableFault.{TableFault}
use Rattle.vic_table.specs.declared.fault.TableFault.TheVariants.{Line, Memory}

-- why the line with this number, of which this is the first fault, isn't taken: that fault, or
-- refused memory
abbrev pub RefusesAt : ℕ → Option TableLineFault → TableFault → Type 0
RefusesAt number fault (Line n f) = (n ≡ number) × (fault ≡ Some f)
RefusesAt number fault Memory = ⊤

-- the first fault of a row, whatever its UID and the rows before: of its cells' number, of its cell
-- `uid` by itself, or of a UID in another cell
abbrev pub shape_fault : CatalogueColumns → List (List ℕ) → Option TableLineFault
shape_fault c cells =
    if not (length cells == c.count) then Some fault.Cells
    else if is_wrong_uid (cell_at cells c.uid) then Some fault.Uid
    else if tells_elsewhere c cells then Some fault.UidElsewhere
    else None

-- the first fault of the cells `place` and `away`
abbrev pub place_or_away_fault : CatalogueColumns → List (List ℕ) → Option TableLineFault
place_or_away_fault c cells =
    if is_blank_at cells c.place then Some fault.Place
    else if is_wrong_away cells c.away then Some fault.Away
    else None
