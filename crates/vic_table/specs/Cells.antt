-- A line as cells: the fields of one record of CSV (RFC 4180), under a separator.
use Rattle.std.specs.Prelude.{ℕ, ◌==◌, if◌then◌else◌, Option, Some, None, List, [], ◌∷◌}
use Rattle.vic_log.specs.Lines.{onto}
use Rattle.vic_table.specs.declared.cells.Spot.{Spot}
use Rattle.vic_table.specs.declared.cells.Spot.TheVariants.{Begin, Plain, Quoted, Closed}

abbrev pub quote : ℕ
quote = 34

-- a byte in front of the first cell
abbrev pub with_byte : ℕ → Option (List (List ℕ)) → Option (List (List ℕ))
with_byte b None = None
with_byte b (Some cells) = Some (onto b cells)

-- an empty cell in front
abbrev pub with_cell : Option (List (List ℕ)) → Option (List (List ℕ))
with_cell None = None
with_cell (Some cells) = Some ([] ∷ cells)

-- the cells of the rest of a line, `None` if a quote is wrong in it. A quote opens only where a
-- cell begins; it is doubled within, and behind the closing one is a separator or the line's end
abbrev pub cells_from : ℕ → Spot → List ℕ → Option (List (List ℕ))
cells_from separator Begin [] = Some ([] ∷ [])
cells_from separator Plain [] = Some ([] ∷ [])
cells_from separator Quoted [] = None
cells_from separator Closed [] = Some ([] ∷ [])
cells_from separator Begin (b ∷ line) =
    if b == quote then cells_from separator Quoted line
    else if b == separator then with_cell (cells_from separator Begin line)
    else with_byte b (cells_from separator Plain line)
cells_from separator Plain (b ∷ line) =
    if b == quote then None
    else if b == separator then with_cell (cells_from separator Begin line)
    else with_byte b (cells_from separator Plain line)
cells_from separator Quoted (b ∷ line) =
    if b == quote then cells_from separator Closed line
    else with_byte b (cells_from separator Quoted line)
cells_from separator Closed (b ∷ line) =
    if b == quote then with_byte quote (cells_from separator Quoted line)
    else if b == separator then with_cell (cells_from separator Begin line)
    else None

-- the cells of a line under a separator, `None` if its quotes aren't right
abbrev pub cells_of : ℕ → List ℕ → Option (List (List ℕ))
cells_of separator line = cells_from separator Begin line
