-- Cells that are kept as bytes and spans of these.
use Rattle.std.specs.Prelude.{ℕ, ◌≤◌, Option, Some, None, List, [], ◌∷◌, ◌++◌, map, slice_range}
use Rattle.vic_table.specs.Cells.{with_byte, with_cell, cells_from}
use Rattle.vic_table.specs.declared.cells.Span.{Span}
use Rattle.vic_table.specs.declared.cells.Spot.TheVariants.{Begin}
use Rattle.vic_table.specs.declared.cells.Step.{Step}
use Rattle.vic_table.specs.declared.cells.Step.TheVariants.{Skips, Keeps, Ends, Wrong}

pub record IsWithin (len : ℕ) (s : Span) : Type 0 where
  pub low : s.start ≤ s.end
  pub high : s.end ≤ len

abbrev pub span_bytes : List ℕ → Span → List ℕ
span_bytes bytes s = slice_range bytes s.start s.end

abbrev pub span_cells : List ℕ → List Span → List (List ℕ)
span_cells bytes spans = map (span_bytes bytes) spans

-- bytes in front of the first cell
abbrev pub with_front : List ℕ → List (List ℕ) → List (List ℕ)
with_front front [] = front ∷ []
with_front front (cell ∷ cells) = (front ++ cell) ∷ cells

-- cells, and the bytes of one more so far, in front of what follows
abbrev pub joined : List (List ℕ) → List ℕ → Option (List (List ℕ)) → Option (List (List ℕ))
joined cells front None = None
joined cells front (Some more) = Some (cells ++ with_front front more)

-- the cells from a byte on, by what that byte does, and those behind it
abbrev pub after_step : ℕ → ℕ → Step → List ℕ → Option (List (List ℕ))
after_step separator b (Skips spot) line = cells_from separator spot line
after_step separator b (Keeps spot) line = with_byte b (cells_from separator spot line)
after_step separator b Ends line = with_cell (cells_from separator Begin line)
after_step separator b Wrong line = None
