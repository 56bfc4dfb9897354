-- How the cells of a result are written (profile).
use Rattle.std.specs.Prelude.{ℕ, ◌==◌, Bool, ◌||◌, not, if◌then◌else◌, List, [], ◌∷◌, ◌++◌, codes}
use Rattle.std.specs.List.{flat_map, list_any}
use Rattle.std.specs.Str.{bytes_eq}
use Rattle.vic_table.specs.Cells.{quote}
use Rattle.vic_table.specs.Contents.{trimmed}

abbrev pub has_special : ℕ → List ℕ → Bool
has_special separator cell = list_any (λ b. b == separator || b == quote) cell

-- the separator or a quote is in the cell, or a space or a tab at one of its ends
abbrev pub needs_quotes : ℕ → List ℕ → Bool
needs_quotes separator cell = has_special separator cell || not (bytes_eq (trimmed cell) cell)

-- each quote twice
abbrev pub doubled : List ℕ → List ℕ
doubled cell = flat_map (λ b. if b == quote then b ∷ b ∷ [] else b ∷ []) cell

-- a cell under a separator, between quotes where it needs them
abbrev pub cell_text : ℕ → List ℕ → List ℕ
cell_text separator cell =
    if needs_quotes separator cell then quote ∷ doubled cell ++ quote ∷ [] else cell

-- cells, each with a separator before it
abbrev pub cells_text : ℕ → List (List ℕ) → List ℕ
cells_text separator cells = flat_map (λ cell. separator ∷ cell_text separator cell) cells

-- names, with `; ` between them
abbrev pub names_text : List (List ℕ) → List ℕ
names_text [] = []
names_text (name ∷ names) = name ++ flat_map (λ other. codes "; " ++ other) names
