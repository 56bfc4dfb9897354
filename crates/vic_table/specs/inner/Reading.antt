-- A text read line by line.
use Rattle.std.specs.Prelude.{◌≡◌, ℕ, ◌<◌, ◌≤◌, ⊤, Some, None, List, ◌∷◌, length, drop, slice_range}
use Rattle.vic_log.specs.Lines.{cut, lines_of_text}
use Rattle.vic_table.specs.Lines.{end_of_first}
use Rattle.vic_table.specs.Table.{columns_named, fault_behind, IsFirstFault}
use Rattle.vic_table.specs.declared.columns.Columns.{Columns}
use Rattle.vic_table.specs.declared.lines.LineAt.{LineAt}
use Rattle.vic_table.specs.declared.fault.TableFault.{TableFault}
use Rattle.vic_table.specs.declared.fault.TableFault.TheVariants.{Line, Memory}

-- the line that begins at an offset of a text, and what follows it
pub record IsLineAt (text : List ℕ) (start : ℕ) (l : LineAt) : Type 0 where
  pub start_is : l.start ≡ start
  pub low : start ≤ l.end
  pub high : l.end ≤ l.next
  pub some : start < l.next
  pub bound : l.next ≤ length text
  pub lines : lines_of_text (drop start text)
      ≡ slice_range text l.start l.end ∷ lines_of_text (drop l.next text)
  pub end_is : end_of_first (cut (drop start text)) ≡ slice_range text l.end l.next

-- the first n lines have no fault, and these bytes are the others
pub record AreClean (lines : List (List ℕ)) (n : ℕ) (rest : List ℕ) : Type 0 where
  pub clean : (m : ℕ) → m < n → fault_behind lines m ≡ None
  pub read : n ≤ length lines
  pub rest_is : drop n lines ≡ lines_of_text rest

-- the first line has no fault and names these columns, and these bytes are the other lines
pub record FollowsFirst (lines : List (List ℕ)) (columns : Columns) (rest : List ℕ)
    : Type 0 where
  pub first : AreClean lines 1 rest
  pub columns_are : columns_named lines ≡ Some columns

-- why lines aren't read: their first fault, or refused memory
abbrev pub RefusesLines : List (List ℕ) → TableFault → Type 0
RefusesLines lines (Line number f) = IsFirstFault lines number f
RefusesLines lines Memory = ⊤
