-- What commands over many files know of those that they have taken.
use Rattle.std.specs.Prelude.{ℕ, List}
use Rattle.std.specs.List.{All}
use Rattle.vic_survey.specs.Names.{IsName}
use Rattle.vic_operands.specs.Files.{File}
use Rattle.vic_operands.specs.Taken.{HasTaken, HasTakenToReconcile}
use Rattle.vic_operands.specs.declared.operands.Operands.{Operands}
use Rattle.vic_commands.specs.Collected.{AreFiles}
use Rattle.vic_commands.specs.Surveyed.{AreSurveyed}
use Rattle.vic_commands.specs.declared.collected.TakenForLines.{TakenForLines}
use Rattle.vic_commands.specs.declared.collected.TakenForObject.{TakenForObject}
use Rattle.vic_commands.specs.declared.collected.TakenForTable.{TakenForTable}
use Rattle.vic_commands.specs.declared.surveyed.TakenLogs.{TakenLogs}
use Rattle.vic_commands.specs.declared.surveyed.TakenLogs.TheVariants.{Surveyed, Unnamed}

-- `survey` has taken texts with these names
abbrev pub HasTakenLogs : List (List ℕ) → List (List ℕ) → TakenLogs → Type 0
HasTakenLogs names texts (Surveyed w) = AreSurveyed names texts w.text.items w.status
HasTakenLogs names texts Unnamed = All IsName names → ⊥

-- files with these names and texts were taken
abbrev pub HasTakenFiles : List (List ℕ) → List (List ℕ) → Operands → Type 0
HasTakenFiles names texts operands =
    (files : List File) × AreFiles names texts files × HasTaken files operands

-- by `collection`, and by `json-collection`
abbrev pub HasTakenForTable : List (List ℕ) → List (List ℕ) → TakenForTable → Type 0
HasTakenForTable names texts taken = HasTakenFiles names texts taken.operands

abbrev pub HasTakenForObject : List (List ℕ) → List (List ℕ) → TakenForObject → Type 0
HasTakenForObject names texts taken = HasTakenFiles names texts taken.operands

-- and by `reconcile`
abbrev pub HasTakenForLines : List (List ℕ) → List (List ℕ) → TakenForLines → Type 0
HasTakenForLines names texts taken =
    (files : List File) × AreFiles names texts files × HasTakenToReconcile files taken.operands
