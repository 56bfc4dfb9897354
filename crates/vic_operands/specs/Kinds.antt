-- What a file of a collection is, by its first bytes (profile).
use Rattle.std.specs.Prelude.{ℕ, ◌==◌, Bool, ◌||◌, if◌then◌else◌, List, codes, length, nat_eq}
use Rattle.std.specs.List.{starts_with}
use Rattle.vic_table.specs.Lines.{without_mark}
use Rattle.vic_operands.specs.declared.kind.Kind.{Kind}
use Rattle.vic_operands.specs.declared.kind.Kind.TheVariants.{Surveys, Log, Table}

-- the text begins with this word
abbrev pub begins : List ℕ → List ℕ → Bool
begins text word = starts_with nat_eq text word

-- a text of surveys; a log, also one behind the mark of UTF-8, or of no byte; or else a table
abbrev pub kind_of : List ℕ → Kind
kind_of text =
    if begins text (codes "vicinity-survey ") then Surveys
    else if length text == 0 || begins (without_mark text) (codes "vicinity-") then Log
    else Table

-- ---- for `reconcile`

-- the first operand is a list of what is expected, by how it begins; any other is of a collection
abbrev pub is_list : List ℕ → Bool
is_list text = length text == 0 || begins text (codes "vicinity-")

-- what a file behind a list is: a text of surveys, or else a log
abbrev pub kind_behind_list : List ℕ → Kind
kind_behind_list text = if begins text (codes "vicinity-survey ") then Surveys else Log
