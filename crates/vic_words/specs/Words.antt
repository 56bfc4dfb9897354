-- What the words of a command line ask for.
use Rattle.std.specs.Prelude.{◌≡◌, ◌<◌, ◌==◌, ℕ, Bool, false, List, [], ◌∷◌, length, map, Option, Some, None, codes, if◌then◌else◌, option_map, string_bytes}
use Rattle.std.specs.Str.{bytes_eq}
use Rattle.vic_answer.specs.declared.task.Task.TheVariants.{Check, Simulate, Explain, Report, Margin, Frame, Spell}
use Rattle.vic_words.specs.declared.asked.Asked.{Asked}
use Rattle.vic_words.specs.declared.asked.Asked.TheVariants.{Task as OneTask, Json, Files}
use Rattle.vic_words.specs.declared.asked.FilesCommand.{FilesCommand}
use Rattle.vic_words.specs.declared.asked.FilesCommand.TheVariants.{Reconcile, Survey, Collection, JsonCollection}

-- a word, or a name, as bytes
abbrev pub Text : Type 0
Text = List ℕ

-- the word ends the options
abbrev pub is_end_of_options : Text → Bool
is_end_of_options word = bytes_eq word (codes "--")

-- the word begins with `-` (45), and isn't `-` alone
abbrev pub is_option : Text → Bool
is_option [] = false
is_option (first ∷ []) = false
is_option (first ∷ second ∷ rest) = first == 45

abbrev pub after_operand : Text → Option (List Text) → Option (List Text)
after_operand word = option_map (λ words. word ∷ words)

-- the operands among the words after a command's name, if none of these is an option: the first
-- `--` is no operand, and after it no word is an option
abbrev pub operands_of : List Text → Option (List Text)
operands_of [] = Some []
operands_of (word ∷ words) =
    if is_end_of_options word then Some words
    else (if is_option word then None else after_operand word (operands_of words))

-- the words after `spell`, of which none is an option: a first `--` isn't one of them
abbrev pub spelled_words : List Text → List Text
spelled_words [] = []
spelled_words (word ∷ words) = if is_end_of_options word then words else word ∷ words

-- a command that takes one file or none
abbrev pub HasFile : List Text → Option Text → Type 0
HasFile words None = operands_of words ≡ Some []
HasFile words (Some file) = operands_of words ≡ Some (file ∷ [])

-- the name of a command that takes one file after the other
abbrev pub files_name : FilesCommand → Text
files_name Reconcile = codes "reconcile"
files_name Survey = codes "survey"
files_name Collection = codes "collection"
files_name JsonCollection = codes "json-collection"

-- a command's name, and the words after it, ask for this
abbrev pub NameAsks : Text → List Text → Asked → Type 0
NameAsks name words (OneTask (Check file)) =
    (name ≡ codes "check") × HasFile words (option_map string_bytes file)
NameAsks name words (OneTask (Simulate file)) =
    (name ≡ codes "simulate") × HasFile words (option_map string_bytes file)
NameAsks name words (OneTask (Explain file)) =
    (name ≡ codes "explain") × HasFile words (option_map string_bytes file)
NameAsks name words (OneTask (Report file)) =
    (name ≡ codes "report") × HasFile words (option_map string_bytes file)
NameAsks name words (OneTask (Margin file)) =
    (name ≡ codes "margin") × HasFile words (option_map string_bytes file)
NameAsks name words (OneTask (Frame hex)) =
    (name ≡ codes "frame") × (operands_of words ≡ Some (string_bytes hex ∷ []))
NameAsks name words (OneTask (Spell spelled)) =
    (name ≡ codes "spell") × (map string_bytes spelled.items ≡ spelled_words words)
    × (0 < length spelled.items)
NameAsks name words (Json file) =
    (name ≡ codes "json") × HasFile words (option_map string_bytes file)
NameAsks name words (Files command files) =
    (name ≡ files_name command) × (operands_of words ≡ Some (map string_bytes files.items))
    × (0 < length files.items)

-- the words of a command line, of which the first is the program's name, ask for this
abbrev pub Ask : List Text → Asked → Type 0
Ask [] asked = ⊥
Ask (program ∷ []) asked = ⊥
Ask (program ∷ name ∷ words) asked = NameAsks name words asked
