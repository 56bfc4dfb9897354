-- What is asked for, by what clap found among the words.
use Rattle.std.specs.List.{insert}
use Rattle.std.specs.Prelude.{◌&&◌, not, ◌≡◌, Bool, false, List, [], ◌∷◌, map, Option, Some, None, codes, if◌then◌else◌, option_map, unwrap_or, string_bytes}
use Rattle.std.specs.Str.{bytes_eq}
use Rattle.clap.specs.Words.{Row, all_of, first_of}
use Rattle.vic_answer.specs.declared.task.Task.{Task}
use Rattle.vic_answer.specs.declared.task.Task.TheVariants.{Check, Simulate, Explain, Report, Margin, Frame, Spell}
use Rattle.vic_words.specs.Words.{Text, files_name, is_end_of_options}
use Rattle.vic_words.specs.declared.asked.Asked.{Asked}
use Rattle.vic_words.specs.declared.asked.Asked.TheVariants.{Task as OneTask, Json, Files}

-- the words begin with `--`
abbrev pub begins_with_end_of_options : List Text → Bool
begins_with_end_of_options [] = false
begins_with_end_of_options (word ∷ words) = is_end_of_options word

-- the words are of `spell`, and no `--` stands before the first
abbrev pub lacks_end_of_options : List Text → Bool
lacks_end_of_options [] = false
lacks_end_of_options (program ∷ []) = false
lacks_end_of_options (program ∷ name ∷ words) =
    bytes_eq name (codes "spell") && not (begins_with_end_of_options words)

-- the words as clap is given them: with `--` before those of `spell`
abbrev pub clap_words : List Text → List Text
clap_words words = if lacks_end_of_options words then insert words 2 (codes "--") else words

-- a command's name, and the file that was found, ask for this task
abbrev pub FileAsks : Text → Option Text → Task → Type 0
FileAsks name found (Check file) =
    (name ≡ codes "check") × (found ≡ option_map string_bytes file)
FileAsks name found (Simulate file) =
    (name ≡ codes "simulate") × (found ≡ option_map string_bytes file)
FileAsks name found (Explain file) =
    (name ≡ codes "explain") × (found ≡ option_map string_bytes file)
FileAsks name found (Report file) =
    (name ≡ codes "report") × (found ≡ option_map string_bytes file)
FileAsks name found (Margin file) =
    (name ≡ codes "margin") × (found ≡ option_map string_bytes file)
FileAsks name found task = ⊥

abbrev pub words_found : List Row → List Text
words_found rows = unwrap_or (all_of (codes "words") rows) []

-- a command's name, and the rows of what was found after it, ask for this task
abbrev pub TaskAsks : Text → List Row → Task → Type 0
TaskAsks name rows (Frame hex) =
    (name ≡ codes "frame") × (first_of (codes "hex") rows ≡ Some (string_bytes hex))
TaskAsks name rows (Spell spelled) =
    (name ≡ codes "spell") × (map string_bytes spelled.items ≡ words_found rows)
TaskAsks name rows task = FileAsks name (first_of (codes "file") rows) task

abbrev pub RowsAsk : Text → List Row → Asked → Type 0
RowsAsk name rows (OneTask task) = TaskAsks name rows task
RowsAsk name rows (Json file) =
    (name ≡ codes "json") × (first_of (codes "file") rows ≡ option_map string_bytes file)
RowsAsk name rows (Files command files) =
    (name ≡ files_name command) × (map string_bytes files.items ≡ words_found rows)

-- the subcommand that was found asks for this
abbrev pub SubcommandAsks : Option (Text × List Row) → Asked → Type 0
SubcommandAsks None asked = ⊥
SubcommandAsks (Some found) asked = RowsAsk found.0 found.1 asked
