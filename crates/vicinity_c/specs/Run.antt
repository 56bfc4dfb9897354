-- What a command of the program writes for texts, in a caller's buffer.
use Rattle.std.specs.Prelude.{◌≡◌, ◌≢◌, ℕ, ◌==◌, if◌then◌else◌, Option, Some, None, List, [], ◌∷◌, ◌++◌, codes, length, map}
use Rattle.std.specs.List.{All, flat_map}
use Rattle.std.specs.Str.{IsUtf8}
use Rattle.vic_log.specs.Lines.{lf}
use Rattle.vic_numbers.specs.Buffers.{IsReturned}
use Rattle.vic_answer.specs.Status.{status_code}
use Rattle.vic_answer.specs.declared.status.Status.{Status}
use Rattle.vic_commands.specs.Commands.{IsOutputBy, Writes}
use Rattle.vic_commands.specs.declared.commands.Command.{Command}
use Rattle.vic_commands.specs.declared.commands.Output.{Output}
use Rattle.vic_commands.specs.declared.commands.Command.TheVariants.{Check, Explain, Report, Margin, Simulate, Reconcile, Frame, Spell, Survey, Collection, Json, JsonCollection}

-- the command that has a number
abbrev pub command_of : ℕ → Option Command
command_of n =
    if n == 1 then Some Check else if n == 2 then Some Explain
    else if n == 3 then Some Report else if n == 4 then Some Margin
    else if n == 5 then Some Simulate else if n == 6 then Some Reconcile
    else if n == 7 then Some Frame else if n == 8 then Some Spell
    else if n == 9 then Some Survey else if n == 10 then Some Collection
    else if n == 11 then Some Json else if n == 12 then Some JsonCollection else None

-- these bytes are lines: one for each name, which is UTF-8 and has no LF, with LF after it
pub record AreNames (bytes : List ℕ) (names : List (List ℕ)) : Type 0 where
  pub lines : bytes ≡ flat_map (λ name. name ++ lf ∷ []) names
  pub utf8 : All IsUtf8 names
  pub single : All (λ name. All (λ byte. byte ≢ lf) name) names

-- these bytes are texts of these lengths, one behind the other
pub record AreTexts (bytes : List ℕ) (lengths : List ℕ) (texts : List (List ℕ)) : Type 0 where
  pub joined : bytes ≡ flat_map (λ text. text) texts
  pub measured : map length texts ≡ lengths

-- what a caller hands over: texts, and a name for each
pub record AreGiven (name_bytes text_bytes lengths : List ℕ) (names texts : List (List ℕ))
    : Type 0 where
  pub are_names : AreNames name_bytes names
  pub are_texts : AreTexts text_bytes lengths texts
  pub as_many : length names ≡ length texts

-- this command has the number, and it is given these texts with these names
pub record IsAsked (number : ℕ) (name_bytes text_bytes lengths : List ℕ) (command : Command)
    (names texts : List (List ℕ)) : Type 0 where
  pub named : command_of number ≡ Some command
  pub given : AreGiven name_bytes text_bytes lengths names texts

-- no command has the number, or the names or the lengths don't fit
abbrev pub AsksNothing : (number : ℕ) (name_bytes text_bytes lengths : List ℕ) → Type 0
AsksNothing number name_bytes text_bytes lengths =
    (command : Command) (names texts : List (List ℕ))
    → IsAsked number name_bytes text_bytes lengths command names texts → ⊥

-- `code` is the status of what the command writes for what is given; the text that it writes has
-- `count` bytes, and is returned in the buffer
pub record IsRunInto (number : ℕ) (name_bytes text_bytes lengths : List ℕ) (code count : ℕ)
    (room room' : List ℕ) : Type 0 where
  pub command : Command
  pub names : List (List ℕ)
  pub texts : List (List ℕ)
  pub asked : IsAsked number name_bytes text_bytes lengths command names texts
  pub answer : List ℕ
  pub status : Status
  pub right : Writes command names texts answer status
  pub code_is : code ≡ status_code status
  pub returned : IsReturned answer room room' count

-- the line that the program writes to standard error where words are no command with its operands
abbrev pub usage_line : List ℕ
usage_line = codes "vicinity: usage\n"

-- the command writes nothing for what is given, since it doesn't take that; the line of a usage
-- error has `count` bytes, and is returned in the buffer
pub record IsUsageInto (number : ℕ) (name_bytes text_bytes lengths : List ℕ) (count : ℕ)
    (room room' : List ℕ) : Type 0 where
  pub command : Command
  pub names : List (List ℕ)
  pub texts : List (List ℕ)
  pub asked : IsAsked number name_bytes text_bytes lengths command names texts
  pub nothing : (answer : List ℕ) (status : Status) → Writes command names texts answer status → ⊥
  pub returned : IsReturned usage_line room room' count

-- `output` is what the command writes for what is given, or that it doesn't take that
pub record IsOutputFor (number : ℕ) (name_bytes text_bytes lengths : List ℕ) (output : Output)
    : Type 0 where
  pub command : Command
  pub names : List (List ℕ)
  pub texts : List (List ℕ)
  pub asked : IsAsked number name_bytes text_bytes lengths command names texts
  pub right : IsOutputBy (Writes command names texts) output
