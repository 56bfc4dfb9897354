-- A text that is read in pieces: its lines so far were judged, and one more may have begun.
use Rattle.std.specs.Prelude.{◌≡◌, ◌⊎◌, ℕ, ◌+◌, ◌*◌, ◌-◌, ◌<◌, ◌≤◌, true, false, None, List, [], ◌∷◌, ◌++◌, length, map}
use Rattle.vic_frame.specs.Uids.{has}
use Rattle.vic_log.specs.declared.begun.TheConstants.{LINE_ROOM}
use Rattle.vic_log.specs.declared.feed.TheConstants.{MAX_TEXT_LEN}
use Rattle.vic_log.specs.declared.entry.TheConstants.{MAX_LINE_LEN, MAX_LINES}
use Rattle.vic_log.specs.declared.begun.Begun.{Begun}
use Rattle.vic_log.specs.Lines.{lf, cr, cut, ends_with, content}
use Rattle.vic_log.specs.Log.{LogValue}
use Rattle.vic_log.specs.Text.{version_of, log_upto, fault_on}

-- bytes without LF that may still be a line, with the CR of its end
abbrev pub IsShort : List ℕ → Type 0
IsShort line =
    (length line ≤ MAX_LINE_LEN)
    ⊎ ((length line ≡ MAX_LINE_LEN + 1) × (ends_with cr line ≡ true))

-- that many lines without a fault, and their log
pub record AreRead (lines : List (List ℕ)) (log : LogValue) (number : ℕ) : Type 0 where
  pub count : length lines ≡ number
  pub clean : (m : ℕ) → m ≤ number → fault_on lines m ≡ None
  pub log_is : log.lines ≡ log_upto lines number
  pub version : 0 < number → log.version ≡ version_of lines

-- the text is these parts, each with its LF, and bytes without one
pub record IsCut (text : List ℕ) (parts : List (List ℕ)) (rest : List ℕ) : Type 0 where
  pub cuts : (more : List ℕ) → cut (text ++ more) ≡ parts ++ cut (rest ++ more)
  pub no_lf : has rest lf ≡ false

-- the text is that many lines without a fault, whose log this is, and bytes of one more
pub record HasCut (text : List ℕ) (log : LogValue) (number : ℕ) (line : List ℕ) : Type 0 where
  pub parts : List (List ℕ)
  pub is_cut : IsCut text parts line
  pub read : AreRead (map content parts) log number

-- the same, where the line begun isn't too long yet, nor one too many
pub record HasJudged (text : List ℕ) (log : LogValue) (number : ℕ) (line : List ℕ)
    : Type 0 where
  pub begun : HasCut text log number line
  pub limit : number ≤ MAX_LINES
  pub short : IsShort line
  pub last : number ≡ MAX_LINES → line ≡ []

-- at most this many bytes can follow before a line is too long or one too many
abbrev pub spare : ℕ → List ℕ → ℕ
spare number line = LINE_ROOM * (MAX_LINES - number) - length line

-- the same about what a reader keeps
abbrev pub HasTaken : List ℕ → Begun → Type 0
HasTaken text b = HasJudged text b.read.log b.read.number b.line.items

abbrev pub spare_of : Begun → ℕ
spare_of b = spare b.read.number b.line.items

-- a reader that was fed this text, which is within the limit, even with all that can still follow
abbrev pub IsFed : List ℕ → Begun → Type 0
IsFed text b = HasTaken text b × (length text + spare_of b ≤ MAX_TEXT_LEN)

-- a line without its LF, and what follows that LF
pub record IsSplit (bytes line rest : List ℕ) : Type 0 where
  pub whole : bytes ≡ line ++ lf ∷ rest
  pub no_lf : has line lf ≡ false
