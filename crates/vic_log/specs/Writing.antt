-- The text of a log.
use Rattle.std.specs.Prelude.{ℕ, suc, List, [], ◌∷◌, ◌++◌, map, codes}
use Rattle.std.specs.Int.{to_be_bytes, w64}
use Rattle.hex.specs.Hex.{encode_upper}
use Rattle.vic_frame.specs.Requests.{request_spelling}
use Rattle.vic_frame.specs.Replies.{reply_spelling}
use Rattle.vic_log.specs.declared.entry.Entry.{Entry}
use Rattle.vic_log.specs.declared.entry.Entry.TheVariants.{Sent, Silent, Collision, Heard, Listed, Garbled, FieldCycle, Captured, Unknown}
use Rattle.vic_log.specs.declared.entry.LogLine.{LogLine}
use Rattle.vic_log.specs.Lines.{lf}
use Rattle.vic_log.specs.Log.{LogValue}
use Rattle.vic_log.specs.Order.{entries}
use Rattle.vic_log.specs.Text.{header}

-- an entry's line, with upper-case digits
abbrev pub entry_text : Entry → List ℕ
entry_text (Sent q) = codes "T " ++ encode_upper (request_spelling q)
entry_text Silent = codes "S"
entry_text Collision = codes "C"
entry_text (Heard r) = codes "R " ++ encode_upper (reply_spelling r)
entry_text (Listed u) = codes "U " ++ encode_upper (to_be_bytes w64 u)
entry_text Garbled = codes "D"
entry_text FieldCycle = codes "F"
entry_text (Captured r) = codes "H " ++ encode_upper (reply_spelling r)
entry_text Unknown = codes "N"

-- each line with LF after it
abbrev pub joined : List (List ℕ) → List ℕ
joined [] = []
joined (line ∷ lines) = line ++ lf ∷ joined lines

-- the text of the lines after the header
abbrev pub lines_text : List LogLine → List ℕ
lines_text lines = joined (map entry_text (entries lines))

-- the text of UIDs, each on a line as a log lists it
abbrev pub listed_text : List ℕ → List ℕ
listed_text us = joined (map (λ u. entry_text (Listed u)) us)

-- the text of a log
abbrev pub text_of : LogValue → List ℕ
text_of log = header log.version ++ lf ∷ lines_text log.lines

-- entries on lines numbered from n on
abbrev pub numbered : ℕ → List Entry → List LogLine
numbered n [] = []
numbered n (e ∷ es) = record { number = n; item = e } ∷ numbered (suc n) es

-- a log with its entries on the lines 2, 3, 4 and so on
abbrev pub renumbered : LogValue → LogValue
renumbered log = record { lines = numbered 2 (entries log.lines); version = log.version }
