-- The grammar of the lines after the header (profile): which content spells which entry.
use Rattle.std.specs.Prelude.{◌≡◌, ◌≢◌, ◌⊎◌, ℕ, ◌+◌, ◌-◌, ◌/◌, ◌%◌, ◌≤◌, ⊤, List, [], ◌∷◌, codes, length}
use Rattle.std.specs.Int.{to_be_bytes, w64}
use Rattle.std.specs.Str.{byte}
use Rattle.vic_frame.specs.Uids.{IsUid}
use Rattle.vic_frame.specs.Requests.{SpellsRequest}
use Rattle.vic_frame.specs.Replies.{SpellsReply}
use Rattle.vic_log.specs.declared.entry.TheConstants.{MAX_LINE_LEN}
use Rattle.vic_log.specs.declared.entry.Entry.{Entry}
use Rattle.vic_log.specs.declared.entry.Entry.TheVariants.{Sent, Silent, Collision, Heard, Listed, Garbled, FieldCycle, Captured, Unknown}
use Rattle.vic_log.specs.declared.entry.Version.{Version}
use Rattle.vic_log.specs.declared.entry.Version.TheVariants.{V1, V3}

-- the hex digit of a value: 0 to 9, and A to F or a to f
abbrev pub IsDigitOf : ℕ → ℕ → Type 0
IsDigitOf digit value =
    ((value ≤ 9) × (digit ≡ byte "0" + value))
    ⊎ ((10 ≤ value) × (value ≤ 15)
    × ((digit ≡ byte "A" + (value - 10)) ⊎ (digit ≡ byte "a" + (value - 10))))

-- two hex digits for each byte, the high one first
abbrev pub AreDigitsOf : List ℕ → List ℕ → Type 0
AreDigitsOf [] [] = ⊤
AreDigitsOf (high ∷ low ∷ digits) (b ∷ bytes) =
    IsDigitOf high (b / 16) × IsDigitOf low (b % 16) × AreDigitsOf digits bytes
AreDigitsOf digits bytes = ⊥

-- a letter, a space, and these bytes in hex digits
abbrev pub HasBytes : List ℕ → ℕ → List ℕ → Type 0
HasBytes line letter bytes =
    (digits : List ℕ) × (line ≡ letter ∷ byte " " ∷ digits) × AreDigitsOf digits bytes

-- the content spells the entry in this version
abbrev pub SpellsEntry : Version → List ℕ → Entry → Type 0
SpellsEntry version line (Sent q) =
    (frame : List ℕ) × SpellsRequest frame q × HasBytes line (byte "T") frame
SpellsEntry version line Silent = line ≡ codes "S"
SpellsEntry version line Collision = line ≡ codes "C"
SpellsEntry version line (Heard r) =
    (frame : List ℕ) × SpellsReply frame r × HasBytes line (byte "R") frame
SpellsEntry version line (Listed u) = IsUid u × HasBytes line (byte "U") (to_be_bytes w64 u)
SpellsEntry version line Garbled = (version ≢ V1) × (line ≡ codes "D")
SpellsEntry version line FieldCycle = (version ≢ V1) × (line ≡ codes "F")
SpellsEntry version line (Captured r) =
    (version ≡ V3) × (frame : List ℕ) × SpellsReply frame r × HasBytes line (byte "H") frame
SpellsEntry version line Unknown = (version ≡ V3) × (line ≡ codes "N")

-- the line is ignored: its content is empty, or begins with #
abbrev pub IsPassedOver : List ℕ → Type 0
IsPassedOver line =
    (length line ≤ MAX_LINE_LEN)
    × ((line ≡ []) ⊎ ((rest : List ℕ) × (line ≡ byte "#" ∷ rest)))
