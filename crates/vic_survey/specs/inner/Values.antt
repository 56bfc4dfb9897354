-- The values in the lines of surveys, as they are read: each is spelled again, and compared.
use Rattle.std.specs.Prelude.{ℕ, ◌^◌, ◌==◌, ◌&&◌, Bool, not, Option, Some, None, List, [], ◌∷◌, length, take, drop, bytes_eq, nat_le, nat_lt, codes, if◌then◌else◌}
use Rattle.std.specs.List.{list_all}
use Rattle.std.specs.Str.{byte, is_utf8}
use Rattle.vic_frame.specs.declared.uid.TheConstants.{UID_BITS}
use Rattle.vic_frame.specs.Masks.{BitMask}
use Rattle.vic_frame.specs.Uids.{is_uid}
use Rattle.vic_log.specs.Names.{line_fault_name}
use Rattle.vic_log.specs.declared.fault.LineFault.{LineFault}
use Rattle.vic_report.specs.declared.shown.ShownUid.{ShownUid}
use Rattle.vic_text.specs.Values.{hex_number_in, number_in, value_in}
use Rattle.vic_survey.specs.declared.fault_names.TheConstants.{FAULTS}
use Rattle.vic_survey.specs.declared.name.TheConstants.{MAX_NAME_LEN}
use Rattle.vic_survey.specs.declared.rising.TheConstants.{MAX_LINE_NUMBER}
use Rattle.vic_survey.specs.declared.survey.SurveyedField.{SurveyedField}
use Rattle.vic_survey.specs.declared.survey.SurveyedField.TheVariants.{Refused}

-- the second reading, if there is a first
abbrev pub and_then : {A B : Type 0} → Option A → (A → Option B) → Option B
and_then None f = None
and_then (Some x) f = f x

-- the first reading, else the second
abbrev pub or_else : {A : Type 0} → Option A → Option A → Option A
or_else None other = other
or_else (Some x) other = Some x

-- what follows words at the start of a line
abbrev pub after : List ℕ → List ℕ → Option (List ℕ)
after words line =
    if bytes_eq (take (length words) line) words then Some (drop (length words) line) else None

-- what stands before the first such byte, and behind it
abbrev pub parted : ℕ → List ℕ → Option (List ℕ × List ℕ)
parted c [] = None
parted c (b ∷ bs) =
    if b == c then Some ([], bs) else and_then (parted c bs) (λ p. Some (b ∷ p.0, p.1))

-- the number, up to a greatest one, that digits spell in decimal
abbrev pub number_up_to : ℕ → List ℕ → Option ℕ
number_up_to most w = and_then (number_in w) (λ n. if nat_le n most then Some n else None)

abbrev pub line_number_in : List ℕ → Option ℕ
line_number_in w =
    and_then (number_up_to MAX_LINE_NUMBER w) (λ n. if nat_lt 0 n then Some n else None)

abbrev pub uid_in : List ℕ → Option ℕ
uid_in w = and_then (hex_number_in 8 w) (λ u. if is_uid u then Some u else None)

-- a mask of so many bits
abbrev pub mask_of : ℕ → List ℕ → Option BitMask
mask_of len w = and_then (value_in len w)
    (λ value. if nat_lt value (2 ^ len) then Some (record { len = len; value = value }) else None)

-- a mask of at most 56 bits
abbrev pub mask_in : List ℕ → Option BitMask
mask_in w = and_then (parted (byte " ") w)
    (λ p. and_then (number_up_to UID_BITS p.0) (λ len. mask_of len p.1))

-- a mask, or `-`
abbrev pub found_in : List ℕ → Option (Option BitMask)
found_in w =
    if bytes_eq w (codes "-") then Some None else and_then (mask_in w) (λ m. Some (Some m))

-- a UID, and the line that shows it
abbrev pub certain_in : List ℕ → Option ShownUid
certain_in w =
    if nat_lt (length w) 16 then None
    else and_then (uid_in (take 16 w)) (λ u. and_then (after (codes " by line ") (drop 16 w))
    (λ digits. and_then (line_number_in digits) (λ n. Some (record { uid = u; line = n }))))

-- the first of some faults with this name
abbrev pub fault_among : List LineFault → List ℕ → Option LineFault
fault_among [] name = None
fault_among (f ∷ fs) name =
    if bytes_eq (line_fault_name f) name then Some f else fault_among fs name

-- why a text has no log, after the words
abbrev pub refused_in : List ℕ → Option SurveyedField
refused_in w = and_then (parted (byte ":") w) (λ p. and_then (line_number_in p.0) (λ n.
    and_then (after (codes " ") p.1) (λ name. and_then (fault_among FAULTS name)
    (λ f. Some (Refused n f)))))

abbrev pub is_visible : ℕ → Bool
is_visible b = nat_le 0x20 b && not (b == 0x7F)

abbrev pub is_name : List ℕ → Bool
is_name name =
    (nat_lt 0 (length name) && nat_le (length name) MAX_NAME_LEN)
    && (is_utf8 name && list_all is_visible name)

-- the name of a survey, from its first line
abbrev pub name_in : List ℕ → Option (List ℕ)
name_in line = and_then (after (codes "vicinity-survey 1 ") line)
    (λ name. if is_name name then Some name else None)
