-- How values are written in JSON (RFC 8259): on one line, without spaces but in strings.
use Rattle.std.specs.Prelude.{ℕ, ◌==◌, Option, Some, None, Bool, List, [], ◌∷◌, ◌++◌, codes, decimal, nat_lt, if◌then◌else◌}
use Rattle.std.specs.List.{flat_map}
use Rattle.vic_frame.specs.Masks.{BitMask}
use Rattle.vic_text.specs.Digits.{hex_bytes, uid_text, value_text}

-- a byte of a string: a quote and a backslash behind a backslash, a byte below 20 hex as `\u00` and
-- its digits
abbrev pub json_byte : ℕ → List ℕ
json_byte b =
    if b == 34 then codes "\\\"" else if b == 92 then codes "\\\\"
    else if nat_lt b 32 then codes "\\u00" ++ hex_bytes 1 b else b ∷ []

-- a string with these bytes, which are UTF-8
abbrev pub json_string : List ℕ → List ℕ
json_string bytes = codes "\"" ++ flat_map json_byte bytes ++ codes "\""

-- a UID is a string
abbrev pub json_uid : ℕ → List ℕ
json_uid u = codes "\"" ++ uid_text u ++ codes "\""

-- a mask is an object: the members of its length and its value
abbrev pub mask_members : BitMask → List ℕ
mask_members m =
    codes "\"mask_len\":" ++ decimal m.len ++ codes ",\"mask_value\":\"" ++ value_text m
    ++ codes "\""

abbrev pub json_mask : BitMask → List ℕ
json_mask m = codes "{" ++ mask_members m ++ codes "}"

abbrev pub json_bool : Bool → List ℕ
json_bool b = if b then codes "true" else codes "false"

-- a value, `null` where there is none
abbrev pub json_option : {A : Type 0} → (A → List ℕ) → Option A → List ℕ
json_option json_of None = codes "null"
json_option json_of (Some x) = json_of x

-- values with a comma between any two
abbrev pub comma_joined : List (List ℕ) → List ℕ
comma_joined [] = []
comma_joined (value ∷ values) = value ++ flat_map (λ v. codes "," ++ v) values

-- a list of values
abbrev pub json_list : List (List ℕ) → List ℕ
json_list values = codes "[" ++ comma_joined values ++ codes "]"
