-- Lines of surveys have no LF, so lines that are joined can be told apart.
use Rattle.vic_survey.proofs.RunWords.{AllByRecursion, recursion_from_All, Bool, List, None, Option, Some, [], ap, arith, append_assoc, false, length, length-append, map, nat_eq, refl, suc, true, zero, ℕ, ◌++◌, ◌+◌, ◌-◌, ◌^◌, ◌/◌, ◌%◌, ◌<◌, ◌∙◌, ◌∷◌, ◌≡◌, ◌≤◌, nat_tests, codes, decimal, BitMask, ShownUid, hex_bytes, mask_text, uid_text, line_fault_name, found_text, certain_line, or_parts, IsShort, IsLineNumber, IsVisible, has, encode_upper, upper_digits, to_be_bytes, w64, drop, slice_index, value_text, byte_count, joined, SurveyValue, FieldFacts, open_line, facts_lines, field_lines, lines_before, seal, IsOneLine, IsFieldInRange, ne_eqb, lt-ltb, AreFactsInRange, IsSurvey, IfSome, LineFault, Frame, SurveyedField, Refused, Impossible, Possible, ◌==◌, if◌then◌else◌, IsUid}
use Rattle.hex.specs.Hex.{encode_with}
use Rattle.std.specs.Fmt.{digits, digits_onto, digit_glyph}
use Rattle.vic_frame.specs.Crc.{crc}
use Rattle.vic_log.specs.declared.fault.LineFault.TheVariants as fault
use Rattle.vic_frame.specs.declared.fault.FrameFault.TheVariants as frame
use Rattle.vic_survey.proofs.ValueLaws.{no_digit}

-- ---- parts of lines

has_both : (xs ys : List ℕ) (c : ℕ) → has xs c ≡ false → has ys c ≡ false → has (xs ++ ys) c ≡ false
has_both [] ys c h k = k
has_both (x ∷ xs) ys c h k = let p = or_parts (nat_eq c x) (has xs c) h in rw (p.0, has_both xs ys c p.1 k) refl

no_lf_decimal : (n : ℕ) → n < 2 ^ 64 → has (decimal n) 10 ≡ false
no_lf_decimal n h = no_digit 10 (λ d lt. grind (arith, nat_tests)) n h

none_at : (xs : List ℕ) (c k : ℕ) → nat_eq c 0 ≡ false → has xs c ≡ false → nat_eq c (slice_index xs k) ≡ false
none_at [] c k z h = z
none_at (x ∷ xs) c zero z h = (or_parts (nat_eq c x) (has xs c) h).0
none_at (x ∷ xs) c (suc k) z h = none_at xs c k z (or_parts (nat_eq c x) (has xs c) h).1

no_lf_hex : (bytes : List ℕ) → has (encode_upper bytes) 10 ≡ false
unfolding encode_with
no_lf_hex [] = refl
no_lf_hex (b ∷ bytes) = rw (none_at upper_digits 10 (b / 16) refl refl, none_at upper_digits 10 (b % 16) refl refl, no_lf_hex bytes) refl

no_lf_value : (len value : ℕ) → has (value_text (record { len = len; value = value })) 10 ≡ false
no_lf_value zero value = refl
no_lf_value (suc len) value =
    let some : (suc len == 0) ≡ false = ne_eqb (suc len) 0 (λ e. omega (arith, e)) in
    rw some (no_lf_hex (drop (8 - byte_count (suc len)) (to_be_bytes w64 value)))

no_lf_mask : (m : BitMask) → IsShort m → has (mask_text m) 10 ≡ false
no_lf_mask m h =
    has_both (decimal m.len ++ codes " ") (value_text m) 10
    (has_both (decimal m.len) (codes " ") 10 (no_lf_decimal m.len (omega (arith, h.0))) refl) (no_lf_value m.len m.value)

no_lf_found : (m : Option BitMask) → IfSome m IsShort → has (found_text m) 10 ≡ false
no_lf_found None h = refl
no_lf_found (Some m) h = no_lf_mask m h

not_ten : (b : ℕ) → 32 ≤ b → nat_eq 10 b ≡ false
not_ten b h = grind (arith, nat_tests)

no_lf_name : (name : List ℕ) → AllByRecursion IsVisible name → has name 10 ≡ false
no_lf_name [] h = refl
no_lf_name (b ∷ name) h = rw (not_ten b h.0.0, no_lf_name name h.1) refl

no_lf_fault : (f : LineFault) → has (line_fault_name f) 10 ≡ false
no_lf_fault fault.TooManyLines = refl
no_lf_fault fault.LineTooLong = refl
no_lf_fault fault.Header = refl
no_lf_fault fault.UnknownEntry = refl
no_lf_fault fault.Hex = refl
no_lf_fault fault.ListedLength = refl
no_lf_fault (Frame frame.Short) = refl
no_lf_fault (Frame frame.Crc) = refl
no_lf_fault (Frame frame.Extension) = refl
no_lf_fault (Frame frame.Reserved) = refl
no_lf_fault (Frame frame.OptionFlag) = refl
no_lf_fault (Frame frame.OtherCommand) = refl
no_lf_fault (Frame frame.InventoryFlag) = refl
no_lf_fault (Frame frame.Afi) = refl
no_lf_fault (Frame frame.Length) = refl
no_lf_fault (Frame frame.MaskTooLong) = refl
no_lf_fault (Frame frame.MaskPadding) = refl
no_lf_fault (Frame frame.SelectFlag) = refl
no_lf_fault (Frame frame.NotAddressed) = refl
no_lf_fault (Frame frame.ErrorFlag) = refl
no_lf_fault (Frame frame.NotVicinity) = refl
no_lf_fault fault.NotVicinity = refl
no_lf_fault fault.SlotOutsideRound = refl
no_lf_fault fault.EntryAfterList = refl
no_lf_fault fault.DuplicateListed = refl

-- ---- lines

pub both_single : (xs ys : List (List ℕ)) → AllByRecursion IsOneLine xs → AllByRecursion IsOneLine ys → AllByRecursion IsOneLine (xs ++ ys)
both_single [] ys h k = k
both_single (x ∷ xs) ys h k = (h.0, both_single xs ys h.1 k)

certain_single : (us : List ShownUid) → AllByRecursion (λ (s : ShownUid). IsUid s.uid × IsLineNumber s.line) us → AllByRecursion IsOneLine (map certain_line us)
certain_single [] h = tt
certain_single (s ∷ us) h =
    (has_both (uid_text s.uid ++ codes " by line ") (decimal s.line) 10 (has_both (uid_text s.uid) (codes " by line ") 10 (no_lf_hex (drop 0 (to_be_bytes w64 s.uid))) refl) (no_lf_decimal s.line (omega (arith, h.0.1.1))), certain_single us h.1)

open_single : (ms : List BitMask) → AllByRecursion IsShort ms → AllByRecursion IsOneLine (map open_line ms)
open_single [] h = tt
open_single (m ∷ ms) h = (no_lf_mask m h.0, open_single ms h.1)

facts_single : (s : FieldFacts) → AreFactsInRange s → AllByRecursion IsOneLine (facts_lines s)
facts_single s h = (
  no_lf_decimal s.answers (omega (arith, h.answers)),
  both_single (map certain_line s.certain ++ map open_line s.«open») _
      (both_single (map certain_line s.certain) (map open_line s.«open») (certain_single s.certain (recursion_from_All (λ (t : ShownUid). IsUid t.uid × IsLineNumber t.line) s.certain h.certain.uids)) (open_single s.«open» (recursion_from_All IsShort s.«open» h.masks.short)))
      (no_lf_decimal s.margin (omega (arith, h.margin)), (no_lf_mask s.weakest h.weakest, (no_lf_found s.hidden h.hidden, (no_lf_found s.deaf h.deaf, tt)))),
)

pub lines_single : (s : SurveyValue) → IsSurvey s → AllByRecursion IsOneLine (lines_before s)
lines_single s h = (no_lf_name s.name (recursion_from_All IsVisible s.name h.name.visible), field_single s.field h.field) where
  field_single : (f : SurveyedField) → IsFieldInRange f → AllByRecursion IsOneLine (field_lines f)
  field_single (Refused n f) k = (has_both (decimal n ++ codes ": ") (line_fault_name f) 10 (has_both (decimal n) (codes ": ") 10 (no_lf_decimal n (omega (arith, k.0.1))) refl) (no_lf_fault f), tt)
  field_single (Impossible n) k = (no_lf_decimal n (omega (arith, k.1)), tt)
  field_single (Possible t) k = (refl, facts_single t k)

-- the digits of any number
digits_single : (k n : ℕ) (acc : List ℕ) → has acc 10 ≡ false → has (digits_onto k 10 false n acc) 10 ≡ false
digits_single zero n acc h = h
digits_single (suc k) n acc h = by_test (n / 10 == 0) (digits_single k (n / 10) (digit_glyph false (n % 10) ∷ acc) more) where
  glyph : (d : ℕ) → d < 10 → nat_eq 10 (digit_glyph false d) ≡ false
  glyph d lt = rw (lt-ltb d 10 lt) (grind (arith, nat_tests))

  more : has (digit_glyph false (n % 10) ∷ acc) 10 ≡ false
  more = rw (glyph (n % 10) (omega arith), h) refl

  by_test : (b : Bool) → has (digits_onto k 10 false (n / 10) (digit_glyph false (n % 10) ∷ acc)) 10 ≡ false
      → has (if b then digit_glyph false (n % 10) ∷ acc else digits_onto k 10 false (n / 10) (digit_glyph false (n % 10) ∷ acc)) 10 ≡ false
  by_test true rest = more
  by_test false rest = rest

decimal_single : (n : ℕ) → has (decimal n) 10 ≡ false
unfolding digits
decimal_single n = digits_single 64 n [] refl

pub seal_single : (lines : List (List ℕ)) → has (seal lines) 10 ≡ false
seal_single lines = has_both (decimal (length lines + 1) ++ codes " ") (hex_bytes 2 (crc (joined lines))) 10
    (has_both (decimal (length lines + 1)) (codes " ") 10 (decimal_single (length lines + 1)) refl) (no_lf_hex (drop (8 - 2) (to_be_bytes w64 (crc (joined lines)))))

-- ---- lines that are joined

line_cancel : (a f xs ys : List ℕ) → has a 10 ≡ false → has f 10 ≡ false → a ++ 10 ∷ xs ≡ f ++ 10 ∷ ys → (a ≡ f) × (xs ≡ ys)
line_cancel [] [] xs ys h k e = (refl, cc e)
line_cancel [] (c ∷ f) xs ys h k e =
    let p = or_parts (nat_eq 10 c) (has f 10) k in
    let is : c ≡ 10 = cc e in
    absurd (cc (ap (nat_eq 10) is, p.0))
line_cancel (b ∷ a) [] xs ys h k e =
    let p = or_parts (nat_eq 10 b) (has a 10) h in
    let is : b ≡ 10 = cc e in
    absurd (cc (ap (nat_eq 10) is, p.0))
line_cancel (b ∷ a) (c ∷ f) xs ys h k e =
    let p = or_parts (nat_eq 10 b) (has a 10) h in
    let q = or_parts (nat_eq 10 c) (has f 10) k in
    let first : b ≡ c = cc e in
    let rest : a ++ 10 ∷ xs ≡ f ++ 10 ∷ ys = cc e in
    let r = line_cancel a f xs ys p.1 q.1 rest in
    (cc (first, r.0), r.1)

-- lines that begin as others do have these first
pub joined_front : (ls fs : List (List ℕ)) (rest : List ℕ) → AllByRecursion IsOneLine ls → AllByRecursion IsOneLine fs → joined ls ≡ joined fs ++ rest
    → (more : List (List ℕ)) × (ls ≡ fs ++ more) × (joined more ≡ rest) × AllByRecursion IsOneLine more
joined_front ls [] rest h k e = (ls, refl, e, h)
joined_front [] (f ∷ fs) rest h k e = absurd (omega (arith, ap length e, length-append (f ++ 10 ∷ joined fs) rest, length-append f (10 ∷ joined fs)))
joined_front (a ∷ ls) (f ∷ fs) rest h k e =
    let c = line_cancel a f (joined ls) (joined fs ++ rest) h.0 k.0 (e ∙ append_assoc f (10 ∷ joined fs) rest) in
    let r = joined_front ls fs rest h.1 k.1 c.1 in
    (r.0, cc (c.0, r.1), r.2, r.3)
