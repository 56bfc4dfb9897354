-- A line reads as an entry if and only if it spells it.
use Rattle.vic_log.proofs.Words.{◌≡◌, inl, ℕ, ◌+◌, ◌*◌, ◌/◌, ◌%◌, ◌<◌, ◌≤◌, true, false, Option, Some, None, Result, Ok, Err, List, [], ◌∷◌, length, refl, ap, subst, ◌∙◌, arith, nat_lt, ◌==◌, ◌||◌, if◌then◌else◌, IfOk, nat_tests, cond_both, eqb-true, hex_digit_value, IsUid, Entry, Sent, Silent, Collision, Heard, Listed, Garbled, FieldCycle, Captured, Unknown, Version, V1, V2, V3, LineFault, line_reading, to_be_bytes, w64, be_bytes_8, from_be_bytes-to_be_bytes_8, decode_of, digit_or_error, ◌>>=◌, FromHexError, decode_of-even, decode_pairs-ok, cons_byte, decode_pairs-ok_pair, AreBytes, SpellsRequest, request_reading, reply_reading, Request, FrameFault, request_found, request_only, reply_found, reply_only, ⊤, IsDigitOf, AreDigitsOf, HasBytes, SpellsEntry, IsPassedOver}
use Rattle.hex.specs.Hex.{decode_pairs}
use Rattle.vic_log.specs.LineReading.{one_letter, with_digits, added_digits, with_bytes, sent, heard, captured, listed_uid}
use Rattle.vic_log.proofs.Supply.{IsUid-from, is_uid_from}
use Rattle.vic_log.proofs.HexPairs.{both}
use Rattle.vic_log.proofs.FrameBytes.{length-request, length-reply}

-- ---- hex digits

value-digit : (c v : ℕ) → hex_digit_value c ≡ Some v → IsDigitOf c v
value-digit c v h = grind (arith, nat_tests)

digit-value : (c v : ℕ) → IsDigitOf c v → hex_digit_value c ≡ Some v
digit-value c v d = grind (arith, nat_tests)

small : (c v : ℕ) → IsDigitOf c v → v < 16
small c v d = grind arith

-- ---- digits of bytes

pair_parts : (a b i : ℕ) (o p : Option ℕ) (r : Result (List ℕ) FromHexError) (bytes : List ℕ)
    → ((digit_or_error a i o >>= (λ x. digit_or_error b (i + 1) p >>= (λ y. Ok (x * 16 + y)))) >>= (λ v. r >>= (λ vs. Ok (v ∷ vs)))) ≡ Ok bytes
    → (x y : ℕ) × (vs : List ℕ) × (o ≡ Some x) × (p ≡ Some y) × (r ≡ Ok vs) × (bytes ≡ (x * 16 + y) ∷ vs)
pair_parts a b i o p r bytes h = grind (arith, nat_tests)

decoded : (i : ℕ) (digits bytes : List ℕ) → decode_pairs i digits ≡ Ok bytes → AreDigitsOf digits bytes
unfolding decode_pairs
decoded i [] bytes h = let none : [] ≡ bytes = cc in subst (AreDigitsOf []) none tt
decoded i (d ∷ []) bytes h = cc
decoded i (a ∷ b ∷ rest) bytes h =
    let w = pair_parts a b i (hex_digit_value a) (hex_digit_value b) (decode_pairs (i + 2) rest) bytes h in
    let fits = small b w.1 (value-digit b w.1 w.4) in
    let upper : (w.0 * 16 + w.1) / 16 ≡ w.0 = omega arith in
    let lower : (w.0 * 16 + w.1) % 16 ≡ w.1 = omega arith in
    rw (w.6, upper, lower) (value-digit a w.0 w.3, value-digit b w.1 w.4, decoded (i + 2) rest w.2 w.5)

decodes : (i : ℕ) (digits bytes : List ℕ) → AreDigitsOf digits bytes → decode_pairs i digits ≡ Ok bytes
unfolding decode_pairs
decodes i [] [] h = refl
decodes i [] (v ∷ bytes) h = absurd h
decodes i (d ∷ []) bytes h = absurd h
decodes i (a ∷ b ∷ rest) [] h = absurd h
decodes i (a ∷ b ∷ rest) (v ∷ bytes) h =
    let whole : v / 16 * 16 + v % 16 ≡ v = omega arith in
    decode_pairs-ok_pair i a b v rest (both a b i (v / 16) (v % 16) (hex_digit_value a) (hex_digit_value b) (digit-value a (v / 16) h.0) (digit-value b (v % 16) h.1) ∙ ap Ok whole)
    ∙ ap (cons_byte v) (decodes (i + 2) rest bytes h.2)

twice : (digits bytes : List ℕ) → AreDigitsOf digits bytes → length digits ≡ 2 * length bytes
twice digits bytes h = (decode_pairs-ok 0 digits bytes (decodes 0 digits bytes h)).1

are_bytes : (digits bytes : List ℕ) → AreDigitsOf digits bytes → AreBytes bytes
are_bytes digits bytes h = (decode_pairs-ok 0 digits bytes (decodes 0 digits bytes h)).2

pub digits-of : (digits bytes : List ℕ) → decode_of digits ≡ Ok bytes → AreDigitsOf digits bytes
digits-of digits bytes = grind (arith, nat_tests, cond_both, decoded)

of_digits : (digits bytes : List ℕ) → AreDigitsOf digits bytes → decode_of digits ≡ Ok bytes
of_digits digits bytes h = let e = twice digits bytes h in decode_of-even digits (omega arith) ∙ decodes 0 digits bytes h

-- ---- what a line reads as is true of it

abbrev Says : Version → List ℕ → Result (Option Entry) LineFault → Type 0
Says v line (Ok (Some e)) = SpellsEntry v line e
Says v line (Ok None) = IsPassedOver line
Says v line (Err f) = ⊤

sent-says : (v : Version) (line frame : List ℕ) → HasBytes line 84 frame → (r : Result Request FrameFault) → IfOk r (λ q. SpellsRequest frame q) → Says v line (sent r)
sent-says v line frame h r k = grind (arith, nat_tests)

heard-says : (v : Version) (line frame : List ℕ) → HasBytes line 82 frame → Says v line (heard (reply_reading frame))
heard-says v line frame h = grind (arith, nat_tests, reply_found, are_bytes)

captured-says : (line frame : List ℕ) → HasBytes line 72 frame → Says V3 line (captured (reply_reading frame))
captured-says line frame h = grind (arith, nat_tests, reply_found, are_bytes)

listed-says : (v : Version) (line bytes : List ℕ) → HasBytes line 85 bytes → Says v line (listed_uid bytes)
listed-says v line bytes has = grind (arith, nat_tests, cond_both, IsUid-from, be_bytes_8, eqb-true, are_bytes)

has_bytes : (x letter : ℕ) (digits bytes : List ℕ) → x == letter ≡ true → decode_of digits ≡ Ok bytes → HasBytes (x ∷ 32 ∷ digits) letter bytes
has_bytes x letter digits bytes e h = (digits, ap (λ l. l ∷ 32 ∷ digits) (eqb-true x letter e), digits-of digits bytes h)

-- one of the letters before digits, or another
letter-says : (v : Version) (x letter : ℕ) (digits : List ℕ) (f : List ℕ → Result (Option Entry) LineFault) (other : Result (Option Entry) LineFault)
    → ((bytes : List ℕ) → HasBytes (x ∷ 32 ∷ digits) letter bytes → Says v (x ∷ 32 ∷ digits) (f bytes)) → Says v (x ∷ 32 ∷ digits) other
    → Says v (x ∷ 32 ∷ digits) (if x == letter then with_bytes f (decode_of digits) else other)
letter-says v x letter digits f other h k = grind (arith, nat_tests, has_bytes)

added-say : (v : Version) (x : ℕ) (digits : List ℕ) → Says v (x ∷ 32 ∷ digits) (added_digits v x digits)
added-say V1 x digits = tt
added-say V2 x digits = tt
added-say V3 x digits = letter-says V3 x 72 digits _ _ (captured-says _) tt

digits-say : (v : Version) (x : ℕ) (digits : List ℕ) → Says v (x ∷ 32 ∷ digits) (with_digits v x digits)
digits-say v x digits =
    letter-says v x 84 digits _ _ (λ frame h. sent-says v _ frame h (request_reading frame) (request_found frame (are_bytes h.0 frame h.2)))
    (letter-says v x 82 digits _ _ (heard-says v _) (letter-says v x 85 digits _ _ (listed-says v _) (added-say v x digits)))

-- more than a letter
longer-says : (v : Version) (x y : ℕ) (digits : List ℕ) (lone spaced : Result (Option Entry) LineFault) (long unknown : LineFault) → (y ≡ 32 → Says v (x ∷ y ∷ digits) spaced)
    → Says v (x ∷ y ∷ digits) (if nat_lt 128 (length (x ∷ y ∷ digits)) then Err long
    else if length (x ∷ y ∷ digits) == 0 || x == 35 then Ok None else if length (x ∷ y ∷ digits) == 1 then lone else if y == 32 then spaced else Err unknown)
longer-says v x y digits lone spaced long unknown h = grind (arith, nat_tests)

line-says : (v : Version) (line : List ℕ) → Says v line (line_reading v line)
line-says v [] = (omega arith, inl refl)
line-says V1 (x ∷ []) = grind (arith, nat_tests)
line-says V2 (x ∷ []) = grind (arith, nat_tests)
line-says V3 (x ∷ []) = grind (arith, nat_tests)
line-says v (x ∷ y ∷ digits) = longer-says v x y digits (one_letter v x) (with_digits v x digits) _ _ (λ space. rw space (digits-say v x digits))

pub reads-spelled : (v : Version) (line : List ℕ) (e : Entry) → line_reading v line ≡ Ok (Some e) → SpellsEntry v line e
reads-spelled v line e h = subst (Says v line) h (line-says v line)

pub reads-passed : (v : Version) (line : List ℕ) → line_reading v line ≡ Ok None → IsPassedOver line
reads-passed v line h = subst (Says v line) h (line-says v line)

-- ---- a spelled entry is read

lettered : (v : Version) (letter : ℕ) (digits : List ℕ) → letter == 35 ≡ false → length digits ≤ 126 → line_reading v (letter ∷ 32 ∷ digits) ≡ with_digits v letter digits
lettered v letter digits other few = grind (arith, nat_tests)

listed_reads : (u : ℕ) → IsUid u → listed_uid (to_be_bytes w64 u) ≡ Ok (Some (Listed u))
listed_reads u h = let below = h.1 in rw (from_be_bytes-to_be_bytes_8 u (omega arith), is_uid_from u h)

-- a letter, a space and digits
spaced : (v : Version) (letter : ℕ) (line bytes : List ℕ) (f : List ℕ → Result (Option Entry) LineFault) → letter == 35 ≡ false → ((digits : List ℕ) → with_digits v letter digits ≡ with_bytes f (decode_of digits)) → length bytes ≤ 63
    → HasBytes line letter bytes → line_reading v line ≡ f bytes
spaced v letter line bytes f h k g p = grind (arith, nat_tests, twice, lettered, of_digits)

pub spelled-reads : (v : Version) (line : List ℕ) (e : Entry) → SpellsEntry v line e → line_reading v line ≡ Ok (Some e)
spelled-reads v line (Sent q) (frame, spells, has) =
    let few = length-request q spells.0 in
    let size = ap length spells.2 in
    spaced v 84 line frame (λ bytes. sent (request_reading bytes)) refl (λ d. refl) (omega arith) has ∙ ap sent (request_only frame q spells)
spelled-reads v line Silent h = ap (line_reading v) h
spelled-reads v line Collision h = ap (line_reading v) h
spelled-reads v line (Heard r) (frame, spells, has) =
    let few = length-reply r in
    let size = ap length spells.1 in
    spaced v 82 line frame (λ bytes. heard (reply_reading bytes)) refl (λ d. refl) (omega arith) has ∙ ap heard (reply_only frame r spells)
spelled-reads v line (Listed u) (uid, has) = spaced v 85 line (to_be_bytes w64 u) listed_uid refl (λ d. refl) (omega arith) has ∙ listed_reads u uid
spelled-reads V1 line Garbled h = absurd (h.0 refl)
spelled-reads V2 line Garbled h = ap (line_reading V2) h.1
spelled-reads V3 line Garbled h = ap (line_reading V3) h.1
spelled-reads V1 line FieldCycle h = absurd (h.0 refl)
spelled-reads V2 line FieldCycle h = ap (line_reading V2) h.1
spelled-reads V3 line FieldCycle h = ap (line_reading V3) h.1
spelled-reads v line (Captured r) (third, frame, spells, has) =
    let few = length-reply r in
    let size = ap length spells.1 in
    ap (λ w. line_reading w line) third
    ∙ (spaced V3 72 line frame (λ bytes. captured (reply_reading bytes)) refl (λ d. refl) (omega arith) has ∙ ap captured (reply_only frame r spells))
spelled-reads v line Unknown h = ap (λ w. line_reading w line) h.0 ∙ ap (line_reading V3) h.1

-- ---- lines that are passed over

pub passed-reads : (v : Version) (line : List ℕ) → IsPassedOver line → line_reading v line ≡ Ok None
passed-reads v line h = grind (arith, nat_tests)
