-- Values are read back from their texts, and nothing else is read.
use Rattle.vic_survey.proofs.ValueWords.{List, Some, [], ap, arith, append_assoc, eq-eqb, false, length, nat_lt, nat_eq, refl, subst, sym, take, drop, take_at, drop_at, true, ℕ, ◌++◌, ◌+◌, ◌*◌, ◌%◌, ◌^◌, ◌<◌, ◌==◌, ◌∙◌, ◌∷◌, ◌≡◌, ◌≤◌, nat_tests, codes, decimal, decimal_by_steps, BitMask, mask_text, uid_text, bytes_eq, bytes_eq-Decides, le-leb, lt-ltb, or_parts, ltb-true, take-append-drop, IsUid, is_uid, UID_BITS, value_text, IsShort, IsLineNumber, byte, has, after, parted, number_up_to, line_number_in, hex_number_in, uid_in, value_in, mask_in}
use Rattle.vic_text.proofs.HexBack.{hex_back}
use Rattle.vic_text.proofs.ValueLaws.{hex_text, if_some, same, value_back, value_text_of}
use Rattle.vic_survey.proofs.Spelled.{then_some, parted_text, number_found, number_text}

-- ---- what follows words

pub after_text : (words line rest : List ℕ) → after words line ≡ Some rest → line ≡ words ++ rest
after_text words line rest h =
    let t = if_some (bytes_eq (take (length words) line) words) (Some (drop (length words) line)) rest h in
    let is : drop (length words) line ≡ rest = cc (t.1) in
    sym (take-append-drop (length words) line) ∙ ap (λ xs. xs ++ drop (length words) line) (same (take (length words) line) words t.0) ∙ ap (λ xs. words ++ xs) is

pub after_back : (words rest : List ℕ) → after words (words ++ rest) ≡ Some rest
after_back words rest =
    let front : take (length words) (words ++ rest) ≡ words = take_at words rest (length words) refl in
    let back : drop (length words) (words ++ rest) ≡ rest = drop_at words rest (length words) refl in
    rw (front, back, (bytes_eq-Decides words words).1 refl) refl

-- ---- numbers of lines

pub line_number_text : (w : List ℕ) (n : ℕ) → line_number_in w ≡ Some n → (w ≡ decimal n) × IsLineNumber n
line_number_text w n h =
    let t = then_some (number_up_to 1000001 w) _ n h in
    let u = number_text 1000001 w t.0 t.1 in
    let v = if_some (nat_lt 0 t.0) (Some t.0) n t.2 in
    let is : t.0 ≡ n = cc (v.1) in
    let some : 0 < t.0 = ltb-true 0 t.0 v.0 in
    (u.0 ∙ ap decimal is, (omega (arith, some, is), omega (arith, u.1, is)))

pub line_number_back : (n : ℕ) → IsLineNumber n → line_number_in (decimal n) ≡ Some n
line_number_back n h =
    let some : nat_lt 0 n ≡ true = lt-ltb 0 n (omega (arith, h.0)) in
    rw (number_found 1000001 n (omega (arith, h.1)) h.1, some) refl

-- ---- UIDs

pub uid_is : (u : ℕ) → is_uid u ≡ true → IsUid u
uid_is u h = grind (arith, nat_tests)

pub is_uid_back : (u : ℕ) → IsUid u → is_uid u ≡ true
is_uid_back u h = rw (le-leb (0xE0 * 2 ^ UID_BITS) u h.0, lt-ltb u (0xE1 * 2 ^ UID_BITS) h.1) refl

pub uid_text_of : (w : List ℕ) (u : ℕ) → uid_in w ≡ Some u → (w ≡ uid_text u) × IsUid u
uid_text_of w u h =
    let t = then_some (hex_number_in 8 w) _ u h in
    let v = if_some (is_uid t.0) (Some t.0) u t.2 in
    let is : t.0 ≡ u = cc (v.1) in
    (hex_text 8 w t.0 t.1 ∙ ap uid_text is, subst IsUid is (uid_is t.0 v.0))

pub uid_back : (u : ℕ) → IsUid u → uid_in (uid_text u) ≡ Some u
uid_back u h = rw (hex_back 8 u (omega arith) (omega (arith, h.1)), is_uid_back u h) refl

-- ---- masks

eq_swapped : (b c : ℕ) → (b == c) ≡ nat_eq c b
eq_swapped b c = grind (arith, nat_tests)

pub has_push : (xs : List ℕ) (b c : ℕ) → has xs c ≡ false → nat_eq c b ≡ false → has (xs ++ b ∷ []) c ≡ false
has_push [] b c h e = rw e refl
has_push (x ∷ xs) b c h e = let p = or_parts (nat_eq c x) (has xs c) h in rw (p.0, has_push xs b c p.1 e) refl

-- no digit is such a byte
pub no_digit : (c : ℕ) → ((d : ℕ) → d < 10 → nat_eq c (48 + d) ≡ false) → (n : ℕ) → n < 2 ^ 64 → has (decimal n) c ≡ false
no_digit c other n h =
    decimal_by_steps (λ n ds. has ds c ≡ false) (λ n lt. rw (other n lt) refl)
    (λ n ds low before. has_push ds (48 + n % 10) c before (other (n % 10) (omega arith))) n h

pub parted_back : (c : ℕ) (front rest : List ℕ) → has front c ≡ false → parted c (front ++ c ∷ rest) ≡ Some (front, rest)
parted_back c [] rest h = rw (eq-eqb c c refl) refl
parted_back c (b ∷ front) rest h =
    let p = or_parts (nat_eq c b) (has front c) h in
    let other : (b == c) ≡ false = eq_swapped b c ∙ p.0 in
    rw (other, parted_back c front rest p.1) refl

pub mask_text_of : (w : List ℕ) (m : BitMask) → mask_in w ≡ Some m → (w ≡ mask_text m) × IsShort m
mask_text_of w m h =
    let p = then_some (parted (byte " ") w) _ m h in
    let n = then_some (number_up_to UID_BITS p.0.0) _ m p.2 in
    let v = then_some (value_in n.0 p.0.1) _ m n.2 in
    let t = if_some (nat_lt v.0 (2 ^ n.0)) _ m v.2 in
    let is : record { len = n.0; value = v.0 } ≡ m = cc (t.1) in
    let len = number_text UID_BITS p.0.0 n.0 n.1 in
    let value = value_text_of n.0 p.0.1 v.0 v.1 in
    let fits : v.0 < 2 ^ n.0 = ltb-true v.0 (2 ^ n.0) t.0 in
    let text : w ≡ mask_text (record { len = n.0; value = v.0 }) = parted_text (byte " ") w p.0 p.1 ∙ ap (λ xs. xs ++ byte " " ∷ p.0.1) len.0 ∙ ap (λ xs. decimal n.0 ++ byte " " ∷ xs) value ∙ sym (append_assoc (decimal n.0) (codes " ") _) in
    (text ∙ ap mask_text is, subst IsShort is (len.1, fits))

pub mask_back : (m : BitMask) → IsShort m → mask_in (mask_text m) ≡ Some m
mask_back m h =
    let cut : parted (byte " ") (mask_text m) ≡ Some (decimal m.len, value_text m) =
    ap (parted (byte " ")) (append_assoc (decimal m.len) (codes " ") (value_text m)) ∙ parted_back (byte " ") (decimal m.len) (value_text m) (no_digit 32 (λ d lt. grind (arith, nat_tests)) m.len (omega (arith, h.0))) in
    let fits = lt-ltb m.value (2 ^ m.len) h.1 in
    rw (cut, number_found UID_BITS m.len (omega (arith, h.0)) h.0, value_back m.len m.value (omega (arith, h.0)) h.1, fits) refl
