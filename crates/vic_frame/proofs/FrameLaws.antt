-- Frames and their CRC; the first fault.
use Rattle.vic_frame.proofs.Words.{◌≡◌, ℕ, ◌+◌, ◌-◌, ◌/◌, ◌%◌, ◌^◌, ◌==◌, nat_le, Bool, true, false, Option, Some, None, IfOk, List, [], ◌∷◌, ◌++◌, length, take, drop, refl, sym, ap, ◌∙◌, arith, length-append, leb-true, le-leb, eqb-true, eq-eqb, length-drop, take-append-drop, AreBytes, number_of, bytes_of, crc, crc_right, with_crc, first_fault, fault_or, bit, if◌then◌else◌, nat_tests, and_parts, and_from, take-append_seam, drop-append_seam}
use Rattle.vic_frame.specs.declared.fault.FrameFault.{FrameFault}
use Rattle.vic_frame.proofs.BytesLaws.{AreBytes-drop, bytes_of-number_of, number_of-bytes_of, length_bytes_of}

-- a frame whose CRC is right is what stands before, and the CRC
pub crc_frame : (f : List ℕ) → AreBytes f → crc_right f ≡ true → f ≡ with_crc (take (length f - 2) f)
crc_frame f h right =
    let end = drop (length f - 2) f in
    let parts = and_parts (nat_le 2 (length f)) (number_of end == crc (take (length f - 2) f)) right in
    let long = leb-true 2 (length f) parts.0 in
    let two : length end ≡ 2 = omega (arith, length-drop (length f - 2) f) in
    let tail = rw (two, eqb-true (number_of end) (crc (take (length f - 2) f)) parts.1) at (bytes_of-number_of end (AreBytes-drop (length f - 2) f h)) in
    sym (take-append-drop (length f - 2) f) ∙ ap (λ t. take (length f - 2) f ++ t) (sym tail)

pub length-with_crc : (b : List ℕ) → length (with_crc b) ≡ length b + 2
length-with_crc b = length-append b (bytes_of 2 (crc b)) ∙ ap (λ k. length b + k) (length_bytes_of 2 (crc b))

-- what is put together so has its CRC right
pub with_crc-right : (b : List ℕ) → crc_right (with_crc b) ≡ true
with_crc-right b =
    let len = length-with_crc b in
    let cut : length (with_crc b) - 2 ≡ length b = omega (arith, len) in
    and_from _ _ (le-leb 2 (length (with_crc b)) (omega (arith, len)))
    (rw (cut, take-append_seam b (bytes_of 2 (crc b)), drop-append_seam b (bytes_of 2 (crc b)), number_of-bytes_of 2 (crc b) (omega arith)) (eq-eqb (crc b) (crc b) refl))

-- a bit as a number
pub bit_is : (k b : ℕ) (v : Bool) → bit k b ≡ v → b / 2 ^ (k - 1) % 2 ≡ (if v then 1 else 0)
bit_is k b v h = grind (arith, nat_tests)

-- every test fails
abbrev pub AllFail : List (FrameFault × Bool) → Type 0
AllFail [] = Unit {0}
AllFail (e ∷ es) = (e.1 ≡ false) × AllFail es

pub all_fail : (es : List (FrameFault × Bool)) → first_fault es ≡ None → AllFail es
all_fail [] h = tt
all_fail ((e, false) ∷ es) h = (refl, all_fail es h)
all_fail ((e, true) ∷ es) h = absurd cc

pub none_from : (es : List (FrameFault × Bool)) → AllFail es → first_fault es ≡ None
none_from [] h = refl
none_from ((e, false) ∷ es) h = none_from es h.1
none_from ((e, true) ∷ es) (h, k) = absurd cc

-- what is read is spelled, if whatever has no fault is
pub found_from : {A : Type 0} (o : Option FrameFault) (x : A) (P : A → Type 0) → (o ≡ None → P x) → IfOk (fault_or o x) P
found_from None x P h = h refl
found_from (Some e) x P h = tt
