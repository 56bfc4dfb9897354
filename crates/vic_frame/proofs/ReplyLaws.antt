-- Replies: what has no fault is spelled, and what is spelled has none.
use Rattle.vic_frame.proofs.Words.{◌≡◌, ℕ, ◌/◌, ◌^◌, ◌%◌, false, None, Ok, IfOk, List, length, refl, ap, arith, eqb-true, eq-eqb, ne_eqb, reply_spelling, AreBytes, number_of, crc_right, first_fault, flags, uid_bytes, fault_or, reply_in, not-false, not_from_true, Reply, IsReply, SpellsReply, reply_faults}
use Rattle.vic_frame.proofs.FrameLaws.{all_fail, none_from, found_from, bit_is}
use Rattle.vic_frame.proofs.FieldLaws.{reply_fields, reply_from}

pub reply_sound : (f : List ℕ) → AreBytes f → first_fault (reply_faults f) ≡ None → SpellsReply f (reply_in f)
reply_sound f h none =
    let p = all_fail (reply_faults f) none in
    let top = eqb-true (number_of (uid_bytes f) / 2 ^ 56) 0xE0 (not-false _ p.1.1.1.0) in (
      record { flags = h 0; dsfid = h 1; even = omega (arith, bit_is 1 (flags f) false p.1.1.0); uid = omega (arith, top) },
      reply_from f (reply_in f) h (record {
        size = eqb-true (length f) 12 (not-false _ p.0);
        flags = refl;
        dsfid = refl;
        uid = refl;
        crc = not-false (crc_right f) p.1.0;
      }),
    )

-- what is spelled has no fault, and is read as the reply
pub reply_read : (r : Reply) → IsReply r → (first_fault (reply_faults (reply_spelling r)) ≡ None) × (reply_in (reply_spelling r) ≡ r)
reply_read r h =
    let has = reply_fields r (omega (arith, h.uid)) in
    let top : number_of (uid_bytes (reply_spelling r)) / 2 ^ 56 ≡ 0xE0 = omega (arith, has.uid, h.uid) in (
      none_from (reply_faults (reply_spelling r)) (not_from_true _ (eq-eqb _ 12 has.size), (not_from_true _ has.crc, (ne_eqb (r.flags / 2 ^ 0 % 2) 1 (λ odd. omega (arith, h.even)), (not_from_true _ (eq-eqb _ 0xE0 top), tt)))),
      ap (λ u. record { flags = r.flags; dsfid = r.dsfid; uid = u }) has.uid,
    )

pub reply_found : (f : List ℕ) → AreBytes f → IfOk (fault_or (first_fault (reply_faults f)) (reply_in f)) (λ r. SpellsReply f r)
reply_found f h = found_from (first_fault (reply_faults f)) (reply_in f) (λ r. SpellsReply f r) (reply_sound f h)

pub reply_only : (f : List ℕ) (r : Reply) → SpellsReply f r → fault_or (first_fault (reply_faults f)) (reply_in f) ≡ Ok r
reply_only f r s =
    let read = reply_read r s.0 in
    rw (s.1, read.0) (ap Ok read.1)
