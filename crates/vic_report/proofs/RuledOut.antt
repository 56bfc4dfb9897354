-- The first line that rules a UID out, by the end that a walk knows of it.
use Rattle.vic_report.proofs.Words.{◌≡◌, ℕ, ◌-◌, ◌<◌, ◌≤◌, zero, suc, All, List, length, Bool, true, false, Option, Some, None, refl, sym, ap, ◌∙◌, subst, arith, cases_lt, nat_tests, inl, inr, false≢true, slice_get, get_or, get_or_default, IsUid, Entry, LogLine, IsRisingFrom, entries, answers_at, reading_of, slots_before, is_open, IsPossible, RulesOut, denies_reply_of, some_denies_reply_of, and_from, and_parts, entry_allows, [], ◌∷◌, option_map, slice_get-map, open_step}
use Rattle.vic_verdict.proofs.Listing.{number_above}
use Rattle.vic_verdict.proofs.Walking.{broken_log}
use Rattle.vic_verdict.specs.Verdict.{IsLeast}
use Rattle.vic_walk.proofs.Ending.{open_earlier}
use Rattle.vic_frame.specs.LowBitsFirst.{mirror}
use Rattle.vic_walk.specs.Borders.{IsPartOf}
use Rattle.vic_walk.specs.Walk.{AreEndsAt, IsEnd, IsEndOfWalk, IsLogWalk}
use Rattle.vic_walk.specs.declared.log_walk.LogWalk.{LogWalk}
use Rattle.std.specs.Prelude.{slice_index}

-- the entry of a line
line_at : (lines : List LogLine) (i : ℕ) (l : LogLine) → slice_get lines i ≡ Some l → slice_get (entries lines) i ≡ Some l.item
line_at lines i l k = slice_get-map (λ (x : LogLine). x.item) lines i ∙ ap (option_map (λ (x : LogLine). x.item)) k

-- later lines have higher numbers
rising_numbers : (n : ℕ) (lines : List LogLine) (i j : ℕ) (l x : LogLine) → IsRisingFrom n lines → i ≤ j → slice_get lines i ≡ Some l → slice_get lines j ≡ Some x → l.number ≤ x.number
rising_numbers n [] i j l x r le g h = cc
rising_numbers n (y ∷ lines) zero zero l x r le g h = let same : l ≡ x = cc in omega (arith, ap (λ (z : LogLine). z.number) same)
rising_numbers n (y ∷ lines) zero (suc j) l x r le g h =
    let same : y ≡ l = cc in
    omega (arith, ap (λ (z : LogLine). z.number) same, number_above y.number lines j x r.1 h)
rising_numbers n (y ∷ lines) (suc i) zero l x r le g h = absurd (omega (arith, le))
rising_numbers n (y ∷ lines) (suc i) (suc j) l x r le g h = rising_numbers y.number lines i j l x r.1 (omega (arith, le)) g h

-- a walk over a possible log comes to its end
comes_to_end : (bs : List ℕ) (es : List Entry) (w : LogWalk) (broken : Option ℕ) → IsPossible es → IsEndOfWalk bs es w broken → AreEndsAt bs es (length es) w.ends.items
comes_to_end bs es w None possible end = end.1
comes_to_end bs es w (Some i) possible end =
    absurd (broken_log bs es w (Some i) end refl possible)

pub ends_of : (es : List Entry) (w : LogWalk) → IsPossible es → IsLogWalk es w → AreEndsAt w.log_parts.parts es (length es) w.ends.items
ends_of es w possible over = comes_to_end w.log_parts.parts es w w.broken possible over.walk

-- and knows the end of each UID by that of its part
known_end : (es : List Entry) (w : LogWalk) (u p key end : ℕ) → IsPossible es → IsLogWalk es w → IsUid u → key ≡ mirror u → IsPartOf w.log_parts.parts key p → end ≡ get_or w.ends.items p end → IsEnd es (length es) u end
known_end es w u p key end possible over is k part read =
    let at = ends_of es w possible over in
    let inside = part.within in
    let same : slice_index w.ends.items p ≡ end = get_or_default w.ends.items p 0 end (omega (arith, inside, at.room)) ∙ sym read in
    subst (IsEnd es (length es) u) same (at.each u p is (subst (λ x. IsPartOf w.log_parts.parts x p) k part))

-- a UID that isn't open has an end
has_end : (es : List Entry) (n u end : ℕ) → IsEnd es n u end → is_open (slots_before es n) u ≡ false → (0 < end) × (end ≤ n)
has_end es n u zero h shut = absurd (false≢true (sym shut ∙ h))
has_end es n u (suc j) h shut = let below = h.0 in (omega arith, omega (arith, below))

-- so a walk knows the end of each UID in a list of such
pub listed_end : (es : List Entry) (w : LogWalk) (us : List ℕ) (i u p key end : ℕ) → IsPossible es → IsLogWalk es w → All (λ v. is_open (slots_before es (length es)) v ≡ false) us → i < length us → u ≡ get_or us i u → IsUid u → key ≡ mirror u → IsPartOf w.log_parts.parts key p → end ≡ get_or w.ends.items p end
    → IsEnd es (length es) u end × (0 < end) × (end ≤ length es)
listed_end es w us i u p key end possible over shut lt at is k part read =
    let known = known_end es w u p key end possible over is k part read in
    let some = has_end es (length es) u end known (subst (λ v. is_open (slots_before es (length es)) v ≡ false) (sym at) (shut i u lt)) in
    (known, some.0, some.1)

-- what an entry doesn't allow to a tag lacks its reply, which it would have given
not_allowed : (e : Entry) (answers : Bool) (u : ℕ) → entry_allows (reading_of e) answers u ≡ false → (answers ≡ true) × (denies_reply_of e u ≡ true)
not_allowed e answers u h = grind (arith, nat_tests)

-- and the other way round
allows_none : (e : Entry) (u : ℕ) → denies_reply_of e u ≡ true → entry_allows (reading_of e) true u ≡ false
allows_none e u h = grind (arith, nat_tests)

-- a UID that a line rules out isn't open after it
shut_after : (lines : List LogLine) (n u : ℕ) (r : RulesOut lines n u) → is_open (slots_before (entries lines) (suc r.place)) u ≡ false
shut_after lines n u r =
    let here = line_at lines r.place r.line r.there in
    let missed = and_parts (answers_at (entries lines) r.place u) (some_denies_reply_of (slice_get (entries lines) r.place) u) r.overlooked in
    let none = allows_none r.line.item u (rw here at missed.1) in
    let step = open_step (entries lines) r.place r.line.item u here in
    grind (arith, step, missed.0, none)

-- the line at the end is the first that rules the UID out
pub first_ruling : (lines : List LogLine) (u end : ℕ) (l : LogLine) → IsRisingFrom 0 lines → IsEnd (entries lines) (length (entries lines)) u end → 0 < end → slice_get lines (end - 1) ≡ Some l → IsLeast (λ n. RulesOut lines n u) l.number
first_ruling lines u zero l rising h some k = absurd (omega (arith, some))
first_ruling lines u (suc j) l rising h some read =
    let es = entries lines in
    let back : suc j - 1 ≡ j = omega arith in
    let k : slice_get lines j ≡ Some l = subst (λ n. slice_get lines n ≡ Some l) back read in
    let here = line_at lines j l k in
    let step = open_step es j l.item u here in
    let not = not_allowed l.item (answers_at es j u) u (grind (arith, step, h.1, h.2)) in (
      record { place = j; line = l; there = k; number = refl; overlooked = and_from _ _ not.0 (ap (λ e. some_denies_reply_of e u) here ∙ not.1) },
      (λ n r. elim (cases_lt r.place j) [
        | inl before ↦ absurd (false≢true (sym (shut_after lines n u r) ∙ open_earlier es u (suc r.place) j (omega (arith, before)) h.1))
        | inr after ↦ rw (← r.number) (rising_numbers 0 lines j r.place l r.line rising after k r.there)
      ]),
    )
