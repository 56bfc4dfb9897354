-- A log treats the UIDs of a part alike.
use Rattle.vic_walk.proofs.Words.{◌≡◌, ℕ, zero, suc, Bool, true, Option, Some, None, List, refl, arith, nat_tests, slice_get, or_left, or_right, both_ways, eq_swapped, is_uid_from, subst, Entry, Heard, answers_at, is_quiet, silences, is_slot, is_open, reading_of, slots_before, AreAlikeAt, AreCut, AreTogether, hears, names}
use Rattle.vic_walk.proofs.Entries.{entry_allows, open_step, open_past}

together_back : (bs : List ℕ) (u v : ℕ) → AreTogether bs u v → AreTogether bs v u
together_back bs u v t = record { first = t.second; second = t.first; part = (t.part.0, t.part.2, t.part.1) }

-- a test that only names UIDs of the entry is the same for both
named_alike : (bs : List ℕ) (es : List Entry) (i u v : ℕ) (test : ℕ → Bool) → AreCut bs es → AreTogether bs u v → ((w : ℕ) → test w ≡ true → names (slice_get es i) w ≡ true) → test u ≡ test v
named_alike bs es i u v test cut t h =
    both_ways (test u) (test v)
    (λ yes. subst (λ w. test w ≡ true) (cut.named i u v (h u yes) t) yes)
    (λ yes. subst (λ w. test w ≡ true) (cut.named i v u (h v yes) (together_back bs u v t)) yes)

pub silences_alike : (bs : List ℕ) (es : List Entry) (i u v : ℕ) → AreCut bs es → AreTogether bs u v → silences (slice_get es i) u ≡ silences (slice_get es i) v
silences_alike bs es i u v cut t = named_alike bs es i u v (silences (slice_get es i)) cut t (λ w yes. or_left _ _ yes)

pub hears_alike : (bs : List ℕ) (es : List Entry) (i u v : ℕ) → AreCut bs es → AreTogether bs u v → hears (slice_get es i) u ≡ hears (slice_get es i) v
hears_alike bs es i u v cut t = named_alike bs es i u v (hears (slice_get es i)) cut t (λ w yes. or_right _ _ yes)

pub quiet_alike : (bs : List ℕ) (es : List Entry) (i u v : ℕ) → AreCut bs es → AreTogether bs u v → is_quiet es i u ≡ is_quiet es i v
quiet_alike bs es zero u v cut t = refl
quiet_alike bs es (suc i) u v cut t =
    rw (silences_alike bs es i u v cut t, quiet_alike bs es i u v cut t) refl

answers_alike : (bs : List ℕ) (es : List Entry) (i u v : ℕ) (e : Entry) → AreCut bs es → AreTogether bs u v → slice_get es i ≡ Some e → is_slot e ≡ true → answers_at es i u ≡ answers_at es i v
answers_alike bs es i u v e cut t k s = rw (cut.masks i u v e k s t, quiet_alike bs es i u v cut t) refl

-- what answers alike and is heard alike is allowed alike
allows_same : (e : Entry) (u v : ℕ) (a b : Bool) → (is_slot e ≡ true → a ≡ b) → hears (Some e) u ≡ hears (Some e) v → entry_allows (reading_of e) a u ≡ entry_allows (reading_of e) b v
allows_same (Heard r) u v a b same heard = rw (same refl, eq_swapped u r.uid, eq_swapped v r.uid, heard) refl
allows_same e u v a b same heard = grind (arith, nat_tests)

open_alike_step : (bs : List ℕ) (es : List Entry) (i u v : ℕ) (o : Option Entry) → slice_get es i ≡ o → AreCut bs es → AreTogether bs u v → is_open (slots_before es i) u ≡ is_open (slots_before es i) v → is_open (slots_before es (suc i)) u ≡ is_open (slots_before es (suc i)) v
open_alike_step bs es i u v None k cut t before = rw (open_past es i u k, open_past es i v k) before
open_alike_step bs es i u v (Some e) k cut t before =
    let heard : hears (Some e) u ≡ hears (Some e) v = rw k at (hears_alike bs es i u v cut t) in
    rw (open_step es i e u k, open_step es i e v k, before, allows_same e u v (answers_at es i u) (answers_at es i v) (answers_alike bs es i u v e cut t k) heard) refl

pub open_alike : (bs : List ℕ) (es : List Entry) (i u v : ℕ) → AreCut bs es → AreTogether bs u v → is_open (slots_before es i) u ≡ is_open (slots_before es i) v
open_alike bs es zero u v cut t = rw (is_uid_from u t.first, is_uid_from v t.second) refl
open_alike bs es (suc i) u v cut t = open_alike_step bs es i u v (slice_get es i) refl cut t (open_alike bs es i u v cut t)

pub parts_alike : (bs : List ℕ) (es : List Entry) (i u v : ℕ) → AreCut bs es → AreTogether bs u v → AreAlikeAt es i u v
parts_alike bs es i u v cut t = record { openness = open_alike bs es i u v cut t; quietness = quiet_alike bs es i u v cut t }
