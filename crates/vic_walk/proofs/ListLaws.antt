-- What comes after the first listed UID of a log, and what it leaves as it is.
use Rattle.vic_walk.proofs.Words.{◌≡◌, ℕ, zero, suc, ◌+◌, ◌<◌, ◌≤◌, true, false, Option, Some, None, List, [], arith, nat_tests, cases_lt, inl, inr, length, slice_get, get_or, ◌-◌, refl, false≢true, Entry, Captured, Collision, FieldCycle, Garbled, Heard, Listed, Sent, Silent, Unknown, hears, is_slot, names, AreBorneOut, IsWalkAt}
use Rattle.std.proofs.lemmas.Option.{slice_get-get_or}
use Rattle.vic_log.specs.Order.{IsInOrder}
use Rattle.vic_log.specs.Rounds.{ends_round, opener}
use Rattle.vic_walk.specs.declared.walk_state.WalkState.{WalkState}
use Rattle.vic_walk.specs.Answers.{is_unread}
use Rattle.vic_walk.specs.Met.{IsMetAt}
use Rattle.vic_walk.specs.Needs.{needs_at, needs_of}
use Rattle.vic_walk.specs.Listing.{IsListFrom, IsListing}
use Rattle.vic_walk.proofs.Effects.{DoesNothing, borne_idle, nothing_listed, walk_idle}

-- ---- the order of a log

opener_past : (es : List Entry) (i j k : ℕ) → i < j → ends_round (slice_get es i) ≡ true → opener es j ≡ Some k → i ≤ k
opener_past es i zero k lt ends at = absurd (omega (arith, lt))
opener_past es i (suc j) k lt ends at = grind (arith, nat_tests, opener_past es i j k)

no_slot_after : (es : List Entry) (i j u : ℕ) (e : Entry) → IsInOrder es → i < j → slice_get es i ≡ Some (Listed u) → slice_get es j ≡ Some e → is_slot e ≡ true → ⊥
no_slot_after es i j u e order lt list here slot =
    let round = order.rounds j e here slot in
    let past : i ≤ round.0 = opener_past es i j round.0 lt (rw list refl) round.2 in
    elim (cases_lt i round.0) [
      | inl before ↦ order.requests_first i round.0 u round.1 before list round.3
      | inr not_before ↦ let same : i ≡ round.0 = omega (arith, past, not_before) in let sent = rw (← same) at round.3 in cc (list, sent)
    ]

listing_after : (es : List Entry) (i j u : ℕ) (e : Entry) → IsInOrder es → i < j → slice_get es i ≡ Some (Listed u) → slice_get es j ≡ Some e → IsListing e
listing_after es i j u (Listed v) order lt list here = (v, refl)
listing_after es i j u (Sent q) order lt list here = absurd (order.requests_first i j u q lt list here)
listing_after es i j u FieldCycle order lt list here = absurd (order.cycles_first i j u lt list here)
listing_after es i j u Silent order lt list here = absurd (no_slot_after es i j u Silent order lt list here refl)
listing_after es i j u Collision order lt list here = absurd (no_slot_after es i j u Collision order lt list here refl)
listing_after es i j u (Heard r) order lt list here = absurd (no_slot_after es i j u (Heard r) order lt list here refl)
listing_after es i j u Garbled order lt list here = absurd (no_slot_after es i j u Garbled order lt list here refl)
listing_after es i j u (Captured r) order lt list here = absurd (no_slot_after es i j u (Captured r) order lt list here refl)
listing_after es i j u Unknown order lt list here = absurd (no_slot_after es i j u Unknown order lt list here refl)

-- from a listed UID on
pub list_from : (es : List Entry) (n : ℕ) (e : Entry) → IsInOrder es → slice_get es n ≡ Some e → IsListing e → IsListFrom es n
list_from es n e order here list i f from at = elim (cases_lt n i) [
  | inl before ↦ listing_after es n i list.0 f order before (rw (← list.1) here) at
  | inr not_before ↦ let same : n ≡ i = omega (arith, from, not_before) in let is : f ≡ e = cc (rw same at here, at) in rw is list
]

-- ---- what a list leaves as it is

-- nothing that is said of no entry and of no listed UID is so from there on
list_only : (P : Option Entry → Type 0) (es : List Entry) (n i : ℕ) → P None → ((u : ℕ) → P (Some (Listed u))) → IsListFrom es n → n ≤ i → P (slice_get es i)
list_only P es n i none listed list from = at (slice_get es i) refl where
  at : (o : Option Entry) → slice_get es i ≡ o → P o
  at None is = none
  at (Some e) is = let l = list i e from is in rw l.1 (listed l.0)

pub unread_past : (es : List Entry) (n i : ℕ) → IsListFrom es n → n ≤ i → is_unread (slice_get es i) ≡ false
unread_past es n i list from = list_only (λ o. is_unread o ≡ false) es n i refl (λ u. refl) list from

pub heard_past : (es : List Entry) (n i u : ℕ) → IsListFrom es n → n ≤ i → hears (slice_get es i) u ≡ false
heard_past es n i u list from = list_only (λ o. hears o u ≡ false) es n i refl (λ v. refl) list from

pub named_past : (es : List Entry) (n i u : ℕ) → IsListFrom es n → n ≤ i → names (slice_get es i) u ≡ false
named_past es n i u list from = list_only (λ o. names o u ≡ false) es n i refl (λ v. refl) list from

needs_past : (es : List Entry) (n i : ℕ) → IsListFrom es n → n ≤ i → needs_at es i ≡ 0
needs_past es n i list from = list_only (λ o. needs_of o ≡ 0) es n i refl (λ v. refl) list from

pub met_past : (es : List Entry) (m n i : ℕ) → IsListFrom es n → n ≤ i → IsMetAt es m i
met_past es m n i list from = record { uids = []; different = tt; answer = λ u it. absurd (false≢true it); enough = rw (needs_past es n i list from) (omega arith) }

walk_list : (bs : List ℕ) (es : List Entry) (n d : ℕ) (w : WalkState) → IsListFrom es n → n + d ≤ length es → IsWalkAt bs es n w → AreBorneOut es n → IsWalkAt bs es (n + d) w × AreBorneOut es (n + d)
walk_list bs es n zero w list within h b = let same : n + 0 ≡ n = omega arith in rw same (h, b)
walk_list bs es n (suc d) w list within h b =
    let before = walk_list bs es n d w list (omega (arith, within)) h b in
    let here = slice_get-get_or es (n + d) Silent (omega (arith, within)) in
    let l = list (n + d) (get_or es (n + d) Silent) (omega arith) here in
    let nothing : DoesNothing (get_or es (n + d) Silent) = rw l.1 (nothing_listed l.0) in
    let next : n + suc d ≡ n + d + 1 = omega arith in
    rw next (walk_idle bs es (n + d) _ w here nothing before.0, borne_idle es (n + d) _ here nothing.reads before.1)

-- where the list begins the walk is as at its end
pub walk_at_list : (bs : List ℕ) (es : List Entry) (n : ℕ) (w : WalkState) → IsListFrom es n → n ≤ length es → IsWalkAt bs es n w → AreBorneOut es n → IsWalkAt bs es (length es) w × AreBorneOut es (length es)
walk_at_list bs es n w list within h b =
    let end : n + (length es - n) ≡ length es = omega (arith, within) in
    rw end at (walk_list bs es n (length es - n) w list (omega (arith, within)) h b)
