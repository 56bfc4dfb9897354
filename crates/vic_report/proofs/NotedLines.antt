-- Lines that are noted for UIDs, one after another.
use Rattle.vic_report.proofs.Words.{◌≡◌, ℕ, true, List, Some, None, sym, ap, subst, ◌∙◌, arith, inl, inr, cases_eq, false≢true, ◌+◌, ◌<◌, ◌≤◌, false, refl, length, take, get_or, get_or_default, slice_get, eqb-true, has, cases_lt, AllPairs-from_increasing, hears, Answering, Entry, LogLine, entries, ShowsCertain, IsFirstReply}
use Rattle.std.proofs.Common.{Bool, nat_eq, ◌⊎◌, Option, is_some, set}
use Rattle.std.proofs.lemmas.List.{get_or-set_other, get_or-set_same}
use Rattle.std.specs.List.Sorted.{IsStrictlyIncreasing}
use Rattle.std.proofs.lemmas.Bool.{or_cases}
use Rattle.std.proofs.lemmas.Option.{slice_get_past}
use Rattle.std.proofs.lemmas.List.Folds.{list_any_more}
use Rattle.vic_report.specs.inner.NotedLines.{AreFirstReplies, AreShownFirst, HasNoted, IsNewAt, IsNoted, is_noted}
use Rattle.vic_verdict.specs.Needs.{ForcesThere, IsMet, SomeForces}
use Rattle.vic_verdict.specs.Possible.{IsCertainUid, IsPossible}
use Rattle.vic_verdict.proofs.Decide.{IsCertainUid-iff}
use Rattle.vic_verdict.proofs.Meeting.{forced_iff}
use Rattle.vic_verdict.specs.Verdict.{IsHeard}
use Rattle.vic_verdict.specs.declared.facts.Met.{Met}

-- the line that is noted at a place
pub noted_line : (noted : List (Option ℕ)) (i : ℕ) → is_noted noted i ≡ true → (n : ℕ) × IsNoted noted i n
noted_line noted i h = there (get_or noted i None) h where
  there : (o : Option ℕ) → is_some o ≡ true → (n : ℕ) × (o ≡ Some n)
  there (Some n) h = (n, refl)
  there None h = absurd (false≢true h)

kept_noted : (old new : List (Option ℕ)) (i : ℕ) → ((n : ℕ) → IsNoted old i n → IsNoted new i n) → is_noted old i ≡ true → is_noted new i ≡ true
kept_noted old new i kept h = let w = noted_line old i h in ap is_some (kept w.0 w.1)

pub both_noted : (lines : List LogLine) (us : List ℕ) (a b c : List (Option ℕ)) (P Q R : ℕ → Type 0) → ((u : ℕ) → R u → P u ⊎ Q u) → HasNoted lines us a b P → HasNoted lines us b c Q → HasNoted lines us a c R
both_noted lines us a b c P Q R split first next = record {
  shown = λ h. next.shown (first.shown h);
  kept = λ i n h. next.kept i n (first.kept i n h);
  more = λ i lt h. elim (split (get_or us i 0) h) [ inl p ↦ kept_noted b c i (next.kept i) (first.more i lt p) | inr q ↦ next.more i lt q ];
}

-- of more than is asked for
pub noted_as : (lines : List LogLine) (us : List ℕ) (old new : List (Option ℕ)) (P Q : ℕ → Type 0) → ((u : ℕ) → Q u → P u) → HasNoted lines us old new P → HasNoted lines us old new Q
noted_as lines us old new P Q less h = record { shown = h.shown; kept = h.kept; more = λ i lt q. h.more i lt (less (get_or us i 0) q) }

-- nothing is noted, where nothing has to be
pub as_noted : (lines : List LogLine) (us : List ℕ) (noted : List (Option ℕ)) (P : ℕ → Type 0) → ((i : ℕ) → i < length us → P (get_or us i 0) → is_noted noted i ≡ true) → HasNoted lines us noted noted P
as_noted lines us noted P there = record { shown = λ h. h; kept = λ i n h. h; more = there }

-- a UID has one place among rising ones
pub one_place : (us : List ℕ) (i j u : ℕ) → IsStrictlyIncreasing us → i < length us → j < length us → get_or us i 0 ≡ u → get_or us j 0 ≡ u → j ≡ i
one_place us i j u up i_lt j_lt at_i at_j = elim (cases_lt i j) [
  | inl less ↦ let below = AllPairs-from_increasing us up i j 0 less j_lt in absurd (omega (arith, below, at_i, at_j))
  | inr more ↦ elim (cases_lt j i) [
    | inl less ↦ let below = AllPairs-from_increasing us up j i 0 less i_lt in absurd (omega (arith, below, at_i, at_j))
    | inr same ↦ omega (arith, more, same)
  ]
]

-- that a line is noted, by its place
abbrev IsNotedIn : List (Option ℕ) → ℕ → ℕ → Type 0
IsNotedIn noted n i = IsNoted noted i n

pub noted_at : (lines : List LogLine) (us : List ℕ) (noted : List (Option ℕ)) (i uid line : ℕ) → IsStrictlyIncreasing us → i < length us → length noted ≡ length us → get_or us i 0 ≡ uid → is_noted noted i ≡ false → ShowsCertain lines line uid → HasNoted lines us noted (set noted i (Some line)) (λ u. u ≡ uid)
noted_at lines us noted i uid line up lt size here blank shows = record {
  shown = λ h j n e. elim (cases_eq j i) [
    | inl same ↦
        let told : Some line ≡ Some n = sym now ∙ subst (λ k. get_or (set noted i (Some line)) k None ≡ Some n) same e in
        let is : line ≡ n = cc in
        subst (ShowsCertain lines n) (sym (ap (λ k. get_or us k 0) same ∙ here)) (subst (λ m. ShowsCertain lines m uid) is shows)
    | inr other ↦ h j n (sym (get_or-set_other noted i j (Some line) None other) ∙ e)
  ];
  kept = λ j n e. elim (cases_eq j i) [
    | inl same ↦ absurd (false≢true (sym blank ∙ ap is_some (subst (IsNotedIn noted n) same e)))
    | inr other ↦ get_or-set_other noted i j (Some line) None other ∙ e
  ];
  more = λ j below same. noted_here j (one_place us i j uid up lt below here same);
} where
  now : get_or (set noted i (Some line)) i None ≡ Some line
  now = get_or-set_same noted i (Some line) None (omega (arith, lt, size))

  noted_here : (j : ℕ) → j ≡ i → is_noted (set noted i (Some line)) j ≡ true
  noted_here j same = ap (λ k. is_some (get_or (set noted i (Some line)) k None)) same ∙ ap is_some now

-- what is noted, once a line is noted where none was
pub noted_only : (us : List ℕ) (noted : List (Option ℕ)) (i uid line j n : ℕ) → i < length us → length noted ≡ length us → get_or us i 0 ≡ uid → is_noted noted i ≡ false → IsNoted (set noted i (Some line)) j n → IsNoted noted j n ⊎ IsNewAt us noted uid line j n
noted_only us noted i uid line j n lt size here blank e = elim (cases_eq j i) [
  | inl same ↦
      let now : get_or (set noted i (Some line)) i None ≡ Some line = get_or-set_same noted i (Some line) None (omega (arith, lt, size)) in
      let told : Some line ≡ Some n = sym now ∙ subst (IsNotedIn (set noted i (Some line)) n) same e in
      let is : n ≡ line = cc in
      inr (record { within = omega (arith, lt, same); blank = subst (λ k. is_noted noted k ≡ false) (sym same) blank; number = is; here = ap (λ k. get_or us k 0) same ∙ here })
  | inr other ↦ inl (sym (get_or-set_other noted i j (Some line) None other) ∙ e)
]

-- ---- for whom a line is noted

-- the UID was heard before position i
abbrev pub IsHeardBefore : List Entry → ℕ → ℕ → Type 0
IsHeardBefore es i u = (j : ℕ) × (j < i) × (hears (slice_get es j) u ≡ true)

pub heard_split : (es : List Entry) (i u : ℕ) (e : Entry) → slice_get es i ≡ Some e → IsHeardBefore es (i + 1) u → IsHeardBefore es i u ⊎ (hears (Some e) u ≡ true)
heard_split es i u e k w = elim (cases_eq w.0 i) [
  | inl here ↦ inr (ap (λ o. hears o u) (sym k) ∙ subst (λ n. hears (slice_get es n) u ≡ true) here w.2)
  | inr other ↦ let below = w.1 in inl (w.0, omega (arith, below, other), w.2)
]

pub heard_within : (es : List Entry) (i u : ℕ) → length es ≤ i → IsHeard es u → IsHeardBefore es i u
heard_within es i u long h = elim (cases_lt h.0 (length es)) [
  | inl below ↦ (h.0, omega (arith, below, long), h.1)
  | inr past ↦ absurd (false≢true (ap (λ o. hears o u) (sym (slice_get_past es h.0 past)) ∙ h.1))
]

-- some of the first n slots needs the UID
abbrev pub SomeForcesBefore : List Answering → ℕ → ℕ → Type 0
SomeForcesBefore fs n u = (k : ℕ) × (f : Answering) × (k < n) × (get_or fs k f ≡ f) × ForcesThere f u

pub forces_split : (fs : List Answering) (i u : ℕ) (f : Answering) → i < length fs → f ≡ get_or fs i f → SomeForcesBefore fs (i + 1) u → SomeForcesBefore fs i u ⊎ ForcesThere f u
forces_split fs i u f below is w = elim (cases_eq w.0 i) [
  | inl here ↦
      let there : get_or fs i w.1 ≡ w.1 = subst (λ n. get_or fs n w.1 ≡ w.1) here w.3 in
      let same : w.1 ≡ f = sym there ∙ (get_or_default fs i w.1 f below ∙ sym is) in
      inr (subst (λ a. ForcesThere a u) same w.4)
  | inr other ↦ let lt = w.2 in inl (w.0, w.1, omega (arith, lt, other), w.3, w.4)
]

pub forces_within : (fs : List Answering) (i u : ℕ) → length fs ≤ i → SomeForces fs u → SomeForcesBefore fs i u
forces_within fs i u long w = let lt = w.2 in (w.0, w.1, omega (arith, lt, long), w.3, w.4)

pub member_split : (us : List ℕ) (i u own : ℕ) → i < length us → own ≡ get_or us i own → has (take (i + 1) us) u ≡ true → (has (take i us) u ≡ true) ⊎ (u ≡ own)
member_split us i u own below is h = elim (or_cases _ _ (sym (list_any_more (nat_eq u) us i own below) ∙ h)) [
  | inl before ↦ inl before
  | inr here ↦ inr (eqb-true u _ here ∙ sym is)
]

-- ---- first replies

-- a reply that is noted where none was is the first
pub first_reply : (lines : List LogLine) (us : List ℕ) (old new : List (Option ℕ)) (i u : ℕ) (l : LogLine) → slice_get lines i ≡ Some l → hears (Some l.item) u ≡ true → ((j : ℕ) → j < length us → IsHeardBefore (entries lines) i (get_or us j 0) → is_noted old j ≡ true) → ((j n : ℕ) → IsNoted new j n → IsNoted old j n ⊎ IsNewAt us old u l.number j n) → AreFirstReplies lines us old → AreFirstReplies lines us new
first_reply lines us old new i u l there reply noted only first j n e = elim (only j n e) [
  | inl before ↦ first j n before
  | inr w ↦ record {
    place = i;
    line = l;
    there = there;
    number = sym w.number;
    reply = subst (λ x. hears (Some l.item) x ≡ true) (sym w.here) reply;
    first = λ k below. unheard k below (hears (slice_get (entries lines) k) (get_or us j 0)) refl w;
  }
] where
  unheard : (k : ℕ) → k < i → (b : Bool) → hears (slice_get (entries lines) k) (get_or us j 0) ≡ b → IsNewAt us old u l.number j n → hears (slice_get (entries lines) k) (get_or us j 0) ≡ false
  unheard k below true is w = absurd (false≢true (sym w.blank ∙ noted j w.within (k, below, is)))
  unheard k below false is w = is

-- and it stays so, since what is noted stays
pub shown_first : (lines : List LogLine) (us : List ℕ) (a b c : List (Option ℕ)) (Q : ℕ → Type 0) → HasNoted lines us a b (IsHeard (entries lines)) → HasNoted lines us b c Q → AreFirstReplies lines us b → AreShownFirst lines us c
shown_first lines us a b c Q replies unread first i n lt e heard =
    let w = noted_line b i (replies.more i lt heard) in
    let kept = unread.kept i w.0 w.1 in
    let told : Some w.0 ≡ Some n = sym kept ∙ e in
    let same : w.0 ≡ n = cc in
    subst (λ m. IsFirstReply lines m (get_or us i 0)) same (first i w.0 w.1)

-- ---- replies, and then unread slots

pub met_noted : (lines : List LogLine) (us : List ℕ) (met : Met) (a b c : List (Option ℕ)) (i : ℕ) → IsPossible (entries lines) → IsMet (entries lines) met → HasNoted lines us a b (IsHeard (entries lines)) → HasNoted lines us b c (SomeForces met.unread.items) → i < length us → IsCertainUid (entries lines) (get_or us i 0) → is_noted c i ≡ true
met_noted lines us met a b c i possible is replies unread lt must = elim ((forced_iff (entries lines) met (get_or us i 0) is).0 ((IsCertainUid-iff (entries lines) (get_or us i 0) possible).0 must)) [
  | inl heard ↦ kept_noted b c i (unread.kept i) (replies.more i lt ((is.heard (get_or us i 0)).0 heard))
  | inr exact ↦ unread.more i lt exact
]
