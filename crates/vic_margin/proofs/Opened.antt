-- What a cautious reading of entries leaves open beside them.
use Rattle.vic_margin.proofs.Words.{◌≡◌, ◌∙◌, ℕ, Bool, true, false, not, ◌&&◌, List, ◌++◌, Option, Some, None, length, refl, sym, ap, arith, nat_tests, inl, inr, cases_Bool, and_parts, both_ways, false_from_ne_true, has, IsUid, mirror, Entry}
use Rattle.std.proofs.Common.{IfSome, IfNone}
use Rattle.std.proofs.lemmas.List.Folds.{list_any-append}
use Rattle.vic_frame.specs.Masks.{BitMask}
use Rattle.vic_log.proofs.Sets.{IsUid-member}
use Rattle.vic_log.proofs.Cautious.{deaf_weaker_self, hidden_weaker}
use Rattle.vic_log.proofs.Weaker.{weaker_given}
use Rattle.vic_log.specs.Deaf.{deaf_entries, hidden_entries}
use Rattle.vic_log.specs.Order.{listed}
use Rattle.vic_log.specs.Slots.{is_open, slots_of}
use Rattle.vic_log.specs.Weaker.{AreWeaker}
use Rattle.vic_log.specs.declared.entry.LogLine.{LogLine}
use Rattle.vic_log.specs.Order.{entries}
use Rattle.vic_tree.specs.Keys.{AreKeysOf}
use Rattle.vic_tree.specs.OpenSet.{IsWidest, SameUids}
use Rattle.vic_tree.specs.Ranges.{in_ranges, is_between, is_open_in, is_outside}
use Rattle.vic_verdict.proofs.Decide.{IsPossibleUid-either, IsPossibleUid-iff}
use Rattle.vic_verdict.proofs.Verdicts.{unsettled_iff}
use Rattle.vic_verdict.proofs.Walking.{broken_log, walked}
use Rattle.vic_verdict.specs.Possible.{IsPossible, IsPossibleUid}
use Rattle.vic_verdict.specs.Verdict.{IsUnsettled, IsVerdict}
use Rattle.vic_verdict.specs.declared.judging.Verdict.TheVariants.{Complete}
use Rattle.vic_walk.specs.Walk.{AreEndsAt, IsLogWalk}
use Rattle.vic_walk.specs.declared.log_walk.LogWalk.{LogWalk}
use Rattle.vic_margin.specs.Readings.{IsFirstOpened, IsFirstUnsettled, IsOpened}
use Rattle.vic_margin.specs.inner.Opened.{IsWidestOpened, is_opened}

-- ---- the readings

possible_weaker : (ds es : List Entry) → AreWeaker ds es → IsPossible es → IsPossible ds
possible_weaker ds es w p = (p.0, p.1, weaker_given ds es w p.0 p.2)

pub possible_hidden : (es : List Entry) → IsPossible es → IsPossible (hidden_entries es)
possible_hidden es = possible_weaker _ es (hidden_weaker es)

pub possible_deaf : (es : List Entry) → IsPossible es → IsPossible (deaf_entries es)
possible_deaf es = possible_weaker _ es (deaf_weaker_self es)

-- ---- the set

-- a walk over possible entries goes to their end
pub ends_all : (es : List Entry) (w : LogWalk) → IsLogWalk es w → IsPossible es → AreEndsAt w.log_parts.parts es (length es) w.ends.items
ends_all es w h possible = (walked w.log_parts.parts es w w.broken h.walk (λ i is. broken_log w.log_parts.parts es w w.broken h.walk (rw is refl) possible)).1

pub outside_both : (rs qs : List (ℕ × ℕ)) (u : ℕ) → is_outside (rs ++ qs) u ≡ (is_outside rs u && not (is_open_in qs u))
outside_both rs qs u = let all = list_any-append (λ (r : ℕ × ℕ). is_between r.0 r.1 (mirror u)) rs qs in grind (arith, nat_tests, all)

pub widest_opened : (s t : ℕ → Bool) (m : Option BitMask) → SameUids s t → IfSome m (IsWidest s) → IfNone m (SameUids s (λ _. false)) → IsWidestOpened t m
widest_opened s t None same some none = λ u is. sym (same u is) ∙ none u is
widest_opened s t (Some m) same some none = record {
  is_mask = some.is_mask;
  short = some.short;
  open_throughout = λ u is lies. sym (same u is) ∙ some.open_throughout u is lies;
  least = λ n mask short all. some.least n mask short (λ u is lies. same u is ∙ all u is lies);
}

pub widest_same : (s t : ℕ → Bool) (m : Option BitMask) → SameUids s t → IsWidestOpened s m → IsWidestOpened t m
widest_same s t None same h = widest_opened s t None same tt h
widest_same s t (Some m) same h = widest_opened s t (Some m) same h tt

-- ---- by its UIDs

is_there : (ds : List Entry) (rs : List (ℕ × ℕ)) (u : ℕ) → IsPossible ds → is_opened ds (length ds) rs u ≡ true → IsPossibleUid ds u
is_there ds rs u possible h = (IsPossibleUid-iff ds u possible).1 (and_parts _ _ h).0

isnt_other : (es ds : List Entry) (rs : List (ℕ × ℕ)) (u : ℕ) → IsPossible es → IsUid u → SameUids (is_open_in rs) (is_open (slots_of es)) → is_opened ds (length ds) rs u ≡ true → IsPossibleUid es u → ⊥
isnt_other es ds rs u possible is same h may =
    let out = (and_parts (is_open (slots_of ds) u) (not (is_open_in rs u)) h).1 in
    let it = same u is ∙ (IsPossibleUid-iff es u possible).0 may in
    grind (arith, nat_tests, out, it)

is_opened_by : (es ds : List Entry) (rs : List (ℕ × ℕ)) (u : ℕ) → IsPossible es → IsPossible ds → IsUid u → SameUids (is_open_in rs) (is_open (slots_of es)) → IsPossibleUid ds u → (IsPossibleUid es u → ⊥) → is_opened ds (length ds) rs u ≡ true
is_opened_by es ds rs u pe pd is same may none = elim (cases_Bool (is_open_in rs u)) [
  | inl it ↦ absurd (none ((IsPossibleUid-iff es u pe).1 (sym (same u is) ∙ it)))
  | inr out ↦ let here = (IsPossibleUid-iff ds u pd).0 may in rw (here, out) refl
]

pub first_opened : (es ds : List Entry) (rs : List (ℕ × ℕ)) (m : Option BitMask) → IsPossible es → IsPossible ds → SameUids (is_open_in rs) (is_open (slots_of es)) → IsWidestOpened (is_opened ds (length ds) rs) m → IsFirstOpened ds es m
first_opened es ds rs None pe pd same h = λ u may.
    let is = IsUid-member may.0 u may.1 may.3 in
    elim (cases_Bool (is_open_in rs u)) [
      | inl it ↦ (IsPossibleUid-iff es u pe).1 (sym (same u is) ∙ it)
      | inr out ↦ let here = (IsPossibleUid-iff ds u pd).0 may in absurd (both_ways _ (h u is) (rw (here, out) refl))
    ]
first_opened es ds rs (Some m) pe pd same h = (
  record {
    short = h.short;
    fits = h.is_mask.1;
    here = λ u is lies. is_there ds rs u pd (h.open_throughout u is lies);
    only_here = λ u is lies. isnt_other es ds rs u pe is same (h.open_throughout u is lies);
  },
  λ k w. let short = w.short in h.least k (omega (arith, short), w.fits) w.short (λ u is lies. is_opened_by es ds rs u pe pd is same (w.here u is lies) (w.only_here u is lies)),
)

-- ---- of a complete list

unsettled_of_opened : (lines : List LogLine) (count : ℕ) (ds : List Entry) (m : BitMask) → listed ds ≡ listed (entries lines) → IsVerdict lines (Complete count) → IsOpened ds (entries lines) m → IsUnsettled ds m
unsettled_of_opened lines count ds m same v h = (
  h.short,
  h.fits,
  λ u is lies. (
    h.here u is lies,
    elim (cases_Bool (has (listed ds) u)) [
      | inl it ↦ absurd (v.1 u (ap (λ us. has us u) (sym same) ∙ it, h.only_here u is lies))
      | inr out ↦ out
    ],
  ),
)

opened_of_unsettled : (lines : List LogLine) (count : ℕ) (ds : List Entry) (m : BitMask) → listed ds ≡ listed (entries lines) → IsVerdict lines (Complete count) → IsUnsettled ds m → IsOpened ds (entries lines) m
opened_of_unsettled lines count ds m same v h = record {
  short = h.0;
  fits = h.1;
  here = λ u is lies. (h.2 u is lies).0;
  only_here = λ u is lies may.
      let mask = (unsettled_iff (entries lines)).1 (u, may, ap (λ us. has us u) (sym same) ∙ (h.2 u is lies).1) in
      v.3 mask.0 mask.1;
}

pub first_unsettled : (lines : List LogLine) (count : ℕ) (ds : List Entry) (m : Option BitMask) → listed ds ≡ listed (entries lines) → IsVerdict lines (Complete count) → IsFirstOpened ds (entries lines) m → IsFirstUnsettled ds m
first_unsettled lines count ds None same v h = λ k unsettled.
    let some = (unsettled_iff ds).0 (k, unsettled) in
    let mask = (unsettled_iff (entries lines)).1 (some.0, h some.0 some.1, ap (λ us. has us some.0) (sym same) ∙ some.2) in
    v.3 mask.0 mask.1
first_unsettled lines count ds (Some m) same v h = (
  unsettled_of_opened lines count ds m same v h.0,
  λ k unsettled. h.1 k (opened_of_unsettled lines count ds k same v unsettled),
)

-- the UIDs of a complete list are those that are open
pub complete_open : (lines : List LogLine) (count : ℕ) (keys : List ℕ) (rs : List (ℕ × ℕ)) → AreKeysOf keys (listed (entries lines)) → ((k : ℕ) → in_ranges rs k ≡ has keys k) → IsVerdict lines (Complete count) → SameUids (is_open_in rs) (is_open (slots_of (entries lines)))
complete_open lines count keys rs named same v u is =
    let es = entries lines in
    let it : is_open_in rs u ≡ has (listed es) u = same (mirror u) ∙ named.members u is in
    it ∙ elim (cases_Bool (has (listed es) u)) [
      | inl here ↦ here ∙ sym (elim (IsPossibleUid-either es u v.0) [
        | inl may ↦ (IsPossibleUid-iff es u v.0).0 may
        | inr none ↦ absurd (v.1 u (here, none))
      ])
      | inr out ↦ out ∙ sym (false_from_ne_true _ (λ h.
          let mask = (unsettled_iff es).1 (u, (IsPossibleUid-iff es u v.0).1 h, out) in
          v.3 mask.0 mask.1))
    ]
