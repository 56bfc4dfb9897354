-- The margin of a log, and its first mask, by the parts.
use Rattle.vic_margin.proofs.Words.{◌≡◌, ◌==◌, ℕ, ◌^◌, ◌<◌, ◌∙◌, Bool, true, false, not, ◌&&◌, List, Some, None, length, slice_index, inl, inr, sym, ap, arith, nat_tests, cases_Bool, both_ways, and_parts, eqb-true, has, IsUid, mirror, uid_of, mirror_below, mirror_of_uid, is_uid, Entry, AreBorders, IsPartOf, AreMargins, margin_of}
use Rattle.std.proofs.lemmas.Map.Steps.{le-length_from_below}
use Rattle.vic_frame.specs.Masks.{BitMask}
use Rattle.vic_log.specs.Order.{listed}
use Rattle.vic_tree.specs.Keys.{AreKeysOf}
use Rattle.vic_tree.specs.OpenSet.{IsWidest, SameUids, has_key, without_keys}
use Rattle.vic_tree.specs.Ranges.{in_ranges, is_outside}
use Rattle.vic_verdict.specs.Rising.{SameMembers}
use Rattle.vic_verdict.specs.Verdict.{IsFirstMask}
use Rattle.vic_walk.proofs.PartLaws.{part_of_key}
use Rattle.vic_margin.specs.Margins.{IsMarginBesides, IsMarginOfSome, IsOfMargin}
use Rattle.vic_margin.specs.inner.Least.{HasMargin, IsLeastOf, is_free}

-- ---- not all UIDs have one of the keys

-- the keys of the UIDs of a list
abbrev pub AreListKeys : List ℕ → List ℕ → Type 0
AreListKeys us keys = (u : ℕ) → IsUid u → has_key keys u ≡ has us u

some_free : (keys : List ℕ) → length keys < 2 ^ 56 → ((k : ℕ) → k < 2 ^ 56 → has keys k ≡ true) → ⊥
some_free keys short all = let long = le-length_from_below keys (2 ^ 56) all in omega (arith, long, short)

-- so there is a least margin
pub least_is_there : (bs ms keys : List ℕ) → AreBorders bs → length keys < 2 ^ 56 → IsLeastOf bs ms (is_free keys (2 ^ 56)) None → ⊥
least_is_there bs ms keys borders short h = some_free keys short (λ k lt. elim (cases_Bool (has keys k)) [
  | inl taken ↦ taken
  | inr free ↦
      let own = part_of_key bs k borders lt in
      let it : is_free keys (2 ^ 56) k ≡ true = rw free (grind (arith, nat_tests, lt)) in
      absurd (h.least k own.0 it own.1)
])

-- ---- the least margin

free_is : (us keys : List ℕ) (u : ℕ) → AreListKeys us keys → IsUid u → is_free keys (2 ^ 56) (mirror u) ≡ not (has us u)
free_is us keys u named is = let lt = mirror_below 56 u in rw (← named u is) (grind (arith, nat_tests, lt))

-- a wanted key is that of a UID outside of the list with the margin of its part
pub some_of_margin : (bs ms keys : List ℕ) (es : List Entry) (us : List ℕ) (m : ℕ) → AreMargins bs es ms → AreListKeys us keys → HasMargin bs ms (is_free keys (2 ^ 56)) m → IsMarginOfSome es us m
some_of_margin bs ms keys es us m margins named h =
    let lt : h.key < 2 ^ 56 = (let w = h.is_wanted in grind (arith, nat_tests, and_parts, w)) in
    let back = mirror_of_uid h.key lt in
    let free : not (has us (uid_of h.key)) ≡ true = sym (free_is us keys (uid_of h.key) named (is_uid h.key)) ∙ (ap (is_free keys (2 ^ 56)) back ∙ h.is_wanted) in
    record {
      uid = uid_of h.key;
      is_uid = is_uid h.key;
      unlisted = grind (arith, nat_tests, free);
      margin = sym (margins.margin (uid_of h.key) h.part (is_uid h.key) (rw back h.of)) ∙ h.margin;
    }

pub is_margin : (bs ms keys : List ℕ) (es : List Entry) (us : List ℕ) (m : ℕ) → AreBorders bs → AreMargins bs es ms → AreListKeys us keys → IsLeastOf bs ms (is_free keys (2 ^ 56)) (Some m) → IsMarginBesides es us m
is_margin bs ms keys es us m borders margins named h = (
  some_of_margin bs ms keys es us m margins named h.found,
  λ n some.
      let own = part_of_key bs (mirror some.uid) borders (mirror_below 56 some.uid) in
      let free : is_free keys (2 ^ 56) (mirror some.uid) ≡ true = free_is us keys some.uid named some.is_uid ∙ ap not some.unlisted in
      let up = h.least (mirror some.uid) own.0 free own.1 in
      let e = margins.margin some.uid own.0 some.is_uid own.1 in
      let f = some.margin in
      omega (arith, up, e, f),
)

-- ---- the set of UIDs that have it

-- of a UID, whether its margin is this one, and it isn't in the list
abbrev pub has_it : List Entry → List ℕ → ℕ → ℕ → Bool
has_it es us m u = (margin_of es u == m) && not (has us u)

pub set_is : (bs ms keys : List ℕ) (es : List Entry) (us : List ℕ) (m : ℕ) (set : ℕ → Bool) (rs : List (ℕ × ℕ)) → AreBorders bs → AreMargins bs es ms → AreListKeys us keys
    → ((k p : ℕ) → IsPartOf bs k p → k < 2 ^ 56 → in_ranges rs k ≡ not (slice_index ms p == m)) → SameUids set (is_outside rs)
    → (u : ℕ) → IsUid u → without_keys set keys u ≡ has_it es us m u
set_is bs ms keys es us m set rs borders margins named others same u is =
    let lt = mirror_below 56 u in
    let own = part_of_key bs (mirror u) borders lt in
    let a = others (mirror u) own.0 own.1 lt in
    let b = margins.margin u own.0 is own.1 in
    let c = same u is in
    let d = named u is in
    rw (c, d, a, b) (grind (arith, nat_tests))

-- and a mask of such UIDs
of_mask : (es : List Entry) (us : List ℕ) (m : ℕ) (set : ℕ → Bool) (mask : BitMask) → ((u : ℕ) → IsUid u → set u ≡ has_it es us m u) → IsWidest set mask → IsOfMargin es us m mask
of_mask es us m set mask is h = record {
  short = h.short;
  fits = h.is_mask.1;
  unlisted = λ u uid lies. let it = sym (is u uid) ∙ h.open_throughout u uid lies in let w = and_parts (margin_of es u == m) (not (has us u)) it in grind (arith, nat_tests, w.1);
  margin = λ u uid lies. let it = sym (is u uid) ∙ h.open_throughout u uid lies in let w = and_parts (margin_of es u == m) (not (has us u)) it in eqb-true (margin_of es u) m w.0;
}

pub first_of_margin : (es : List Entry) (us : List ℕ) (m : ℕ) (set : ℕ → Bool) (mask : BitMask) → ((u : ℕ) → IsUid u → set u ≡ has_it es us m u) → IsWidest set mask → IsFirstMask (IsOfMargin es us m) mask
first_of_margin es us m set mask is h = (
  of_mask es us m set mask is h,
  λ k w. let short = w.short in h.least k (omega (arith, short), w.fits) w.short (λ u uid lies. is u uid ∙ (let a = w.margin u uid lies in let b = w.unlisted u uid lies in rw (a, b) (grind (arith, nat_tests)))),
)

-- which isn't empty
pub set_has_some : (es : List Entry) (us : List ℕ) (m : ℕ) (set : ℕ → Bool) → ((u : ℕ) → IsUid u → set u ≡ has_it es us m u) → IsMarginOfSome es us m → SameUids set (λ _. false) → ⊥
set_has_some es us m set is some none =
    let a = some.margin in
    let b = some.unlisted in
    let it : has_it es us m some.uid ≡ true = rw (a, b) (grind (arith, nat_tests)) in
    both_ways _ (none some.uid some.is_uid) (is some.uid some.is_uid ∙ it)

-- the keys of what a log lists
pub keys_listed : (es : List Entry) (keys us vs : List ℕ) → AreKeysOf keys vs → vs ≡ us → SameMembers us (listed es) → AreKeysOf keys (listed es)
keys_listed es keys us vs k is same = record {
  order = k.order;
  keys = k.keys;
  members = λ u uid. k.members u uid ∙ (ap (λ xs. has xs u) is ∙ same u);
  are_uids = λ u h. k.are_uids u (ap (λ xs. has xs u) is ∙ (same u ∙ h));
}
