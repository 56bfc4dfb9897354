-- Parts of a tally that are turned: from what isn't counted to what is, and back.
use Rattle.vic_margin.proofs.Words.{◌≡◌, ◌≢◌, ℕ, ◌+◌, ◌-◌, ◌<◌, Bool, true, false, not, ◌&&◌, length, nat_lt, slice_index, slice_set, inl, inr, refl, sym, ◌∙◌, arith, nat_tests, cases_eq, get_or-set_same, get_or-set_other}
use Rattle.std.proofs.Math.ListN.{length-set}
use Rattle.vic_walk.specs.Marked.{is_marked}
use Rattle.vic_margin.specs.declared.tally.Tally.{Tally}
use Rattle.vic_margin.specs.inner.Counts.{count_at}
use Rattle.vic_margin.specs.inner.Tallies.{IsTurned}

-- ---- a part more

-- no part is turned
pub none_turned : (which : ℕ → Bool) (t : Tally) → ((p : ℕ) → which p ≡ false) → IsTurned which t t
none_turned which t none = record {
  turned = λ p lt it. let isnt = none p in absurd (cc);
  same = λ p it. refl;
  counts = refl;
  size = refl;
}

-- one part more is turned
pub turned_next : (which more : ℕ → Bool) (part : ℕ) (old now new : Tally) → part < length old.rest.items
    → which part ≡ false → more part ≡ true → ((p : ℕ) → p ≢ part → more p ≡ which p)
    → new.rest.items ≡ slice_set now.rest.items part (count_at now.counts part - slice_index now.rest.items part) → new.counts ≡ now.counts
    → IsTurned which old now → IsTurned more old new
turned_next which more part old now new lt isnt is others rest counts h = record {
  turned = λ p within it. elim (cases_eq p part) [
    | inl here ↦
        let e = h.same part isnt in
        let l = old.least part lt in
        let s = get_or-set_same now.rest.items part (count_at now.counts part - slice_index now.rest.items part) 0 (omega (arith, lt, h.size)) in
        rw (here, rest, s, h.counts, e) (omega arith)
    | inr other ↦ rw (rest, get_or-set_other now.rest.items part p (count_at now.counts part - slice_index now.rest.items part) 0 other) (h.turned p within (sym (others p other) ∙ it))
  ];
  same = λ p it. elim (cases_eq p part) [
    | inl here ↦ let bad = rw here at it in absurd (cc)
    | inr other ↦ rw (rest, get_or-set_other now.rest.items part p (count_at now.counts part - slice_index now.rest.items part) 0 other) (h.same p (sym (others p other) ∙ it))
  ];
  counts = counts ∙ h.counts;
  size = rw rest (length-set now.rest.items part _ ∙ h.size);
}

-- ---- all Quiet parts

-- those before `from` are turned, and Ready
pub record IsWokenTo (old now : Tally) (from : ℕ) : Type 0 where
  pub turned : IsTurned (λ p. is_marked old.quiet p && nat_lt p from) old now
  pub quiet : (p : ℕ) → is_marked now.quiet p ≡ (is_marked old.quiet p && not (nat_lt p from))

-- ---- all Ready parts

abbrev pub is_ready_before : ℕ → Tally → ℕ → Bool
is_ready_before n t p = nat_lt p n && not (is_marked t.quiet p)

ready_other : (n p : ℕ) (t : Tally) → p ≢ n → is_ready_before (n + 1) t p ≡ is_ready_before n t p
ready_other n p t other = grind (arith, nat_tests)

pub turned_more : (part : ℕ) (old now new : Tally) → part < length old.rest.items
    → is_marked old.quiet part ≡ false
    → new.rest.items ≡ slice_set now.rest.items part (count_at now.counts part - slice_index now.rest.items part) → new.counts ≡ now.counts
    → IsTurned (is_ready_before part old) old now → IsTurned (is_ready_before (part + 1) old) old new
turned_more part old now new lt ready rest counts h =
    turned_next (is_ready_before part old) (is_ready_before (part + 1) old) part old now new lt (grind (arith, nat_tests)) (rw ready (grind (arith, nat_tests))) (λ p other. ready_other part p old other) rest counts h

ready_past : (n p : ℕ) (t : Tally) → is_marked t.quiet n ≡ true → is_ready_before (n + 1) t p ≡ is_ready_before n t p
ready_past n p t quiet = elim (cases_eq p n) [
  | inl here ↦ rw (here, quiet) (grind (arith, nat_tests))
  | inr other ↦ ready_other n p t other
]

pub turned_past : (part : ℕ) (old now : Tally) → is_marked old.quiet part ≡ true → IsTurned (is_ready_before part old) old now → IsTurned (is_ready_before (part + 1) old) old now
turned_past part old now quiet h = record {
  turned = λ p lt it. h.turned p lt (sym (ready_past part p old quiet) ∙ it);
  same = λ p it. h.same p (sym (ready_past part p old quiet) ∙ it);
  counts = h.counts;
  size = h.size;
}
