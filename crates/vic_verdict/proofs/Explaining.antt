-- A gathered population shows the verdict.
use Rattle.vic_verdict.proofs.Words.{◌≡◌, ℕ, List, [], ◌∷◌, ◌++◌, true, Option, Some, None, has_cases, sym, ap, ◌∙◌, append-nil, arith, nat_eq, list_any-append, ⊎_elim, ◌⊎◌, inl, inr, subst, false≢true, IsStrictlyIncreasing, false_from_ne_true, has, BitMask, lies_in, Entry, LogLine, entries, has_here, Met, IsMet, chosen, flat_map, chosen_population, nat_tests, IsPossible, IsPossibleUid, IsCertainUid, SameMembers, IsVerdict, least_uid_in, Absent, Unlisted, Unsettled, Doubtful, IsSmallPopulation, IsPopulationBehind}
use Rattle.vic_verdict.specs.declared.judging.Verdict.{Verdict}
use Rattle.vic_verdict.proofs.Gathering.{AvoidsNoneCertain, append_right, gathered_small, gathered_other}
use Rattle.vic_verdict.proofs.Masks.{lies_in-uid_in, IsUid-in}

-- what was gathered, without one more
gathered_alone : (es : List Entry) (m : Met) (avoid : Option ℕ) (us : List ℕ) → IsPossible es → AvoidsNoneCertain es avoid → IsMet es m → IsStrictlyIncreasing us → SameMembers us (chosen_population avoid m) → IsSmallPopulation es us
gathered_alone es m avoid us possible none met rising same =
    gathered_small es m avoid [] us possible none met (λ u no. absurd (false≢true no)) (omega arith) rising (λ u. rw append-nil (same u))

-- it lacks an absent UID, and has an unlisted one
pub known_shown : (lines : List LogLine) (m : Met) (us : List ℕ) (v : Verdict) → IsVerdict lines v → ((u : ℕ) × (v ≡ Absent u)) ⊎ ((u : ℕ) × (v ≡ Unlisted u)) → IsMet (entries lines) m → IsStrictlyIncreasing us → SameMembers us (chosen_population None m) → IsPopulationBehind (entries lines) v us
known_shown lines m us v is which met rising same =
    let small = λ (possible : IsPossible (entries lines)). gathered_alone (entries lines) m None us possible (λ a e. cc) met rising same in
    elim which [
      | inl a ↦
          let here = subst (IsVerdict lines) a.1 is in
          rw a.1 (small here.0, false_from_ne_true _ (λ h. here.1.0.1 (us, (small here.0).population, (small here.0).could, h)))
      | inr a ↦
          let here = subst (IsVerdict lines) a.1 is in
          rw a.1 (small here.0, here.2.0.0 us (small here.0).population (small here.0).could)
    ]

pub doubtful_shown : (lines : List LogLine) (m : Met) (us : List ℕ) (u : ℕ) → IsVerdict lines (Doubtful u) → IsMet (entries lines) m → IsStrictlyIncreasing us → SameMembers us (chosen_population (Some u) m) → IsPopulationBehind (entries lines) (Doubtful u) us
doubtful_shown lines m us u v met rising same =
    let es = entries lines in
    let uncertain = v.4.0.1 in (
      gathered_alone es m (Some u) us v.0 (λ a e certain. let it : a ≡ u = cc in uncertain (subst (IsCertainUid es) it certain)) met rising same,
      false_from_ne_true _ (λ h. gathered_other es m u uncertain met (sym (same u) ∙ h)),
    )

-- of three lists the last two may change places
turned : (xs ys zs : List ℕ) (u : ℕ) → has ((xs ++ ys) ++ zs) u ≡ has ((xs ++ zs) ++ ys) u
turned xs ys zs u = grind (arith, nat_tests, list_any-append (nat_eq u) (xs ++ ys) zs, list_any-append (nat_eq u) xs ys, list_any-append (nat_eq u) (xs ++ zs) ys, list_any-append (nat_eq u) xs zs)

-- with the least UID of an unsettled mask, as if it had been heard
pub unsettled_shown : (lines : List LogLine) (m : Met) (us heard : List ℕ) (k : BitMask) (x : ℕ) → IsVerdict lines (Unsettled k) → IsMet (entries lines) m → x ≡ least_uid_in k → heard ≡ m.heard.items ++ x ∷ [] → IsStrictlyIncreasing us → SameMembers us (heard ++ flat_map (chosen None) m.unread.items) → IsPopulationBehind (entries lines) (Unsettled k) us
unsettled_shown lines m us heard k x v met is more rising same =
    let es = entries lines in
    let all = chosen_population None m in
    let mask = v.3.0 in
    let inside : lies_in k x ≡ true = rw is (lies_in-uid_in k mask.0 mask.1) in
    let may : IsPossibleUid es x = (mask.2 x (rw is (IsUid-in k mask.0 mask.1)) inside).0 in
    let members : SameMembers us (all ++ x ∷ []) = λ u. same u ∙ ap (λ xs. has (xs ++ flat_map (chosen None) m.unread.items) u) more ∙ turned m.heard.items (x ∷ []) (flat_map (chosen None) m.unread.items) u in (
      gathered_small es m None (x ∷ []) us v.0 (λ a e. cc) met (λ u h. ⊎_elim (λ e. subst (IsPossibleUid es) (sym e) may) (λ no. absurd (false≢true no)) (has_cases u x [] h)) (omega arith) rising members,
      (x, inside, members x ∙ append_right all (x ∷ []) x (has_here x [])),
    )
