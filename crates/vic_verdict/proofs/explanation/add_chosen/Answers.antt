use Rattle.vic_verdict.proofs.Words.{[], ◌∷◌, ◌++◌, ◌+◌, ◌-◌, ◌<◌, ◌≡◌, sym, ◌∙◌, arith, is_other, chosen, Bool, List, append_assoc, drop, drop_more, false, filter, get_or, length, nat_eq, nat_tests, None, not, Option, refl, Some, take, true, ℕ}
use Rattle.std.specs.Option.{option_eq}
use Rattle.vic_verdict.proofs.explanation.add_chosen.Goals as goal
use Rattle.vic_verdict.proofs.explanation.add_chosen.Goals.{then-left-gt0+then-ne+in_ok-push, else-left-gt0, else-left-gt0-via-then-left-gt0+else-ne, else-left-gt0-via-else-left-gt0}

-- what the code tests
other_same : (avoid : Option ℕ) (u : ℕ) → not (option_eq nat_eq avoid (Some u)) ≡ is_other avoid u
other_same None u = refl
other_same (Some a) u = refl

-- one is taken
is_taken : (p : ℕ → Bool) (xs us all : List ℕ) (i x left : ℕ) → i < length xs → x ≡ get_or xs i x → 0 < left → p x ≡ true → us ++ take left (filter p (drop i xs)) ≡ all → (us ++ x ∷ []) ++ take (left - 1) (filter p (drop (i + 1) xs)) ≡ all
is_taken p xs us all i x left lt e more passes h = grind (arith, nat_tests, append_assoc, drop_more)

-- one is avoided
is_avoided : (p : ℕ → Bool) (xs us all : List ℕ) (i x left : ℕ) → i < length xs → x ≡ get_or xs i x → p x ≡ false → us ++ take left (filter p (drop i xs)) ≡ all → us ++ take left (filter p (drop (i + 1) xs)) ≡ all
is_avoided p xs us all i x left lt e fails h = grind (arith, nat_tests, drop_more xs i x lt)

pub loop-uid-preserved : goal.loop-uid-preserved
loop-uid-preserved c =
    let p = is_other c.args.avoid.now in
    let xs = c.as_slice-uid-items.result.now in
    let i = c.loop-uid.uid-index in
    let x = c.uid-item.result in
    let all = c.args.uids.now.items ++ chosen c.args.avoid.now c.args.slot.now in
    let before = c.loop-uid.invariant in
    let within = c.loop-uid-test.true in
    let here = c.uid-item.is in
    elim c.if-left-gt0.branch [
      | then-left-gt0+then-ne+in_ok-push w ↦ rw (w.uids-is, w.left-is, w.in_ok-push.ensures.items) (is_taken p xs c.loop-uid.uids.items all i x c.loop-uid.left within here w.if-left-gt0.true (sym (sym w.if-ne.true ∙ w.ne.ensures ∙ other_same c.args.avoid.now x)) before)
      | else-left-gt0 w ↦ elim w.else-left-gt0.branch [
        | else-left-gt0-via-then-left-gt0+else-ne w' ↦ rw (w.uids-is, w.left-is) (is_avoided p xs c.loop-uid.uids.items all i x c.loop-uid.left within here (sym (sym w'.if-ne.false ∙ w'.ne.ensures ∙ other_same c.args.avoid.now x)) before)
        | else-left-gt0-via-else-left-gt0 w' ↦ let none : c.loop-uid.left ≡ 0 = omega (arith, w'.if-left-gt0.false) in rw (w.uids-is, w.left-is, none) (rw none at before)
      ]
    ]
