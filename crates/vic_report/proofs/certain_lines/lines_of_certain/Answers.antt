use Rattle.vic_report.proofs.Words.{◌≡◌, ◌∙◌, ◌++◌, ℕ, List, Some, None, true, ap, arith, cases_lt, inl, inr, false≢true, get_or, length, refl, subst, sym, take, has, Answering, LogLine, entries, member_at, IsStrictlyIncreasing}
use Rattle.std.proofs.Common.{Option, is_some, replicate}
use Rattle.std.proofs.Math.Seq.{take-append_seam}
use Rattle.std.proofs.lemmas.List.{get_or-replicate, get_or_past, length-replicate}
use Rattle.std.proofs.lemmas.Result.{IfOk-weaker}
use Rattle.vic_report.proofs.NotedLines.{met_noted, shown_first}
use Rattle.vic_report.specs.inner.NotedLines.{HasNoted}
use Rattle.vic_verdict.specs.Needs.{SomeForces}
use Rattle.vic_verdict.specs.Verdict.{IsHeard}
use Rattle.vic_report.proofs.certain_lines.lines_of_certain.Goals as goal

refilled : (n : ℕ) (ws ys : List (Option ℕ)) → n ≡ length ws → take n (ws ++ ys) ≡ ws
refilled n ws ys is = ap (λ k. take k (ws ++ ys)) is ∙ take-append_seam ws ys

-- replies are noted, and then unread slots
both : (lines : List LogLine) (us : List ℕ) (fs gs : List Answering) (a b b' d d' : List (Option ℕ)) → b' ≡ b → d' ≡ d → gs ≡ fs
    → (IsStrictlyIncreasing us → HasNoted lines us a b (IsHeard (entries lines))) → (IsStrictlyIncreasing us → HasNoted lines us b' d (SomeForces gs)) → IsStrictlyIncreasing us
    → HasNoted lines us a b (IsHeard (entries lines)) × HasNoted lines us b d' (SomeForces fs)
both lines us fs gs a b b' d d' same_b same_d same replies unread up =
    (replies up, subst (λ ws. HasNoted lines us b d' (SomeForces ws)) same (subst (λ x. HasNoted lines us x d' (SomeForces gs)) same_b (subst (λ x. HasNoted lines us b' x (SomeForces gs)) (sym same_d) (unread up))))

none_at : (k i n : ℕ) (noted : List (Option ℕ)) → noted ≡ replicate k None → get_or noted i None ≡ Some n → ⊥
none_at k i n noted is e = false≢true (ap is_some (sym none) ∙ ap is_some e) where
  none : get_or noted i None ≡ None
  none = ap (λ xs. get_or xs i None) is ∙ elim (cases_lt i k) [
    | inl lt ↦ get_or-replicate k i None None lt
    | inr past ↦ get_or_past (replicate k None) i None (let blank : List (Option ℕ) = replicate k None in let size : length blank ≡ k = length-replicate k None in omega (arith, size, past))
  ]

pub each_with_its_line-requires-clause-noted : goal.each_with_its_line-requires-clause-noted
each_with_its_line-requires-clause-noted c i lt =
    let us = c.as_slice-uids.result.now in
    let u = get_or us i 0 in
    let must = c.requires.certain u (subst (λ vs. has vs u ≡ true) c.as_slice-uids.ensures.value (member_at us i u 0 lt refl)) in
    let w = both c.args.lines.now us _ _ _ _ _ _ _
    (c.deref_mut-2.ensures.value ∙ refilled _ _ _ (omega (arith, c.deref_mut.ensures.len, c.note_replies.auto.noted)))
    (c.deref-2.ensures.value ∙ refilled _ _ _ (omega (arith, c.deref_mut-2.ensures.len, c.note_unread.auto.noted)))
    c.deref.ensures.value c.note_replies.ensures.noted c.note_unread.ensures (subst IsStrictlyIncreasing (sym c.as_slice-uids.ensures.value) c.as_slice-uids.ensures.rising) in
    met_noted c.args.lines.now us c.args.met.now _ _ _ i c.requires.possible c.requires.met w.0 w.1 lt must

pub returns-clause-shown : goal.returns-clause-shown
returns-clause-shown c =
    let blank = c.deref_mut.ensures.value ∙ c.in_ok-noted.ensures.items_if_clones_equal (λ y e. grind (arith)) in
    let w = both c.args.lines.now c.as_slice-uids.result.now _ _ _ _ _ _ _
    (c.deref_mut-2.ensures.value ∙ refilled _ _ _ (omega (arith, c.deref_mut.ensures.len, c.note_replies.auto.noted)))
    (c.deref-2.ensures.value ∙ refilled _ _ _ (omega (arith, c.deref_mut-2.ensures.len, c.note_unread.auto.noted)))
    c.deref.ensures.value c.note_replies.ensures.noted c.note_unread.ensures (subst IsStrictlyIncreasing (sym c.as_slice-uids.ensures.value) c.as_slice-uids.ensures.rising) in
    IfOk-weaker c.each_with_its_line.result _ _ (λ v shows. shows c.args.lines.now (w.1.shown (w.0.shown (λ i n e. absurd (none_at _ i n _ blank e))))) c.each_with_its_line.ensures.shown

pub returns-clause-first : goal.returns-clause-first
returns-clause-first c =
    let lines = c.args.lines.now in
    let us = c.as_slice-uids.result.now in
    let up : IsStrictlyIncreasing us = subst IsStrictlyIncreasing (sym c.as_slice-uids.ensures.value) c.as_slice-uids.ensures.rising in
    let blank = c.deref_mut.ensures.value ∙ c.in_ok-noted.ensures.items_if_clones_equal (λ y e. grind (arith)) in
    let w = both lines us _ _ _ _ _ _ _
    (c.deref_mut-2.ensures.value ∙ refilled _ _ _ (omega (arith, c.deref_mut.ensures.len, c.note_replies.auto.noted)))
    (c.deref-2.ensures.value ∙ refilled _ _ _ (omega (arith, c.deref_mut-2.ensures.len, c.note_unread.auto.noted)))
    c.deref.ensures.value c.note_replies.ensures.noted c.note_unread.ensures up in
    let first = c.note_replies.ensures.first up (λ i n e. absurd (none_at _ i n _ blank e)) in
    IfOk-weaker c.each_with_its_line.result _ _ (λ v shown. shown lines (shown_first lines us _ _ _ _ w.0 w.1 first)) c.each_with_its_line.ensures.first
