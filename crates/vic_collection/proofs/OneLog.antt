-- What one log alone tells together is what the log tells.
use Rattle.vic_collection.proofs.Words.{◌≡◌, ℕ, List, [], ◌∷◌, true, refl, sym, subst, ◌∙◌, ◌↔◌, has, or-false, entries, lines_of_text, IsLogOf, LogLine, LogValue, FitsTexts, HasPossibleLog, IsCertainIn, IsCertainUid, IsPossibleIn, IsPossibleUid, MayHaveBeen}
use Rattle.std.proofs.lemmas.List.Elements.{All-cons, All-head, All-nil}
use Rattle.vic_log.specs.Order.{listed}
use Rattle.vic_tree.specs.declared.open_masks.OpenMasks.{OpenMasks}
use Rattle.vic_verdict.specs.Differences.{IsLeftOpen}
use Rattle.vic_verdict.specs.Possible as one
use Rattle.vic_verdict.specs.Verdict as verdict
use Rattle.vic_report.specs.Reports as report
use Rattle.vic_report.specs.declared.findings.Findings.{Findings as LogFindings}
use Rattle.vic_report.specs.declared.findings.Unsettled.{Unsettled}
use Rattle.vic_collection.specs.declared.findings.Findings.{Findings}
use Rattle.vic_collection.specs.Against.{AgreeWithReport, AreFindingsAgainst, AreOpenMasksOfLog, IsWhole}
use Rattle.vic_collection.proofs.Agreeing.{SameUids, absent_as, doubtful_as, first_of, same_first, same_list, unlisted_as, unsettled_as}
use Rattle.vic_collection.proofs.Families.{any_one, certain_in_some, possible_in_some}
use Rattle.vic_collection.proofs.Texts.{certain_as, may_be, possible_as}

-- a family of one log is one population
of_one : (text : List ℕ) (family : List (List ℕ)) → FitsTexts family (text ∷ []) → (p : List ℕ) × MayHaveBeen p text × (family ≡ p ∷ [])
of_one text (p ∷ []) f = (p, f.0, refl)
of_one text _ f = absurd assumption

module _ (text : List ℕ) (log : LogValue) (is : IsLogOf (lines_of_text text) log) where
  pub one_possible_uid : one.IsPossible (entries log.lines) → (u : ℕ) → IsPossibleUid (text ∷ []) u ↔ one.IsPossibleUid (entries log.lines) u
  one_possible_uid possible u =
      let some = possible_in_some (text ∷ []) u in
      let alone = any_one (IsPossibleIn u) text in
      let same = possible_as text log is possible u in
      ((λ h. same.0 (alone.0 (some.0 h))), (λ h. some.1 (alone.1 (same.1 h))))

  pub one_certain_uid : one.IsPossible (entries log.lines) → (u : ℕ) → IsCertainUid (text ∷ []) u ↔ one.IsCertainUid (entries log.lines) u
  one_certain_uid possible u =
      let some = certain_in_some (text ∷ []) u in
      let alone = any_one (IsCertainIn u) text in
      let same = certain_as text log is possible u in
      ((λ h. same.0 (alone.0 (some.0 h))), (λ h. some.1 (alone.1 (same.1 h))))

  pub one_whole : IsWhole (listed (entries log.lines)) (text ∷ []) ↔ verdict.IsWhole (entries log.lines)
  one_whole = (
    (λ w.
        let h = All-head HasPossibleLog text [] w.possible in
        let possible = subst (λ (lines : List LogLine). one.IsPossible (entries lines)) (h.is_log.all ∙ sym is.all) h.possible in
        (possible, λ p i given u. subst (λ b. (b ≡ true) ↔ (has (listed (entries log.lines)) u ≡ true)) (or-false (has p u)) (w.exact (p ∷ []) (may_be text log is p i given, tt) u))),
    (λ w. record {
      possible = All-cons HasPossibleLog text [] (record { log = log; is_log = is; possible = w.0 }) (All-nil HasPossibleLog);
      exact = λ family f u.
          let p = of_one text family f in
          rw (p.2, or-false (has p.0 u)) (w.1 p.0 p.1.0 (p.1.1 log is w.0) u);
    }),
  )

  -- ---- the findings

  same_in_one : one.IsPossible (entries log.lines) → SameUids (IsPossibleUid (text ∷ [])) (IsCertainUid (text ∷ [])) (one.IsPossibleUid (entries log.lines)) (one.IsCertainUid (entries log.lines))
  same_in_one possible = record { possible = one_possible_uid possible; certain = one_certain_uid possible }

  pub one_report : one.IsPossible (entries log.lines) → (f : Findings) (g : LogFindings) → AreFindingsAgainst (has (listed (entries log.lines))) (has (listed (entries log.lines))) (text ∷ []) f → report.AreFindings log.lines g → AgreeWithReport f g
  one_report possible f g h k =
      let es = entries log.lines in
      let same = same_in_one possible in
      record {
        absent = same_list _ _ _ _ (absent_as _ _ _ _ (listed es) same) h.absent k.absent;
        unlisted = same_list _ _ _ _ (unlisted_as _ _ _ _ (listed es) same) h.unlisted k.unlisted;
        unsettled = same_first _ _ _ _ (unsettled_as _ _ _ _ (listed es) same) h.unsettled (first_of (IsLeftOpen es) _ (λ (x : Unsettled). x.mask) g.unsettled (λ x w. w.mask) k.unsettled);
        doubtful = same_list _ _ _ _ (doubtful_as _ _ _ _ (listed es) same) h.doubtful k.doubtful;
      }

  pub one_open_masks : one.IsPossible (entries log.lines) → (o : OpenMasks) → AreOpenMasksOfLog (text ∷ []) text o ↔ report.AreOpenMasks (entries log.lines) o
  one_open_masks possible o = (
    (λ h. record {
      set = h.set;
      uids = λ u i. let w = h.uids u i in let p = possible_as text log is possible u in let c = one_certain_uid possible u in
          ((λ s. let x = w.0 s in (p.0 x.0, λ d. x.1 (c.1 d))), (λ x. w.1 (p.1 x.0, λ d. x.1 (c.0 d))));
      first = h.first;
      more = h.more;
    }),
    (λ h. record {
      set = h.set;
      uids = λ u i. let w = h.uids u i in let p = possible_as text log is possible u in let c = one_certain_uid possible u in
          ((λ s. let x = w.0 s in (p.1 x.0, λ d. x.1 (c.0 d))), (λ x. w.1 (p.0 x.0, λ d. x.1 (c.1 d))));
      first = h.first;
      more = h.more;
    }),
  )
