-- What a cautious reading of a log with a complete list tells, by its margin.
use Rattle.std.proofs.Common.{◌≡◌, ◌∙◌, ◌<◌, ℕ, true, false, List, Some, None, length, refl, sym, subst, ap, arith, inl, inr}
use Rattle.std.proofs.lemmas.Bool.{cases_Bool}
use Rattle.vic_frame.specs.Uids.{has}
use Rattle.vic_log.proofs.Cautious.{deaf_weaker_self, hidden_weaker}
use Rattle.vic_log.proofs.Sets.{IsUid-member}
use Rattle.vic_log.proofs.Weaker.{weaker_given, weaker_listed}
use Rattle.vic_log.specs.Order.{entries, listed}
use Rattle.vic_log.specs.Populations.{CouldHaveGiven, IsPopulation}
use Rattle.vic_log.specs.Weaker.{AreWeaker}
use Rattle.vic_log.specs.declared.entry.Entry.{Entry}
use Rattle.vic_log.specs.declared.entry.LogLine.{LogLine}
use Rattle.vic_verdict.proofs.Verdicts.{complete_whole, unsettled_iff, whole_complete}
use Rattle.vic_verdict.specs.Possible.{IsPossible}
use Rattle.vic_verdict.specs.Verdict.{IsFirstMask, IsUnsettled, IsVerdict, IsWhole}
use Rattle.vic_verdict.specs.declared.judging.Verdict.TheVariants.{Complete, Unsettled}
use Rattle.vic_margin.proofs.Differing.{no_margin, possible_never}
use Rattle.vic_margin.proofs.LawLemmas.{of_unsettled, unsettled_of}
use Rattle.vic_margin.proofs.SamePopulations.{same_deaf, same_hidden}
use Rattle.vic_margin.specs.Margins.{IsOfMargin, IsWeakest}
use Rattle.vic_margin.specs.Readings.{IsFirstOpened}
use Rattle.vic_margin.specs.UidMargins.{margin_of}
use Rattle.vic_margin.specs.declared.answer.Weakest.{Weakest}
use Rattle.vic_object.specs.Told.{IsToldBy}
use Rattle.vic_object.specs.inner.Cautious.{AreHiddenOrDeaf}

reading_weaker : (ds es : List Entry) → AreHiddenOrDeaf ds es → AreWeaker ds es
reading_weaker ds es (inl e) = subst (λ xs. AreWeaker xs es) (sym e) (hidden_weaker es)
reading_weaker ds es (inr e) = subst (λ xs. AreWeaker xs es) (sym e) (deaf_weaker_self es)

-- where it opens no UID, the same populations could have given it
reading_given : (ds es : List Entry) → AreHiddenOrDeaf ds es → IsPossible es → IsFirstOpened ds es None → (p : List ℕ) → IsPopulation p → CouldHaveGiven p ds → CouldHaveGiven p es
reading_given ds es (inl e) possible none p pop given = (same_hidden es possible (subst (λ xs. IsFirstOpened xs es None) e none) p pop).0 (subst (λ xs. CouldHaveGiven p xs) e given)
reading_given ds es (inr e) possible none p pop given = (same_deaf es possible (subst (λ xs. IsFirstOpened xs es None) e none) p pop).0 (subst (λ xs. CouldHaveGiven p xs) e given)

-- what the entries list, the reading lists
has_same : (ds es : List Entry) (u : ℕ) → AreWeaker ds es → has (listed ds) u ≡ has (listed es) u
has_same ds es u w = ap (λ us. has us u) (weaker_listed ds es w)

still_possible : (ds es : List Entry) → AreWeaker ds es → IsPossible es → IsPossible ds
still_possible ds es w p = (p.0, p.1, weaker_given ds es w p.0 p.2)

still_whole : (ds es : List Entry) → AreHiddenOrDeaf ds es → IsWhole es → IsFirstOpened ds es None → IsWhole ds
still_whole ds es r whole none =
    let w = reading_weaker ds es r in (
      still_possible ds es w whole.0,
      λ p pop given u.
          let it = whole.1 p pop (reading_given ds es r whole.0 none p pop given) u in
          (λ h. has_same ds es u w ∙ it.0 h, λ h. it.1 (sym (has_same ds es u w) ∙ h)),
    )

-- a UID that isn't listed is possible in it if it was overlooked nowhere
reading_none : (ds es : List Entry) (w : Weakest) → AreHiddenOrDeaf ds es → IsWhole es → IsWeakest ds w → 0 < w.margin → IsFirstOpened ds es None
reading_none ds es w r whole weakest some u may =
    let weaker = reading_weaker ds es r in
    let is = IsUid-member may.0 u may.1 may.3 in
    let sure = whole.0 in
    elim (cases_Bool (has (listed ds) u)) [
      | inl it ↦ (sure.0, sure.1, sure.2, (whole.1 sure.0 sure.1 sure.2 u).1 (sym (has_same ds es u weaker) ∙ it))
      | inr out ↦
          let zero_of : margin_of ds u ≡ 0 = (no_margin ds u).1 ((possible_never ds u is (still_possible ds es weaker sure)).0 may) in
          let least = weakest.margin.1 0 (record { uid = u; is_uid = is; unlisted = out; margin = zero_of }) in
          absurd (omega (arith, least, some))
    ]

-- the mask of those that were is what it leaves unsettled
reading_first : (ds es : List Entry) (w : Weakest) → AreHiddenOrDeaf ds es → IsPossible es → IsWeakest ds w → w.margin ≡ 0 → IsFirstMask (IsUnsettled ds) w.mask
reading_first ds es w r possible weakest none =
    let may = still_possible ds es (reading_weaker ds es r) possible in
    let first : IsFirstMask (IsOfMargin ds (listed ds) 0) w.mask = subst (λ n. IsFirstMask (IsOfMargin ds (listed ds) n) w.mask) none weakest.mask in
    (unsettled_of ds w.mask may first.0, λ k h. first.1 k (of_unsettled ds k may h))

pub read_same : (lines read : List LogLine) (count : ℕ) (w : Weakest) → AreHiddenOrDeaf (entries read) (entries lines) → IsVerdict lines (Complete count) → 0 < w.margin → IsWeakest (entries read) w → IsToldBy lines read (Complete count) (record { verdict = Complete count; holds = true; weakest = Some w; settled = true })
read_same lines read count w r v some weakest =
    let ds = entries read in
    let es = entries lines in
    let whole = complete_whole lines count v in
    let none = reading_none ds es w r whole weakest some in
    let size : length (listed ds) ≡ count = ap length (weaker_listed ds es (reading_weaker ds es r)) ∙ sym v.5 in
    record {
      verdict = subst (λ n. IsVerdict read (Complete n)) size (whole_complete read (still_whole ds es r whole none));
      holds = (λ e. refl, λ e. refl);
      weakest = weakest;
      settled = (λ e u may p pop given. (whole.1 p pop given u).1 ((whole.1 may.0 may.1 (reading_given ds es r whole.0 none may.0 may.1 may.2) u).0 may.3), λ all. refl);
    }

pub read_more : (lines read : List LogLine) (count : ℕ) (w : Weakest) → AreHiddenOrDeaf (entries read) (entries lines) → IsVerdict lines (Complete count) → w.margin ≡ 0 → IsWeakest (entries read) w → IsToldBy lines read (Complete count) (record { verdict = Unsettled w.mask; holds = false; weakest = None; settled = false })
read_more lines read count least r v zero_margin weakest =
    let ds = entries read in
    let es = entries lines in
    let w = reading_weaker ds es r in
    let whole = complete_whole lines count v in
    let first = reading_first ds es least r v.0 weakest zero_margin in
    let one = (unsettled_iff ds).0 (least.mask, first.0) in
    record {
      verdict = (
        still_possible ds es w v.0,
        λ u a. v.1 u (sym (has_same ds es u w) ∙ a.0, λ may. a.1 (may.0, may.1, weaker_given ds es w may.0 may.2, may.3)),
        λ u a. v.2 u (λ p pop given. a.0 p pop (weaker_given ds es w p given), sym (has_same ds es u w) ∙ a.1),
        first,
      );
      holds = (λ e. absurd (cc e), λ e. absurd (cc e));
      weakest = tt;
      settled = (
        λ e. absurd (cc e),
        λ all.
            let sure = all one.0 one.1 v.0.0 v.0.1 v.0.2 in
            let there = (whole.1 v.0.0 v.0.1 v.0.2 one.0).0 sure in
            let out = sym (has_same ds es one.0 w) ∙ one.2 in
            absurd (cc (there, out)),
      );
    }
