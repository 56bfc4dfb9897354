use Rattle.vic_report.proofs.Words.{◌∙◌, sym, ap, subst, MatchOption, has, entries, listed, IsLeftOpen, IsPossibleUid, IsCertainUid, IsListOf, IsAbsent, IsUnlisted, NoSuch, AreOpenMasks, IsLeftToAsk, without_keys, is_open_in, AreListed, log_facts, all_findings}
use Rattle.vic_report.proofs.AllFindings.{left_to_ask, open_set, shut_all}
use Rattle.vic_report.proofs.findings.find_findings.Goals as goal

pub lines_of_absent-requires-clause-not_open : goal.lines_of_absent-requires-clause-not_open
lines_of_absent-requires-clause-not_open c =
    let es = entries c.args.log.now.lines in
    let us = c.in_ok-listed.listed in
    let certain = c.args.facts.certain in
    let d = c.in_ok-differences.differences in
    rw c.as_slice-2.ensures.value (shut_all es (is_open_in c.args.facts.open) us certain d.absent c.requires.told.uids_open c.in_ok-listed.ensures.uids c.in_ok-differences.ensures.absent)

pub lines_of_certain-requires : goal.lines_of_certain-requires
lines_of_certain-requires c = record {
  possible = rw c.lines-lines.ensures.value c.requires.told.possible;
  met = rw c.lines-lines.ensures.value c.requires.is_met;
  certain = rw c.lines-lines.ensures.value (λ u h.
      let w = (c.in_ok-differences.ensures.unlisted.members u).0 h in
      ((log_facts _ _ _ c.requires.told).must.members u).0 w.0);
}

pub returns : goal.returns
returns c =
    let es = entries c.args.log.now.lines in
    let set = is_open_in c.args.facts.open in
    let us = c.in_ok-listed.listed in
    let certain = c.args.facts.certain in
    let keys = c.in_ok-certain_keys.certain_keys in
    let d = c.in_ok-differences.differences in
    let facts = log_facts es set certain c.requires.told in
    let own : AreListed us (listed es) = record { members = rw c.lines-lines.ensures.value at c.in_ok-listed.ensures.members; are_uids = c.in_ok-listed.ensures.uids } in
    let here = c.in_ok-differences.ensures in
    let all = all_findings (IsPossibleUid es) (IsCertainUid es) set certain us (listed es) d facts own here in
    let masks : AreOpenMasks es c.open_masks_besides-masks.result = record {
      set = without_keys set keys;
      uids = open_set es set certain keys facts (λ u i. c.in_ok-certain_keys.ensures.members u i ∙ ap (λ xs. has xs u) c.as_slice.ensures.value);
      first = c.open_masks_besides-masks.ensures.first;
      more = c.open_masks_besides-masks.ensures.more;
    } in
    record {
      absent = subst (IsListOf (IsAbsent es)) (sym (c.in_ok-lines_of_absent.ensures.uids ∙ c.as_slice-2.ensures.value)) all.absent;
      absent_shown = c.in_ok-lines_of_absent.ensures.shown;
      unlisted = subst (IsListOf (IsUnlisted es)) (sym c.in_ok-lines_of_certain.ensures.uids) all.unlisted;
      unlisted_shown = rw c.lines-lines.ensures.value at c.in_ok-lines_of_certain.ensures.shown;
      unlisted_first = rw c.lines-lines.ensures.value at c.in_ok-lines_of_certain.ensures.first;
      unsettled = subst (λ o. MatchOption o (NoSuch (IsLeftOpen es)) (IsLeftToAsk es)) (sym c.left_to_ask.ensures) (left_to_ask es d.unsettled c.open_masks_besides-masks.result all.unsettled masks);
      doubtful = rw c.into_vec.ensures.value all.doubtful;
    }
