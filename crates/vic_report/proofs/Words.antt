-- The words of proofs, from one place: what files name from outside of the crate, and the definitions that several of them name.
pub use Rattle.std.proofs.Common.{All, Bool, Equal, Err, Greater, Less, List, MatchOption, MatchResult, None, Ok, OnOk, Option, Result, Some, [], add-one, ap, arith, cond, false, filter, get_or, if◌then◌else◌, inl, inr, is_ok, leb, length, length-append, ltb-true, map, nat_cmp, nat_eq, nat_le, ne_eqb, not, option_map, refl, rules, slice_get, subst, suc, sym, take, true, zero, ℕ, ⊎_elim, ◌&&◌, ◌*◌, ◌++◌, ◌+◌, ◌-◌, ◌<◌, ◌==◌, ◌||◌, ◌↔◌, ◌∙◌, ◌∷◌, ◌≡◌, ◌≤◌}
pub use Rattle.std.proofs.lemmas.Bool.{and_from, and_parts, cases_Bool, cases_eq, cases_lt, cond_both, eq-eqb, eqb-true, false≢true, le-leb, leb-false, leb-true, not-true, not_from_false, true_from_ne_false}
pub use Rattle.std.proofs.lemmas.Bool.Decides.{nat_tests}
pub use Rattle.std.proofs.lemmas.Cmp.{ranked}
pub use Rattle.std.proofs.lemmas.List.{get_or-map, get_or_default, length-map, map-append, map_push, take_all, take_more}
pub use Rattle.std.proofs.lemmas.List.Elements.{All-from_get_or, All-get_or, All-push, filter_agree, filter_passes}
pub use Rattle.std.proofs.lemmas.List.Filters.{dedup_is}
pub use Rattle.std.proofs.lemmas.List.Kept.{AllPairs-filter, AllPairs-from_increasing}
pub use Rattle.std.proofs.lemmas.List.Sorted.{answers_always, list_any-IsPermutation, searched}
pub use Rattle.std.proofs.lemmas.Map.Keys.{IsStrictlyIncreasing-dedup}
pub use Rattle.std.proofs.lemmas.Option.{get_or_from_slice_get, slice_get-map, slice_get_read, slice_get_within}
pub use Rattle.std.specs.List.{AllPairs, HoldsAt, list_any}
pub use Rattle.std.specs.List.Sorted.{IsBinarySearchResult, IsNonDecreasingBy, IsPartitionPoint, IsStrictlyIncreasing}
pub use Rattle.std.specs.Ordering.{ordering_index}
pub use Rattle.vic_frame.specs.Masks.{BitMask}
pub use Rattle.vic_frame.specs.Uids.{IsUid, has}
pub use Rattle.vic_frame.specs.declared.request.Request.TheVariants.{StayQuiet}
pub use Rattle.vic_log.proofs.Places.{CouldHaveGiven-front, CouldHaveGiven-push, agree_upto, answerers_agree, quiet_agrees, slice_get-append, slice_get_last}
pub use Rattle.vic_log.proofs.Push.{IsInOrder-push, entries-push, last_from-push, listed-append, rising-push, rising_long, slots_left-push, valid-push}
pub use Rattle.vic_log.proofs.Quiet.{silenced-quiet}
pub use Rattle.vic_log.proofs.Sets.{has_cases, has_here, has_there}
pub use Rattle.vic_log.specs.Log.{IsValidEntry}
pub use Rattle.vic_log.specs.OpenRounds.{IsCursorAt}
pub use Rattle.vic_log.specs.Order.{IsRisingFrom, entries, is_outside_round, listed, refusal}
pub use Rattle.vic_log.specs.Populations.{CouldHaveGiven, Fits, Lone, answerers_at, answers_at, outcome_of}
pub use Rattle.vic_log.specs.Quiet.{is_quiet, silences, wakes}
pub use Rattle.vic_log.specs.Rounds.{ends_round, mask_at, mask_of_slot, mask_since, opener, slots_left}
pub use Rattle.vic_log.specs.Slots.{Forces, ManyReplies, SomeReply, is_open, reading_of, slots_before, slots_of, hears, tells}
pub use Rattle.vic_log.specs.declared.entry.Entry.{Entry}
pub use Rattle.vic_log.specs.declared.entry.Entry.TheVariants.{Captured, Collision, FieldCycle, Garbled, Heard, Listed, Sent, Unknown}
pub use Rattle.vic_log.specs.declared.entry.LogLine.{LogLine}
pub use Rattle.vic_tree.proofs.GatheringLaws.{has_dedup}
pub use Rattle.vic_tree.specs.OpenSet.{SameUids, has_key, without_keys}
pub use Rattle.vic_tree.specs.Ranges.{is_open_in}
pub use Rattle.vic_tree.specs.declared.open_masks.OpenMasks.{OpenMasks}
pub use Rattle.vic_verdict.proofs.Decide.{IsPossibleUid-iff}
pub use Rattle.vic_verdict.proofs.Differing.{AreFacts, AreListed, all_findings, first_mask, log_facts, missing_least, missing_or_absent, none_unsettled, open_iff}
pub use Rattle.vic_verdict.proofs.Entries.{entry_allows, forces_one_iff, forces_two_iff, needs_two_or_one, open_step}
pub use Rattle.vic_verdict.proofs.Failing.{head_least, member_at, none_of, place_of, rising_order}
pub use Rattle.vic_verdict.proofs.Listing.{entry_at}
pub use Rattle.vic_walk.proofs.LineLaws.{first_lines}
pub use Rattle.vic_walk.specs.Answers.{AreAnswering, IsAnsweringAt, is_open_there}
pub use Rattle.vic_verdict.specs.Differences.{IsLeftOpen, IsUndecided, MayBeMissing}
pub use Rattle.vic_verdict.specs.Possible.{IsCertainUid, IsPossible, IsPossibleUid}
pub use Rattle.vic_verdict.specs.Rising.{IsFailing, IsListOf}
pub use Rattle.vic_verdict.specs.Verdict.{IsAbsent, IsFirstMask, IsUnlisted, IsVerdict, NoSuch, entries_to}
pub use Rattle.vic_walk.specs.declared.answers.Answering.{Answering}
pub use Rattle.vic_verdict.specs.declared.judging.Verdict.TheVariants.{Complete, Impossible}
pub use Rattle.vic_report.specs.Conflicts.{FitsLines, IsConflictAt, IsNoQuietReply, IsSilencedBefore, IsSilencedBy, IsTellingLine}
pub use Rattle.vic_report.specs.Findings.{IsFirstReply, IsRuledOut, IsShownCertain, IsShownFirst, MayAnswer, RulesOut, ShowsCertain, ShowsAt, uids_of}
pub use Rattle.vic_log.specs.Overlooked.{denies_reply_of, some_denies_reply_of}
pub use Rattle.vic_report.specs.Reports.{AreFindings, AreOpenMasks, IsReport, IsLeftToAsk, verdict_by, verdict_of}
pub use Rattle.vic_report.specs.declared.shown.ShownUid.{ShownUid}
pub use Rattle.vic_report.specs.inner.KeptLogs.{IsKeptLog, KeepsLine, SameQuiet, one_slot, with_slot}
pub use Rattle.std.proofs.lemmas.List.Folds.{list_any_at, list_any_none}
