-- The words of proofs, from one place: what files name from outside of the crate, and the definitions that several of them name.
pub use mathlib.Core.Logic.Iff.{trans}
pub use Rattle.std.proofs.Common.{All, Any, Bool, IfNone, IfSome, List, MatchOption, None, Option, Some, [], add-one, ap, append-nil, append_assoc, arith, drop, eq-eqb, eqb-true, false, filter, flat_map, get_or, inl, inr, le_of_lt, le_refl, length, length-append, length-take, length-take-le, nat_eq, nat_le, ne_eqb, not, refl, rules, slice_get, subst, suc, sum_by, sym, take, take-append-drop, take-take, take_all, true, zero, ℕ, ⊎_elim, ◌%◌, ◌&&◌, ◌*◌, ◌++◌, ◌+◌, ◌-◌, ◌/◌, ◌<◌, ◌==◌, ◌^◌, ◌||◌, ◌↔◌, ◌∙◌, ◌∷◌, ◌≡◌, ◌≢◌, ◌≤◌, ◌⊎◌}
pub use Rattle.std.proofs.Math.Nat.{pow-le-pow_right}
pub use Rattle.std.proofs.lemmas.Bool.{and_from, and_parts, both_ways, cases_Bool, cases_eq, cases_lt, false_from_ne_true, false≢true, or_cases, or_left, or_parts, or_right, true_from_ne_false}
pub use Rattle.std.proofs.lemmas.Bool.Decides.{nat_tests}
pub use Rattle.std.proofs.lemmas.Cmp.{nat_eq_equiv}
pub use Rattle.std.proofs.lemmas.Grind.{common_steps}
pub use Rattle.std.proofs.lemmas.List.{drop_more, get_or_default, length-map, map-append, take-map}
pub use Rattle.std.proofs.lemmas.List.Elements.{filter_more}
pub use Rattle.std.proofs.lemmas.List.Folds.{Any-from_list_any, list_all_at, list_any-append, list_any-from_Any, list_any_at, list_any_more, list_any_none}
pub use Rattle.std.proofs.lemmas.List.Kept.{AllPairs-from_increasing, IsStrictlyIncreasing-filter}
pub use Rattle.std.proofs.lemmas.List.Sums.{sum_by-cons, sum_by_more_le}
pub use Rattle.std.proofs.lemmas.Map.Keys.{IsDistinct-cons, IsDistinct-from_apart}
pub use Rattle.std.proofs.lemmas.Map.Made.{length-le_from_is_member}
pub use Rattle.std.proofs.lemmas.Option.{gets, slice_get_past, slice_get_read, slice_get_within}
pub use Rattle.std.proofs.lemmas.Result.{IfOk-weaker}
pub use Rattle.std.specs.List.{AllByRecursion, IsDistinct, list_all, list_any}
pub use Rattle.std.specs.List.Sorted.{IsStrictlyIncreasing}
pub use Rattle.std.specs.Prelude.{⊤}
pub use Rattle.vic_frame.proofs.MaskLaws.{least_inside, least_is_uid}
pub use Rattle.vic_frame.specs.Masks.{BitMask, least_uid_in, lies_in}
pub use Rattle.vic_frame.specs.Replies.{Reply}
pub use Rattle.vic_frame.specs.Uids.{AreDifferent, IsUid, has, is_uid}
pub use Rattle.vic_frame.specs.declared.uid.TheConstants.{UID_BITS}
pub use Rattle.vic_log.proofs.FirstVersion.{given-first}
pub use Rattle.vic_log.proofs.Meeting.{MeetsAll}
pub use Rattle.vic_log.proofs.Places.{AgreeBefore, CouldHaveGiven-front, CouldHaveGiven-slots, answers_agree}
pub use Rattle.vic_log.proofs.Push.{entries_next, listed-append}
pub use Rattle.vic_log.proofs.Quiet.{quiet-silenced}
pub use Rattle.vic_log.proofs.Sets.{AreDifferent-filter, AreDifferent-population, IsPopulation-with_member, IsUid-member, IsWithin, filter_has, has_at, has_cases, has_filter, has_here, has_there, has_with_member, insert_if, with_member, with_member_cases, with_member_keeps}
pub use Rattle.vic_log.proofs.Supply.{IsUid-from, MeetsAll-iff, SuppliesAll-within, asks_within, fits_asks, is_uid_from}
pub use Rattle.vic_log.specs.FirstVersion.{AreOfFirstVersion, CouldHaveGivenFirst, IsOfFirstVersion}
pub use Rattle.vic_log.specs.SecondVersion.{AreOfSecondVersion, IsOfSecondVersion}
pub use Rattle.vic_log.specs.Order.{IsRisingFrom, entries, listed}
pub use Rattle.vic_log.specs.Populations.{CouldHaveGiven, Fits, IsPopulation, Lone, Nobody, Outcome, Several, answerers_at, answers_at, outcome_of}
pub use Rattle.vic_log.specs.Quiet.{is_quiet}
pub use Rattle.vic_log.specs.Slots.{Asks, Forces, IsForcedBy, ManyReplies, NoReply, OneReply, Reading, ReplyAmong, Slot, SomeReply, hears, SuppliesAll, is_open, may_be, reading_of, slots_before, slots_of, with_entry}
pub use Rattle.vic_log.specs.declared.entry.Entry.{Entry}
pub use Rattle.vic_log.specs.declared.entry.Entry.TheVariants.{Captured, Collision, Garbled, Heard, Listed}
pub use Rattle.vic_log.specs.declared.entry.LogLine.{LogLine}
pub use Rattle.vic_tree.proofs.BoolLaws.{and_thrice, or_false, same_tests}
pub use Rattle.vic_tree.proofs.SetLaws.{widest_same}
pub use Rattle.vic_tree.specs.Keys.{AreKeysOf}
pub use Rattle.vic_tree.specs.OpenSet.{AreOutside, IsAtMost, IsWidest, SameUids, UpToThree, has_key, without_keys}
pub use Rattle.vic_verdict.proofs.Unread.{AreFound, IsFound, answering}
pub use Rattle.vic_verdict.specs.Needs.{HasEnough, IsMet, SomeForces, all_needs}
pub use Rattle.vic_verdict.specs.Explained.{IsPopulationBehind, IsSmallPopulation}
pub use Rattle.vic_verdict.specs.Facts.{AreOpenAndCertain}
pub use Rattle.vic_verdict.specs.Possible.{IsCertainUid, IsPossible, IsPossibleUid}
pub use Rattle.vic_verdict.specs.Rising.{IsFailing, IsListOf, SameMembers}
pub use Rattle.vic_verdict.specs.Verdict.{IsAbsent, IsDoubtful, IsFirstMask, IsHeard, IsLeast, IsAllHeard, IsUnlisted, IsUnsettled, IsVerdict, IsWhole, NoSuch, entries_to}
pub use Rattle.vic_walk.specs.declared.answers.Answering.{Answering}
pub use Rattle.vic_verdict.specs.declared.facts.Met.{Met}
pub use Rattle.vic_verdict.specs.declared.judging.Verdict.TheVariants.{Absent, Complete, Doubtful, Impossible, Unlisted, Unsettled}
pub use Rattle.vic_verdict.specs.inner.Impossible.{IsFirstImpossible}
pub use Rattle.vic_verdict.specs.inner.Chosen.{chosen, chosen_population, is_other}
pub use Rattle.vic_walk.specs.Answers.{AreAnswering, IsAnsweringAt, is_unread}
pub use Rattle.vic_walk.specs.Needs.{needs, needs_at, needs_of}
pub use Rattle.vic_walk.specs.Walk.{AreBorneOut, was_heard}
