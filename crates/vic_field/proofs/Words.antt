-- The words of proofs, from one place: what files name from outside of the crate, and the definitions that several of them name.
pub use Rattle.std.proofs.Common.{All, Bool, Contains, Less, List, None, Option, Some, [], add-one, add-zero, ap, append-nil, append_assoc, arith, bit_or, cond, drop, drop-cons, drop-drop, drop_of_length-le, eq-eqb, eqb-true, false, filter, get_or, get_or-drop, get_or-set_other, get_or-set_same, get_or-take, if◌then◌else◌, inl, inr, insert, le-leb, le-ltb, leb-true, length, length-append, length-drop, length-take, length-take-le, lt-ltb, ltb, ltb-false, ltb-true, map, nat_cmp, nat_eq, nat_le, nat_lt, ne_eqb, not, option_map, refl, replicate, rules, set, shr-shr, slice_get, subst, suc, sym, take, take-append-drop, take_all, true, unwrap_or, w64, zero, ℕ, ⊎_elim, ◌%◌, ◌&&◌, ◌*◌, ◌++◌, ◌+◌, ◌-◌, ◌/◌, ◌<◌, ◌==◌, ◌^◌, ◌||◌, ◌∙◌, ◌∷◌, ◌≡◌, ◌≢◌, ◌≤◌, ◌⊎◌}
pub use Rattle.std.proofs.Math.Bool.{and-true}
pub use mathlib.Core.List.{map-map}
pub use Rattle.std.proofs.lemmas.Bool.{and_parts, both_ways, cases_eq, cases_lt, false_from_ne_true, false≢true, lt-leb, or_cases, or_parts, or_right}
pub use Rattle.std.proofs.lemmas.Bool.Decides.{nat_tests}
pub use Rattle.std.proofs.lemmas.List.{get_or_default, get_or_past, length-replicate, map-append, take-map}
pub use Rattle.std.proofs.lemmas.List.Edits.{get_or-insert_above, get_or-insert_at, get_or-insert_below, length-insert}
pub use Rattle.std.proofs.lemmas.List.Elements.{All-cons, All-head, All-nil, All-push, All-replicate, All-tail, filter-append, filter_agree}
pub use Rattle.std.proofs.lemmas.List.Filters.{All-dedup, dedup_is}
pub use Rattle.std.proofs.lemmas.List.Folds.{Any-from_list_any, list_any_at, list_any_none}
pub use Rattle.std.proofs.lemmas.List.FromFn.{fill_by_all, get_or-map-range_with_len, length-map-range_with_len}
pub use Rattle.std.proofs.lemmas.List.Kept.{Contains-dedup_nat, Contains-from_dedup}
pub use Rattle.std.proofs.lemmas.List.Sorted.{All-permutation, IsNonDecreasingBy-drop, IsNonDecreasingBy-take, IsPartitionPoint-from_clause, IsPartitionedBy-ltb, IsPermutation-insert, list_any-IsPermutation}
pub use Rattle.std.proofs.lemmas.Map.Keys.{IsStrictlyIncreasing-dedup, below_from_sorted, non_decreasing_from_sorted, sorted_from_strictly_increasing, sorted_head, sorted_tail}
pub use Rattle.std.proofs.lemmas.Map.Made.{is_some-lookup, lookup-map_values}
pub use Rattle.std.proofs.lemmas.Nat.{or_lt, shr_le}
pub use Rattle.std.proofs.lemmas.Nat.Bits.{bit_at-trailing_ones, bit_at_above, bit_at_ones, bit_at_set_other, bit_at_set_same, same_from_bits_below}
pub use Rattle.std.proofs.lemmas.Option.{get_or_from_slice_get, slice_get-get_or, slice_get-map, slice_get_read, slice_get_within}
pub use Rattle.std.proofs.lemmas.Result.{IfOk-weaker}
pub use Rattle.std.specs.Int.{bit_at, trailing_ones}
pub use Rattle.std.specs.List.{AllByRecursion, dedup, list_any, range_with_len}
pub use Rattle.std.specs.List.Sorted.{IsPartitionPoint, IsStrictlySortedBy}
pub use Rattle.std.specs.Map.{keys_of}
pub use Rattle.vic_frame.proofs.KeyLaws.{differ, is_uid, key_test}
pub use Rattle.vic_frame.proofs.MirrorLaws.{mirror_of_uid, uid_of_mirror}
pub use Rattle.vic_frame.specs.LowBitsFirst.{IsKey, mirror, uid_of}
pub use Rattle.vic_frame.specs.Masks.{BitMask, lies_in}
pub use Rattle.vic_frame.specs.Requests.{IsValid}
pub use Rattle.vic_frame.specs.Slots.{mask_in, slot_count}
pub use Rattle.vic_frame.specs.Uids.{AreDifferent, IsUid, has}
pub use Rattle.vic_frame.specs.declared.request.Request.{Request}
pub use Rattle.vic_log.proofs.Order.{still_there}
pub use Rattle.vic_log.proofs.Places.{CouldHaveGiven-push, agree_append, last_or, opener_agrees, quiet_agrees, slice_get_last}
pub use Rattle.vic_log.proofs.Push.{entries-numbered, entries_next, listed-append}
pub use Rattle.vic_log.proofs.Sets.{AreDifferent-filter, AreDifferent-population, IsUid-member, IsWithin, filter_has, has_at, has_cases, has_filter, has_here, has_there}
pub use Rattle.vic_log.specs.Log.{AreTyped, IsValidEntry, LogValue, last_from}
pub use Rattle.vic_log.specs.Order.{IsInOrder, entries, is_empty, listed, refusal}
pub use Rattle.vic_log.specs.Populations.{CouldHaveGiven, Fits, IsPopulation, Lone, Nobody, Outcome, Several, answerers_at, answers_at, outcome_of}
pub use Rattle.vic_log.specs.Quiet.{is_quiet, silences, wakes}
pub use Rattle.vic_log.specs.Rounds.{ends_round, is_slot, lies_in_some, mask_at, opener, slots_left, slots_opened}
pub use Rattle.vic_log.specs.Writing.{numbered}
pub use Rattle.vic_log.specs.declared.entry.Entry.{Entry}
pub use Rattle.vic_log.specs.declared.entry.Entry.TheVariants.{FieldCycle, Listed, Sent}
pub use Rattle.vic_log.specs.declared.entry.LogLine.{LogLine}
pub use Rattle.vic_log.specs.declared.entry.TheConstants.{MAX_LINES}
pub use Rattle.vic_field.specs.Keys.{AreRisingKeys, AreKeysOfEach, ready_between, tags_of, uids_at}
pub use Rattle.vic_field.specs.Bits.{AreUpTo, HasBitMore, HasBits, IsFull, IsSound, NotesFull, blank, is_set}
pub use Rattle.vic_field.specs.Positions.{HasRoomFor, is_quiet_position}
pub use Rattle.vic_field.specs.Rows.{tag_at, tags_with}
pub use Rattle.vic_field.specs.Simulation.{ArePlain, HasAllSlots, HasNoSlotsBefore, IsPlain, IsSimulation, last_needed, line_count, without_slots}
pub use Rattle.vic_field.specs.Tags.{heard, readiness, ready_in, uids}
pub use Rattle.vic_field.specs.declared.row.Row.{Row}
pub use Rattle.vic_field.specs.inner.Rows.{HasKeyPositionBetween, HasNoneReady, IsKeyPosition, IsNextReady, as_ready, with_quiet}
pub use Rattle.vic_field.specs.inner.Steps.{slot_line, slot_lines, slot_lines_to, with_entries}
