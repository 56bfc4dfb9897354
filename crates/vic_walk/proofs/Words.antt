-- The words of proofs, from one place: what files name from outside of the crate, and the definitions that several of them name.
pub use Rattle.std.proofs.Common.{Bool, List, None, Option, Some, [], add-one, ap, arith, eqb-true, ltb-true, replicate, false, get_or, if◌then◌else◌, inl, inr, length, nat_eq, nat_le, nat_lt, not, refl, slice_get, slice_index, slice_set, subst, suc, sym, true, zero, ℕ, ◌&&◌, ◌++◌, ◌+◌, ◌-◌, ◌<◌, ◌==◌, ◌||◌, ◌↔◌, ◌∙◌, ◌∷◌, ◌≡◌, ◌≢◌, ◌≤◌}
pub use Rattle.std.specs.Cmp.{both_ways}
pub use Rattle.std.proofs.lemmas.Bool.{and_from, and_parts, cases_Bool, cases_eq, cases_lt, false_from_ne_true, false≢true, or_cases, or_left, or_right}
pub use Rattle.std.proofs.lemmas.Bool.Decides.{nat_tests}
pub use Rattle.std.proofs.lemmas.List.{length-map, length-replicate, get_or-replicate, get_or-set_other, get_or-set_same}
pub use Rattle.std.proofs.lemmas.List.Folds.{list_any_at, list_any_more}
pub use Rattle.std.proofs.Common.{option_map}
pub use Rattle.std.proofs.lemmas.Option.{slice_get-map, slice_get_read, slice_get_within}
pub use Rattle.std.proofs.Math.Bool.{and-false, and-true}
pub use Rattle.std.proofs.Math.ListN.{length-set}
pub use Rattle.vic_frame.proofs.MirrorLaws.{mirror_below, mirror_of_uid, uid_of_mirror}
pub use Rattle.vic_frame.proofs.KeyLaws.{is_uid}
pub use Rattle.vic_frame.specs.KeyBlocks.{is_in_some_block}
pub use Rattle.vic_frame.specs.LowBitsFirst.{IsKey, is_in_block, mirror, uid_of}
pub use Rattle.vic_frame.specs.Uids.{IsUid, has}
pub use Rattle.vic_frame.specs.Replies.{Reply}
pub use Rattle.vic_frame.specs.declared.request.Request.{Request}
pub use Rattle.vic_frame.specs.declared.request.Request.TheVariants.{StayQuiet}
pub use Rattle.vic_log.proofs.Sets.{eq_swapped}
pub use Rattle.vic_log.proofs.Supply.{IsUid-from, is_uid_from}
pub use Rattle.vic_log.specs.Populations.{answers_at}
pub use Rattle.vic_log.specs.Quiet.{is_quiet, silences, wakes}
pub use Rattle.vic_log.specs.Rounds.{is_slot, lies_in_some, mask_at}
pub use Rattle.vic_log.specs.Slots.{Reading, Slot, hears, is_open, may_be, reading_of, slots_before, with_entry}
pub use Rattle.vic_log.specs.declared.entry.Entry.{Entry}
pub use Rattle.vic_log.specs.declared.entry.Entry.TheVariants.{Captured, Collision, FieldCycle, Garbled, Heard, Listed, Sent, Silent, Unknown}
pub use Rattle.vic_walk.specs.Borders.{AreBorders, IsPartOf, part_count}
pub use Rattle.vic_walk.specs.Cuts.{AreAlikeAt, AreCut, AreTogether, names}
pub use Rattle.vic_walk.specs.Marked.{IsFirst, NoneBetween, is_marked}
pub use Rattle.vic_walk.specs.Walk.{AreBorneOut, AreStatesAt, IsEnd, was_heard}
pub use Rattle.vic_walk.specs.inner.WalkState.{IsWalkAt}
