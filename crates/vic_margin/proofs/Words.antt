-- The words of proofs, from one place.
pub use Rattle.std.proofs.Common.{rules, Bool, List, None, Option, Some, [], add-one, ap, arith, eq-eqb, eqb-true, replicate, false, get_or, if◌then◌else◌, inl, inr, length, map, nat_eq, nat_lt, not, refl, slice_get, slice_index, slice_set, subst, suc, sym, true, zero, ℕ, ◌&&◌, ◌++◌, ◌+◌, ◌-◌, ◌*◌, ◌/◌, ◌%◌, ◌^◌, ◌<◌, ◌==◌, ◌||◌, ◌↔◌, ◌∙◌, ◌∷◌, ◌≡◌, ◌≢◌, ◌≤◌, ⊎_elim}
pub use Rattle.std.proofs.lemmas.Bool.{and_parts, both_ways, cases_Bool, cases_eq, cases_lt, false_from_ne_true, or_cases, or_left, or_right}
pub use Rattle.std.proofs.lemmas.Bool.Decides.{nat_tests}
pub use Rattle.std.proofs.lemmas.List.{length-map, length-replicate, get_or-replicate, get_or_default, get_or_past, get_or-set_other, get_or-set_same}
pub use Rattle.vic_frame.proofs.MirrorLaws.{mirror_below, mirror_of_uid}
pub use Rattle.vic_frame.specs.LowBitsFirst.{IsKey, mirror, uid_of}
pub use Rattle.vic_frame.specs.Uids.{IsUid, has}
pub use Rattle.vic_frame.specs.Replies.{Reply}
pub use Rattle.vic_frame.specs.declared.request.Request.TheVariants.{StayQuiet}
pub use Rattle.vic_log.specs.Populations.{answers_at}
pub use Rattle.vic_log.specs.Quiet.{is_quiet, silences, wakes}
pub use Rattle.vic_log.specs.Rounds.{is_slot, lies_in_some, mask_at}
pub use Rattle.vic_log.specs.declared.entry.Entry.{Entry}
pub use Rattle.vic_log.specs.declared.entry.Entry.TheVariants.{Captured, Collision, FieldCycle, Garbled, Heard, Listed, Sent, Silent, Unknown}
pub use Rattle.vic_walk.specs.Borders.{AreBorders, IsPartOf, part_count}
pub use Rattle.vic_walk.specs.Cuts.{AreCut, names}
pub use Rattle.vic_walk.specs.Marked.{is_marked}
pub use Rattle.vic_walk.specs.declared.steps.Span.{Span}
pub use Rattle.vic_log.specs.Overlooked.{is_overlooked, denies_reply_of, some_denies_reply_of}
pub use Rattle.vic_margin.specs.UidMargins.{margin_before, margin_of, one_if}
pub use Rattle.vic_margin.specs.declared.tally.Tally.{Tally}
pub use Rattle.vic_margin.specs.inner.Tallies.{AreMargins, IsCounted, IsTallyAt, IsTallyOf, IsTurned}
pub use Rattle.vic_walk.specs.Steps.{IsEntryAt, IsSpanAt}
pub use Rattle.vic_margin.specs.inner.Trees.{within}
pub use Rattle.vic_frame.proofs.KeyLaws.{is_uid}
