-- The words of proofs, from one place: what files name from outside of the crate, and the definitions that several of them name.
pub use Rattle.std.proofs.Common.{Bool, IsSomeAnd, List, None, Option, Some, [], ap, arith, cond, drop, false, get_or, inl, is_some, inr, length, map, nat_eq, refl, slice_get, sym, take, true, ℕ, ⊎_elim, ◌++◌, ◌+◌, ◌-◌, ◌^◌, ◌<◌, ◌||◌, ◌∙◌, ◌∷◌, ◌≡◌, ◌≢◌, ◌≤◌, ◌⊎◌, ◌&&◌, not, subst, suc, zero}
pub use Rattle.std.proofs.Math.Bool.{or-false}
pub use Rattle.std.proofs.lemmas.Bool.{false≢true, both_ways, cases_eq, cases_lt, eqb-false, eqb-true, ne_eqb, eq-eqb}
pub use Rattle.std.proofs.lemmas.Bool.Decides.{nat_tests}
pub use Rattle.std.proofs.lemmas.Grind.{common_steps}
pub use Rattle.std.proofs.lemmas.List.{append_assoc, append-nil, drop-append-le, length-append, map_push, drop_all, length-take-le, take_all, take_more}
pub use Rattle.std.proofs.lemmas.List.Folds.{list_any-append, list_any_at, list_any_more}
pub use Rattle.std.proofs.lemmas.Option.{get_or_from_slice_get, slice_get-get_or, slice_get_read, slice_get_within}
pub use Rattle.std.specs.List.{list_any}
pub use Rattle.std.specs.Str.{bytes_eq}
pub use Rattle.vic_frame.specs.Uids.{has}
pub use Rattle.vic_survey.specs.Surveys.{SurveyValue}
pub use Rattle.std.specs.List.Sorted.{IsStrictlyIncreasing}
pub use Rattle.std.proofs.lemmas.List.Kept.{AllPairs-from_increasing}
pub use Rattle.vic_verdict.proofs.Failing.{place_of}
pub use Rattle.std.proofs.Common.{All, Any, MatchOption, ◌↔◌}
pub use Rattle.std.proofs.lemmas.Bool.{false_from_ne_true, true_from_ne_false}
pub use Rattle.std.proofs.lemmas.List.Folds.{Any-from_list_any, list_any-from_Any}
pub use Rattle.std.specs.List.{AllZip, Contains}
pub use Rattle.vic_frame.specs.Uids.{IsUid}
pub use Rattle.vic_log.proofs.Sets.{IsUid-member, has_cases, has_here, has_there}
pub use Rattle.vic_log.specs.declared.entry.LogLine.{LogLine}
pub use Rattle.vic_log.specs.Lines.{lines_of_text}
pub use Rattle.vic_log.specs.Log.{LogValue}
pub use Rattle.vic_log.specs.Order.{entries}
pub use Rattle.vic_log.specs.Populations.{CouldHaveGiven, IsPopulation}
pub use Rattle.vic_log.specs.Text.{IsLogOf}
pub use Rattle.vic_collection.specs.Complete.{HasPossibleLog, IsSurveyOf}
pub use Rattle.vic_collection.specs.Families.{FitsTexts, IsCertainIn, IsCertainUid, IsPossibleIn, IsPossibleUid, MayHaveBeen, is_somewhere}
