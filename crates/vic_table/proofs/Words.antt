-- The words of proofs, from one place: what files name from outside of the crate, and the definitions that several of them name.
pub use Rattle.std.proofs.Common.{ap₂, rules, Bool, Err, IfErr, IfOk, IfSome, IsErr, IsOk, List, MatchResult, None, Ok, OnOk, Option, Result, Some, [], add-one, ap, append-nil, append_assoc, arith, cond, drop, drop-cons, eqb, false, get_or, if◌then◌else◌, inl, inr, is_ok, length, length-append, length-take-le, map, nat_eq, nat_lt, not, refl, slice_get, slice_index, subst, suc, sym, take, true, zero, ℕ, ⊎_elim, ◌&&◌, ◌*◌, ◌++◌, ◌+◌, ◌-◌, ◌<◌, ◌==◌, ◌||◌, ◌↔◌, ◌∙◌, ◌∷◌, ◌≡◌, ◌≢◌, ◌≤◌, ◌⊎◌}
pub use Rattle.std.proofs.Math.Bool.{or-false}
pub use Rattle.std.proofs.Math.Seq.{take-append_seam, split_at}
pub use Rattle.std.proofs.lemmas.Bool.{and_from, and_parts, cases_Bool, cases_eq, cases_lt, cond-false, cond-true, eq-eqb, eqb-false, eqb-true, false_from_ne_true, le-ltb, lt-ltb, ne_eqb, or_from, or_left, or_parts, or_right}
pub use Rattle.std.proofs.lemmas.Bool.Decides.{nat_tests}
pub use Rattle.std.proofs.lemmas.Grind.{common_steps}
pub use Rattle.std.proofs.lemmas.List.{drop-append-le, drop-drop, drop-take, drop_all, nil_from_length, take-append-drop, get_or-take, length-drop, length-map, length-take, length_push, map-append, take-append-le, take_all}
pub use Rattle.std.proofs.lemmas.List.Folds.{list_all-append, list_any-append, list_all_at, list_any_at, list_all_more, list_any_more}
pub use Rattle.std.proofs.lemmas.Option.{get_or_from_slice_get, slice_get-get_or, slice_get-map, slice_get_past, slice_get_within}
pub use Rattle.std.specs.List.{All, AllByRecursion, filter, list_all, list_any}
pub use Rattle.std.specs.Option.{is_some, is_none, option_map, option_or, option_and_then, unwrap_or}
pub use Rattle.vic_frame.specs.Uids.{has}
pub use Rattle.vic_log.specs.Lines.{all_but_last, content, cr, cut, ends_with, lf, lines_of_text, onto, without_last}
pub use Rattle.std.proofs.lemmas.List.Elements.{All-push, All-weaker, filter-append, filter_map-append, filter_more, recursion_from_All}
