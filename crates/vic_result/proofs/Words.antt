-- The words of proofs, from one place.
pub use Rattle.std.proofs.Common.{Bool, IsSomeAnd, eq-eqb, List, None, Option, Some, [], add-one, ap, ap₂, arith, append_assoc, append-nil, length-append, cond, false, get_or, if◌then◌else◌, length, map, nat_eq, nat_lt, not, refl, slice_get, slice_index, subst, suc, sym, take, drop, drop-cons, true, zero, ℕ, ◌&&◌, ◌++◌, ◌+◌, ◌-◌, ◌*◌, ◌^◌, ◌<◌, ◌==◌, ◌||◌, ◌∙◌, ◌∷◌, ◌≡◌, ◌≢◌, ◌≤◌, replicate}
pub use Rattle.std.proofs.lemmas.Grind.{common_steps}
pub use Rattle.std.proofs.lemmas.List.{drop_all, length-map, map-append, take_more}
pub use Rattle.std.proofs.lemmas.Option.{get_or_from_slice_get, slice_get_read, slice_get_within}
pub use Rattle.std.proofs.lemmas.Result.{on_ok_weaker}
pub use Rattle.vic_text.proofs.Pieces.{then_piece}
pub use Rattle.std.specs.List.{filter, flat_map, list_any}
pub use Rattle.std.specs.Prelude.{codes, decimal}
