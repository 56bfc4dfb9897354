-- The words of proofs, from one place: what files name from outside of the crate, and the definitions that several of them name.
pub use Rattle.std.proofs.Common.{All, Bool, Box, Contains, Global, IfSome, List, None, Option, Some, [], ap, arith, cond, eq-eqb, eqb-true, false, filter, get_or, inl, inr, length, max, mod-eq_of_lt, nat_eq, not, pow_pos, refl, rules, subst, suc, sym, take, take_all, true, zero, ℕ, ◌%◌, ◌&&◌, ◌*◌, ◌++◌, ◌+◌, ◌-◌, ◌/◌, ◌<◌, ◌==◌, ◌^◌, ◌||◌, ◌∙◌, ◌∷◌, ◌≡◌, ◌≢◌, ◌≤◌, ◌⊎◌}
pub use Rattle.std.proofs.Math.Bool.{and_comm}
pub use Rattle.std.proofs.Math.Nat.{add-mod_right, div-eq_of_lt}
pub use Rattle.std.proofs.lemmas.Bool.{and_left, and_parts, cases_Bool, cases_eq, cases_lt, false≢true, or_parts}
pub use Rattle.std.proofs.lemmas.Bool.Decides.{nat_tests}
pub use Rattle.std.proofs.lemmas.Fn.{filter_same}
pub use Rattle.std.proofs.lemmas.Grind.{pow_more}
pub use Rattle.std.proofs.lemmas.List.Elements.{All-contains, All-contains_itself, All-filter, All-push, Contains-push_cases}
pub use Rattle.std.proofs.lemmas.List.Folds.{Any-from_list_any, list_any-append, list_any_at, list_any_more}
pub use Rattle.std.proofs.lemmas.Map.Views.{any-filter_same}
pub use Rattle.std.proofs.lemmas.Nat.{mod-pow-add, mod_below, mod_low, same_from_place, shr_below, shr_high}
pub use Rattle.std.proofs.lemmas.Option.{IfSome_then}
pub use Rattle.std.specs.List.{list_any}
pub use Rattle.vic_frame.proofs.MaskLaws.{mod_mod_pow, mod_pow_more}
pub use Rattle.vic_frame.specs.MaskLaws.{lower_half, upper_half}
pub use Rattle.vic_frame.specs.Masks.{BitMask, IsMask, lies_in}
pub use Rattle.vic_frame.specs.Uids.{IsUid, has}
pub use Rattle.vic_tree.proofs.BoolLaws.{or_false}
pub use Rattle.vic_tree.proofs.FirstMasks.{same_mask}
pub use Rattle.vic_tree.specs.OpenSet.{AllOpen, IsAtMost, IsWidest, SameUids}
pub use Rattle.vic_sets.specs.Cells.{AreApart, AreCells, IsApart, IsCell, NoHalves, flipped, cut_at, holds, in_cells}
pub use Rattle.vic_sets.specs.Nodes.{IsFork, IsReduced, height, open_at}
pub use Rattle.vic_sets.specs.declared.node.Halves.{Halves}
pub use Rattle.vic_sets.specs.declared.node.Node.{Fork', Node}
pub use Rattle.vic_sets.specs.declared.node.Node.TheVariants.{Full, Fork, Empty}
pub use Rattle.vic_sets.specs.inner.Widest.{AllPass, IsWidestOf, with_low_bit}
