-- The words of proofs, from one place: what files name from outside of the crate, and the definitions that several of them name.
pub use Rattle.std.proofs.Common.{All, AllPairs, Bool, Contains, Err, Greater, IfNone, IfSome, IsPermutation, IsSorted, Less, List, None, Option, Ordering, Some, [], add-zero, ap, append-nil, append_assoc, arith, below_more, div-le_self, drop, eq-eqb, eqb-true, false, get_or, get_or-drop, get_or-take, inl, inr, insert, is_eq, length, length-drop, length-take, length-take-le, lt_of_mul-lt-mul_right, ltb, ltb-false, ltb-true, map, max, min, mod-eq_of_lt, mul-le-mul_right, nat_cmp, nat_eq, nat_le, nat_lt, ne_eqb, not, pow-add, pow-suc, pow_mono, pow_pos, refl, rules, subst, suc, sum, sym, take, take_all, true, zero, ℕ, ◌%◌, ◌&&◌, ◌*◌, ◌++◌, ◌+◌, ◌-◌, ◌/◌, ◌<◌, ◌==◌, ◌^◌, ◌||◌, ◌↔◌, ◌∙◌, ◌∷◌, ◌≡◌, ◌≤◌, ◌⊎◌}
pub use Rattle.std.proofs.Math.Bool.{and_assoc, not-not, or-false}
pub use Rattle.std.proofs.Math.Nat.{div-eq_of_lt, mod-one, mul-mod_left}
pub use Rattle.std.proofs.lemmas.Bool.{cases_Bool, cases_eq, cases_lt, not-false, or_cases, or_parts}
pub use Rattle.std.proofs.lemmas.Bool.Decides.{nat_tests}
pub use Rattle.std.proofs.lemmas.Cmp.{eq_by_cmp_equiv, nat_cmp_total, on_total, then_total}
pub use Rattle.std.proofs.lemmas.Grind.{div_ceil_times, drop_more_same}
pub use Rattle.std.proofs.lemmas.List.{drop-set-lt, drop_more, get_or-map, get_or_default, length-set, map_more, nil_from_length, take-take, take_min, take_more_set, take_rest}
pub use Rattle.std.proofs.lemmas.List.Edits.{length-insert}
pub use Rattle.std.proofs.lemmas.List.Elements.{All-cons, All-contains, All-from_get_or, All-from_recursion, All-head, All-nil, All-push, All-tail, All-take, All-weaker, Contains-append_cases, Contains-append_right, Contains-get_or, Contains-push_cases}
pub use Rattle.std.proofs.lemmas.List.Filters.{All-dedup, dedup_is}
pub use Rattle.std.proofs.lemmas.List.Folds.{Any-from_list_any, list_any-append, list_any_at, list_any_more, list_any_none}
pub use Rattle.std.proofs.lemmas.List.Kept.{AllPairs-cons, Contains-dedup, Contains-dedup_nat, Contains-from_dedup, IsStrictlySortedBy-dedup}
pub use Rattle.std.proofs.lemmas.List.Sorted.{All-permutation, Contains-permutation, IsNonDecreasingBy-drop, IsNonDecreasingBy-from_all_adjacent, IsNonDecreasingBy-from_sort, IsNonDecreasingBy-from_sort_by_key, IsNonDecreasingBy-take, IsPartitionPoint-from_clause, IsPartitionedBy-ltb, IsPermutation-insert, IsPermutation-sym, list_any-IsPermutation}
pub use Rattle.std.proofs.lemmas.List.Sums.{sum_by-cons}
pub use Rattle.std.proofs.lemmas.Map.Keys.{IsStrictlyIncreasing-dedup}
pub use Rattle.std.proofs.lemmas.Map.Views.{Contains-from_any}
pub use Rattle.std.proofs.lemmas.Nat.{pow_below, same_from_place}
pub use Rattle.std.proofs.lemmas.Result.{IfOk-weaker}
pub use Rattle.std.specs.Cmp.{IsTotalOrder}
pub use Rattle.std.specs.List.{AllAdjacentBelow, dedup, list_any}
pub use Rattle.std.specs.List.Sorted.{IsBinarySearchResult, IsNonDecreasing, IsNonDecreasingBy}
pub use Rattle.std.specs.Ordering.{eq_by_cmp, ordering_index, ordering_then}
pub use Rattle.vic_frame.proofs.KeyLaws.{is_uid}
pub use Rattle.vic_frame.proofs.MaskLaws.{mod_mod_pow}
pub use Rattle.vic_frame.proofs.MirrorLaws.{in_span, mirror_below, mirror_mod, mirror_none, mirror_of_uid, mirror_split, mirror_twice, same_test, uid_of_mirror}
pub use Rattle.vic_frame.specs.LowBitsFirst.{IsBlock, mirror, mirror_bits, uid_of}
pub use Rattle.vic_frame.specs.Masks.{BitMask, IsMask, lies_in}
pub use Rattle.vic_frame.specs.Uids.{IsUid, has}
pub use Rattle.vic_tree.specs.Gathering.{Gathers}
pub use Rattle.vic_tree.specs.OpenMasks.{AreAll, AreFirst, ComesBefore, IsOpenMask, IsPast, parent}
pub use Rattle.vic_tree.specs.OpenSet.{AllOpen, AreKeys, IsAtMost, IsWidest, SameUids, has_key, without_keys}
pub use Rattle.vic_tree.specs.Ranges.{AreRanges, AreRangesFrom, in_ranges, is_between, is_open_in, is_outside}
pub use Rattle.vic_tree.specs.inner.KeptMasks.{Adds, AreKept, IsMaximalAt, IsMaximalIn, IsOpenBelow, IsOpenBlock, Keeps}
pub use Rattle.vic_tree.specs.inner.Ranges.{AllKeysPass, ComesFirstIn, HoldsBlock, HoldsMask, IsFirstRun, IsFoundBelow, IsMaskIn, IsWidestBelow, PassFrom, block_size, is_left}
pub use Rattle.vic_tree.specs.inner.Stretches.{IsFreeFrom, IsStretch}
pub use Rattle.vic_tree.specs.Counted.{IsCounted, size_of}
pub use Rattle.vic_tree.specs.inner.Tallies.{HasMore, IsTallyOf, Tallies}
pub use Rattle.vic_tree.specs.declared.counted.Tally.{Tally}
