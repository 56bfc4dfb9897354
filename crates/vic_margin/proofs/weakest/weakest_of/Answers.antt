use Rattle.vic_margin.proofs.Words.{arith, ap, length, false, ◌≡◌, ◌<◌, ◌^◌, ℕ, Some, not, ◌==◌, slice_index, IsUid, IsPartOf}
use Rattle.vic_tree.specs.OpenSet.{IsWidest, SameUids, without_keys}
use Rattle.vic_tree.specs.Ranges.{in_ranges, is_open_in}
use Rattle.vic_log.specs.Order.{entries}
use Rattle.vic_margin.specs.inner.Least.{IsLeastOf, is_free}
use Rattle.vic_margin.proofs.Telling.{first_of_margin, has_it, is_margin, least_is_there, set_has_some, set_is}
use Rattle.vic_margin.proofs.weakest.weakest_of.Goals as goal

pub unreachable-requires : goal.unreachable-requires
unreachable-requires c =
    let keys = c.args.keys.now in
    least_is_there _ _ keys c.args.margins.now.borders (omega (arith, c.if-as_slice.false, ap length c.as_slice.ensures.value)) c.in_default.ensures

pub unreachable-requires-in_default-2 : goal.unreachable-requires-in_default-2
unreachable-requires-in_default-2 c =
    let es = entries c.args.margins.now.log.now.lines in
    let keys = c.args.keys.now in
    let us = c.requires.0 in
    let named = c.requires.1 in
    let ms = c.args.margins.now.each.items in
    let m = c.in-Some.least in
    let borders = c.args.margins.now.borders in
    let least : IsLeastOf c.args.margins.now.parts ms (is_free keys (2 ^ 56)) (Some m) = c.in-Some.ensures in
    let others : (k p : ℕ) → IsPartOf c.args.margins.now.parts k p → k < 2 ^ 56 → in_ranges c.in_ok-others.others.items k ≡ not (slice_index ms p == m) = rw c.deref.ensures.value at c.in_ok-others.ensures.keys in
    let is : (u : ℕ) → IsUid u → without_keys (is_open_in c.in_ok-set.set) keys u ≡ has_it es us m u = set_is _ ms keys es us m (is_open_in c.in_ok-set.set) _ borders c.args.margins.now.margins named.members others c.in_ok-set.ensures in
    let empty : SameUids (without_keys (is_open_in c.in_ok-set.set) keys) (λ _. false) = rw c.in_default-2.is at c.in_ok-mask.ensures.empty in
    set_has_some es us m (without_keys (is_open_in c.in_ok-set.set) keys) is (is_margin _ ms keys es us m borders c.args.margins.now.margins named.members least).0 empty

pub returns : goal.returns
returns c us named =
    let es = entries c.args.margins.now.log.now.lines in
    let keys = c.args.keys.now in
    let ms = c.args.margins.now.each.items in
    let m = c.in-Some.least in
    let borders = c.args.margins.now.borders in
    let least : IsLeastOf c.args.margins.now.parts ms (is_free keys (2 ^ 56)) (Some m) = c.in-Some.ensures in
    let others : (k p : ℕ) → IsPartOf c.args.margins.now.parts k p → k < 2 ^ 56 → in_ranges c.in_ok-others.others.items k ≡ not (slice_index ms p == m) = rw c.deref.ensures.value at c.in_ok-others.ensures.keys in
    let is : (u : ℕ) → IsUid u → without_keys (is_open_in c.in_ok-set.set) keys u ≡ has_it es us m u = set_is _ ms keys es us m (is_open_in c.in_ok-set.set) _ borders c.args.margins.now.margins named.members others c.in_ok-set.ensures in
    let widest : IsWidest (without_keys (is_open_in c.in_ok-set.set) keys) c.in-Some-2.mask = rw c.in-Some-2.is at c.in_ok-mask.ensures.found in
    record {
      margin = is_margin _ ms keys es us m borders c.args.margins.now.margins named.members least;
      mask = first_of_margin es us m _ c.in-Some-2.mask is widest;
    }
