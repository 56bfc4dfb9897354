use Rattle.std.proofs.Common.{rules, ◌≡◌}
use Rattle.std.proofs.lemmas.Fn.{always_returns_same, dedup_same}
use Rattle.vic_collection.specs.declared.found_items.FoundItem.{FoundItem}
use Rattle.vic_collection.proofs.Listing.{once_items, once_members, once_rising, same_uid}
use Rattle.vic_collection.proofs.found_items.by_uids.Goals as goal

pub returns-clause-rising : goal.returns-clause-rising
returns-clause-rising c =
    let is = dedup_same _ same_uid _ (λ x y b f' x' y' k. search rules) _ _ c.dedup_by_key.ensures.filtered in
    let rises = c.sort_unstable_by_key.ensures.sorted (λ (f : FoundItem). f.uid) (always_returns_same _ (λ a r. r ≡ a.0.now.uid) _ (λ a r q k. search rules)) in
    rw is (once_rising _ _ c.sort_unstable_by_key.ensures.permutation rises)

pub returns-clause-members : goal.returns-clause-members
returns-clause-members c u =
    let is = dedup_same _ same_uid _ (λ x y b f' x' y' k. search rules) _ _ c.dedup_by_key.ensures.filtered in
    rw is (once_members _ _ c.sort_unstable_by_key.ensures.permutation u)

pub returns-clause-items : goal.returns-clause-items
returns-clause-items c =
    let is = dedup_same _ same_uid _ (λ x y b f' x' y' k. search rules) _ _ c.dedup_by_key.ensures.filtered in
    rw is (once_items _ _ c.sort_unstable_by_key.ensures.permutation)
