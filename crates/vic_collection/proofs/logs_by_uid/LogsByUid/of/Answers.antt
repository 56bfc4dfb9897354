use Rattle.std.proofs.Common.{rules, ap, map, ◌∙◌, ◌≡◌}
use Rattle.std.proofs.lemmas.Fn.{always_returns_same}
use Rattle.std.proofs.lemmas.List.Sorted.{IsNonDecreasingBy-from_sort_by_key}
use Rattle.vic_collection.specs.declared.logs_by_uid.LogOfUid.{LogOfUid}
use Rattle.vic_collection.proofs.Sighted.{logs_stay}
use Rattle.vic_collection.proofs.logs_by_uid.LogsByUid.of.Goals as goal

pub invariant_of-result : goal.invariant_of-result
invariant_of-result c = (IsNonDecreasingBy-from_sort_by_key (λ (s : LogOfUid). s.uid) _ c.in_ok-sort_by_key.ensures.sorted (λ a r q k. search rules), c.in_ok-logs.ensures ∙ ap (map (λ (s : LogOfUid). s.log)) c.deref.ensures.value)

pub returns : goal.returns
returns c = logs_stay _ _ (c.in_ok-sort_by_key.ensures.stable (λ (s : LogOfUid). s.uid) (always_returns_same _ (λ a r. r ≡ a.0.now.uid) _ (λ a r q k. search rules)))
