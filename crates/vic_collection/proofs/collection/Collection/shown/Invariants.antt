use Rattle.vic_collection.proofs.Words.{◌≡◌, map, take}
use Rattle.std.specs.List.{All}
use Rattle.vic_collection.specs.declared.unlisted.UnlistedUid.{UnlistedUid}
use Rattle.vic_collection.specs.Findings.{IsShownFirst}
use Rattle.vic_collection.proofs.collection.Collection.shown.Given as goal

abbrev pub invariant-loop-uid : goal.invariant-loop-uid
invariant-loop-uid l = record {
  uids : map (λ (x : UnlistedUid). x.uid) l.shown.items ≡ take l.uid-index l.uids;
  shown : All (IsShownFirst l.self) l.shown.items;
}
