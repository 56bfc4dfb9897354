use Rattle.std.proofs.Common.{◌≡◌, List, map, take}
use Rattle.vic_log.specs.declared.entry.Entry.{Entry}
use Rattle.vic_object.specs.Asking.{asks_for}
use Rattle.vic_object.specs.inner.Collided.{AreCollided}
use Rattle.vic_object.proofs.plain.asked_masks.Given as goal

abbrev pub invariant-loop-mask : goal.invariant-loop-mask
invariant-loop-mask l = record {
  masks : map (λ a. a.mask) l.asked.items ≡ take l.mask-index l.masks;
  requests : (es : List Entry) → AreCollided es l.collided → map (λ a. a.requests.items) l.asked.items ≡ map (asks_for es l.link) (take l.mask-index l.masks);
}
