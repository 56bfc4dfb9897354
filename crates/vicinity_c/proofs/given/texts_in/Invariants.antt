use Rattle.std.proofs.Common.{◌≡◌, ℕ, List, length, map, ◌++◌, take, drop}
use Rattle.std.specs.List.{flat_map}
use Rattle.vicinity_c.specs.Run.{AreTexts}
use Rattle.vicinity_c.proofs.given.texts_in.Given as goal

-- the texts so far are cut off, and whatever texts the bytes are, the others are the rest
abbrev pub invariant-loop-length : goal.invariant-loop-length
invariant-loop-length l = record {
  joined : l.bytes ≡ flat_map (λ text. text) (map (λ t. t.now) l.texts.items) ++ l.rest;
  measured : map length (map (λ t. t.now) l.texts.items) ≡ take l.length-index l.lengths;
  others : (texts : List (List ℕ)) → AreTexts l.bytes l.lengths texts
      → AreTexts l.rest (drop l.length-index l.lengths) (drop l.length-index texts);
}
