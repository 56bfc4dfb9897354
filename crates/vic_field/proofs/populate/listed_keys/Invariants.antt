use Rattle.vic_field.proofs.Words.{take, entries, listed, AreKeysOfEach}
use Rattle.vic_field.proofs.populate.listed_keys.Given as goal

abbrev pub invariant-loop-line : goal.invariant-loop-line
invariant-loop-line l = AreKeysOfEach (listed (entries (take l.line-index l.lines))) l.keys.items
