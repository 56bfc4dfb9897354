use Rattle.vic_field.proofs.Words.{length, [], ap, subst, sym, arith, AreRisingKeys}
use Rattle.std.specs.List.Sorted.{IsStrictlySortedBy}
use Rattle.vic_field.proofs.field.Field.new.Goals as goal

no_keys : AreRisingKeys []
unfolding IsStrictlySortedBy
no_keys = record {
  small = λ k d h. absurd (omega arith);
  rising = tt;
}

pub invariant_of-result : goal.invariant_of-result
invariant_of-result c = record {
  rising = subst AreRisingKeys (sym c.new.ensures.items) no_keys;
  room = let none = ap length c.new.ensures.items in omega (arith, none);
}
