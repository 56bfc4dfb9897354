-- What it means that none of several faults is there.
use Rattle.vic_table.proofs.Words.{◌≡◌, Bool, true, false, Option, Some, None, refl, option_or, if◌then◌else◌}

pub none_of_two : {F : Type 0} (a b : Option F) → option_or a b ≡ None → (a ≡ None) × (b ≡ None)
none_of_two None b h = (refl, h)
none_of_two (Some x) b h = cc

pub both_none : {F : Type 0} (a b : Option F) → a ≡ None → b ≡ None → option_or a b ≡ None
both_none None b ea eb = eb
both_none (Some x) b ea eb = cc

pub if_none : {F : Type 0} (b : Bool) (f : F) (o : Option F) → (if b then Some f else o) ≡ None → (b ≡ false) × (o ≡ None)
if_none true f o h = cc
if_none false f o h = (refl, h)

pub some_none : {F : Type 0} {f : F} → Some f ≡ None → ⊥
some_none h = cc
