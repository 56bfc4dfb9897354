-- Sets of names, and the places to which names lead.
use Rattle.std.specs.Prelude.{ℕ, Bool, List, Option}
use Rattle.std.specs.Borrow.{Bor}
use Rattle.std.specs.BTreeMap as maps
use Rattle.std.specs.BTreeMap.{BTreeMap}
use Rattle.std.specs.BTreeSet as sets
use Rattle.std.specs.BTreeSet.{BTreeSet}
use Rattle.std.specs.Cmp.Lexicographic.{slice_cmp}
use Rattle.std.specs.Option.{option_map}
use Rattle.std.specs.Ordering.{nat_cmp}

-- the set has the name
abbrev pub has_name : BTreeSet (Bor (List ℕ)) → List ℕ → Bool
has_name names name = sets.contains_by (λ key. slice_cmp nat_cmp name key.now) names

-- where a name leads
abbrev pub lead : BTreeMap (Bor (List ℕ)) (Bor (List ℕ)) → List ℕ → Option (List ℕ)
lead leads name =
    option_map (λ place. place.now)
    (maps.get_by (λ key. slice_cmp nat_cmp name key.now) leads)
