use Rattle.vic_collection.proofs.Words.{Bool, refl, ◌||◌, ◌≡◌, true, false}
use Rattle.std.specs.Str.{bytes_eq}
use Rattle.vic_collection.specs.inner.NameSets.{has_name}
use Rattle.vic_collection.proofs.NameSets.{has_name-insert}
use Rattle.vic_collection.proofs.alike.add_names.Goals as goal

in_turn : (o a b : Bool) → ((o || a) || b) ≡ (o || (a || (b || false)))
in_turn true a b = refl
in_turn false true b = refl
in_turn false false true = refl
in_turn false false false = refl

alone : (o a : Bool) → (o || a) ≡ (o || (a || false))
alone true a = refl
alone false true = refl
alone false false = refl

pub returns-in_ok-insert-2 : goal.returns-in_ok-insert-2
returns-in_ok-insert-2 c = λ q.
    let first = has_name-insert c.args.names.now c.insert.new.self c.args.name q c.in_ok-insert.ensures.updates.0 in
    let second = has_name-insert c.insert.new.self c.insert-in-Some.new.self c.in-Some.key q c.in_ok-insert-2.ensures.updates.0 in
    rw (c.in-Some.is) (rw (second, first) (in_turn (has_name c.args.names.now q) (bytes_eq c.args.name.now q) (bytes_eq c.in-Some.key.now q)))

pub returns-in_default : goal.returns-in_default
returns-in_default c = λ q.
    let first = has_name-insert c.args.names.now c.insert.new.self c.args.name q c.in_ok-insert.ensures.updates.0 in
    rw (c.in_default.is) (rw (first) (alone (has_name c.args.names.now q) (bytes_eq c.args.name.now q)))
