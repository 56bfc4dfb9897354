use Rattle.vic_tree.proofs.Words.{◌≡◌, get_or, rules, arith}
use Rattle.vic_tree.proofs.RunLaws.{is_before_all}
use Rattle.vic_tree.proofs.sorted_keys.KeysAhead.run_from.Goals as goal

pub returns-in-Some-clause-free : goal.returns-in-Some-clause-free
returns-in-Some-clause-free c k le =
    let keys = c.self.inside.keys.now in
    let at : c.in-Some.key.now ≡ get_or keys 0 0 = search rules in
    let le = rw c.new.ensures at le in
    let after = rw (← c.self.view_is) at c.requires in
    rw (← c.self.view_is) (is_before_all keys k c.self.invariant.1 (λ some. let low = after 0 some in omega arith))
