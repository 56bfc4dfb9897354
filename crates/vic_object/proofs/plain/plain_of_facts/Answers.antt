use Rattle.std.proofs.Common.{subst}
use Rattle.vic_log.specs.Order.{entries}
use Rattle.vic_tree.specs.Keys.{AreKeysOf}
use Rattle.vic_object.specs.Told.{IsWeakestIfComplete}
use Rattle.vic_object.proofs.FieldMade.{certain_list}
use Rattle.vic_object.proofs.plain.plain_of_facts.Goals as goal

pub field_told-requires-clause-certain_keys : goal.field_told-requires-clause-certain_keys
field_told-requires-clause-certain_keys c = subst (AreKeysOf c.in_ok-certain_keys.certain_keys) c.as_slice.ensures.value c.in_ok-certain_keys.ensures

pub returns-clause-certain_keys : goal.returns-clause-certain_keys
returns-clause-certain_keys c = (
  c.args.facts.certain,
  certain_list c.args.log.now.lines c.args.facts.«open» c.args.facts.certain c.requires.facts.told,
  subst (AreKeysOf c.in_ok-certain_keys.certain_keys) c.as_slice.ensures.value c.in_ok-certain_keys.ensures,
)

pub returns-clause-weakest : goal.returns-clause-weakest
returns-clause-weakest c = subst (λ v. IsWeakestIfComplete (entries c.args.log.now.lines) v c.in_ok-weakest.weakest) c.verdict.ensures c.in_ok-weakest.ensures.weakest
