use Rattle.vic_numbers.proofs.Words.{map-id, rules, subst}
use Rattle.vic_numbers.specs.Buffers.{IsReturned}
use Rattle.vic_numbers.proofs.buffers.copy_uids.Goals as goal

pub returns : goal.returns
returns c = subst (λ us. IsReturned us c.args.room.now c.copy_each.new.room c.copy_each.result) (map-id c.args.uids.now) (c.copy_each.ensures (λ u. u) (λ u v p. search rules))
