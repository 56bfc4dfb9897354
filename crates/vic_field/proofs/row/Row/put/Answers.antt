use Rattle.vic_field.proofs.Words.{length, ap, subst, sym, ◌∙◌, arith, AreRisingKeys, length-insert}
use Rattle.vic_field.proofs.RowLaws.{inserted, inserted_keys}
use Rattle.vic_field.proofs.row.Row.put.Goals as goal

pub invariant_of-self-2 : goal.invariant_of-self-2
invariant_of-self-2 c =
    let ks = c.args.self.now.keys.items in
    let position = c.position_of-position.result in
    let p = c.position_of-position.ensures in
    let items = c.in_ok-insert.ensures.items in
    let size = ap length items ∙ length-insert ks position c.number-key.result p.within in
    record {
      rising = subst AreRisingKeys (sym items) (inserted_keys ks position c.number-key.result c.args.self.now.rising p (rw c.number-key.ensures.value c.requires) (rw c.number-key.ensures.value c.number-key.ensures.small));
      room = let room = c.in_ok-quiet.ensures.room in omega (arith, size, room, c.len.ensures);
    }

pub returns-clause-more : goal.returns-clause-more
returns-clause-more c =
    let row = c.args.self.now in
    let position = c.position_of-position.result in
    let moved = c.in_ok-quiet.ensures.moved in
    let size = c.len.ensures in
    rw (← c.number-key.ensures.value) (
      position,
      inserted row c.insert.new.self.items c.in_ok-quiet.quiet c.number-key.result position c.position_of-position.ensures.within c.in_ok-insert.ensures.items
          moved.before
          moved.put
          (λ k from lt. moved.after k from (omega (arith, lt, size))),
    )
