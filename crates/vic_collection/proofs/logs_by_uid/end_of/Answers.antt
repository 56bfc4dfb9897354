use Rattle.vic_collection.proofs.Words.{ap, arith, length, ◌<◌}
use Rattle.std.proofs.lemmas.List.{get_or_default}
use Rattle.vic_collection.proofs.logs_by_uid.end_of.Goals as goal

pub returns-then-other-number-clause-end : goal.returns-then-other-number-clause-end
returns-then-other-number-clause-end c =
    let all = c.args.rows.now in
    let i = c.loop-index.index in
    let one = c.index-rows-index.result in (
      c.loop-index.invariant,
      λ k d l h.
          let lt : i < length all = omega (arith, l, h) in
          let same = ap (λ s. s.uid) (get_or_default all i d one lt) in
          let other = c.number-other.ensures.value in
          let number = c.number-number.ensures.value in
          let above : c.number-number.result < c.number-other.result = c.if-other-number.true in
          let rises = c.requires.rising i k d l h in
          omega (arith, same, rises, other, number, above),
    )
