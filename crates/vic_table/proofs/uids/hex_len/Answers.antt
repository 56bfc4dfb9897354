use Rattle.std.proofs.lemmas.List.Sums.{position_or_len_is}
use Rattle.vic_table.proofs.Words.{length, sym, arith, common_steps}
use Rattle.vic_table.specs.Contents.{is_no_hex_digit}
use Rattle.vic_table.proofs.uids.hex_len.Goals as goal

pub returns-then-is_no_hex_digit-clause-value : goal.returns-then-is_no_hex_digit-clause-value
returns-then-is_no_hex_digit-clause-value c = grind (arith, common_steps, position_or_len_is is_no_hex_digit c.args.cell.now c.loop-index.index 0)

pub returns-clause-value : goal.returns-clause-value
returns-clause-value c =
    let cell = c.args.cell.now in
    sym (position_or_len_is is_no_hex_digit cell (length cell) 0 (omega arith) (λ k lt. c.loop-index.invariant k (omega arith)) (λ lt. absurd (omega arith)))
