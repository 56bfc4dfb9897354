use Rattle.vic_frame.proofs.Words.{◌∙◌, sym, ap, arith, lies_in}
use Rattle.vic_frame.proofs.MaskLaws.{long_none, long_same}
use Rattle.vic_frame.proofs.mask.without_top_byte.Goals as goal

pub returns-then-matches-clause-same : goal.returns-then-matches-clause-same
returns-then-matches-clause-same c u is_uid =
    let found = ap (lies_in c.args.mask.now) (sym c.from_low_bits.ensures.value) ∙ sym c.matches.ensures.value ∙ c.if-matches.true in
    rw (← c.mask.view_is) (long_same _ u (omega arith) is_uid (rw (← c.mask.view_is) at found))

pub returns-else-matches-clause-none : goal.returns-else-matches-clause-none
returns-else-matches-clause-none c u is_uid =
    let found = ap (lies_in c.args.mask.now) (sym c.from_low_bits.ensures.value) ∙ sym c.matches.ensures.value ∙ c.if-matches.false in
    rw (← c.mask.view_is) (long_none _ u (omega arith) is_uid (rw (← c.mask.view_is) at found))
