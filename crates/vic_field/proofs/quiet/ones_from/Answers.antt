use Rattle.vic_field.proofs.Words.{◌<◌, ◌%◌, ◌+◌, ◌≤◌, subst, sym, ◌∙◌, arith}
use Rattle.vic_field.proofs.PositionLaws.{ones, ones_end, ones_within}
use Rattle.vic_field.proofs.quiet.ones_from.Goals as goal

pub returns-clause-ones : goal.returns-clause-ones
returns-clause-ones c i h = ones c.args.bits (c.args.bit % 64) c.ranges.bits.fits i (subst (λ t. i < t) c.trailing_ones.ensures h)

pub returns-clause-end : goal.returns-clause-end
returns-clause-end c e = ones_end c.args.bits (c.args.bit % 64) c.ranges.bits.fits (sym c.trailing_ones.ensures ∙ e)

pub returns-clause-within : goal.returns-clause-within
returns-clause-within c = subst (λ t. c.args.bit % 64 + t ≤ 64) (sym c.trailing_ones.ensures) (ones_within c.args.bits (c.args.bit % 64) c.ranges.bits.fits (omega arith))
