use Rattle.vic_frame.proofs.Words.{◌∙◌, ap, mirror, uid_of}
use Rattle.vic_frame.proofs.MirrorLaws.{uid_of_mirror}
use Rattle.vic_frame.proofs.low_bits_first.key.Goals as goal

pub returns-clause-value : goal.returns-clause-value
returns-clause-value c = c.turn_round.ensures ∙ ap mirror c.number.ensures.value

pub returns-clause-back : goal.returns-clause-back
returns-clause-back c = ap uid_of (returns-clause-value c) ∙ uid_of_mirror c.args.uid c.number.ensures.range
