use Rattle.vic_frame.proofs.Words.{ℕ, ◌+◌, ◌*◌, ◌^◌, ◌∙◌, ap, mirror}
use Rattle.vic_frame.proofs.MirrorLaws.{mirror_of_uid}
use Rattle.vic_frame.proofs.low_bits_first.uid_at.Goals as goal

pub returns-clause-value : goal.returns-clause-value
returns-clause-value c =
    c.from_low_bits.ensures.value ∙ ap (λ (x : ℕ). 0xE0 * 2 ^ 56 + x) (c.number.ensures.value ∙ c.turn_round.ensures)

pub returns-clause-back : goal.returns-clause-back
returns-clause-back c = ap mirror (returns-clause-value c) ∙ mirror_of_uid c.args.key c.requires
