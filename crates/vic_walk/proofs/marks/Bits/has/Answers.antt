use Rattle.std.proofs.Common.{ap, ◌∙◌, ◌/◌, ◌%◌, ◌^◌, nat_eq}
use Rattle.std.proofs.lemmas.Nat.Bits.{shr_and_one}
use Rattle.vic_walk.proofs.marks.Bits.has.Goals as goal

pub returns : goal.returns
returns c = ap (λ b. nat_eq b 1) (shr_and_one c.word.result (c.args.bit % 64)) ∙ ap (λ w. nat_eq (w / 2 ^ (c.args.bit % 64) % 2) 1) c.word.ensures.word
