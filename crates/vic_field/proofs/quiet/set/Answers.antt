use Rattle.vic_field.proofs.Words.{◌<◌, ◌/◌, length, subst, arith, eq-eqb, eqb-true, HasBits}
use Rattle.vic_field.proofs.PositionLaws.{full_bits, set_bit, set_full}
use Rattle.vic_field.proofs.quiet.set.Goals as goal

there : (c : goal.After-words-1) → c.args.bit / 64 < length c.args.words.now.items
there c = let room = c.requires in omega (arith, room)

pub returns-clause-set : goal.returns-clause-set
returns-clause-set c = set_bit c.args.stretch c.args.bit c.bits_in.result c.args.words.now.items (there c) (subst (λ ws. HasBits c.args.stretch ws (c.args.bit / 64) c.bits_in.result) c.deref.ensures.value c.bits_in.ensures)

pub returns-clause-full : goal.returns-clause-full
returns-clause-full c all k e = set_full c.args.stretch c.args.bit c.bits_in.result k c.args.words.now.items (there c) (eqb-true _ _ all) e

pub returns-clause-noted : goal.returns-clause-noted
returns-clause-noted c full = eq-eqb _ _ (full_bits c.args.stretch c.args.bit c.bits_in.result c.args.words.now.items (there c) c.bits_in.type_inv full)
