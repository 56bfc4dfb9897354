use Rattle.vic_tree.proofs.Words.{◌∙◌, List, BitMask, ap, arith, take, IsOpenMask, without_keys, is_open_in}
use Rattle.vic_tree.proofs.TallyLaws.{first_few, one_list}
use Rattle.vic_tree.proofs.counted.first_left.Goals as goal

pub returns-then-most-len : goal.returns-then-most-len
returns-then-most-len c all is = c.first_of.ensures ∙ first_few (IsOpenMask (without_keys (is_open_in c.args.ranges.now) c.args.removed.now)) c.args.most _ all _ is c.in_ok-masks.ensures (omega arith)

pub returns : goal.returns
returns c all is = c.first_of-2.ensures ∙ ap (λ (xs : List BitMask). take c.args.most xs) (one_list (IsOpenMask (without_keys (is_open_in c.args.ranges.now) c.args.removed.now)) _ all c.in_ok-all_open_masks_left.ensures is)
