use Rattle.vic_margin.proofs.weakest.weakest_besides.Goals as goal

pub returns : goal.returns
returns c = c.in_ok-weakest.ensures.weakest c.args.uids.now c.in_ok-keys.ensures
