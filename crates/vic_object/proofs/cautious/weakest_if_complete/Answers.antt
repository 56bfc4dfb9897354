use Rattle.vic_object.proofs.cautious.weakest_if_complete.Goals as goal

pub returns-in_ok-weakest-in-Complete-clause-weakest : goal.returns-in_ok-weakest-in-Complete-clause-weakest
returns-in_ok-weakest-in-Complete-clause-weakest c = rw c.in-Complete.is c.in_ok-weakest-in-Complete.ensures.weakest
