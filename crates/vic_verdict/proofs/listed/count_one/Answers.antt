use Rattle.vic_verdict.proofs.Words.{[], ◌∷◌, ◌∙◌, ap, arith, length, listed, sym}
use Rattle.vic_verdict.proofs.Listing.{lists_none}
use Rattle.vic_verdict.proofs.listed.count_one.Goals as goal

pub returns-in-Listed-clause-number : goal.returns-in-Listed-clause-number
returns-in-Listed-clause-number c = let w = c.well_formed.0 in grind (arith, w)

pub returns-in_default : goal.returns-in_default
returns-in_default c = record {
  value = sym (ap (λ e. length (listed (e ∷ []))) (sym c.item.ensures) ∙ ap length (lists_none c.item.result c.in_default.not-Listed));
  small = omega arith;
  number = let w = c.well_formed.0 in grind (arith, w);
}
