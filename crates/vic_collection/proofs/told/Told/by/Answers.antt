use Rattle.vic_collection.proofs.Words.{◌∙◌, ap, list_any}
use Rattle.vic_frame.specs.Masks.{lies_in}
use Rattle.vic_collection.proofs.told.Told.by.Goals as goal

pub returns : goal.returns
returns c = record {
  certain = λ u. c.in_ok-certain.ensures u ∙ c.in_ok-sightings.ensures u;
  open_uids = λ u i. c.in_ok-of_masks.ensures u i ∙ (ap (list_any (λ m. lies_in m u)) c.deref.ensures.value ∙ c.in_ok-masks.ensures u);
  nothing = c.any_tells_nothing.ensures;
}
