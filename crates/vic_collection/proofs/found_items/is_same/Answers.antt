use Rattle.vic_collection.proofs.Words.{◌∙◌, sym}
use Rattle.std.proofs.Common.{rules}
use denote.Enum.Bare.{same_true}
use Rattle.vic_collection.specs.contracts.state.State.{the_type}
use Rattle.vic_collection.proofs.Listing.{other_state}
use Rattle.vic_collection.proofs.found_items.is_same.Goals as goal

pub returns : goal.returns
returns c = record {
  same = λ e. same_true the_type (search rules) _ _ (sym c.eq.ensures ∙ e);
  different = λ e. other_state _ _ (sym c.eq.ensures ∙ e);
}
