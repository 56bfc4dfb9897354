use Rattle.std.proofs.Common.{◌∙◌}
use Rattle.vic_operands.proofs.KeptLaws.{kept_catalogue, kept_places}
use Rattle.vic_operands.proofs.operand.table_in.Goals as goal

pub returns-in_ok-name-in-Ok-Catalogue : goal.returns-in_ok-name-in-Ok-Catalogue
returns-in_ok-name-in-Ok-Catalogue c = kept_catalogue _ _ c.requires (c.in_ok-name-in-Ok-Catalogue.ensures.ok ∙ c.as_str.ensures.value) (rw c.in-Ok-Catalogue.field-0-is at c.in-Ok-Catalogue.ensures)

pub returns-in-Ok-Places : goal.returns-in-Ok-Places
returns-in-Ok-Places c = kept_places _ _ c.requires (rw c.in-Ok-Places.field-0-is at c.in-Ok-Places.ensures)
