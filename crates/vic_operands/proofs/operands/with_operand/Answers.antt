use Rattle.vic_operands.proofs.KeptLaws.{more_catalogues, more_places, more_surveys}
use Rattle.vic_operands.proofs.operands.with_operand.Goals as goal

pub returns-in_ok-append-in-Surveys : goal.returns-in_ok-append-in-Surveys
returns-in_ok-append-in-Surveys c files file h k =
    more_surveys files file _ _ _ c.in-Surveys.more.items _ h (rw c.in-Surveys.is at k) c.in_ok-append-in-Surveys.ensures.items

pub returns-in_ok-push-in-Catalogue : goal.returns-in_ok-push-in-Catalogue
returns-in_ok-push-in-Catalogue c files file h k =
    more_catalogues files file _ _ c.in-Catalogue.catalogue _ _ h (rw c.in-Catalogue.is at k) c.in_ok-push-in-Catalogue.ensures.items

pub returns-in_ok-push-in-Places : goal.returns-in_ok-push-in-Places
returns-in_ok-push-in-Places c files file h k =
    more_places files file _ _ _ c.in-Places.rows _ h (rw c.in-Places.is at k) c.in_ok-push-in-Places.ensures.items
