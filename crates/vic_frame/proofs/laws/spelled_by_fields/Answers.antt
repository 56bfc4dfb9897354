use Rattle.vic_frame.proofs.Words.{sym, subst, arith, HasInventoryFields, HasStayQuietFields, HasReplyFields}
use Rattle.vic_frame.proofs.FieldLaws.{inventory_fields, inventory_from, stay_quiet_fields, stay_quiet_from, reply_fields, reply_from}
use Rattle.vic_frame.proofs.laws.spelled_by_fields.Goals as goal

pub returns-clause-inventory : goal.returns-clause-inventory
returns-clause-inventory c f link sixteen m h = (
  λ s. (s.0, s.1, subst (λ f. HasInventoryFields f link sixteen m) (sym s.2) (inventory_fields link sixteen m s.0)),
  λ s. (s.0, s.1, inventory_from f link sixteen m h s.2),
)

pub returns-clause-stay_quiet : goal.returns-clause-stay_quiet
returns-clause-stay_quiet c f link uid h = (
  λ s. (s.0, s.1, subst (λ f. HasStayQuietFields f link uid) (sym s.2) (stay_quiet_fields link uid s.0)),
  λ s. (s.0, s.1, stay_quiet_from f link uid h s.2),
)

pub returns-clause-reply : goal.returns-clause-reply
returns-clause-reply c f r h = (
  λ s. (s.0, subst (λ f. HasReplyFields f r) (sym s.1) (reply_fields r (omega (arith, s.0.uid)))),
  λ s. (s.0, reply_from f r h s.1),
)
