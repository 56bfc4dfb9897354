use Rattle.vic_survey.proofs.ValueWords.{◌∙◌, sym, ap, bytes_eq, fault_among}
use Rattle.vic_survey.proofs.Spelled.{fault_here, fault_past}
use Rattle.vic_survey.proofs.fault_names.first_named.Goals as goal

pub returns-then-eq : goal.returns-then-eq
returns-then-eq c =
    let named = c.as_bytes.ensures.value ∙ c.name.ensures.name in
    fault_here c.args.faults.now c.loop-fault.fault-index _ c.args.name.now (fault_among c.args.faults.now c.args.name.now) c.loop-fault-test.true
    (ap (λ xs. bytes_eq xs c.args.name.now) (sym named) ∙ sym c.eq.ensures ∙ c.if-eq.true) c.loop-fault.invariant

pub loop-fault-preserved : goal.loop-fault-preserved
loop-fault-preserved c =
    let named = c.as_bytes.ensures.value ∙ c.name.ensures.name in
    fault_past c.args.faults.now c.loop-fault.fault-index _ c.args.name.now (fault_among c.args.faults.now c.args.name.now) c.loop-fault-test.true
    (ap (λ xs. bytes_eq xs c.args.name.now) (sym named) ∙ sym c.eq.ensures ∙ c.if-eq.false) c.loop-fault.invariant
