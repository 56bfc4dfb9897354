use Rattle.vic_answer.proofs.Words.{refl}
use Rattle.std.proofs.lemmas.List.{nil_from_length}
use Rattle.vic_answer.proofs.findings.FindingsLeftIterator.next.Goals as goal

-- at each kind, those before it have run out

pub returns-in-Some-silenced_by-clause-steps : goal.returns-in-Some-silenced_by-clause-steps
returns-in-Some-silenced_by-clause-steps c =
    rw (nil_from_length _ c.in_default.ensures.cases, c.in-Some-silenced_by.is)

pub returns-in-Some-split_first-clause-steps : goal.returns-in-Some-split_first-clause-steps
returns-in-Some-split_first-clause-steps c =
    rw (nil_from_length _ c.in_default.ensures.cases, c.in_default-silenced_by.is, c.in-Some-split_first.ensures.cases.0)

pub returns-in-Some-split_first-2-clause-steps : goal.returns-in-Some-split_first-2-clause-steps
returns-in-Some-split_first-2-clause-steps c =
    rw (nil_from_length _ c.in_default.ensures.cases, c.in_default-silenced_by.is, nil_from_length _ c.in_default-split_first.ensures.cases, c.in-Some-split_first-2.ensures.cases.0)

pub returns-in-Some-unsettled-clause-steps : goal.returns-in-Some-unsettled-clause-steps
returns-in-Some-unsettled-clause-steps c =
    rw (nil_from_length _ c.in_default.ensures.cases, c.in_default-silenced_by.is, nil_from_length _ c.in_default-split_first.ensures.cases, nil_from_length _ c.in_default-split_first-2.ensures.cases, c.in-Some-unsettled.is)

pub returns-in-Some-split_first-3-clause-steps : goal.returns-in-Some-split_first-3-clause-steps
returns-in-Some-split_first-3-clause-steps c =
    rw (nil_from_length _ c.in_default.ensures.cases, c.in_default-silenced_by.is, nil_from_length _ c.in_default-split_first.ensures.cases, nil_from_length _ c.in_default-split_first-2.ensures.cases, c.in_default-unsettled.is, c.in-Some-split_first-3.ensures.cases.0)

pub returns-then-self-clause-steps : goal.returns-then-self-clause-steps
returns-then-self-clause-steps c =
    rw (nil_from_length _ c.in_default.ensures.cases, c.in_default-silenced_by.is, nil_from_length _ c.in_default-split_first.ensures.cases, nil_from_length _ c.in_default-split_first-2.ensures.cases, c.in_default-unsettled.is, nil_from_length _ c.in_default-split_first-3.ensures.cases, c.if-self.true)

pub returns-in-Some-split_first-4-clause-steps : goal.returns-in-Some-split_first-4-clause-steps
returns-in-Some-split_first-4-clause-steps c =
    rw (nil_from_length _ c.in_default.ensures.cases, c.in_default-silenced_by.is, nil_from_length _ c.in_default-split_first.ensures.cases, nil_from_length _ c.in_default-split_first-2.ensures.cases, c.in_default-unsettled.is, nil_from_length _ c.in_default-split_first-3.ensures.cases, c.if-self.false, c.in-Some-split_first-4.ensures.cases.0)

pub returns-clause-steps : goal.returns-clause-steps
returns-clause-steps c =
    rw (nil_from_length _ c.in_default.ensures.cases, c.in_default-silenced_by.is, nil_from_length _ c.in_default-split_first.ensures.cases, nil_from_length _ c.in_default-split_first-2.ensures.cases, c.in_default-unsettled.is, nil_from_length _ c.in_default-split_first-3.ensures.cases, c.if-self.false, nil_from_length _ c.in_default-split_first-4.ensures.cases) (refl, refl)
