use Rattle.std.proofs.Common.{◌∙◌, List, ap, subst, sym}
use Rattle.vic_log.specs.Deaf.{deaf_entries, hidden_entries}
use Rattle.vic_log.specs.Order.{entries}
use Rattle.vic_log.specs.declared.entry.Entry.{Entry}
use Rattle.vic_verdict.specs.Verdict.{IsVerdict}
use Rattle.vic_report.proofs.AllFindings.{report_begins}
use Rattle.vic_object.specs.Told.{IsCautiousReading, unnoticed_of}
use Rattle.vic_object.proofs.object.told_of_log.Goals as goal

pub unnoticed_of-requires : goal.unnoticed_of-requires
unnoticed_of-requires c m is =
    let told = subst (IsVerdict c.args.log.lines) is (subst (IsVerdict c.args.log.lines) (sym c.verdict-verdict.ensures) (report_begins c.args.log.lines c.in_ok-report.field-0.report c.in_ok-report.ensures.report)) in
    told.3.0.0

pub cautious_readings-requires-clause-verdict : goal.cautious_readings-requires-clause-verdict
cautious_readings-requires-clause-verdict c = subst (IsVerdict c.args.log.lines) (sym c.verdict-verdict.ensures) (report_begins c.args.log.lines c.in_ok-report.field-0.report c.in_ok-report.ensures.report)

pub returns : goal.returns
returns c =
    let lines = c.args.log.lines in
    let es : List Entry = entries lines in
    let v = c.verdict-verdict.ensures in
    let own = c.in_ok-report.ensures in
    let read = c.in_ok-hidden in
    record {
      report = own.report;
      findings = c.in_ok-findings.ensures;
      weakest = own.weakest;
      hidden = subst (λ w. IsCautiousReading lines (hidden_entries es) w read.hidden) v read.ensures.hidden;
      deaf = subst (λ w. IsCautiousReading lines (deaf_entries es) w read.deaf) v read.ensures.deaf;
      field = own.field;
      unnoticed = c.unnoticed_of.ensures ∙ ap unnoticed_of v;
    }
