use Rattle.vic_report.proofs.Words.{◌∙◌, ap, has}
use Rattle.vic_report.proofs.Searching.{found_among}
use Rattle.vic_report.proofs.line_numbers.LineNumbers.has.Goals as goal

pub returns : goal.returns
returns c =
    c.is_ok.ensures.value
    ∙ (found_among c.deref.result.now c.args.number c.binary_search.result c.binary_search.ensures.position (rw c.deref.ensures.value c.self.invariant)
    ∙ ap (λ ns. has ns c.args.number) (c.deref.ensures.value ∙ c.self.view_is))
