use Rattle.vic_report.proofs.Words.{◌∙◌, ap, false≢true, inl, is_ok, sym, subst, ◌≡◌, true, member_at}
use Rattle.vic_report.specs.inner.NotedLines.{is_noted}
use Rattle.vic_report.proofs.NotedLines.{as_noted, noted_at, noted_only, one_place}
use Rattle.vic_report.proofs.Searching.{found_among, found_at}
use Rattle.vic_report.proofs.certain_lines.note.Goals as goal

pub returns-then-is_none-clause-noted : goal.returns-then-is_none-clause-noted
returns-then-is_none-clause-noted c lines up shows =
    let at = found_at c.args.uids.now c.args.uid c.in-Ok.index c.binary_search.result c.binary_search.ensures.position up c.in-Ok.is in
    noted_at lines c.args.uids.now c.args.noted.now c.in-Ok.index c.args.uid c.args.line up at.0 c.requires at.1 c.if-is_none.ensures shows

pub returns-then-is_none-clause-only : goal.returns-then-is_none-clause-only
returns-then-is_none-clause-only c up i n e =
    let at = found_at c.args.uids.now c.args.uid c.in-Ok.index c.binary_search.result c.binary_search.ensures.position up c.in-Ok.is in
    noted_only c.args.uids.now c.args.noted.now c.in-Ok.index c.args.uid c.args.line i n at.0 c.requires at.1 c.if-is_none.ensures e

pub returns-else-is_none-clause-noted : goal.returns-else-is_none-clause-noted
returns-else-is_none-clause-noted c lines up shows =
    let us = c.args.uids.now in
    let at = found_at us c.args.uid c.in-Ok.index c.binary_search.result c.binary_search.ensures.position up c.in-Ok.is in
    as_noted lines us c.args.noted.now _ (λ j lt same. subst (λ k. is_noted c.args.noted.now k ≡ true) (sym (one_place us c.in-Ok.index j c.args.uid up at.0 lt at.1 same)) c.if-is_none.ensures)

pub returns-else-is_none-clause-only : goal.returns-else-is_none-clause-only
returns-else-is_none-clause-only c up i n e = inl e

pub returns-in_default-clause-noted : goal.returns-in_default-clause-noted
returns-in_default-clause-noted c lines up shows =
    let us = c.args.uids.now in
    let none = ap is_ok c.in_default.is in
    as_noted lines us c.args.noted.now _ (λ j lt same. absurd (false≢true (sym none ∙ (found_among us c.args.uid c.binary_search.result c.binary_search.ensures.position up ∙ member_at us j c.args.uid 0 lt same))))

pub returns-in_default-clause-only : goal.returns-in_default-clause-only
returns-in_default-clause-only c up i n e = inl e
