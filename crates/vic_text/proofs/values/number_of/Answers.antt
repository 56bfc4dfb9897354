use Rattle.std.proofs.Common.{◌≡◌, ◌∙◌, arith, sym}
use Rattle.std.proofs.lemmas.Slice.Eq.{bytes_eq-Decides}
use Rattle.vic_text.proofs.ValueLaws.{number_refused, number_found}
use Rattle.vic_text.proofs.values.number_of.Goals as goal

pub returns-in_default : goal.returns-in_default
returns-in_default c = sym (number_refused c.args.text.now c.parse.result c.parse.ensures.value.0 (λ n is e. c.in_default.not-Ok n is))

pub returns-then-eq : goal.returns-then-eq
returns-then-eq c =
    let same = (bytes_eq-Decides c.format.result.now c.args.text.now).0 (sym c.eq.ensures ∙ c.if-eq.true) in
    sym (number_found c.args.text.now c.in-Ok.number (omega arith) (sym same ∙ c.format.ensures.text))

pub returns-else-eq : goal.returns-else-eq
returns-else-eq c = sym (number_refused c.args.text.now c.parse.result c.parse.ensures.value.0 (λ n is e.
    let number : n ≡ c.in-Ok.number = cc (is, c.in-Ok.is) in
    let text : c.format.result.now ≡ c.args.text.now = cc (number, e, c.format.ensures.text) in
    cc ((bytes_eq-Decides c.format.result.now c.args.text.now).1 text, c.eq.ensures, c.if-eq.false)))
