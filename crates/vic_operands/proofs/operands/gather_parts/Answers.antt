use Rattle.std.proofs.Common.{◌≡◌, ◌&&◌, inl, inr, subst, sym}
use Rattle.std.specs.Prelude.{is_none, is_some}
use Rattle.vic_collection.specs.Collections.{CollectionValue}
use Rattle.vic_operands.specs.Gathered.{AreTogether}
use Rattle.vic_operands.proofs.operands.gather_parts.Goals as goal

pub returns-in_ok-refusal-in-Some : goal.returns-in_ok-refusal-in-Some
returns-in_ok-refusal-in-Some c files named t name =
    let first = rw c.in-Some.is at c.in_ok-index.ensures.some in
    let said = rw (c.surveys.ensures, first.0.there) at c.in_ok-refusal-in-Some.ensures.name in (
      named,
      inr (record {
        collection = c.in_ok-collection.collection;
        together = subst (AreTogether files) (sym c.in_ok-collection.ensures) t;
        why = inl (record { index = c.in-Some.index; first = first; survey = first.0.survey; there = first.0.there; name = said; line = c.in_ok-refusal-in-Some.ensures.line; fault = c.in_ok-refusal-in-Some.ensures.fault });
      }),
    )

pub returns-in-None : goal.returns-in-None
returns-in-None c files named t name =
    let none = rw c.in-None.is at c.in_ok-index.ensures.none in
    c.told_apart.ensures files named (subst (AreTogether files) (sym c.in_ok-collection.ensures) t) name none
    (subst (λ (x : CollectionValue). c.has_unasked_places-unasked.result ≡ (is_some x.rows && is_none x.catalogue.columns.place)) (sym c.in_ok-collection.ensures) c.has_unasked_places-unasked.ensures)
