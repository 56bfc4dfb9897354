use Rattle.vic_walk.proofs.Words.{[], arith, eqb-true, refl, sym, ◌+◌}
use Rattle.vic_walk.proofs.PartUids.{IsBefore, all_before, gathers_found, gathers_none, none_before_span, three_of}
use Rattle.vic_walk.proofs.three.up_to_three.Goals as goal

pub loop-part-init : goal.loop-part-init
loop-part-init c = record {
  low = omega arith;
  found = λ test borders of. rw c.new-found.ensures (gathers_none (IsBefore c.args.parts.now test c.args.span.from) [] (λ u h. none_before_span c.args.parts.now c.args.marks.now c.args.span test u borders of h));
}

pub loop-part-preserved : goal.loop-part-preserved
loop-part-preserved c =
    let i = c.loop-part.invariant in
    let part = c.in-Some.ensures in
    record {
      low = let from = part.first.from in let low = i.low in omega (arith, from, low);
      found = λ test borders of. gathers_found c.args.parts.now c.args.marks.now c.args.span test c.loop-part.from c.in-Some.part _ _ _ _ borders of i.low part.within c.requires part.first refl refl (i.found test borders of) c.gather_part.ensures;
    }

pub returns-then-is_full : goal.returns-then-is_full
returns-then-is_full c test borders of =
    let i = c.loop-part.invariant in
    let part = c.in-Some.ensures in
    let full = eqb-true _ _ (sym c.if-is_full.ensures.value) in
    three_of test (IsBefore c.args.parts.now test (c.in-Some.part + 1)) _ (λ u h. h.passes) (λ short u h. absurd (omega (arith, full, short)))
    (gathers_found c.args.parts.now c.args.marks.now c.args.span test c.loop-part.from c.in-Some.part _ _ _ _ borders of i.low part.within c.requires part.first refl refl (i.found test borders of) c.gather_part.ensures)

pub returns : goal.returns
returns c test borders of = three_of test (IsBefore c.args.parts.now test c.loop-part.from) _ (λ u h. h.passes) (λ short u h. all_before c.args.parts.now c.args.marks.now c.args.span test c.loop-part.from u borders of c.in_default.ensures.none h) (c.loop-part.invariant.found test borders of)
