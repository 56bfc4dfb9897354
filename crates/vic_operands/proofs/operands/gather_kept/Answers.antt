use Rattle.std.proofs.Common.{◌∙◌, ◌≤◌, ap, arith, inl, inr, length, sym}
use Rattle.std.proofs.lemmas.Result.{IfOk-weaker}
use Rattle.vic_operands.proofs.GatheringLaws.{are_together, at_most_one, catalogue_name, no_operands, none_popped}
use Rattle.vic_operands.proofs.operands.gather_kept.Goals as goal

pub returns-then-as_slice-ne1 : goal.returns-then-as_slice-ne1
returns-then-as_slice-ne1 c files named h = inr (no_operands files _ _ _ h (inl (λ is. c.if-as_slice-ne1.true (ap length c.as_slice.ensures.value ∙ is))))

pub returns-then-as_slice-gt1 : goal.returns-then-as_slice-gt1
returns-then-as_slice-gt1 c files named h = inr (no_operands files _ _ _ h (inr (omega (arith, c.if-as_slice-gt1.true, ap length c.as_slice-2.ensures.value))))

pub returns-in-Some : goal.returns-in-Some
returns-in-Some c =
    let places = c.args.kept.places.items in
    let one = sym (ap length c.as_slice.ensures.value) ∙ c.if-as_slice-ne1.false in
    let few : length places ≤ 1 = omega (arith, c.if-as_slice-gt1.false, ap length c.as_slice-2.ensures.value) in
    let popped = c.pop-in-Some.ensures in
    let rows = at_most_one places c.pop-in-Some.new.self.items c.pop-in-Some.result popped.items few
    (none_popped places c.pop-in-Some.new.self.items c.pop-in-Some.result _ popped.items popped.rest (λ e. (rw e at popped.cases).0)) in
    IfOk-weaker c.gather_parts.result _ _ (λ gathered g files named h. g files named
    (are_together files _ _ c.in-Some.catalogue places c.pop-in-Some.result _ h c.in-Some.ensures.items one rows)
    (catalogue_name files _ _ c.in-Some.catalogue _ _ h c.in-Some.ensures.items one)) c.gather_parts.ensures
