use Rattle.vic_margin.proofs.Words.{arith, nat_tests, ◌≡◌, ◌<◌, ◌∙◌, ap, sym, true, false, length, is_marked}
use Rattle.vic_margin.proofs.Steps.{margins_at_end}
use Rattle.vic_margin.proofs.Turning.{turned_more, turned_past}
use Rattle.vic_margin.proofs.tally.Tally.margins.Goals as goal
use Rattle.vic_margin.proofs.tally.Tally.margins.Goals.{then-not-has, else-not-has}

pub loop-part-preserved : goal.loop-part-preserved
loop-part-preserved c =
    let l = c.loop-part in
    let lt : l.part < length c.args.self.rest.items = omega (arith, c.loop-part-test.true, c.len-part-end.ensures) in
    elim c.if-not-has.branch [
      | then-not-has w ↦
          let it : is_marked c.args.self.quiet l.part ≡ false = ap (λ m. is_marked m l.part) (sym l.invariant.quiet) ∙ grind (arith, nat_tests, c.has.ensures, w.if-not-has.true) in
          rw w.tally-is (record {
            turned = turned_more l.part c.args.self l.tally _ lt it w.turn.ensures.rest w.turn.ensures.counts l.invariant.turned;
            quiet = w.turn.ensures.quiet ∙ l.invariant.quiet;
          })
      | else-not-has w ↦
          let it : is_marked c.args.self.quiet l.part ≡ true = ap (λ m. is_marked m l.part) (sym l.invariant.quiet) ∙ grind (arith, nat_tests, c.has.ensures, w.if-not-has.false) in
          rw w.tally-is (record {
            turned = turned_past l.part c.args.self l.tally it l.invariant.turned;
            quiet = l.invariant.quiet;
          })
    ]

pub returns : goal.returns
returns c bs es h =
    margins_at_end bs es c.loop-part.part c.args.self c.loop-part.tally c.loop-part.invariant.turned (omega (arith, c.loop-part-test.false, c.len-part-end.ensures)) h
