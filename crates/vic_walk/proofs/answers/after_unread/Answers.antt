use Rattle.vic_walk.proofs.Words.{◌≡◌, ◌-◌, arith, nat_tests, cases_lt, inl, inr}
use Rattle.vic_walk.proofs.ListLaws.{unread_past}
use Rattle.vic_walk.proofs.answers.after_unread.Goals as goal

pub loop-after-init : goal.loop-after-init
loop-after-init c = record { within = omega arith; read = λ i past. unread_past _ c.args.list i c.requires.list past }

pub loop-after-preserved : goal.loop-after-preserved
loop-after-preserved c =
    let l = c.loop-after in
    let within = l.invariant.within in
    let lines = c.args.lines.now in
    let here = c.entry-entry.ensures.here in
    record {
      within = omega (arith, within);
      read = λ i from. elim (cases_lt i l.after) [
        | inl before ↦ let same : i ≡ l.after - 1 = omega (arith, from, before) in rw (same, here) (let no = c.if-needs-gt0.false in grind (arith, nat_tests, c.needs.ensures))
        | inr past ↦ l.invariant.read i past
      ];
    }
