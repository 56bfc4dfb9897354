use Rattle.vic_field.proofs.Words.{◌≡◌, ◌<◌, ◌+◌, ◌-◌, ◌&&◌, Bool, false, ap, subst, ◌∙◌, arith, ◌⊎◌, inl, inr, lt-ltb, is_quiet_position}
use Rattle.vic_field.proofs.PositionLaws.{gapped_quiet, gapped_ready, none_gapped}
use Rattle.vic_field.proofs.quiet.QuietPositions.with_gap.Goals as goal
use Rattle.vic_field.proofs.quiet.QuietPositions.with_gap.Goals.{then-run_from-gt0, then-position-gap, else-position-gap, else-run_from-gt0}

pub loop-next-init : goal.loop-next-init
loop-next-init c =
    assumption (c.in_ok-moved.ensures.room, none_gapped c.args.gap (is_quiet_position c.args.self.now) (is_quiet_position c.in_ok-moved.moved) c.in_ok-moved.ensures.none)

pub loop-next-preserved : goal.loop-next-preserved
loop-next-preserved c =
    let i = c.loop-next.invariant in
    let old = c.args.self.now in
    elim c.if-run_from-gt0.branch [
      | then-run_from-gt0 w ↦
          let some = w.if-run_from-gt0.true in
          let room = w.add.ensures.room in
          let next = c.loop-next.next in
          let to = w.if-position-gap.add in
          let position : ((to + 1 ≡ next) × (to < c.args.gap)) ⊎ ((to ≡ next) × (c.args.gap < next)) = elim w.if-position-gap.branch [
            | then-position-gap w' ↦ let lt = w'.if-position-gap.true in inl (omega (arith, w'.add-is, c.loop-next.auto.next), omega (arith, w'.add-is, lt))
            | else-position-gap w' ↦ let from = w'.if-position-gap.false in inr (w'.add-is, omega (arith, from, c.loop-next.auto.next))
          ] in
          rw w.moved-is (record {
            room = rw room i.room;
            gapped = gapped_quiet c.args.gap next to (is_quiet_position old) (is_quiet_position c.loop-next.moved) (is_quiet_position w.add.new.self) (λ k here. c.run_from.ensures.quiet k (omega (arith, here)) (omega (arith, here, some))) position w.add.ensures.added i.gapped;
          })
      | else-run_from-gt0 w ↦
          let none = w.if-run_from-gt0.false in
          let gapped = gapped_ready c.args.gap c.loop-next.next (is_quiet_position old) (is_quiet_position c.loop-next.moved) (λ k here. let same : c.loop-next.next - 1 ≡ k = omega (arith, here) in subst (λ n. is_quiet_position old n ≡ false) same (c.run_from.ensures.ready (omega (arith, none)))) i.gapped in
          rw w.moved-is (record { room = i.room; gapped = gapped })
    ]

pub returns-clause-moved : goal.returns-clause-moved
returns-clause-moved c =
    let i = c.loop-next.invariant.gapped in
    let end = c.loop-next-test.false in
    let old = is_quiet_position c.args.self.now in
    record {
      before = λ k lt. let within = c.requires in i.before k lt ∙ ap (λ (b : Bool). b && old k) (lt-ltb (k + 1) c.loop-next.next (omega (arith, lt, within, end)));
      put = i.put;
      after = λ k le h. i.after k le ∙ ap (λ (b : Bool). b && old k) (lt-ltb (k + 1) c.loop-next.next (omega (arith, h, end)));
    }
