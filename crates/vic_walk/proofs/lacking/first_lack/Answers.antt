use Rattle.vic_walk.proofs.Words.{◌≡◌, ◌+◌, ◌-◌, ◌<◌, ◌∙◌, ℕ, false, true, ap, arith, false_from_ne_true, false≢true, get_or-replicate, is_marked, length, length-replicate, sym}
use Rattle.vic_log.specs.Order.{entries}
use Rattle.vic_walk.specs.Met.{IsMetAt}
use Rattle.vic_walk.proofs.Meeting.{met_earlier, met_else, met_up_to_max, ready_first}
use Rattle.vic_walk.proofs.lacking.first_lack.Goals as goal
use Rattle.vic_walk.proofs.lacking.first_lack.Goals.{in-Some, in-None}

pub loop-met-init : goal.loop-met-init
loop-met-init c =
    let es = entries c.args.lines.now in
    let ends = c.requires.ends in
    record {
      least = omega arith;
      upto = omega arith;
      low = λ it. it;
      high = omega arith;
      candidates = record {
        none = λ k from below. absurd (omega (arith, below));
        states = ready_first c.args.log_parts.now.parts es (λ u. true) _ (ap length (c.all_ready.ensures.ready ∙ c.in_ok-all-2.ensures) ∙ (length-replicate (length c.args.ends.now) true ∙ ends.known.room)) c.all_ready.ensures.quiet (λ u p is at. let same = ends.known.room in rw (c.all_ready.ensures.ready, c.in_ok-all-2.ensures) (get_or-replicate (length c.args.ends.now) p true false (omega (arith, at.within, same))));
      };
      others = λ k le below other. absurd (false≢true (sym other ∙ rw c.in_ok-all.ensures (get_or-replicate c.args.upto k true false below)));
      met = λ k below. absurd (omega (arith, below));
      lack = λ less. absurd (omega (arith, less));
    }

pub loop-met-preserved : goal.loop-met-preserved
loop-met-preserved c =
    let es = entries c.args.lines.now in
    let l = c.loop-met in
    let i = l.invariant in
    let low = i.low c.loop-met-test.true in
    let high = i.high in
    let upto = i.upto in
    let row = c.in_ok-lacking.ensures in
    let slots = c.in_ok-go_to_first.ensures.slots in
    let there = c.in_ok-go_to_first.ensures.candidates in
    let met_there : (k : ℕ) → k < l.middle → is_marked c.in_ok-lacking.lacking k ≡ false → IsMetAt es l.middle k = λ k below.
    met_else es _ _ l.middle (l.most + 1) k row (omega (arith, high)) below (λ other. i.others k (omega (arith, below, high)) (omega (arith, below, high, upto)) (rw slots at other)) in
    elim c.match-first.branch [
      | in-Some w ↦
          let first = w.in-Some.ensures.first in
          let within = w.in-Some.ensures.within in
          let last : l.middle - 1 + 1 ≡ l.middle = omega (arith, low) in
          let max = w.max-met.ensures in
          rw (w.candidates-is, w.met-is, w.most-is) (record {
            least = omega (arith, low, within, max);
            upto = omega (arith, high, upto);
            low = λ less. omega (arith, less);
            high = omega arith;
            candidates = record {
              none = λ k from below. false_from_ne_true _ (λ it. false≢true (sym (there.none k from below) ∙ (row.unmet k it).1));
              states = there.states;
            };
            others = λ k le below other. rw last (met_there k (omega (arith, le, low)) other);
            met = met_up_to_max es l.met w.in-Some.first _ max i.met (λ k below. met_earlier es w.in-Some.first l.middle k (omega (arith, within)) (met_there k (omega (arith, below, within)) (first.before k (omega arith) below)));
            lack = λ less met. (row.unmet w.in-Some.first first.passes).2 ((rw last at met) w.in-Some.first within);
          })
      | in-None w ↦
          let none = w.in-None.ensures.none in
          rw (w.candidates-is, w.met-is, w.most-is) (record {
            least = high;
            upto = upto;
            low = λ less. omega (arith, less);
            high = omega arith;
            candidates = there;
            others = λ k le below other. i.others k le below (rw slots at other);
            met = λ k below. met_there k below (none k (omega arith) below);
            lack = i.lack;
          })
    ]

pub loop-met-smaller : goal.loop-met-smaller
loop-met-smaller c =
    let i = c.loop-met.invariant in
    let low = i.low c.loop-met-test.true in
    let high = i.high in
    elim c.match-first.branch [
      | in-Some w ↦ let within = w.in-Some.ensures.within in rw (w.met-is, w.most-is) (omega (arith, low, high, within, c.loop-met-test.true, w.max-met.ensures))
      | in-None w ↦ rw (w.met-is, w.most-is) (omega (arith, low, high, c.loop-met-test.true))
    ]

pub returns-clause-lack : goal.returns-clause-lack
returns-clause-lack c less met =
    let least = c.loop-met.invariant.least in
    let same : c.loop-met.most ≡ c.loop-met.met = omega (arith, least, c.loop-met-test.false) in
    c.loop-met.invariant.lack (rw same less) (rw same met)
