use Rattle.vic_margin.proofs.Words.{arith, refl, slice_index, IsKey}
use Rattle.vic_margin.proofs.Lowest.{free_end, free_next, least_same, none_free, past_next, past_none}
use Rattle.vic_margin.proofs.least.least_besides.Goals as goal

pub loop-key-init : goal.loop-key-init
loop-key-init c = record { past = past_none _; least = none_free _ _ _ }

pub loop-key-preserved : goal.loop-key-preserved
loop-key-preserved c =
    let keys = c.as_slice-keys.result.now in
    let l = c.loop-key in
    let key = slice_index keys l.key-index in
    let is_key : IsKey key = c.as_slice-keys.ensures.keys l.key-index 0 c.loop-key-test.true in
    record {
      past = past_next keys l.key-index l.from key c.as_slice-keys.ensures.order is_key c.loop-key-test.true refl l.invariant.past;
      least = least_same _ _ _ _ _ (λ k. free_next keys l.key-index l.from key k c.as_slice-keys.ensures.order c.loop-key-test.true refl l.invariant.past) (c.least_between-least.ensures _ l.invariant.least);
    }

pub returns : goal.returns
returns c =
    let inv = c.loop-key.invariant in
    rw (← c.as_slice-keys.ensures.value) (least_same _ _ _ _ _ (λ k. free_end _ c.loop-key.key-index c.loop-key.from k c.as_slice-keys.ensures.order (omega (arith, c.loop-key-test.false)) inv.past) (c.least_between.ensures _ inv.least))
