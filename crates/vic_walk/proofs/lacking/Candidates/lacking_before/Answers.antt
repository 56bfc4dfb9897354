use Rattle.vic_walk.proofs.Words.{◌≡◌, ◌∙◌, ◌+◌, ap, arith, nat_tests, cases_lt, false≢true, inl, inr, length, length-replicate, length-set, sym, true, false}
use Rattle.vic_log.specs.Order.{entries}
use Rattle.vic_walk.specs.inner.Unmet.{AreLacking}
use Rattle.vic_walk.proofs.CutLaws.{place_at}
use Rattle.vic_walk.proofs.ListLaws.{met_past}
use Rattle.vic_walk.proofs.Meeting.{lacking_more, lacking_put, none_marked}
use Rattle.vic_walk.proofs.lacking.Candidates.lacking_before.Goals as goal
use Rattle.vic_walk.proofs.lacking.Candidates.lacking_before.Goals.{then-not-is_met, else-not-is_met}

pub loop-slot-init : goal.loop-slot-init
loop-slot-init c = record {
  states = c.in_ok-open.ensures _ (entries c.args.lines.now) c.args.self.now.from c.requires.ends c.requires.candidates.states;
  room = ap length c.in_ok-lacking.ensures ∙ length-replicate c.args.position false;
  lacking = record {
    unmet = λ k it. absurd (false≢true (sym (none_marked c.args.position k) ∙ (rw c.in_ok-lacking.ensures at it)));
    met = λ k below marked enough. absurd (false≢true (sym (c.requires.candidates.none k (omega arith) below) ∙ marked));
  };
}

pub pass_entries-requires : goal.pass_entries-requires
pass_entries-requires c = record {
  parts = c.requires.parts;
  room = c.loop-slot.invariant.states.room;
  from = c.in-Some.ensures.first.from;
  to = let within = c.in-Some.ensures.within in omega (arith, within, c.min-end.ensures, c.len.ensures);
}

pub is_met-requires : goal.is_met-requires
is_met-requires c =
    let within = c.in-Some.ensures.within in
    (place_at (entries c.args.lines.now) c.args.log_parts.now c.in-Some.slot _ c.index-step.result.now c.requires.parts c.entry-entry.ensures.here (omega (arith, within, c.min-end.ensures, c.len.ensures)) c.index-step.ensures).step.below

pub pass-requires : goal.pass-requires
pass-requires c =
    let within = c.in-Some.ensures.within in
    let states = c.in_ok-pass_entries.ensures _ c.loop-slot.invariant.states in
    rw states.room ((place_at (entries c.args.lines.now) c.args.log_parts.now c.in-Some.slot _ c.index-step.result.now c.requires.parts c.entry-entry.ensures.here (omega (arith, within, c.min-end.ensures, c.len.ensures)) c.index-step.ensures).step.below)

pub loop-slot-preserved : goal.loop-slot-preserved
loop-slot-preserved c =
    let es = entries c.args.lines.now in
    let slots = c.args.self.now.slots in
    let n = c.args.position in
    let l = c.loop-slot in
    let slot = c.in-Some.slot in
    let first = c.in-Some.ensures.first in
    let within = c.in-Some.ensures.within in
    let place = place_at es c.args.log_parts.now slot _ c.index-step.result.now c.requires.parts c.entry-entry.ensures.here (omega (arith, within, c.min-end.ensures, c.len.ensures)) c.index-step.ensures in
    let states = c.in_ok-pass_entries.ensures _ l.invariant.states in
    let there = c.is_met.ensures es n slot place states in
    let before : AreLacking es slots n slot l.lacking = lacking_more es slots l.lacking n l.at slot (λ k from below marked. absurd (false≢true (sym (first.before k from below) ∙ marked))) l.invariant.lacking in
    let next = c.in_ok-pass.ensures.states _ es _ slot place states in
    elim c.if-not-is_met.branch [
      | then-not-is_met w ↦ record {
        states = next;
        room = rw w.lacking-is (ap length w.put.ensures ∙ length-set l.lacking slot true ∙ l.invariant.room);
        lacking = rw (w.lacking-is, w.put.ensures) (lacking_put es slots l.lacking n slot (omega (arith, within, c.min-end.ensures)) l.invariant.room first.passes (λ met. let yes = there.1 met in let no = w.if-not-is_met.true in absurd (grind (arith, nat_tests))) before);
      }
      | else-not-is_met w ↦ record {
        states = next;
        room = rw w.lacking-is l.invariant.room;
        lacking = rw w.lacking-is (lacking_more es slots l.lacking n slot (slot + 1) (λ k from below marked. let same : k ≡ slot = omega (arith, from, below) in rw same (there.0 (let it = w.if-not-is_met.false in grind (arith, nat_tests)))) before);
      }
    ]

pub returns : goal.returns
returns c = lacking_more (entries c.args.lines.now) _ _ c.args.position c.loop-slot.at c.args.position (λ k past below marked. elim (cases_lt k c.min-end.result) [
  | inl before ↦ absurd (false≢true (sym (c.in_default.ensures.none k past before) ∙ marked))
  | inr after ↦ met_past (entries c.args.lines.now) c.args.position (length c.args.log_parts.now.steps.items) k c.requires.parts.list (omega (arith, after, below, c.min-end.ensures, c.len.ensures))
]) c.loop-slot.invariant.lacking
