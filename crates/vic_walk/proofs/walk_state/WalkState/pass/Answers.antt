use Rattle.vic_walk.proofs.Words.{◌+◌, inl, inr, IsPartOf, mirror, refl}
use Rattle.vic_walk.proofs.CutLaws.{captured_own, heard_own}
use Rattle.vic_walk.proofs.Effects.{ReadsNone, borne_captured, borne_heard, borne_idle, borne_silent, captured_only, captured_rules_out, heard_only, heard_part, heard_rules_out, nothing_ruled_out, nothing_unknown, nothing_collision, nothing_garbled, nothing_listed, silent_rules_out, cycle_none, sent_none, walk_read, walk_unread}
use Rattle.vic_walk.specs.Steps.{IsSpanAt}
use Rattle.vic_walk.proofs.walk_state.WalkState.pass.Goals as goal
use Rattle.vic_walk.proofs.walk_state.WalkState.pass.Goals.{In-Sent}

pub returns-in-Silent-clause-walk : goal.returns-in-Silent-clause-walk
returns-in-Silent-clause-walk c bs es i e place h =
    let k = rw c.in-Silent.is at place.here in
    let span : IsSpanAt bs es i c.span.result = rw c.span.ensures (place.step.slot _ place.here (rw c.in-Silent.is refl)) in
    let r = c.rule_out.ensures in
    walk_read _ es i _ c.args.self.now _ (silent_rules_out _ es i c.span.result k span) (rw e at r.ruled_out) (λ u p is at. rw (r.heard, k) refl) h

pub returns-in-Silent-clause-fine : goal.returns-in-Silent-clause-fine
returns-in-Silent-clause-fine c bs es i place h b =
    let k = rw c.in-Silent.is at place.here in
    let span : IsSpanAt bs es i c.span.result = rw c.span.ensures (place.step.slot _ place.here (rw c.in-Silent.is refl)) in
    borne_silent _ es i c.span.result c.args.self.now c.rule_out.result k span (rw c.span.ensures place.step.below.to) place.borders h c.rule_out.ensures.lost b

pub returns-in-Heard-clause-walk : goal.returns-in-Heard-clause-walk
returns-in-Heard-clause-walk c bs es i e place h =
    let r = c.in-Heard.field-0 in
    let k = rw c.in-Heard.is at place.here in
    let span : IsSpanAt bs es i c.span-in-Heard.result = rw c.span-in-Heard.ensures (place.step.slot _ place.here (rw c.in-Heard.is refl)) in
    let it = heard_own bs es i r c.args.step place.step k in
    let own : IsPartOf bs (mirror r.uid) c.own.result = rw c.own.ensures it.1 in
    let w = c.hear.ensures in
    walk_read _ es i _ c.args.self.now _ (heard_rules_out _ es i c.own.result r c.span-in-Heard.result k it.0 own place.borders place.cut span) (rw e at w.ruled_out) (λ u p is_u at. rw (w.heard p, heard_part _ es i u p r.uid c.own.result (heard_only es i r k) place.borders place.cut it.0 is_u own at) refl) h

pub returns-in-Heard-clause-fine : goal.returns-in-Heard-clause-fine
returns-in-Heard-clause-fine c bs es i place h b =
    let r = c.in-Heard.field-0 in
    let k = rw c.in-Heard.is at place.here in
    let span : IsSpanAt bs es i c.span-in-Heard.result = rw c.span-in-Heard.ensures (place.step.slot _ place.here (rw c.in-Heard.is refl)) in
    let it = heard_own bs es i r c.args.step place.step k in
    let own : IsPartOf bs (mirror r.uid) c.own.result = rw c.own.ensures it.1 in
    borne_heard _ es i c.own.result r c.span-in-Heard.result c.args.self.now c.hear.result k it.0 own span (rw c.span-in-Heard.ensures place.step.below.to) place.borders place.cut h c.hear.ensures.fine b

pub returns-in-Captured-clause-walk : goal.returns-in-Captured-clause-walk
returns-in-Captured-clause-walk c bs es i e place h =
    let r = c.in-Captured.field-0 in
    let k = rw c.in-Captured.is at place.here in
    let it = captured_own bs es i r c.args.step place.step k in
    let own : IsPartOf bs (mirror r.uid) c.own-in-Captured.result = rw c.own-in-Captured.ensures it.1 in
    let w = c.hear_among.ensures in
    walk_read _ es i _ c.args.self.now _ (captured_rules_out _ es i r k) (nothing_ruled_out _ _ (i + 1) w.open w.ends) (λ u p is_u at. rw (w.heard p, heard_part _ es i u p r.uid c.own-in-Captured.result (captured_only es i r k) place.borders place.cut it.0 is_u own at) refl) h

pub returns-in-Captured-clause-fine : goal.returns-in-Captured-clause-fine
returns-in-Captured-clause-fine c bs es i place h b =
    let r = c.in-Captured.field-0 in
    let k = rw c.in-Captured.is at place.here in
    let span : IsSpanAt bs es i c.span-in-Captured.result = rw c.span-in-Captured.ensures (place.step.slot _ place.here (rw c.in-Captured.is refl)) in
    let it = captured_own bs es i r c.args.step place.step k in
    let own : IsPartOf bs (mirror r.uid) c.own-in-Captured.result = rw c.own-in-Captured.ensures it.1 in
    borne_captured _ es i c.own-in-Captured.result r c.span-in-Captured.result c.args.self.now c.hear_among.result k it.0 own span (rw c.span-in-Captured.ensures place.step.below.to) place.borders h c.hear_among.ensures.fine b

nothing : (c : In-Sent) → ReadsNone c.args.entry.now
nothing c = elim c.in-Sent.is [
  | inl r ↦ rw r.1 (sent_none r.0)
  | inr v ↦ elim v [
    | inl e ↦ rw e cycle_none
    | inr w ↦ elim w [
      | inl e ↦ rw e nothing_collision.reads
      | inr x ↦ elim x [
        | inl e ↦ rw e nothing_garbled.reads
        | inr y ↦ elim y [
          | inl e ↦ rw e nothing_unknown.reads
          | inr l ↦ rw l.1 (nothing_listed l.0).reads
        ]
      ]
    ]
  ]
]

pub returns-in_ok-pass-in-Sent : goal.returns-in_ok-pass-in-Sent
returns-in_ok-pass-in-Sent c =
    let none = nothing c.before.before.before.before.before in
    record {
      walk = λ bs es i e place h. walk_unread _ es i _ c.args.self.now _ place.here none (c.in_ok-pass-in-Sent.ensures.states bs es _ i place h.states) refl refl h;
      fine = λ bs es i place h b. (λ it. borne_idle es i c.args.entry.now place.here none b, λ it. refl);
    }
