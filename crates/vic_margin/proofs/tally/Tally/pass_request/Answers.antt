use Rattle.vic_margin.proofs.Words.{false_from_ne_true, eqb-true, refl, subst, sym, IsUid, Sent}
use Rattle.vic_walk.proofs.CutLaws.{silenced_own}
use Rattle.vic_margin.proofs.Steps.{tally_idle, tally_silenced}
use Rattle.vic_margin.proofs.tally.Tally.pass_request.Goals as goal

pub returns-in-Some : goal.returns-in-Some
returns-in-Some c bs es i place h =
    let w = c.silence.ensures in
    let k = rw c.in-StayQuiet.is at place.here in
    let is : IsUid c.in-StayQuiet.uid = c.in-Some.ensures.0 in
    tally_silenced bs es i c.in-StayQuiet.link c.in-StayQuiet.uid c.own.result c.args.self.now _ k place.borders place.cut is (rw c.own.ensures (silenced_own bs es i _ _ c.args.step place.step k is)) w.turned w.quiet h

pub returns-in_default : goal.returns-in_default
returns-in_default c bs es i place h =
    let none = c.in_default.ensures in
    tally_idle bs es i (Sent c.args.request.now) _ place.here (record {
      silences = λ u is. rw c.in-StayQuiet.is (false_from_ne_true _ (λ it. none (subst IsUid (sym (eqb-true _ _ it)) is)));
      wakes = refl;
      lacks = λ u. refl;
    }) h

pub returns-in-Inventory : goal.returns-in-Inventory
returns-in-Inventory c bs es i place h =
    tally_idle bs es i (Sent c.args.request.now) _ place.here (record { silences = λ u is. rw c.in-Inventory.is refl; wakes = refl; lacks = λ u. refl }) h
