use Rattle.vic_walk.proofs.Words.{false_from_ne_true, eqb-true, inl, inr, refl, subst, sym, IsUid, Entry, silences, wakes, ◌≡◌, ◌+◌, ℕ, Some, false}
use Rattle.vic_walk.proofs.CutLaws.{silenced_own}
use Rattle.vic_walk.proofs.Effects.{cycle_wakes, ready_silenced, ready_still, ready_woken}
use Rattle.vic_walk.proofs.part_states.PartStates.pass.Goals as goal

pub returns-in_ok-silence-in-Some-clause-states : goal.returns-in_ok-silence-in-Some-clause-states
returns-in_ok-silence-in-Some-clause-states c bs es set i place h =
    let w = c.in_ok-silence-in-Some.ensures in
    let sent = rw c.in-Sent.is at place in
    let k = rw c.in-StayQuiet.is at sent.here in
    let is : IsUid c.in-StayQuiet.uid = c.in-Some.ensures.0 in
    ready_silenced bs es set i c.in-StayQuiet.link c.in-StayQuiet.uid c.own.result c.args.self.now _ k is (rw c.own.ensures (silenced_own bs es i _ _ c.args.step sent.step k is)) sent.borders sent.cut w.ready w.room w.quiet h

pub returns-in-None-clause-states : goal.returns-in-None-clause-states
returns-in-None-clause-states c bs es set i place h =
    let none = c.in-None.ensures in
    let sent = rw c.in-Sent.is at place in
    ready_still bs es set i _ _ sent.here
    (λ u is. rw c.in-StayQuiet.is (false_from_ne_true _ (λ it. none (subst IsUid (sym (eqb-true _ _ it)) is))))
    refl h

pub returns-in-Inventory-clause-states : goal.returns-in-Inventory-clause-states
returns-in-Inventory-clause-states c bs es set i place h =
    let sent = rw c.in-Sent.is at place in
    ready_still bs es set i _ _ sent.here (λ u is. rw c.in-Inventory.is refl) refl h

pub returns-in-FieldCycle-clause-states : goal.returns-in-FieldCycle-clause-states
returns-in-FieldCycle-clause-states c bs es set i place h =
    let k = rw c.in-FieldCycle.is at place.here in
    let w = c.wake.ensures in
    ready_woken bs es set i (i + 1) c.args.self.now _ (λ u. cycle_wakes es i u k) w.ready w.room w.quiet h

-- an entry that silences no UID, and wakes none
abbrev IsIdle : Entry → Type 0
IsIdle e = ((u : ℕ) → silences (Some e) u ≡ false) × (wakes (Some e) ≡ false)

idle : (c : goal.In-Silent) → IsIdle c.args.entry.now
idle c = elim c.in-Silent.is [
  | inl e ↦ rw e ((λ u. refl), refl)
  | inr v ↦ elim v [
    | inl e ↦ rw e ((λ u. refl), refl)
    | inr w ↦ elim w [
      | inl r ↦ rw r.1 ((λ u. refl), refl)
      | inr x ↦ elim x [
        | inl e ↦ rw e ((λ u. refl), refl)
        | inr y ↦ elim y [
          | inl r ↦ rw r.1 ((λ u. refl), refl)
          | inr z ↦ elim z [ inl e ↦ rw e ((λ u. refl), refl) | inr l ↦ rw l.1 ((λ u. refl), refl) ]
        ]
      ]
    ]
  ]
]

pub returns-in-Silent-clause-states : goal.returns-in-Silent-clause-states
returns-in-Silent-clause-states c bs es set i place h =
    ready_still bs es set i c.args.entry.now _ place.here (λ u is. (idle c).0 u) (idle c).1 h
