use Rattle.vic_field.proofs.Words.{◌≡◌, ◌/◌, true, false, refl, subst, arith, HasBitMore}
use Rattle.vic_field.proofs.PositionLaws.{noted_after}
use Rattle.vic_field.proofs.quiet.QuietPositions.add.Goals as goal

pub invariant_of-self : goal.invariant_of-self
invariant_of-self c =
    let i = c.args.self.now.sound in
    let words = noted_after _ c.args.position false _ _ _ _ c.set.ensures.set (λ k. refl) c.set.ensures.size refl (λ e. absurd (cc)) c.if-not-set.ensures.noted i.full_words in
    record { sound = assumption (c.set.ensures.up_to i.positions_up_to) }

pub invariant_of-self-then-set : goal.invariant_of-self-then-set
invariant_of-self-then-set c =
    let i = c.args.self.now.sound in
    let up : c.args.position / 4096 ≡ c.args.position / 64 / 64 = omega arith in
    let words = noted_after _ c.args.position true _ _ _ _ c.set.ensures.set c.set-2.ensures.set c.set.ensures.size c.set-2.ensures.size (λ e. c.if-not-set.ensures.full refl) (λ f. refl) i.full_words in
    let groups = noted_after _ (c.args.position / 64) true _ _ _ _ c.set-2.ensures.set (subst (λ n. HasBitMore c.args.self.now.stretch n c.args.self.now.full_groups.items c.set-then-set.new.words.items) up c.set-then-set.ensures.set) c.set-2.ensures.size c.set-then-set.ensures.size (λ e. c.if-set.ensures.full refl) (λ f. refl) i.full_groups in
    record { sound = assumption (c.set.ensures.up_to i.positions_up_to, c.set-2.ensures.up_to i.words_up_to, c.set-then-set.ensures.up_to i.groups_up_to) }

pub invariant_of-self-else-set : goal.invariant_of-self-else-set
invariant_of-self-else-set c =
    let i = c.args.self.now.sound in
    let words = noted_after _ c.args.position true _ _ _ _ c.set.ensures.set c.set-2.ensures.set c.set.ensures.size c.set-2.ensures.size (λ e. c.if-not-set.ensures.full refl) (λ f. refl) i.full_words in
    let groups = noted_after _ (c.args.position / 64) false _ _ _ _ c.set-2.ensures.set (λ k. refl) c.set-2.ensures.size refl (λ e. absurd (cc)) c.if-set.ensures.noted i.full_groups in
    record { sound = assumption (c.set.ensures.up_to i.positions_up_to, c.set-2.ensures.up_to i.words_up_to) }
