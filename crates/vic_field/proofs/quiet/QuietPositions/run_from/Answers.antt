use Rattle.vic_field.proofs.Words.{◌≡◌, ◌/◌, false, subst, arith, both_ways, is_set}
use Rattle.vic_field.proofs.quiet.QuietPositions.run_from.Goals as goal
use Rattle.vic_field.proofs.quiet.QuietPositions.run_from.Goals.{then-position-eq0-2+else-words-gt0, else-position-eq0-2}

pub returns-clause-word : goal.returns-clause-word
returns-clause-word c begins lt full = elim c.if-position-eq0-2.branch [
  | then-position-eq0-2+else-words-gt0 w ↦
      let none = w.if-words-gt0.false in
      let ready = w.run_in-words.ensures.end (omega (arith, none)) in
      absurd (both_ways _ (subst (λ ws. is_set c.args.self.now.stretch ws (c.args.position / 64) ≡ false) w.deref-then-position-eq0-2.ensures.value ready) (c.args.self.now.sound.full_words.noted _ lt full))
  | else-position-eq0-2 w ↦ absurd (w.if-position-eq0-2.false begins)
]
