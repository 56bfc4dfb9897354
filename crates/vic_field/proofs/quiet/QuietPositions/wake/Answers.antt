use Rattle.vic_field.proofs.Words.{arith}
use Rattle.vic_field.proofs.PositionLaws.{none_later, sound_later}
use Rattle.vic_field.proofs.quiet.QuietPositions.wake.Goals as goal
use Rattle.vic_field.proofs.quiet.QuietPositions.wake.Goals.{then-self, else-self}

pub invariant_of-self : goal.invariant_of-self
invariant_of-self c =
    let i = c.args.self.now.sound in
    let room = i.full_words.room in
    let word_room = i.full_groups.room in
    elim c.if-self.branch [
      | then-self w ↦
          let positions = w.forget.ensures in
          let words = w.forget-then-self.ensures in
          let groups = w.forget-then-self-2.ensures in
          rw w.self-is (record { sound = sound_later 0 _ _ _ _ (omega arith) positions.blank words.blank groups.blank (omega (arith, room, positions.size, words.size)) (omega (arith, word_room, words.size, groups.size)) })
      | else-self w ↦ rw w.self-is (record { sound = sound_later c.args.self.now.stretch _ _ _ _ (omega arith) i.positions_up_to i.words_up_to i.groups_up_to room word_room })
    ]

pub returns-clause-none : goal.returns-clause-none
returns-clause-none c k = elim c.if-self.branch [
  | then-self w ↦ rw w.self-is (none_later 0 _ k _ w.forget.ensures.blank (omega arith))
  | else-self w ↦ rw w.self-is (none_later c.args.self.now.stretch _ k _ c.args.self.now.sound.positions_up_to (omega arith))
]
