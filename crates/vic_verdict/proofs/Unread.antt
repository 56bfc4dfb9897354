-- What meets the unread slots, one by one and in all.
use Rattle.std.specs.Prelude.{◌≡◌, ℕ, ◌<◌, ◌≤◌, Bool, ◌&&◌, List}
use Rattle.std.specs.List.{All, Any, sum_by}
use Rattle.vic_tree.specs.OpenSet.{UpToThree}
use Rattle.vic_log.specs.declared.entry.Entry.{Entry}
use Rattle.vic_log.specs.Populations.{answers_at}
use Rattle.vic_log.specs.Slots.{slots_of, is_open}
use Rattle.vic_walk.specs.Needs.{needs_at}
use Rattle.vic_walk.specs.declared.answers.Answering.{Answering}
use Rattle.vic_verdict.specs.Needs.{HasEnough, all_needs}

-- the UIDs of a set whose tags answer in the slot at position i
abbrev pub answering : (ℕ → Bool) → List Entry → ℕ → ℕ → Bool
answering set es i u = set u && answers_at es i u

-- up to three of the open UIDs that answer in an unread slot, no fewer than it requires
pub record IsFound (es : List Entry) (f : Answering) : Type 0 where
  pub needed : 0 < f.need
  pub need : needs_at es f.at ≡ f.need
  pub uids : UpToThree (answering (is_open (slots_of es)) es f.at) f.uids.items
  pub enough : HasEnough f

-- one for each slot line that requires tags and names none; in all they need no more than the lines
-- require
pub record AreFound (es : List Entry) (fs : List Answering) : Type 0 where
  pub found : All (IsFound es) fs
  pub met : (i : ℕ) → 0 < needs_at es i → Any (λ (f : Answering). f.at ≡ i) fs
  pub few : sum_by (λ (f : Answering). f.need) fs ≤ all_needs es
