-- Which slots are met by the UIDs that are open before a position.
use Rattle.std.specs.Prelude.{◌≡◌, ℕ, ◌<◌, ◌≤◌, Bool, true, ◌&&◌, List, length}
use Rattle.vic_frame.specs.Uids.{has, AreDifferent}
use Rattle.vic_log.specs.declared.entry.Entry.{Entry}
use Rattle.vic_log.specs.Populations.{answers_at}
use Rattle.vic_log.specs.Slots.{slots_before, is_open}
use Rattle.vic_walk.specs.Needs.{needs_at}
use Rattle.vic_walk.specs.Walk.{AreEndsAt}

-- the UID is open before position n, and answers at position j
abbrev pub answers_open : List Entry → ℕ → ℕ → ℕ → Bool
answers_open es n j u = is_open (slots_before es n) u && answers_at es j u

-- of the UIDs that are open before position n, as many answer at position j as its line requires
pub record IsMetAt (es : List Entry) (n j : ℕ) : Type 0 where
  pub uids : List ℕ
  pub different : AreDifferent uids
  pub answer : (u : ℕ) → has uids u ≡ true → answers_open es n j u ≡ true
  pub enough : needs_at es j ≤ length uids

-- they meet all positions before n
abbrev pub AreMetBefore : List Entry → ℕ → Type 0
AreMetBefore es n = (j : ℕ) → j < n → IsMetAt es n j

-- these are the ends of the parts before some position, which is n or later: a walk that broke at n
-- ends one later
pub record AreEndsPast (bs : List ℕ) (es : List Entry) (n : ℕ) (ends : List ℕ) : Type 0 where
  pub position : ℕ
  pub far : n ≤ position
  pub within : position ≤ length es
  pub known : AreEndsAt bs es position ends
