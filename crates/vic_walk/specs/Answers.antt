-- The open UIDs that answer in the slots in which tags answered and none was read.
use Rattle.std.specs.Prelude.{◌≡◌, ℕ, ◌<◌, Bool, true, ◌&&◌, Option, List, nat_lt, slice_get}
use Rattle.std.specs.List.{All, AllPairs, Any}
use Rattle.vic_tree.specs.OpenSet.{UpToThree}
use Rattle.vic_log.specs.declared.entry.Entry.{Entry}
use Rattle.vic_log.specs.Populations.{answers_at}
use Rattle.vic_log.specs.Slots.{slots_of, is_open}
use Rattle.vic_walk.specs.Needs.{needs_at, needs_of}
use Rattle.vic_walk.specs.declared.answers.Answering.{Answering}

-- the entry is a slot line in which tags answered that it doesn't name: a collision or a garbled
-- slot
abbrev pub is_unread : Option Entry → Bool
is_unread o = nat_lt 0 (needs_of o)

-- the UID is open at the end of the log, and answers at position i
abbrev pub is_open_there : List Entry → ℕ → ℕ → Bool
is_open_there es i u = is_open (slots_of es) u && answers_at es i u

-- position i is an unread slot, and of the open UIDs that answer there these are three, or all
pub record IsAnsweringAt (es : List Entry) (i : ℕ) (a : Answering) : Type 0 where
  pub place : a.at ≡ i
  pub unread : is_unread (slice_get es i) ≡ true
  pub need : needs_at es i ≡ a.need
  pub uids : UpToThree (is_open_there es i) a.uids.items

-- there is one for each unread slot before position n, in the order of the log, and no others
pub record AreAnswering (es : List Entry) (n : ℕ) (found : List Answering) : Type 0 where
  pub rising : AllPairs (λ (a b : Answering). a.at < b.at) found
  pub each : All (λ (a : Answering). (i : ℕ) × (i < n) × IsAnsweringAt es i a) found
  pub all : (i : ℕ) → i < n → is_unread (slice_get es i) ≡ true → Any (IsAnsweringAt es i) found
