-- What the slot lines of a log require, and which open UIDs meet them.
use Rattle.std.specs.Prelude.{◌≡◌, ◌↔◌, ℕ, ◌≤◌, true, List, length}
use Rattle.std.specs.List.{All, Any, sum_by}
use Rattle.vic_frame.specs.Uids.{has}
use Rattle.vic_log.specs.declared.entry.Entry.{Entry}
use Rattle.vic_walk.specs.Answers.{AreAnswering}
use Rattle.vic_walk.specs.Needs.{needs}
use Rattle.vic_walk.specs.declared.answers.Answering.{Answering}
use Rattle.vic_verdict.specs.declared.facts.Met.{Met}
use Rattle.vic_verdict.specs.Verdict.{IsHeard}

-- how many all lines require, added up
abbrev pub all_needs : List Entry → ℕ
all_needs es = sum_by needs es

-- no fewer UIDs than the slot requires
abbrev pub HasEnough : Answering → Type 0
HasEnough a = a.need ≤ length a.uids.items

-- the UIDs heard, and for each unread slot open UIDs that answer there, no fewer than it requires
pub record IsMet (es : List Entry) (m : Met) : Type 0 where
  pub heard : (u : ℕ) → (has m.heard.items u ≡ true) ↔ IsHeard es u
  pub unread : AreAnswering es (length es) m.unread.items
  pub enough : All HasEnough m.unread.items

-- exactly as many UIDs as the slot requires, so all that answer there, this one among them
abbrev pub ForcesThere : Answering → ℕ → Type 0
ForcesThere a u = (length a.uids.items ≡ a.need) × (has a.uids.items u ≡ true)

-- some slot requires all UIDs that answer there, this one among them
abbrev pub SomeForces : List Answering → ℕ → Type 0
SomeForces unread u = Any (λ (a : Answering). ForcesThere a u) unread
