-- A population meets a log's slots: every slot was read as what happens in it.
use Rattle.vic_log.proofs.Words.{◌≡◌, ◌≢◌, ℕ, List, filter, Lone, outcome_of, Reading, NoReply, OneReply, ManyReplies, SomeReply, ReplyAmong, Slot, AllByRecursion, Nobody, Several, has, true}

-- a reading fits those who answer
abbrev pub ReadingFits : Reading → List ℕ → Type 0
ReadingFits NoReply us = outcome_of us ≡ Nobody
ReadingFits (OneReply h) us = outcome_of us ≡ Lone h
ReadingFits ManyReplies us = outcome_of us ≡ Several
ReadingFits SomeReply us = outcome_of us ≢ Nobody
ReadingFits (ReplyAmong h) us = has us h ≡ true

-- every slot was read as it may be in this population
abbrev pub Meets : List ℕ → Slot → Type 0
Meets p s = ReadingFits s.reading (filter s.answers p)

abbrev pub MeetsAll : List ℕ → List Slot → Type 0
MeetsAll p slots = AllByRecursion (Meets p) slots
