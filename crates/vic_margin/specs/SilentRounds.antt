-- A round over all tags in which none answers.
use Rattle.std.specs.Prelude.{ℕ, Bool, List, ◌∷◌, replicate}
use Rattle.vic_frame.specs.Slots.{slot_count}
use Rattle.vic_frame.specs.declared.request.Request.{Request}
use Rattle.vic_frame.specs.declared.request.Request.TheVariants.{Inventory}
use Rattle.vic_log.specs.declared.entry.Entry.{Entry}
use Rattle.vic_log.specs.declared.entry.Entry.TheVariants.{Sent, Silent}

-- an Inventory request without a mask, with one slot or sixteen
abbrev pub over_all : ℕ → Bool → Request
over_all link sixteen = Inventory link sixteen (record { len = 0; value = 0 })

-- the request, and all its slots silent
abbrev pub silent_round : ℕ → Bool → List Entry
silent_round link sixteen =
    Sent (over_all link sixteen) ∷ replicate (slot_count (over_all link sixteen)) Silent
