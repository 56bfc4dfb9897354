-- The tags of a field: the UID of each, and whether it is Ready (ISO/IEC 15693-3, states of a
-- VICC).
use Rattle.std.specs.Prelude.{◌≡◌, ℕ, Bool, true, false, List, ◌&&◌, map, Option, Some, nat_eq, if◌then◌else◌}
use Rattle.std.specs.List.{filter}
use Rattle.std.specs.Map.{lookup}
use Rattle.std.specs.Option.{option_map}
use Rattle.vic_frame.specs.declared.request.Request.{Request}
use Rattle.vic_frame.specs.declared.request.Request.TheVariants.{Inventory, StayQuiet}
use Rattle.vic_frame.specs.Masks.{BitMask, lies_in}
use Rattle.vic_frame.specs.Uids.{IsUid, has}
use Rattle.vic_field.specs.declared.field.AddFault.{AddFault}
use Rattle.vic_field.specs.declared.field.AddFault.TheVariants.{Already, Memory}
use Rattle.vic_field.specs.declared.outcome.Outcome.{Outcome as Told}
use Rattle.vic_field.specs.declared.outcome.Outcome.TheVariants.{Silent as ToldSilent, Lone as ToldLone, Several as ToldSeveral}
use Rattle.vic_log.specs.Populations.{Outcome, Nobody, Lone, Several, outcome_of}

-- the UIDs of the tags
abbrev pub uids : List (ℕ × Bool) → List ℕ
uids tags = map (λ t. t.0) tags

-- whether the tag u is Ready, if it is there
abbrev pub readiness : List (ℕ × Bool) → ℕ → Option Bool
readiness tags u = lookup (nat_eq u) tags

-- the Ready tags in a mask
abbrev pub ready_in : BitMask → List (ℕ × Bool) → List ℕ
ready_in m tags = map (λ t. t.0) (filter (λ t. lies_in m t.0 && t.1) tags)

-- the request makes the tag u Quiet (ISO/IEC 15693-3, Stay Quiet)
abbrev pub quiets : Request → ℕ → Bool
quiets (StayQuiet link uid) u = nat_eq uid u
quiets (Inventory link sixteen m) u = false

-- some tags are now there and Ready, and the others are as they were
abbrev pub HasAdded : (ℕ → Bool) → List (ℕ × Bool) → List (ℕ × Bool) → Type 0
HasAdded which old new =
    (u : ℕ) → IsUid u → readiness new u ≡ (if which u then Some true else readiness old u)

-- some tags are now Quiet, if they are there, and the others are as they were
abbrev pub HasSilenced : (ℕ → Bool) → List (ℕ × Bool) → List (ℕ × Bool) → Type 0
HasSilenced which old new =
    (u : ℕ) → IsUid u → readiness new u
    ≡ (if which u then option_map (λ _. false) (readiness old u) else readiness old u)

-- an outcome of `vic_log`, as a field reports it: `Told` is the `Outcome` of this crate's code
abbrev pub told : Outcome → Told
told Nobody = ToldSilent
told (Lone u) = ToldLone u
told Several = ToldSeveral

-- what a field reports if these tags answer
abbrev pub heard : List ℕ → Told
heard us = told (outcome_of us)

-- why a field doesn't take the tag u: it is there already, or memory for it was refused
abbrev pub RefusesTag : List (ℕ × Bool) → ℕ → AddFault → Type 0
RefusesTag tags u Already = has (uids tags) u ≡ true
RefusesTag tags u Memory = has (uids tags) u ≡ false
