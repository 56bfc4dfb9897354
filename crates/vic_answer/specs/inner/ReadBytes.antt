-- What the bytes that were read say.
use Rattle.std.specs.Prelude.{ℕ, ⊤, List, Result, Ok, Err}
use Rattle.vic_answer.specs.declared.status.RunFault.{RunFault}
use Rattle.vic_answer.specs.declared.status.RunFault.TheVariants.{Read, Write, Memory}
use Rattle.vic_answer.specs.Runs.{Reading, ReadsEnough, ReadsNoEarlyFault}

-- what was read, by the result of reading, where IsOf relates it to the text
abbrev pub Gives : {A : Type 0} → (List ℕ → A → Type 0) → Reading → Result A RunFault → Type 0
Gives IsOf reading (Ok found) = ReadsEnough reading (λ text. IsOf text found)
Gives IsOf reading (Err Read) = ReadsNoEarlyFault reading
Gives IsOf reading (Err Memory) = ⊤
Gives IsOf reading (Err Write) = ⊥
