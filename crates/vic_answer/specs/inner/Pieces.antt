-- Texts that are written in pieces: some bytes wait until there are enough of them for a write.
use Rattle.std.specs.Prelude.{◌≡◌, ℕ, true, ⊤, List, ◌++◌, Option, Some, Result, OnOk, OnErr, IfErr}
use Rattle.vic_log.specs.declared.sink.Sink.{Ghosts as Sink}
use Rattle.vic_log.specs.Device.{HasTakenBut, HasTakenPrefix}
use Rattle.vic_answer.specs.declared.status.RunFault.{RunFault}
use Rattle.vic_answer.specs.declared.status.RunFault.TheVariants.{Write}

-- a text was added to the bytes that waited: the sink accepted all of them except those that wait
-- now, or it failed and accepted a prefix of them
pub record PushesBehind (taken taken' : Option (List ℕ)) (waiting waiting' text : List ℕ)
    (result : Result ⊤ RunFault) : Type 0 where
  pub all : OnOk result (HasTakenBut taken taken' waiting' (waiting ++ text))
  pub part : OnErr result (HasTakenPrefix taken taken' (waiting ++ text))

-- the same as the sink's writes accepted it and as it reveals it, and how it leaves the sink, which
-- is untouched if it had failed before
pub record Pushes {W : Type 0} (w : Sink W) (sink sink' : W) (waiting waiting' text : List ℕ)
    (result : Result ⊤ RunFault) : Type 0 where
  pub puts : PushesBehind (Some (w.written sink)) (Some (w.written sink')) waiting waiting' text
      result
  pub puts_revealed : PushesBehind (w.taken sink) (w.taken sink') waiting waiting' text result
  pub fault : IfErr result (λ e. e ≡ Write)
  pub failed : OnErr result (w.has_failed sink' ≡ true)
  pub untouched : w.has_failed sink ≡ true → sink' ≡ sink
