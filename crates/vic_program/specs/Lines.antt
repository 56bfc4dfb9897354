-- What is written to standard error.
use Rattle.std.specs.Prelude.{◌≡◌, ℕ, true, false, List, ◌++◌, codes, Ok, Err}
use Rattle.vic_log.specs.declared.sink.Sink.{Ghosts as Sink}
use Rattle.vic_log.specs.Device.{HasWrittenPrefix}
use Rattle.vic_program.specs.Ends.{End}

-- a sink accepted a text, or failed and accepted a prefix of it; one that had failed is untouched
pub record SaysPart {W : Type 0} (w : Sink W) (sink sink' : W) (text : List ℕ) : Type 0 where
  pub all : w.has_failed sink' ≡ false → w.written sink' ≡ w.written sink ++ text
  pub part : HasWrittenPrefix (w.written sink) (w.written sink') text
  pub untouched : w.has_failed sink ≡ true → sink' ≡ sink

-- that, of all that is said; and it was flushed, unless the sink failed
pub record SaysLine {W : Type 0} (w : Sink W) (sink sink' : W) (text : List ℕ) : Type 0 where
  pub told : SaysPart w sink sink' text
  pub flushed : w.has_failed sink' ≡ false → w.is_flushed sink' ≡ true

-- what is said at an end of the program: its line, or nothing
abbrev pub Says : {W : Type 0} → Sink W → End → W → W → Type 0
Says w (Ok status) sink sink' = sink' ≡ sink
Says w (Err line) sink sink' = SaysLine w sink sink' (line ++ codes "\n")
