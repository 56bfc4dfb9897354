-- The program, from its words to its exit status.
use Rattle.std.specs.Prelude.{◌≡◌, ◌⊎◌, ℕ, List}
use Rattle.vic_answer.specs.Status.{fault_text}
use Rattle.vic_answer.specs.declared.status.RunFault.TheVariants.{Memory}
use Rattle.vic_words.specs.Words.{Ask}
use Rattle.vic_words.specs.declared.asked.Asked.{Asked}
use Rattle.vic_program.specs.Ends.{End, exit_code, usage_line}
use Rattle.vic_program.specs.Written.{WritesNothing}
use Rattle.vic_program.specs.Runs.{RunsAsked}
use Rattle.vic_program.specs.FilesView.{FilesView}
use Rattle.vic_log.specs.declared.source.Source.{Ghosts as Source}
use Rattle.vic_log.specs.declared.sink.Sink.{Ghosts as Sink}

-- nothing was read or written, and the line is this one
pub record DoesNothing {I W : Type 0} (line : List ℕ) (input input' : I) (output output' : W)
    (end : End) : Type 0 where
  pub unread : input' ≡ input
  pub unwritten : WritesNothing (λ why. why ≡ line) output output' end

-- the words ask for this, and it was done
pub record IsDone {T I W : Type 0} (f : FilesView T) (r : Source I) (w : Sink W)
    (words : List (List ℕ)) (input input' : I) (output output' : W) (end : End) : Type 0 where
  pub asked : Asked
  pub asks : Ask words asked
  pub runs : RunsAsked f r w asked input input' output output' end

-- the words ask for nothing
pub record IsUsage {I W : Type 0} (words : List (List ℕ)) (input input' : I) (output output' : W)
    (end : End) : Type 0 where
  pub nothing : (asked : Asked) → Ask words asked → ⊥
  pub idle : DoesNothing usage_line input input' output output' end

-- what was done for the words; or memory to read them was refused
abbrev pub RunsWords : {T I W : Type 0} → FilesView T → Source I → Sink W
    → List (List ℕ) → I → I → W → W → End → Type 0
RunsWords f r w words input input' output output' end =
    IsDone f r w words input input' output output' end
    ⊎ (IsUsage words input input' output output' end
    ⊎ DoesNothing (fault_text Memory) input input' output output' end)

-- the program's end: what led to it, its exit status, and what was said
pub record Ends (Ran : End → Type 0) (code : ℕ) (Said : End → Type 0) : Type 0 where
  pub end : End
  pub ran : Ran end
  pub code_is : code ≡ exit_code end
  pub says : Said end
