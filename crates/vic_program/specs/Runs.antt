-- What is read and written for what the words ask for.
use Rattle.std.specs.Prelude.{◌≡◌, ◌⊎◌, ℕ, false, List, map, Option, Some, None, Result, option_map, string_bytes}
use Rattle.vic_answer.specs.Runs.{LeavesSink}
use Rattle.vic_answer.specs.Tasks.{Does, LeavesSourceAfter, file_of}
use Rattle.vic_answer.specs.declared.status.RunFault.{RunFault}
use Rattle.vic_answer.specs.declared.status.Status.{Status}
use Rattle.vic_answer.specs.declared.task.Task.{Task}
use Rattle.vic_words.specs.declared.asked.Asked.{Asked}
use Rattle.vic_words.specs.declared.asked.Asked.TheVariants.{Task as OneTask, Json, Files}
use Rattle.vic_words.specs.declared.asked.FilesCommand.{FilesCommand}
use Rattle.vic_words.specs.declared.asked.FilesCommand.TheVariants.{Reconcile, Survey, Collection, JsonCollection}
use Rattle.vic_commands.specs.Collected.{IsJsonCollectionRun, IsReconcileRun, IsCollectionRun}
use Rattle.vic_commands.specs.Surveyed.{IsSurveyRun}
use Rattle.vic_object.specs.Object.{IsJsonOf}
use Rattle.vic_program.specs.Ends.{End, run_end}
use Rattle.vic_program.specs.Written.{WritesNothing}
use Rattle.vic_program.specs.Each.{ForTexts, IsUnopened, OverEach}
use Rattle.vic_program.specs.Single.{OverText}
use Rattle.vic_program.specs.FilesView.{FilesView}
use Rattle.vic_log.specs.declared.source.Source.{Ghosts as Source}
use Rattle.vic_log.specs.declared.sink.Sink.{Ghosts as Sink}

-- a task was done from a source to a sink, with this result
pub record DoesTask {S W : Type 0} (r : Source S) (w : Sink W) (task : Task)
    (from from' : S) (to to' : W) (ran : Result Status RunFault) : Type 0 where
  pub does : Does r w task from from' to to' ran
  pub leaves_source : LeavesSourceAfter r task from from' ran
  pub leaves_sink : LeavesSink w to to' ran

-- a task over standard input, or over none
pub record OverInput {S W : Type 0} (r : Source S) (w : Sink W) (task : Task)
    (input input' : S) (output output' : W) (end : End) : Type 0 where
  pub ran : Result Status RunFault
  pub does : DoesTask r w task input input' output output' ran
  pub ends : end ≡ run_end ran

-- a task over a file that was opened by this name
pub record OverOpened {T W : Type 0} (f : FilesView T) (w : Sink W) (task : Task)
    (name : List ℕ) (output output' : W) (end : End) : Type 0 where
  pub file : T
  pub file' : T
  pub new : f.reading.returned file ≡ f.origin name
  pub works : f.reading.has_failed file ≡ false
  pub ran : Result Status RunFault
  pub does : DoesTask f.reading w task file file' output output' ran
  pub ends : end ≡ run_end ran

-- a task over the file with this name: nothing was written if it couldn't be opened
abbrev pub OverFile : {T W : Type 0} → FilesView T → Sink W → Task → List ℕ → W → W → End
    → Type 0
OverFile f w task name output output' end =
    OverOpened f w task name output output' end
    ⊎ WritesNothing (IsUnopened f name) output output' end

-- ---- what is asked for

-- a task, over the file that it names or over standard input
abbrev pub RunsTask : {T I W : Type 0} → FilesView T → Source I → Sink W → Task
    → Option (List ℕ) → I → I → W → W → End → Type 0
RunsTask f r w task (Some name) input input' output output' end =
    OverFile f w task name output output' end × (input' ≡ input)
RunsTask f r w task None input input' output output' end =
    OverInput r w task input input' output output' end

-- what a command writes that takes one file after the other
abbrev pub writes_of : FilesCommand → ForTexts
writes_of Reconcile = IsReconcileRun
writes_of Survey = IsSurveyRun
writes_of Collection = IsCollectionRun
writes_of JsonCollection = IsJsonCollectionRun

-- what was done for what the words ask for
abbrev pub RunsAsked : {T I W : Type 0} → FilesView T → Source I → Sink W
    → Asked → I → I → W → W → End → Type 0
RunsAsked f r w (OneTask task) input input' output output' end =
    RunsTask f r w task (file_of task) input input' output output' end
RunsAsked f r w (Json file) input input' output output' end =
    OverText f r w IsJsonOf (option_map string_bytes file) input input' output output' end
RunsAsked f r w (Files command names) input input' output output' end =
    OverEach f w (writes_of command) (map string_bytes names.items) output output' end
    × (input' ≡ input)
