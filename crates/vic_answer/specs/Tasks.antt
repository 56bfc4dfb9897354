-- What each task reads and writes.
use Rattle.std.specs.Prelude.{◌≡◌, ℕ, List, Option, None, Result, IfErr, map, string_bytes}
use Rattle.std.specs.Option.{option_map}
use Rattle.vic_log.specs.declared.sink.Sink.{Ghosts as Sink}
use Rattle.vic_log.specs.declared.source.Source.{Ghosts as Source}
use Rattle.vic_answer.specs.declared.task.Task.{Task}
use Rattle.vic_answer.specs.declared.task.Task.TheVariants.{Check, Simulate, Explain, Report, Margin, Frame, Spell}
use Rattle.vic_answer.specs.declared.status.RunFault.{RunFault}
use Rattle.vic_answer.specs.declared.status.RunFault.TheVariants.{Write}
use Rattle.vic_answer.specs.declared.status.Status.{Status}
use Rattle.vic_answer.specs.CheckText.{IsCheckOf}
use Rattle.vic_answer.specs.CompleteRun.{IsCompleteWhereWritten, IsCompleteWhereWrittenFirst}
use Rattle.vic_answer.specs.ExplainText.{IsExplanationOf}
use Rattle.vic_answer.specs.FrameText.{frame_text, frame_status}
use Rattle.vic_answer.specs.MarginText.{IsMarginOf}
use Rattle.vic_answer.specs.ReportText.{IsReportOf}
use Rattle.vic_answer.specs.Runs.{IsWritten, LeavesSource, RunsOver}
use Rattle.vic_answer.specs.SimulateText.{IsSimulationOf}
use Rattle.vic_answer.specs.SpellText.{spell_text, spell_status}

-- the file that it reads, if one is named
abbrev pub file_of : Task → Option (List ℕ)
file_of (Check file) = option_map string_bytes file
file_of (Simulate file) = option_map string_bytes file
file_of (Explain file) = option_map string_bytes file
file_of (Report file) = option_map string_bytes file
file_of (Margin file) = option_map string_bytes file
file_of task = None

-- what a task does, over the bytes that the source's reads returned, until one returned none, and
-- that the sink's writes accepted
abbrev pub Does : {R W : Type 0} → Source R → Sink W → Task → R → R → W → W
    → Result Status RunFault → Type 0
Does r w (Check file) source source' sink sink' result =
    RunsOver IsCheckOf r w source source' sink sink' result
    × IsCompleteWhereWritten r w source source' sink sink' result
Does r w (Simulate file) source source' sink sink' result =
    RunsOver IsSimulationOf r w source source' sink sink' result
Does r w (Explain file) source source' sink sink' result =
    RunsOver IsExplanationOf r w source source' sink sink' result
    × IsCompleteWhereWritten r w source source' sink sink' result
Does r w (Report file) source source' sink sink' result =
    RunsOver IsReportOf r w source source' sink sink' result
    × IsCompleteWhereWritten r w source source' sink sink' result
Does r w (Margin file) source source' sink sink' result =
    RunsOver IsMarginOf r w source source' sink sink' result
    × IsCompleteWhereWrittenFirst r w source source' sink sink' result
Does r w (Frame word) source source' sink sink' result =
    (r.returned source' ≡ r.returned source) × IfErr result (λ e. e ≡ Write)
    × IsWritten (frame_text (string_bytes word)) (frame_status (string_bytes word))
    (w.written sink) (w.written sink') result
Does r w (Spell words) source source' sink sink' result =
    (r.returned source' ≡ r.returned source) × IfErr result (λ e. e ≡ Write)
    × IsWritten (spell_text (map string_bytes words.items))
    (spell_status (map string_bytes words.items)) (w.written sink) (w.written sink') result

-- how a task leaves its source: untouched if it reads none, else as a run does
abbrev pub LeavesSourceAfter : {R : Type 0} → Source R → Task → R → R
    → Result Status RunFault → Type 0
LeavesSourceAfter r (Frame word) source source' result = source' ≡ source
LeavesSourceAfter r (Spell words) source source' result = source' ≡ source
LeavesSourceAfter r task source source' result = LeavesSource r source source' result
