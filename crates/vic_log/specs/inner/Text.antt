-- One more line of a text: its first fault, and what it adds to a log.
use Rattle.std.specs.Prelude.{◌≡◌, ◌≢◌, ℕ, ◌==◌, if◌then◌else◌, Option, Some, None, List, [], ◌++◌}
use Rattle.vic_log.specs.declared.entry.LogLine.{LogLine}
use Rattle.vic_log.specs.declared.fault.LineFault.{LineFault}
use Rattle.vic_log.specs.declared.fault.LogFault.{LogFault}
use Rattle.vic_log.specs.declared.fault.LogFault.TheVariants.{Line, Read, Memory, Spent}
use Rattle.vic_log.specs.Order.{entries}
use Rattle.vic_log.specs.Log.{LogValue}
use Rattle.vic_log.specs.Text.{named_version, line_fault, logged}

-- the first fault of the line with this number, after the log of the lines before
abbrev pub next_fault : LogValue → ℕ → List ℕ → Option LineFault
next_fault log number line = line_fault log.version (entries log.lines) number (Some line)

-- a log with what the line with this number says: line 1 names its version, each other line adds
-- its entry, if it spells one
abbrev pub after_line : LogValue → ℕ → List ℕ → LogValue
after_line log number line = record {
  lines = log.lines ++ logged log.version number (Some line);
  version = if number == 1 then named_version (Some line) else log.version;
}

-- why a line with this first fault isn't taken: that fault; or, if it has none and adds to the log,
-- refused memory
abbrev pub RefusesLine : Option LineFault → List LogLine → ℕ → LogFault → Type 0
RefusesLine fault added number (Line n f) = (n ≡ number) × (fault ≡ Some f)
RefusesLine fault added number Memory = (fault ≡ None) × (added ≢ [])
RefusesLine fault added number Read = ⊥
RefusesLine fault added number Spent = ⊥

-- why the line with this number isn't taken after a log
abbrev pub RefusesNext : LogValue → ℕ → List ℕ → LogFault → Type 0
RefusesNext log number line =
    RefusesLine (next_fault log number line) (logged log.version number (Some line)) number
