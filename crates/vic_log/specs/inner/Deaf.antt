-- Whether entries end silent with one more.
use Rattle.std.specs.Prelude.{Bool, true, false, if◌then◌else◌}
use Rattle.vic_log.specs.declared.entry.Entry.{Entry}
use Rattle.vic_log.specs.Deaf.{is_answer, is_silent}

-- a silent slot begins a silence, an answer ends it
abbrev pub silent_after : Bool → Entry → Bool
silent_after silent e = if is_silent e then true else if is_answer e then false else silent
