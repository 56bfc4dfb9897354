-- How the program ends.
use Rattle.std.specs.Prelude.{ℕ, List, ◌++◌, Result, Ok, Err, codes}
use Rattle.vic_answer.specs.Status.{fault_text, status_code}
use Rattle.vic_answer.specs.declared.status.RunFault.{RunFault}
use Rattle.vic_answer.specs.declared.status.RunFault.TheVariants.{Memory}
use Rattle.vic_answer.specs.declared.status.Status.{Status}
use Rattle.vic_words.specs.declared.asked.WordsFault.{WordsFault}
use Rattle.vic_words.specs.declared.asked.WordsFault.TheVariants.{Usage as UsageFault, Memory as MemoryFault}
use Rattle.vic_program.specs.declared.no_answer.NoAnswer.{NoAnswer}
use Rattle.vic_program.specs.declared.no_answer.NoAnswer.TheVariants.{Usage, CannotOpen, Run}

-- how the program ends: with a status, or with no answer, and then standard error has this line
abbrev pub End : Type 0
End = Result Status (List ℕ)

-- the line for words that ask for nothing, and for files that a command doesn't take
abbrev pub usage_line : List ℕ
usage_line = codes "vicinity: usage"

-- the line that says why there is no answer, without LF
abbrev pub line_of : NoAnswer → List ℕ
line_of Usage = usage_line
line_of (CannotOpen name) = codes "vicinity: cannot open " ++ name.now
line_of (Run fault) = fault_text fault

-- the end that this result of `run_asked` is
abbrev pub end_of : Result Status NoAnswer → End
end_of (Ok status) = Ok status
end_of (Err why) = Err (line_of why)

-- the end that this result of `do_task` is
abbrev pub run_end : Result Status RunFault → End
run_end (Ok status) = Ok status
run_end (Err fault) = Err (fault_text fault)

-- the exit status
abbrev pub exit_code : End → ℕ
exit_code (Ok status) = status_code status
exit_code (Err line) = 4

-- the line where the words ask for nothing, or couldn't be read
abbrev pub words_line : WordsFault → List ℕ
words_line UsageFault = usage_line
words_line MemoryFault = fault_text Memory
