-- What is asked for, by what it names.
use Rattle.std.proofs.Common.{◌≡◌, ℕ, List, Option, Some, None, Result, Ok, Err, MatchResult, subst, sym, inl, inr, refl}
use Rattle.vic_answer.specs.declared.task.Task.{Task}
use Rattle.vic_words.specs.Words.{Ask}
use Rattle.vic_words.specs.declared.asked.Asked.{Asked}
use Rattle.vic_words.specs.declared.asked.WordsFault.{WordsFault}
use Rattle.vic_words.specs.declared.asked.WordsFault.TheVariants.{Usage as UsageFault, Memory as MemoryFault}
use Rattle.vic_program.specs.Ends.{End, words_line}
use Rattle.vic_program.specs.Program.{RunsWords}
use Rattle.vic_program.specs.Runs.{OverInput, RunsTask}
use Rattle.vic_program.specs.FilesView.{FilesView}
use Rattle.vic_log.specs.declared.source.Source.{Ghosts as Source}
use Rattle.vic_log.specs.declared.sink.Sink.{Ghosts as Sink}

some_is_none : (a : List ℕ) → Some a ≡ None → ⊥
some_is_none a e = cc

pub task_over_input : {T I W : Type 0} (p : FilesView T) (ri : Source I) (w : Sink W) (task : Task) (name : Option (List ℕ)) (i i' : I) (o o' : W) (end : End)
    → name ≡ None → OverInput ri w task i i' o o' end → RunsTask p ri w task name i i' o o' end
task_over_input p ri w task None i i' o o' end e h = h
task_over_input p ri w task (Some a) i i' o o' end e h = absurd (some_is_none a e)

pub no_request_runs : {T I W : Type 0} (p : FilesView T) (ri : Source I) (w : Sink W) (words : List (List ℕ)) (i : I) (o : W) (end : End) (fault : WordsFault)
    → (fault ≡ UsageFault → (asked : Asked) → Ask words asked → ⊥) → end ≡ Err (words_line fault) → RunsWords p ri w words i i o o end
no_request_runs p ri w words i o end UsageFault nothing e = inr (inl (record { nothing = nothing refl; idle = record { unread = refl; unwritten = record { line = words_line UsageFault; ends = e; why = refl; untouched = refl } } }))
no_request_runs p ri w words i o end MemoryFault nothing e = inr (inr (record { unread = refl; unwritten = record { line = words_line MemoryFault; ends = e; why = refl; untouched = refl } }))

-- the end with a line
abbrev pub as_end : List ℕ → End
as_end line = Err line

err_same : {X E : Type 0} (a b : E) → ◌≡◌ {A = Result X E} (Err a) (Err b) → a ≡ b
err_same a b e = cc

ok_is_err : {X E : Type 0} (a : X) (b : E) → ◌≡◌ {A = Result X E} (Ok a) (Err b) → ⊥
ok_is_err a b e = cc

pub match_err : {X E : Type 0} (r : Result X E) (e : E) (A : X → Type 0) (B : E → Type 0) → r ≡ Err e → B e → MatchResult r A B
match_err (Ok x) e A B is h = absurd (ok_is_err x e is)
match_err (Err y) e A B is h = subst B (sym (err_same y e is)) h
