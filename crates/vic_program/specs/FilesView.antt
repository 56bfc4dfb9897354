-- What a contract sees of whatever opens files.
use Rattle.std.specs.Prelude.{ℕ, List}
use Rattle.vic_log.specs.declared.source.Source.{Ghosts as Source}
use Rattle.vic_program.specs.declared.files.Files.{Ghosts as Files}

-- its files as sources, how the history of one begins by the name that it was opened by, and which
-- names it couldn't open. Nothing else is known of histories: so one that begins as for a name is
-- that of a file opened by this name
pub record FilesView (T : Type 0) : Type 1 where
  pub reading : Source T
  pub origin : List ℕ → List ℕ
  pub Refuses : List ℕ → Type 0

-- of a value of a type that implements `Files`
abbrev pub files_view : {F T : Type 0} → Files F T → Source T → F → FilesView T
files_view f reading files =
    record { reading = reading; origin = f.origin files; Refuses = f.Refuses files }
