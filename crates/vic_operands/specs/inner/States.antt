-- What is known of files that were taken.
use Rattle.std.specs.Prelude.{List}
use Rattle.vic_operands.specs.Files.{File}
use Rattle.vic_operands.specs.Gathered.{AreNamed, IsFirstWrongFile}
use Rattle.vic_operands.specs.declared.operands.State.{State}
use Rattle.vic_operands.specs.declared.operands.State.TheVariants.{Unnamed, Refused, Kept}
use Rattle.vic_operands.specs.inner.Kept.{HaveKept}

abbrev pub HasTakenBy : List File → State → Type 0
HasTakenBy files Unnamed = AreNamed files → ⊥
HasTakenBy files (Refused r) = AreNamed files × IsFirstWrongFile files r
HasTakenBy files (Kept kept) = AreNamed files × HaveKept files kept
