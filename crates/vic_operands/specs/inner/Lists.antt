-- What is known of the operands of `reconcile` that were taken.
use Rattle.std.specs.Prelude.{◌≡◌, ℕ, ⊤, true, false, None, List, [], ◌∷◌}
use Rattle.vic_log.specs.declared.entry.LogLine.{LogLine}
use Rattle.vic_operands.specs.Files.{File}
use Rattle.vic_operands.specs.Gathered.{AreNamed}
use Rattle.vic_operands.specs.Kinds.{is_list}
use Rattle.vic_operands.specs.Lists.{IsFirstNotListed, IsGatheredBehindList, IsListFault}
use Rattle.vic_operands.specs.inner.States.{HasTakenBy}
use Rattle.vic_operands.specs.declared.fault.OperandFault.TheVariants as fault
use Rattle.vic_operands.specs.declared.gathered.Gathered.{Gathered}
use Rattle.vic_operands.specs.declared.gathered.Gathered.TheVariants as gathered
use Rattle.vic_operands.specs.declared.operand.FileFault.{FileFault}
use Rattle.vic_operands.specs.declared.operand.FileFault.TheVariants.{Line, Memory}
use Rattle.vic_operands.specs.declared.reconcile_operands.ReconcileState.{ReconcileState}
use Rattle.vic_operands.specs.declared.reconcile_operands.ReconcileState.TheVariants.{Nothing, Unnamed, Refused, Listed, Collected}

-- why a list isn't read
abbrev pub RefusesList : List ℕ → FileFault → Type 0
RefusesList text (Line line f) = IsListFault text line f
RefusesList text Memory = ⊤

-- why lines aren't those of a list
abbrev pub RefusesLines : List LogLine → FileFault → Type 0
RefusesLines lines (Line n f) = IsFirstNotListed lines n × (f ≡ fault.NotListed)
RefusesLines lines Memory = ⊤

-- the first file is a list, and it and those behind it are this together
pub record IsBehindList (files : List File) (gathered : Gathered) : Type 0 where
  pub list : File
  pub logs : List File
  pub split : files ≡ list ∷ logs
  pub begins : is_list list.text ≡ true
  pub are : IsGatheredBehindList list logs gathered

-- the first file isn't a list
pub record BeginsWithNoList (files : List File) : Type 0 where
  pub first : File
  pub others : List File
  pub split : files ≡ first ∷ others
  pub begins : is_list first.text ≡ false

abbrev pub HasTakenToReconcileBy : List File → ReconcileState → Type 0
HasTakenToReconcileBy files Nothing = files ≡ []
HasTakenToReconcileBy files Unnamed = AreNamed files → ⊥
HasTakenToReconcileBy files (Refused r) = IsBehindList files (gathered.Refused r)
HasTakenToReconcileBy files (Listed l) =
    IsBehindList files (gathered.Collection
    (record { catalogue = l.catalogue; rows = None; surveys = l.surveys.items }))
HasTakenToReconcileBy files (Collected operands) =
    BeginsWithNoList files × HasTakenBy files operands.state
