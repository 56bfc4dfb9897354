-- The files of a collection that were taken.
use Rattle.std.specs.Prelude.{List}
use Rattle.vic_operands.specs.Files.{File}
use Rattle.vic_operands.specs.declared.operands.Operands.{Operands}
use Rattle.vic_operands.specs.declared.reconcile_operands.ReconcileOperands.{ReconcileOperands}
use Rattle.vic_operands.specs.inner.Lists.{HasTakenToReconcileBy}
use Rattle.vic_operands.specs.inner.States.{HasTakenBy}

-- these files were taken, in this order
abbrev pub HasTaken : List File → Operands → Type 0
HasTaken files operands = HasTakenBy files operands.state

-- the same, as operands of `reconcile`
abbrev pub HasTakenToReconcile : List File → ReconcileOperands → Type 0
HasTakenToReconcile files operands = HasTakenToReconcileBy files operands.state
