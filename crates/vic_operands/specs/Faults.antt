-- The names of faults.
use Rattle.std.specs.Prelude.{ℕ, List, codes}
use Rattle.vic_log.specs.Names.{line_fault_name}
use Rattle.vic_table.specs.Names.{table_fault_name}
use Rattle.vic_operands.specs.declared.fault.OperandFault.{OperandFault}
use Rattle.vic_operands.specs.declared.fault.OperandFault.TheVariants.{Table, Survey, SameName, List as OfList, NotListed}

-- the name of a fault of a file of a collection
abbrev pub operand_fault_name : OperandFault → List ℕ
operand_fault_name (Table f) = table_fault_name f
operand_fault_name Survey = codes "Survey"
operand_fault_name SameName = codes "SameName"
operand_fault_name (OfList f) = line_fault_name f
operand_fault_name NotListed = codes "NotListed"
