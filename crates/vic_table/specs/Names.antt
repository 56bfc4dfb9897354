-- The names of faults.
use Rattle.std.specs.Prelude.{ℕ, List, codes}
use Rattle.vic_table.specs.declared.fault.TableLineFault.{TableLineFault}
use Rattle.vic_table.specs.declared.fault.TableLineFault.TheVariants as fault

-- the name of a fault of a line
abbrev pub table_fault_name : TableLineFault → List ℕ
table_fault_name fault.TooManyLines = codes "TooManyLines"
table_fault_name fault.LineTooLong = codes "LineTooLong"
table_fault_name fault.Utf8 = codes "Utf8"
table_fault_name fault.Quote = codes "Quote"
table_fault_name fault.Columns = codes "Columns"
table_fault_name fault.Result = codes "Result"
table_fault_name fault.Cells = codes "Cells"
table_fault_name fault.Uid = codes "Uid"
table_fault_name fault.UidElsewhere = codes "UidElsewhere"
table_fault_name fault.DuplicateUid = codes "DuplicateUid"
table_fault_name fault.Place = codes "Place"
table_fault_name fault.Away = codes "Away"
table_fault_name fault.DuplicateLog = codes "DuplicateLog"
table_fault_name fault.NoItems = codes "NoItems"
