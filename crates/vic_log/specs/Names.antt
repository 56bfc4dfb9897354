-- The name of a fault.
use Rattle.std.specs.Prelude.{ℕ, List, codes}
use Rattle.vic_frame.specs.Names.{fault_name}
use Rattle.vic_log.specs.declared.fault.LineFault.{LineFault}
use Rattle.vic_log.specs.declared.fault.LineFault.TheVariants.{TooManyLines, LineTooLong, Header, UnknownEntry, Hex, ListedLength, Frame, NotVicinity, SlotOutsideRound, EntryAfterList, DuplicateListed}

-- the fault of a frame has the same name as in the frame
abbrev pub line_fault_name : LineFault → List ℕ
line_fault_name TooManyLines = codes "TooManyLines"
line_fault_name LineTooLong = codes "LineTooLong"
line_fault_name Header = codes "Header"
line_fault_name UnknownEntry = codes "UnknownEntry"
line_fault_name Hex = codes "Hex"
line_fault_name ListedLength = codes "ListedLength"
line_fault_name (Frame f) = fault_name f
line_fault_name NotVicinity = codes "NotVicinity"
line_fault_name SlotOutsideRound = codes "SlotOutsideRound"
line_fault_name EntryAfterList = codes "EntryAfterList"
line_fault_name DuplicateListed = codes "DuplicateListed"
