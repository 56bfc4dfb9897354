-- The numbers of faults, for programs that read an answer by numbers.
use Rattle.std.specs.Prelude.{ℕ}
use Rattle.vic_frame.specs.declared.fault.FrameFault.{FrameFault}
use Rattle.vic_frame.specs.declared.fault.FrameFault.TheVariants.{Short, Crc, Extension, Reserved, OptionFlag, OtherCommand, InventoryFlag, Afi, Length, MaskTooLong, MaskPadding, SelectFlag, NotAddressed, ErrorFlag}
use Rattle.vic_log.specs.declared.fault.LineFault.{LineFault}
use Rattle.vic_log.specs.declared.fault.LineFault.TheVariants.{TooManyLines, LineTooLong, Header, UnknownEntry, Hex, ListedLength, Frame, NotVicinity, SlotOutsideRound, EntryAfterList, DuplicateListed}

-- the number of a frame's fault
abbrev pub frame_fault_number : FrameFault → ℕ
frame_fault_number Short = 101
frame_fault_number Crc = 102
frame_fault_number Extension = 103
frame_fault_number Reserved = 104
frame_fault_number OptionFlag = 105
frame_fault_number OtherCommand = 106
frame_fault_number InventoryFlag = 107
frame_fault_number Afi = 108
frame_fault_number Length = 109
frame_fault_number MaskTooLong = 110
frame_fault_number MaskPadding = 111
frame_fault_number SelectFlag = 112
frame_fault_number NotAddressed = 113
frame_fault_number ErrorFlag = 114
frame_fault_number FrameFault.NotVicinity = 115

-- the number of a line's fault
abbrev pub fault_number : LineFault → ℕ
fault_number TooManyLines = 1
fault_number LineTooLong = 2
fault_number Header = 3
fault_number UnknownEntry = 4
fault_number Hex = 5
fault_number ListedLength = 6
fault_number NotVicinity = 7
fault_number SlotOutsideRound = 8
fault_number EntryAfterList = 9
fault_number DuplicateListed = 10
fault_number (Frame f) = frame_fault_number f
