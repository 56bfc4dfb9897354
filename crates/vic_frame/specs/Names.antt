-- The names of the faults, as they are displayed (profile).
use Rattle.std.specs.Prelude.{ℕ, List, codes}
use Rattle.vic_frame.specs.declared.fault.FrameFault.{FrameFault}
use Rattle.vic_frame.specs.declared.fault.FrameFault.TheVariants.{Short, Crc, Extension, Reserved, OptionFlag, OtherCommand, InventoryFlag, Afi, Length, MaskTooLong, MaskPadding, SelectFlag, NotAddressed, ErrorFlag, NotVicinity}

-- the text that a fault is displayed as
abbrev pub fault_name : FrameFault → List ℕ
fault_name Short = codes "Short"
fault_name Crc = codes "Crc"
fault_name Extension = codes "Extension"
fault_name Reserved = codes "Reserved"
fault_name OptionFlag = codes "OptionFlag"
fault_name OtherCommand = codes "OtherCommand"
fault_name InventoryFlag = codes "InventoryFlag"
fault_name Afi = codes "Afi"
fault_name Length = codes "Length"
fault_name MaskTooLong = codes "MaskTooLong"
fault_name MaskPadding = codes "MaskPadding"
fault_name SelectFlag = codes "SelectFlag"
fault_name NotAddressed = codes "NotAddressed"
fault_name ErrorFlag = codes "ErrorFlag"
fault_name NotVicinity = codes "NotVicinity"
