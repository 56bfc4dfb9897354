-- The fields of frames in structs of C.
use Rattle.std.specs.Prelude.{Result, Ok, Err}
use Rattle.vic_frame.specs.declared.fault.FrameFault.{FrameFault}
use Rattle.vic_frame.specs.declared.request.Request.{Request}
use Rattle.vic_frame.specs.declared.request.Request.TheVariants.{Inventory, StayQuiet}
use Rattle.vic_frame.specs.Replies.{Reply}
use Rattle.vic_frame.specs.Slots.{slot_count}
use Rattle.vic_numbers.specs.FaultNumbers.{frame_fault_number}
use Rattle.vicinity_c.specs.declared.fields.VicinityRequest.{VicinityRequest}
use Rattle.vicinity_c.specs.declared.fields.VicinityReply.{VicinityReply}

-- the fields of a request that was read, or its fault; a Stay Quiet request opens no slots
abbrev pub request_fields : Result Request FrameFault → VicinityRequest
request_fields (Ok (Inventory link sixteen m)) = record {
  fault = 0;
  link = link;
  slots = slot_count (Inventory link sixteen m);
  mask_len = m.len;
  mask_value = m.value;
  uid = 0;
}
request_fields (Ok (StayQuiet link uid)) =
    record { fault = 0; link = link; slots = 0; mask_len = 0; mask_value = 0; uid = uid }
request_fields (Err fault) = record {
  fault = frame_fault_number fault;
  link = 0;
  slots = 0;
  mask_len = 0;
  mask_value = 0;
  uid = 0;
}

-- the fields of a reply that was read, or its fault
abbrev pub reply_fields : Result Reply FrameFault → VicinityReply
reply_fields (Ok r) = record { fault = 0; flags = r.flags; dsfid = r.dsfid; uid = r.uid }
reply_fields (Err fault) =
    record { fault = frame_fault_number fault; flags = 0; dsfid = 0; uid = 0 }
