use Rattle.vic_collection.proofs.OneLog.{one_certain_uid, one_open_masks, one_possible_uid, one_report, one_whole}
use Rattle.vic_collection.proofs.laws.one_log.Goals as goal

pub returns : goal.returns
returns c = record {
  possible = λ text log u is possible. one_possible_uid text log is possible u;
  certain = λ text log u is possible. one_certain_uid text log is possible u;
  report = λ text log f g is possible. one_report text log is possible f g;
  open_masks = λ text log o is possible. one_open_masks text log is possible o;
  whole = one_whole;
}
