use Rattle.vic_collection.proofs.Against.{against_logs, doubtful_first, open_masks_of}
use Rattle.vic_collection.proofs.laws.findings_are_of_logs.Goals as goal

pub returns : goal.returns
returns c = record {
  findings = λ c texts f says uids. against_logs c texts says uids f;
  doubtful_first = λ c texts u says w. doubtful_first c texts says u w.1;
  open_masks = λ c texts text s o says. open_masks_of c texts says text s o;
}
