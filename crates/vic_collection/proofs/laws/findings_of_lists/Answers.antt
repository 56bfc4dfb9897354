use Rattle.vic_collection.proofs.Lists.{against_list, complete_against_list, of_no_place}
use Rattle.vic_collection.proofs.SameLists.{agree_by_lists, open_masks_by_surveys, unlisted_by_lists}
use Rattle.vic_collection.proofs.laws.findings_of_lists.Goals as goal

pub returns : goal.returns
returns c = record {
  findings = λ c texts expected f says is uids. against_list c expected is texts uids says f;
  no_place = λ c expected f is. of_no_place c expected is f;
  complete = λ c texts expected count says is uids. complete_against_list c expected is texts uids says count;
  same_lists = λ c d expected others f g surveys is other order. agree_by_lists c d expected others surveys is other order f g;
  same_unlisted = unlisted_by_lists;
  same_open_masks = open_masks_by_surveys;
}
