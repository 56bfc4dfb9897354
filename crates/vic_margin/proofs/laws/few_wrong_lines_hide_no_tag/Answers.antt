use Rattle.vic_margin.proofs.LawLemmas.{few_wrong}
use Rattle.vic_margin.proofs.laws.few_wrong_lines_hide_no_tag.Goals as goal

pub returns : goal.returns
returns c = few_wrong
