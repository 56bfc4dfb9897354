use Rattle.vic_collection.proofs.Surveys.{certain_in, certain_somewhere, positions_of, possible_in, possible_somewhere, undecided_in}
use Rattle.vic_collection.specs.Against.{IsUndecidedIn}
use Rattle.vic_collection.specs.Collections.{is_certain_in, is_undecided_in}
use Rattle.vic_collection.specs.Families.{IsCertainIn}
use Rattle.vic_collection.proofs.laws.surveys_say_what_logs_say.Goals as goal

pub returns : goal.returns
returns c = record {
  certain_in = λ text s u says. certain_in text s.field says u;
  possible_in = λ text s u says. possible_in text s.field says u;
  certain = λ c texts u says. certain_somewhere texts c.surveys says u;
  possible = λ c texts u says is. possible_somewhere texts c.surveys says u is;
  certain_logs = λ c texts u says. positions_of texts c.surveys says (λ s. is_certain_in s u) (IsCertainIn u) (λ text s w. certain_in text s.field w u);
  undecided_logs = λ c texts u says is. positions_of texts c.surveys says (λ s. is_undecided_in s u) (IsUndecidedIn u) (λ text s w. undecided_in text s w u is);
}
