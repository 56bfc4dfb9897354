-- What `json` writes for a text, and its status.
use Rattle.std.specs.Prelude.{ℕ, List}
use Rattle.vic_report.specs.Reports.{verdict_of}
use Rattle.vic_answer.specs.CheckText.{IsCommandText}
use Rattle.vic_answer.specs.declared.status.Status.{Status}
use Rattle.vic_object.specs.ObjectText.{json_text}
use Rattle.vic_object.specs.Told.{IsTold}

-- what `json` writes for a text, the object of its log, and the status, which is that of `check`
abbrev pub IsJsonOf : List ℕ → List ℕ → Status → Type 0
IsJsonOf text = IsCommandText IsTold (λ t. verdict_of t.report) (json_text text) text
