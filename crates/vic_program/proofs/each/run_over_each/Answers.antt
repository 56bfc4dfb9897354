use Rattle.std.proofs.Common.{◌∙◌, inl, refl, sym}
use Rattle.std.proofs.lemmas.Bool.{false≢true}
use Rattle.vic_program.specs.Ends.{usage_line}
use Rattle.vic_program.proofs.each.run_over_each.Goals as goal

pub returns-then-not-branch : goal.returns-then-not-branch
returns-then-not-branch g c = inl (record {
  line = usage_line;
  ends = refl;
  why = inl (record { line_is = refl; why = inl (λ all. false≢true (sym c.if-not-branch.true ∙ c.in_ok-are_names.ensures.1 all)) });
  untouched = refl;
})
