use Rattle.vic_survey.proofs.ValueWords.{◌≡◌, ◌∙◌, ◌∷◌, sym}
use Rattle.vic_survey.proofs.Merged.{before_other, behind_first, pairs_behind}
use Rattle.vic_survey.proofs.RisingLaws.{before_is}
use Rattle.vic_survey.proofs.making.from_mask.Goals as goal

pub loop-first-preserved : goal.loop-first-preserved
loop-first-preserved c =
    let first = c.in-Some.first.now in
    let others = c.in-Some.others.now in
    let is : c.loop-first.ahead.now ≡ first ∷ others = c.in-Some.ensures.cases.0 in
    let up = rw is at c.loop-first.invariant.rising in
    let same = rw is at c.loop-first.invariant.same in
    let before = before_is first c.args.mask.now (sym c.comes_before.ensures ∙ c.if-not-comes_before.false) in
    record {
      rising = pairs_behind first others up;
      same = λ m none.
          let old = same m none in
          let one = behind_first first others m (before_other first c.args.mask.now m before none) in
          (λ h. old.0 (one.0 h), λ h. one.1 (old.1 h));
    }
