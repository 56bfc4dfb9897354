use Rattle.vic_margin.proofs.Words.{◌≡◌, ◌∙◌, ℕ, ap, has}
use Rattle.vic_tree.specs.Ranges.{in_ranges}
use Rattle.vic_margin.proofs.Opened.{complete_open}
use Rattle.vic_margin.proofs.cautious.readings_of_complete.Goals as goal

pub readings_and_hidden-requires-clause-possible : goal.readings_and_hidden-requires-clause-possible
readings_and_hidden-requires-clause-possible c = c.requires.verdict.1.0

pub readings_and_hidden-requires-clause-open : goal.readings_and_hidden-requires-clause-open
readings_and_hidden-requires-clause-open c =
    let same : (k : ℕ) → in_ranges c.deref.result.now k ≡ has c.args.keys.now k = λ k. ap (λ rs. in_ranges rs k) c.deref.ensures.value ∙ c.in_ok-ranges.ensures k in
    complete_open c.args.log.lines c.requires.verdict.0 c.args.keys.now c.deref.result.now c.requires.keys same c.requires.verdict.1
