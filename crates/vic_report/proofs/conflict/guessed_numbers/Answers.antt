use Rattle.std.proofs.Common.{rules}
use Rattle.std.proofs.Math.Dec.{eqb}
use Rattle.std.specs.Option.{option_eq}
use Rattle.vic_report.proofs.Words.{◌≡◌, ◌∙◌, ℕ, Option, None, Some, false, ap, eqb-true, false≢true, not, subst, sym, true_from_ne_false, All, IsPossible, IsTellingLine, place_of}
use Rattle.vic_report.proofs.conflict.guessed_numbers.Goals as goal

pub prefix-requires : goal.prefix-requires
prefix-requires c = rw (c.of.ensures.value, ← c.lines-lines.ensures.value) (search rules)

is_last : (o : Option ℕ) (n : ℕ) → false ≡ not (option_eq eqb o (Some n)) → o ≡ Some n
is_last None n h = absurd (false≢true h)
is_last (Some m) n h = ap Some (eqb-true m n (true_from_ne_false (eqb m n) (λ none. false≢true (h ∙ ap not none))))

pub returns : goal.returns
returns c =
    let end = is_last c.last.result c.args.last c.if-ne.ensures in
    let tell : All (IsTellingLine c.args.log.now.lines) _ = rw (c.as_slice.ensures.value, c.lines-lines.ensures.value) at (c.all_tell.ensures c.if-not-all_tell.false) in
    record {
      rising = rw c.as_slice.ensures.value at c.as_slice.ensures.rising;
      ends = rw end at c.last.ensures.member;
      upto = rw end at c.last.ensures.above;
      slots = λ m h. let w = place_of _ m m h in subst (IsTellingLine c.args.log.now.lines) w.2 (tell w.0 m w.1);
      unfit = λ p population fits. false≢true (sym c.if-branch.false ∙ c.in_ok-is_possible.ensures.1 (subst IsPossible (sym c.lines.ensures) (p, population, c.in_ok-kept.ensures p fits)));
    }
