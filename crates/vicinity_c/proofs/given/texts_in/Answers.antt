use Rattle.std.proofs.Common.{◌≡◌, length, arith}
use Rattle.std.proofs.lemmas.Grind.{common_steps}
use Rattle.std.proofs.lemmas.List.{map-append}
use Rattle.std.proofs.Math.Seq.{take-suc}
use Rattle.vicinity_c.proofs.TextsInBytes.{AreTexts-short_at, AreTexts-drop_at, AreTexts-none_at, joined-more}
use Rattle.vicinity_c.proofs.given.texts_in.Goals as goal

pub returns-then-length-rest : goal.returns-then-length-rest
returns-then-length-rest c texts h = AreTexts-short_at _ _ _ _ c.loop-length-test.true c.if-length-rest.true (c.loop-length.invariant.others texts h)

pub loop-length-preserved : goal.loop-length-preserved
loop-length-preserved c = record {
  joined = grind (arith, common_steps, joined-more, map-append);
  measured = grind (arith, common_steps, take-suc, map-append);
  others = λ texts h. rw c.split_at.ensures.back (AreTexts-drop_at _ _ _ texts c.loop-length-test.true (c.loop-length.invariant.others texts h));
}

pub returns-then-is_empty : goal.returns-then-is_empty
returns-then-is_empty c = record {
  joined = grind (arith, common_steps);
  measured = grind (arith, common_steps);
}

pub returns : goal.returns
returns c texts h =
    let e : c.loop-length.length-index ≡ length c.args.lengths.now = omega arith in
    let none = AreTexts-none_at _ _ _ _ e (c.loop-length.invariant.others texts h) in
    grind (arith, common_steps)
