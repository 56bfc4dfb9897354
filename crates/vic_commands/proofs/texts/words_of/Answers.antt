use Rattle.std.proofs.Common.{◌≡◌, ℕ, List, [], arith, map, take}
use Rattle.vic_commands.proofs.TextsSoFar.{take_now-more}
use Rattle.std.proofs.lemmas.Grind.{common_steps}
use Rattle.std.proofs.lemmas.List.{get_or-map, length-map, map-append, take_all}
use Rattle.std.proofs.lemmas.List.Elements.{All-append, All-cons, All-nil}
use denote.Ref.{Bor}
use Rattle.std.specs.Str.{IsUtf8}
use Rattle.vic_commands.proofs.texts.words_of.Goals as goal

pub loop-text-preserved : goal.loop-text-preserved
loop-text-preserved c =
    let more = take_now-more c.args.texts.now c.loop-text.text-index _ c.loop-text-test.true in
    record {
      words = rw more (grind (arith, common_steps, map-append));
      utf8 = rw more (All-append IsUtf8 _ _ c.loop-text.invariant.utf8 (All-cons IsUtf8 _ [] c.in-Ok.ensures.cases.1 (All-nil IsUtf8)));
    }

pub returns-in_default : goal.returns-in_default
returns-in_default c all =
    let i = c.loop-text.text-index in
    let is = get_or-map (λ (t : Bor (List ℕ)). t.now) c.args.texts.now i (record { ref_ptr = (0, 0); now = [] }) [] c.loop-text-test.true in
    c.in_default.ensures.cases.0 (rw is at (all i [] (omega (arith, length-map c.args.texts.now (λ (t : Bor (List ℕ)). t.now)))))

pub returns : goal.returns
returns c =
    let all : take c.loop-text.text-index (map (λ t. t.now) c.args.texts.now) ≡ map (λ t. t.now) c.args.texts.now = take_all _ _ (omega (arith, length-map c.args.texts.now (λ (t : Bor (List ℕ)). t.now))) in
    (rw all at c.loop-text.invariant.words, rw all at c.loop-text.invariant.utf8)
