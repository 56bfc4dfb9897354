use Rattle.std.proofs.Common.{◌≡◌, ◌∙◌, ℕ, Some, List, ap, arith, length, refl, sym}
use Rattle.std.proofs.lemmas.List.{length-map}
use Rattle.std.proofs.lemmas.List.Sorted.{IsNonDecreasingBy-from_sort, list_any-IsPermutation}
use Rattle.vic_log.specs.Order.{entries}
use Rattle.vic_log.specs.declared.entry.Entry.{Entry}
use Rattle.vic_log.specs.declared.entry.LogLine.{LogLine}
use Rattle.vic_walk.proofs.LineLaws.{entry_at, first_lines}
use Rattle.vic_object.specs.Asking.{collided_within_before, has_collided_within}
use Rattle.vic_object.specs.inner.Middles.{is_middle_in}
use Rattle.vic_object.proofs.Asked.{within_more}
use Rattle.vic_object.proofs.asking.collided_middles.Goals as goal

pub loop-line-init : goal.loop-line-init
loop-line-init c = record {
  round = c.first-cursor.ensures (entries c.lines-lines.result.now);
  noted = λ m is short. rw c.new-middles.ensures.items refl;
}

pub loop-line-preserved : goal.loop-line-preserved
loop-line-preserved c =
    let lines = c.lines-lines.result.now in
    let es = entries lines in
    let log = first_lines _ _ c.lines-lines.ensures.log in
    let i = c.loop-line.line-index in
    let l = c.line-item.result in
    let before = c.loop-line.invariant in
    let here = entry_at lines i l c.loop-line-test.true c.line-item.is ∙ ap (λ (e : Entry). Some e) (sym c.item-entry.ensures) in
    record {
      round = c.advance.ensures es i log.order here before.round;
      noted = λ m is short. within_more es i c.item-entry.result c.mask-mask.result m _ _ here (c.mask-mask.ensures es i log.valid before.round) (c.in_ok-note_middle.ensures m is short) (before.noted m is short);
    }

pub returns : goal.returns
returns c =
    let lines = c.lines-lines.result.now in
    let last : c.loop-line.line-index ≡ length lines = omega arith in
    let end : c.loop-line.line-index ≡ length (entries lines) = last ∙ sym (length-map lines (λ (l : LogLine). l.item)) in
    let all = c.loop-line.invariant.noted in
    record {
      order = IsNonDecreasingBy-from_sort (λ x. x) c.sort_unstable.new.self.items c.sort_unstable.ensures.sorted;
      each = λ m is short.
          sym (list_any-IsPermutation (is_middle_in m) _ _ c.sort_unstable.ensures.permutation) ∙ all m is short
          ∙ ap (λ (n : ℕ). collided_within_before (entries lines) n m) end ∙ ap (λ (ls : List LogLine). has_collided_within (entries ls) m) c.lines-lines.ensures.value;
    }
