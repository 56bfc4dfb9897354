use Rattle.vic_tree.proofs.Words.{◌≡◌, ◌∙◌, true, List, length, get_or, sym, ap, refl, Ordering, Less, Greater, BitMask}
use Rattle.std.proofs.Common.{Equal}
use Rattle.std.specs.Ordering.{is_lt}
use Rattle.vic_tree.proofs.FirstMasks.{less_before, past_last}
use Rattle.vic_tree.proofs.StretchLaws.{behind}
use Rattle.vic_tree.proofs.spaced_keys.is_past.Goals as goal

is_less : (o : Ordering) → is_lt o ≡ true → o ≡ Less
is_less Less h = refl
is_less Equal h = cc h
is_less Greater h = cc h

pub returns-then-len-eq-KEPT : goal.returns-then-len-eq-KEPT
returns-then-len-eq-KEPT c e m le =
    let ms = c.args.kept.now.items in
    let last = c.index-deref.result in
    let full : length ms ≡ 17 = sym c.len.ensures.value ∙ c.if-len-eq-KEPT.true in
    let is : last ≡ get_or ms 16 last = c.index-deref.is ∙ ap (λ (xs : List BitMask). get_or xs 16 last) c.deref.ensures.0 in
    past_last ms last m c.requires.0 full is (behind last c.args.widest.now m (less_before last c.args.widest.now (sym c.cmp.ensures ∙ is_less c.cmp.result (sym c.is_lt.ensures ∙ e))) le)
