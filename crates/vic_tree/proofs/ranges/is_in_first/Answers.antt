use Rattle.vic_tree.proofs.Words.{◌≡◌, ◌∙◌, ◌<◌, length, get_or, sym, ap, nat_le, rules}
use Rattle.vic_tree.proofs.RangeLaws.{in_first}
use Rattle.vic_tree.proofs.ranges.is_in_first.Goals as goal

pub returns-in-Some : goal.returns-in-Some
returns-in-Some c =
    let es = c.args.ranges.now in
    let key = c.args.key in
    let r = c.in-Some.range.now in
    let lt : 0 < length es = search rules in
    let at : r ≡ get_or es 0 r = search rules in
    ap (λ x. nat_le x key) c.first-in-Some.ensures.value ∙ sym (in_first 0 es r key c.requires.ranges lt at (rw at (c.requires.ahead r lt)))
