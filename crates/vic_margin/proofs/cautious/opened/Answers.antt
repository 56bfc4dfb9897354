use Rattle.vic_margin.proofs.Words.{◌∙◌, ap, not, ◌&&◌}
use Rattle.vic_log.specs.Slots.{is_open, slots_before}
use Rattle.vic_tree.specs.OpenSet.{SameUids}
use Rattle.vic_tree.specs.Ranges.{is_open_in, is_outside}
use Rattle.vic_margin.specs.inner.Opened.{is_opened}
use Rattle.vic_margin.proofs.Opened.{outside_both, widest_opened}
use Rattle.vic_margin.proofs.cautious.opened.Goals as goal

pub returns : goal.returns
returns c es i ends =
    let ranges = c.args.ranges.now in
    let outside : SameUids (is_outside c.in_ok-closed.closed.items) (is_open (slots_before es i)) = c.in_ok-closed.ensures.outside es i ends in
    let same : SameUids (is_open_in c.in_ok-set.set) (is_opened es i ranges) = λ u is.
    c.in_ok-set.ensures u is ∙ (ap (λ rs. is_outside rs u) c.in_ok-extend_from_slice.ensures.items ∙ (outside_both c.in_ok-closed.closed.items ranges u ∙ ap (λ b. b && not (is_open_in ranges u)) (outside u is))) in
    widest_opened (is_open_in c.in_ok-set.set) (is_opened es i ranges) c.widest.result same c.widest.ensures.found c.widest.ensures.empty
