use Rattle.vic_tree.proofs.Words.{◌≡◌, ◌∙◌, ◌<◌, length, get_or, ap, sym, arith, uid_of, mirror_of_uid, in_ranges, is_open_in, map_more}
use Rattle.vic_tree.proofs.range_set.RangeSetOpenSet.has_each.Goals as goal

pub loop-key-preserved : goal.loop-key-preserved
loop-key-preserved c =
    let keys = c.as_slice-keys.result.now in
    let n = c.loop-key.key-index in
    let key = get_or keys n 0 in
    let all = c.args.self.now in
    let lt : n < length keys = c.loop-key-test.true in
    let test : c.is_in_first.result ≡ is_open_in all (uid_of key) =
    c.is_in_first.ensures
    ∙ c.skip_to-ahead.ensures.same key (omega arith)
    ∙ c.loop-key.invariant.same n (omega arith) lt key (omega arith)
    ∙ ap (in_ranges all) (sym (mirror_of_uid key (c.as_slice-keys.ensures.keys n 0 lt))) in
    record {
      each = c.in_ok-push.ensures.items ∙ rw (c.loop-key.invariant.each, test) (sym (map_more (λ k. is_open_in all (uid_of k)) keys n 0 lt));
      ranges = c.skip_to-ahead.ensures.ranges;
      same = λ j le short k from.
          let up = c.as_slice-keys.ensures.order n j 0 (omega arith) short in
          c.skip_to-ahead.ensures.same k (omega (arith, up, from)) ∙ c.loop-key.invariant.same j (omega arith) short k from;
    }
