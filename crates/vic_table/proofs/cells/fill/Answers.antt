use Rattle.std.proofs.lemmas.List.{drop_more}
use Rattle.vic_table.proofs.Words.{◌+◌, drop}
use Rattle.vic_table.proofs.Splitting.{split_begin, split_skips, split_keeps, split_ends, split_wrong, split_within}
use Rattle.vic_table.proofs.cells.fill.Goals as goal
use Rattle.vic_table.proofs.cells.fill.Goals.{in-Skips, in-Keeps+in_ok-push-in-Keeps, in-Ends+in_ok-push-in-Ends}

pub loop-byte-init : goal.loop-byte-init
loop-byte-init c = split_begin c.args.separator c.args.line.now c.args.bytes.now.items c.args.spans.now.items c.requires.no_bytes c.requires.no_spans

pub returns-in-Wrong-clause-cells : goal.returns-in-Wrong-clause-cells
returns-in-Wrong-clause-cells c =
    let line = c.args.line.now in
    let i = c.loop-byte.byte-index in
    split_wrong c.loop-byte.invariant _ (drop (i + 1) line) c.step_of.result (drop_more line i 0 c.loop-byte-test.true) (c.step_of.ensures (drop (i + 1) line)) c.in-Wrong.is

pub loop-byte-preserved : goal.loop-byte-preserved
loop-byte-preserved c =
    let line = c.args.line.now in
    let i = c.loop-byte.byte-index in
    let more = drop (i + 1) line in
    let here = drop_more line i 0 c.loop-byte-test.true in
    let steps = c.step_of.ensures more in
    let s = c.loop-byte.invariant in
    elim c.match-step_of.branch [
      | in-Skips w ↦ rw (w.bytes-is, w.spans-is, w.start-is, w.spot-is) (split_skips s _ more c.step_of.result here steps w.in-Skips.next w.in-Skips.is)
      | in-Keeps+in_ok-push-in-Keeps w ↦ rw (w.bytes-is, w.spans-is, w.start-is, w.spot-is) (rw w.in_ok-push-in-Keeps.ensures.items (split_keeps s _ more c.step_of.result here steps w.in-Keeps.next w.in-Keeps.is))
      | in-Ends+in_ok-push-in-Ends w ↦ rw (w.bytes-is, w.spans-is, w.start-is, w.spot-is) (rw (w.in_ok-push-in-Ends.ensures.items, w.len-end.ensures, c.loop-byte.bytes.ok.0) (split_ends s _ more c.step_of.result here steps w.in-Ends.is))
    ]

pub returns-clause-within : goal.returns-clause-within
returns-clause-within c = rw (c.in_ok-push.ensures.items, c.len-end-2.ensures, c.loop-byte.bytes.ok.0) (split_within c.loop-byte.invariant)
