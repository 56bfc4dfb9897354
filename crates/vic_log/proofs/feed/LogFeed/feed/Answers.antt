use Rattle.vic_log.proofs.Words.{◌≡◌, ◌++◌, length, length-append, ap, subst, arith, HasTaken}
use Rattle.vic_log.proofs.Judged.{no-early}
use Rattle.vic_log.proofs.feed.LogFeed.feed.Goals as goal

pub returns-clause-waits : goal.returns-clause-waits
returns-clause-waits c text is =
    let old = c.self.inside.fed.bytes in
    let begun = c.take_piece.new.begun in
    let before = c.self.invariant c.if-self.false in
    let all : old ++ c.args.piece.now ≡ text = cc (is, c.note.ensures) in
    let now = subst (λ xs. HasTaken xs begun) all (c.in_ok-take_piece.ensures.ok old before.0) in
    let less = c.in_ok-take_piece.ensures.less in
    let within = before.1 in
    let size = length-append old c.args.piece.now in
    let same = ap length all in
    (λ n f early. no-early now n f early, omega arith)

pub invariant_of-self-2 : goal.invariant_of-self-2
invariant_of-self-2 c =
    let old = c.self.inside.fed.bytes in
    let before = c.self.invariant c.if-self.false in
    let less = c.in_ok-take_piece.ensures.less in
    let within = before.1 in
    let size = length-append old c.args.piece.now in
    λ _. rw c.note.ensures (c.in_ok-take_piece.ensures.ok old before.0, omega arith)
