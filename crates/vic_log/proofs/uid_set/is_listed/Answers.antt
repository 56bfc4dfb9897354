use Rattle.vic_log.proofs.Words.{◌≡◌, Some, false, [], ◌∷◌, take, length, refl, sym, ap, ◌∙◌, add-one, slice_get, nat_eq, arith, common_steps, slice_get_read, list_any-append, has, entries, listed}
use Rattle.vic_log.proofs.UidSets.{has_at_line, listed_next}
use Rattle.vic_log.proofs.uid_set.is_listed.Goals as goal

pub returns-then-lists : goal.returns-then-lists
returns-then-lists c = grind (arith, common_steps, slice_get_read, has_at_line)

pub loop-line-preserved : goal.loop-line-preserved
loop-line-preserved c =
    let lines = c.args.lines.now in
    let i = c.loop-line.line-index in
    let l = c.line-item.result in
    let at : slice_get lines i ≡ Some l = slice_get_read lines (length lines) i l refl c.loop-line-test.true c.line-item.is in
    let here : has (listed (l.item ∷ [])) c.args.uid ≡ false = ap (λ e. has (listed (e ∷ [])) c.args.uid) (sym c.item.ensures) ∙ (sym c.lists.ensures ∙ c.if-lists.false) in
    rw add-one (ap (λ us. has us c.args.uid) (listed_next lines i l at) ∙ (list_any-append (nat_eq c.args.uid) (listed (entries (take i lines))) (listed (l.item ∷ [])) ∙ rw (c.loop-line.invariant, here) refl))
