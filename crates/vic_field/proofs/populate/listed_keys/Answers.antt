use Rattle.vic_field.proofs.Words.{◌≡◌, ℕ, List, Some, length, take, [], ◌∷◌, refl, sym, ap, ◌∙◌, subst, add-one, slice_get, slice_get_read, Entry, entries, listed, entries_next, listed-append, AreKeysOfEach}
use Rattle.vic_field.proofs.populate.listed_keys.Goals as goal

pub loop-line-preserved : goal.loop-line-preserved
loop-line-preserved c =
    let lines = c.args.lines.now in
    let i = c.loop-line.line-index in
    let l = c.line-item.result in
    let at : slice_get lines i ≡ Some l = slice_get_read lines (length lines) i l refl c.loop-line-test.true c.line-item.is in
    rw add-one
    (subst (λ (us : List ℕ). AreKeysOfEach us c.push_listed.new.keys.items)
    (sym (listed-append (entries (take i lines)) (l.item ∷ [])) ∙ ap (λ (es : List Entry). listed es) (sym (entries_next lines i l at)))
    (rw (sym c.item.ensures) (c.in_ok-push_listed.ensures (listed (entries (take i lines))) c.loop-line.invariant)))
