use Rattle.std.proofs.Common.{◌≡◌, ◌∙◌, ◌++◌, ◌∷◌, [], List, Some, true, add-one, ap, length, refl, slice_get, sym, take}
use Rattle.std.proofs.lemmas.List.Elements.{All-more}
use Rattle.std.proofs.lemmas.Option.{slice_get_read}
use Rattle.vic_log.proofs.Push.{entries_next, listed-append}
use Rattle.vic_log.specs.Order.{entries, listed}
use Rattle.vic_log.specs.declared.entry.Entry.{Entry}
use Rattle.vic_log.specs.declared.entry.LogLine.{LogLine}
use Rattle.vic_operands.specs.Lists.{is_listed}
use Rattle.vic_operands.proofs.list.uids_of.Goals as goal

pub loop-line-preserved : goal.loop-line-preserved
loop-line-preserved c =
    let lines = c.args.lines.now in
    let i = c.loop-line.line-index in
    let l = c.line-item.result in
    let at : slice_get lines i ≡ Some l = slice_get_read lines (length lines) i l refl c.loop-line-test.true c.line-item.is in
    let is : is_listed l.item ≡ true = ap is_listed (sym c.item.ensures) ∙ sym c.in_ok-push_listed.ensures.is ∙ c.if-not-branch.false in
    let more : c.push_listed.new.uids.items ≡ listed (entries (take i lines)) ++ listed (l.item ∷ []) =
    c.in_ok-push_listed.ensures.more ∙ (ap (λ us. us ++ listed (c.item.result ∷ [])) c.loop-line.invariant.uids ∙ ap (λ (e : Entry). listed (entries (take i lines)) ++ listed (e ∷ [])) c.item.ensures) in
    record {
      alone = All-more (λ (x : LogLine). is_listed x.item ≡ true) lines i l c.loop-line-test.true c.loop-line.invariant.alone (ap (λ (x : LogLine). is_listed x.item) (sym c.line-item.is) ∙ is);
      uids = rw add-one (more ∙ (sym (listed-append (entries (take i lines)) (l.item ∷ [])) ∙ ap (λ (es : List Entry). listed es) (sym (entries_next lines i l at))));
    }
