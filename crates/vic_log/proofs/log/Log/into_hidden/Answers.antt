use Rattle.vic_log.proofs.Words.{◌≡◌, ◌∙◌, ap, sym, subst, length, List, take, drop, ◌++◌, LogLine, IsIndex, entries, AreTyped}
use Rattle.vic_log.specs.Order.{numbers}
use Rattle.vic_log.specs.Deaf.{hidden_entries}
use Rattle.vic_log.specs.Weaker.{AreWeaker}
use Rattle.vic_log.proofs.Weaker.{weaker_listed}
use Rattle.vic_log.proofs.Cautious.{Keeps-weaker, typed_hidden, hidden_weaker, written_back}
use Rattle.vic_log.proofs.log.Log.into_hidden.Goals as goal

pub invariant_of-log : goal.invariant_of-log
invariant_of-log c =
    let old = c.log.inside in
    let xs : List LogLine = c.hide.new.lines in
    let ys : List LogLine = old.lines.items in
    let same : numbers xs ≡ numbers ys = c.hide.ensures.same ∙ ap numbers c.deref_mut.ensures.value in
    let items : entries xs ≡ hidden_entries (entries ys) = c.hide.ensures.items ∙ ap (λ ls. hidden_entries (entries ls)) c.deref_mut.ensures.value in
    let weaker : AreWeaker (entries xs) (entries ys) = subst (λ es. AreWeaker es (entries ys)) (sym items) (hidden_weaker (entries ys)) in
    let typed : AreTyped (entries xs) = subst AreTyped (sym items) (typed_hidden (entries ys) c.log.invariant.0.is_log.typed) in
    let back : take old.lines.len (xs ++ drop (length xs) ys) ≡ xs = written_back old.lines.len xs ys (sym c.deref_mut.ensures.len ∙ ap length c.deref_mut.ensures.value) same in
    rw back (Keeps-weaker old.version xs ys old.listing old.slots_left same weaker typed c.log.invariant.0, subst (λ us. IsIndex us old.greatest old.uids) (sym (weaker_listed _ _ weaker)) c.log.invariant.1)
