use Rattle.vic_tree.proofs.Words.{◌≡◌, ◌∙◌, suc, ◌∷◌, inl, inr, sym, arith, cases_lt}
use Rattle.vic_tree.proofs.RunLaws.{is_behind, is_first}
use Rattle.vic_tree.proofs.sorted_keys.KeysAhead.first_free.Goals as goal

pub loop-key-preserved : goal.loop-key-preserved
loop-key-preserved c =
    let key = c.in-Some.key.now in
    let others = c.in-Some.others.now in
    let inv = c.loop-key.invariant in
    let is : c.loop-key.self-inside.keys.now ≡ key ∷ others = c.in-Some.ensures.cases.0 in
    let keys = rw is at inv.keys in
    let order = rw is at inv.order in
    let same = rw is at inv.same in
    record {
      from = omega arith;
      before = λ k low lt. elim (cases_lt k c.loop-key.free) [
        | inl below ↦ inv.before k low below
        | inr le ↦ sym (same k le) ∙ is_first key k others (omega arith)
      ];
      same = λ k le. sym (is_behind key k others (omega arith)) ∙ same k (omega arith);
      keys = λ k d lt. keys (suc k) d (omega arith);
      order = λ i j d le lt. order (suc i) (suc j) d (omega arith) (omega arith);
    }
