use Rattle.std.proofs.Common.{List, ℕ}
use Rattle.std.proofs.lemmas.Result.{IfOk-weaker}
use Rattle.vic_log.specs.Order.{entries, listed}
use Rattle.vic_tree.specs.Keys.{AreKeysOf}
use Rattle.vic_margin.proofs.Telling.{keys_listed}
use Rattle.vic_margin.specs.Margins.{IsWeakest, IsWeakestBesides}
use Rattle.vic_object.proofs.cautious.weakest_by_parts.Goals as goal

pub returns-clause-weakest : goal.returns-clause-weakest
returns-clause-weakest c =
    let es = entries c.args.log.now.lines in
    let keys = c.in_ok-keys.keys in
    let named : AreKeysOf keys (listed es) = keys_listed es keys _ _ c.in_ok-keys.ensures c.as_slice.ensures.value (rw c.lines.ensures.value at c.in_ok-listed.ensures.members) in
    IfOk-weaker c.weakest_by_keys.result (λ r. (us : List ℕ) → AreKeysOf keys us → IsWeakestBesides es us r.0) (λ r. IsWeakest es r.0) (λ r h. h (listed es) named) c.weakest_by_keys.ensures.weakest
