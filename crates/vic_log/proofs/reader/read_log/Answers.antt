use Rattle.vic_log.proofs.Words.{rules, List, [], ℕ, arith, common_steps, err_from_is_err_and, LogFault, IsEarly, Refuses}
use Rattle.vic_log.proofs.reader.read_log.Goals as goal

early_refuses : (e : LogFault) (text : List ℕ) → IsEarly e text → Refuses text e
early_refuses e text h = grind (arith, common_steps)

pub returns-in_err-feed : goal.returns-in_err-feed
returns-in_err-feed c =
    let p = err_from_is_err_and c.from_residual.result c.from_residual.ensures.1 in
    rw (p.1, p.2) (early_refuses _ _ (c.in_err-feed.ensures.early [] (search rules)))
