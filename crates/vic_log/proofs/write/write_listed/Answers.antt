use Rattle.vic_log.proofs.Words.{ap, rules, Some, [], ◌∷◌, ◌++◌, refl, arith, Listed, lf, entry_text, listed_text}
use Rattle.vic_log.proofs.Told.{line_next, none_left, waits_none, waits_more}
use Rattle.vic_log.proofs.write.write_listed.Goals as goal

pub loop-uid-init : goal.loop-uid-init
loop-uid-init g c =
    let whole = ap (λ xs. xs ++ listed_text c.args.uids.now) c.beginning-piece.ensures in
    record { untouched = λ _. refl; told = waits_none _ _ _ _ whole; written = waits_none _ _ _ _ whole }

pub loop-uid-preserved : goal.loop-uid-preserved
loop-uid-preserved g c =
    let us = c.args.uids.now in
    let next = line_next (λ w. entry_text (Listed w)) listed_text (λ w ws. refl) us c.loop-uid.uid-index c.uid-item.result c.loop-uid-test.true c.uid-item.is in
    record {
      untouched = search rules;
      told = waits_more _ _ _ _ _ (entry_text (Listed c.uid-item.result) ++ lf ∷ []) _ _ _ c.loop-uid.invariant.told c.in_ok-put_entry.ensures.told next;
      written = waits_more _ _ _ _ _ (entry_text (Listed c.uid-item.result) ++ lf ∷ []) _ _ _ c.loop-uid.invariant.written c.in_ok-put_entry.ensures.written next;
    }

pub returns-clause-all : goal.returns-clause-all
returns-clause-all g c = c.loop-uid.invariant.told.all (none_left listed_text c.args.uids.now c.loop-uid.uid-index refl (omega arith)) _ c.in_ok-write_last.ensures.all

pub returns-clause-written : goal.returns-clause-written
returns-clause-written g c = c.loop-uid.invariant.written.all (none_left listed_text c.args.uids.now c.loop-uid.uid-index refl (omega arith)) (Some _) c.in_ok-write_last.ensures.written
