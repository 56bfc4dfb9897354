use Rattle.vic_report.proofs.Words.{Some, first_lines, rising_long, ap, sym, subst, length, refl, arith, ◌∙◌, slice_get_read, has, Entry, entries, CouldHaveGiven, Fits, answerers_at, is_quiet, entry_at}
use Rattle.vic_report.proofs.KeptLogs.{none_numbered}
use Rattle.vic_report.proofs.kept_log.KeptLog.of.Goals as goal

pub invariant_of-kept : goal.invariant_of-kept
invariant_of-kept c = rw c.new.ensures.items none_numbered

pub loop-line-init : goal.loop-line-init
loop-line-init c =
    let none = ap entries c.new.ensures.items in
    record {
      round = c.first-cursor.ensures (entries c.lines-lines.result.now);
      limit = rw none (omega arith);
      quiet = λ u. ap (λ es. is_quiet es (length es) u) none;
      given = λ p fits. subst (CouldHaveGiven p) (sym none) (λ i e k. cc);
    }

pub pass-requires : goal.pass-requires
pass-requires c =
    let log = c.lines-lines.ensures.log in
    omega (arith, rising_long 1 c.lines-lines.result.now log.rising, log.limit, c.loop-line.invariant.limit, c.loop-line-test.true)

pub loop-line-preserved : goal.loop-line-preserved
loop-line-preserved c =
    let lines = c.lines-lines.result.now in
    let es = entries lines in
    let log = first_lines _ _ c.lines-lines.ensures.log in
    let i = c.loop-line.line-index in
    let l = c.line-item.result in
    let before = c.loop-line.invariant in
    let here = entry_at lines i l c.loop-line-test.true c.line-item.is ∙ ap (λ (e : Entry). Some e) (sym c.item-entry.ensures) in
    let more = c.in_ok-pass.ensures in
    let kept = more.kept es i here (c.mask-mask.ensures es i log.valid before.round) in
    record {
      round = c.advance.ensures es i log.order here before.round;
      limit = let h = more.limit in let b = before.limit in omega arith;
      quiet = kept.quiet before.quiet;
      given = λ p fits. kept.given p before.quiet (λ yes.
          subst (λ e. Fits e (answerers_at es i p)) (sym c.item-entry.ensures)
          (fits i l (slice_get_read lines (length lines) i l refl c.loop-line-test.true c.line-item.is) (ap (has c.args.numbers.now) (sym c.number-number.ensures) ∙ (sym c.has-is_kept.ensures ∙ yes)))) (before.given p fits);
    }

pub returns : goal.returns
returns c p = rw (← c.lines-lines.ensures.value) (c.loop-line.invariant.given p)
