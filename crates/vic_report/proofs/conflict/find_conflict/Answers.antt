use Rattle.vic_report.proofs.Words.{ap, sym, subst, ◌∙◌, IsConflictAt}
use Rattle.vic_report.proofs.Conflicts.{quiet_reply_conflict, slots_conflict}
use Rattle.vic_report.proofs.conflict.find_conflict.Goals.{in-Some+in_ok-lines-in-Some, in-None+in_ok-guess-in-None+in-Some-2, in-None+in_ok-guess-in-None+in-None-2+in_ok-lines-in-None-2}
use Rattle.vic_report.proofs.conflict.find_conflict.Goals as goal

pub returns : goal.returns
returns c =
    let lines = c.args.log.now.lines in
    let line = c.args.line in
    record {
      line = c.requires;
      lines_unfit = elim c.match-silenced_by.branch [
        | in-Some+in_ok-lines-in-Some w ↦
            subst (IsConflictAt lines line) (sym (ap (λ v. v.items) w.lines-is ∙ w.in_ok-lines-in-Some.ensures.items))
            (quiet_reply_conflict lines line w.in-Some.field-0 w.in-Some.ensures)
        | in-None+in_ok-guess-in-None+in-Some-2 w ↦ subst (IsConflictAt lines line) (sym (ap (λ v. v.items) w.lines-is ∙ w.into_vec.ensures)) (rw w.in-Some-2.is at w.in_ok-guess-in-None.ensures)
        | in-None+in_ok-guess-in-None+in-None-2+in_ok-lines-in-None-2 w ↦
            let all = w.in_ok-lines-in-None-2.ensures in
            subst (λ v. IsConflictAt lines line v.items) (sym w.lines-is) (slots_conflict lines line _ all.log.rising c.requires all.numbers)
      ];
      silenced = c.silencer_of_line-silenced_by.ensures;
    }
