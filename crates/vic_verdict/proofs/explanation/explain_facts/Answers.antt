use Rattle.vic_verdict.proofs.Words.{subst, ⊎_elim, IsVerdict}
use Rattle.vic_verdict.proofs.Explaining.{known_shown, unsettled_shown, doubtful_shown}
use Rattle.vic_verdict.proofs.explanation.explain_facts.Goals as goal
use Rattle.vic_verdict.proofs.explanation.explain_facts.Goals.{in-Impossible, in-Absent+in_ok-choose-in-Absent, in-Unsettled+in_ok-push-in-Unsettled+in_ok-choose-in-Unsettled, in-Doubtful+in_ok-choose-in-Doubtful}

pub returns : goal.returns
returns g c =
    let lines = c.args.log.now.lines in
    let verdict = c.in_ok-verdict.ensures in
    let met = c.requires.is_met in
    elim c.match-verdict.branch [
      | in-Impossible w ↦ rw (w.verdict-is, w.population-is) record { verdict = verdict; population = ⊎_elim (λ h. rw h.1 tt) (λ h. rw h.1 tt) w.in-Impossible.is }
      | in-Absent+in_ok-choose-in-Absent w ↦
          let given = w.in_ok-choose-in-Absent.ensures in
          rw (w.verdict-is, w.population-is) record { verdict = verdict; population = known_shown lines _ _ _ verdict w.in-Absent.is met given.rising given.members }
      | in-Unsettled+in_ok-push-in-Unsettled+in_ok-choose-in-Unsettled w ↦
          let given = w.in_ok-choose-in-Unsettled.ensures in
          let here = subst (IsVerdict lines) w.in-Unsettled.is verdict in
          rw (w.verdict-is, w.population-is) record {
            verdict = here;
            population = unsettled_shown lines _ _ _ _ _ here met w.least_uid.ensures.value w.in_ok-push-in-Unsettled.ensures.items given.rising given.members;
          }
      | in-Doubtful+in_ok-choose-in-Doubtful w ↦
          let given = w.in_ok-choose-in-Doubtful.ensures in
          let here = subst (IsVerdict lines) w.in-Doubtful.is verdict in
          rw (w.verdict-is, w.population-is) record { verdict = here; population = doubtful_shown lines _ _ _ here met given.rising given.members }
    ]
