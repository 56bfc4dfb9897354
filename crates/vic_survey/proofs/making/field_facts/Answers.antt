use Rattle.vic_survey.proofs.ValueWords.{◌≡◌, sym, subst, true, ℕ, ◌≤◌, All, has}
use Rattle.vic_log.specs.Order.{entries}
use Rattle.vic_tree.specs.Ranges.{is_open_in}
use Rattle.vic_verdict.specs.Possible.{IsCertainUid}
use Rattle.vic_report.specs.Findings.{IsShownCertain}
use Rattle.vic_margin.specs.Margins.{IsWeakestBesides}
use Rattle.vic_log.specs.Log.{IsLog}
use Rattle.vic_survey.specs.Parts.{AreRisingUids}
use Rattle.vic_survey.specs.declared.survey.TheConstants.{MAX_COUNT}
use Rattle.vic_survey.proofs.Made.{certain_listed, certain_told, opened_short, facts_made}
use Rattle.vic_survey.proofs.Ranges.{certain_valid, few_answers_of, small_margin}
use Rattle.vic_survey.proofs.making.field_facts.Goals as goal

pub lines_of_certain-requires-clause-certain : goal.lines_of_certain-requires-clause-certain
lines_of_certain-requires-clause-certain c =
    subst (λ ls. (u : ℕ) → has c.args.facts.certain u ≡ true → IsCertainUid (entries ls) u) (sym c.lines.ensures.value)
    (certain_told (entries c.args.log.lines) (is_open_in c.args.facts.«open») c.args.facts.met c.args.facts.certain c.requires.facts)

pub returns-clause-told : goal.returns-clause-told
returns-clause-told c =
    facts_made c.args.log.lines (is_open_in c.args.facts.«open») c.args.facts.met c.args.facts.certain c.in_ok-shown.shown.items _ c.requires.facts
    c.in_ok-shown.ensures.uids (subst (λ ls. All (IsShownCertain ls) c.in_ok-shown.shown.items) c.lines.ensures.value c.in_ok-shown.ensures.shown)
    c.of-certain.ensures c.in_ok-open.ensures c.answers-answers.ensures.value
    (subst (λ us. IsWeakestBesides (entries c.args.log.lines) us c.in_ok-margin.field-0) c.as_slice.ensures.value c.in_ok-margin.ensures)
    c.in_ok-hidden.ensures.hidden c.in_ok-hidden.ensures.deaf

pub of-certain-requires : goal.of-certain-requires
of-certain-requires c =
    certain_valid c.args.log.version c.args.log.lines c.args.facts.certain c.in_ok-shown.shown.items (subst (IsLog c.args.log.version) c.lines.ensures.value c.lines.ensures.log) c.requires.facts.told.possible
    (certain_listed (entries c.args.log.lines) (is_open_in c.args.facts.«open») c.args.facts.met c.args.facts.certain c.requires.facts) c.in_ok-shown.ensures.uids (subst (λ ls. All (IsShownCertain ls) c.in_ok-shown.shown.items) c.lines.ensures.value c.in_ok-shown.ensures.shown)

pub returns-clause-valid : goal.returns-clause-valid
returns-clause-valid c =
    let log = subst (IsLog c.args.log.version) c.lines.ensures.value c.lines.ensures.log in
    record {
      answers = subst (λ n. n ≤ MAX_COUNT) (sym c.answers-answers.ensures.value) (few_answers_of c.args.log.version c.args.log.lines log);
      certain = subst AreRisingUids c.certain.view_is c.certain.invariant;
      masks = c.as_slice-masks.ensures.masks;
      margin = small_margin c.args.log.version c.args.log.lines _ c.in_ok-margin.field-0 log c.in_ok-margin.ensures;
      weakest = (c.in_ok-margin.ensures.mask.0.short, c.in_ok-margin.ensures.mask.0.fits);
      hidden = opened_short _ _ c.in_ok-hidden.field-0.hidden c.in_ok-hidden.ensures.hidden;
      deaf = opened_short _ _ c.in_ok-hidden.field-0.deaf c.in_ok-hidden.ensures.deaf;
    }
