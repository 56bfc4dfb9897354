use Rattle.std.proofs.Common.{◌∙◌, ap, sym}
use Rattle.vic_log.proofs.Cautious.{deaf_of_hidden, deaf_same}
use Rattle.vic_log.specs.Deaf.{deaf_entries}
use Rattle.vic_log.specs.Order.{entries}
use Rattle.vic_object.proofs.cautious.judged_readings.Goals as goal

pub returns-then-not-falls_silent : goal.returns-then-not-falls_silent
returns-then-not-falls_silent c =
    let lines = c.args.log.lines in
    let hidden = c.into_hidden-hidden_log in
    let told = c.in_ok-hidden.ensures lines c.requires in
    record {
      hidden = record { others = hidden.result.lines; entries_are = hidden.ensures.items; numbers_are = hidden.ensures.same; told = told };
      deaf = record { others = hidden.result.lines; entries_are = hidden.ensures.items ∙ sym (deaf_same (entries lines) (sym c.ends_silent-falls_silent.ensures ∙ c.if-not-falls_silent.true)); numbers_are = hidden.ensures.same; told = told };
    }

pub returns : goal.returns
returns c =
    let lines = c.args.log.lines in
    let hidden = c.into_hidden-hidden_log in
    let deaf = c.into_deaf in
    record {
      hidden = record { others = hidden.result.lines; entries_are = hidden.ensures.items; numbers_are = hidden.ensures.same; told = c.in_ok-hidden.ensures lines c.requires };
      deaf = record {
        others = deaf.result.lines;
        entries_are = deaf.ensures.items ∙ ap deaf_entries hidden.ensures.items ∙ deaf_of_hidden (entries lines);
        numbers_are = deaf.ensures.same ∙ hidden.ensures.same;
        told = c.in_ok-deaf.ensures lines c.requires;
      };
    }
