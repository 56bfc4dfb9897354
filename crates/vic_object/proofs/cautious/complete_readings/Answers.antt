use Rattle.std.proofs.Common.{◌≡◌, ◌∙◌, List, ap, inl, inr, sym, subst}
use Rattle.vic_log.proofs.Cautious.{deaf_of_hidden, deaf_same, deaf_weaker_self, hidden_weaker}
use Rattle.vic_log.proofs.Weaker.{weaker_listed}
use Rattle.vic_log.specs.Deaf.{deaf_entries, hidden_entries}
use Rattle.vic_log.specs.Order.{entries, listed}
use Rattle.vic_log.specs.declared.entry.Entry.{Entry}
use Rattle.vic_tree.specs.Keys.{AreKeysOf}
use Rattle.vic_margin.proofs.Telling.{keys_listed}
use Rattle.vic_margin.specs.Margins.{IsWeakest}
use Rattle.vic_object.proofs.SameParts.{parts_deaf, parts_hidden}
use Rattle.vic_object.proofs.cautious.complete_readings.Goals as goal

pub weakest_by_keys-requires-clause-parts : goal.weakest_by_keys-requires-clause-parts
weakest_by_keys-requires-clause-parts c = rw c.into_hidden-hidden_log.ensures.items (parts_hidden (entries c.args.log.lines) c.args.log_parts c.requires.parts)

pub weakest_by_keys-requires-2-clause-parts : goal.weakest_by_keys-requires-2-clause-parts
weakest_by_keys-requires-2-clause-parts c = rw c.into_deaf.ensures.items (parts_deaf (entries c.into_hidden-hidden_log.result.lines) c.in_ok-weakest.log_parts c.in_ok-weakest.ensures.parts)

pub returns-then-not-falls_silent : goal.returns-then-not-falls_silent
returns-then-not-falls_silent c =
    let lines = c.args.log.lines in
    let es : List Entry = entries lines in
    let keys = c.in_ok-keys.keys in
    let named : AreKeysOf keys (listed es) = keys_listed es keys _ _ c.in_ok-keys.ensures c.as_slice.ensures.value (rw c.lines.ensures.value at c.in_ok-listed.ensures.members) in
    let hidden = c.into_hidden-hidden_log in
    let is : entries hidden.result.lines ≡ hidden_entries es = hidden.ensures.items in
    let margin : IsWeakest (entries hidden.result.lines) c.in_ok-weakest.weakest = c.in_ok-weakest.ensures.weakest _ (subst (AreKeysOf keys) (sym (ap listed is ∙ weaker_listed _ es (hidden_weaker es))) named) in
    let told = c.reading_by_margin-hidden.ensures lines hidden.result.lines (inl is) c.requires.verdict margin in
    record {
      hidden = record { others = hidden.result.lines; entries_are = is; numbers_are = hidden.ensures.same; told = told };
      deaf = record { others = hidden.result.lines; entries_are = is ∙ sym (deaf_same es (sym c.ends_silent-falls_silent.ensures ∙ c.if-not-falls_silent.true)); numbers_are = hidden.ensures.same; told = told };
    }

pub returns : goal.returns
returns c =
    let lines = c.args.log.lines in
    let es : List Entry = entries lines in
    let keys = c.in_ok-keys.keys in
    let named : AreKeysOf keys (listed es) = keys_listed es keys _ _ c.in_ok-keys.ensures c.as_slice.ensures.value (rw c.lines.ensures.value at c.in_ok-listed.ensures.members) in
    let hidden = c.into_hidden-hidden_log in
    let is : entries hidden.result.lines ≡ hidden_entries es = hidden.ensures.items in
    let margin : IsWeakest (entries hidden.result.lines) c.in_ok-weakest.weakest = c.in_ok-weakest.ensures.weakest _ (subst (AreKeysOf keys) (sym (ap listed is ∙ weaker_listed _ es (hidden_weaker es))) named) in
    let deaf = c.into_deaf in
    let deaf_is : entries deaf.result.lines ≡ deaf_entries es = deaf.ensures.items ∙ ap deaf_entries is ∙ deaf_of_hidden es in
    let deaf_margin : IsWeakest (entries deaf.result.lines) c.in_ok-weakest-2.weakest = c.in_ok-weakest-2.ensures.weakest _ (subst (AreKeysOf keys) (sym (ap listed deaf_is ∙ weaker_listed _ es (deaf_weaker_self es))) named) in
    record {
      hidden = record {
        others = hidden.result.lines;
        entries_are = is;
        numbers_are = hidden.ensures.same;
        told = c.reading_by_margin-hidden.ensures lines hidden.result.lines (inl is) c.requires.verdict margin;
      };
      deaf = record {
        others = deaf.result.lines;
        entries_are = deaf_is;
        numbers_are = deaf.ensures.same ∙ hidden.ensures.same;
        told = c.reading_by_margin-deaf.ensures lines deaf.result.lines (inr deaf_is) c.requires.verdict deaf_margin;
      };
    }
