use Rattle.vic_collection.proofs.Words.{true, sym, ap, not, ◌∙◌}
use Rattle.std.specs.Option.{option_map}
use Rattle.vic_collection.specs.inner.Placed.{is_without_log_among}
use Rattle.vic_collection.proofs.items_without_log.is_without_log_among.Goals as goal

pub returns-in-Some : goal.returns-in-Some
returns-in-Some c = λ all known.
    ap not (c.contains.ensures ∙ known c.in-Some.place.now) ∙ ap (λ p. is_without_log_among true all (option_map (λ b. b.now) p)) (sym c.in-Some.is)
