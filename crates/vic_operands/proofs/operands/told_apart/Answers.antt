use Rattle.std.proofs.Common.{◌∙◌, inr, refl, sym}
use Rattle.vic_operands.proofs.GatheringLaws.{asked_where, unasked_both}
use Rattle.vic_operands.proofs.operands.told_apart.Goals as goal

pub returns-then-unasked : goal.returns-then-unasked
returns-then-unasked c files named t name unlike is =
    let both = unasked_both c.args.collection.rows c.args.collection.catalogue.columns.place (sym is ∙ c.if-unasked.true) in (
      named,
      inr (record {
        collection = c.args.collection;
        together = t;
        why = inr (record { unlike = unlike; given = both.0; unasked = both.1; name = name; line = refl; fault = refl });
      }),
    )

pub returns-else-unasked : goal.returns-else-unasked
returns-else-unasked c files named t name unlike is =
    let asked = asked_where c.args.collection.rows c.args.collection.catalogue.columns.place (sym is ∙ c.if-unasked.false) in
    (named, record { together = t; unlike = unlike; asked = asked })
