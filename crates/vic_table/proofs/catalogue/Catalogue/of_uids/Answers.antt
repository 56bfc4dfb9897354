use Rattle.vic_table.proofs.Words.{◌≡◌, ◌∙◌, All, ap, arith, map, subst, sym, take, take_all}
use Rattle.std.proofs.lemmas.Grind.{common_steps}
use Rattle.vic_table.proofs.Listing.{is_list, listed_within}
use Rattle.vic_table.proofs.catalogue.Catalogue.of_uids.Goals as goal
use Rattle.vic_table.specs.Values.{CatalogueValue}
use Rattle.vic_table.specs.inner.Kept.{IsWithinText, listed_at}

pub loop-uid-preserved : goal.loop-uid-preserved
loop-uid-preserved c = grind (arith, common_steps)

pub new-requires-2-clause-within : goal.new-requires-2-clause-within
new-requires-2-clause-within c =
    let all : All (IsWithinText 0) c.loop-uid.items = subst (All (IsWithinText 0)) (sym c.loop-uid.invariant) (listed_within (take c.loop-uid.uid-index c.args.uids.now)) in
    rw c.new.ensures.items all

pub returns-clause-listed : goal.returns-clause-listed
returns-clause-listed c =
    let all : take c.loop-uid.uid-index c.args.uids.now ≡ c.args.uids.now = take_all _ _ (omega arith) in
    is_list c.new-2.result c.loop-uid.items c.new.result.items c.args.uids.now (ap (λ (k : CatalogueValue). k.columns.place) c.new-2.ensures)
    (ap (λ (k : CatalogueValue). k.items) c.new-2.ensures) (c.loop-uid.invariant ∙ ap (map listed_at) all)
