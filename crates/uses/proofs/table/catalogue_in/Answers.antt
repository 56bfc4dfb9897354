use Rattle.uses.proofs.table.catalogue_in.Goals as goal

pub returns-in-Catalogue-clause-uids : goal.returns-in-Catalogue-clause-uids
returns-in-Catalogue-clause-uids c =
    c.uids_are_conserved.ensures c.args.text.items c.in-Catalogue.catalogue (rw c.in-Catalogue.is at c.in_ok-catalogue.ensures)
