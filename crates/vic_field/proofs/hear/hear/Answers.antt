use Rattle.vic_field.proofs.Words.{◌+◌, ◌∷◌, ◌≡◌, get_or, ap, sym, subst, ◌∙◌, arith, get_or_default, IsKey, uid_of, heard}
use Rattle.vic_field.specs.declared.outcome.Outcome.TheVariants.{Lone}
use Rattle.vic_field.proofs.RowLaws.{hears_from, hears_next, hears_none}
use Rattle.vic_field.proofs.hear.hear.Goals as goal

pub returns-in_default : goal.returns-in_default
returns-in_default c =
    let row = c.args.row.now in
    let from = c.position_of.result in
    ap heard (sym (hears_from row c.args.first c.args.last from c.position_of.ensures ∙ hears_none row c.args.first c.args.last from (c.next_ready.ensures.none c.in_default.is)))

pub uid_at-requires : goal.uid_at-requires
uid_at-requires c =
    let ks = c.args.row.now.keys.items in
    let there = c.in-Some.ensures.some.there in
    subst IsKey (sym (c.index.ensures ∙ get_or_default ks c.in-Some.one _ 0 there)) (c.args.row.now.rising.small c.in-Some.one 0 there)

pub returns-in-Some-next_ready : goal.returns-in-Some-next_ready
returns-in-Some-next_ready c =
    let row = c.args.row.now in
    let one = c.in-Some.one in
    let p = c.in-Some.ensures.some in
    let q = c.in-Some-next_ready.ensures.some in
    let above = c.position_of.ensures.above in
    sym (ap heard (hears_from row c.args.first c.args.last c.position_of.result c.position_of.ensures
    ∙ hears_next row c.args.first c.args.last c.position_of.result one p (above one p.low p.there)
    ∙ ap (λ us. uid_of (get_or row.keys.items one 0) ∷ us) (hears_next row c.args.first c.args.last (one + 1) _ q (above _ (let low = p.low in let more = q.low in omega arith) q.there))))

pub returns-in-None : goal.returns-in-None
returns-in-None c =
    let row = c.args.row.now in
    let ks = row.keys.items in
    let one = c.in-Some.one in
    let p = c.in-Some.ensures.some in
    let here : uid_of (get_or ks one 0) ≡ c.uid_at.result = ap uid_of (get_or_default ks one 0 _ p.there ∙ sym c.index.ensures) ∙ sym c.uid_at.ensures.value in
    sym (ap heard (hears_from row c.args.first c.args.last c.position_of.result c.position_of.ensures
    ∙ hears_next row c.args.first c.args.last c.position_of.result one p (c.position_of.ensures.above one p.low p.there)
    ∙ ap (λ us. uid_of (get_or ks one 0) ∷ us) (hears_none row c.args.first c.args.last (one + 1) (c.next_ready-2.ensures.none c.in-None.is)))
    ∙ ap Lone here)
