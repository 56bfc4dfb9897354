use Rattle.vic_field.proofs.Words.{◌≡◌, ◌<◌, length, get_or, sym, ◌∙◌, arith, ⊎_elim, eq-eqb, ne_eqb, le-ltb, cases_eq, get_or_default}
use Rattle.vic_field.proofs.RowLaws.{key_there, key_lacks}
use Rattle.vic_field.proofs.row.Row.holds.Goals as goal

pub returns-then-position-len : goal.returns-then-position-len
returns-then-position-len c =
    let ks = c.args.self.now.keys.items in
    let q = c.number-key.result in
    let position = c.position_of-position.result in
    let key = c.index.result.now in
    let lt : position < length ks = omega (arith, c.args.self.now.keys.ok.0) in
    let here : get_or ks position 0 ≡ key = get_or_default ks position 0 key lt ∙ sym c.index.ensures in
    rw (← c.number-key.ensures.value) (⊎_elim
    (λ same. eq-eqb key q same ∙ sym (key_there ks q position lt (here ∙ same)))
    (λ other. ne_eqb key q other ∙ sym (key_lacks ks q position c.args.self.now.rising.rising c.position_of-position.ensures (λ h e. other (sym here ∙ e))))
    (cases_eq key q))

pub returns-else-position-len : goal.returns-else-position-len
returns-else-position-len c =
    let ks = c.args.self.now.keys.items in
    let position = c.position_of-position.result in
    rw (← c.number-key.ensures.value) (le-ltb position c.len.result c.if-position-len.false ∙ sym (key_lacks ks c.number-key.result position c.args.self.now.rising.rising c.position_of-position.ensures (λ h e. omega (arith, h, c.if-position-len.false, c.args.self.now.keys.ok.0))))
