use Rattle.vic_field.proofs.Words.{◌≡◌, ◌<◌, length, get_or, sym, ◌∙◌, arith, get_or_default}
use Rattle.vic_field.proofs.RowLaws.{lacks, silenced, with_quiet_none}
use Rattle.vic_field.proofs.row.Row.silence.Goals as goal
use Rattle.vic_field.proofs.row.Row.silence.Goals.{else-position-len-via-then-position-len+else-index-key, else-position-len-via-else-position-len}

pub returns-then-index-key : goal.returns-then-index-key
returns-then-index-key c =
    let row = c.args.self.now in
    let ks = row.keys.items in
    let position = c.position_of-position.result in
    let lt : position < length ks = omega (arith, row.keys.ok.0) in
    let here : get_or ks position 0 ≡ c.number-key.result = get_or_default ks position 0 _ lt ∙ sym c.index.ensures ∙ c.if-index-key.true in
    rw (← c.number-key.ensures.value) (silenced row c.add.new.self c.number-key.result position lt here c.add.ensures.added)

pub returns-else-position-len : goal.returns-else-position-len
returns-else-position-len c =
    let row = c.args.self.now in
    let ks = row.keys.items in
    let position = c.position_of-position.result in
    rw (← c.number-key.ensures.value) (with_quiet_none row c.number-key.result (lacks ks c.number-key.result position c.args.self.now.rising.rising c.position_of-position.ensures (λ h e. elim c.else-position-len.branch [
      | else-position-len-via-then-position-len+else-index-key w ↦ w.if-index-key.false (w.index.ensures ∙ get_or_default ks position _ 0 h ∙ e)
      | else-position-len-via-else-position-len w ↦ absurd (omega (arith, h, w.if-position-len.false, row.keys.ok.0))
    ])))
