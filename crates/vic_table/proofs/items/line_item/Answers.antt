use Rattle.vic_table.proofs.Words.{◌≡◌, add-one, length, sym, subst, ◌∙◌, arith}
use Rattle.vic_table.specs.inner.Kept.{IsWithinText, item_at}
use Rattle.vic_table.specs.declared.item_list.Item.{Item}
use Rattle.vic_table.proofs.Rows.{row_refused, row_taken}
use Rattle.vic_table.proofs.items.line_item.Goals as goal

pub returns-in-Ok-clause-taken : goal.returns-in-Ok-clause-taken
returns-in-Ok-clause-taken c = λ given h.
    let split = rw (c.if-not-branch.false, c.byte.ensures) at c.in_ok-split.ensures in
    let r = rw add-one at (c.in-Ok.ensures.taken given h) in
    row_taken c.args.columns.now given _ c.args.before c.split.new.self split (sym c.is_blank_line.ensures ∙ c.if-is_blank_line.false) (sym c.bytes_fault.ensures ∙ c.in_default.is)
    c.args.text.now c.row_item.new.uids c.in-Ok.item r.0 (r.1 c.args.text.now) r.2

pub returns-in-Ok-clause-within : goal.returns-in-Ok-clause-within
returns-in-Ok-clause-within c = λ x e.
    let there = c.in-Ok.ensures.there in
    let same : c.in-Ok.item ≡ x = cc in
    subst (λ (i : Item). IsWithinText (length c.args.text.now) (item_at i)) same (record { low = omega (arith, there.0, there.1, c.requires.order); high = omega (arith, there.1, c.requires.bound) })

pub returns-in-Err-clause-taken : goal.returns-in-Err-clause-taken
returns-in-Err-clause-taken c = λ given h.
    let split = rw (c.if-not-branch.false, c.byte.ensures) at c.in_ok-split.ensures in
    let r = rw add-one at (c.in-Err.ensures.taken given h) in
    row_refused c.args.columns.now given _ c.args.before c.split.new.self split (sym c.is_blank_line.ensures ∙ c.if-is_blank_line.false) (sym c.bytes_fault.ensures ∙ c.in_default.is) c.in-Err.fault r
