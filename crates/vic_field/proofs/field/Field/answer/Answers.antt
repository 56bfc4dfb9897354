use Rattle.vic_field.proofs.Words.{◌≡◌, ℕ, Bool, List, Row, tags_of, ◌∙◌, ◌&&◌, ap, sym, subst, nat_le, IsUid, mirror, lies_in, IsPopulation, uids, uid_of, is_uid, mirror_of_uid, ready_in, heard}
use Rattle.vic_frame.specs.KeyBlocks.{is_in_some_block}
use Rattle.vic_field.specs.Rows.{entries}
use Rattle.vic_field.proofs.Keys.{population_of}
use Rattle.vic_field.proofs.RowLaws.{keys_are}
use Rattle.vic_field.proofs.TagLaws.{ready_by_key, none_ready}
use Rattle.vic_field.proofs.field.Field.answer.Goals as goal

population : (row : Row) (tags : List (ℕ × Bool)) → tags_of (entries row) ≡ tags → IsPopulation (uids tags)
population row tags is = let keys = keys_are row in subst (λ (ts : List (ℕ × Bool)). IsPopulation (uids ts)) is (population_of (entries row) keys.small keys.rising)

pub returns-in_default-clause-heard : goal.returns-in_default-clause-heard
returns-in_default-clause-heard c =
    ap heard (sym (none_ready c.args.mask.now (λ u is. c.of.ensures u is ∙ ap (λ o. is_in_some_block o (mirror u)) c.in_default.is) (entries c.self.inside.row))) ∙ ap (λ (ts : List (ℕ × Bool)). heard (ready_in c.args.mask.now ts)) c.self.view_is

pub returns-clause-heard : goal.returns-clause-heard
returns-clause-heard c =
    let row = c.self.inside.row in
    let m = c.args.mask.now in
    let a = c.number.result in
    let b = c.number-2.result in
    let inside : (u : ℕ) → IsUid u → lies_in m u ≡ (nat_le a (mirror u) && nat_le (mirror u) b) = λ u is.
    rw (c.number.ensures.value, c.number-2.ensures.value, c.last.ensures) (c.of.ensures u is ∙ ap (λ o. is_in_some_block o (mirror u)) c.in-Some.is) in
    c.hear.ensures
    ∙ ap heard (ready_by_key m a b (entries row) (λ k small. inside (uid_of k) (is_uid k) ∙ ap (λ (x : ℕ). nat_le a x && nat_le x b) (mirror_of_uid k small)) (keys_are row).small)
    ∙ ap (λ (ts : List (ℕ × Bool)). heard (ready_in m ts)) c.self.view_is

pub returns-in_default-clause-population : goal.returns-in_default-clause-population
returns-in_default-clause-population c = population c.self.inside.row c.args.self.now c.self.view_is

pub returns-clause-population : goal.returns-clause-population
returns-clause-population c = population c.self.inside.row c.args.self.now c.self.view_is
