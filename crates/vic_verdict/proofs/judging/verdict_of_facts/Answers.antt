use Rattle.vic_verdict.proofs.Words.{◌≡◌, ℕ, List, Option, sym, subst, MatchOption, ◌↔◌, slice_get, ◌∙◌, IsListOf, IsLeast, NoSuch}
use Rattle.vic_verdict.proofs.Differing.{findings_of}
use Rattle.vic_verdict.proofs.Failing.{first_is_least, list_as}
use Rattle.vic_verdict.proofs.KeyOrder.{outside_are}
use Rattle.vic_verdict.proofs.judging.verdict_of_facts.Goals as goal

-- the least of a rising list, by another mention of what it lists
least : (P Q : ℕ → Type 0) (xs : List ℕ) (r o : Option ℕ) → ((u : ℕ) → P u ↔ Q u) → IsListOf P xs → r ≡ slice_get xs 0 → r ≡ o → MatchOption o (NoSuch Q) (IsLeast Q)
least P Q xs r o same l is shown = subst (λ q. MatchOption q (NoSuch Q) (IsLeast Q)) (sym is ∙ shown) (first_is_least Q xs (list_as P Q xs same l))

pub returns-in-Some : goal.returns-in-Some
returns-in-Some g c =
    let f = findings_of _ _ _ _ c.requires (rw c.lines.ensures.value at c.in_ok-listed.ensures.members) c.in_ok-listed.ensures.uids in
    let keys = rw c.as_slice.ensures.value at c.in_ok-listed_keys.ensures in
    (c.requires.possible, least _ _ _ _ _ f.absent (outside_are _ _ _ _ keys c.in_ok-absent.ensures) c.first.ensures c.in-Some.is)

pub returns-in-Some-first : goal.returns-in-Some-first
returns-in-Some-first g c =
    let f = findings_of _ _ _ _ c.requires (rw c.lines.ensures.value at c.in_ok-listed.ensures.members) c.in_ok-listed.ensures.uids in
    let keys = rw c.as_slice.ensures.value at c.in_ok-listed_keys.ensures in
    let absent = least _ _ _ _ _ f.absent (outside_are _ _ _ _ keys c.in_ok-absent.ensures) c.first.ensures c.in_default.is in
    (c.requires.possible, absent, least _ _ _ _ _ f.unlisted c.in_ok-unlisted.ensures c.first-2.ensures c.in-Some-first.is)

pub returns-in-Some-2 : goal.returns-in-Some-2
returns-in-Some-2 g c =
    let f = findings_of _ _ _ _ c.requires (rw c.lines.ensures.value at c.in_ok-listed.ensures.members) c.in_ok-listed.ensures.uids in
    let keys = rw c.as_slice.ensures.value at c.in_ok-listed_keys.ensures in
    let absent = least _ _ _ _ _ f.absent (outside_are _ _ _ _ keys c.in_ok-absent.ensures) c.first.ensures c.in_default.is in
    let unlisted = least _ _ _ _ _ f.unlisted c.in_ok-unlisted.ensures c.first-2.ensures c.in_default-first.is in
    (c.requires.possible, absent, unlisted, rw c.in-Some-2.is at (f.unsettled _ _ unlisted keys c.in_ok-mask.ensures.found c.in_ok-mask.ensures.empty))

pub returns-in-Some-first-2 : goal.returns-in-Some-first-2
returns-in-Some-first-2 g c =
    let f = findings_of _ _ _ _ c.requires (rw c.lines.ensures.value at c.in_ok-listed.ensures.members) c.in_ok-listed.ensures.uids in
    let keys = rw c.as_slice.ensures.value at c.in_ok-listed_keys.ensures in
    let absent = least _ _ _ _ _ f.absent (outside_are _ _ _ _ keys c.in_ok-absent.ensures) c.first.ensures c.in_default.is in
    let unlisted = least _ _ _ _ _ f.unlisted c.in_ok-unlisted.ensures c.first-2.ensures c.in_default-first.is in
    let mask = rw c.in_default-2.is at (f.unsettled _ _ unlisted keys c.in_ok-mask.ensures.found c.in_ok-mask.ensures.empty) in
    (c.requires.possible, absent, unlisted, mask, least _ _ _ _ _ f.doubtful c.in_ok-doubtful.ensures c.first-3.ensures c.in-Some-first-2.is)

pub returns : goal.returns
returns g c =
    let f = findings_of _ _ _ _ c.requires (rw c.lines.ensures.value at c.in_ok-listed.ensures.members) c.in_ok-listed.ensures.uids in
    let keys = rw c.as_slice.ensures.value at c.in_ok-listed_keys.ensures in
    let absent = least _ _ _ _ _ f.absent (outside_are _ _ _ _ keys c.in_ok-absent.ensures) c.first.ensures c.in_default.is in
    let unlisted = least _ _ _ _ _ f.unlisted c.in_ok-unlisted.ensures c.first-2.ensures c.in_default-first.is in
    let mask = rw c.in_default-2.is at (f.unsettled _ _ unlisted keys c.in_ok-mask.ensures.found c.in_ok-mask.ensures.empty) in
    let doubtful = least _ _ _ _ _ f.doubtful c.in_ok-doubtful.ensures c.first-3.ensures c.in_default-first-2.is in
    (c.requires.possible, absent, unlisted, mask, doubtful, c.count_listed.ensures)
