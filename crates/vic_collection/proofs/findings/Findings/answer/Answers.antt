use Rattle.vic_collection.proofs.Words.{◌≡◌, ◌∙◌, ap, sym, subst, slice_get, true}
use Rattle.std.proofs.Common.{MatchOption}
use Rattle.vic_verdict.specs.Verdict.{IsFirstMask, NoSuch}
use Rattle.vic_collection.specs.declared.state.State.TheVariants as state
use Rattle.vic_collection.specs.declared.unlisted.UnlistedUid.{UnlistedUid}
use Rattle.vic_collection.specs.Collections.{is_unlisted}
use Rattle.vic_collection.specs.Findings.{IsUnsettled}
use Rattle.vic_collection.proofs.Listing.{first_in, first_of, none_in, none_of}
use Rattle.vic_collection.proofs.findings.Findings.answer.Goals as goal

pub returns-in-Some-first : goal.returns-in-Some-first
returns-in-Some-first c = λ k h.
    let possible = sym h.not_possible ∙ c.in_default.is in
    (possible, first_in k state.Absent c.args.self.now.absent.items c.deref.result.now c.in-Some-first.found.now h.absent c.deref.ensures.value c.in-Some-first.ensures.value)

pub returns-in-Some-first-2 : goal.returns-in-Some-first-2
returns-in-Some-first-2 c = λ k h.
    let possible = sym h.not_possible ∙ c.in_default.is in
    let none_absent = none_in k state.Absent c.args.self.now.absent.items c.deref.result.now h.absent c.deref.ensures.value c.in_default-first.ensures.value in
    ((possible, none_absent), first_of (λ u. is_unlisted k u ≡ true) (λ (x : UnlistedUid). x.uid) c.args.self.now.unlisted.items c.in-Some-first-2.found.now h.unlisted.uids (c.in-Some-first-2.ensures.value ∙ ap (λ l. slice_get l 0) c.deref-2.ensures.value))

pub returns-in-Some-first-3 : goal.returns-in-Some-first-3
returns-in-Some-first-3 c = λ k h.
    let possible = sym h.not_possible ∙ c.in_default.is in
    let none_absent = none_in k state.Absent c.args.self.now.absent.items c.deref.result.now h.absent c.deref.ensures.value c.in_default-first.ensures.value in
    let none_unlisted = none_of (λ u. is_unlisted k u ≡ true) (λ (x : UnlistedUid). x.uid) c.args.self.now.unlisted.items h.unlisted.uids (c.in_default-first-2.ensures.value ∙ ap (λ l. slice_get l 0) c.deref-2.ensures.value) in
    let none_unsettled = subst (λ m. MatchOption m (NoSuch (IsUnsettled k)) (IsFirstMask (IsUnsettled k))) c.in_default-unsettled.is h.unsettled in
    ((((possible, none_absent), none_unlisted), none_unsettled), first_in k state.Doubtful c.args.self.now.doubtful.items c.deref-3.result.now c.in-Some-first-3.found.now h.doubtful c.deref-3.ensures.value c.in-Some-first-3.ensures.value)

pub returns : goal.returns
returns c = λ k h.
    let possible = sym h.not_possible ∙ c.in_default.is in
    let none_absent = none_in k state.Absent c.args.self.now.absent.items c.deref.result.now h.absent c.deref.ensures.value c.in_default-first.ensures.value in
    let none_unlisted = none_of (λ u. is_unlisted k u ≡ true) (λ (x : UnlistedUid). x.uid) c.args.self.now.unlisted.items h.unlisted.uids (c.in_default-first-2.ensures.value ∙ ap (λ l. slice_get l 0) c.deref-2.ensures.value) in
    let none_unsettled = subst (λ m. MatchOption m (NoSuch (IsUnsettled k)) (IsFirstMask (IsUnsettled k))) c.in_default-unsettled.is h.unsettled in
    let none_doubtful = none_in k state.Doubtful c.args.self.now.doubtful.items c.deref-3.result.now h.doubtful c.deref-3.ensures.value c.in_default-first-3.ensures.value in
    c.answer_by_place.ensures k h ((((possible, none_absent), none_unlisted), none_unsettled), none_doubtful)
