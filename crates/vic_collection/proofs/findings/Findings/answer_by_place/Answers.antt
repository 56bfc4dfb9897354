use Rattle.vic_collection.proofs.Words.{◌∙◌, ap, sym, slice_get, map}
use Rattle.vic_collection.specs.declared.state.State.TheVariants as state
use Rattle.vic_collection.proofs.Listing.{first_in, first_place, none_in, nothing_at}
use Rattle.vic_collection.proofs.findings.Findings.answer_by_place.Goals as goal

pub returns-in-Some : goal.returns-in-Some
returns-in-Some c = λ k h none.
    (none, first_in k state.Misplaced c.args.self.now.misplaced.items c.deref.result.now c.in-Some.found.now h.misplaced c.deref.ensures.value c.in-Some.ensures.value)

pub returns-in-Some-first : goal.returns-in-Some-first
returns-in-Some-first c = λ k h none.
    let none_misplaced = none_in k state.Misplaced c.args.self.now.misplaced.items c.deref.result.now h.misplaced c.deref.ensures.value c.in_default.ensures.value in
    ((none, none_misplaced), first_in k state.Returned c.args.self.now.returned.items c.deref-2.result.now c.in-Some-first.found.now h.returned c.deref-2.ensures.value c.in-Some-first.ensures.value)

pub returns-in-Some-first-2 : goal.returns-in-Some-first-2
returns-in-Some-first-2 c = λ k h none.
    let none_misplaced = none_in k state.Misplaced c.args.self.now.misplaced.items c.deref.result.now h.misplaced c.deref.ensures.value c.in_default.ensures.value in
    let none_returned = none_in k state.Returned c.args.self.now.returned.items c.deref-2.result.now h.returned c.deref-2.ensures.value c.in_default-first.ensures.value in
    (((none, none_misplaced), none_returned), first_in k state.NotCounted c.args.self.now.not_counted.items c.deref-3.result.now c.in-Some-first-2.found.now h.not_counted c.deref-3.ensures.value c.in-Some-first-2.ensures.value)

pub returns-in-Some-first-3 : goal.returns-in-Some-first-3
returns-in-Some-first-3 c = λ k h none.
    let none_misplaced = none_in k state.Misplaced c.args.self.now.misplaced.items c.deref.result.now h.misplaced c.deref.ensures.value c.in_default.ensures.value in
    let none_returned = none_in k state.Returned c.args.self.now.returned.items c.deref-2.result.now h.returned c.deref-2.ensures.value c.in_default-first.ensures.value in
    let none_not_counted = none_in k state.NotCounted c.args.self.now.not_counted.items c.deref-3.result.now h.not_counted c.deref-3.ensures.value c.in_default-first-2.ensures.value in
    ((((none, none_misplaced), none_returned), none_not_counted), first_place (λ p. p.now) c.args.self.now.without_log.items _ c.in-Some-first-3.place.now h.without_log (c.in-Some-first-3.ensures.value ∙ ap (λ l. slice_get l 0) c.deref-4.ensures.value))

pub returns-in-Some-first-4 : goal.returns-in-Some-first-4
returns-in-Some-first-4 c = λ k h none.
    let none_misplaced = none_in k state.Misplaced c.args.self.now.misplaced.items c.deref.result.now h.misplaced c.deref.ensures.value c.in_default.ensures.value in
    let none_returned = none_in k state.Returned c.args.self.now.returned.items c.deref-2.result.now h.returned c.deref-2.ensures.value c.in_default-first.ensures.value in
    let none_not_counted = none_in k state.NotCounted c.args.self.now.not_counted.items c.deref-3.result.now h.not_counted c.deref-3.ensures.value c.in_default-first-2.ensures.value in
    let none_without_log = sym h.without_log ∙ ap (map (λ p. p.now)) (nothing_at c.args.self.now.without_log.items (c.in_default-first-3.ensures.value ∙ ap (λ l. slice_get l 0) c.deref-4.ensures.value)) in
    (((((none, none_misplaced), none_returned), none_not_counted), none_without_log), ap (λ l. slice_get l 0) (sym h.left_over) ∙ sym (c.in-Some-first-4.ensures.value ∙ ap (λ l. slice_get l 0) c.deref-5.ensures.value))

pub returns : goal.returns
returns c = λ k h none.
    let none_misplaced = none_in k state.Misplaced c.args.self.now.misplaced.items c.deref.result.now h.misplaced c.deref.ensures.value c.in_default.ensures.value in
    let none_returned = none_in k state.Returned c.args.self.now.returned.items c.deref-2.result.now h.returned c.deref-2.ensures.value c.in_default-first.ensures.value in
    let none_not_counted = none_in k state.NotCounted c.args.self.now.not_counted.items c.deref-3.result.now h.not_counted c.deref-3.ensures.value c.in_default-first-2.ensures.value in
    let none_without_log = sym h.without_log ∙ ap (map (λ p. p.now)) (nothing_at c.args.self.now.without_log.items (c.in_default-first-3.ensures.value ∙ ap (λ l. slice_get l 0) c.deref-4.ensures.value)) in
    let none_left_over = sym h.left_over ∙ nothing_at c.args.self.now.left_over.items (c.in_default-first-4.ensures.value ∙ ap (λ l. slice_get l 0) c.deref-5.ensures.value) in
    ((((((none, none_misplaced), none_returned), none_not_counted), none_without_log), none_left_over), h.count)
