use Rattle.std.proofs.Common.{◌≡◌, ◌∙◌, ◌-◌, ◌++◌, ◌∷◌, [], ℕ, Bool, List, append-nil, append_assoc, ap, arith, sym}
use Rattle.std.proofs.lemmas.Result.{on_ok_weaker}
use Rattle.vic_frame.specs.Masks.{slot_of_sixteen}
use Rattle.vic_frame.specs.declared.request.Request.{Request}
use Rattle.vic_frame.specs.declared.request.Request.TheVariants.{Inventory}
use Rattle.vic_object.specs.Asking.{asks_in, of_slots}
use Rattle.vic_object.proofs.Asked.{asks_one, asks_parted, no_slots, slots_more}
use Rattle.vic_object.proofs.asking.+push_requests.Goals as goal

pub returns-then-not-has_collided_below : goal.returns-then-not-has_collided_below
returns-then-not-has_collided_below t c = on_ok_weaker c.push_request.result (λ same es a.
    same ∙ ap (λ (qs : List Request). c.args.requests.now.items ++ qs)
    (ap (λ (b : Bool). Inventory c.args.link b c.args.mask ∷ []) (c.needs_sixteen_slots-sixteen.ensures es a)
    ∙ sym (asks_one es c.args.times c.args.link c.args.mask (omega arith) (sym (c.has_collided_below.ensures es a) ∙ c.if-not-has_collided_below.true)))) c.push_request.ensures

pub loop-k-init : goal.loop-k-init
loop-k-init t c es a = sym (ap (λ (qs : List Request). c.args.requests.now.items ++ qs) (no_slots (asks_in es (c.args.times - 1) c.args.link) c.args.mask) ∙ append-nil c.args.requests.now.items)

pub loop-k-preserved : goal.loop-k-preserved
loop-k-preserved t c es a =
    let f = asks_in es (c.args.times - 1) c.args.link in
    let old : List Request = c.args.requests.now.items in
    let m = c.args.mask in
    let k : ℕ = c.loop-k.k in
    let slot : c.in-Some.slot ≡ slot_of_sixteen m k = grind (arith, c.in-Some.ensures, c.in-Some.is) in
    c.in_ok-push_requests.ensures es a ∙ ap (λ qs. qs ++ f c.in-Some.slot) (c.loop-k.invariant es a) ∙ ap (λ x. (old ++ of_slots f m k) ++ f x) slot
    ∙ append_assoc old (of_slots f m k) (f (slot_of_sixteen m k)) ∙ ap (λ (qs : List Request). old ++ qs) (sym (slots_more f m k))

pub returns : goal.returns
returns t c es a =
    let f = asks_in es (c.args.times - 1) c.args.link in
    let old : List Request = c.args.requests.now.items in
    let m = c.args.mask in
    let end : c.loop-k.k ≡ 16 = omega arith in
    c.loop-k.invariant es a ∙ ap (λ (j : ℕ). old ++ of_slots f m j) end
    ∙ ap (λ (qs : List Request). old ++ qs) (sym (asks_parted es c.args.times c.args.link m (omega arith) (sym (c.has_collided_below.ensures es a) ∙ c.if-not-has_collided_below.false)))
