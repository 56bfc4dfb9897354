-- What asks for open masks asks only open UIDs.
use Rattle.std.proofs.Common.{rules, ◌≡◌, ◌∙◌, ℕ, ◌-◌, ◌/◌, ◌<◌, Bool, true, false, List, ap, refl, sym, subst, arith, map, take, length-take, get_or}
use Rattle.std.specs.List.{Contains}
use Rattle.std.proofs.lemmas.List.{get_or-map, get_or-take, length-map}
use Rattle.std.proofs.lemmas.List.Elements.{All-contains}
use Rattle.std.proofs.lemmas.Simd.{map-map}
use Rattle.vic_frame.specs.Masks.{BitMask, lies_in}
use Rattle.vic_frame.specs.Slots.{mask_in, slot_count}
use Rattle.vic_frame.specs.declared.request.Request.TheVariants.{Inventory}
use Rattle.vic_log.specs.Order.{entries}
use Rattle.vic_log.specs.declared.entry.LogLine.{LogLine}
use Rattle.vic_tree.specs.OpenMasks.{IsOpenMask}
use Rattle.vic_verdict.specs.Possible.{IsPossible}
use Rattle.vic_log.specs.declared.entry.Entry.{Entry}
use Rattle.vic_frame.specs.declared.request.Request.{Request}
use Rattle.vic_object.specs.Asking.{AsksNoneAgain, AsksNoneInVain, AsksOnlyOpen, asks_for, has_collided, has_collided_below, has_collided_within}
use Rattle.vic_object.specs.Told.{IsFieldTold, link_of}
use Rattle.vic_object.proofs.Asked.{Fits, IsAsk, asked_is, no_slot, none_within, slot_within}
use Rattle.vic_object.specs.declared.told.AskedMask.{AskedMask}
use Rattle.vic_object.specs.declared.told.FieldTold.{FieldTold}

-- what two functions make of lists that come out the same is the same of each element
same_of : {A B : Type 0} (f g : A → B) (xs : List A) (x : A) → map f xs ≡ map g xs → Contains xs x → f x ≡ g x
same_of f g xs x e c =
    let here : get_or (map f xs) c.0 (f x) ≡ f x = get_or-map f xs c.0 x (f x) c.1 ∙ ap f c.2 in
    let there : get_or (map g xs) c.0 (f x) ≡ g x = get_or-map g xs c.0 x (f x) c.1 ∙ ap g c.2 in
    sym here ∙ ap (λ ys. get_or ys c.0 (f x)) e ∙ there

-- an element of the first few is one of all
of_first : {A : Type 0} (n : ℕ) (xs : List A) (x : A) → Contains (take n xs) x → Contains xs x
of_first n xs x c = (c.0, omega (arith, c.1, length-take n xs), sym (get_or-take n xs c.0 x (omega (arith, c.1, length-take n xs))) ∙ c.2)

mapped : {A B : Type 0} (f : A → B) (xs : List A) (x : A) → Contains xs x → Contains (map f xs) (f x)
mapped f xs x c = (c.0, omega (arith, c.1, length-map xs f), get_or-map f xs c.0 x (f x) c.1 ∙ ap f c.2)

-- what is told to ask for a mask is what asks for it
told_asks : (lines : List LogLine) (f : FieldTold) (a : AskedMask) → IsFieldTold lines f → Contains f.asked.items a → a.requests.items ≡ asks_for (entries lines) (link_of (entries lines)) a.mask
told_asks lines f a told c =
    let asks = asks_for (entries lines) (link_of (entries lines)) in
    let all : map (λ (x : AskedMask). x.requests.items) f.asked.items ≡ map (λ (x : AskedMask). asks x.mask) f.asked.items = told.requests ∙ ap (map asks) (sym told.asked) ∙ map-map asks (λ (x : AskedMask). x.mask) f.asked.items in
    same_of (λ (x : AskedMask). x.requests.items) (λ (x : AskedMask). asks x.mask) f.asked.items a all c

asked_of : (lines : List LogLine) (f : FieldTold) (a : AskedMask) (q : Request) → IsFieldTold lines f → Contains f.asked.items a → Contains a.requests.items q → IsAsk (entries lines) a.mask q
asked_of lines f a q told c of = asked_is (entries lines) ((60 - a.mask.len) / 4) (link_of (entries lines)) a.mask q (subst (λ qs. Contains qs q) (told_asks lines f a told c) of)

-- a slot of a request lies in its mask
in_slot : (link : ℕ) (b : Bool) (m : BitMask) (k u : ℕ) → Fits m → lies_in (mask_in (Inventory link b m) k) u ≡ true → lies_in m u ≡ true
in_slot link true m k u fits h = slot_within m k u fits h
in_slot link false m k u fits h = h

pub asked_open : (lines : List LogLine) (f : FieldTold) (a : AskedMask) → IsPossible (entries lines) → IsFieldTold lines f → Contains f.asked.items a → AsksOnlyOpen (entries lines) a.requests.items
asked_open lines f a possible told c q k u of k_in i h =
    let there : Contains told.all a.mask = of_first 1000 told.all a.mask (subst (λ ms. Contains ms a.mask) told.asked (mapped (λ (x : AskedMask). x.mask) f.asked.items a c)) in
    let masks = told.are_all.0 possible in
    let is = All-contains (IsOpenMask masks.set) told.all a.mask masks.all.wanted there in
    let one = asked_of lines f a q told c of in
    let part = one.within is.is_mask.1 in
    let inside : lies_in a.mask u ≡ true = part.1 u (in_slot one.link one.sixteen one.mask k u part.0 (subst (λ r. lies_in (mask_in r k) u ≡ true) one.is h)) in
    (masks.uids u i).0 (is.open_throughout u i inside)

-- tags collided in no slot of a request, whether it has one or sixteen
no_slot_of : (es : List Entry) (link : ℕ) (b : Bool) (m : BitMask) (k : ℕ) → (b ≡ true → has_collided_below es m 16 ≡ false) → (b ≡ false → has_collided es m ≡ false) → k < slot_count (Inventory link b m) → has_collided es (mask_in (Inventory link b m) k) ≡ false
no_slot_of es link true m k parts one lt = no_slot es m 16 k (parts refl) lt
no_slot_of es link false m k parts one lt = one refl

pub asked_new : (lines : List LogLine) (f : FieldTold) (a : AskedMask) → IsFieldTold lines f → Contains f.asked.items a → AsksNoneAgain (entries lines) a.requests.items
asked_new lines f a told c q k of lt =
    let one = asked_of lines f a q told c of in
    subst (λ r. has_collided (entries lines) (mask_in r k) ≡ false) (sym one.is)
    (no_slot_of (entries lines) one.link one.sixteen one.mask k one.parts (λ f. none_within (entries lines) one.mask (one.one f)) (subst (λ r. k < slot_count r) one.is lt))

-- no one slot has a collision within its mask
one_slot_of : (es : List Entry) (l link : ℕ) (b : Bool) (x m : BitMask) → (b ≡ false → has_collided_within es x ≡ false) → Inventory link false m ≡ Inventory l b x → has_collided_within es m ≡ false
one_slot_of es l link b x m one e =
    let same : m ≡ x = search rules in
    let none : b ≡ false = search rules in
    rw same (one none)

pub asked_hopeful : (lines : List LogLine) (f : FieldTold) (a : AskedMask) → IsFieldTold lines f → Contains f.asked.items a → AsksNoneInVain (entries lines) a.requests.items
asked_hopeful lines f a told c link m of =
    let one = asked_of lines f a (Inventory link false m) told c of in
    one_slot_of (entries lines) one.link link one.sixteen one.mask m one.one one.is
