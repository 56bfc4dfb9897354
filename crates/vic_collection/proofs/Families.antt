-- What logs tell together is what some log tells.
use Rattle.vic_collection.proofs.Words.{◌≡◌, ◌<◌, zero, suc, ℕ, List, [], ◌∷◌, ◌++◌, arith, subst, get_or, true, false, refl, sym, ◌∙◌, ◌↔◌, ◌⊎◌, ⊎_elim, Any, AllZip, Some, slice_get, length, both_ways, has, is_somewhere, list_any-from_Any, Any-from_list_any, slice_get_within, get_or_from_slice_get, slice_get_read, FitsTexts, IsCertainIn, IsCertainUid, IsPossibleIn, IsPossibleUid, MayHaveBeen}
use Rattle.std.specs.List.Sorted.{IsPermutation}
use Rattle.std.proofs.lemmas.List.Sorted.{Contains-permutation, IsPermutation-sym}
use Rattle.std.proofs.lemmas.Option.{MatchOption-at_some}
use Rattle.std.proofs.lemmas.Slice.Zip.{AllZip-left, AllZip-right}
use Rattle.vic_log.proofs.Places.{slice_get-append}
use Rattle.vic_collection.proofs.Elements.{some_value}
use Rattle.vic_collection.proofs.Texts.{certain_or_without, with_possible}
use Rattle.std.proofs.Common.{IsSomeAnd}

-- ---- of elements

pub any_at : {X : Type 0} (P : X → Type 0) (xs : List X) (n : ℕ) (x : X) → slice_get xs n ≡ Some x → P x → Any P xs
any_at P xs n x h p = (n, x, slice_get_within xs n x h, get_or_from_slice_get xs n x x h, p)

-- what stands beside an element, of lists beside one another
pub beside : {A B : Type 0} (R : A → B → Type 0) (xs : List A) (ys : List B) (k : ℕ) (x : A) → AllZip R xs ys → slice_get xs k ≡ Some x → (y : B) × (slice_get ys k ≡ Some y) × R x y
beside R xs ys k x z h = some_value (slice_get ys k) (R x) (MatchOption-at_some _ (λ a. IsSomeAnd (slice_get ys k) (R a)) x h (AllZip-left R xs ys z k))

pub beside_back : {A B : Type 0} (R : A → B → Type 0) (xs : List A) (ys : List B) (k : ℕ) (y : B) → AllZip R xs ys → slice_get ys k ≡ Some y → (x : A) × (slice_get xs k ≡ Some x) × R x y
beside_back R xs ys k y z h = some_value (slice_get xs k) (λ x. R x y) (MatchOption-at_some _ (λ b. IsSomeAnd (slice_get xs k) (λ x. R x b)) y h (AllZip-right R xs ys z k))

pub any_zip : {A B : Type 0} (R : A → B → Type 0) (P : A → Type 0) (Q : B → Type 0) (xs : List A) (ys : List B) → ((x : A) (y : B) → R x y → P x → Q y) → AllZip R xs ys → Any P xs → Any Q ys
any_zip R P Q xs ys f z a =
    let b = beside R xs ys a.0 a.1 z (slice_get_read xs (length xs) a.0 a.1 refl a.2 (sym a.3)) in
    any_at Q ys a.0 b.0 b.1 (f a.1 b.0 b.2 a.4)

pub any_back : {A B : Type 0} (R : A → B → Type 0) (P : A → Type 0) (Q : B → Type 0) (xs : List A) (ys : List B) → ((x : A) (y : B) → R x y → Q y → P x) → AllZip R xs ys → Any Q ys → Any P xs
any_back R P Q xs ys f z a =
    let b = beside_back R xs ys a.0 a.1 z (slice_get_read ys (length ys) a.0 a.1 refl a.2 (sym a.3)) in
    any_at P xs a.0 b.0 b.1 (f b.0 a.1 b.2 a.4)

any_permutation : {X : Type 0} (P : X → Type 0) (xs ys : List X) → IsPermutation xs ys → Any P xs → Any P ys
any_permutation P xs ys m a =
    let c = Contains-permutation xs ys a.1 m (a.0, a.2, a.3) in
    (c.0, a.1, c.1, c.2, a.4)

-- ---- of all logs

-- a family with a choice of each log's population
chosen : (R : List ℕ → List ℕ → Type 0) (texts : List (List ℕ)) → ((text : List ℕ) → (p : List ℕ) × MayHaveBeen p text × R p text) → (family : List (List ℕ)) × FitsTexts family texts × AllZip R family texts
chosen R [] choose = ([], tt, tt)
chosen R (text ∷ texts) choose =
    let p = choose text in
    let rest = chosen R texts choose in
    (p.0 ∷ rest.0, (p.1, rest.1), (p.2, rest.2))

-- the population has the UID
abbrev Has : ℕ → List ℕ → Type 0
Has u p = has p u ≡ true

pub some_family : (texts : List (List ℕ)) → (family : List (List ℕ)) × FitsTexts family texts
some_family texts = let c = chosen MayHaveBeen texts (λ text. let p = certain_or_without 0 text in (p.0, p.1, p.1)) in (c.0, c.1)

somewhere_in : (texts family : List (List ℕ)) (u : ℕ) → FitsTexts family texts → is_somewhere family u ≡ true → Any (IsPossibleIn u) texts
somewhere_in texts family u f h = any_zip MayHaveBeen (Has u) (IsPossibleIn u) family texts (λ p text fits here. (p, fits, here)) f (Any-from_list_any (λ p. has p u) family h)

somewhere_by : (texts : List (List ℕ)) (u : ℕ) → Any (IsPossibleIn u) texts → IsPossibleUid texts u
somewhere_by texts u a =
    let R : List ℕ → List ℕ → Type 0 = λ p text. IsPossibleIn u text → Has u p in
    let c = chosen R texts (with_possible u) in
    (c.0, c.1, list_any-from_Any (λ p. has p u) c.0 (any_back R (Has u) (IsPossibleIn u) c.0 texts (λ p text w h. w h) c.2 a))

pub possible_in_some : (texts : List (List ℕ)) (u : ℕ) → IsPossibleUid texts u ↔ Any (IsPossibleIn u) texts
possible_in_some texts u = ((λ h. somewhere_in texts h.0 u h.1 h.2), somewhere_by texts u)

certain_by : (texts : List (List ℕ)) (u : ℕ) → Any (IsCertainIn u) texts → IsCertainUid texts u
certain_by texts u a family f = list_any-from_Any (λ p. has p u) family (any_back MayHaveBeen (Has u) (IsCertainIn u) family texts (λ p text fits c. c p fits) f a)

certain_from : (texts : List (List ℕ)) (u : ℕ) → IsCertainUid texts u → Any (IsCertainIn u) texts
certain_from texts u c =
    let R : List ℕ → List ℕ → Type 0 = λ p text. IsCertainIn u text ⊎ (has p u ≡ false) in
    let w = chosen R texts (certain_or_without u) in
    any_zip R (Has u) (IsCertainIn u) w.0 texts (λ p text r here. ⊎_elim (λ is. is) (λ n. absurd (both_ways (has p u) n here)) r) w.2 (Any-from_list_any (λ p. has p u) w.0 (c w.0 w.1))

pub certain_in_some : (texts : List (List ℕ)) (u : ℕ) → IsCertainUid texts u ↔ Any (IsCertainIn u) texts
certain_in_some texts u = (certain_from texts u, certain_by texts u)

-- ---- in any order

possible_there : (texts others : List (List ℕ)) (u : ℕ) → IsPermutation texts others → IsPossibleUid texts u → IsPossibleUid others u
possible_there texts others u m h = (possible_in_some others u).1 (any_permutation (IsPossibleIn u) texts others m ((possible_in_some texts u).0 h))

certain_there : (texts others : List (List ℕ)) (u : ℕ) → IsPermutation texts others → IsCertainUid texts u → IsCertainUid others u
certain_there texts others u m h = (certain_in_some others u).1 (any_permutation (IsCertainIn u) texts others m ((certain_in_some texts u).0 h))

pub possible_in_any_order : (texts others : List (List ℕ)) (u : ℕ) → IsPermutation texts others → IsPossibleUid texts u ↔ IsPossibleUid others u
possible_in_any_order texts others u m = (possible_there texts others u m, possible_there others texts u (IsPermutation-sym texts others m))

pub certain_in_any_order : (texts others : List (List ℕ)) (u : ℕ) → IsPermutation texts others → IsCertainUid texts u ↔ IsCertainUid others u
certain_in_any_order texts others u m = (certain_there texts others u m, certain_there others texts u (IsPermutation-sym texts others m))

-- ---- one log more

any_more : {X : Type 0} (P : X → Type 0) (xs : List X) (x : X) → Any P xs → Any P (xs ++ x ∷ [])
any_more P xs x a = any_at P (xs ++ x ∷ []) a.0 a.1 (sym (slice_get-append xs (x ∷ []) a.0 a.2) ∙ slice_get_read xs (length xs) a.0 a.1 refl a.2 (sym a.3)) a.4

pub possible_with_more : (texts : List (List ℕ)) (text : List ℕ) (u : ℕ) → IsPossibleUid texts u → IsPossibleUid (texts ++ text ∷ []) u
possible_with_more texts text u h = (possible_in_some (texts ++ text ∷ []) u).1 (any_more (IsPossibleIn u) texts text ((possible_in_some texts u).0 h))

pub certain_with_more : (texts : List (List ℕ)) (text : List ℕ) (u : ℕ) → IsCertainUid texts u → IsCertainUid (texts ++ text ∷ []) u
certain_with_more texts text u h = (certain_in_some (texts ++ text ∷ []) u).1 (any_more (IsCertainIn u) texts text ((certain_in_some texts u).0 h))

-- ---- one log alone

pub any_one : {X : Type 0} (P : X → Type 0) (x : X) → Any P (x ∷ []) ↔ P x
any_one {X} P x = ((λ a. one_of a.0 a.1 a.2 a.3 a.4), (λ p. any_at P (x ∷ []) 0 x refl p)) where
  one_of : (k : ℕ) (y : X) → k < 1 → get_or (x ∷ []) k y ≡ y → P y → P x
  one_of zero y lt e p = subst P (sym e) p
  one_of (suc k) y lt e p = absurd (omega arith)
