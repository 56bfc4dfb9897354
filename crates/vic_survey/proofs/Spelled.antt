-- Values that are read are spelled so.
use Rattle.vic_survey.proofs.ValueWords.{Bool, List, None, Option, Some, [], ap, arith, eqb-true, false, if◌then◌else◌, length, nat_le, nat_eq, has, leb-true, refl, slice_index, suc, sym, take, drop, drop-cons, add-one, get_or, take_all, true, zero, ℕ, ◌&&◌, ◌++◌, ◌+◌, ◌-◌, ◌^◌, ◌<◌, ◌==◌, ◌∙◌, ◌∷◌, ◌≡◌, ◌≤◌, nat_tests, decimal, line_fault_name, bytes_eq, le-leb, and_then, parted, number_in, number_up_to, LineFault, fault_among}
use Rattle.vic_text.proofs.ValueLaws.{if_some, number_found as decimal_found, number_text as decimal_text}

pub then_some : {A B : Type 0} (r : Option A) (f : A → Option B) (y : B) → and_then r f ≡ Some y → (x : A) × (r ≡ Some x) × (f x ≡ Some y)
then_some (Some x) f y h = (x, refl, h)
then_some None f y h = absurd (cc h)

not_so : (b : Bool) → (b ≡ true → ⊥) → b ≡ false
not_so true h = absurd (h refl)
not_so false h = refl

pub if_cases : {A P : Type 0} (b : Bool) (x y z : A) → (if b then x else y) ≡ z → (b ≡ true → x ≡ z → P) → (b ≡ false → y ≡ z → P) → P
if_cases true x y z h then_so else_so = then_so refl h
if_cases false x y z h then_so else_so = else_so refl h

-- ---- what stands before a byte

-- the place of the first such byte parts a list
pub parted_some : (c : ℕ) (bytes : List ℕ) (k n m : ℕ) → k < length bytes → n ≡ suc k → m ≡ length bytes - n → slice_index bytes k == c ≡ true
    → ((i : ℕ) → 0 ≤ i → i < k → slice_index bytes i == c ≡ true → ⊥) → parted c bytes ≡ Some (take k bytes, take m (drop n bytes))
parted_some c [] k n m h e f there none = absurd (omega arith)
parted_some c (b ∷ bs) zero n m h e f there none =
    let all : take m (drop n (b ∷ bs)) ≡ bs = rw e (take_all m bs (omega (arith, f, e))) in
    rw (there, all) refl
parted_some c (b ∷ bs) (suc k) (suc n) m h e f there none =
    let other : (b == c) ≡ false = not_so (b == c) (none 0 (omega arith) (omega arith)) in
    let rest = parted_some c bs k n m (omega arith) (omega (arith, e)) (omega (arith, f)) there (λ i low lt is. none (suc i) (omega arith) (omega arith) is) in
    rw (other, rest) refl
parted_some c (b ∷ bs) (suc k) zero m h e f there none = absurd (omega (arith, e))

pub parted_none : (c : ℕ) (bytes : List ℕ) → ((i : ℕ) → 0 ≤ i → i < length bytes → slice_index bytes i == c ≡ true → ⊥) → parted c bytes ≡ None
parted_none c [] none = refl
parted_none c (b ∷ bs) none =
    let other : (b == c) ≡ false = not_so (b == c) (none 0 (omega arith) (omega arith)) in
    let rest = parted_none c bs (λ i low lt is. none (suc i) (omega arith) (omega arith) is) in
    rw (other, rest) refl

-- the parts of a list, and the byte between them
pub parted_text : (c : ℕ) (w : List ℕ) (p : List ℕ × List ℕ) → parted c w ≡ Some p → w ≡ p.0 ++ c ∷ p.1
parted_text c [] p h = absurd (cc h)
parted_text c (b ∷ bs) p h =
    if_cases (b == c) (Some ([], bs)) (and_then (parted c bs) (λ q. Some (b ∷ q.0, q.1))) (Some p) h
    (λ e is. let q : ([], bs) ≡ p = cc (is) in rw (sym q, eqb-true b c e) refl)
    (λ e is.
    let rest = then_some (parted c bs) (λ q. Some (b ∷ q.0, q.1)) p is in
    let q : (b ∷ rest.0.0, rest.0.1) ≡ p = cc (rest.2) in
    rw (sym q) (ap (λ xs. b ∷ xs) (parted_text c bs rest.0 rest.1)))

other_way : (b c : ℕ) → (b == c) ≡ false → nat_eq c b ≡ false
other_way b c e = grind (arith, nat_tests)

-- no such byte stands before it
pub parted_no : (c : ℕ) (w : List ℕ) (p : List ℕ × List ℕ) → parted c w ≡ Some p → has p.0 c ≡ false
parted_no c [] p h = absurd (cc h)
parted_no c (b ∷ bs) p h =
    if_cases (b == c) (Some ([], bs)) (and_then (parted c bs) (λ q. Some (b ∷ q.0, q.1))) (Some p) h
    (λ e is. let q : ([], bs) ≡ p = cc (is) in rw (sym q) refl)
    (λ e is.
    let rest = then_some (parted c bs) (λ q. Some (b ∷ q.0, q.1)) p is in
    let q : (b ∷ rest.0.0, rest.0.1) ≡ p = cc (rest.2) in
    let other : nat_eq c b ≡ false = other_way b c e in
    rw (sym q, other, parted_no c bs rest.0 rest.1) refl)

pub parted_lacks : (c : ℕ) (w : List ℕ) → parted c w ≡ None → has w c ≡ false
parted_lacks c [] h = refl
parted_lacks c (b ∷ bs) h = by_test (b == c) refl h (λ e. parted_lacks c bs e) where
  by_rest : (r : Option (List ℕ × List ℕ)) → and_then {B = List ℕ × List ℕ} r (λ q. Some (b ∷ q.0, q.1)) ≡ None → r ≡ None
  by_rest None e = refl
  by_rest (Some q) e = absurd (cc e)

  by_test : (t : Bool) → (b == c) ≡ t → (if t then Some ([], bs) else and_then {B = List ℕ × List ℕ} (parted c bs) (λ q. Some (b ∷ q.0, q.1))) ≡ None → (parted c bs ≡ None → has bs c ≡ false) → has (b ∷ bs) c ≡ false
  by_test true e is lacks = absurd (cc is)
  by_test false e is lacks = rw (other_way b c e, lacks (by_rest (parted c bs) is)) refl

-- ---- numbers

pub number_found : (most n : ℕ) → n < 2 ^ 64 → n ≤ most → number_up_to most (decimal n) ≡ Some n
number_found most n small h = rw (decimal_found (decimal n) n small refl, le-leb n most h) refl

pub number_text : (most : ℕ) (w : List ℕ) (n : ℕ) → number_up_to most w ≡ Some n → (w ≡ decimal n) × (n ≤ most)
number_text most w n h =
    let t = then_some (number_in w) _ n h in
    let u = if_some (nat_le t.0 most) (Some t.0) n t.2 in
    let is : t.0 ≡ n = cc (u.1) in
    let within : t.0 ≤ most = leb-true t.0 most u.0 in
    ((decimal_text w t.0 t.1).0 ∙ ap decimal is, rw (sym is) within)

-- ---- faults

pub fault_here : (fs : List LineFault) (i : ℕ) (d : LineFault) (name : List ℕ) (all : Option LineFault) → i < length fs
    → bytes_eq (line_fault_name (get_or fs i d)) name ≡ true → fault_among (drop i fs) name ≡ all → Some (get_or fs i d) ≡ all
fault_here fs i d name all h e before = rw (drop-cons fs i d h, e) at before

pub fault_past : (fs : List LineFault) (i : ℕ) (d : LineFault) (name : List ℕ) (all : Option LineFault) → i < length fs
    → bytes_eq (line_fault_name (get_or fs i d)) name ≡ false → fault_among (drop i fs) name ≡ all → fault_among (drop (i + 1) fs) name ≡ all
fault_past fs i d name all h e before = rw add-one (rw (drop-cons fs i d h, e) at before)
