-- Keys, and the parts that have them.
use Rattle.std.proofs.Common.{◌≡◌, ℕ, zero, suc, ◌+◌, ◌-◌, ◌^◌, ◌<◌, ◌≤◌, ◌++◌, ◌∷◌, [], List, length, refl, subst, ◌∙◌, arith, ⊎_elim, nat_le, slice_index}
use Rattle.std.proofs.lemmas.Bool.{cases_lt}
use Rattle.std.proofs.lemmas.Bool.Decides.{nat_tests}
use Rattle.std.proofs.lemmas.List.{get_or_default}
use Rattle.std.proofs.lemmas.List.{get_or_append_left, get_or_push, length-append}
use Rattle.std.proofs.lemmas.List.Elements.{All-nil, All-push, Contains-append_left, Contains-get_or, Contains-push}
use Rattle.std.proofs.lemmas.Map.Keys.{below_from_sorted, sorted_from_strictly_increasing}
use Rattle.std.proofs.lemmas.Nat.{pow_pos}
use Rattle.std.specs.List.{All, Contains}
use Rattle.std.specs.List.Sorted.{IsStrictlyIncreasing}
use Rattle.vic_frame.specs.LowBitsFirst.{IsKey, is_in_block}
use Rattle.vic_walk.specs.Borders.{AreBorders, IsPartOf, part_count}
use Rattle.vic_walk.specs.inner.Gathered.{AreGathered, HasAll, IsBorder, StandsAt}
use Rattle.vic_walk.specs.inner.Searching.{IsBetween}

-- ---- borders rise

pub below : (bs : List ℕ) (i j : ℕ) → IsStrictlyIncreasing bs → i < j → j < length bs → slice_index bs i < slice_index bs j
below bs i j rising lt within = below_from_sorted bs i j 0 (sorted_from_strictly_increasing bs rising) lt within

pub up_to : (bs : List ℕ) (i j : ℕ) → IsStrictlyIncreasing bs → i ≤ j → j < length bs → slice_index bs i ≤ slice_index bs j
up_to bs i j rising le within = ⊎_elim
    (λ (lt : i < j). let h = below bs i j rising lt within in omega (arith, h))
    (λ (ge : j ≤ i). let same : i ≡ j = omega (arith, le, ge) in rw same (omega arith))
    (cases_lt i j)

pub some_part : (bs : List ℕ) → AreBorders bs → 0 < length bs - 1
some_part bs borders = ⊎_elim
    (λ (some : 0 < length bs - 1). some)
    (λ (none : length bs - 1 ≤ 0).
    let first = borders.first in
    let last = borders.last in
    let same : length bs - 1 ≡ 0 = omega (arith, none) in
    absurd (let end = rw same at last in omega (arith, end, first)))
    (cases_lt 0 (length bs - 1))

-- ---- one part for each key

pub parts_rise : (bs : List ℕ) (k l p q : ℕ) → AreBorders bs → k ≤ l → IsPartOf bs k p → IsPartOf bs l q → p ≤ q
parts_rise bs k l p q borders le a b = ⊎_elim
    (λ (lt : q < p).
    let within = a.within in
    let h = up_to bs (q + 1) p borders.rising (omega (arith, lt)) (omega (arith, within)) in
    let from = a.from in
    let before = b.before in
    absurd (omega (arith, le, h, from, before)))
    (λ (ge : p ≤ q). ge)
    (cases_lt q p)

pub one_part : (bs : List ℕ) (k p q : ℕ) → AreBorders bs → IsPartOf bs k p → IsPartOf bs k q → p ≡ q
one_part bs k p q borders a b = let h = parts_rise bs k k p q borders (omega arith) a b in let i = parts_rise bs k k q p borders (omega arith) b a in omega (arith, h, i)

-- the part below some border
found : (bs : List ℕ) (k n : ℕ) → slice_index bs 0 ≡ 0 → n < length bs → k < slice_index bs n → (p : ℕ) × IsPartOf bs k p
found bs k zero first within below = absurd (omega (arith, first, below))
found bs k (suc n) first within below = ⊎_elim
    (λ (lt : k < slice_index bs n). found bs k n first (omega (arith, within)) lt)
    (λ (ge : slice_index bs n ≤ k). (n, record { within = omega (arith, within); from = ge; before = subst (λ m. k < slice_index bs m) (omega arith) below }))
    (cases_lt k (slice_index bs n))

pub part_of_key : (bs : List ℕ) (k : ℕ) → AreBorders bs → IsKey k → (p : ℕ) × IsPartOf bs k p
part_of_key bs k borders key = let some = some_part bs borders in let last = borders.last in found bs k (length bs - 1) borders.first (omega (arith, some)) (omega (arith, last, key))

pub key_of_part : (bs : List ℕ) (p : ℕ) → AreBorders bs → p < part_count bs → IsPartOf bs (slice_index bs p) p × IsKey (slice_index bs p)
key_of_part bs p borders within =
    let next = below bs p (p + 1) borders.rising (omega arith) (omega (arith, within)) in
    let end = below bs p (length bs - 1) borders.rising (omega (arith, within)) (omega (arith, within)) in
    let last = borders.last in
    (record { within = within; from = omega arith; before = next }, omega (arith, end, last))

pub end_of_part : (bs : List ℕ) (p : ℕ) → AreBorders bs → p < part_count bs → (slice_index bs p ≤ slice_index bs (p + 1)) × (slice_index bs (p + 1) ≤ 2 ^ 56)
end_of_part bs p borders within =
    let end = up_to bs (p + 1) (length bs - 1) borders.rising (omega (arith, within)) (omega (arith, within)) in
    let last = borders.last in
    (up_to bs p (p + 1) borders.rising (omega arith) (omega (arith, within)), omega (arith, end, last))

-- ---- keys of one part

-- a border is up to both, or above both
same_side : (bs : List ℕ) (b k l p : ℕ) → AreBorders bs → Contains bs b → IsPartOf bs k p → IsPartOf bs l p → b ≤ k → b ≤ l
same_side bs b k l p borders there a c le =
    let j = there.0 in
    let at : slice_index bs j ≡ b = get_or_default bs j 0 b there.1 ∙ there.2 in
    let within = a.within in
    ⊎_elim
    (λ (after : p < j). let h = up_to bs (p + 1) j borders.rising (omega (arith, after)) there.1 in let before = a.before in absurd (omega (arith, h, before, at, le)))
    (λ (upto : j ≤ p). let h = up_to bs j p borders.rising upto (omega (arith, within)) in let from = c.from in omega (arith, h, from, at))
    (cases_lt p j)

pub alike_in_block : (bs : List ℕ) (first len k l p : ℕ) → AreBorders bs → Contains bs first → Contains bs (first + 2 ^ (56 - len)) → IsPartOf bs k p → IsPartOf bs l p → is_in_block first len k ≡ is_in_block first len l
alike_in_block bs first len k l p borders start end a b =
    let some = pow_pos (56 - len) in
    let up = same_side bs first k l p borders start a b in
    let down = same_side bs first l k p borders start b a in
    let past = same_side bs (first + 2 ^ (56 - len)) k l p borders end a b in
    let back = same_side bs (first + 2 ^ (56 - len)) l k p borders end b a in
    grind (arith, nat_tests, some, up, down, past, back)

-- a key between borders is alone in its part
pub own_part : (bs : List ℕ) (k l p : ℕ) → AreBorders bs → Contains bs k → Contains bs (k + 1) → IsPartOf bs k p → IsPartOf bs l p → l ≡ k
own_part bs k l p borders start end a b =
    let up = same_side bs k k l p borders start a b (omega arith) in
    ⊎_elim
    (λ (past : k < l). let h = same_side bs (k + 1) l k p borders end b a (omega (arith, past)) in absurd (omega (arith, h)))
    (λ (upto : l ≤ k). omega (arith, up, upto))
    (cases_lt k l)

-- ---- from a border on

-- a key comes from a border on where its part does
pub from_border : (bs : List ℕ) (k p from : ℕ) → AreBorders bs → from < length bs → IsPartOf bs k p → nat_le (slice_index bs from) k ≡ nat_le from p
from_border bs k p from borders within own = ⊎_elim
    (λ (after : p < from). let h = up_to bs (p + 1) from borders.rising (omega (arith, after)) within in let before = own.before in grind (arith, nat_tests))
    (λ (upto : from ≤ p). let h = up_to bs from p borders.rising upto (let w = own.within in omega (arith, w)) in let low = own.from in grind (arith, nat_tests))
    (cases_lt p from)

-- ---- a key between two borders

pub between_all : (bs : List ℕ) (k : ℕ) → AreBorders bs → IsKey k → IsBetween bs k 0 (length bs - 1)
between_all bs k borders key =
    let some = some_part bs borders in
    let first = borders.first in
    let last = borders.last in
    record { forward = some; within = omega (arith, some); low = omega (arith, first); high = omega (arith, last, key) }

-- ---- borders that were gathered

pub gathered_first : AreGathered (0 ∷ 2 ^ 56 ∷ [])
gathered_first = record {
  borders = All-push IsBorder (0 ∷ []) (2 ^ 56) (All-push IsBorder [] 0 (All-nil IsBorder) (omega arith)) (omega arith);
  first = record { within = omega arith; here = refl };
  end = Contains-push (0 ∷ []) (2 ^ 56);
}

-- one more comes after them
pub stands_still : (bs : List ℕ) (b : ℕ) → HasAll bs (bs ++ b ∷ [])
stands_still bs b c place at = record { within = let w = at.within in omega (arith, length-append bs (b ∷ []), w); here = get_or_append_left bs (b ∷ []) 0 place at.within ∙ at.here }

pub stands_last : (bs : List ℕ) (b : ℕ) → StandsAt (bs ++ b ∷ []) b (length bs)
stands_last bs b = record { within = omega (arith, length-append bs (b ∷ [])); here = get_or_push bs b 0 (length bs) refl }

pub gathered_more : (bs : List ℕ) (b : ℕ) → IsBorder b → AreGathered bs → AreGathered (bs ++ b ∷ [])
gathered_more bs b is h = record {
  borders = All-push IsBorder bs b h.borders is;
  first = stands_still bs b 0 0 h.first;
  end = Contains-append_left bs (b ∷ []) (2 ^ 56) h.end;
}

pub stands_in : (bs : List ℕ) (b place : ℕ) → StandsAt bs b place → Contains bs b
stands_in bs b place at = rw at.here at (Contains-get_or bs place 0 at.within)

pub are_borders : (old new : List ℕ) → IsStrictlyIncreasing new → ((b : ℕ) → Contains old b → Contains new b) → (All IsBorder old → All IsBorder new) → AreGathered old → AreBorders new
are_borders old new rising kept all gathered =
    let start = kept 0 (stands_in old 0 0 gathered.first) in
    let stop = kept (2 ^ 56) gathered.end in
    let start_at : slice_index new start.0 ≡ 0 = start.2 in
    let stop_at : slice_index new stop.0 ≡ 2 ^ 56 = get_or_default new stop.0 0 (2 ^ 56) stop.1 ∙ stop.2 in
    let low = up_to new 0 start.0 rising (omega arith) start.1 in
    let high = up_to new stop.0 (length new - 1) rising (let h = stop.1 in omega (arith, h)) (let h = stop.1 in omega (arith, h)) in
    let most = all gathered.borders (length new - 1) 0 (let h = stop.1 in omega (arith, h)) in
    record { rising = rising; first = omega (arith, low, start_at); last = omega (arith, high, stop_at, most) }

-- a border stands where the part of its key is
pub border_at : (bs : List ℕ) (b p : ℕ) → AreBorders bs → Contains bs b → IsPartOf bs b p → StandsAt bs b p
border_at bs b p borders there own =
    let j = there.0 in
    let at : slice_index bs j ≡ b = get_or_default bs j 0 b there.1 ∙ there.2 in
    let within = own.within in
    let low = own.from in
    let before = own.before in
    ⊎_elim
    (λ (after : p < j). let h = up_to bs (p + 1) j borders.rising (omega (arith, after)) there.1 in absurd (omega (arith, h, before, at)))
    (λ (upto : j ≤ p). let h = up_to bs j p borders.rising upto (omega (arith, within)) in record { within = omega (arith, within); here = omega (arith, h, at, low) })
    (cases_lt p j)

-- the last one, whose number is that of the parts
pub last_border : (bs : List ℕ) (b n : ℕ) → AreBorders bs → Contains bs b → 2 ^ 56 ≤ b → n ≡ part_count bs → StandsAt bs b n
last_border bs b n borders there le is =
    let j = there.0 in
    let at : slice_index bs j ≡ b = get_or_default bs j 0 b there.1 ∙ there.2 in
    let some = some_part bs borders in
    let h = up_to bs j (length bs - 1) borders.rising (let w = there.1 in omega (arith, w)) (omega (arith, some)) in
    let last = borders.last in
    rw is (record { within = omega (arith, some); here = omega (arith, h, at, le, last) })
