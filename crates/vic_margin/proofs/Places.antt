-- Lines of a log, and how many parts there are.
use Rattle.vic_margin.proofs.Words.{◌≡◌, ℕ, zero, suc, ◌+◌, ◌-◌, ◌^◌, ◌<◌, ◌≤◌, ◌∙◌, List, length, get_or, ap, arith, slice_index, length-map, cases_lt, inl, inr, AreBorders, part_count}
use Rattle.std.proofs.Common.{map, sym, take, [], ◌++◌, ◌∷◌}
use Rattle.std.proofs.lemmas.List.{map-append, take_more}
use Rattle.std.proofs.lemmas.Map.Keys.{below_from_sorted, sorted_from_strictly_increasing}
use Rattle.std.specs.List.Sorted.{IsStrictlyIncreasing}
use Rattle.vic_log.specs.Order.{entries}
use Rattle.vic_log.specs.declared.entry.Entry.{Entry}
use Rattle.vic_log.specs.declared.entry.LogLine.{LogLine}
use Rattle.vic_walk.specs.Steps.{AreLogParts}
use Rattle.vic_walk.specs.declared.log_parts.LogParts.{LogParts}

pub entries_long : (lines : List LogLine) → length (entries lines) ≡ length lines
entries_long lines = length-map lines (λ (l : LogLine). l.item)

-- numbers that rise are at least their places
at_least : (bs : List ℕ) (i : ℕ) → IsStrictlyIncreasing bs → i < length bs → i ≤ slice_index bs i
at_least bs zero rising lt = omega arith
at_least bs (suc i) rising lt =
    let h = at_least bs i rising (omega (arith, lt)) in
    let next = below_from_sorted bs i (suc i) 0 (sorted_from_strictly_increasing bs rising) (omega arith) lt in
    omega (arith, h, next)

pub few_parts : (bs : List ℕ) → AreBorders bs → part_count bs ≤ 2 ^ 56
few_parts bs borders =
    let last = borders.last in
    elim (cases_lt 0 (length bs)) [
      | inl some ↦ let h = at_least bs (length bs - 1) borders.rising (omega (arith, some)) in omega (arith, h, last)
      | inr none ↦ omega (arith, none)
    ]

-- parts that were taken apart and put together again
pub same_parts : (es : List Entry) (c d : LogParts) → d.parts ≡ c.parts → d.steps.items ≡ c.steps.items → AreLogParts es c → AreLogParts es d
same_parts es c d parts steps h = record {
  borders = rw parts h.borders;
  cut = rw parts h.cut;
  within = rw steps h.within;
  list = rw steps h.list;
  steps = rw (parts, steps) h.steps;
}

-- what a function makes of one element more
pub map_taken : (f : ℕ → ℕ) (xs : List ℕ) (i x y : ℕ) → i < length xs → x ≡ get_or xs i x → y ≡ f x → map f (take i xs) ++ y ∷ [] ≡ map f (take (i + 1) xs)
map_taken f xs i x y lt is e = sym (ap (map f) (take_more xs i x lt) ∙ (map-append f (take i xs) (get_or xs i x ∷ []) ∙ ap (λ z. map f (take i xs) ++ z ∷ []) (sym (e ∙ ap f is))))
