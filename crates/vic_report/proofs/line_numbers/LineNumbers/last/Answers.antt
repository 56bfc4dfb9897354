use Rattle.std.proofs.Common.{IfSome}
use Rattle.vic_report.proofs.Words.{◌≡◌, ◌-◌, ◌≤◌, ℕ, List, Option, None, Some, true, arith, length, sym, slice_get, get_or_from_slice_get, has, place_of, rising_order, IsStrictlyIncreasing}
use Rattle.vic_report.proofs.line_numbers.LineNumbers.last.Goals as goal

last_above : (xs : List ℕ) (o : Option ℕ) → IsStrictlyIncreasing xs → slice_get xs (length xs - 1) ≡ o → IfSome o (λ last. (n : ℕ) → has xs n ≡ true → n ≤ last)
last_above xs None rising k = tt
last_above xs (Some last) rising k = λ n h.
    let p = place_of xs n 0 h in
    let o = rising_order xs rising p.0 (length xs - 1) (omega (arith, p.1)) (omega (arith, p.1)) in
    omega (arith, o, p.2, get_or_from_slice_get xs (length xs - 1) last 0 k)

pub returns-clause-above : goal.returns-clause-above
returns-clause-above c =
    rw (c.copied.ensures, ← c.self.view_is) (last_above c.self.inside.numbers.items _ c.self.invariant (rw c.deref.ensures.value at (sym c.last.ensures.value)))
