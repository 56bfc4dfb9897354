-- Tests, joined by and, or and not.
use Rattle.vic_tree.proofs.Words.{◌≡◌, Bool, true, false, ◌&&◌, ◌||◌, arith, or-false, and_assoc, nat_tests}

pub or_false : (b : Bool) → (b || false) ≡ b
or_false = or-false

pub and_thrice : (a b c : Bool) → ((a && b) && c) ≡ (a && (b && c))
and_thrice = and_assoc

pub same_tests : (a b : Bool) → (a ≡ true → b ≡ true) → (b ≡ true → a ≡ true) → a ≡ b
same_tests a b f g = grind (arith, nat_tests)
