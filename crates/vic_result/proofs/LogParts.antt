-- The parts of the object of a log.
use Rattle.vic_result.proofs.Words.{◌≡◌, Bool, List, Option, ℕ, refl}
use Rattle.vic_result.specs.ResultObject.{log_head_json}

pub same_head : {n m : List ℕ} {p q : Option (List ℕ)} {a b : Bool} {f g : List ℕ} → n ≡ m → p ≡ q → a ≡ b → f ≡ g → log_head_json n p a f ≡ log_head_json m q b g
same_head d e h i = rw (d, e, h, i) refl
