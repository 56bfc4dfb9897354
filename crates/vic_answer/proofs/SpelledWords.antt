-- What a word has, where it isn't refused.
use Rattle.vic_answer.proofs.Words.{◌≡◌, ℕ, ◌<◌, Bool, true, false, List, Option, Some, None, Result, Ok, Err, ok_or, if◌then◌else◌, refl, hex_word, hex_number_in, SpellFault, Words}
use Rattle.vic_text.proofs.ValueLaws.{byte_below}

pub ok_is : {A : Type 0} (r : Option A) (x : A) → ok_or r Words ≡ Ok x → r ≡ Some x
ok_is (Some y) x h = cc h
ok_is None x h = absurd (cc h)

pub if_ok : {A : Type 0} (b : Bool) (x y : A) (e : SpellFault) → (let r : Result A SpellFault = if b then Ok x else Err e in r) ≡ Ok y → (b ≡ true) × (x ≡ y)
if_ok true x y e h = (refl, cc h)
if_ok false x y e h = absurd (cc h)

pub byte_word : (w : List ℕ) (n : ℕ) → hex_word 1 w ≡ Ok n → n < 256
byte_word w n h = byte_below w n (ok_is (hex_number_in 1 w) n h)
