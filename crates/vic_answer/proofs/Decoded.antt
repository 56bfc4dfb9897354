-- The bytes at the start of a buffer are those that some digits spell.
use Rattle.vic_answer.proofs.Words.{◌≡◌, ℕ, List, length, take, Some, None, Result, Ok, Err, MatchResult, FromHexError}

pub decoded_bytes : (spelled : Result (List ℕ) FromHexError) (count : ℕ) (room : List ℕ)
    → MatchResult spelled (λ bytes. (Some count ≡ Some (length bytes)) × (take (length bytes) room ≡ bytes)) (λ _. Some count ≡ None)
    → Ok (take count room) ≡ spelled
decoded_bytes (Ok bytes) count room h = cc (h.0, h.1)
decoded_bytes (Err e) count room h = cc h
