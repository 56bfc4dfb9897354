-- The bytes of a frame: each is a byte, and they are few.
use Rattle.vic_log.proofs.Words.{◌≡◌, ℕ, zero, suc, ◌/◌, ◌≤◌, List, [], ◌∷◌, ◌++◌, length, ◌∙◌, arith, Request, AreBytes, crc, with_crc, Reply, IsReply, reply_body, reply_spelling, IsInRange, IsValid, request_body, request_spelling, length_bytes_of, length-with_crc}
use Rattle.vic_frame.specs.Bytes.{bytes_of}

AreBytes-bytes_of : (k n : ℕ) → AreBytes (bytes_of k n)
unfolding bytes_of
AreBytes-bytes_of zero n i = omega arith
AreBytes-bytes_of (suc k) n zero = omega arith
AreBytes-bytes_of (suc k) n (suc i) = AreBytes-bytes_of k (n / 256) i

AreBytes-append : (xs ys : List ℕ) → AreBytes xs → AreBytes ys → AreBytes (xs ++ ys)
AreBytes-append [] ys h k i = k i
AreBytes-append (x ∷ xs) ys h k zero = h 0
AreBytes-append (x ∷ xs) ys h k (suc i) = AreBytes-append xs ys (λ j. h (suc j)) k i

AreBytes-with_crc : (b : List ℕ) → AreBytes b → AreBytes (with_crc b)
AreBytes-with_crc b h = AreBytes-append b (bytes_of 2 (crc b)) h (AreBytes-bytes_of 2 (crc b))

AreBytes-body : (q : Request) → IsInRange q → IsValid q → AreBytes (request_body q)
AreBytes-body q r v = grind (arith, AreBytes-bytes_of)

pub AreBytes-request : (q : Request) → IsInRange q → IsValid q → AreBytes (request_spelling q)
AreBytes-request q r v = AreBytes-with_crc (request_body q) (AreBytes-body q r v)

body_few : (q : Request) → IsInRange q → length (request_body q) ≤ 11
body_few q r = grind (arith, length_bytes_of)

pub length-request : (q : Request) → IsInRange q → length (request_spelling q) ≤ 13
length-request q r = let e = length-with_crc (request_body q) in let few = body_few q r in omega arith

pub AreBytes-reply : (r : Reply) → IsReply r → AreBytes (reply_spelling r)
AreBytes-reply r h = AreBytes-with_crc (reply_body r) (grind (arith, AreBytes-bytes_of))

pub length-reply : (r : Reply) → length (reply_spelling r) ≡ 12
length-reply r = let e = length_bytes_of 8 r.uid in length-with_crc (reply_body r) ∙ omega arith
