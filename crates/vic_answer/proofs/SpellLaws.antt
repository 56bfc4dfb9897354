-- Words that `frame` writes are read back as what it read.
use Rattle.vic_answer.proofs.Words.{◌≡◌, ℕ, ◌*◌, ◌%◌, ◌^◌, ◌<◌, ◌≤◌, Bool, true, false, Ok, decimal, arith, refl, lt-ltb, le-leb, eq-eqb, if◌then◌else◌, BitMask, IsMask, IsInRange, IsValid, Reply, IsReply, value_text, words_reading, request_words, reply_words, number_up_to, sixteen_in, longest_mask, mask_in, Request, Inventory, StayQuiet, IsUid, is_uid, UID_BITS}
use Rattle.std.specs.Fmt.{digits}
use Rattle.vic_answer.specs.declared.spell.Frame.TheVariants as frame
use Rattle.vic_text.proofs.HexBack.{hex_back}
use Rattle.vic_text.proofs.ValueLaws.{number_found, value_back}

-- a number in decimal, up to a greatest one
number_back : (most n : ℕ) → n ≤ most → n < 2 ^ 64 → number_up_to most (decimal n) ≡ Ok n
number_back most n h small = rw (number_found (decimal n) n small refl, le-leb n most h) refl

is_uid_back : (u : ℕ) → IsUid u → is_uid u ≡ true
is_uid_back u h = rw (le-leb (0xE0 * 2 ^ UID_BITS) u h.0, lt-ltb u (0xE1 * 2 ^ UID_BITS) h.1) refl

-- the words of a mask
mask_back : (m : BitMask) → IsMask m → mask_in m.len (value_text m) ≡ Ok m
mask_back m h =
    let fits = lt-ltb m.value (2 ^ m.len) h.1 in
    rw (value_back m.len m.value h.0 h.1, fits) refl

sixteen_back : (sixteen : Bool) → sixteen_in (decimal (if sixteen then 16 else 1)) ≡ Ok sixteen
unfolding digits
sixteen_back true = refl
sixteen_back false = refl

most_back : (link : ℕ) (sixteen : Bool) (m : BitMask) → IsMask m → IsValid (Inventory link sixteen m) → (link ≤ 3) × (m.len ≤ longest_mask sixteen)
most_back link true m h v = v
most_back link false m h v = (v, h.0)

pub request_back : (q : Request) → IsInRange q → IsValid q → words_reading (request_words q) ≡ Ok (frame.Request q)
request_back (Inventory link sixteen m) range valid =
    let most = most_back link sixteen m range valid in
    let len = number_back (longest_mask sixteen) m.len most.1 (omega (arith, range.0)) in
    rw (number_back 3 link most.0 (omega (arith, most.0)), sixteen_back sixteen, len, mask_back m range) refl
request_back (StayQuiet link uid) range valid =
    rw (number_back 3 link valid (omega (arith, valid)), hex_back 8 uid (omega arith) (omega (arith, range))) refl

pub reply_back : (r : Reply) → IsReply r → words_reading (reply_words r) ≡ Ok (frame.Response r)
reply_back r h =
    let even = eq-eqb (r.flags % 2) 0 h.even in
    rw (hex_back 1 r.flags (omega arith) (omega (arith, h.flags)), hex_back 1 r.dsfid (omega arith) (omega (arith, h.dsfid)), hex_back 8 r.uid (omega arith) (omega (arith, h.uid)), even, is_uid_back r.uid h.uid) refl
