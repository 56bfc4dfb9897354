-- Words that spell something are the words that `frame` writes of it.
use Rattle.vic_answer.proofs.Words.{◌≡◌, ℕ, ◌%◌, ◌==◌, ◌&&◌, Bool, true, false, List, [], length, Result, Ok, Err, bytes_eq, codes, decimal, arith, ap, refl, ◌∙◌, if◌then◌else◌, eqb-true, BitMask, hex_bytes, value_text, and_then, word, words_reading, words_of, number_up_to, number_in, hex_number_in, hex_word, sixteen_in, longest_mask, value_in, mask_in, inventory_in, stay_quiet_in, reply_in, says_inventory, says_stay_quiet, says_reply, and_parts, Inventory, StayQuiet, is_uid, SpellFault, Words, Range, ok_or, nat_le, nat_lt, ◌^◌, map, fill_by_all, range_with_len}
use Rattle.std.specs.Fmt.{digits}
use Rattle.vic_answer.specs.declared.spell.Frame.{Frame}
use Rattle.vic_answer.specs.declared.spell.Frame.TheVariants as frame
use Rattle.vic_text.proofs.ValueLaws.{hex_text, number_text, same, value_text_of}
use Rattle.vic_answer.proofs.SpelledWords.{if_ok, ok_is}

then_ok : {A B : Type 0} (r : Result A SpellFault) (f : A → Result B SpellFault) (y : B) → and_then r f ≡ Ok y → (x : A) × (r ≡ Ok x) × (f x ≡ Ok y)
then_ok (Ok x) f y h = (x, refl, h)
then_ok (Err e) f y h = absurd (cc h)

-- ---- of one word

up_to_word : (most : ℕ) (w : List ℕ) (n : ℕ) → number_up_to most w ≡ Ok n → w ≡ decimal n
up_to_word most w n h =
    let t = then_ok (ok_or (number_in w) Words) _ n h in
    let u = if_ok (nat_le t.0 most) t.0 n Range t.2 in
    (number_text w t.0 (ok_is (number_in w) t.0 t.1)).0 ∙ ap decimal u.1

hex_word_is : (count : ℕ) (w : List ℕ) (n : ℕ) → hex_word count w ≡ Ok n → w ≡ hex_bytes count n
hex_word_is count w n h = hex_text count w n (ok_is (hex_number_in count w) n h)

sixteen_word : (w : List ℕ) (sixteen : Bool) → sixteen_in w ≡ Ok sixteen → w ≡ decimal (if sixteen then 16 else 1)
unfolding digits
sixteen_word w sixteen h = grind (arith, same)

mask_word : (len : ℕ) (w : List ℕ) (m : BitMask) → mask_in len w ≡ Ok m → (len ≡ m.len) × (w ≡ value_text m)
mask_word len w m h =
    let t = then_ok (ok_or (value_in len w) Words) _ m h in
    let u = if_ok (nat_lt t.0 (2 ^ len)) (record { len = len; value = t.0 }) m Range t.2 in
    (ap (λ m. m.len) u.1, value_text_of len w t.0 (ok_is (value_in len w) t.0 t.1) ∙ ap value_text u.1)

-- ---- of all words

and_same : (b : Bool) (v w : List ℕ) → (b && bytes_eq v w) ≡ true → (b ≡ true) × (v ≡ w)
and_same b v w h = let p = and_parts b (bytes_eq v w) h in (p.0, same v w p.1)

-- as many words are those at the positions from 0
so_many : (n : ℕ) (ws : List (List ℕ)) → (length ws == n) ≡ true → ws ≡ map (word ws) (range_with_len 0 n)
so_many n ws h = fill_by_all (word ws) ws n [] (eqb-true (length ws) n h) (λ k lt. refl)

-- the words of an Inventory request
inventory_is : (ws : List (List ℕ)) (what : Frame) → says_inventory ws ≡ true → and_then (inventory_in (word ws 3) (word ws 5) (word ws 7) (word ws 8)) (λ q. Ok (frame.Request q)) ≡ Ok what → ws ≡ words_of what
inventory_is ws what says h =
    let t6 = and_same _ (word ws 6) (codes "mask") says in
    let t4 = and_same _ (word ws 4) (codes "slots") t6.0 in
    let t2 = and_same _ (word ws 2) (codes "link") t4.0 in
    let t1 = and_same _ (word ws 1) (codes "inventory") t2.0 in
    let t0 = and_same _ (word ws 0) (codes "request") t1.0 in
    let q = then_ok (inventory_in (word ws 3) (word ws 5) (word ws 7) (word ws 8)) _ what h in
    let a = then_ok (number_up_to 3 (word ws 3)) _ q.0 q.1 in
    let b = then_ok (sixteen_in (word ws 5)) _ q.0 a.2 in
    let d = then_ok (number_up_to (longest_mask b.0) (word ws 7)) _ q.0 b.2 in
    let m = then_ok (mask_in d.0 (word ws 8)) _ q.0 d.2 in
    let value = mask_word d.0 (word ws 8) m.0 m.1 in
    let is : frame.Request (Inventory a.0 b.0 m.0) ≡ what = cc (m.2, q.2) in
    let len = up_to_word (longest_mask b.0) (word ws 7) d.0 d.1 ∙ ap decimal value.0 in
    so_many 9 ws t0.0
    ∙ cc (t0.1, t1.1, t2.1, up_to_word 3 (word ws 3) a.0 a.1, t4.1, sixteen_word (word ws 5) b.0 b.1, t6.1, len, value.1) ∙ ap words_of is

stay_quiet_is : (ws : List (List ℕ)) (what : Frame) → says_stay_quiet ws ≡ true → and_then (stay_quiet_in (word ws 3) (word ws 5)) (λ q. Ok (frame.Request q)) ≡ Ok what → ws ≡ words_of what
stay_quiet_is ws what says h =
    let t4 = and_same _ (word ws 4) (codes "uid") says in
    let t2 = and_same _ (word ws 2) (codes "link") t4.0 in
    let t1 = and_same _ (word ws 1) (codes "stay-quiet") t2.0 in
    let t0 = and_same _ (word ws 0) (codes "request") t1.0 in
    let q = then_ok (stay_quiet_in (word ws 3) (word ws 5)) _ what h in
    let a = then_ok (number_up_to 3 (word ws 3)) _ q.0 q.1 in
    let b = then_ok (hex_word 8 (word ws 5)) _ q.0 a.2 in
    let is : frame.Request (StayQuiet a.0 b.0) ≡ what = cc (b.2, q.2) in
    so_many 6 ws t0.0
    ∙ cc (t0.1, t1.1, t2.1, up_to_word 3 (word ws 3) a.0 a.1, t4.1, hex_word_is 8 (word ws 5) b.0 b.1) ∙ ap words_of is

reply_is : (ws : List (List ℕ)) (what : Frame) → says_reply ws ≡ true → and_then (reply_in (word ws 2) (word ws 4) (word ws 6)) (λ r. Ok (frame.Response r)) ≡ Ok what → ws ≡ words_of what
reply_is ws what says h =
    let t5 = and_same _ (word ws 5) (codes "uid") says in
    let t3 = and_same _ (word ws 3) (codes "dsfid") t5.0 in
    let t1 = and_same _ (word ws 1) (codes "flags") t3.0 in
    let t0 = and_same _ (word ws 0) (codes "response") t1.0 in
    let r = then_ok (reply_in (word ws 2) (word ws 4) (word ws 6)) _ what h in
    let a = then_ok (hex_word 1 (word ws 2)) _ r.0 r.1 in
    let b = then_ok (hex_word 1 (word ws 4)) _ r.0 a.2 in
    let d = then_ok (hex_word 8 (word ws 6)) _ r.0 b.2 in
    let whole = (if_ok (a.0 % 2 == 0 && is_uid d.0) (record { flags = a.0; dsfid = b.0; uid = d.0 }) r.0 Words d.2).1 in
    let is : frame.Response (record { flags = a.0; dsfid = b.0; uid = d.0 }) ≡ what = cc (whole, r.2) in
    so_many 7 ws t0.0
    ∙ cc (t0.1, t1.1, hex_word_is 1 (word ws 2) a.0 a.1, t3.1, hex_word_is 1 (word ws 4) b.0 b.1, t5.1, hex_word_is 8 (word ws 6) d.0 d.1) ∙ ap words_of is

if_cases : {A P : Type 0} (b : Bool) (x y z : A) → (if b then x else y) ≡ z → (b ≡ true → x ≡ z → P) → (b ≡ false → y ≡ z → P) → P
if_cases true x y z h then_so else_so = then_so refl h
if_cases false x y z h then_so else_so = else_so refl h

-- words that are taken are those of what they say
pub words_taken : (ws : List (List ℕ)) (what : Frame) → words_reading ws ≡ Ok what → ws ≡ words_of what
words_taken ws what h =
    if_cases (says_inventory ws) _ _ (Ok what) h (inventory_is ws what) (λ no_inventory h.
    if_cases (says_stay_quiet ws) _ _ (Ok what) h (stay_quiet_is ws what) (λ no_stay_quiet h.
    if_cases (says_reply ws) _ (Err Words) (Ok what) h (reply_is ws what) (λ no_reply h. absurd (cc h))))
