-- Names cut off from lines.
use Rattle.std.proofs.Common.{◌≡◌, ◌≢◌, ◌∙◌, ℕ, zero, suc, List, [], ◌∷◌, Option, Some, None, MatchOption, length, ◌++◌, arith, sym, refl, ap, append_assoc}
use Rattle.std.proofs.lemmas.Grind.{flat_map-append}
use Rattle.std.proofs.lemmas.List.Elements.{All-append, All-from_get_or}
use Rattle.std.proofs.lemmas.List.{length-append, append-nil}
use Rattle.std.proofs.lemmas.Str.{IsUtf8-append, IsUtf8-nil}
use Rattle.std.proofs.lemmas.Str.Pattern.{IsSplitOnceResult, split_after, split_parts}
use Rattle.std.specs.List.{All, flat_map}
use Rattle.std.specs.Str.{IsUtf8}
use Rattle.vic_log.specs.Lines.{lf}
use Rattle.vicinity_c.specs.Run.{AreNames}
use denote.Ref.{Bor}
use lib.Utf8.{encode}

-- these names stand in front, and whatever names the bytes have, the others are the rest
pub record AreCut (bytes : List ℕ) (names : List (List ℕ)) (rest : List ℕ) : Type 0 where
  pub front : List ℕ
  pub split : bytes ≡ front ++ rest
  pub are_names : AreNames front names
  pub others : (all : List (List ℕ)) → AreNames bytes all → (more : List (List ℕ)) × AreNames rest more

-- each of one, and of those behind the first
All-one : {X : Type 0} (P : X → Type 0) (x : X) → P x → All P (x ∷ [])
All-one P x h zero d lt = h
All-one P x h (suc k) d lt = absurd (omega arith)

All-behind : {X : Type 0} (P : X → Type 0) (x : X) (xs : List X) → All P (x ∷ xs) → All P xs
All-behind P x xs h k d lt = h (suc k) d (omega arith)

-- names are UTF-8
flat_map-utf8 : (names : List (List ℕ)) → All IsUtf8 names → IsUtf8 (flat_map (λ name. name ++ lf ∷ []) names)
unfolding encode
flat_map-utf8 [] h = IsUtf8-nil
flat_map-utf8 (m ∷ ms) h =
    let one : IsUtf8 m = h 0 [] (omega arith) in
    let end : IsUtf8 (lf ∷ []) = (lf ∷ [], (refl, refl)) in
    IsUtf8-append (m ++ lf ∷ []) (flat_map (λ name. name ++ lf ∷ []) ms) (IsUtf8-append m (lf ∷ []) one end) (flat_map-utf8 ms (All-behind IsUtf8 m ms h))

pub AreNames-utf8 : (bytes : List ℕ) (names : List (List ℕ)) → AreNames bytes names → IsUtf8 bytes
AreNames-utf8 bytes names h = rw h.lines (flat_map-utf8 names h.utf8)

-- the first LF ends the first name
AreNames-first : (rest m : List ℕ) (ms : List (List ℕ)) (r : Option (Bor (List ℕ) × Bor (List ℕ))) → IsSplitOnceResult lf rest r → AreNames rest (m ∷ ms) → MatchOption r ⊥ (λ x. (x.0.now ≡ m) × (x.1.now ≡ flat_map (λ name. name ++ lf ∷ []) ms))
AreNames-first rest m ms r split h =
    let e : rest ≡ m ++ (lf ∷ flat_map (λ name. name ++ lf ∷ []) ms) = simp append_assoc at h.lines in
    split_after lf rest m (flat_map (λ name. name ++ lf ∷ []) ms) r split (omega arith) e (λ i lt. h.single 0 [] (omega arith) i 0 lt)

-- names behind the first
AreNames-behind : (rest : List ℕ) (x : Bor (List ℕ) × Bor (List ℕ)) (all : List (List ℕ)) → IsSplitOnceResult lf rest (Some x) → AreNames rest all → (more : List (List ℕ)) × AreNames x.1.now more
AreNames-behind rest x [] split h =
    let parts = split_parts lf rest (Some x) split (omega arith) in
    let e : 0 ≡ length (x.0.now ++ (lf ∷ x.1.now)) = ap length (sym h.lines ∙ parts.0) in
    absurd (omega (arith, length-append x.0.now (lf ∷ x.1.now)))
AreNames-behind rest x (m ∷ ms) split h = (
  ms,
  record {
    lines = (AreNames-first rest m ms (Some x) split h).1;
    utf8 = All-behind IsUtf8 m ms h.utf8;
    single = All-behind (λ name. All (λ b. b ≢ lf) name) m ms h.single;
  },
)

-- where there is no LF there is no name
pub AreNames-none : (rest : List ℕ) (all : List (List ℕ)) → IsSplitOnceResult lf rest None → AreNames rest all → rest ≡ []
AreNames-none rest [] split h = h.lines
AreNames-none rest (m ∷ ms) split h = absurd (AreNames-first rest m ms None split h)

-- one name more
pub AreCut-more : (bytes rest : List ℕ) (names : List (List ℕ)) (x : Bor (List ℕ) × Bor (List ℕ)) → IsSplitOnceResult lf rest (Some x) → IsUtf8 x.0.now → AreCut bytes names rest → AreCut bytes (names ++ x.0.now ∷ []) x.1.now
AreCut-more bytes rest names x split utf8 cut =
    let parts = split_parts lf rest (Some x) split (omega arith) in
    let alone : All (λ b. b ≢ lf) x.0.now = All-from_get_or (λ b. b ≢ lf) x.0.now 0 parts.1 in
    record {
      front = cut.front ++ (x.0.now ++ lf ∷ []);
      split = simp append_assoc (cut.split ∙ ap (λ r. cut.front ++ r) parts.0);
      are_names = record {
        lines = simp (flat_map-append, append-nil) (ap (λ f. f ++ (x.0.now ++ lf ∷ [])) cut.are_names.lines);
        utf8 = All-append IsUtf8 names (x.0.now ∷ []) cut.are_names.utf8 (All-one IsUtf8 x.0.now utf8);
        single = All-append (λ name. All (λ b. b ≢ lf) name) names (x.0.now ∷ []) cut.are_names.single (All-one (λ name. All (λ b. b ≢ lf) name) x.0.now alone);
      };
      others = λ all h. let rest' = cut.others all h in AreNames-behind rest x rest'.0 split rest'.1;
    }

-- ---- bytes have names in one way

-- behind the first LF of the same bytes is the same
behind_first : (m n r s : List ℕ) → All (λ b. b ≢ lf) m → All (λ b. b ≢ lf) n → m ++ (lf ∷ r) ≡ n ++ (lf ∷ s) → r ≡ s
behind_first [] [] r s h k e = cc e
behind_first [] (y ∷ n) r s h k e = absurd (k 0 0 (omega arith) (let d : y ≡ lf = cc e in d))
behind_first (x ∷ m) [] r s h k e = absurd (h 0 0 (omega arith) (let d : x ≡ lf = cc e in d))
behind_first (x ∷ m) (y ∷ n) r s h k e = behind_first m n r s (All-behind (λ b. b ≢ lf) x m h) (All-behind (λ b. b ≢ lf) y n k) (let d : m ++ (lf ∷ r) ≡ n ++ (lf ∷ s) = cc e in d)

abbrev lines_of : List (List ℕ) → List ℕ
lines_of names = flat_map (λ name. name ++ lf ∷ []) names

one_line : (m : List ℕ) (ms : List (List ℕ)) → lines_of (m ∷ ms) ≡ m ++ (lf ∷ lines_of ms)
one_line m ms = append_assoc m (lf ∷ []) (lines_of ms)

some_lines : (m : List ℕ) (ms : List (List ℕ)) → [] ≡ lines_of (m ∷ ms) → ⊥
some_lines m ms e =
    let l : 0 ≡ length (m ++ (lf ∷ lines_of ms)) = ap length (e ∙ one_line m ms) in
    omega (arith, l, length-append m (lf ∷ lines_of ms))

same_count : (ms ns : List (List ℕ)) → All (λ name. All (λ b. b ≢ lf) name) ms → All (λ name. All (λ b. b ≢ lf) name) ns → lines_of ms ≡ lines_of ns → length ms ≡ length ns
same_count [] [] h k e = refl
same_count [] (n ∷ ns) h k e = absurd (some_lines n ns e)
same_count (m ∷ ms) [] h k e = absurd (some_lines m ms (sym e))
same_count (m ∷ ms) (n ∷ ns) h k e =
    let same : m ++ (lf ∷ lines_of ms) ≡ n ++ (lf ∷ lines_of ns) = sym (one_line m ms) ∙ (e ∙ one_line n ns) in
    let rest = behind_first m n (lines_of ms) (lines_of ns) (h 0 [] (omega arith)) (k 0 [] (omega arith)) same in
    ap suc (same_count ms ns (All-behind (λ name. All (λ b. b ≢ lf) name) m ms h) (All-behind (λ name. All (λ b. b ≢ lf) name) n ns k) rest)

-- the same bytes have as many names
pub AreNames-as_many : (bytes : List ℕ) (ms ns : List (List ℕ)) → AreNames bytes ms → AreNames bytes ns → length ms ≡ length ns
AreNames-as_many bytes ms ns h k = same_count ms ns h.single k.single (sym h.lines ∙ k.lines)

-- nothing is cut off at first
pub AreCut-none : (bytes : List ℕ) → AreCut bytes [] bytes
AreCut-none bytes = record {
  front = [];
  split = refl;
  are_names = record { lines = refl; utf8 = λ k d lt. absurd (omega arith); single = λ k d lt. absurd (omega arith) };
  others = λ all h. (all, h);
}
