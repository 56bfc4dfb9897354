-- The first line of some bytes.
use Rattle.vic_table.proofs.Words.{◌≡◌, ℕ, suc, ◌+◌, ◌-◌, ◌<◌, ◌≤◌, true, false, Some, None, Option, List, [], ◌∷◌, ◌++◌, length, drop, take, get_or, map, refl, sym, ap, ap₂, subst, ◌∙◌, arith, nat_tests, common_steps, nat_eq, ◌==◌, cond-true, cond-false, cases_eq, ne_eqb, or_parts, or_from, eq-eqb, eqb-true, ⊎_elim, length_push, length-append, length-drop, length-take-le, drop_all, take_all, take-append_seam, take-append-le, drop-drop, drop-take, split_at, has, onto, cut, content, ends_with, all_but_last, without_last, lines_of_text, list_any_at, get_or-take, is_none, not}
use Rattle.std.specs.Prelude.{slice_range}
use Rattle.bstr.specs.Find.{IsFirstByte, is_byte}
use Rattle.vic_table.specs.Lines.{end_of_first}
use Rattle.vic_table.specs.inner.Reading.{IsLineAt}

-- ---- where a byte is

eq_swapped : (a b : ℕ) → nat_eq a b ≡ nat_eq b a
eq_swapped a b = ⊎_elim (λ e. rw e refl) (λ n. ne_eqb a b n ∙ sym (ne_eqb b a (λ e. n (sym e)))) (cases_eq a b)

-- what is at no place isn't there
pub none_has : (us : List ℕ) (u : ℕ) → ((k : ℕ) → k < length us → get_or us k 0 ≡ u → ⊥) → has us u ≡ false
none_has [] u none = refl
none_has (x ∷ us) u none = or_from (nat_eq u x) (has us u) (ne_eqb u x (λ e. none 0 (omega arith) (sym e))) (none_has us u (λ k lt e. none (suc k) (omega arith) e))

pub has_at : (us : List ℕ) (u k : ℕ) → k < length us → get_or us k 0 ≡ u → has us u ≡ true
has_at us u k h e = list_any_at (nat_eq u) us k 0 h (eq-eqb u _ (sym e))

-- ---- lines that are cut

parted : (b : ℕ) (tail : List ℕ) → has (b ∷ tail) 10 ≡ false → (b == 10 ≡ false) × (has tail 10 ≡ false)
parted b tail h = let p = or_parts (nat_eq 10 b) (has tail 10) h in (eq_swapped b 10 ∙ p.0, p.1)

cut-line : (line rest : List ℕ) → has line 10 ≡ false → cut (line ++ 10 ∷ rest) ≡ (line ++ 10 ∷ []) ∷ cut rest
cut-line [] rest h = refl
cut-line (b ∷ line) rest h = let p = parted b line h in cond-false _ _ _ p.0 ∙ ap (onto b) (cut-line line rest p.1)

cut-only : (line : List ℕ) → has line 10 ≡ false → 0 < length line → cut line ≡ line ∷ []
cut-only [] h some = absurd (omega arith)
cut-only (b ∷ []) h some = cond-false _ _ _ (parted b [] h).0
cut-only (b ∷ x ∷ tail) h some = let p = parted b (x ∷ tail) h in cond-false _ _ _ p.0 ∙ ap (onto b) (cut-only (x ∷ tail) p.1 (omega arith))

not_last : (line : List ℕ) (b : ℕ) → has line b ≡ false → ends_with b line ≡ false
not_last line b h = grind (arith, common_steps)

all_but_last-push : (line : List ℕ) (b : ℕ) → all_but_last (line ++ b ∷ []) ≡ line
all_but_last-push line b = let place : length (line ++ b ∷ []) - 1 ≡ length line = omega (arith, length_push line b) in rw place (take-append_seam line (b ∷ []))

ends_with-push : (line : List ℕ) (b : ℕ) → ends_with b (line ++ b ∷ []) ≡ true
ends_with-push line b = grind (arith, common_steps)

content-end : (line : List ℕ) → content (line ++ 10 ∷ []) ≡ without_last 13 line
content-end line = cond-true _ _ _ (ends_with-push line 10) ∙ ap (without_last 13) (all_but_last-push line 10)

content-open : (line : List ℕ) → has line 10 ≡ false → content line ≡ line
content-open line h = cond-false _ _ _ (not_last line 10 h)

-- ---- the first line of some bytes

-- it has n bytes, and with its end as many as lie before the others
pub record IsFirstLine (bytes : List ℕ) (n next : ℕ) : Type 0 where
  pub order : n ≤ next
  pub some : 0 < next
  pub bound : next ≤ length bytes
  pub lines : lines_of_text bytes ≡ take n bytes ∷ lines_of_text (drop next bytes)
  pub end_is : end_of_first (cut bytes) ≡ take (next - n) (drop n bytes)

seam_take : (line more : List ℕ) → take (suc (length line)) (line ++ 10 ∷ more) ≡ line ++ 10 ∷ []
seam_take [] more = refl
seam_take (b ∷ line) more = ap (λ xs. b ∷ xs) (seam_take line more)

seam_drop : (line more : List ℕ) → drop (suc (length line)) (line ++ 10 ∷ more) ≡ more
seam_drop [] more = refl
seam_drop (b ∷ line) more = seam_drop line more

sum_is : (n m : ℕ) → n ≤ m → suc m ≡ n + (suc m - n)
sum_is n m h = omega arith

module _ (line more : List ℕ) (n : ℕ) (no_lf : has line 10 ≡ false) (low : n ≤ length line) (cr_is : take n line ≡ without_last 13 line) where
  first_is : content (line ++ 10 ∷ []) ≡ take n (line ++ 10 ∷ more)
  first_is = content-end line ∙ (sym cr_is ∙ sym (take-append-le n line (10 ∷ more) low))

  size_is : length (content (line ++ 10 ∷ [])) ≡ n
  size_is = ap length (content-end line ∙ sym cr_is) ∙ length-take-le n line low

  tail_is : drop n (line ++ 10 ∷ []) ≡ take (suc (length line) - n) (drop n (line ++ 10 ∷ more))
  tail_is =
      ap (drop n) (sym (seam_take line more))
      ∙ (ap (λ m. drop n (take m (line ++ 10 ∷ more))) (sum_is n (length line) low) ∙ drop-take n (suc (length line) - n) (line ++ 10 ∷ more))

  with_lf : IsFirstLine (line ++ 10 ∷ more) n (suc (length line))
  with_lf = record {
    order = omega arith;
    some = omega arith;
    bound = omega (arith, length-append line (10 ∷ more));
    lines = ap (map content) (cut-line line more no_lf) ∙ ap₂ (λ x xs. x ∷ xs) first_is (ap lines_of_text (sym (seam_drop line more)));
    end_is = ap end_of_first (cut-line line more no_lf) ∙ (ap (λ m. drop m (line ++ 10 ∷ [])) size_is ∙ tail_is);
  }

none_taken : (line : List ℕ) → drop (length line) line ≡ take (length line - length line) (drop (length line) line)
none_taken line = let e = drop_all (length line) line (omega arith) in let z : length line - length line ≡ 0 = omega arith in rw (e, z) refl

without_lf : (line : List ℕ) → has line 10 ≡ false → 0 < length line → IsFirstLine line (length line) (length line)
without_lf line h some = record {
  order = omega arith;
  some = some;
  bound = omega arith;
  lines = ap (map content) (cut-only line h some) ∙ ap₂ (λ x xs. x ∷ xs) (content-open line h ∙ sym (take_all (length line) line (omega arith))) (ap lines_of_text (sym (drop_all (length line) line (omega arith))));
  end_is = ap end_of_first (cut-only line h some) ∙ (ap (λ c. drop (length c) line) (content-open line h) ∙ none_taken line);
}

-- ---- in a text

module _ (text : List ℕ) (start n next : ℕ) (f : IsFirstLine (drop start text) n next) (within : start ≤ length text) where
  row_is : slice_range text start (start + n) ≡ take n (drop start text)
  row_is = let m : (start + n) - start ≡ n = omega arith in ap (λ m. take m (drop start text)) m

  rest_is : drop (start + next) text ≡ drop next (drop start text)
  rest_is = sym (drop-drop next start text)

  end_is_at : slice_range text (start + n) (start + next) ≡ take (next - n) (drop n (drop start text))
  end_is_at =
      let m : (start + next) - (start + n) ≡ next - n = omega arith in
      ap (λ m. take m (drop (start + n) text)) m ∙ ap (take (next - n)) (sym (drop-drop n start text))

  pub IsLineAt-first : (e m : ℕ) → e ≡ start + n → m ≡ start + next → IsLineAt text start (record { start = start; end = e; next = m })
  IsLineAt-first e m e_is m_is = rw (e_is, m_is) (record {
    start_is = refl;
    low = omega arith;
    high = omega (arith, f.order);
    some = omega (arith, f.some);
    bound = omega (arith, f.bound, length-drop start text);
    lines = f.lines ∙ ap₂ (λ x xs. x ∷ xs) (sym row_is) (ap lines_of_text (sym rest_is));
    end_is = f.end_is ∙ sym end_is_at;
  })

-- before the first place of LF there is none
lacks : (bytes : List ℕ) (k : ℕ) → k ≤ length bytes → ((i : ℕ) → 0 ≤ i → i < k → (get_or bytes i 0 == 10) ≡ true → ⊥) → has (take k bytes) 10 ≡ false
lacks bytes k h none = none_has (take k bytes) 10 (λ i lt e.
    let below : i < k = omega (arith, length-take-le k bytes h) in none i (omega arith) below (eq-eqb (get_or bytes i 0) 10 (sym (get_or-take k bytes i 0 below) ∙ e)))

whole_is : (bytes : List ℕ) (k : ℕ) → k < length bytes → get_or bytes k 0 ≡ 10 → bytes ≡ take k bytes ++ 10 ∷ drop (suc k) bytes
whole_is bytes k h e = rw e at (split_at bytes k 0 h)

first_with_lf : (bytes : List ℕ) (k n : ℕ) → IsFirstByte (is_byte 10) bytes (Some k) → n ≤ length (take k bytes) → take n (take k bytes) ≡ without_last 13 (take k bytes) → IsFirstLine bytes n (suc k)
first_with_lf bytes k n found low cr =
    let within : k < length bytes = found.0.high in
    let size : length (take k bytes) ≡ k = length-take-le k bytes (omega arith) in
    let there : get_or bytes k 0 ≡ 10 = eqb-true _ 10 found.1 in
    let no_lf = lacks bytes k (omega arith) (λ i a b. found.0.before i a b) in
    let P : List ℕ → Type 0 = λ bs. IsFirstLine bs n (suc k) in
    let Q : ℕ → Type 0 = λ m. IsFirstLine (take k bytes ++ 10 ∷ drop (suc k) bytes) n (suc m) in
    subst P (sym (whole_is bytes k within there)) (subst Q size (with_lf (take k bytes) (drop (suc k) bytes) n no_lf low cr))

pub IsLineAt-lf : (text : List ℕ) (start k n : ℕ) (rest : List ℕ) → rest ≡ drop start text → start ≤ length text → IsFirstByte (is_byte 10) rest (Some k)
    → n ≤ length (take k rest) → take n (take k rest) ≡ without_last 13 (take k rest)
    → IsLineAt text start (record { start = start; end = start + n; next = start + k + 1 })
IsLineAt-lf text start k n rest same h found low cr =
    let F : List ℕ → Type 0 = λ bs. IsFirstLine bs n (suc k) in
    IsLineAt-first text start n (suc k) (subst F same (first_with_lf rest k n found low cr)) h (start + n) (start + k + 1) refl (omega arith)

pub IsLineAt-end : (text : List ℕ) (start : ℕ) (rest : List ℕ) → rest ≡ drop start text → start ≤ length text → (length rest == 0) ≡ false → IsFirstByte (is_byte 10) rest None
    → IsLineAt text start (record { start = start; end = length text; next = length text })
IsLineAt-end text start rest same h some none =
    let no_lf : has rest 10 ≡ false = none_has rest 10 (λ i lt e. none i (omega arith) lt (eq-eqb _ 10 e)) in
    let size : length rest ≡ length text - start = ap length same ∙ length-drop start text in
    let F : List ℕ → Type 0 = λ bs. IsFirstLine bs (length rest) (length rest) in
    let n = length rest in
    IsLineAt-first text start n n (subst F same (without_lf rest no_lf (grind (arith, nat_tests)))) h (length text) (length text) (omega arith) (omega arith)

-- ---- what a search for a byte tells

pub is_none-found : (bytes : List ℕ) (b : ℕ) (r : Option ℕ) → IsFirstByte (is_byte b) bytes r → is_none r ≡ not (has bytes b)
is_none-found bytes b None none = ap not (sym (none_has bytes b (λ i lt e. none i (omega arith) lt (eq-eqb _ b e))))
is_none-found bytes b (Some k) found = ap not (sym (has_at bytes b k found.0.high (eqb-true _ b found.1)))
