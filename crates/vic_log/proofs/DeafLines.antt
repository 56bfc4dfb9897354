-- The hidden and the deaf reading of lines, one line after the other.
use Rattle.vic_log.proofs.Words.{◌≡◌, ℕ, zero, suc, ◌+◌, ◌==◌, List, [], ◌∷◌, length, drop, set, Bool, true, false, ◌&&◌, ◌||◌, Some, refl, sym, ap, ◌∙◌, arith, nat_tests, slice_get, length-map, get_or_from_slice_get, Entry, LogLine, entries}
use Rattle.std.proofs.lemmas.List.{map-set}
use Rattle.std.proofs.Math.Seq.{map-set_same}
use Rattle.vic_log.specs.Order.{numbers}
use Rattle.vic_log.specs.Deaf.{answers, captured, hidden_entries, deaf_entry, deaf_entries, ends_silent}
use Rattle.vic_log.specs.inner.Deaf.{silent_after}

pub drop_at : {A : Type 0} (xs : List A) (i : ℕ) (x : A) → slice_get xs i ≡ Some x → drop i xs ≡ x ∷ drop (suc i) xs
drop_at [] i x k = cc
drop_at (y ∷ xs) zero x k = let same : y ≡ x = cc in ap (λ z. z ∷ xs) same
drop_at (y ∷ xs) (suc i) x k = drop_at xs i x k

-- the entries of the lines from position i on
pub rest_at : (lines : List LogLine) (i : ℕ) (l : LogLine) → slice_get lines i ≡ Some l → entries (drop i lines) ≡ l.item ∷ entries (drop (suc i) lines)
rest_at lines i l k = ap entries (drop_at lines i l k)

-- whether entries end silent, by whether those before did
ends_after : Bool → List Entry → Bool
ends_after silent es = (silent && answers es == 0) || ends_silent es

pub silent_next : (silent : Bool) (e : Entry) (es : List Entry) → ((silent && answers (e ∷ es) == 0) || ends_silent (e ∷ es)) ≡ ((silent_after silent e && answers es == 0) || ends_silent es)
silent_next true e es = grind (arith, nat_tests)
silent_next false e es = grind (arith, nat_tests)

-- ---- a list of which the first i elements have been replaced

abbrev pub replaced : {A : Type 0} → List A → List A → ℕ → List A
replaced ds es zero = es
replaced (d ∷ ds) (e ∷ es) (suc i) = d ∷ replaced ds es i
replaced ds es (suc i) = []

pub replaced_next : {A : Type 0} (ds es : List A) (i : ℕ) (d : A) → length ds ≡ length es → slice_get ds i ≡ Some d → set (replaced ds es i) i d ≡ replaced ds es (suc i)
replaced_next [] es i d n k = cc
replaced_next (x ∷ ds) [] i d n k = absurd (omega arith)
replaced_next (x ∷ ds) (e ∷ es) zero d n k = let same : x ≡ d = cc in ap (λ z. z ∷ es) (sym same)
replaced_next (x ∷ ds) (e ∷ es) (suc i) d n k = ap (λ xs. x ∷ xs) (replaced_next ds es i d (omega arith) k)

pub replaced_all : {A : Type 0} (ds es : List A) (n : ℕ) → length ds ≡ length es → n ≡ length es → replaced ds es n ≡ ds
replaced_all [] [] zero n k = refl
replaced_all [] [] (suc i) n k = absurd (omega arith)
replaced_all [] (e ∷ es) i n k = absurd (omega arith)
replaced_all (d ∷ ds) [] i n k = absurd (omega arith)
replaced_all (d ∷ ds) (e ∷ es) zero n k = absurd (omega arith)
replaced_all (d ∷ ds) (e ∷ es) (suc i) n k = ap (λ xs. d ∷ xs) (replaced_all ds es i (omega arith) (omega arith))

-- the next one is as it was
not_yet : {A : Type 0} (ds es : List A) (i : ℕ) → length ds ≡ length es → slice_get (replaced ds es i) i ≡ slice_get es i
not_yet ds es zero n = refl
not_yet [] [] (suc i) n = refl
not_yet [] (e ∷ es) (suc i) n = absurd (omega arith)
not_yet (d ∷ ds) [] (suc i) n = absurd (omega arith)
not_yet (d ∷ ds) (e ∷ es) (suc i) n = not_yet ds es i (omega arith)

-- ---- the readings, entry by entry

pub length-hidden : (es : List Entry) → length (hidden_entries es) ≡ length es
length-hidden es = length-map es captured

pub length-deaf : (es : List Entry) → length (deaf_entries es) ≡ length es
length-deaf [] = refl
length-deaf (e ∷ es) = ap suc (length-deaf es)

pub hidden_at : (es : List Entry) (i : ℕ) (e : Entry) → slice_get es i ≡ Some e → slice_get (hidden_entries es) i ≡ Some (captured e)
hidden_at [] i e k = cc
hidden_at (f ∷ es) zero e k = let same : f ≡ e = cc in ap (λ x. Some (captured x)) same
hidden_at (f ∷ es) (suc i) e k = hidden_at es i e k

pub deaf_at : (es : List Entry) (i : ℕ) (e : Entry) → slice_get es i ≡ Some e → slice_get (deaf_entries es) i ≡ Some (deaf_entry e (answers (drop (suc i) es)))
deaf_at [] i e k = cc
deaf_at (f ∷ es) zero e k = let same : f ≡ e = cc in ap (λ x. Some (deaf_entry x (answers es))) same
deaf_at (f ∷ es) (suc i) e k = deaf_at es i e k

pub answers_at_rest : (es : List Entry) (i : ℕ) (e : Entry) → slice_get es i ≡ Some e → answers (drop i es) ≡ answers (e ∷ []) + answers (drop (suc i) es)
answers_at_rest es i e k = ap answers (drop_at es i e k) ∙ grind (arith, nat_tests)

-- ---- one more line replaced

item_at : (lines : List LogLine) (i : ℕ) (l : LogLine) → slice_get lines i ≡ Some l → slice_get (entries lines) i ≡ Some l.item
item_at [] i l k = cc
item_at (m ∷ lines) zero l k = let same : m ≡ l = cc in ap (λ (x : LogLine). Some x.item) same
item_at (m ∷ lines) (suc i) l k = item_at lines i l k

-- the entry of the next line, as it was
pub item_there : (ds es : List Entry) (lines : List LogLine) (i : ℕ) (l : LogLine) → length ds ≡ length es → entries lines ≡ replaced ds es i → slice_get lines i ≡ Some l → slice_get es i ≡ Some l.item
item_there ds es lines i l n h k = sym (not_yet ds es i n) ∙ (ap (λ xs. slice_get xs i) (sym h) ∙ item_at lines i l k)

pub replaced_line : (ds es : List Entry) (lines : List LogLine) (i : ℕ) (m : LogLine) → length ds ≡ length es → entries lines ≡ replaced ds es i → slice_get ds i ≡ Some m.item → entries (set lines i m) ≡ replaced ds es (suc i)
replaced_line ds es lines i m n h k = map-set (λ (l : LogLine). l.item) lines i m ∙ (ap (λ xs. set xs i m.item) h ∙ replaced_next ds es i m.item n k)

pub same_numbers : (lines : List LogLine) (i : ℕ) (l m : LogLine) → slice_get lines i ≡ Some l → m.number ≡ l.number → numbers (set lines i m) ≡ numbers lines
same_numbers lines i l m k n = map-set_same (λ (x : LogLine). x.number) lines i m l (n ∙ ap (λ (x : LogLine). x.number) (sym (get_or_from_slice_get lines i l l k)))
