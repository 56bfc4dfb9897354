-- What the UIDs that a cell tells have to do with its digits.
use Rattle.vic_table.proofs.Words.{◌≡◌, ℕ, ◌+◌, ◌<◌, ◌≤◌, Bool, true, false, ◌||◌, Option, Some, None, List, [], ◌∷◌, ◌++◌, length, refl, sym, ap, ◌∙◌, arith, nat_tests, cond-true, cond-false, cases_Bool, inl, inr, append-nil, length-append, length-map, filter, filter-append, nat_eq, has, list_any, list_all, list_any-append, is_some, or-false, or_from, or_left, or_right, and_parts, eqb-true}
use Rattle.std.specs.List.{filter_map, cons_option, onto_first}
use Rattle.std.proofs.Common.{Result, Ok, Err, IsOk, cond}
use Rattle.std.proofs.lemmas.Bool.{or_cases}
use Rattle.std.proofs.lemmas.List.Sums.{list_all-from_AllPass}
use Rattle.std.proofs.lemmas.Slice.Eq.{bytes_eq-Decides}
use Rattle.hex.specs.declared.error.FromHexError.{FromHexError}
use Rattle.std.specs.Str.{bytes_eq}
use Rattle.std.specs.Char.{to_ascii_lowercase}
use Rattle.hex.specs.Hex.{decode_sized, is_hex_digit}
use Rattle.hex.proofs.HexLemmas.{IsOk-decode_sized}
use Rattle.vic_table.proofs.HexDigits.{hex_uid-len}
use Rattle.vic_table.specs.Conserved.{as_list, told_uids}
use Rattle.vic_table.specs.Contents.{is_space, is_blank, trimmed_start, trimmed_end, trimmed, folded, is_word, is_no_filler, is_no_hex_digit, hex_uid, uid_with, hex_runs, has_uid, spelled_uid, tells_uid}

abbrev pub digits : List ℕ → List ℕ
digits cell = filter is_no_filler cell

-- ---- a run of hex digits in a cell

-- the cell is these bytes, one of its runs, and those
pub record IsWithinCell (cell run : List ℕ) : Type 0 where
  pub before : List ℕ
  pub behind : List ℕ
  pub whole : cell ≡ before ++ (run ++ behind)

-- one of the runs passes the test
pub record SomeRun (test : List ℕ → Bool) (cell : List ℕ) : Type 0 where
  pub run : List ℕ
  pub is : test run ≡ true
  pub within : IsWithinCell cell run

-- the first run is where the cell begins
record FirstRun (cell : List ℕ) (runs : List (List ℕ)) : Type 0 where
  run : List ℕ
  others : List (List ℕ)
  runs_are : runs ≡ run ∷ others
  behind : List ℕ
  whole : cell ≡ run ++ behind

first_run : (cell : List ℕ) → FirstRun cell (hex_runs cell)
first_run [] = record { run = []; others = []; runs_are = refl; behind = []; whole = refl }
first_run (b ∷ cell) = elim (cases_Bool (is_no_hex_digit b)) [
  | inl apart ↦ record { run = []; others = hex_runs cell; runs_are = cond-true (is_no_hex_digit b) ([] ∷ hex_runs cell) (onto_first b (hex_runs cell)) apart; behind = b ∷ cell; whole = refl }
  | inr digit ↦
      let f = first_run cell in
      record { run = b ∷ f.run; others = f.others; runs_are = cond-false (is_no_hex_digit b) ([] ∷ hex_runs cell) (onto_first b (hex_runs cell)) digit ∙ ap (onto_first b) f.runs_are; behind = f.behind; whole = ap (λ xs. b ∷ xs) f.whole }
]

further : (b : ℕ) (cell run : List ℕ) → IsWithinCell cell run → IsWithinCell (b ∷ cell) run
further b cell run w = record { before = b ∷ w.before; behind = w.behind; whole = ap (λ xs. b ∷ xs) w.whole }

some_run-further : (test : List ℕ → Bool) (b : ℕ) (cell : List ℕ) → SomeRun test cell → SomeRun test (b ∷ cell)
some_run-further test b cell s = record { run = s.run; is = s.is; within = further b cell s.run s.within }

-- a run that passes
pub some_run : (test : List ℕ → Bool) (cell : List ℕ) → test [] ≡ false → list_any test (hex_runs cell) ≡ true → SomeRun test cell
some_run test [] none h = absurd (grind (arith, nat_tests))
some_run test (b ∷ cell) none h = elim (cases_Bool (is_no_hex_digit b)) [
  | inl apart ↦ some_run-further test b cell (some_run test cell none (go (test []) (list_any test (hex_runs cell)) none (sym (ap (list_any test) (cond-true (is_no_hex_digit b) ([] ∷ hex_runs cell) (onto_first b (hex_runs cell)) apart)) ∙ h)))
  | inr digit ↦
      let f = first_run cell in
      let runs = cond-false (is_no_hex_digit b) ([] ∷ hex_runs cell) (onto_first b (hex_runs cell)) digit ∙ ap (onto_first b) f.runs_are in
      elim (cases_Bool (test (b ∷ f.run))) [
        | inl here ↦ record { run = b ∷ f.run; is = here; within = record { before = []; behind = f.behind; whole = ap (λ xs. b ∷ xs) f.whole } }
        | inr not_here ↦
            let later = go (test (b ∷ f.run)) (list_any test f.others) not_here (sym (ap (list_any test) runs) ∙ h) in
            some_run-further test b cell (some_run test cell none (ap (list_any test) f.runs_are ∙ either (test f.run) (list_any test f.others) later))
      ]
] where
  go : (a b : Bool) → a ≡ false → (a || b) ≡ true → b ≡ true
  go a b e h = grind (arith, nat_tests)

  either : (a b : Bool) → b ≡ true → (a || b) ≡ true
  either a b h = grind (arith, nat_tests)

-- ---- a run that is a UID

pub has_one : (o : Option ℕ) (u : ℕ) → has (as_list o) u ≡ true → o ≡ Some u
has_one None u h = absurd (grind (arith, nat_tests))
has_one (Some v) u h = ap Some (sym (eqb-true u v (sym (or-false (nat_eq u v)) ∙ h)))

abbrev pub is_run_of : ℕ → List ℕ → Bool
is_run_of u run = has (as_list (hex_uid run)) u

cons_is : (o : Option ℕ) (us : List ℕ) → cons_option o us ≡ as_list o ++ us
cons_is None us = refl
cons_is (Some u) us = refl

has_runs : (runs : List (List ℕ)) (u : ℕ) → has (filter_map hex_uid runs) u ≡ list_any (is_run_of u) runs
has_runs [] u = refl
has_runs (run ∷ runs) u = ap (λ us. has us u) (cons_is (hex_uid run) (filter_map hex_uid runs)) ∙ (list_any-append (nat_eq u) (as_list (hex_uid run)) (filter_map hex_uid runs) ∙ ap (λ b. is_run_of u run || b) (has_runs runs u))

is_ok_from : (r : Result (List ℕ) FromHexError) (u : ℕ) → uid_with r ≡ Some u → IsOk r
is_ok_from (Ok bytes) u h = grind (arith, nat_tests)
is_ok_from (Err e) u h = cc

hex_digit_stays : (b : ℕ) → is_hex_digit b ≡ true → is_no_filler b ≡ true
hex_digit_stays b h = grind (arith, nat_tests)

digits_stay : (run : List ℕ) → list_all is_hex_digit run ≡ true → digits run ≡ run
digits_stay [] h = refl
digits_stay (b ∷ run) h = let p = and_parts (is_hex_digit b) (list_all is_hex_digit run) h in cond-true (is_no_filler b) (b ∷ digits run) (digits run) (hex_digit_stays b p.0) ∙ ap (λ xs. b ∷ xs) (digits_stay run p.1)

run_is : (run : List ℕ) (u : ℕ) → hex_uid run ≡ Some u → (length run ≡ 16) × (digits run ≡ run)
run_is run u h =
    let r = (IsOk-decode_sized run 8).0 (is_ok_from (decode_sized run 8) u h) in
    (omega (arith, r.0), digits_stay run (list_all-from_AllPass is_hex_digit run r.1))

-- ---- what a cell with a UID has

pub record HasDigits (cell : List ℕ) (u : ℕ) : Type 0 where
  pub enough : 16 ≤ length (digits cell)
  pub only : (v : ℕ) → spelled_uid cell ≡ Some v → v ≡ u

spelled_len : (cell : List ℕ) (v : ℕ) → spelled_uid cell ≡ Some v → length (digits cell) ≡ 16
spelled_len cell v h = (run_is (digits cell) v h).0

none_left : (xs run ys : List ℕ) → length (xs ++ (run ++ ys)) ≡ length run → xs ++ (run ++ ys) ≡ run
none_left [] run [] e = append-nil run
none_left [] run (y ∷ ys) e = absurd (omega (arith, e, length-append run (y ∷ ys)))
none_left (x ∷ xs) run ys e = absurd (omega (arith, e, length-append (x ∷ xs) (run ++ ys), length-append run ys))

in_run : (cell : List ℕ) (u : ℕ) → SomeRun (is_run_of u) cell → HasDigits cell u
in_run cell u s = record { enough = omega (arith, size, parts, long); only = λ v h. same v h } where
  is : hex_uid s.run ≡ Some u
  is = has_one (hex_uid s.run) u s.is

  size : length s.run ≡ 16
  size = (run_is s.run u is).0

  whole : digits cell ≡ digits s.within.before ++ (s.run ++ digits s.within.behind)
  whole = ap digits s.within.whole
      ∙ (filter-append is_no_filler s.within.before (s.run ++ s.within.behind)
      ∙ ap (λ xs. digits s.within.before ++ xs) (filter-append is_no_filler s.run s.within.behind ∙ ap (λ xs. xs ++ digits s.within.behind) (run_is s.run u is).1))

  parts : length (digits cell) ≡ length (digits s.within.before) + length (s.run ++ digits s.within.behind)
  parts = ap length whole ∙ length-append (digits s.within.before) (s.run ++ digits s.within.behind)

  long : length (s.run ++ digits s.within.behind) ≡ length s.run + length (digits s.within.behind)
  long = length-append s.run (digits s.within.behind)

  same : (v : ℕ) → spelled_uid cell ≡ Some v → v ≡ u
  same v h =
      let all : digits cell ≡ s.run = whole ∙ none_left (digits s.within.before) s.run (digits s.within.behind) (ap length (sym whole) ∙ (spelled_len cell v h ∙ sym size)) in
      let both = sym h ∙ (ap hex_uid all ∙ is) in cc

pub told_has : (cell : List ℕ) (u : ℕ) → has (told_uids cell) u ≡ true → HasDigits cell u
told_has cell u h = elim (or_cases (has (filter_map hex_uid (hex_runs cell)) u) (has (as_list (spelled_uid cell)) u) (sym (list_any-append (nat_eq u) (filter_map hex_uid (hex_runs cell)) (as_list (spelled_uid cell))) ∙ h)) [
  | inl run ↦ in_run cell u (some_run (is_run_of u) cell refl (sym (has_runs (hex_runs cell) u) ∙ run))
  | inr whole ↦
      let is = has_one (spelled_uid cell) u whole in
      record { enough = omega (arith, spelled_len cell u is); only = λ v h. let e = sym h ∙ is in cc }
]

-- a cell that tells a UID is one that `tells_uid`
one_is : (o : Option ℕ) (u : ℕ) → has (as_list o) u ≡ true → is_some o ≡ true
one_is None u h = absurd (grind (arith, nat_tests))
one_is (Some v) u h = refl

runs_tell : (runs : List (List ℕ)) (u : ℕ) → list_any (is_run_of u) runs ≡ true → list_any (λ run. is_some (hex_uid run)) runs ≡ true
runs_tell [] u h = absurd (grind (arith, nat_tests))
runs_tell (run ∷ runs) u h = elim (or_cases (is_run_of u run) (list_any (is_run_of u) runs) h) [
  | inl here ↦ or_left (is_some (hex_uid run)) (list_any (λ run. is_some (hex_uid run)) runs) (one_is (hex_uid run) u here)
  | inr there ↦ or_right (is_some (hex_uid run)) (list_any (λ run. is_some (hex_uid run)) runs) (runs_tell runs u there)
]

pub told_tells : (cell : List ℕ) (u : ℕ) → has (told_uids cell) u ≡ true → tells_uid cell ≡ true
told_tells cell u h = elim (or_cases (has (filter_map hex_uid (hex_runs cell)) u) (has (as_list (spelled_uid cell)) u) (sym (list_any-append (nat_eq u) (filter_map hex_uid (hex_runs cell)) (as_list (spelled_uid cell))) ∙ h)) [
  | inl run ↦ or_left (has_uid cell) (is_some (spelled_uid cell)) (runs_tell (hex_runs cell) u (sym (has_runs (hex_runs cell) u) ∙ run))
  | inr whole ↦ or_right (has_uid cell) (is_some (spelled_uid cell)) (one_is (spelled_uid cell) u whole)
]

-- ---- a short cell

space_goes : (b : ℕ) → is_space b ≡ true → is_no_filler b ≡ false
space_goes b h = grind (arith, nat_tests)

start_kept : (cell : List ℕ) → digits (trimmed_start cell) ≡ digits cell
start_kept [] = refl
start_kept (b ∷ cell) = elim (cases_Bool (is_space b)) [
  | inl space ↦ ap digits (cond-true (is_space b) (trimmed_start cell) (b ∷ cell) space) ∙ (start_kept cell ∙ sym (cond-false (is_no_filler b) (b ∷ digits cell) (digits cell) (space_goes b space)))
  | inr other ↦ ap digits (cond-false (is_space b) (trimmed_start cell) (b ∷ cell) other)
]

pub blank_has_none : (cell : List ℕ) → is_blank cell ≡ true → digits cell ≡ []
blank_has_none [] h = refl
blank_has_none (b ∷ cell) h = let p = and_parts (is_space b) (is_blank cell) h in cond-false (is_no_filler b) (b ∷ digits cell) (digits cell) (space_goes b p.0) ∙ blank_has_none cell p.1

end_kept : (cell : List ℕ) → digits (trimmed_end cell) ≡ digits cell
end_kept [] = refl
end_kept (b ∷ cell) = elim (cases_Bool (is_blank (b ∷ cell))) [
  | inl blank ↦ ap digits (cond-true (is_blank (b ∷ cell)) [] (b ∷ trimmed_end cell) blank) ∙ sym (blank_has_none (b ∷ cell) blank)
  | inr other ↦ ap digits (cond-false (is_blank (b ∷ cell)) [] (b ∷ trimmed_end cell) other) ∙ ap (λ xs. cond (is_no_filler b) (b ∷ xs) xs) (end_kept cell)
]

filter_short : (cell : List ℕ) → length (digits cell) ≤ length cell
filter_short [] = omega arith
filter_short (b ∷ cell) = elim (cases_Bool (is_no_filler b)) [
  | inl here ↦ rw (cond-true (is_no_filler b) (b ∷ digits cell) (digits cell) here) (omega (arith, filter_short cell))
  | inr not_here ↦ rw (cond-false (is_no_filler b) (b ∷ digits cell) (digits cell) not_here) (omega (arith, filter_short cell))
]

-- a cell that is a word has no more digits than the word has letters
pub word_is_short : (word cell : List ℕ) → is_word word cell ≡ true → length (digits cell) ≤ length word
word_is_short word cell h =
    let same : folded cell ≡ word = bytes_same (folded cell) word h in
    let size : length (trimmed cell) ≡ length word = sym (length-map (trimmed cell) to_ascii_lowercase) ∙ ap length same in
    let kept : digits (trimmed cell) ≡ digits cell = end_kept (trimmed_start cell) ∙ start_kept cell in
    omega (arith, size, ap length kept, filter_short (trimmed cell)) where
      bytes_same : (xs ys : List ℕ) → bytes_eq xs ys ≡ true → xs ≡ ys
      bytes_same xs ys h = grind (arith, nat_tests, bytes_eq-Decides xs ys)

-- a cell of fewer bytes than a UID has digits tells none
pub short_tells_none : (cell : List ℕ) → length cell < 16 → tells_uid cell ≡ false
short_tells_none cell short = or_from (has_uid cell) (is_some (spelled_uid cell)) no_run (ap is_some (hex_uid-len (digits cell) (λ e. absurd (omega (arith, filter_short cell))))) where
  none_in : SomeRun (λ run. is_some (hex_uid run)) cell → ⊥
  none_in s =
      let size = omega_size s in
      let none = ap is_some (hex_uid-len s.run (λ e. absurd (omega (arith, e, size)))) in
      let is = s.is in cc where
        omega_size : (s : SomeRun (λ run. is_some (hex_uid run)) cell) → length s.run ≤ length cell
        omega_size s = omega (arith, ap length s.within.whole, length-append s.within.before (s.run ++ s.within.behind), length-append s.run s.within.behind)

  no_run : has_uid cell ≡ false
  no_run = elim (cases_Bool (has_uid cell)) [
    | inl some ↦ absurd (none_in (some_run (λ run. is_some (hex_uid run)) cell refl some))
    | inr none ↦ none
  ]
