-- A set of UIDs, spread over rows.
use Rattle.vic_log.proofs.Words.{◌≡◌, ℕ, zero, suc, ◌<◌, Bool, true, false, Some, List, [], ◌∷◌, ◌++◌, length, take, get_or, refl, sym, ap, ◌∙◌, arith, nat_eq, ◌||◌, not, slice_get, set, cond, common_steps, nat_tests, false_from_ne_true, ne_eqb, eq-eqb, list_any-append, list_any_at, get_or_from_slice_get, slice_get_within, has, IsUid, row_of, IsUidSet, IsSetOf, IsIndex, LogLine, entries, listed, length-set, get_or-set_same, get_or-set_other, or-false, is_at, with_item, vec_len, nat_cmp}
use Rattle.std.specs.BTreeSet as sorted
use Rattle.vic_log.specs.declared.uid_set.UidSet.{UidSet}
use Rattle.vic_log.specs.inner.UidSets.{place_of, is_held}
use Rattle.vic_log.proofs.Push.{listed-append, entries_next}

has_got : (us : List ℕ) (k u : ℕ) → slice_get us k ≡ Some u → has us u ≡ true
has_got us k u h = list_any_at (nat_eq u) us k 0 (slice_get_within us k u h) (eq-eqb u _ (sym (get_or_from_slice_get us k u 0 h)))

-- a number put where 0 was
has-set : (row : List ℕ) (k n u : ℕ) → slice_get row k ≡ Some 0 → 0 < u → has (set row k n) u ≡ (has row u || nat_eq u n)
has-set [] k n u h pos = cc
has-set (x ∷ row) zero n u h pos = grind (arith, nat_tests)
has-set (x ∷ row) (suc k) n u h pos = grind (arith, nat_tests, has-set row k n u)

-- a UID put into its row
pub record IsPut (old new : UidSet) (uid k : ℕ) : Type 0 where
  pub there : place_of uid (length old.rows.items) < length old.rows.items
  pub free : slice_get (row_of old.rows.items uid) k ≡ Some 0
  pub rows : new.rows.items ≡ set old.rows.items (place_of uid (length old.rows.items)) (set (row_of old.rows.items uid) k uid)
  pub others : new.others ≡ old.others

pub held-put : (old new : UidSet) (uid k : ℕ) → IsPut old new uid k → (u : ℕ) → 0 < u → is_held new u ≡ (is_held old u || nat_eq u uid)
held-put old new uid k h u pos = grind (arith, nat_tests, has-set, length-set, get_or-set_same, get_or-set_other, ne_eqb)

-- a set of which a row has a free element has none of its UIDs outside the rows
pub absent_besides : (s : UidSet) (uid k : ℕ) → IsUidSet s → slice_get (row_of s.rows.items uid) k ≡ Some 0 → sorted.contains nat_cmp s.others uid ≡ false
absent_besides s uid k h free = false_from_ne_true _ (λ there. let full = h.full uid there in let some = has_got (row_of s.rows.items uid) k 0 free in cc)

pub IsUidSet-put : (old new : UidSet) (uid k : ℕ) → IsUidSet old → IsPut old new uid k → IsUidSet new
IsUidSet-put old new uid k s h = grind (arith, nat_tests, has_got, length-set, get_or-set_same, get_or-set_other)

-- the row that was read is that of the UID
pub row_is : (s : UidSet) (uid rows place : ℕ) (row : List ℕ) → rows ≡ vec_len s.rows → place ≡ place_of uid rows → place < rows → row ≡ get_or s.rows.items place row → row ≡ row_of s.rows.items uid
row_is s uid rows place row long is there at = grind (arith, common_steps)

pub is_put : (old : UidSet) (uid rows place k number : ℕ) (row seen : List ℕ) → rows ≡ vec_len old.rows → place ≡ place_of uid rows → place < rows → row ≡ get_or old.rows.items place row → seen ≡ get_or old.rows.items place seen → slice_get seen k ≡ Some 0 → number ≡ uid
    → IsPut old (record { rows = with_item old.rows place (set row k number); others = old.others; lines = old.lines }) uid k
is_put old uid rows place k number row seen long is there at seen_at free same = grind (arith, common_steps)

-- a UID put beside the rows
pub held-beside : (old new : UidSet) (uid u : ℕ) → new.rows ≡ old.rows → sorted.contains nat_cmp new.others u ≡ cond (is_at (nat_cmp uid) u) true (sorted.contains nat_cmp old.others u) → is_held new u ≡ (is_held old u || nat_eq u uid)
held-beside old new uid u rows h = grind (arith, nat_tests)

pub IsUidSet-beside : (old new : UidSet) (uid : ℕ) → IsUidSet old → new.rows ≡ old.rows → has (row_of old.rows.items uid) 0 ≡ false → ((u : ℕ) → sorted.contains nat_cmp new.others u ≡ cond (is_at (nat_cmp uid) u) true (sorted.contains nat_cmp old.others u)) → IsUidSet new
IsUidSet-beside old new uid h rows full e = grind (arith, nat_tests)

-- ---- the UIDs of lines

pub has_at_line : (lines : List LogLine) (i u : ℕ) (l : LogLine) → slice_get lines i ≡ Some l → has (listed (l.item ∷ [])) u ≡ true → has (listed (entries lines)) u ≡ true
has_at_line [] i u l k h = cc
has_at_line (x ∷ lines) zero u l k h = grind (arith, nat_tests)
has_at_line (x ∷ lines) (suc i) u l k h = grind (arith, nat_tests, has_at_line lines i u l)

-- one line more
pub listed_next : (lines : List LogLine) (i : ℕ) (l : LogLine) → slice_get lines i ≡ Some l → listed (entries (take (suc i) lines)) ≡ listed (entries (take i lines)) ++ listed (l.item ∷ [])
listed_next lines i l k = ap listed (entries_next lines i l k) ∙ listed-append (entries (take i lines)) (l.item ∷ [])

-- ---- the index of a log

-- a UID put into the set
pub IsSetOf-push : (us : List ℕ) (uid : ℕ) (old new : UidSet) → IsSetOf us old → ((u : ℕ) → 0 < u → is_held new u ≡ (is_held old u || nat_eq u uid)) → IsSetOf (us ++ uid ∷ []) new
IsSetOf-push us uid old new h more u pos = rw (more u pos, h u pos, list_any-append, or-false) refl

-- a UID put into the set once more
pub IsSetOf-same : (us : List ℕ) (uid : ℕ) (old new : UidSet) → IsSetOf us old → has us uid ≡ true → ((u : ℕ) → 0 < u → is_held new u ≡ (is_held old u || nat_eq u uid)) → IsSetOf us new
IsSetOf-same us uid old new h there more u pos = grind (arith, nat_tests)

pub IsIndex-held : (us : List ℕ) (greatest : ℕ) (s : UidSet) → IsUidSet s → IsSetOf us s → IsIndex us greatest s
IsIndex-held us greatest s set_ uids_ = grind (arith, nat_tests)

-- what the set answers at a UID of a tag
pub has_unless : (us : List ℕ) (uid : ℕ) (s : UidSet) (is_new : Bool) → IsSetOf us s → IsUid uid → is_new ≡ not (is_held s uid) → has us uid ≡ not is_new
has_unless us uid s is_new h typed e = grind (arith, nat_tests, h uid)
