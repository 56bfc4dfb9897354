-- Tags in a row by their keys.
use Rattle.vic_field.proofs.Words.{◌≡◌, ◌≢◌, ℕ, zero, suc, ◌+◌, ◌-◌, ◌<◌, ◌≤◌, Bool, true, false, List, [], ◌∷◌, ◌&&◌, ◌||◌, length, take, drop, get_or, map, not, refl, sym, ap, subst, ◌∙◌, arith, add-one, drop-cons, drop-drop, drop_of_length-le, length-drop, nat_eq, nat_le, nat_cmp, insert, ne_eqb, eq-eqb, le-leb, get_or-take, get_or-drop, IsStrictlySortedBy, keys_of, get_or_default, non_decreasing_from_sorted, IsKey, uid_of, has, AreRisingKeys, is_quiet_position, with_quiet, and-true, nat_tests, get_or-insert_at, get_or-insert_below, get_or-insert_above, length-insert, All-cons, list_any_at, get_or-map-range_with_len, length-map-range_with_len, All-permutation, IsPermutation-insert, below_from_sorted, sorted_from_strictly_increasing, Row, ready_between, tag_at, tags_with, HasKeyPositionBetween, IsKeyPosition, as_ready, HasNoneReady, IsNextReady, both_ways, list_any_none, range_with_len, map-map, fill_by_all}
use Rattle.vic_field.specs.Rows.{entries}
use Rattle.vic_field.specs.declared.quiet.QuietPositions.{QuietPositions}

-- ---- where keys stand

-- between two positions where the key before the one and that at the other are so
pub between : (ks : List ℕ) (key from to : ℕ) → IsStrictlySortedBy nat_cmp ks → from ≤ to → to ≤ length ks → (0 < from → get_or ks (from - 1) 0 < key) → (to < length ks → key ≤ get_or ks to 0)
    → HasKeyPositionBetween key ks from to
between ks key from to o le within low high = record {
  order = le;
  within = within;
  below = λ k lt. omega (arith, non_decreasing_from_sorted ks o k (from - 1) 0);
  above = λ k past lt. omega (arith, non_decreasing_from_sorted ks o to k 0);
}

-- what stands between two positions, counted from the first
inside : (ks : List ℕ) (from to k : ℕ) → from ≤ k → k < to → get_or (take (to - from) (drop from ks)) (k - from) 0 ≡ get_or ks k 0
inside ks from to k le lt =
    let back : from + (k - from) ≡ k = omega arith in
    get_or-take (to - from) (drop from ks) (k - from) 0 (omega arith) ∙ get_or-drop from ks (k - from) 0 ∙ ap (λ n. get_or ks n 0) back

-- the position that was looked for between two others
pub found : (ks : List ℕ) (key from to i : ℕ) → HasKeyPositionBetween key ks from to → i ≤ to - from
    → ((k : ℕ) → k < i → get_or (take (to - from) (drop from ks)) k 0 < key)
    → ((k : ℕ) → i ≤ k → k < to - from → key ≤ get_or (take (to - from) (drop from ks)) k 0) → IsKeyPosition key ks (from + i)
found ks key from to i h most below above =
    record {
      order = omega arith;
      within = omega arith;
      below = λ k lt. grind (arith, h.below k, inside ks from to k, below (k - from));
      above = λ k le lt. grind (arith, h.above k, inside ks from to k, above (k - from));
    }

pub key_there : (ks : List ℕ) (q k : ℕ) → k < length ks → get_or ks k 0 ≡ q → has ks q ≡ true
key_there ks q k h e = list_any_at (nat_eq q) ks k 0 h (eq-eqb q (get_or ks k 0) (sym e))

-- no key is this one, where none is at its position
pub lacks : (ks : List ℕ) (q position : ℕ) → IsStrictlySortedBy nat_cmp ks → IsKeyPosition q ks position → (position < length ks → get_or ks position 0 ≢ q) → (k : ℕ) → k < length ks → get_or ks k 0 ≢ q
lacks ks q position o p other k h e = grind (arith, p.below k, p.above position, non_decreasing_from_sorted ks o position k 0)

pub key_lacks : (ks : List ℕ) (q position : ℕ) → IsStrictlySortedBy nat_cmp ks → IsKeyPosition q ks position → (position < length ks → get_or ks position 0 ≢ q) → has ks q ≡ false
key_lacks ks q position o p other =
    list_any_none (nat_eq q) ks (λ k d lt. ne_eqb q (get_or ks k d) (λ e. lacks ks q position o p other k lt (get_or_default ks k 0 d lt ∙ sym e)))

-- ---- entries

pub length_tags : (ks : List ℕ) (q : QuietPositions) → length (tags_with ks q) ≡ length ks
length_tags ks q = length-map-range_with_len (tag_at ks q) 0 (length ks)

tag : (ks : List ℕ) (q : QuietPositions) (k : ℕ) (d : ℕ × Bool) → k < length ks → get_or (tags_with ks q) k d ≡ tag_at ks q k
tag ks q k d h = get_or-map-range_with_len (tag_at ks q) 0 (length ks) k k d h (omega arith)

pub keys_of_tags : (ks : List ℕ) (q : QuietPositions) → keys_of (tags_with ks q) ≡ ks
keys_of_tags ks q =
    map-map (λ (e : ℕ × Bool). e.0) (tag_at ks q) (range_with_len 0 (length ks)) ∙ sym (fill_by_all (λ k. get_or ks k 0) ks (length ks) 0 refl (λ k lt. refl))

pub keys_are : (r : Row) → AreRisingKeys (keys_of (entries r))
keys_are r = subst AreRisingKeys (sym (keys_of_tags r.keys.items r.quiet)) r.rising

-- tags that come from others one by one
each : (f : ℕ × Bool → ℕ × Bool) (ks : List ℕ) (q p : QuietPositions) → ((k : ℕ) → k < length ks → tag_at ks p k ≡ f (tag_at ks q k)) → tags_with ks p ≡ map f (tags_with ks q)
each f ks q p same =
    fill_by_all (λ k. f (tag_at ks q k)) (tags_with ks p) (length ks) (0, false) (length_tags ks p) (λ k lt. tag ks p k (0, false) lt ∙ same k lt)
    ∙ sym (map-map f (tag_at ks q) (range_with_len 0 (length ks)))

one_quiet : (ks : List ℕ) (position k key : ℕ) (q : Bool) → IsStrictlySortedBy nat_cmp ks → position < length ks → k < length ks → get_or ks position 0 ≡ key → not (nat_eq k position || q) ≡ (not q && not (nat_eq key (get_or ks k 0)))
one_quiet ks position k key q o h lt e = grind (arith, nat_tests, below_from_sorted ks k position 0 o, below_from_sorted ks position k 0 o)

-- the tag at a position made Quiet
pub silenced : (r : Row) (p : QuietPositions) (key position : ℕ) → position < length r.keys.items → get_or r.keys.items position 0 ≡ key
    → ((k : ℕ) → is_quiet_position p k ≡ (nat_eq k position || is_quiet_position r.quiet k)) → tags_with r.keys.items p ≡ with_quiet key (entries r)
silenced r p key position h e added =
    each (λ t. (t.0, t.1 && not (nat_eq key t.0))) r.keys.items r.quiet p (λ k lt. rw (added k, one_quiet r.keys.items position k key (is_quiet_position r.quiet k) r.rising.rising h lt e) refl)

pub with_quiet_none : (r : Row) (key : ℕ) → ((k : ℕ) → k < length r.keys.items → get_or r.keys.items k 0 ≢ key) → entries r ≡ with_quiet key (entries r)
with_quiet_none r key none = each (λ t. (t.0, t.1 && not (nat_eq key t.0))) r.keys.items r.quiet r.quiet (λ k lt.
    rw (ne_eqb key (get_or r.keys.items k 0) (λ e. none k lt (sym e)), and-true) refl)

pub all_ready : (ks : List ℕ) (q p : QuietPositions) → ((k : ℕ) → is_quiet_position p k ≡ false) → tags_with ks p ≡ as_ready (tags_with ks q)
all_ready ks q p none = each (λ e. (e.0, true)) ks q p (λ k lt. rw (none k) refl)

pub new_tags : (ks : List ℕ) (q : QuietPositions) → ((k : ℕ) → is_quiet_position q k ≡ false) → tags_with ks q ≡ map (λ k. (k, true)) ks
new_tags ks q none =
    all_ready ks q q none
    ∙ sym (map-map (λ (k : ℕ). (k, true)) (λ (e : ℕ × Bool). e.0) (tags_with ks q))
    ∙ ap (λ (ls : List ℕ). map (λ k. (k, true)) ls) (keys_of_tags ks q)

-- ---- a tag more

-- what stands behind a position that was put between
after_position : {X : Type 0} (xs : List X) (position : ℕ) (y d : X) (k : ℕ) → position < k → position ≤ length xs → get_or (insert xs position y) k d ≡ get_or xs (k - 1) d
after_position xs position y d k past within = let back : k - 1 + 1 ≡ k = omega arith in rw back at (get_or-insert_above xs position y d (k - 1) (omega arith) within)

rising_at : (ks : List ℕ) (position key k : ℕ) → IsStrictlySortedBy nat_cmp ks → IsKeyPosition key ks position → (position < length ks → get_or ks position 0 ≢ key) → k < length ks
    → get_or (insert ks position key) k 0 < get_or (insert ks position key) (k + 1) 0
rising_at ks position key k o p other lt =
    grind (arith, get_or-insert_below ks position key 0 k, get_or-insert_below ks position key 0 (k + 1), get_or-insert_at ks position key 0, after_position ks position key 0 k, get_or-insert_above ks position key 0 k, p.below k, p.above k, other, below_from_sorted ks k (k + 1) 0 o, below_from_sorted ks (k - 1) k 0 o)

-- keys with one more at its position
pub inserted_keys : (ks : List ℕ) (position key : ℕ) → AreRisingKeys ks → IsKeyPosition key ks position → has ks key ≡ false → IsKey key → AreRisingKeys (insert ks position key)
inserted_keys ks position key i p fresh small = record {
  small = All-permutation IsKey (key ∷ ks) (insert ks position key) (IsPermutation-insert ks position key) (All-cons IsKey key ks small i.small);
  rising = sorted_from_strictly_increasing (insert ks position key) (λ k lt.
      rising_at ks position key k i.rising p (λ there e. both_ways (has ks key) fresh (key_there ks key position there e)) (let more = length-insert ks position key p.within in omega (arith, lt, more)));
}

-- the tag at position k, where another is put at `position`
moved : (ks : List ℕ) (es : List (ℕ × Bool)) (key position k : ℕ) (old new : ℕ → Bool) (d : ℕ × Bool) → position ≤ length ks → length es ≡ length ks → k < suc (length ks)
    → ((j : ℕ) → j < length ks → get_or es j d ≡ (get_or ks j 0, not (old j)))
    → (k < position → new k ≡ old k) → new position ≡ false → ((j : ℕ) → position ≤ j → j < length ks → new (j + 1) ≡ old j) → get_or (insert es position (key, true)) k d ≡ (get_or (insert ks position key) k 0, not (new k))
moved ks es key position k old new d within size lt entry before put after =
    let past : position < k → new k ≡ old (k - 1) = λ p. let back : k - 1 + 1 ≡ k = omega arith in rw back at (after (k - 1) (omega arith) (omega arith)) in
    grind (arith, past, after_position ks position key 0 k, after_position es position (key, true) d k, get_or-insert_below ks position key 0 k, get_or-insert_at ks position key 0, get_or-insert_below es position (key, true) d k, get_or-insert_at es position (key, true) d, entry k, entry (k - 1))

-- a row with one tag more, Ready
pub inserted : (r : Row) (new : List ℕ) (p : QuietPositions) (key position : ℕ) → position ≤ length r.keys.items → new ≡ insert r.keys.items position key
    → ((k : ℕ) → k < position → is_quiet_position p k ≡ is_quiet_position r.quiet k) → is_quiet_position p position ≡ false
    → ((k : ℕ) → position ≤ k → k < length r.keys.items → is_quiet_position p (k + 1) ≡ is_quiet_position r.quiet k) → tags_with new p ≡ insert (entries r) position (key, true)
inserted r new p key position within keys before put after =
    let ks = r.keys.items in
    let size = length_tags ks r.quiet in
    let more = ap length keys ∙ length-insert ks position key within in
    let one = length-insert (entries r) position (key, true) (omega arith) in
    sym (fill_by_all (tag_at new p) (insert (entries r) position (key, true)) (length new) (0, false) (omega arith) (λ k lt.
    rw keys (moved ks (entries r) key position k (is_quiet_position r.quiet) (is_quiet_position p) (0, false) within size (omega arith) (λ j h. tag ks r.quiet j (0, false) h) (before k) put after)))

-- ---- what is heard

-- a tag answers: it is Ready, and its key lies from a to b
abbrev answers : ℕ → ℕ → ℕ × Bool → Bool
answers a b e = (nat_le a e.0 && nat_le e.0 b) && e.1

skipped : (a b : ℕ) (es : List (ℕ × Bool)) (n : ℕ) → ((k : ℕ) (d : ℕ × Bool) → k < n → k < length es → answers a b (get_or es k d) ≡ false) → ready_between a b es ≡ ready_between a b (drop n es)
skipped a b es zero none = refl
skipped a b [] (suc n) none = refl
skipped a b (e ∷ es) (suc n) none = rw (none 0 e (omega arith) (omega arith)) (skipped a b es n (λ k d lt h. none (suc k) d (omega arith) (omega arith)))

-- from one position to another none answers
passed : (r : Row) (a b from to : ℕ) → from ≤ to → ((k : ℕ) → from ≤ k → k < to → k < length r.keys.items → answers a b (tag_at r.keys.items r.quiet k) ≡ false)
    → ready_between a b (drop from (entries r)) ≡ ready_between a b (drop to (entries r))
passed r a b from to le none =
    let size = length_tags r.keys.items r.quiet in
    let rest = length-drop from (entries r) in
    let end : from + (to - from) ≡ to = omega arith in
    skipped a b (drop from (entries r)) (to - from) (λ k d lt h. ap (answers a b) (get_or-drop from (entries r) k d ∙ tag r.keys.items r.quiet (from + k) d (omega arith)) ∙ none (from + k) (omega arith) (omega arith) (omega arith))
    ∙ ap (ready_between a b) (drop-drop (to - from) from (entries r) ∙ ap (λ n. drop n (entries r)) end)

too_low : (a b key : ℕ) (ready : Bool) → key < a → answers a b (key, ready) ≡ false
too_low a b key ready below = grind (arith, nat_tests)

quiet_or_high : (a b key : ℕ) (quiet : Bool) → (key ≤ b → quiet ≡ true) → answers a b (key, not quiet) ≡ false
quiet_or_high a b key quiet h = grind (arith, nat_tests, h)

-- those behind position `from` where none is Ready
pub hears_none : (r : Row) (a b from : ℕ) → HasNoneReady r from b → ready_between a b (drop from (entries r)) ≡ []
hears_none r a b from none =
    let to = from + length r.keys.items in
    passed r a b from to (omega arith) (λ k low lt h. quiet_or_high a b _ _ (none k low h))
    ∙ ap (ready_between a b) (drop_of_length-le (entries r) (let size = length_tags r.keys.items r.quiet in omega arith))

-- where position i has the next one
pub hears_next : (r : Row) (a b from i : ℕ) → IsNextReady r from b i → a ≤ get_or r.keys.items i 0
    → ready_between a b (drop from (entries r)) ≡ uid_of (get_or r.keys.items i 0) ∷ ready_between a b (drop (i + 1) (entries r))
hears_next r a b from i n low =
    let there : i < length (entries r) = let size = length_tags r.keys.items r.quiet in let lt = n.there in omega arith in
    passed r a b from i n.low (λ k le lt h. quiet_or_high a b _ _ (λ _. n.quiet k le lt))
    ∙ rw (add-one, drop-cons (entries r) i (0, false) there, tag r.keys.items r.quiet i (0, false) n.there, le-leb a _ low, le-leb _ b n.key, n.ready) refl

-- those with keys from a on are all that count
pub hears_from : (r : Row) (a b from : ℕ) → IsKeyPosition a r.keys.items from → ready_between a b (entries r) ≡ ready_between a b (drop from (entries r))
hears_from r a b from p = passed r a b 0 from (omega arith) (λ k low lt h. too_low a b _ _ (p.below k lt))
