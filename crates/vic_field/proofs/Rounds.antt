-- The rounds of entries: what one entry more, and the slot lines of a request, leave as it was.
use Rattle.vic_field.proofs.Words.{All, ◌≡◌, ℕ, zero, suc, ◌+◌, ◌-◌, ◌<◌, ◌⊎◌, inl, inr, Bool, true, false, not, ◌&&◌, ◌||◌, List, [], ◌∷◌, ◌++◌, length, Some, None, refl, sym, ap, ◌∙◌, subst, arith, append_assoc, append-nil, length-append, ⊎_elim, slice_get, nat_lt, if◌then◌else◌, lt-ltb, All-nil, All-push, Request, slot_count, mask_in, Entry, Sent, is_quiet, is_slot, slots_opened, slot_line, slot_lines_to, slot_lines, heard, ready_in, get_or_from_slice_get, slice_get_within, refusal, silences, wakes, ends_round, opener, slots_left, mask_at, opener_agrees, quiet_agrees, agree_append, slice_get_last, IsPlain}
use Rattle.vic_field.specs.declared.outcome.Outcome.{Outcome as Told}

-- ---- positions of joined lists

-- a position of two lists is one of the first or one of the second
pub position_in : (xs ys : List Entry) (i : ℕ) (e : Entry) → slice_get (xs ++ ys) i ≡ Some e → (slice_get xs i ≡ Some e) ⊎ ((j : ℕ) × (i ≡ length xs + j) × (slice_get ys j ≡ Some e))
position_in [] ys i e h = inr (i, omega arith, h)
position_in (x ∷ xs) ys zero e h = inl h
position_in (x ∷ xs) ys (suc i) e h = ⊎_elim (λ k. inl k) (λ k. let same = k.1 in inr (k.0, omega arith, k.2)) (position_in xs ys i e h)

pub second_position : (xs ys : List Entry) (i j : ℕ) → i ≡ length xs + j → slice_get (xs ++ ys) i ≡ slice_get ys j
second_position [] ys i j e = let same : i ≡ j = omega arith in ap (slice_get ys) same
second_position (x ∷ xs) ys zero j e = absurd (omega arith)
second_position (x ∷ xs) ys (suc i) j e = second_position xs ys i j (omega arith)

pub next_length : (es : List Entry) (e : Entry) → length (es ++ e ∷ []) ≡ suc (length es)
next_length es e = length-append es (e ∷ []) ∙ omega arith

-- ---- slot lines

pub slot_line-is_slot : (o : Told) → is_slot (slot_line o) ≡ true
slot_line-is_slot o = grind arith

pub slot_line-plain : (o : Told) → IsPlain (slot_line o)
slot_line-plain o = grind arith

pub slot_lines_to-length : (tags : List (ℕ × Bool)) (q : Request) (n : ℕ) → length (slot_lines_to tags q n) ≡ n
slot_lines_to-length tags q zero = refl
slot_lines_to-length tags q (suc n) = next_length (slot_lines_to tags q n) (slot_line (heard (ready_in (mask_in q n) tags))) ∙ ap suc (slot_lines_to-length tags q n)

slot_lines_to-slots : (tags : List (ℕ × Bool)) (q : Request) (n : ℕ) → All (λ e. is_slot e ≡ true) (slot_lines_to tags q n)
slot_lines_to-slots tags q zero = All-nil (λ e. is_slot e ≡ true)
slot_lines_to-slots tags q (suc n) = All-push (λ e. is_slot e ≡ true) (slot_lines_to tags q n) _ (slot_lines_to-slots tags q n) (slot_line-is_slot (heard (ready_in (mask_in q n) tags)))

pub slot_lines-slots : (tags : List (ℕ × Bool)) (x : Entry) (i : ℕ) (e : Entry) → slice_get (slot_lines tags x) i ≡ Some e → is_slot e ≡ true
slot_lines-slots tags (Sent q) i e h =
    let all = slot_lines_to-slots tags q (slot_count q) i e (slice_get_within (slot_lines_to tags q (slot_count q)) i e h) in
    subst (λ x. is_slot x ≡ true) (get_or_from_slice_get (slot_lines_to tags q (slot_count q)) i e e h) all
slot_lines-slots tags x i e h = absurd cc

pub slot_lines-length : (tags : List (ℕ × Bool)) (x : Entry) → length (slot_lines tags x) ≡ slots_opened (Some x)
slot_lines-length tags (Sent q) = slot_lines_to-length tags q (slot_count q)
slot_lines-length tags x = refl

-- ---- an open round

-- k slots of the request q are told, and the next one comes
pub record IsOpen (es : List Entry) (q : Request) (k : ℕ) : Type 0 where
  pub position : ℕ
  pub opened : opener es (length es) ≡ Some position
  pub sent : slice_get es position ≡ Some (Sent q)
  pub count : length es ≡ suc position + k

opener-next : (es : List Entry) (e : Entry) → opener (es ++ e ∷ []) (length (es ++ e ∷ [])) ≡ (if ends_round (Some e) then Some (length es) else opener es (length es))
opener-next es e = rw (next_length es e, slice_get_last es e, ← (opener_agrees (length es) es (es ++ e ∷ []) (agree_append es (e ∷ [])))) refl

pub IsOpen-sent : (es : List Entry) (q : Request) → IsOpen (es ++ Sent q ∷ []) q 0
IsOpen-sent es q = record {
  position = length es;
  opened = opener-next es (Sent q);
  sent = slice_get_last es (Sent q);
  count = let h = next_length es (Sent q) in omega arith;
}

slot_stays : (e : Entry) → is_slot e ≡ true → ends_round (Some e) ≡ false
slot_stays e h = grind arith

pub IsOpen-slot : (es : List Entry) (q : Request) (k : ℕ) (e : Entry) → IsOpen es q k → is_slot e ≡ true → IsOpen (es ++ e ∷ []) q (suc k)
IsOpen-slot es q k e o h =
    let within = slice_get_within es o.position (Sent q) o.sent in
    record {
      position = o.position;
      opened = opener-next es e ∙ (ap (λ b. if b then Some (length es) else opener es (length es)) (slot_stays e h) ∙ o.opened);
      sent = sym (agree_append es (e ∷ []) o.position within) ∙ o.sent;
      count = let n = next_length es e in let c = o.count in omega arith;
    }

pub IsOpen-slots : (es : List Entry) (q : Request) (tags : List (ℕ × Bool)) (n : ℕ) → IsOpen es q 0 → IsOpen (es ++ slot_lines_to tags q n) q n
IsOpen-slots es q tags zero o = subst (λ fs. IsOpen fs q 0) (sym (append-nil es)) o
IsOpen-slots es q tags (suc n) o =
    let line = slot_line (heard (ready_in (mask_in q n) tags)) in
    subst (λ fs. IsOpen fs q (suc n)) (append_assoc es (slot_lines_to tags q n) (line ∷ []))
    (IsOpen-slot (es ++ slot_lines_to tags q n) q n line (IsOpen-slots es q tags n o) (slot_line-is_slot (heard (ready_in (mask_in q n) tags))))

-- the mask of the next slot
pub IsOpen-mask : (es : List Entry) (q : Request) (k : ℕ) → IsOpen es q k → k < slot_count q → mask_at es (length es) ≡ Some (mask_in q k)
IsOpen-mask es q k o h =
    let at : length es - suc o.position ≡ k = omega (arith, o.count) in
    rw (o.opened, o.sent, at, lt-ltb k (slot_count q) h) refl

slot_follows : (es : List Entry) (e : Entry) → is_slot e ≡ true → nat_lt 0 (slots_left es (length es)) ≡ true → refusal es e ≡ None
slot_follows es e s h = grind arith

-- a slot line may follow where a slot is left
pub IsOpen-follows : (es : List Entry) (q : Request) (k : ℕ) (e : Entry) → IsOpen es q k → k < slot_count q → is_slot e ≡ true → refusal es e ≡ None
IsOpen-follows es q k e o h s =
    let left : slots_left es (length es) ≡ slot_count q - (length es - suc o.position) = rw (o.opened, o.sent) refl in
    slot_follows es e s (lt-ltb 0 (slots_left es (length es)) (omega (arith, left, o.count)))

-- ---- Quiet tags

-- which tags are Quiet behind one entry more
pub quiet-next : (es : List Entry) (e : Entry) (u : ℕ) → is_quiet (es ++ e ∷ []) (length (es ++ e ∷ [])) u ≡ (silences (Some e) u || (not (wakes (Some e)) && is_quiet es (length es) u))
quiet-next es e u = rw (next_length es e, slice_get_last es e, ← (quiet_agrees (length es) es (es ++ e ∷ []) u (agree_append es (e ∷ [])))) refl
