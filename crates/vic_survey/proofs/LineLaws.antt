-- The lines of surveys are read back, and nothing else is read.
use Rattle.vic_survey.proofs.ValueWords.{All-from_recursion, AllByRecursion, recursion_from_All, Bool, List, None, Option, Some, [], ap, arith, append_assoc, length-append, false, length, nat_lt, nat_le, refl, subst, sym, take, drop, take_at, drop_at, true, ℕ, ◌&&◌, ◌++◌, ◌∙◌, ◌∷◌, ◌≡◌, ◌≢◌, ◌≤◌, nat_tests, codes, decimal, BitMask, ShownUid, mask_text, uid_text, line_fault_name, found_text, certain_line, bytes_eq, le-leb, lt-ltb, ltb-true, leb-true, ne_eqb, and_parts, IsUid, IsShort, IsLineNumber, IsFieldInRange, IsName, IsVisible, IsUtf8-from_is_utf8, is_utf8-from_IsUtf8, is_utf8, list_all, byte, take-append-drop, and_then, after, parted, line_number_in, uid_in, mask_in, found_in, certain_in, refused_in, is_visible, is_name, name_in, LineFault, fault_among, FAULTS, SurveyedField, Refused, Impossible, Frame, NotVicinity}
use Rattle.std.specs.Prelude.{IfSome}
use Rattle.vic_log.specs.declared.fault.LineFault.TheVariants as fault
use Rattle.vic_frame.specs.declared.fault.FrameFault.TheVariants as frame
use Rattle.vic_survey.proofs.Spelled.{then_some, if_cases, parted_text}
use Rattle.vic_text.proofs.HexBack.{length_hex}
use Rattle.vic_text.proofs.ValueLaws.{if_some, same}
use Rattle.vic_survey.proofs.ValueLaws.{after_text, line_number_text, line_number_back, uid_text_of, uid_back, mask_text_of, mask_back, parted_back, no_digit}
use Rattle.vic_survey.specs.inner.Steps.{line_after, field_in, certain_after}
use Rattle.vic_survey.specs.SurveyText.{field_lines, name_line}

not_below : (a b : ℕ) → b ≤ a → nat_lt a b ≡ false
not_below a b h = grind (arith, nat_tests)

-- ---- a mask, or none

pub found_text_of : (w : List ℕ) (m : Option BitMask) → found_in w ≡ Some m → (w ≡ found_text m) × IfSome m IsShort
found_text_of w m h =
    if_cases (bytes_eq w (codes "-")) (Some None) (and_then (mask_in w) (λ n. Some (Some n))) (Some m) h
    (λ e is. let none : None ≡ m = cc (is) in subst (λ o. (w ≡ found_text o) × IfSome o IsShort) none (same w (codes "-") e, tt))
    (λ e is.
    let t = then_some (mask_in w) (λ n. Some (Some n)) m is in
    let some : Some t.0 ≡ m = cc (t.2) in
    subst (λ o. (w ≡ found_text o) × IfSome o IsShort) some (mask_text_of w t.0 t.1))

-- no mask is spelled `-`: its first byte is a digit
no_dash : (m : BitMask) → IsShort m → bytes_eq (mask_text m) (codes "-") ≡ false
no_dash m h = by_test (bytes_eq (mask_text m) (codes "-")) refl where
  by_test : (b : Bool) → bytes_eq (mask_text m) (codes "-") ≡ b → b ≡ false
  by_test false e = refl
  by_test true e =
      let cut = mask_back m h in
      absurd (cc (ap mask_in (same (mask_text m) (codes "-") e), cut))

pub found_back : (m : Option BitMask) → IfSome m IsShort → found_in (found_text m) ≡ Some m
found_back None h = refl
found_back (Some m) h = rw (no_dash m h, mask_back m h) refl

-- ---- a certain UID

pub certain_text_of : (w : List ℕ) (s : ShownUid) → certain_in w ≡ Some s → (codes "certain " ++ w ≡ certain_line s) × IsUid s.uid × IsLineNumber s.line
certain_text_of w s h =
    if_cases (nat_lt (length w) 16) None _ (Some s) h (λ e is. absurd (cc is))
    (λ e is.
    let u = then_some (uid_in (take 16 w)) _ s is in
    let d = then_some (after (codes " by line ") (drop 16 w)) _ s u.2 in
    let n = then_some (line_number_in d.0) _ s d.2 in
    let same_s : record { uid = u.0; line = n.0 } ≡ s = cc (n.2) in
    let uid = uid_text_of (take 16 w) u.0 u.1 in
    let line = line_number_text d.0 n.0 n.1 in
    let text : w ≡ uid_text u.0 ++ (codes " by line " ++ decimal n.0) =
    sym (take-append-drop 16 w) ∙ ap (λ xs. xs ++ drop 16 w) uid.0 ∙ ap (λ xs. uid_text u.0 ++ xs) (after_text (codes " by line ") (drop 16 w) d.0 d.1 ∙ ap (λ xs. codes " by line " ++ xs) line.0) in
    let whole : codes "certain " ++ w ≡ certain_line (record { uid = u.0; line = n.0 }) = ap (λ xs. codes "certain " ++ xs) (text ∙ sym (append_assoc (uid_text u.0) (codes " by line ") (decimal n.0))) in
    subst (λ t. (codes "certain " ++ w ≡ certain_line t) × IsUid t.uid × IsLineNumber t.line) same_s (whole, uid.1, line.1))

pub certain_back : (s : ShownUid) → IsUid s.uid → IsLineNumber s.line → certain_after (certain_line s) ≡ Some s
certain_back s uid line =
    let w = (uid_text s.uid ++ codes " by line ") ++ decimal s.line in
    let len : length (uid_text s.uid) ≡ 16 = length_hex 8 s.uid (omega arith) in
    let split : w ≡ uid_text s.uid ++ (codes " by line " ++ decimal s.line) = append_assoc (uid_text s.uid) (codes " by line ") (decimal s.line) in
    let long : nat_lt (length w) 16 ≡ false = not_below (length w) 16 (rw split (omega (arith, len, length-append (uid_text s.uid) (codes " by line " ++ decimal s.line)))) in
    let front : take 16 w ≡ uid_text s.uid = rw split (take_at (uid_text s.uid) (codes " by line " ++ decimal s.line) 16 len) in
    let back : drop 16 w ≡ codes " by line " ++ decimal s.line = rw split (drop_at (uid_text s.uid) (codes " by line " ++ decimal s.line) 16 len) in
    rw (long, front, back, uid_back s.uid uid, line_number_back s.line line) refl

-- ---- faults

fault_text_of : (fs : List LineFault) (w : List ℕ) (f : LineFault) → fault_among fs w ≡ Some f → w ≡ line_fault_name f
fault_text_of [] w f h = absurd (cc h)
fault_text_of (g ∷ fs) w f h =
    if_cases (bytes_eq (line_fault_name g) w) (Some g) (fault_among fs w) (Some f) h
    (λ e is. let it : g ≡ f = cc (is) in sym (same (line_fault_name g) w e) ∙ ap line_fault_name it)
    (λ e is. fault_text_of fs w f is)

-- each fault that can be named is read by its name
pub fault_back : (f : LineFault) → (f ≢ Frame NotVicinity) → fault_among FAULTS (line_fault_name f) ≡ Some f
fault_back fault.TooManyLines h = refl
fault_back fault.LineTooLong h = refl
fault_back fault.Header h = refl
fault_back fault.UnknownEntry h = refl
fault_back fault.Hex h = refl
fault_back fault.ListedLength h = refl
fault_back (Frame frame.Short) h = refl
fault_back (Frame frame.Crc) h = refl
fault_back (Frame frame.Extension) h = refl
fault_back (Frame frame.Reserved) h = refl
fault_back (Frame frame.OptionFlag) h = refl
fault_back (Frame frame.OtherCommand) h = refl
fault_back (Frame frame.InventoryFlag) h = refl
fault_back (Frame frame.Afi) h = refl
fault_back (Frame frame.Length) h = refl
fault_back (Frame frame.MaskTooLong) h = refl
fault_back (Frame frame.MaskPadding) h = refl
fault_back (Frame frame.SelectFlag) h = refl
fault_back (Frame frame.NotAddressed) h = refl
fault_back (Frame frame.ErrorFlag) h = refl
fault_back (Frame frame.NotVicinity) h = absurd (h refl)
fault_back fault.NotVicinity h = refl
fault_back fault.SlotOutsideRound h = refl
fault_back fault.EntryAfterList h = refl
fault_back fault.DuplicateListed h = refl

named_once : (f : LineFault) (w : List ℕ) → fault_among FAULTS w ≡ Some f → (w ≡ line_fault_name f) × (f ≢ Frame NotVicinity)
named_once f w h =
    let t = fault_text_of FAULTS w f h in
    let by_line : fault_among FAULTS (codes "NotVicinity") ≡ Some fault.NotVicinity = refl in
    (t, λ e. absurd (cc (by_line, ap (fault_among FAULTS) (sym (t ∙ ap line_fault_name e)) ∙ h, e)))

-- ---- what a log says that isn't possible

refused_text_of : (w : List ℕ) (f : SurveyedField) → refused_in w ≡ Some f → ((codes "refused at line " ++ w) ∷ [] ≡ field_lines f) × IsFieldInRange f
refused_text_of w f h =
    let p = then_some (parted (byte ":") w) _ f h in
    let n = then_some (line_number_in p.0.0) _ f p.2 in
    let name = then_some (after (codes " ") p.0.1) _ f n.2 in
    let g = then_some (fault_among FAULTS name.0) _ f name.2 in
    let it : Refused n.0 g.0 ≡ f = cc (g.2) in
    let line = line_number_text p.0.0 n.0 n.1 in
    let named = named_once g.0 name.0 g.1 in
    let behind : p.0.1 ≡ codes " " ++ line_fault_name g.0 = after_text (codes " ") p.0.1 name.0 name.1 ∙ ap (λ xs. codes " " ++ xs) named.0 in
    let text : w ≡ decimal n.0 ++ (codes ": " ++ line_fault_name g.0) = parted_text (byte ":") w p.0 p.1 ∙ ap (λ xs. xs ++ byte ":" ∷ p.0.1) line.0 ∙ ap (λ xs. decimal n.0 ++ byte ":" ∷ xs) behind in
    let whole = ap (λ xs. (codes "refused at line " ++ xs) ∷ []) (text ∙ sym (append_assoc (decimal n.0) (codes ": ") (line_fault_name g.0))) in
    subst (λ x. ((codes "refused at line " ++ w) ∷ [] ≡ field_lines x) × IsFieldInRange x) it (whole, (line.1, named.1))

pub field_text_of : (line : List ℕ) (f : SurveyedField) → field_in line ≡ Some f → (line ∷ [] ≡ field_lines f) × IsFieldInRange f
field_text_of line f h = by_first (line_after (codes "impossible at line ") line) refl where
  by_first : (r : Option ℕ) → line_after (codes "impossible at line ") line ≡ r → (line ∷ [] ≡ field_lines f) × IsFieldInRange f
  by_first (Some n) e =
      let it : Impossible n ≡ f = cc (rw e at h) in
      let t = then_some (after (codes "impossible at line ") line) line_number_in n e in
      let d = line_number_text t.0 n t.2 in
      let text = after_text (codes "impossible at line ") line t.0 t.1 ∙ ap (λ xs. codes "impossible at line " ++ xs) d.0 in
      subst (λ x. (line ∷ [] ≡ field_lines x) × IsFieldInRange x) it (ap (λ xs. xs ∷ []) text, d.1)
  by_first None e =
      let r : and_then (after (codes "refused at line ") line) refused_in ≡ Some f = rw e at h in
      let t = then_some (after (codes "refused at line ") line) refused_in f r in
      let u = refused_text_of t.0 f t.2 in
      (ap (λ xs. xs ∷ []) (after_text (codes "refused at line ") line t.0 t.1) ∙ u.0, u.1)

pub impossible_back : (n : ℕ) → IsLineNumber n → field_in (codes "impossible at line " ++ decimal n) ≡ Some (Impossible n)
impossible_back n h = rw (line_number_back n h) refl

pub refused_back : (n : ℕ) (f : LineFault) → IsLineNumber n → (f ≢ Frame NotVicinity) → field_in (codes "refused at line " ++ decimal n ++ codes ": " ++ line_fault_name f) ≡ Some (Refused n f)
refused_back n f h once =
    let split : decimal n ++ codes ": " ++ line_fault_name f ≡ decimal n ++ 58 ∷ (codes " " ++ line_fault_name f) = append_assoc (decimal n) (codes ": ") (line_fault_name f) in
    let cut : parted 58 (decimal n ++ codes ": " ++ line_fault_name f) ≡ Some (decimal n, codes " " ++ line_fault_name f) =
    ap (parted 58) split ∙ parted_back 58 (decimal n) (codes " " ++ line_fault_name f) (no_digit 58 (λ d lt. grind (arith, nat_tests)) n (omega (arith, h.1))) in
    rw (cut, line_number_back n h, fault_back f once) refl

-- ---- names

one_visible : (b : ℕ) → is_visible b ≡ true → IsVisible b
one_visible b h = grind (arith, nat_tests)

visible_is : (name : List ℕ) → list_all is_visible name ≡ true → AllByRecursion IsVisible name
visible_is [] h = tt
visible_is (b ∷ name) h =
    let p = and_parts (is_visible b) (list_all is_visible name) h in
    (one_visible b p.0, visible_is name p.1)

visible_back : (b : ℕ) → IsVisible b → is_visible b ≡ true
visible_back b h = rw (le-leb 0x20 b h.0, ne_eqb b 0x7F h.1) refl

all_visible_back : (name : List ℕ) → AllByRecursion IsVisible name → list_all is_visible name ≡ true
all_visible_back [] h = refl
all_visible_back (b ∷ name) h = rw (visible_back b h.0, all_visible_back name h.1) refl

name_is : (name : List ℕ) → is_name name ≡ true → IsName name
name_is name h =
    let p = and_parts (nat_lt 0 (length name) && nat_le (length name) 4096) (is_utf8 name && list_all is_visible name) h in
    let q = and_parts (nat_lt 0 (length name)) (nat_le (length name) 4096) p.0 in
    let r = and_parts (is_utf8 name) (list_all is_visible name) p.1 in
    record {
      some = ltb-true 0 (length name) q.0;
      short = leb-true (length name) 4096 q.1;
      utf8 = IsUtf8-from_is_utf8 name r.0;
      visible = All-from_recursion IsVisible name (visible_is name r.1);
    }

name_is_back : (name : List ℕ) → IsName name → is_name name ≡ true
name_is_back name h = rw (lt-ltb 0 (length name) h.some, le-leb (length name) 4096 h.short, is_utf8-from_IsUtf8 name h.utf8, all_visible_back name (recursion_from_All IsVisible name h.visible)) refl

pub name_text_of : (line name : List ℕ) → name_in line ≡ Some name → (line ≡ name_line name) × IsName name
name_text_of line name h =
    let t = then_some (after (codes "vicinity-survey 1 ") line) _ name h in
    let u = if_some (is_name t.0) (Some t.0) name t.2 in
    let it : t.0 ≡ name = cc (u.1) in
    (after_text (codes "vicinity-survey 1 ") line t.0 t.1 ∙ ap name_line it, subst IsName it (name_is t.0 u.0))

pub name_back : (name : List ℕ) → IsName name → name_in (name_line name) ≡ Some name
name_back name h = rw (name_is_back name h) refl

-- what `strip_prefix` finds
pub strip_some : (words line rest : List ℕ) → bytes_eq (take (length words) line) words ≡ true → rest ≡ drop (length words) line → after words line ≡ Some rest
strip_some words line rest e is = rw (e, sym is) refl

-- what is read of a line that begins with the words
pub name_here : (line name : List ℕ) → after (codes "vicinity-survey 1 ") line ≡ Some name → IsName name → name_in line ≡ Some name
name_here line name e h = rw (e, name_is_back name h) refl

pub name_not : (line name : List ℕ) → after (codes "vicinity-survey 1 ") line ≡ Some name → (IsName name → ⊥) → name_in line ≡ None
name_not line name e h = by_test (is_name name) refl where
  by_test : (b : Bool) → is_name name ≡ b → name_in line ≡ None
  by_test true t = absurd (h (name_is name t))
  by_test false t = rw (e, t) refl
