-- What the log of a text lists with a list of UIDs beside it.
use Rattle.vicinity_c.proofs.Words.{◌≡◌, ℕ, zero, suc, ◌+◌, ◌-◌, ◌<◌, ◌≤◌, ◌++◌, ◌∷◌, [], List, true, Some, None, length, take, map, get_or, refl, sym, ap, subst, ◌∙◌, arith, append_assoc, slice_get, slice_get-append, take_all, take_more, length-map, w64, to_be_bytes, cut, lines_of_text, entries, log_upto, Listed, entry_text, listed_text, HasCompleteList}
use Rattle.std.proofs.Common.{ne_eqb, eqb-true, ltb-true, inl, inr, append-nil, length-append, nat_eq, option_map, ◌^◌}
use Rattle.std.proofs.lemmas.Bool.{and_parts, cases_Bool, cases_lt, cond-true, cond-false}
use Rattle.std.proofs.lemmas.Bool.Decides.{nat_tests}
use Rattle.std.proofs.lemmas.List.{map-append}
use Rattle.std.proofs.lemmas.Nat.{from_be_bytes-to_be_bytes_8}
use Rattle.std.proofs.lemmas.Option.{slice_get_past, slice_get-map, slice_get-get_or}
use Rattle.std.specs.List.{AllByRecursion}
use Rattle.hex.proofs.HexLemmas.{decode_of-encode_upper, length-encode_with}
use Rattle.hex.specs.Hex.{decode_of, encode_upper, upper_digits}
use Rattle.vic_frame.specs.Uids.{is_uid}
use Rattle.vic_log.proofs.Early.{cut-some}
use Rattle.vic_log.proofs.Passing.{fault_agrees, log_agrees}
use Rattle.vic_log.proofs.Push.{listed-append}
use Rattle.vic_log.proofs.Spelled.{be_bytes, hex_lacks}
use Rattle.vic_log.proofs.Written.{IsPlain, lines-joined}
use Rattle.vic_log.specs.LineReading.{claimed, line_reading, listed_uid, with_bytes}
use Rattle.vic_log.specs.Lines.{content, ends_with, onto}
use Rattle.vic_log.specs.Log.{LogValue}
use Rattle.vic_log.specs.Order.{listed}
use Rattle.vic_log.specs.Text.{IsLogOf, entry_line, fault_on, line_fault, logged, reading_fault, version_of}
use Rattle.vic_log.specs.declared.entry.Entry.{Entry}
use Rattle.vic_log.specs.declared.entry.Version.{Version}
use Rattle.vicinity_c.specs.Beside.{ListsBeside, with_last_lf, with_listed}

-- ---- a text with LF after its last line is cut before what follows

onto_behind : (x : ℕ) (ps qs : List (List ℕ)) (part : List ℕ) (parts : List (List ℕ)) → ps ≡ part ∷ parts → onto x (ps ++ qs) ≡ onto x ps ++ qs
onto_behind x ps qs part parts e = subst (λ zs. onto x (zs ++ qs) ≡ onto x zs ++ qs) (sym e) refl

-- the bytes up to an LF are a part at least
some_part : (bytes : List ℕ) → (part : List ℕ) × (parts : List (List ℕ)) × (cut (bytes ++ 10 ∷ []) ≡ part ∷ parts)
some_part [] = (10 ∷ [], [], refl)
some_part (b ∷ bytes) = let s = cut-some b (bytes ++ 10 ∷ []) in (s.rest, s.others, s.parts_are)

cut_behind : (bytes more : List ℕ) → cut (bytes ++ 10 ∷ more) ≡ cut (bytes ++ 10 ∷ []) ++ cut more
cut_behind [] more = refl
cut_behind (b ∷ bytes) more =
    let next = cut_behind bytes more in
    let some = some_part bytes in
    elim (cases_Bool (nat_eq b 10)) [
      | inl ends ↦ cond-true _ _ _ ends ∙ ap (λ ps. (b ∷ []) ∷ ps) next ∙ ap (λ ps. ps ++ cut more) (sym (cond-true _ _ _ ends))
      | inr goes_on ↦ cond-false _ _ _ goes_on ∙ ap (onto b) next ∙ onto_behind b (cut (bytes ++ 10 ∷ [])) (cut more) some.0 some.1 some.2 ∙ ap (λ ps. ps ++ cut more) (sym (cond-false _ _ _ goes_on))
    ]

-- such a text ends with LF
last_is : (text : List ℕ) → ends_with 10 text ≡ true → text ≡ take (length text - 1) text ++ 10 ∷ []
last_is text h =
    let parts = and_parts _ _ h in
    let some = ltb-true 0 (length text) parts.0 in
    let i : ℕ = length text - 1 in
    let lt : i < length text = omega arith in
    let all : take (i + 1) text ≡ text = take_all (i + 1) text (omega arith) in
    sym all ∙ take_more text i 0 lt ∙ ap (λ b. take i text ++ b ∷ []) (eqb-true (get_or text i 0) 10 parts.1)

ended_is : (text : List ℕ) → (bytes : List ℕ) × (with_last_lf text ≡ bytes ++ 10 ∷ [])
ended_is text = elim (cases_Bool (ends_with 10 text)) [
  | inl ends ↦ (take (length text - 1) text, cond-true _ _ _ ends ∙ last_is text ends)
  | inr goes_on ↦ (text, cond-false _ _ _ goes_on)
]

lines_behind : (text more : List ℕ) → lines_of_text (with_last_lf text ++ more) ≡ lines_of_text (with_last_lf text) ++ lines_of_text more
lines_behind text more =
    let e = ended_is text in
    rw e.1 (ap lines_of_text (append_assoc e.0 (10 ∷ []) more) ∙ ap (map content) (cut_behind e.0 more) ∙ map-append content (cut (e.0 ++ 10 ∷ [])) (cut more))

some_line : (text : List ℕ) → 0 < length (lines_of_text (with_last_lf text))
some_line text =
    let e = ended_is text in
    let some = some_part e.0 in
    rw (e.1, some.2) (omega (arith, length-map (some.0 ∷ some.1) content))

-- ---- the line of a UID

abbrev line_of : ℕ → List ℕ
line_of u = entry_text (Listed u)

line_plain : (u : ℕ) → IsPlain (line_of u)
line_plain u = let bytes = be_bytes u in grind (arith, nat_tests, hex_lacks 10 (to_be_bytes w64 u) refl bytes, hex_lacks 13 (to_be_bytes w64 u) refl bytes)

plain_all : (us : List ℕ) → AllByRecursion IsPlain (map line_of us)
plain_all [] = tt
plain_all (u ∷ us) = (line_plain u, plain_all us)

listed_lines : (us : List ℕ) → lines_of_text (listed_text us) ≡ map line_of us
listed_lines us = lines-joined (map line_of us) (plain_all us)

-- it claims the number
digits_read : (v : Version) (digits : List ℕ) → length digits ≤ 126 → line_reading v (85 ∷ 32 ∷ digits) ≡ with_bytes listed_uid (decode_of digits)
digits_read v digits few = grind (arith, nat_tests)

line_claims : (v : Version) (u : ℕ) → u < 2 ^ 64 → line_reading v (line_of u) ≡ claimed u
line_claims v u lt =
    let bytes = to_be_bytes w64 u in
    let long = length-encode_with upper_digits bytes in
    digits_read v (encode_upper bytes) (omega arith)
    ∙ ap (with_bytes listed_uid) (decode_of-encode_upper bytes (be_bytes u))
    ∙ rw (from_be_bytes-to_be_bytes_8 u lt)

-- where it has no fault, it lists the UID
clean_reading : (v : Version) (es : List Entry) (n : ℕ) (line : List ℕ) → 1 < n → line_fault v es n (Some line) ≡ None → reading_fault es (line_reading v line) ≡ None
clean_reading v es n line some clean = grind (arith, nat_tests)

lists_one : (v : Version) (es : List Entry) (n u : ℕ) → u < 2 ^ 64 → 1 < n → line_fault v es n (Some (line_of u)) ≡ None → listed (entries (logged v n (Some (line_of u)))) ≡ u ∷ []
lists_one v es n u lt some clean =
    let reads = line_claims v u lt in
    let none = rw reads at (clean_reading v es n (line_of u) some clean) in
    ap (λ lines. listed (entries lines)) (cond-false _ _ _ (ne_eqb n 1 (λ e. absurd (omega arith))) ∙ ap (entry_line n) reads)
    ∙ (elim (cases_Bool (is_uid u)) [
      | inl e ↦ rw e refl
      | inr e ↦ absurd (let no = rw e at none in cc no)
    ])

-- ---- the log of the text, and that with the list

past : (ls : List (List ℕ)) (n : ℕ) → 0 < length ls → length ls < n → fault_on ls n ≡ None
past ls zero some lt = absurd (omega arith)
past ls (suc k) some lt =
    ap (line_fault (version_of ls) (entries (log_upto ls k)) (suc k)) (slice_get_past ls k (omega arith)) ∙ cond-false _ _ _ (ne_eqb (suc k) 1 (λ e. absurd (omega arith)))

abbrev own_log : List (List ℕ) → LogValue
own_log ls = record { lines = log_upto ls (length ls); version = version_of ls }

own_is_log : (ls ms : List (List ℕ)) (log : LogValue) → 0 < length ls → IsLogOf (ls ++ ms) log → IsLogOf ls (own_log ls)
own_is_log ls ms log some is = record {
  no_fault = λ n. elim (cases_lt (length ls) n) [
    | inl beyond ↦ past ls n some beyond
    | inr within ↦ fault_agrees n ls (ls ++ ms) (λ i below. slice_get-append ls ms i (omega arith)) ∙ is.no_fault n
  ];
  all = refl;
  version = refl;
}

behind : (ls ms : List (List ℕ)) (i : ℕ) → slice_get (ls ++ ms) (length ls + i) ≡ slice_get ms i
behind [] ms i = ap (slice_get ms) (let e : 0 + i ≡ i = omega arith in e)
behind (l ∷ ls) ms i = ap (slice_get (l ∷ (ls ++ ms))) (let e : length (l ∷ ls) + i ≡ suc (length ls + i) = omega arith in e) ∙ behind ls ms i

line_at : (ls : List (List ℕ)) (us : List ℕ) (i : ℕ) → i < length us → slice_get (ls ++ map line_of us) (length ls + i) ≡ Some (line_of (get_or us i 0))
line_at ls us i lt = behind ls (map line_of us) i ∙ slice_get-map line_of us i ∙ ap (option_map line_of) (slice_get-get_or us i 0 lt)

-- line by line
lists_up_to : (ls : List (List ℕ)) (us : List ℕ) (i : ℕ) → 0 < length ls → ((j : ℕ) → get_or us j 0 < 2 ^ 64) → ((n : ℕ) → fault_on (ls ++ map line_of us) n ≡ None) → i ≤ length us
    → listed (entries (log_upto (ls ++ map line_of us) (length ls + i))) ≡ listed (entries (log_upto ls (length ls))) ++ take i us
lists_up_to ls us zero some fit clean le =
    let same : length ls + 0 ≡ length ls = omega arith in
    let ms = map line_of us in
    rw (same, append-nil) (ap (λ lines. listed (entries lines)) (sym (log_agrees (length ls) ls (ls ++ ms) (λ i below. slice_get-append ls ms i below))))
lists_up_to ls us (suc i) some fit clean le =
    let all = ls ++ map line_of us in
    let v = version_of all in
    let own = listed (entries (log_upto ls (length ls))) in
    let k : ℕ = length ls + i in
    let u : ℕ = get_or us i 0 in
    let next : length ls + suc i ≡ suc k = omega arith in
    let lt : i < length us = omega arith in
    let at : slice_get all k ≡ Some (line_of u) = line_at ls us i lt in
    let before = log_upto all k in
    let line = logged v (suc k) (slice_get all k) in
    let one : listed (entries line) ≡ u ∷ [] =
    ap (λ o. listed (entries (logged v (suc k) o))) at ∙ lists_one v (entries before) (suc k) u (fit i) (omega arith) (ap (line_fault v (entries before) (suc k)) (sym at) ∙ clean (suc k)) in
    let grown : take i us ++ u ∷ [] ≡ take (suc i) us = sym (ap (λ (n : ℕ). take n us) (let e : suc i ≡ i + 1 = omega arith in e) ∙ take_more us i 0 lt) in
    ap (λ n. listed (entries (log_upto all n))) next
    ∙ ap listed (map-append (λ l. l.item) before line)
    ∙ listed-append (entries before) (entries line)
    ∙ ap (λ xs. xs ++ listed (entries line)) (lists_up_to ls us i some fit clean (omega arith))
    ∙ ap (λ ys. (own ++ take i us) ++ ys) one
    ∙ append_assoc own (take i us) (u ∷ [])
    ∙ ap (λ zs. own ++ zs) grown

pub lists_beside : (text us : List ℕ) (count : ℕ) → ((j : ℕ) → get_or us j 0 < 2 ^ 64) → HasCompleteList (with_listed text us) count → ListsBeside text us count
lists_beside text us count fit h =
    let ls = lines_of_text (with_last_lf text) in
    let ms = map line_of us in
    let whole : lines_of_text (with_listed text us) ≡ ls ++ ms = lines_behind text (listed_text us) ∙ ap (λ more. ls ++ more) (listed_lines us) in
    let is = rw whole at h.is_log in
    let long : length (ls ++ ms) ≡ length ls + length us = omega (arith, length-append ls ms, length-map us line_of) in
    record {
      own = own_log ls;
      log = h.log;
      is_own = own_is_log ls ms h.log (some_line text) is;
      is_log = h.is_log;
      lists = ap (λ lines. listed (entries lines)) (is.all ∙ ap (log_upto (ls ++ ms)) long) ∙ lists_up_to ls us (length us) (some_line text) fit is.no_fault (omega arith) ∙ ap (λ vs. listed (entries (log_upto ls (length ls))) ++ vs) (take_all (length us) us (omega arith));
      counted = h.counted;
    }
