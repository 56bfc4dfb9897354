-- The numbers of a log are in their ranges, since it has so many lines at most.
use Rattle.vic_survey.proofs.ValueWords.{All, Bool, List, None, Option, Some, [], ap, arith, false, get_or, length, refl, subst, suc, sym, true, zero, ℕ, ◌<◌, ◌≤◌, ◌==◌, ◌∙◌, ◌∷◌, ◌≡◌, has, nat_lt, nat_tests, ShownUid, IsLineNumber, IsUid, slice_get, lt-ltb, ne_eqb}
use Rattle.std.proofs.Common.{nat_le, inl, inr, ◌≢◌}
use Rattle.std.proofs.lemmas.Bool.{cases_lt}
use Rattle.std.proofs.lemmas.Option.{slice_get-get_or, slice_get_past}
use Rattle.std.specs.List.{filter}
use Rattle.std.specs.List.Sorted.{IsStrictlyIncreasing}
use Rattle.vic_log.proofs.Cautious.{few_answers, lines_within}
use Rattle.vic_log.proofs.Sets.{IsUid-member}
use Rattle.vic_log.specs.Deaf.{answers}
use Rattle.vic_log.specs.Log.{IsLog, last_from}
use Rattle.vic_log.specs.Order.{IsRisingFrom, entries}
use Rattle.vic_log.specs.Overlooked.{is_overlooked}
use Rattle.vic_log.specs.Text.{IsFirstFault, line_fault, log_upto, version_of}
use Rattle.vic_log.specs.declared.entry.Entry.{Entry}
use Rattle.vic_log.specs.declared.entry.LogLine.{LogLine}
use Rattle.vic_log.specs.declared.entry.TheConstants.{MAX_LINES}
use Rattle.vic_log.specs.declared.entry.Version.{Version}
use Rattle.vic_log.specs.declared.fault.LineFault.{LineFault}
use Rattle.vic_log.specs.declared.fault.LineFault.TheVariants.{TooManyLines}
use Rattle.vic_verdict.proofs.Decide.{IsPossible-iff}
use Rattle.vic_verdict.specs.Possible.{IsCertainUid, IsPossible}
use Rattle.vic_verdict.specs.Rising.{IsListOf}
use Rattle.vic_verdict.specs.Verdict.{IsLeast, entries_to}
use Rattle.vic_report.specs.Findings.{IsShownCertain, uids_of}
use Rattle.vic_margin.specs.Margins.{IsWeakestBesides}
use Rattle.vic_margin.specs.UidMargins.{margin_before, margin_of, one_if}
use Rattle.vic_margin.specs.declared.answer.Weakest.{Weakest}
use Rattle.vic_survey.specs.Parts.{AreRisingUids}
use Rattle.vic_survey.specs.declared.survey.TheConstants.{MAX_COUNT}

-- ---- the lines of a log

line_between : (n : ℕ) (lines : List LogLine) (i : ℕ) (l : LogLine) → IsRisingFrom n lines → slice_get lines i ≡ Some l → (n < l.number) × (l.number ≤ last_from n lines)
line_between n [] i l r k = cc
line_between n (m ∷ lines) zero l r k =
    let same : m ≡ l = cc in
    let rest = lines_within m.number lines r.1 in
    subst (λ (x : LogLine). (n < x.number) × (x.number ≤ last_from n (m ∷ lines))) same (r.0, omega arith)
line_between n (m ∷ lines) (suc i) l r k =
    let rest = line_between m.number lines i l r.1 k in
    let first = r.0 in
    (omega (arith, rest.0, first), rest.1)

pub line_number : (version : Version) (lines : List LogLine) (i : ℕ) (l : LogLine) → IsLog version lines → slice_get lines i ≡ Some l → IsLineNumber l.number
line_number version lines i l log k =
    let between = line_between 1 lines i l log.rising k in
    let limit = log.limit in
    (omega (arith, between.0), omega (arith, between.1, limit))

length_entries : (lines : List LogLine) → length (entries lines) ≡ length lines
length_entries [] = refl
length_entries (l ∷ lines) = ap suc (length_entries lines)

pub few_entries : (version : Version) (lines : List LogLine) → IsLog version lines → length (entries lines) ≤ MAX_COUNT
few_entries version lines log =
    let within = lines_within 1 lines log.rising in
    let limit = log.limit in
    omega (arith, length_entries lines, within, limit)

pub few_answers_of : (version : Version) (lines : List LogLine) → IsLog version lines → answers (entries lines) ≤ MAX_COUNT
few_answers_of version lines log = omega (arith, few_answers (entries lines), few_entries version lines log)

-- ---- the margin

one_at_most : (es : List Entry) (i u : ℕ) → one_if (is_overlooked es i u) ≤ 1
one_at_most es i u = at_most (is_overlooked es i u) where
  at_most : (b : Bool) → one_if b ≤ 1
  at_most true = omega arith
  at_most false = omega arith

margin_upto : (es : List Entry) (i u : ℕ) → margin_before es i u ≤ i
margin_upto es zero u = omega arith
margin_upto es (suc i) u = omega (arith, margin_upto es i u, one_at_most es i u)

pub small_margin : (version : Version) (lines : List LogLine) (us : List ℕ) (w : Weakest) → IsLog version lines → IsWeakestBesides (entries lines) us w → w.margin ≤ MAX_COUNT
small_margin version lines us w log h =
    let some = h.margin.0 in
    let here : margin_of (entries lines) some.uid ≡ w.margin = some.margin in
    omega (arith, here, margin_upto (entries lines) (length (entries lines)) some.uid, few_entries version lines log)

-- ---- the certain UIDs

has_uid : (told : List ShownUid) (k : ℕ) (d : ShownUid) → k < length told → has (uids_of told) (get_or told k d).uid ≡ true
has_uid [] k d lt = absurd (omega (arith, lt))
has_uid (s ∷ told) zero d lt = grind (arith, nat_tests)
has_uid (s ∷ told) (suc k) d lt = let rest = has_uid told k d (omega (arith, lt)) in grind (arith, nat_tests)

shown_line : (version : Version) (lines : List LogLine) (s : ShownUid) → IsLog version lines → IsShownCertain lines s → IsLineNumber s.line
shown_line version lines s log h = subst IsLineNumber h.number (line_number version lines h.place h.line log h.there)

certain_uid : (es : List Entry) (u : ℕ) → IsPossible es → IsCertainUid es u → IsUid u
certain_uid es u possible certain = IsUid-member possible.0 u possible.1 (certain possible.0 possible.1 possible.2)

pub certain_valid : (version : Version) (lines : List LogLine) (certain : List ℕ) (told : List ShownUid) → IsLog version lines → IsPossible (entries lines) → IsListOf (IsCertainUid (entries lines)) certain → uids_of told ≡ certain → All (IsShownCertain lines) told → AreRisingUids told
certain_valid version lines certain told log possible h same shown = record {
  rising = subst IsStrictlyIncreasing (sym same) h.rising;
  uids = λ k d lt.
      let u = (get_or told k d).uid in
      let there : has certain u ≡ true = ap (λ us. has us u) (sym same) ∙ has_uid told k d lt in
      (certain_uid (entries lines) u possible ((h.members u).0 there), shown_line version lines (get_or told k d) log (shown k d lt));
}

-- ---- the line of the first fault

different : (f : LineFault) → Some f ≡ None → ⊥
different f h = cc

-- a line behind the limit has a fault
past_at : (v : Version) (es : List Entry) (number : ℕ) (o : Option (List ℕ)) (line : List ℕ) → o ≡ Some line → MAX_LINES < number → line_fault v es number o ≡ None → ⊥
past_at v es number None line there lt none = absurd (cc)
past_at v es number (Some l) line there lt none =
    let past : nat_lt MAX_LINES number ≡ true = lt-ltb MAX_LINES number lt in
    different TooManyLines (sym (let it : line_fault v es number (Some l) ≡ Some TooManyLines = rw past refl in it) ∙ none)

-- no line has none, but a first one that isn't there
end_at : (v : Version) (es : List Entry) (number : ℕ) (o : Option (List ℕ)) (f : LineFault) → o ≡ None → number ≢ 1 → line_fault v es number o ≡ Some f → ⊥
end_at v es number (Some l) f gone ne some = absurd (cc)
end_at v es number None f gone ne some =
    let other : (number == 1) ≡ false = ne_eqb number 1 ne in
    different f (sym some ∙ (let it : line_fault v es number None ≡ None = rw other refl in it))

fault_within : (lines : List (List ℕ)) (k : ℕ) (f : LineFault) → IsFirstFault lines (suc (suc k)) f → MAX_LINES ≤ k → suc k < length lines → ⊥
fault_within lines k f h above more = past_at (version_of lines) (entries (log_upto lines k)) (suc k) (slice_get lines k) (get_or lines k []) (slice_get-get_or lines k [] (omega (arith, more))) (omega (arith, above)) (h.first (suc k) (omega arith))

fault_past : (lines : List (List ℕ)) (k : ℕ) (f : LineFault) → IsFirstFault lines (suc (suc k)) f → length lines ≤ suc k → ⊥
fault_past lines k f h end = end_at (version_of lines) (entries (log_upto lines (suc k))) (suc (suc k)) (slice_get lines (suc k)) f (slice_get_past lines (suc k) end) (λ e. omega (arith, e)) h.here

pub fault_line : (lines : List (List ℕ)) (n : ℕ) (f : LineFault) → IsFirstFault lines n f → IsLineNumber n
fault_line lines zero f h = absurd (different f (sym h.here))
fault_line lines (suc zero) f h = (omega arith, omega arith)
fault_line lines (suc (suc k)) f h = elim (cases_lt k MAX_LINES) [
  | inl below ↦ (omega arith, omega (arith, below))
  | inr above ↦ elim (cases_lt (suc k) (length lines)) [
    | inl more ↦ absurd (fault_within lines k f h above more)
    | inr end ↦ absurd (fault_past lines k f h end)
  ]
]

-- ---- the first impossible line

none_to : (n : ℕ) (lines : List LogLine) → IsRisingFrom n lines → filter (λ (l : LogLine). nat_le l.number 0) lines ≡ []
none_to n [] r = refl
none_to n (l ∷ lines) r = let above = r.0 in let rest = none_to l.number lines r.1 in grind (arith, nat_tests)

all_to : (m n : ℕ) (lines : List LogLine) → IsRisingFrom m lines → last_from m lines ≤ n → filter (λ (l : LogLine). nat_le l.number n) lines ≡ lines
all_to m n [] r le = refl
all_to m n (l ∷ lines) r le =
    let within = lines_within l.number lines r.1 in
    let here : nat_le l.number n ≡ true = grind (arith, nat_tests) in
    rw here (ap (λ rest. l ∷ rest) (all_to l.number n lines r.1 le))

nothing_possible : IsPossible []
nothing_possible = (IsPossible-iff []).1 tt

pub impossible_line : (version : Version) (lines : List LogLine) (n : ℕ) → IsLog version lines → IsLeast (λ k. IsPossible (entries_to k lines) → ⊥) n → IsLineNumber n
impossible_line version lines zero log h = absurd (h.0 (subst IsPossible (sym (ap entries (none_to 1 lines log.rising))) nothing_possible))
impossible_line version lines (suc k) log h = elim (cases_lt k MAX_LINES) [
  | inl below ↦ (omega arith, omega (arith, below))
  | inr above ↦
      let limit = log.limit in
      let here : entries_to k lines ≡ entries lines = ap entries (all_to 1 k lines log.rising (omega (arith, limit, above))) in
      let next : entries_to (suc k) lines ≡ entries lines = ap entries (all_to 1 (suc k) lines log.rising (omega (arith, limit, above))) in
      let least = h.1 k (λ may. h.0 (subst IsPossible (here ∙ sym next) may)) in
      absurd (omega (arith, least))
]
