-- Lines that were read, and the next one.
use Rattle.vic_log.proofs.Words.{◌≡◌, ℕ, zero, suc, ◌<◌, ◌≤◌, Some, None, List, [], ◌∷◌, ◌++◌, length, refl, sym, ap, ◌∙◌, arith, ⊎_elim, ◌≢◌, slice_get, nat_tests, cases_eq, cases_lt, cond-false, ne_eqb, length_push, Entry, Version, LineFault, Header, Memory, AreRead, LogValue, named_version, version_of, line_fault, logged, log_upto, fault_on, IsFirstFault, IsLogOf, next_fault, after_line, RefusesNext, slice_get_past, GiveEntries}
use Rattle.vic_log.proofs.Places.{slice_get-append, slice_get_seam}

-- ---- a fault is told by the lines up to its own

abbrev pub AgreeBelow : ℕ → List (List ℕ) → List (List ℕ) → Type 0
AgreeBelow n ls ms = (i : ℕ) → i < n → slice_get ls i ≡ slice_get ms i

pub log_agrees : (n : ℕ) (ls ms : List (List ℕ)) → AgreeBelow n ls ms → log_upto ls n ≡ log_upto ms n
log_agrees zero ls ms a = refl
log_agrees (suc n) ls ms a = grind (arith, nat_tests, log_agrees n ls ms)

pub fault_agrees : (n : ℕ) (ls ms : List (List ℕ)) → AgreeBelow n ls ms → fault_on ls n ≡ fault_on ms n
fault_agrees zero ls ms a = refl
fault_agrees (suc n) ls ms a = grind (arith, nat_tests, log_agrees)

pub first_agrees : (n : ℕ) (ls ms : List (List ℕ)) (f : LineFault) → AgreeBelow n ls ms → IsFirstFault ls n f → IsFirstFault ms n f
first_agrees n ls ms f a r = record {
  here = sym (fault_agrees n ls ms a) ∙ r.here;
  first = λ m lt. sym (fault_agrees m ls ms (λ i below. a i (omega arith))) ∙ r.first m lt;
}

-- ---- one line more

-- the version says nothing of line 1
fault-any : (n : ℕ) (v w : Version) (es fs : List Entry) (line : List ℕ) → (0 < n → v ≡ w) → (0 < n → es ≡ fs) → line_fault v es (suc n) (Some line) ≡ line_fault w fs (suc n) (Some line)
fault-any n v w es fs line h k = grind (arith, nat_tests)

logged-any : (n : ℕ) (v w : Version) (line : List ℕ) → (0 < n → v ≡ w) → logged v (suc n) (Some line) ≡ logged w (suc n) (Some line)
logged-any n v w line h = grind (arith, nat_tests)

pub in_limit : (version : Version) (es : List Entry) (n : ℕ) (line : List ℕ) → line_fault version es n (Some line) ≡ None → n ≤ 1000000
in_limit version es n line h = grind (arith, nat_tests)

more_than_none : {A : Type 0} (xs ys : List A) → ys ≢ [] → xs ++ ys ≢ []
more_than_none [] ys h = h
more_than_none (x ∷ xs) ys h = λ e. cc

module _ {ls : List (List ℕ)} {log : LogValue} {n : ℕ} (r : AreRead ls log n) (line : List ℕ) (others : List (List ℕ)) where
  agree : AgreeBelow n ls (ls ++ line ∷ others)
  agree i below = let count = r.count in slice_get-append ls (line ∷ others) i (omega arith)

  at : slice_get (ls ++ line ∷ others) n ≡ Some line
  at = ap (slice_get (ls ++ line ∷ others)) (sym r.count) ∙ slice_get_seam ls line others

  version_before : 0 < n → log.version ≡ version_of (ls ++ line ∷ others)
  version_before some = r.version some ∙ ap named_version (agree 0 some)

  log_before : log.lines ≡ log_upto (ls ++ line ∷ others) n
  log_before = r.log_is ∙ log_agrees n ls (ls ++ line ∷ others) agree

  fault_next : next_fault log (suc n) line ≡ fault_on (ls ++ line ∷ others) (suc n)
  fault_next = grind (arith, nat_tests, fault-any, version_before, log_before, at)

  log_next : (after_line log (suc n) line).lines ≡ log_upto (ls ++ line ∷ others) (suc n)
  log_next = grind (arith, nat_tests, log_before, logged-any, version_before, at)

  clean_before : (m : ℕ) → m ≤ n → fault_on (ls ++ line ∷ others) m ≡ None
  clean_before m le = sym (fault_agrees m ls (ls ++ line ∷ others) (λ i below. agree i (omega arith))) ∙ r.clean m le

  clean_next : next_fault log (suc n) line ≡ None → (m : ℕ) → m ≤ suc n → fault_on (ls ++ line ∷ others) m ≡ None
  clean_next h m le = ⊎_elim (λ same. ap (fault_on (ls ++ line ∷ others)) same ∙ (sym fault_next ∙ h)) (λ ne. clean_before m (omega arith)) (cases_eq m (suc n))

  -- a line with a fault
  pub AreRead-fault : (f : LineFault) → next_fault log (suc n) line ≡ Some f → IsFirstFault (ls ++ line ∷ others) (suc n) f
  AreRead-fault f h = record { here = sym fault_next ∙ h; first = λ m lt. clean_before m (omega arith) }

  -- a line without a fault that adds to the log
  pub AreRead-entries : RefusesNext log (suc n) line Memory → GiveEntries (ls ++ line ∷ others) (suc n)
  AreRead-entries h = grind (arith, nat_tests, clean_next, more_than_none, log_next)

-- the header names the version
version_next : {ls : List (List ℕ)} {log : LogValue} (n : ℕ) → AreRead ls log n → (line : List ℕ) → (after_line log (suc n) line).version ≡ version_of (ls ++ line ∷ [])
version_next zero r line = ap named_version (sym (at r line []))
version_next (suc k) r line = cond-false _ _ _ (ne_eqb (suc (suc k)) 1 (λ e. absurd (omega arith))) ∙ version_before r line [] (omega arith)

-- one line more without a fault
pub AreRead-push : {ls : List (List ℕ)} {log : LogValue} {n : ℕ} → AreRead ls log n → (line : List ℕ) → next_fault log (suc n) line ≡ None → AreRead (ls ++ line ∷ []) (after_line log (suc n) line) (suc n)
AreRead-push {ls = ls} {n = n} r line h = grind (arith, nat_tests, length_push, clean_next, log_next, version_next)

-- no line at all
pub no_header : IsFirstFault [] 1 Header
no_header = record { here = refl; first = λ m lt. let zero_is : m ≡ 0 = omega arith in ap (fault_on []) zero_is }

-- ---- all lines

pub past_end : (lines : List (List ℕ)) (k : ℕ) → 0 < k → length lines ≤ k → fault_on lines (suc k) ≡ None
past_end lines k h g = grind (arith, nat_tests, slice_get_past, cond-false, ne_eqb)

-- a fault beyond the last line there is none
pub clean_all : (lines : List (List ℕ)) (n : ℕ) → 0 < n → length lines ≤ n → ((m : ℕ) → m ≤ n → fault_on lines m ≡ None) → (m : ℕ) → fault_on lines m ≡ None
clean_all lines n h k g m = grind (arith, nat_tests, past_end, cases_lt)

pub AreRead-end : {ls : List (List ℕ)} {log : LogValue} {n : ℕ} → AreRead ls log n → 0 < n → IsLogOf ls log
AreRead-end {ls = ls} {n = n} r some = record {
  no_fault = let count = r.count in clean_all ls n some (omega arith) r.clean;
  all = r.log_is ∙ ap (log_upto ls) (sym r.count);
  version = r.version some;
}
