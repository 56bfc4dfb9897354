-- The lines of a log, and their entries.
use Rattle.std.proofs.Common.{drop, take}
use Rattle.std.proofs.lemmas.List.{map-append, take-append-drop}
use Rattle.vic_log.proofs.Order.{IsInOrder-front}
use Rattle.vic_log.proofs.Places.{slice_get-append}
use Rattle.vic_log.specs.Log.{IsLog}
use Rattle.vic_log.specs.Order.{IsInOrder, IsRisingFrom, entries}
use Rattle.vic_log.specs.declared.entry.LogLine.{LogLine}
use Rattle.vic_log.specs.declared.entry.Version.{Version}
use Rattle.vic_walk.specs.LogLines.{AreLogLines}
use Rattle.vic_walk.proofs.Words.{◌≡◌, ℕ, zero, suc, ◌+◌, ◌++◌, ◌<◌, ◌∙◌, List, [], ◌∷◌, Some, ap, arith, get_or, length, option_map, refl, slice_get, slice_get-map, slice_get_read, slice_get_within, subst, sym, Entry, Sent}

pub entry_at : (lines : List LogLine) (i : ℕ) (l : LogLine) → i < length lines → l ≡ get_or lines i l → slice_get (entries lines) i ≡ Some l.item
entry_at lines i l h e =
    slice_get-map (λ (x : LogLine). x.item) lines i ∙ ap (option_map (λ (x : LogLine). x.item)) (slice_get_read lines (length lines) i l refl h e)

pub number_above : (n : ℕ) (lines : List LogLine) (i : ℕ) (l : LogLine) → IsRisingFrom n lines → slice_get lines i ≡ Some l → n + i < l.number
number_above n [] i l r k = cc
number_above n (x ∷ lines) zero l r k = let same : x ≡ l = cc in let e = ap (λ y. y.number) same in let h = r.0 in omega arith
number_above n (x ∷ lines) (suc i) l r k = let h = number_above x.number lines i l r.1 k in let b = r.0 in omega arith

-- numbers that rise above 1 rise above 0
pub rising_lower : (lines : List LogLine) → IsRisingFrom 1 lines → IsRisingFrom 0 lines
rising_lower [] r = tt
rising_lower (l ∷ lines) r = let a = r.0 in (omega arith, r.1)

-- the lines of a log are first lines of it
pub first_lines : (version : Version) (lines : List LogLine) → IsLog version lines → AreLogLines lines
first_lines version lines log = record { order = log.order; valid = log.valid; rising = rising_lower lines log.rising }

-- ---- the first lines of a log

rising_front : (n k : ℕ) (lines : List LogLine) → IsRisingFrom k lines → IsRisingFrom k (take n lines)
rising_front zero k lines r = tt
rising_front (suc n) k [] r = tt
rising_front (suc n) k (l ∷ lines) r = (r.0, rising_front n l.number lines r.1)

-- are those of a log
pub log_front : (n : ℕ) (lines : List LogLine) → AreLogLines lines → AreLogLines (take n lines)
log_front n lines log = record {
  order = IsInOrder-front front rest (subst IsInOrder both log.order);
  valid = λ i q k. log.valid i q (subst (λ es. slice_get es i ≡ Some (Sent q)) (sym both) (sym (slice_get-append front rest i (slice_get_within front i (Sent q) k)) ∙ k));
  rising = rising_front n 0 lines log.rising;
} where
  front : List Entry
  front = entries (take n lines)

  rest : List Entry
  rest = entries (drop n lines)

  both : entries lines ≡ front ++ rest
  both = ap entries (sym (take-append-drop n lines)) ∙ map-append (λ (l : LogLine). l.item) (take n lines) (drop n lines)
