-- A text that is read in pieces: more bytes, a fault, and the end.
use Rattle.vic_log.proofs.Words.{◌≡◌, ◌⊎◌, inl, inr, ℕ, suc, ◌<◌, false, Some, None, List, [], ◌∷◌, ◌++◌, length, append-nil, refl, sym, ap, subst, ◌∙◌, arith, slice_get, map, common_steps, nat_tests, cases_lt, cond-false, le-ltb, length-map, map-append, nil_from_length, has, LineFault, TooManyLines, LineTooLong, Header, LogFault, Line, Memory, HasJudged, IsLong, IsJudged, IsEarlyFault, IsEarly, lf, cr, cut, without_last, content, lines_of_text, LogValue, entries, fault_on, IsFirstFault, IsLogOf, Refuses, next_fault, after_line, RefusesNext, HasCut, IsShort}
use Rattle.vic_log.proofs.Early.{IsCut-end, IsCut-more, begins, content-open, cut-end, cut-only, cut-some, cut-whole, last_part, lines_are, still_long, too_many, too_long}
use Rattle.vic_log.proofs.Passing.{AreRead-end, AreRead-entries, AreRead-fault, AreRead-push, fault_agrees, in_limit, no_header}
use Rattle.vic_log.proofs.Places.{slice_get-append, slice_get_seam}
use Rattle.vic_log.proofs.Written.{content-end, ends_with-push}

long_some : (line : List ℕ) → IsLong line → 0 < length line
long_some line h = grind (arith, nat_tests)

long_more : (line rest : List ℕ) → IsLong line → IsLong (line ++ rest)
long_more line rest h = grind (arith, common_steps)

module _ {text line : List ℕ} {log : LogValue} {n : ℕ} (j : HasCut text log n line) where
  -- more bytes of the line begun
  pub HasCut-more : (bytes : List ℕ) → has bytes lf ≡ false → HasCut (text ++ bytes) log n (line ++ bytes)
  HasCut-more bytes lacks = record { parts = j.parts; is_cut = IsCut-more j.is_cut bytes lacks; read = j.read }

  -- the line's LF
  pub HasJudged-end : next_fault log (suc n) (without_last cr line) ≡ None → HasJudged (text ++ lf ∷ []) (after_line log (suc n) (without_last cr line)) (suc n) []
  HasJudged-end h = record {
    begun = record {
      parts = j.parts ++ (line ++ lf ∷ []) ∷ [];
      is_cut = IsCut-end j.is_cut;
      read = rw (map-append, content-end line) (AreRead-push j.read (without_last cr line) h);
    };
    limit = in_limit log.version (entries log.lines) (suc n) (without_last cr line) h;
    short = inl (omega arith);
    last = λ e. refl;
  }

  -- a fault of the part that comes next is the first fault of the text
  early_part : (all part : List ℕ) (others : List (List ℕ)) (f : LineFault) → cut all ≡ j.parts ++ part ∷ others
      → next_fault log (suc n) (content part) ≡ Some f → IsJudged part ⊎ (suc n ≡ 1000001) → IsEarlyFault all (suc n) f
  early_part all part others f c h judged = record {
    fault = rw (lines_are all j.parts (part ∷ others) c) (AreRead-fault j.read (content part) (map content others) f h);
    place = n;
    number = refl;
    part = part;
    there =
        let long : n ≡ length j.parts = sym j.read.count ∙ length-map j.parts content in
        rw (long, c) (slice_get_seam j.parts part others);
    judged = judged;
  }

  -- why the line isn't taken, whose LF has come
  pub early-refused : (fault : LogFault) → RefusesNext log (suc n) (without_last cr line) fault → (more : List ℕ) → IsEarly fault (text ++ lf ∷ more)
  early-refused (Line k f) h more = rw h.0 (early_part (text ++ lf ∷ more) (line ++ lf ∷ []) (cut more) f (cut-end j.is_cut more) (rw (content-end line) h.1) (inl (inl (ends_with-push line lf))))
  early-refused Memory h more = (suc n, rw (lines_are (text ++ lf ∷ more) j.parts _ (cut-end j.is_cut more), content-end line) (AreRead-entries j.read (without_last cr line) (map content (cut more)) h))
  early-refused fault h more = h

  -- a line that is too long whatever follows
  pub early-long : n < 1000000 → IsLong line → (more : List ℕ) → IsEarlyFault (text ++ more) (suc n) LineTooLong
  early-long few l more =
      let s = begins line more j.is_cut.no_lf (long_some line l) in
      let part = line ++ s.rest in
      let c : cut (text ++ more) ≡ j.parts ++ part ∷ s.others = j.is_cut.cuts more ∙ ap (λ xs. j.parts ++ xs) s.parts_are in
      early_part (text ++ more) part s.others LineTooLong c
      (too_long log.version (entries log.lines) (suc n) (content part) (still_long line s.rest j.is_cut.no_lf l) ∙ cond-false _ _ _ (le-ltb 1000000 (suc n) (omega arith)))
      (inl (inr (long_more line s.rest l)))

  -- the last line, which has no LF
  lines-last : 0 < length line → lines_of_text text ≡ map content j.parts ++ line ∷ []
  lines-last some = rw (lines_are text j.parts (line ∷ []) (rw (cut-whole j.is_cut, cut-only line j.is_cut.no_lf some) refl), content-open line j.is_cut.no_lf) refl

  pub end-next : 0 < length line → next_fault log (suc n) line ≡ None → IsLogOf (lines_of_text text) (after_line log (suc n) line)
  end-next some h = rw (lines-last some) (AreRead-end (AreRead-push j.read line h) (omega arith))

  pub end-refused : 0 < length line → (fault : LogFault) → RefusesNext log (suc n) line fault → Refuses text fault
  end-refused some (Line k f) h = rw (h.0, lines-last some) (AreRead-fault j.read line [] f h.1)
  end-refused some Memory h = (suc n, rw (lines-last some) (AreRead-entries j.read line [] h))
  end-refused some fault h = h

  -- no line is begun at the end
  lines-all : line ≡ [] → lines_of_text text ≡ map content j.parts
  lines-all none = lines_are text j.parts [] (cut-whole j.is_cut ∙ ap (λ xs. j.parts ++ cut xs) none) ∙ append-nil (map content j.parts)

  pub end-empty : line ≡ [] → n ≡ 0 → IsFirstFault (lines_of_text text) 1 Header
  end-empty none zero_is = rw (lines-all none, nil_from_length (map content j.parts) (j.read.count ∙ zero_is)) no_header

  pub end-lines : line ≡ [] → 0 < n → IsLogOf (lines_of_text text) log
  end-lines none some = rw (lines-all none) (AreRead-end j.read some)

-- bytes of line 1,000,001
pub early-many : {text line : List ℕ} {log : LogValue} {n : ℕ} → HasJudged text log n line → (bytes : List ℕ) → n ≡ 1000000 → 0 < length bytes → IsEarlyFault (text ++ bytes) 1000001 TooManyLines
early-many j [] all some = absurd (omega arith)
early-many {text = text} {line = line} {log = log} {n = n} j (b ∷ more) all some =
    let begun = j.begun in
    let s = cut-some b more in
    let c : cut (text ++ b ∷ more) ≡ begun.parts ++ s.rest ∷ s.others = begun.is_cut.cuts (b ∷ more) ∙ (ap (λ xs. begun.parts ++ cut (xs ++ b ∷ more)) (j.last all) ∙ ap (λ ps. begun.parts ++ ps) s.parts_are) in
    subst (λ (k : ℕ). IsEarlyFault (text ++ b ∷ more) (suc k) TooManyLines) all
    (early_part begun (text ++ b ∷ more) s.rest s.others TooManyLines c
    (too_many log.version (entries log.lines) (suc n) (content s.rest) (omega arith)) (inr (omega arith)))

-- ---- bytes without an early fault

not_judged : (line : List ℕ) → has line lf ≡ false → IsShort line → IsJudged line → ⊥
not_judged line h k g = grind (arith, common_steps)

pub no-early : {text line : List ℕ} {log : LogValue} {n : ℕ} → HasJudged text log n line → (m : ℕ) (f : LineFault) → IsEarlyFault text m f → ⊥
no-early {text = text} {line = line} {n = n} j m f e =
    let begun = j.begun in
    let ls = map content begun.parts in
    let count = begun.read.count in
    let long : length ls ≡ length begun.parts = length-map begun.parts content in
    let number = e.number in
    elim (cases_lt e.place n) [
      | inl below ↦
          let whole = lines_are text begun.parts (cut line) (cut-whole begun.is_cut) in
          let same = fault_agrees m ls (ls ++ map content (cut line)) (λ i lt. slice_get-append ls (map content (cut line)) i (omega arith)) in
          let clean : fault_on (lines_of_text text) m ≡ None = rw whole (sym same ∙ begun.read.clean m (omega arith)) in
          let fault = e.fault.here in
          cc
      | inr above ↦
          let at = last_part begun.parts line e.part e.place begun.is_cut.no_lf (ap (λ ps. slice_get ps e.place) (sym (cut-whole begun.is_cut)) ∙ e.there) (omega arith) in
          elim e.judged [
            | inl judged ↦ not_judged line begun.is_cut.no_lf j.short (subst IsJudged at.1 judged)
            | inr last ↦ let place = at.0 in let some = at.2 in let none = ap length (j.last (omega arith)) in omega arith
          ]
    ]
