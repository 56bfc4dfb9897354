use Rattle.vic_log.proofs.Words.{rules, ◌≡◌, false, ◌+◌, ◌++◌, ◌∷◌, [], ℕ, List, None, Result, Ok, Err, MatchResult, IfErr, OnOk, length, refl, sym, ap, append_assoc, add-one, arith, inl, length-append, nil_from_length, err_from_is_err_and, has, LogFault, HasJudged, IsEarly, lf, cr, without_last, LogValue, next_fault, after_line, RefusesNext}
use Rattle.vic_log.proofs.Judged.{HasCut-more, HasJudged-end, early-refused, early-long, early-many}
use Rattle.vic_log.proofs.Place.{over}
use Rattle.vic_log.proofs.begun.take_end.Goals as goal

-- the line begun and the bytes behind it are the whole line
taken : {A : Type 0} (old new : LogValue) (n m : ℕ) (line next whole bytes : List ℕ) (r : Result A LogFault) → has bytes lf ≡ false → whole ≡ line ++ bytes
    → MatchResult r (λ _. next_fault old (n + 1) (without_last cr whole) ≡ None) (RefusesNext old (n + 1) (without_last cr whole))
    → OnOk r (new ≡ after_line old (n + 1) (without_last cr whole)) → OnOk r (m ≡ n + 1) → next ≡ []
    → OnOk r ((text : List ℕ) → HasJudged text old n line → HasJudged (text ++ (bytes ++ lf ∷ [])) new m next)
    × IfErr r (λ e. (text more : List ℕ) → HasJudged text old n line → IsEarly e (text ++ (bytes ++ lf ∷ more)))
taken old new n m line next whole bytes (Ok x) lacks w h l k e = (
  (λ text j. rw (l, k, e, w, add-one, ← append_assoc text bytes (lf ∷ [])) (HasJudged-end (HasCut-more j.begun bytes lacks) (rw (w, add-one) at h))),
  tt,
)
taken old new n m line next whole bytes (Err f) lacks w h l k e = (
  tt,
  (λ text more j. rw (← append_assoc text bytes (lf ∷ more)) (early-refused (HasCut-more j.begun bytes lacks) f (rw (w, add-one) at h) more)),
)

pub returns-then-begun-eq-MAX_LINES-clause-err : goal.returns-then-begun-eq-MAX_LINES-clause-err
returns-then-begun-eq-MAX_LINES-clause-err c = λ text more j.
    let bytes = c.args.bytes.now in
    early-many j (bytes ++ lf ∷ more) c.if-begun-eq-MAX_LINES.true (omega (arith, length-append bytes (lf ∷ more)))

pub returns-then-is_empty-clause-ok : goal.returns-then-is_empty-clause-ok
returns-then-is_empty-clause-ok c =
    let none = nil_from_length c.args.begun.now.line.items (search rules) in
    (taken _ _ _ _ _ _ _ _ c.end_line.result c.requires (sym (ap (λ xs. xs ++ c.args.bytes.now) none)) c.end_line.ensures.answer c.end_line.ensures.log c.end_line.ensures.number none).0

pub returns-then-is_empty-clause-err : goal.returns-then-is_empty-clause-err
returns-then-is_empty-clause-err c =
    let none = nil_from_length c.args.begun.now.line.items (search rules) in
    (taken _ _ _ _ _ _ _ _ c.end_line.result c.requires (sym (ap (λ xs. xs ++ c.args.bytes.now) none)) c.end_line.ensures.answer c.end_line.ensures.log c.end_line.ensures.number none).1

pub returns-then-is_err-clause-err : goal.returns-then-is_err-clause-err
returns-then-is_err-clause-err c = λ text more j.
    let line = c.args.begun.now.line.items in
    let bytes = c.args.bytes.now in
    let size = length-append line bytes in
    let full = over c.try_extend_from_slice.result (length line + length bytes) c.try_extend_from_slice.ensures.variant (search rules) in
    let limit = j.limit in
    rw (← append_assoc text bytes (lf ∷ more), add-one) (early-long (HasCut-more j.begun bytes c.requires) (omega arith) (inl (omega arith)) (lf ∷ more))

pub returns-in_err-end_line-clause-err : goal.returns-in_err-end_line-clause-err
returns-in_err-end_line-clause-err c =
    let p = err_from_is_err_and c.from_residual.result c.from_residual.ensures.1 in
    let old = c.args.begun.now in
    rw (p.1, p.2) (taken {A = Unit {0}} old.read.log old.read.log old.read.number old.read.number old.line.items [] c.as_slice.result.now c.args.bytes.now (Err c.in_err-end_line.field-0.0) c.requires (search rules) c.in_err-end_line.ensures.answer tt tt refl).1

pub returns-clause-ok : goal.returns-clause-ok
returns-clause-ok c =
    (taken {A = Unit {0}} _ _ _ _ c.args.begun.now.line.items _ c.as_slice.result.now c.args.bytes.now (Ok tt) c.requires (search rules) c.in_ok-end_line.ensures.answer c.in_ok-end_line.ensures.log c.in_ok-end_line.ensures.number (search rules)).0
