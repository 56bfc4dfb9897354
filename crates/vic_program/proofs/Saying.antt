-- What is said in parts.
use Rattle.std.proofs.Common.{◌≡◌, ◌∙◌, ◌≤◌, ◌+◌, ℕ, Bool, true, false, List, ◌++◌, length, take, refl, sym, ap, subst, arith, append_assoc, true≢false, Result, Ok, Err}
use Rattle.std.specs.Prelude.{is_err, is_ok}
use Rattle.std.proofs.Math.Seq.{take-append-add}
use Rattle.std.proofs.lemmas.List.{length-append, take-append-le}
use Rattle.vic_log.specs.declared.sink.Sink.{Ghosts as Sink}
use Rattle.vic_program.specs.Lines.{SaysLine, SaysPart}

pub said_more : {W : Type 0} (w : Sink W) (a b c : W) (t u : List ℕ) → SaysPart w a b t → SaysPart w b c u
    → SaysPart w a c (t ++ u)
said_more {W} w a b c t u h k = go (w.has_failed b) refl
  where
    go : (f : Bool) → w.has_failed b ≡ f → SaysPart w a c (t ++ u)
    go true e =
        let same : c ≡ b = k.untouched e in
        let within : h.part.0 ≤ length t = h.part.1 in
        record {
          all = λ f. absurd (true≢false (sym (ap w.has_failed same ∙ e) ∙ f));
          part = (h.part.0, omega (arith, length-append t u), ap w.written same ∙ (h.part.2 ∙ ap (λ l. w.written a ++ l) (sym (take-append-le h.part.0 t u within))));
          untouched = λ f. same ∙ h.untouched f;
        }
    go false e = record {
      all = λ f. k.all f ∙ (ap (λ l. l ++ u) (h.all e) ∙ append_assoc (w.written a) t u);
      part = (
        length t + k.part.0,
        omega (arith, length-append t u, k.part.1),
        k.part.2 ∙ (ap (λ l. l ++ take k.part.0 u) (h.all e) ∙ (append_assoc (w.written a) t (take k.part.0 u) ∙ ap (λ l. w.written a ++ l) (sym (take-append-add t u k.part.0)))),
      );
      untouched = λ f. absurd (true≢false (sym f ∙ (ap w.has_failed (sym (h.untouched f)) ∙ e)));
    }

-- a line in three parts
pub said_three : {W : Type 0} (w : Sink W) (a b c d : W) (t u v line : List ℕ) → SaysPart w a b t → SaysPart w b c u
    → SaysPart w c d v → t ++ u ≡ line → SaysPart w a d (line ++ v)
said_three w a b c d t u v line h k l is =
    said_more w a c d line v (subst (λ x. SaysPart w a c x) is (said_more w a b c t u h k)) l

ok_where_no_err : {X E : Type 0} (r : Result X E) → is_err r ≡ false → is_ok r ≡ true
ok_where_no_err (Ok x) e = refl
ok_where_no_err (Err x) e = absurd (true≢false e)

-- what was told is flushed
pub said_flushed : {W X E : Type 0} (w : Sink W) (a b c : W) (t : List ℕ) (r : Result X E) → SaysPart w a b t → w.has_failed b ≡ false
    → w.written c ≡ w.written b → w.has_failed c ≡ is_err r → w.is_flushed c ≡ is_ok r → SaysLine w a c t
said_flushed w a b c t r told works same failed flushed = record {
  told = record {
    all = λ f. same ∙ told.all works;
    part = (told.part.0, told.part.1, same ∙ told.part.2);
    untouched = λ f. absurd (true≢false (sym f ∙ (ap w.has_failed (sym (told.untouched f)) ∙ works)));
  };
  flushed = λ f. flushed ∙ ok_where_no_err r (sym failed ∙ f);
}

pub said_failed : {W : Type 0} (w : Sink W) (a b : W) (t : List ℕ) → SaysPart w a b t → w.has_failed b ≡ true
    → SaysLine w a b t
said_failed w a b t told failed = record { told = told; flushed = λ f. absurd (true≢false (sym failed ∙ f)) }
