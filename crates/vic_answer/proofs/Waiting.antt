-- What was added to bytes that wait, in turn.
use Rattle.vic_answer.proofs.Words.{arith, OnOk, IfErr, Write, Accepts, ◌≢◌, ◌≡◌, ◌+◌, ℕ, List, [], ◌++◌, length, take, None, Some, Option, Result, Ok, Err, refl, sym, ◌∙◌, ap, append_assoc, append-nil, subst, IsErr, IsErrAnd, take-append-le, Appends, HasTakenBut, HasTakenPrefix, RunFault, Writes, ⊤, Appends-trans, Appends-nil, take-append-add, PushesBehind, Pushes, Sink}
use Rattle.std.proofs.Common.{length-append}

-- a text behind a text
more_waits : (a b c : Option (List ℕ)) (w w' w'' xs ys : List ℕ) → HasTakenBut a b w' (w ++ xs) → HasTakenBut b c w'' (w' ++ ys) → HasTakenBut a c w'' (w ++ (xs ++ ys))
more_waits a b c w w' w'' xs ys h k = (
  h.0 ++ k.0,
  Appends-trans a b c h.0 k.0 h.1 k.1,
  append_assoc h.0 k.0 w'' ∙ (ap (λ zs. h.0 ++ zs) k.2 ∙ (sym (append_assoc h.0 w' ys) ∙ (ap (λ zs. zs ++ ys) h.2 ∙ append_assoc w xs ys))),
)

-- a prefix of a text is one of a longer text
pub HasTakenPrefix-longer : (a b : Option (List ℕ)) (xs ys : List ℕ) → HasTakenPrefix a b xs → HasTakenPrefix a b (xs ++ ys)
HasTakenPrefix-longer (Some us) (Some vs) xs ys h =
    let long = length-append xs ys in
    (h.0, omega arith, h.2 ∙ ap (λ zs. us ++ zs) (sym (take-append-le h.0 xs ys h.1)))
HasTakenPrefix-longer _ _ xs ys h = tt

-- of what waited and a text only a prefix was taken, behind what was taken before
pub HasTakenPrefix-behind : (a b c : Option (List ℕ)) (w text more : List ℕ) → HasTakenBut a b w text → HasTakenPrefix b c (w ++ more) → HasTakenPrefix a c (text ++ more)
HasTakenPrefix-behind (Some us) (Some vs) (Some ws) w text more h k =
    let sent = h.0 in
    let whole : text ++ more ≡ sent ++ (w ++ more) = ap (λ zs. zs ++ more) (sym h.2) ∙ append_assoc sent w more in
    let long : length (text ++ more) ≡ length sent + length (w ++ more) = ap length whole ∙ length-append sent (w ++ more) in
    let front : take (length sent + k.0) (text ++ more) ≡ sent ++ take k.0 (w ++ more) = ap (take (length sent + k.0)) whole ∙ take-append-add sent (w ++ more) k.0 in
    (length sent + k.0, omega arith, k.2 ∙ (ap (λ zs. zs ++ take k.0 (w ++ more)) h.1 ∙ (append_assoc us sent (take k.0 (w ++ more)) ∙ ap (λ zs. us ++ zs) (sym front))))
HasTakenPrefix-behind (Some us) None c w text more h k = absurd h.1
HasTakenPrefix-behind _ b _ w text more h k = tt

PushesBehind-then : (a b c : Option (List ℕ)) (w w' w'' xs ys : List ℕ) (r : Result ⊤ RunFault) → PushesBehind a b w w' xs (Ok tt) → PushesBehind b c w' w'' ys r → PushesBehind a c w w'' (xs ++ ys) r
PushesBehind-then a b c w w' w'' xs ys (Ok y) h k = record { all = more_waits a b c w w' w'' xs ys h.all k.all; part = tt }
PushesBehind-then a b c w w' w'' xs ys (Err e) h k = record { all = tt; part = subst (HasTakenPrefix a c) (append_assoc w xs ys) (HasTakenPrefix-behind a b c w' (w ++ xs) ys h.all k.part) }

PushesBehind-fails : (a b : Option (List ℕ)) (w w' w'' xs ys : List ℕ) (e : RunFault) → PushesBehind a b w w' xs (Err e) → PushesBehind a b w w'' (xs ++ ys) (Err e)
PushesBehind-fails a b w w' w'' xs ys e h = record { all = tt; part = subst (HasTakenPrefix a b) (append_assoc w xs ys) (HasTakenPrefix-longer a b (w ++ xs) ys h.part) }

PushesBehind-nil : (a : Option (List ℕ)) (w : List ℕ) → PushesBehind a a w w [] (Ok tt)
PushesBehind-nil a w = record { all = ([], Appends-nil a, sym (append-nil w)); part = tt }

-- what waited was taken, behind what was taken before
all_behind : (a b c : Option (List ℕ)) (w text : List ℕ) (r : Result ⊤ RunFault) → HasTakenBut a b w text → OnOk r (Appends b c w) → OnOk r (Appends a c text)
all_behind a b c w text (Ok x) h k = subst (Appends a c) h.2 (Appends-trans a b c h.0 w h.1 k)
all_behind a b c w text (Err e) h k = tt

part_behind : (a b c : Option (List ℕ)) (w text : List ℕ) → HasTakenBut a b w text → HasTakenPrefix b c w → HasTakenPrefix a c text
part_behind a b c w text h k = subst (HasTakenPrefix a c) (append-nil text) (HasTakenPrefix-behind a b c w text [] h (subst (HasTakenPrefix b c) (sym (append-nil w)) k))

-- at first nothing waited, and what waits is accepted
accepts_behind : {a b c : Option (List ℕ)} {none w text : List ℕ} (r : Result ⊤ RunFault) → none ≡ [] → PushesBehind a b none w text (Ok tt) → Accepts b c w r → Accepts a c text r
accepts_behind {a} {b} {c} {none} {w} {text} r start h k =
    let sent : HasTakenBut a b w text = subst (λ ws. HasTakenBut a b w (ws ++ text)) start h.all in
    record { all = all_behind a b c w text r sent k.all; part = part_behind a b c w text sent k.part }

-- there is no fault but `Write`
no_other : (P : Type 0) (r : Result ⊤ RunFault) → IfErr r (λ e. e ≡ Write) → IfErr r (λ e. e ≢ Write → P)
no_other P (Ok x) is = tt
no_other P (Err e) is = λ other. absurd (other is)

err_is : (r : Result ⊤ RunFault) (e : RunFault) → IsErr r × IsErrAnd r (λ d. d ≡ e) → Err e ≡ r
err_is (Ok x) e h = let no = h.0 in cc
err_is (Err d) e h = ap Err (sym h.1)

module _ {W : Type 0} {s : Sink W} where
  -- one text behind another
  pub Pushes-then : {a b c : W} {w w' w'' xs ys : List ℕ} {r : Result ⊤ RunFault}
      → Pushes s a b w w' xs (Ok tt) → Pushes s b c w' w'' ys r
      → Pushes s a c w w'' (xs ++ ys) r
  Pushes-then {w = w} {w' = w'} {w'' = w''} {xs = xs} {ys = ys} {r = r} h k = record {
    puts = PushesBehind-then _ _ _ w w' w'' xs ys r h.puts k.puts;
    puts_revealed = PushesBehind-then _ _ _ w w' w'' xs ys r h.puts_revealed k.puts_revealed;
    fault = k.fault;
    failed = k.failed;
    untouched = λ e. let same = h.untouched e in k.untouched (ap s.has_failed same ∙ e) ∙ same;
  }

  -- a text that can't be added can't be with another behind it
  pub Pushes-longer : (ys : List ℕ) {a b : W} {w w' xs : List ℕ} (r : Result ⊤ RunFault) → IsErr r
      → Pushes s a b w w' xs r → Pushes s a b w w' (xs ++ ys) r
  Pushes-longer ys (Ok x) is h = cc
  Pushes-longer ys {w = w} {w' = w'} {xs = xs} (Err e) is h = record {
    puts = PushesBehind-fails _ _ w w' w' xs ys e h.puts;
    puts_revealed = PushesBehind-fails _ _ w w' w' xs ys e h.puts_revealed;
    fault = h.fault;
    failed = h.failed;
    untouched = h.untouched;
  }

  -- an error that is handed on
  pub Pushes-handed : {a b : W} {w w' xs : List ℕ} {e : RunFault} (r : Result ⊤ RunFault) → IsErr r × IsErrAnd r (λ d. d ≡ e)
      → Pushes s a b w w' xs (Err e) → Pushes s a b w w' xs r
  Pushes-handed {a} {b} {w} {w'} {xs} {e} r is h = subst (Pushes s a b w w' xs) (err_is r e is) h

  -- the same text
  pub Pushes-same : {a b : W} {w w' xs ys : List ℕ} {r : Result ⊤ RunFault}
      → Pushes s a b w w' xs r → xs ≡ ys → Pushes s a b w w' ys r
  Pushes-same {a} {b} {w} {w'} {xs} {ys} {r} h same = subst (λ zs. Pushes s a b w w' zs r) same h

  -- no text
  pub Pushes-nil : (a : W) (w : List ℕ) → Pushes s a a w w [] (Ok tt)
  Pushes-nil a w = record {
    puts = PushesBehind-nil (Some (s.written a)) w;
    puts_revealed = PushesBehind-nil (s.taken a) w;
    fault = tt;
    failed = tt;
    untouched = λ e. refl;
  }

  -- the last piece is written, where at first nothing waited
  pub Writes-behind : {a b c : W} {none w text : List ℕ} {r : Result ⊤ RunFault}
      → none ≡ [] → Pushes s a b none w text (Ok tt) → Writes s b c w r
      → Writes s a c text r
  Writes-behind {r = r} start h k = record {
    accepts = accepts_behind r start h.puts k.accepts;
    accepts_revealed = accepts_behind r start h.puts_revealed k.accepts_revealed;
    fault = k.fault;
    leaves_sink = record {
      flushed = k.leaves_sink.flushed;
      works = k.leaves_sink.works;
      write = k.leaves_sink.write;
      unwritten = no_other _ r k.fault;
      untouched = λ e. let same = h.untouched e in k.leaves_sink.untouched (ap s.has_failed same ∙ e) ∙ same;
    };
  }
