use Rattle.vic_log.proofs.Words.{rules, ◌≡◌, ◌++◌, ℕ, List, Option, Result, Err, MatchResult, IfErr, subst, take, length-append, length-take-le, false, true, ap, ◌∙◌, append-nil, append_assoc, arith, ◌↔◌, common_steps, Consumes-trans, err_from_is_err_and, Consumes, LogFault, Read, IsEarly, lines_of_text, LogValue, IsLogOf, Refuses, Consumes-nil, KeepsOrHides, HandsOut, TellsOn, ReadsWhere}
use Rattle.vic_log.proofs.reader.read_from.Goals as goal

handed : (a b : Option (List ℕ)) (xs : List ℕ) → Consumes a b xs → HandsOut a b xs × TellsOn a b
handed a b xs h = grind (arith, common_steps)

handed_kept : (a b d : Option (List ℕ)) (xs : List ℕ) → Consumes a b xs → KeepsOrHides b d → HandsOut a d xs
handed_kept a b d xs h k = grind (arith, common_steps)

reads_early : (IsOver : Type 0) (text : List ℕ) (e : LogFault) → IsEarly e text → ReadsWhere IsOver text (Err e)
reads_early IsOver text e h = grind (arith, common_steps)

reads_end : (IsOver : Type 0) (text : List ℕ) (r : Result LogValue LogFault) → IsOver → MatchResult r (IsLogOf (lines_of_text text)) (Refuses text) → ReadsWhere IsOver text r × IfErr r (λ e. (e ≡ Read) ↔ (false ≡ true))
reads_end IsOver text r e h = grind (arith, common_steps)

pub returns-in_err-count-clause-answer : goal.returns-in_err-count-clause-answer
returns-in_err-count-clause-answer g c = grind (arith, common_steps, err_from_is_err_and, handed_kept, Consumes-nil, rules)

pub returns-in_err-feed-clause-answer : goal.returns-in_err-feed-clause-answer
returns-in_err-feed-clause-answer g c =
    let i = c.loop-count.invariant in
    let given = i.text ++ take c.loop-count.count c.loop-count.piece in
    let p = err_from_is_err_and c.from_residual-in_err-feed.result c.from_residual-in_err-feed.ensures.1 in
    rw (p.1, p.2) (given, (handed _ _ given i.given).0, reads_early _ given c.in_err-feed.field-0.0 (c.in_err-feed.ensures.early i.text i.fed))

pub returns-in_err-feed-clause-returned : goal.returns-in_err-feed-clause-returned
returns-in_err-feed-clause-returned g c = grind (arith, common_steps, err_from_is_err_and, reads_early)

pub returns-in_err-feed-clause-tells : goal.returns-in_err-feed-clause-tells
returns-in_err-feed-clause-tells g c = λ _. (handed _ _ _ c.loop-count.invariant.given).1

pub returns-in_err-count-2-clause-answer : goal.returns-in_err-count-2-clause-answer
returns-in_err-count-2-clause-answer g c =
    let i = c.loop-count.invariant in
    let given = i.text ++ take c.loop-count.count c.loop-count.piece in
    let waits = c.in_ok-feed.ensures.waits given (c.in_ok-feed.ensures.fed i.text i.fed) in
    let p = err_from_is_err_and c.from_residual-in_err-count-2.result c.from_residual-in_err-count-2.ensures.1 in
    rw (p.1, p.2) (given, handed_kept _ _ _ given i.given c.in_err-count-2.ensures.bytes, waits.0)

pub returns-in_err-count-2-clause-returned : goal.returns-in_err-count-2-clause-returned
returns-in_err-count-2-clause-returned g c =
    let i = c.loop-count.invariant in
    let given = i.text ++ take c.loop-count.count c.loop-count.piece in
    let waits = c.in_ok-feed.ensures.waits given (c.in_ok-feed.ensures.fed i.text i.fed) in
    let p = err_from_is_err_and c.from_residual-in_err-count-2.result c.from_residual-in_err-count-2.ensures.1 in
    rw (p.1, p.2) (given, c.in_err-count-2.ensures.returned ∙ (append-nil _ ∙ i.returned), waits.0)

pub returns-in_err-count-2-clause-reads : goal.returns-in_err-count-2-clause-reads
returns-in_err-count-2-clause-reads g c =
    let i = c.loop-count.invariant in
    let given = i.text ++ take c.loop-count.count c.loop-count.piece in
    let waits = c.in_ok-feed.ensures.waits given (c.in_ok-feed.ensures.fed i.text i.fed) in
    let size = length-append i.text (take c.loop-count.count c.loop-count.piece) in
    omega (arith, waits.1, c.in_err-count-2.ensures.counts, length-take-le {A = ℕ})

pub loop-count-preserved : goal.loop-count-preserved
loop-count-preserved g c =
    let i = c.loop-count.invariant in
    let given = i.text ++ take c.loop-count.count c.loop-count.piece in
    let fed = c.in_ok-feed.ensures.fed i.text i.fed in
    let waits = c.in_ok-feed.ensures.waits given fed in
    let size = length-append i.text (take c.loop-count.count c.loop-count.piece) in
    record {
      text = given;
      fed = fed;
      none_early = waits.0;
      within = waits.1;
      given = Consumes-trans _ _ _ given _ i.given c.in_ok-count-2.ensures.bytes.0;
      returned = c.in_ok-count-2.ensures.returned ∙ (ap (λ xs. xs ++ take c.in_ok-count-2.count c.read-in-loop-count.new.buf) i.returned ∙ append_assoc _ given _);
      works = c.in_ok-count-2.ensures.state;
      bound = c.in_ok-count-2.ensures.bound;
      end = λ none. c.in_ok-count-2.ensures.bytes.1 none (omega arith);
      ended = search rules;
      reads = omega (arith, c.in_ok-count-2.ensures.counts, length-take-le {A = ℕ});
    }

pub loop-count-smaller : goal.loop-count-smaller
loop-count-smaller g c = grind (arith, common_steps, length-append, length-take-le)

pub returns-clause-answer : goal.returns-clause-answer
returns-clause-answer g c =
    let i = c.loop-count.invariant in
    let none : c.loop-count.count ≡ 0 = omega arith in
    let bytes : i.text ++ take c.loop-count.count c.loop-count.piece ≡ i.text = rw none (append-nil i.text) in
    (i.text, (handed _ _ i.text (subst (Consumes _ _) bytes i.given)).0, (reads_end _ i.text c.finish.result (i.end none) (c.finish.ensures.answer i.text i.fed)).0)

pub returns-clause-returned : goal.returns-clause-returned
returns-clause-returned g c = grind (arith, common_steps, append-nil, reads_end)

pub returns-clause-read : goal.returns-clause-read
returns-clause-read g c =
    let i = c.loop-count.invariant in rw i.works (reads_end _ i.text c.finish.result (i.ended (omega arith)) (c.finish.ensures.answer i.text i.fed)).1
