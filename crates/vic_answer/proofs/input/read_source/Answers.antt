use Rattle.vic_answer.proofs.Words.{◌≡◌, ℕ, List, Option, Some, None, Err, inl, inr, ⊎_elim, subst, Consumes, HandsOut, TellsOn, lines_of_text, IsEnough, IsFirstFault, LineFault, LogFault, Line, ReadsWhere}
use Rattle.vic_answer.proofs.input.read_source.Goals as goal

consumed : (a b : Option (List ℕ)) (xs : List ℕ) → HandsOut a b xs → TellsOn a b → Consumes a b xs
consumed None b xs h t = tt
consumed (Some us) None xs h t = absurd t
consumed (Some us) (Some vs) xs h t = h

refused : (IsOver : Type 0) (text : List ℕ) (e : LogFault) (n : ℕ) (f : LineFault) → e ≡ Line n f → ReadsWhere IsOver text (Err e)
    → IsFirstFault (lines_of_text text) n f × IsEnough IsOver text
refused IsOver text e n f is h =
    ⊎_elim (λ early. (early.fault, inr record { line = n; fault = f; early = early })) (λ late. (late.1, inl late.0)) (subst (λ (x : LogFault). ReadsWhere IsOver text (Err x)) is h)

pub returns-in-Err-Line-clause-reading_revealed : goal.returns-in-Err-Line-clause-reading_revealed
returns-in-Err-Line-clause-reading_revealed g c =
    let a = c.in-Err-Line.ensures.answer c.new.ensures in
    let r = refused _ a.0 c.in-Err-Line.field-0 c.in-Err-Line.line c.in-Err-Line.fault c.in-Err-Line.field-0-is a.2 in
    record { text = a.0; given = consumed _ _ a.0 a.1 (c.in-Err-Line.ensures.tells (λ e. cc (e, c.in-Err-Line.field-0-is))); enough = r.1; holds = r.0 }

pub returns-in-Err-Line-clause-reading : goal.returns-in-Err-Line-clause-reading
returns-in-Err-Line-clause-reading g c =
    let a = c.in-Err-Line.ensures.returned c.new.ensures in
    let r = refused _ a.0 c.in-Err-Line.field-0 c.in-Err-Line.line c.in-Err-Line.fault c.in-Err-Line.field-0-is a.2 in
    record { text = a.0; given = a.1; enough = r.1; holds = r.0 }

pub returns-in-Err-Read-clause-reading_revealed : goal.returns-in-Err-Read-clause-reading_revealed
returns-in-Err-Read-clause-reading_revealed g c =
    let a = c.in-Err-Read.ensures.answer c.new.ensures in
    let none = rw c.in-Err-Read.field-0-is at a.2 in
    record { text = a.0; given = a.1; none = λ early. none early.line early.fault early.early }

pub returns-in-Err-Read-clause-reading : goal.returns-in-Err-Read-clause-reading
returns-in-Err-Read-clause-reading g c =
    let a = c.in-Err-Read.ensures.returned c.new.ensures in
    let none = rw c.in-Err-Read.field-0-is at a.2 in
    record { text = a.0; given = a.1; none = λ early. none early.line early.fault early.early }
