use Rattle.vic_answer.proofs.Words.{IfOk-weaker, answer_of}
use Rattle.vic_answer.proofs.CheckLines.{complete_text, is_answer}
use Rattle.vic_answer.proofs.answered.find_in_text.Goals as goal

pub returns-clause-answer : goal.returns-clause-answer
returns-clause-answer g c =
    let text = c.args.text.now in
    IfOk-weaker c.find_in_read.result _ _ (λ a told. is_answer g.T.Judgement.IsOf g.T.HasVerdict.verdict_of g.met.T.Judgement.tells text a (told text c.in_ok-read.ensures)) c.find_in_read.ensures

pub returns-clause-whole : goal.returns-clause-whole
returns-clause-whole g c =
    let text = c.args.text.now in
    IfOk-weaker c.find_in_read.result _ _ (λ a told count is. complete_text text (answer_of g.T.HasVerdict.verdict_of a) count is (is_answer g.T.Judgement.IsOf g.T.HasVerdict.verdict_of g.met.T.Judgement.tells text a (told text c.in_ok-read.ensures))) c.find_in_read.ensures
