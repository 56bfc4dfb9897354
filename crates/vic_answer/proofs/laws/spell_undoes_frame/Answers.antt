use Rattle.vic_answer.proofs.Words.{ap, sym, ◌∙◌, ◌++◌, codes, subst, IfOk, encode_upper, SpellsRequest, SpellsReply, spelled_text, request_found, reply_found}
use Rattle.vic_answer.proofs.SpellLaws.{request_back, reply_back}
use Rattle.vic_answer.proofs.SpellOnly.{words_taken}
use Rattle.vic_answer.proofs.laws.spell_undoes_frame.Goals as goal

pub returns-clause-request : goal.returns-clause-request
returns-clause-request c f q bytes read =
    let s = subst (λ r. IfOk r (λ q. SpellsRequest f q)) read (request_found f bytes) in
    ap spelled_text (request_back q s.0 s.1) ∙ ap (λ g. encode_upper g ++ codes "\n") (sym s.2)

pub returns-clause-reply : goal.returns-clause-reply
returns-clause-reply c f r bytes read =
    let s = subst (λ x. IfOk x (λ r. SpellsReply f r)) read (reply_found f bytes) in
    ap spelled_text (reply_back r s.0) ∙ ap (λ g. encode_upper g ++ codes "\n") (sym s.1)

pub returns-clause-only : goal.returns-clause-only
returns-clause-only c = words_taken
