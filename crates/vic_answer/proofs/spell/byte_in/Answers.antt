use Rattle.vic_answer.proofs.Words.{◌∙◌, arith, sym}
use Rattle.vic_answer.proofs.SpelledWords.{byte_word}
use Rattle.vic_answer.proofs.spell.byte_in.Goals as goal

pub overflow_cast-result : goal.overflow_cast-result
overflow_cast-result c = omega (arith, byte_word c.args.word.now c.in_ok-number.number (sym c.hex_word.ensures ∙ c.in_ok-number.was))
