use Rattle.std.proofs.Common.{Err, refl}
use Rattle.vic_program.specs.Ends.{line_of}
use Rattle.vic_program.proofs.Asked.{match_err}
use Rattle.vic_program.proofs.program.run_program.Goals as goal

pub returns-in-Err : goal.returns-in-Err
returns-in-Err g c = record {
  end = Err (line_of c.no_answer_for_words.result);
  ran = match_err c.args.words c.in-Err.fault _ _ c.in-Err.is (record { unread = refl; unwritten = record { line = line_of c.no_answer_for_words.result; ends = refl; why = c.no_answer_for_words.ensures; untouched = refl } });
  code_is = c.say_end.ensures.code;
  says = c.say_end.ensures.says;
}
