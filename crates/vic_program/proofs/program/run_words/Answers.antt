use Rattle.std.proofs.Common.{◌≡◌, map, string_bytes, ap, rules, Err}
use Rattle.vic_words.specs.Words.{Ask}
use Rattle.vic_words.specs.declared.asked.Asked.{Asked}
use Rattle.vic_words.specs.declared.asked.WordsFault.TheVariants.{Usage as UsageFault}
use Rattle.vic_program.specs.Ends.{line_of}
use Rattle.vic_program.proofs.Asked.{as_end, no_request_runs}
use Rattle.vic_program.proofs.program.run_words.Goals as goal

pub returns-in-Err : goal.returns-in-Err
returns-in-Err g c =
    let nothing : c.in-Err.fault ≡ UsageFault → (asked : Asked) → Ask (map string_bytes c.args.words.items) asked → ⊥ = search rules in
    record {
      end = Err (line_of c.no_answer_for_words.result);
      ran = no_request_runs _ _ _ _ _ _ _ c.in-Err.fault nothing (ap as_end c.no_answer_for_words.ensures);
      code_is = c.say_end-in-Err.ensures.code;
      says = c.say_end-in-Err.ensures.says;
    }
