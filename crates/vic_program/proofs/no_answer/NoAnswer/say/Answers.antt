use Rattle.std.proofs.Common.{◌∙◌, ◌++◌, codes, rules, ap₂}
use Rattle.vic_program.specs.Ends.{line_of}
use Rattle.vic_program.specs.Lines.{SaysPart}
use Rattle.vic_program.proofs.Saying.{said_failed, said_flushed, said_three}
use Rattle.vic_program.proofs.no_answer.NoAnswer.say.Goals as goal

pub returns-then-not-failed : goal.returns-then-not-failed
returns-then-not-failed g c =
    let told : SaysPart g.W.Sink c.args.sink.now c.say_part-3.new.sink (line_of c.args.self.now ++ codes "\n") =
    said_three g.W.Sink _ _ _ _ _ _ _ _ c.say_part.ensures c.say_part-2.ensures c.say_part-3.ensures
    (ap₂ (λ x y. x ++ y) c.as_bytes.ensures.value c.as_bytes-2.ensures.value ∙ c.parts.ensures) in
    said_flushed g.W.Sink _ _ _ _ c.flush.result told (search rules) c.flush.ensures.unwritten c.flush.ensures.state c.flush.ensures.handed_on

pub returns-else-not-failed : goal.returns-else-not-failed
returns-else-not-failed g c =
    let told : SaysPart g.W.Sink c.args.sink.now c.say_part-3.new.sink (line_of c.args.self.now ++ codes "\n") =
    said_three g.W.Sink _ _ _ _ _ _ _ _ c.say_part.ensures c.say_part-2.ensures c.say_part-3.ensures
    (ap₂ (λ x y. x ++ y) c.as_bytes.ensures.value c.as_bytes-2.ensures.value ∙ c.parts.ensures) in
    said_failed g.W.Sink _ _ _ told (search rules)
