use Rattle.vic_object.specs.Object.{IsJsonOf}
use Rattle.vic_program.proofs.Written.{written_for}
use Rattle.vic_program.proofs.single.write_object.Goals as goal

pub returns-in-Ok : goal.returns-in-Ok
returns-in-Ok g c =
    written_for _ IsJsonOf c.args.text.now c.in-Ok.object.text.items c.in-Ok.object.status _ _ c.write_answer.result c.in-Ok.ensures c.write_answer.ensures.status c.write_answer.ensures.out c.write_answer.ensures.cut c.write_answer.ensures.fault
