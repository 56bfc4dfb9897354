use Rattle.std.proofs.Common.{◌≡◌, None, rules}
use Rattle.vic_answer.specs.Tasks.{file_of}
use Rattle.vic_program.proofs.Asked.{task_over_input}
use Rattle.vic_program.proofs.run.run_task.Goals as goal

pub returns-in-None : goal.returns-in-None
returns-in-None g c =
    let none : file_of c.args.task.now ≡ None = search rules in
    task_over_input _ _ _ c.args.task.now (file_of c.args.task.now) _ _ _ _ _ none (record {
      ran = c.do_task.result;
      does = record {
        does = c.do_task.ensures.does;
        leaves_source = c.do_task.ensures.leaves_source;
        leaves_sink = c.do_task.ensures.leaves_sink;
      };
      ends = c.end_of_run.ensures;
    })
