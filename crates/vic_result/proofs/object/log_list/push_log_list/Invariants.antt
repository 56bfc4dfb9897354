use Rattle.vic_result.proofs.Words.{take}
use Rattle.vic_result.specs.inner.Logs.{AddsLogs}
use Rattle.vic_result.proofs.object.log_list.push_log_list.Given as goal

abbrev pub invariant-loop-index : goal.invariant-loop-index
invariant-loop-index l = AddsLogs l.collection l.fn.text.items l.text.items (take l.index l.collection.surveys)
