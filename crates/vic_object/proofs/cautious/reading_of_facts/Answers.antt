use Rattle.vic_log.specs.Order.{entries}
use Rattle.vic_object.proofs.Measured.{settled_made}
use Rattle.vic_object.proofs.cautious.reading_of_facts.Goals as goal

pub returns : goal.returns
returns c lines keys = record {
  verdict = c.in_ok-other.ensures;
  holds = c.is_same.ensures;
  weakest = c.in_ok-weakest.ensures.weakest;
  settled = settled_made lines (entries c.args.log.now.lines) c.args.facts.«open» c.args.facts.certain c.args.certain.now c.in_ok-settled.settled c.requires.facts.told keys c.in_ok-settled.ensures;
}
