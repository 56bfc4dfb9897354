use Rattle.vic_answer.proofs.Words.{append_assoc}
use Rattle.vic_answer.proofs.explain.push_size.Goals as goal

pub returns : goal.returns
returns c =
    rw (c.push_str-3.ensures.items, c.push_str-2.ensures.items, c.push_str.ensures.items, c.format.ensures.text) (simp append_assoc)
