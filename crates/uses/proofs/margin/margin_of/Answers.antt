use Rattle.std.proofs.Common.{Option, Some, None, MatchOption, IfSome}
use Rattle.std.proofs.lemmas.Result.{IfOk-weaker}
use Rattle.uses.proofs.margin.margin_of.Goals as goal

some_weaker : {A : Type 0} (P : Type 0) (Q R : A → Type 0) → ((x : A) → Q x → R x) → (o : Option A) → MatchOption o P Q → IfSome o R
some_weaker P Q R f None h = tt
some_weaker P Q R f (Some x) h = f x h

pub returns : goal.returns
returns c =
    let law = c.few_wrong_lines_hide_no_tag.ensures in
    IfOk-weaker c.margin.result _ _ (λ m h. some_weaker _ _ _ (λ w q truth places p. law _ truth w.margin places p q.1.margin) m.weakest h) c.margin.ensures.weakest
