use Rattle.vic_collection.proofs.Words.{◌≡◌, ◌∙◌, ◌||◌, ◌&&◌, Bool, true, false, ap, sym, refl, not, has}
use Rattle.std.proofs.lemmas.Result.{IfOk-weaker}
use Rattle.vic_frame.specs.LowBitsFirst.{mirror}
use Rattle.vic_tree.specs.Ranges.{is_open_in}
use Rattle.vic_collection.specs.Collections.{is_certain_somewhere, is_possible_somewhere}
use Rattle.vic_collection.proofs.Telling.{possible_elsewhere}
use Rattle.vic_collection.proofs.collection.Collection.possible_set.Goals as goal

pub returns-then-self : goal.returns-then-self
returns-then-self c = IfOk-weaker c.everything.result _ _ (λ set all u is nowhere.
    let inside = c.self.inside in
    let possible = possible_elsewhere inside.surveys.items inside.told u c.self.invariant.2 is (ap (λ v. is_certain_somewhere v u) c.self.view_is ∙ nowhere) in
    all u is ∙ (sym (ap (λ (b : Bool). b || is_open_in inside.told.«open» u) c.if-self.true) ∙ (possible ∙ ap (λ v. is_possible_somewhere v u) c.self.view_is))) c.everything.ensures

pub returns-else-self : goal.returns-else-self
returns-else-self c = IfOk-weaker c.besides-else-self.result _ _ (λ set same u is nowhere.
    let inside = c.self.inside in
    let possible = possible_elsewhere inside.surveys.items inside.told u c.self.invariant.2 is (ap (λ v. is_certain_somewhere v u) c.self.view_is ∙ nowhere) in
    let all : (is_open_in inside.told.«open» u && not (has c.none.result (mirror u))) ≡ is_open_in inside.told.«open» u = rw c.none.ensures (go (is_open_in inside.told.«open» u)) in
    same u is ∙ (all ∙ (sym (ap (λ (b : Bool). b || is_open_in inside.told.«open» u) c.if-self.false) ∙ (possible ∙ ap (λ v. is_possible_somewhere v u) c.self.view_is)))) c.besides-else-self.ensures where
      go : (b : Bool) → (b && true) ≡ b
      go true = refl
      go false = refl
