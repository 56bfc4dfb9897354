use Rattle.vic_collection.proofs.Words.{◌≡◌, ◌∙◌, ◌++◌, [], Bool, true, ap, sym, cond, has, map}
use Rattle.std.proofs.lemmas.Result.{IfOk-weaker}
use Rattle.vic_tree.specs.Ranges.{is_open_in}
use Rattle.vic_collection.specs.Collections.{is_undecided_in, logs_in, positions_from, undecided_logs}
use Rattle.vic_collection.proofs.Halves.{noted, positions_from-map}
use Rattle.vic_collection.proofs.collection.Collection.undecided_logs.Goals as goal

pub returns : goal.returns
returns c = IfOk-weaker c.of.result _ _ (λ logs kept u is named.
    let surveys = c.args.self.now.surveys in
    let sets = c.in_ok-sets.sets.items in
    let us = c.as_slice.result.now in
    let none : logs_in c.new-rows.result.items u ≡ [] = ap (λ rows. logs_in rows u) c.new-rows.ensures.items in
    let among : has us u ≡ true = ap (λ vs. has vs u) c.as_slice.ensures.value ∙ (c.in_ok-uids.ensures u ∙ named) in
    let same : map (λ set. is_open_in set u) sets ≡ map (λ s. is_undecided_in s u) surveys = c.in_ok-sets.ensures u is ∙ ap (map (λ s. is_undecided_in s u)) c.surveys.ensures in
    let found : positions_from (λ set. is_open_in set u) 0 sets ≡ undecided_logs c.args.self.now u =
    positions_from-map (λ set. is_open_in set u) 0 sets ∙ (ap (positions_from (λ (b : Bool). b) 0) same ∙ sym (positions_from-map (λ s. is_undecided_in s u) 0 surveys)) in
    kept u ∙ (c.in_ok-note.ensures u is ∙ (ap (λ l. l ++ noted c.deref.result.now 0 us u) none ∙ (ap (λ ss. noted ss 0 us u) c.deref.ensures.value ∙ (ap (λ (b : Bool). cond b (positions_from (λ set. is_open_in set u) 0 sets) []) among ∙ found))))) c.of.ensures
