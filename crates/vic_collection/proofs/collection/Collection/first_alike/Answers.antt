use Rattle.vic_collection.proofs.Words.{◌≡◌, ◌≤◌, ◌∷◌, Some, slice_get, slice_get_read, length, refl, ◌∙◌, sym, subst, ap, list_any}
use Rattle.std.specs.Prelude.{option_to_list}
use Rattle.std.specs.Option.{option_map}
use Rattle.vic_collection.specs.inner.NameSets.{has_name}
use Rattle.vic_collection.proofs.Knowing.{as_known, alike_here, none_upto, known_upto, first_there, none_there}
use Rattle.vic_collection.proofs.collection.Collection.first_alike.Goals as goal

pub returns-then-knows_one-clause-some : goal.returns-then-knows_one-clause-some
returns-then-knows_one-clause-some c =
    let loop = c.loop-index in
    let all = c.args.self.now in
    let s = c.survey-item.result in
    let name = c.as_bytes-name.ensures.value ∙ (c.as_str.ensures.value ∙ c.name.ensures.value) in
    let key = option_map (λ k. k.now) c.key_of_name-key.result in
    let both = as_known all s c.in_ok-leads.leads c.as_bytes-name.result.now key loop.invariant.leads name c.key_of_name-key.ensures in
    let items = c.surveys-survey-items.result.now in
    let at = subst (λ xs. slice_get xs loop.index ≡ Some s) c.surveys-survey-items.ensures (slice_get_read items (length items) loop.index s refl c.loop-index-test.true c.survey-item.is) in
    let found = ap (list_any (has_name loop.names)) (sym both) ∙ (sym c.knows_one.ensures ∙ c.if-knows_one.true) in
    (alike_here all loop.index s at loop.names loop.invariant.known found, first_there all loop.index loop.invariant.none)

pub loop-index-preserved : goal.loop-index-preserved
loop-index-preserved c =
    let loop = c.loop-index in
    let all = c.args.self.now in
    let s = c.survey-item.result in
    let name = c.as_bytes-name.ensures.value ∙ (c.as_str.ensures.value ∙ c.name.ensures.value) in
    let key = option_map (λ k. k.now) c.key_of_name-key.result in
    let both = as_known all s c.in_ok-leads.leads c.as_bytes-name.result.now key loop.invariant.leads name c.key_of_name-key.ensures in
    let items = c.surveys-survey-items.result.now in
    let at = subst (λ xs. slice_get xs loop.index ≡ Some s) c.surveys-survey-items.ensures (slice_get_read items (length items) loop.index s refl c.loop-index-test.true c.survey-item.is) in
    let found = ap (list_any (has_name loop.names)) (sym both) ∙ (sym c.knows_one.ensures ∙ c.if-knows_one.false) in
    record {
      leads = loop.invariant.leads;
      known = known_upto all loop.index s at loop.names loop.invariant.known c.add_names.new.names (c.as_bytes-name.result.now ∷ option_to_list key) both c.in_ok-add_names.ensures;
      none = none_upto all loop.index s at loop.names loop.invariant.known found loop.invariant.none;
    }

pub returns-clause-none : goal.returns-clause-none
returns-clause-none c =
    let loop = c.loop-index in
    none_there c.args.self.now loop.index (subst (λ xs. length xs ≤ loop.index) c.surveys-survey-items.ensures c.loop-index-test.false) loop.invariant.none
