use Rattle.vic_collection.proofs.Words.{◌≡◌, ◌∙◌, ap, sym, map, ◌++◌, [], List, ℕ, is_some, list_any, not, true, false, Bool}
use Rattle.std.specs.Borrow.{Bor}
use Rattle.std.specs.List.{filter, flat_map}
use Rattle.std.specs.Option.{option_map}
use Rattle.vic_table.specs.declared.columns.CatalogueColumns.{CatalogueColumns}
use Rattle.vic_collection.specs.Collections.{CollectionValue, asks_for_places}
use Rattle.vic_collection.specs.Joins.{each_once, is_of_place, is_text, place_of_log, place_if_expected, places_asked_for, places_of_rows, places_without_log}
use Rattle.vic_collection.specs.inner.NameSets.{has_name}
use Rattle.vic_collection.specs.inner.Without.{AreAdded}
use Rattle.vic_collection.proofs.Elements.{list_any-map}
use Rattle.vic_collection.proofs.Without.{more_added, none_added, none_asked_for, new_places}
use Rattle.vic_collection.proofs.collection.Collection.places_without_log.Goals as goal
use Rattle.vic_collection.proofs.collection.Collection.places_without_log.Goals.{in-Some+in_ok-add_rows, in_default}

pub returns-then-is_none : goal.returns-then-is_none
returns-then-is_none c =
    let inside = c.self.inside in
    let view : CollectionValue = record { catalogue = inside.catalogue; rows = inside.rows; surveys = inside.surveys.items } in
    let asks : asks_for_places view ≡ false = ap (λ (cs : CatalogueColumns). is_some cs.place) (sym c.columns.ensures) ∙ c.if-is_none.ensures in
    ap (map (λ (p : Bor (List ℕ)). p.now)) c.new-without.ensures.items ∙ (sym (none_asked_for view asks) ∙ ap places_without_log c.self.view_is)

pub returns : goal.returns
returns c =
    let inside = c.self.inside in
    let view : CollectionValue = record { catalogue = inside.catalogue; rows = inside.rows; surveys = inside.surveys.items } in
    let names = c.in_ok-known.known in
    let before = map (λ p. p.now) c.new-without.result.items in
    let between = map (λ p. p.now) c.add_items.new.without.items in
    let asks : asks_for_places view ≡ true = ap (λ (cs : CatalogueColumns). is_some cs.place) (sym c.columns.ensures) ∙ is_true (is_some c.columns.result.place) c.is_none.result c.is_none.ensures c.if-is_none.false in
    let known : (q : List ℕ) → has_name names q ≡ list_any (is_of_place view q) view.surveys = λ q.
    c.in_ok-known.ensures q ∙ (ap (λ all. list_any (is_text q) (map (option_map (λ p. p.items)) all)) c.deref.ensures.value ∙ (ap (list_any (is_text q)) c.self.invariant.0 ∙ list_any-map (is_text q) (place_of_log view) view.surveys)) in
    let all : AreAdded names c.match-self.known before (map (λ p. p.now) c.match-self.without.items) (places_asked_for view) = elim c.match-self.branch [
      | in-Some+in_ok-add_rows w ↦ rw (w.known-is, w.without-is) (more_added names c.add_items.new.known w.add_rows.new.known before between (map (λ p. p.now) w.add_rows.new.without.items) (flat_map place_if_expected inside.catalogue.items) (places_of_rows inside.rows) c.in_ok-add_items.ensures (rw w.in-Some.is w.in_ok-add_rows.ensures))
      | in_default w ↦ rw (w.known-is, w.without-is) (more_added names c.add_items.new.known c.add_items.new.known before between between (flat_map place_if_expected inside.catalogue.items) (places_of_rows inside.rows) c.in_ok-add_items.ensures (rw w.in_default.is (none_added c.add_items.new.known between)))
    ] in
    let none : before ≡ [] = ap (map (λ (p : Bor (List ℕ)). p.now)) c.new-without.ensures.items in
    all.added ∙ (ap (λ l. l ++ filter (λ q. not (has_name names q)) (each_once (places_asked_for view))) none ∙ (new_places view asks names known ∙ ap places_without_log c.self.view_is)) where
      is_true : (a b : Bool) → a ≡ not b → b ≡ false → a ≡ true
      is_true a b e h = e ∙ ap not h
