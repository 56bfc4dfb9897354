-- The cells of an item, and its logs.
use Rattle.vic_result.proofs.Words.{◌≡◌, ◌∙◌, ◌||◌, ◌&&◌, ℕ, Bool, true, false, List, [], ◌∷◌, Option, None, Some, ap, refl, slice_get, slice_get_within, get_or_from_slice_get, eq-eqb, ◌<◌, length, get_or, nat_eq, map, subst, sym, length-map}
use Rattle.std.proofs.lemmas.List.Folds.{list_any_at}
use Rattle.vic_frame.specs.Uids.{has}
use Rattle.vic_verdict.specs.Rising.{IsListOf}
use Rattle.std.proofs.lemmas.List.{get_or-map}
use Rattle.vic_collection.specs.declared.unlisted.UnlistedUid.{UnlistedUid}
use Rattle.std.specs.Option.{option_map}
use Rattle.std.proofs.lemmas.Option.{slice_get-map}
use Rattle.vic_table.specs.Values.{ItemValue}
use Rattle.vic_collection.specs.States.{state_of}
use Rattle.vic_collection.specs.declared.state.State.{State}
use Rattle.vic_collection.specs.Collections.{CollectionValue, certain_logs, is_certain_in, is_certain_somewhere, is_named, is_unlisted, is_number, is_of_item, is_undecided_in, undecided_logs}
use Rattle.vic_result.specs.ResultCells.{names_text}
use Rattle.vic_result.specs.ResultTable.{cells_by, logs_by, uid_cells}
use Rattle.vic_result.specs.NamesAt.{names_at}
use Rattle.vic_result.proofs.NamedLogs.{names_at-positions}

pub uid_cells-at : (c : CollectionValue) (state : List ℕ) (u : ℕ) → (state ∷ names_text (names_at c.surveys (certain_logs c u)) ∷ names_text (names_at c.surveys (undecided_logs c u)) ∷ []) ≡ uid_cells c state u
uid_cells-at c state u = rw (names_at-positions (λ s. is_certain_in s u) c.surveys, names_at-positions (λ s. is_undecided_in s u) c.surveys) refl

pub cells_by-at : (c : CollectionValue) (state : List ℕ) (o : Option ℕ) → (state ∷ names_text (names_at c.surveys (logs_by (certain_logs c) o)) ∷ names_text (names_at c.surveys (logs_by (undecided_logs c) o)) ∷ []) ≡ cells_by c state o
cells_by-at c state None = refl
cells_by-at c state (Some u) = uid_cells-at c state u

or_true : (a b : Bool) → b ≡ true → a || b ≡ true
or_true true b e = refl
or_true false b e = e

-- the UID of an item is named
pub item_named : (c : CollectionValue) (i : ℕ) (item : ItemValue) (u : ℕ) → slice_get c.catalogue.items i ≡ Some item → item.uid ≡ Some u → is_named c u ≡ true
item_named c i item u at is = or_true _ (is_of_item c u) (list_any_at (λ (x : ItemValue). is_number u x.uid) c.catalogue.items i item (slice_get_within c.catalogue.items i item at) (ap (λ (x : ItemValue). is_number u x.uid) (get_or_from_slice_get c.catalogue.items i item item at) ∙ (ap (is_number u) is ∙ eq-eqb u u refl)))

-- an unlisted UID is named, and so is each in the list of them
pub unlisted_named : (c : CollectionValue) (u : ℕ) → is_unlisted c u ≡ true → is_named c u ≡ true
unlisted_named c u is = front (is_certain_somewhere c u) _ _ is where
  front : (a b d : Bool) → a && b ≡ true → a || d ≡ true
  front true b d e = refl
  front false b d e = absurd cc

-- a UID of a list, with more beside it
pub uid_among : {X : Type 0} (uid : X → ℕ) (xs : List X) (k : ℕ) (d : X) → k < length xs → has (map uid xs) (uid (get_or xs k d)) ≡ true
uid_among uid xs k d lt =
    let u = uid (get_or xs k d) in
    list_any_at (nat_eq u) (map uid xs) k 0 (subst (λ n. k < n) (sym (length-map xs uid)) lt) (ap (nat_eq u) (get_or-map uid xs k d 0 lt) ∙ eq-eqb u u refl)

pub unlisted_at : (P : ℕ → Type 0) (xs : List UnlistedUid) → IsListOf P (map (λ x. x.uid) xs) → (k : ℕ) (d : UnlistedUid) → k < length xs → P (get_or xs k d).uid
unlisted_at P xs list k d lt = (list.members (get_or xs k d).uid).0 (uid_among (λ (x : UnlistedUid). x.uid) xs k d lt)

-- the state of an item, among those of all
pub state_there : (c : CollectionValue) (states : List State) (i : ℕ) (item : ItemValue) (state : State) → states ≡ map (state_of c) c.catalogue.items → slice_get c.catalogue.items i ≡ Some item → slice_get states i ≡ Some state → state ≡ state_of c item
state_there c states i item state are at is =
    let both : Some state ≡ Some (state_of c item) = sym is ∙ (ap (λ l. slice_get l i) are ∙ (slice_get-map (state_of c) c.catalogue.items i ∙ ap (option_map (state_of c)) at)) in
    cc both
