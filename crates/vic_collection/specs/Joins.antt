-- Which log is of which place, and what is left over on either side (profile).
use Rattle.std.specs.Prelude.{ℕ, Bool, false, ◌&&◌, ◌||◌, not, if◌then◌else◌, is_some, is_none, map, option_to_list, Option, Some, None, List, [], ◌∷◌, ◌++◌}
use Rattle.std.specs.List.{filter, flat_map, list_any}
use Rattle.std.specs.Option.{option_or}
use Rattle.std.specs.Str.{bytes_eq}
use Rattle.vic_survey.specs.Surveys.{SurveyValue}
use Rattle.vic_table.specs.Values.{ItemValue, PlaceRowValue}
use Rattle.vic_collection.specs.Collections.{CollectionValue, asks_for_places}
use Rattle.vic_collection.specs.Found.{found_by}

-- it is there, and it is this text
abbrev pub is_text : List ℕ → Option (List ℕ) → Bool
is_text text None = false
is_text text (Some other) = bytes_eq other text

-- ---- the place of a log

-- the place in whose row a table of places has this log
abbrev pub place_in_rows : List PlaceRowValue → List ℕ → Option (List ℕ)
place_in_rows [] name = None
place_in_rows (row ∷ rows) name =
    if bytes_eq row.log name then Some row.place else place_in_rows rows name

-- the place of an item that has this name
abbrev pub place_of_items : List ItemValue → List ℕ → Option (List ℕ)
place_of_items items name =
    if list_any (λ item. is_text name item.place) items then Some name else None

-- the place to which a name leads by a table of places, or without one
abbrev pub place_with : Option (List PlaceRowValue) → List ItemValue → List ℕ → Option (List ℕ)
place_with None items name = place_of_items items name
place_with (Some rows) items name = place_in_rows rows name

-- the place to which a name leads, where places are asked for
abbrev pub place_by_name : CollectionValue → List ℕ → Option (List ℕ)
place_by_name c name =
    if asks_for_places c then place_with c.rows c.catalogue.items name else None

abbrev pub first_place : (List ℕ → Option (List ℕ)) → List (List ℕ) → Option (List ℕ)
first_place place_of [] = None
first_place place_of (name ∷ names) = option_or (place_of name) (first_place place_of names)

-- the place of a log: that to which the first of the names leads by which the log is found
abbrev pub place_of_log : CollectionValue → SurveyValue → Option (List ℕ)
place_of_log c s = first_place (place_by_name c) (found_by s.name)

-- the log is of this place
abbrev pub is_of_place : CollectionValue → List ℕ → SurveyValue → Bool
is_of_place c place s = is_text place (place_of_log c s)

-- ---- what is left over

-- a log of no place, where places are asked for
abbrev pub is_left_over : CollectionValue → SurveyValue → Bool
is_left_over c s = asks_for_places c && is_none (place_of_log c s)

-- an item that should be in a field: it has a tag and isn't away
abbrev pub is_expected : ItemValue → Bool
is_expected item = is_some item.uid && not item.away

abbrev pub is_expected_at : List ℕ → ItemValue → Bool
is_expected_at place item = is_text place item.place && is_expected item

abbrev pub is_place_of_rows : List ℕ → Option (List PlaceRowValue) → Bool
is_place_of_rows place None = false
is_place_of_rows place (Some rows) = list_any (λ row. bytes_eq row.place place) rows

-- a log of the place is asked for: by an item, or by the table of places
abbrev pub is_asked_for : CollectionValue → List ℕ → Bool
is_asked_for c place =
    asks_for_places c
    && (list_any (is_expected_at place) c.catalogue.items || is_place_of_rows place c.rows)

-- a log of the place is asked for, and there is none
abbrev pub is_without_log : CollectionValue → List ℕ → Bool
is_without_log c place = is_asked_for c place && not (list_any (is_of_place c place) c.surveys)

-- ---- the places without a log, in their order

abbrev pub place_if_expected : ItemValue → List (List ℕ)
place_if_expected item = if is_expected item then option_to_list item.place else []

abbrev pub places_of_rows : Option (List PlaceRowValue) → List (List ℕ)
places_of_rows None = []
places_of_rows (Some rows) = map (λ row. row.place) rows

-- the places of which a log is asked for, where places are: of items by their rows, then of the
-- table of places
abbrev pub places_asked_for : CollectionValue → List (List ℕ)
places_asked_for c = flat_map place_if_expected c.catalogue.items ++ places_of_rows c.rows

-- each of some texts once, where it comes first
abbrev pub each_once : List (List ℕ) → List (List ℕ)
each_once [] = []
each_once (text ∷ texts) =
    text ∷ filter (λ other. not (bytes_eq text other)) (each_once texts)

-- the places without a log, each once
abbrev pub places_without_log : CollectionValue → List (List ℕ)
places_without_log c = filter (is_without_log c) (each_once (places_asked_for c))
