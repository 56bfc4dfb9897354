-- Items as they are kept: each with the offsets of its row, and with all places in one piece.
use Rattle.std.specs.Prelude.{ℕ, ◌≤◌, Bool, false, Option, Some, None, List, [], ◌∷◌, map, slice_range}
use Rattle.std.specs.Option.{ForSome, option_map}
use Rattle.vic_table.specs.Values.{ItemValue, PlaceRowValue}
use Rattle.vic_table.specs.declared.item_list.KeptItem.{KeptItem}
use Rattle.vic_table.specs.declared.item_list.Item.{Item}
use Rattle.vic_table.specs.inner.Spans.{IsWithin, span_bytes}

-- an item, with the offsets in the text at which its row begins and ends
pub record ItemAt : Type 0 where
  pub line : ℕ
  pub start : ℕ
  pub end : ℕ
  pub uid : Option ℕ
  pub place : Option (List ℕ)
  pub away : Bool

-- an item of the code, as this
abbrev pub item_at : Item → ItemAt
item_at item = record {
  line = item.line;
  start = item.start;
  end = item.end;
  uid = item.uid;
  place = option_map (λ place. place.items) item.place;
  away = item.away;
}

-- what an item in a text says
abbrev pub value_at : List ℕ → ItemAt → ItemValue
value_at text item = record {
  line = item.line;
  row = slice_range text item.start item.end;
  uid = item.uid;
  place = item.place;
  away = item.away;
}

abbrev pub item_value : List ℕ → Item → ItemValue
item_value text item = value_at text (item_at item)

abbrev pub item_values : List ℕ → List ItemAt → List ItemValue
item_values text items = map (value_at text) items

abbrev pub item_or_none : List ℕ → Option Item → List ItemValue
item_or_none text None = []
item_or_none text (Some item) = item_value text item ∷ []

-- the item of a UID in a list
abbrev pub listed_at : ℕ → ItemAt
listed_at u = record {
  line = 0;
  start = 0;
  end = 0;
  uid = Some u;
  place = None;
  away = false;
}

-- the item's row is within a text of so many bytes
pub record IsWithinText (len : ℕ) (item : ItemAt) : Type 0 where
  pub low : item.start ≤ item.end
  pub high : item.end ≤ len

-- ---- the places of items

-- an item whose place is among these bytes
abbrev pub kept_item : List ℕ → KeptItem → ItemAt
kept_item places item = record {
  line = item.line;
  start = item.start;
  end = item.end;
  uid = item.uid;
  place = option_map (span_bytes places) item.place;
  away = item.away;
}

abbrev pub kept_items : List ℕ → List KeptItem → List ItemAt
kept_items places items = map (kept_item places) items

-- its place is within so many bytes
abbrev pub HasPlace : ℕ → KeptItem → Type 0
HasPlace len item = ForSome item.place (IsWithin len)

-- the row of a table of places, if there is one
abbrev pub row_or_none : Option PlaceRowValue → List PlaceRowValue
row_or_none None = []
row_or_none (Some row) = row ∷ []
