-- The table of a collection: the catalogue as it stands, and behind each row what the logs say of
-- its UID (profile).
use Rattle.std.specs.Prelude.{◌≡◌, ℕ, ◌-◌, true, Bool, if◌then◌else◌, Option, Some, None, List, [], ◌∷◌, ◌++◌, codes, map, replicate}
use Rattle.std.specs.List.{filter, flat_map}
use Rattle.vic_verdict.specs.Rising.{IsListOf}
use Rattle.vic_survey.specs.Surveys.{SurveyValue}
use Rattle.vic_table.specs.Columns.{separator_byte}
use Rattle.vic_table.specs.Lines.{has_mark, mark}
use Rattle.vic_table.specs.Values.{ItemValue}
use Rattle.vic_table.specs.declared.columns.CatalogueColumns.{CatalogueColumns}
use Rattle.vic_text.specs.Digits.{uid_text}
use Rattle.vic_collection.specs.Collections.{CollectionValue, is_certain_in, is_undecided_in, is_unlisted}
use Rattle.vic_collection.specs.States.{state_of}
use Rattle.vic_result.specs.StateNames.{state_name}
use Rattle.vic_result.specs.ResultCells.{cells_text, names_text}

-- ---- the three cells

-- the names of the logs that pass a test
abbrev pub names_where : (SurveyValue → Bool) → List SurveyValue → List (List ℕ)
names_where test surveys = map (λ s. s.name) (filter test surveys)

-- a state, the logs in which a UID is certain, and those in which it is possible and not certain
abbrev pub uid_cells : CollectionValue → List ℕ → ℕ → List (List ℕ)
uid_cells c state u =
    state ∷ names_text (names_where (λ s. is_certain_in s u) c.surveys)
    ∷ names_text (names_where (λ s. is_undecided_in s u) c.surveys) ∷ []

-- the same without a UID
abbrev pub cells_by : CollectionValue → List ℕ → Option ℕ → List (List ℕ)
cells_by c state None = state ∷ [] ∷ [] ∷ []
cells_by c state (Some u) = uid_cells c state u

-- ---- the lines

-- the logs of a UID, none where there is no UID
abbrev pub logs_by : (ℕ → List ℕ) → Option ℕ → List ℕ
logs_by logs None = []
logs_by logs (Some u) = logs u

abbrev pub separator_of : CollectionValue → ℕ
separator_of c = separator_byte c.catalogue.columns.separator

-- the names of the three columns
abbrev pub new_columns : List (List ℕ)
new_columns =
    codes "vicinity state" ∷ codes "vicinity certain in" ∷ codes "vicinity may be in" ∷ []

-- line 1 of the catalogue, and three columns more
abbrev pub head_line : CollectionValue → List ℕ
head_line c = c.catalogue.head ++ cells_text (separator_of c) new_columns

-- the row of an item
abbrev pub item_row : CollectionValue → ItemValue → List ℕ
item_row c item =
    item.row ++ cells_text (separator_of c) (cells_by c (state_name (state_of c item)) item.uid)

-- a row whose cell `uid` is a question mark and the UID, and whose other cells are empty
abbrev pub row_of_uid : CatalogueColumns → ℕ → List ℕ
row_of_uid columns u =
    replicate columns.uid (separator_byte columns.separator) ++ codes "?" ++ uid_text u
    ++ replicate (columns.count - columns.uid - 1) (separator_byte columns.separator)

-- the row of a UID that is certain, and of no item
abbrev pub unlisted_row : CollectionValue → ℕ → List ℕ
unlisted_row c u =
    row_of_uid c.catalogue.columns u
    ++ cells_text (separator_of c) (uid_cells c (codes "unexpected") u)

-- all lines, where these UIDs are unlisted
abbrev pub result_lines : CollectionValue → List ℕ → List (List ℕ)
result_lines c unlisted =
    head_line c ∷ map (item_row c) c.catalogue.items ++ map (unlisted_row c) unlisted

-- the mark of UTF-8 where the catalogue has it
abbrev pub mark_of : List ℕ → List ℕ
mark_of text = if has_mark text then mark else []

-- the text of the table: each line ends as the first line of the catalogue
abbrev pub table_text : CollectionValue → List ℕ → List ℕ
table_text c unlisted =
    mark_of c.catalogue.text
    ++ flat_map (λ line. line ++ c.catalogue.head_end) (result_lines c unlisted)

-- a text is the table, with the unlisted UIDs in rising order
abbrev pub IsCollectionTable : CollectionValue → List ℕ → Type 0
IsCollectionTable c text =
    (unlisted : List ℕ) × IsListOf (λ u. is_unlisted c u ≡ true) unlisted
    × (text ≡ table_text c unlisted)
