-- What the files of a collection are and have, each by itself (profile). A definition `..By` takes
-- the kind of a text, or what tells it; the one without `By` tells it by `kind_of`.
use Rattle.std.specs.Prelude.{◌≡◌, ℕ, Bool, true, false, ⊤, Option, Some, None, List, [], ◌∷◌}
use Rattle.std.specs.List.{AllZip, flat_map}
use Rattle.vic_survey.specs.Making.{IsFieldOf}
use Rattle.vic_survey.specs.SurveyReading.{IsFirstWrong, IsTextOfSome}
use Rattle.vic_survey.specs.SurveyText.{text_of}
use Rattle.vic_survey.specs.Surveys.{AreSurveys, SurveyValue}
use Rattle.vic_table.specs.Lines.{table_lines}
use Rattle.vic_table.specs.Table.{ArePlacesOf, HasNoFault, IsCatalogueOf, IsFirstFault, columns_named}
use Rattle.vic_table.specs.Values.{CatalogueValue, PlaceRowValue}
use Rattle.vic_table.specs.declared.columns.Columns.{Columns}
use Rattle.vic_table.specs.declared.columns.Columns.TheVariants as columns
use Rattle.vic_operands.specs.Kinds.{kind_of}
use Rattle.vic_operands.specs.declared.fault.OperandFault.{OperandFault}
use Rattle.vic_operands.specs.declared.fault.OperandFault.TheVariants as fault
use Rattle.vic_operands.specs.declared.kind.Kind.{Kind}
use Rattle.vic_operands.specs.declared.kind.Kind.TheVariants.{Surveys, Log, Table}

-- the name of a file, and the bytes in it
pub record File : Type 0 where
  pub name : List ℕ
  pub text : List ℕ

-- ---- tables

-- the columns that the first line of a table names
abbrev pub columns_by : Kind → List ℕ → Option Columns
columns_by Surveys text = None
columns_by Log text = None
columns_by Table text = columns_named (table_lines text)

abbrev pub are_of_catalogue : Option Columns → Bool
are_of_catalogue None = false
are_of_catalogue (Some (columns.Catalogue c)) = true
are_of_catalogue (Some (columns.Places c)) = false

abbrev pub are_of_places : Option Columns → Bool
are_of_places None = false
are_of_places (Some (columns.Catalogue c)) = false
are_of_places (Some (columns.Places c)) = true

-- by its columns it is a catalogue, or a table of places
abbrev pub is_catalogue : File → Bool
is_catalogue f = are_of_catalogue (columns_by (kind_of f.text) f.text)

abbrev pub is_places : File → Bool
is_places f = are_of_places (columns_by (kind_of f.text) f.text)

abbrev pub IsCatalogueIn : File → CatalogueValue → Type 0
IsCatalogueIn f catalogue = IsCatalogueOf f.text catalogue

abbrev pub ArePlacesIn : File → List PlaceRowValue → Type 0
ArePlacesIn f rows = ArePlacesOf f.text rows

-- ---- surveys

-- the surveys of a file: those that it has; of a log the one of its text, under the file's name
abbrev pub AreSurveysBy : Kind → File → List SurveyValue → Type 0
AreSurveysBy Surveys f surveys = AreSurveys surveys × (text_of surveys ≡ f.text)
AreSurveysBy Log f surveys =
    (s : SurveyValue) × (surveys ≡ s ∷ []) × (s.name ≡ f.name) × IsFieldOf f.text s.field
AreSurveysBy Table f surveys = surveys ≡ []

-- the surveys of files, in the order of the files, where this tells the kind of a text
pub record HaveSurveysBy (kind : List ℕ → Kind) (files : List File) (surveys : List SurveyValue)
    : Type 0 where
  pub parts : List (List SurveyValue)
  pub each : AllZip (λ f part. AreSurveysBy (kind f.text) f part) files parts
  pub joined : surveys ≡ flat_map (λ part. part) parts

abbrev pub HaveSurveys : List File → List SurveyValue → Type 0
HaveSurveys files surveys = HaveSurveysBy kind_of files surveys

-- ---- faults of a table, or of a text of surveys

abbrev pub IsRightBy : Kind → List ℕ → Type 0
IsRightBy Surveys text = IsTextOfSome text
IsRightBy Log text = ⊤
IsRightBy Table text = HasNoFault (table_lines text)

-- the file has no such fault
abbrev pub IsRight : File → Type 0
IsRight f = IsRightBy (kind_of f.text) f.text

abbrev pub IsFaultBy : Kind → List ℕ → ℕ → OperandFault → Type 0
IsFaultBy Table text line (fault.Table f) = IsFirstFault (table_lines text) line f
IsFaultBy Table text line fault.Survey = ⊥
IsFaultBy Table text line fault.SameName = ⊥
IsFaultBy Table text line (fault.List f) = ⊥
IsFaultBy Table text line fault.NotListed = ⊥
IsFaultBy Surveys text line (fault.Table f) = ⊥
IsFaultBy Surveys text line fault.Survey = IsFirstWrong text line
IsFaultBy Surveys text line fault.SameName = ⊥
IsFaultBy Surveys text line (fault.List f) = ⊥
IsFaultBy Surveys text line fault.NotListed = ⊥
IsFaultBy Log text line f = ⊥

-- the first fault of the file, and its line
abbrev pub IsFaultOf : File → ℕ → OperandFault → Type 0
IsFaultOf f line fault = IsFaultBy (kind_of f.text) f.text line fault
