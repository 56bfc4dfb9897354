-- What files of a collection have that have no fault.
use Rattle.std.specs.Prelude.{◌≡◌, ℕ, ⊤, List, [], ◌∷◌, filter, string_bytes}
use Rattle.std.specs.List.{All, AllZip}
use Rattle.vic_survey.specs.Surveys.{SurveyValue}
use Rattle.vic_table.specs.Table.{IsCatalogueOf}
use Rattle.vic_table.specs.Values.{PlaceRowValue}
use Rattle.vic_operands.specs.Files.{ArePlacesIn, File, HaveSurveys, IsFaultBy, IsRight, is_catalogue, is_places}
use Rattle.vic_operands.specs.Kinds.{kind_of}
use Rattle.vic_operands.specs.declared.kind.Kind.{Kind}
use Rattle.vic_operands.specs.declared.operand.NamedCatalogue.{NamedCatalogue}
use Rattle.vic_operands.specs.declared.operand.Operand.{Operand}
use Rattle.vic_operands.specs.declared.operand.Operand.TheVariants as operand
use Rattle.vic_operands.specs.declared.operand.FileFault.{FileFault}
use Rattle.vic_operands.specs.declared.operand.FileFault.TheVariants.{Line, Memory}
use Rattle.vic_operands.specs.declared.operands.Kept.{Kept}

-- the catalogue of a file, with the file's name
pub record IsNamedCatalogueIn (f : File) (n : NamedCatalogue) : Type 0 where
  pub name : string_bytes n.name ≡ f.name
  pub catalogue : IsCatalogueOf f.text n.catalogue

-- no file has a fault, and these are their catalogues, their places and their surveys
pub record AreKept (files : List File) (catalogues : List NamedCatalogue)
    (places : List (List PlaceRowValue)) (surveys : List SurveyValue) : Type 0 where
  pub right : All IsRight files
  pub catalogues_are : AllZip IsNamedCatalogueIn (filter is_catalogue files) catalogues
  pub places_are : AllZip ArePlacesIn (filter is_places files) places
  pub surveys_are : HaveSurveys files surveys

abbrev pub HaveKept : List File → Kept → Type 0
HaveKept files kept =
    AreKept files kept.catalogues.items kept.places.items kept.surveys.items

-- what one file has
abbrev pub IsOperandOf : File → Operand → Type 0
IsOperandOf f (operand.Surveys surveys) = AreKept (f ∷ []) [] [] surveys.items
IsOperandOf f (operand.Catalogue catalogue) = AreKept (f ∷ []) (catalogue ∷ []) [] []
IsOperandOf f (operand.Places rows) = AreKept (f ∷ []) [] (rows ∷ []) []

-- why one isn't read
abbrev pub RefusesBy : Kind → List ℕ → FileFault → Type 0
RefusesBy kind text (Line line fault) = IsFaultBy kind text line fault
RefusesBy kind text Memory = ⊤

abbrev pub Refuses : File → FileFault → Type 0
Refuses f why = RefusesBy (kind_of f.text) f.text why
