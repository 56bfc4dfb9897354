-- What the files of a collection are together: no operands, refused, or a collection (profile).
use Rattle.std.specs.Prelude.{◌≡◌, ◌≢◌, ◌⊎◌, ℕ, ◌<◌, false, true, Some, is_some, List, [], ◌∷◌, ◌++◌, filter, length, map, option_to_list, slice_get, string_bytes}
use Rattle.std.specs.List.{All, AllZip}
use Rattle.vic_survey.specs.Names.{IsName}
use Rattle.vic_survey.specs.Surveys.{SurveyValue}
use Rattle.vic_table.specs.declared.fault.TableLineFault.TheVariants.{Columns}
use Rattle.vic_collection.specs.Collections.{CollectionValue, asks_for_places}
use Rattle.vic_collection.specs.Alike.{AreUnlike, IsFirstAlike}
use Rattle.vic_operands.specs.Files.{ArePlacesIn, File, HaveSurveys, IsCatalogueIn, IsFaultBy, IsRight, IsRightBy, is_catalogue, is_places}
use Rattle.vic_operands.specs.Kinds.{kind_of}
use Rattle.vic_operands.specs.declared.fault.OperandFault.TheVariants.{Table, SameName}
use Rattle.vic_operands.specs.declared.fault.Refusal.{Refusal}
use Rattle.vic_operands.specs.declared.gathered.Gathered.{Gathered}
use Rattle.vic_operands.specs.declared.gathered.Gathered.TheVariants.{Usage, Refused, Collection}
use Rattle.vic_operands.specs.declared.kind.Kind.{Kind}

-- each name could be that of a log
abbrev pub AreNamed : List File → Type 0
AreNamed files = All (λ f. IsName f.name) files

-- ---- refused by a file

-- the first file that has a fault of its table or of its text of surveys, where this tells the kind
-- of a text
pub record IsFirstWrongBy (kind : List ℕ → Kind) (files : List File) (r : Refusal) : Type 0 where
  pub before : List File
  pub file : File
  pub after : List File
  pub split : files ≡ before ++ file ∷ after
  pub right : All (λ f. IsRightBy (kind f.text) f.text) before
  pub name : string_bytes r.name ≡ file.name
  pub fault : IsFaultBy (kind file.text) file.text r.line r.fault

abbrev pub IsFirstWrongFile : List File → Refusal → Type 0
IsFirstWrongFile files r = IsFirstWrongBy kind_of files r

-- ---- none of them is refused

-- they are no operands of a collection: they have no catalogue, or several, or several tables of
-- places
abbrev pub AreNoOperands : List File → Type 0
AreNoOperands files =
    (length (filter is_catalogue files) ≢ 1) ⊎ (1 < length (filter is_places files))

-- one of them is the catalogue, at most one has the places, and the others have the surveys
pub record AreTogether (files : List File) (c : CollectionValue) : Type 0 where
  pub right : All IsRight files
  pub catalogue : AllZip IsCatalogueIn (filter is_catalogue files) (c.catalogue ∷ [])
  pub rows : AllZip ArePlacesIn (filter is_places files) (option_to_list c.rows)
  pub surveys : HaveSurveys files c.surveys

-- the first log that is known by what a log before it is known by
pub record IsSameName (c : CollectionValue) (r : Refusal) : Type 0 where
  pub index : ℕ
  pub first : IsFirstAlike c index
  pub survey : SurveyValue
  pub there : slice_get c.surveys index ≡ Some survey
  pub name : string_bytes r.name ≡ survey.name
  pub line : r.line ≡ 1
  pub fault : r.fault ≡ SameName

-- there is a table of places, but the catalogue, which has this one name, has no column of places
pub record IsUnasked (c : CollectionValue) (names : List (List ℕ)) (r : Refusal) : Type 0 where
  pub unlike : AreUnlike c
  pub given : is_some c.rows ≡ true
  pub unasked : asks_for_places c ≡ false
  pub name : names ≡ string_bytes r.name ∷ []
  pub line : r.line ≡ 1
  pub fault : r.fault ≡ Table Columns

-- why they are refused as a collection
pub record AreRefused (files : List File) (r : Refusal) : Type 0 where
  pub collection : CollectionValue
  pub together : AreTogether files collection
  pub why : IsSameName collection r
      ⊎ IsUnasked collection (map (λ f. f.name) (filter is_catalogue files)) r

-- they are a collection
pub record AreAccepted (files : List File) (c : CollectionValue) : Type 0 where
  pub together : AreTogether files c
  pub unlike : AreUnlike c
  pub asked : is_some c.rows ≡ true → asks_for_places c ≡ true

-- ---- the first that applies

abbrev pub IsGathered : List File → Gathered → Type 0
IsGathered files Usage =
    (AreNamed files → ⊥) ⊎ (All IsRight files × AreNoOperands files)
IsGathered files (Refused r) =
    AreNamed files × (IsFirstWrongFile files r ⊎ AreRefused files r)
IsGathered files (Collection c) = AreNamed files × AreAccepted files c
