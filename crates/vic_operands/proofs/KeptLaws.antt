-- What files of a collection have, file by file.
use Rattle.std.proofs.Common.{◌≡◌, ◌∙◌, ◌++◌, ℕ, List, [], ◌∷◌, Bool, true, false, ap, append-nil, refl, subst, sym}
use Rattle.std.specs.Prelude.{filter, string_bytes, None}
use Rattle.std.specs.List.{All, AllZip}
use Rattle.std.proofs.lemmas.Grind.{flat_map-append}
use Rattle.std.proofs.lemmas.List.Elements.{All-append, All-cons, All-nil, filter-append}
use Rattle.vic_survey.specs.Surveys.{SurveyValue}
use Rattle.vic_table.specs.Table.{ArePlacesOf, IsCatalogueOf}
use Rattle.vic_table.specs.Values.{PlaceRowValue}
use Rattle.vic_operands.specs.Files.{ArePlacesIn, AreSurveysBy, File, HaveSurveysBy, IsRight, IsRightBy, are_of_catalogue, are_of_places, columns_by, is_catalogue, is_places}
use Rattle.vic_operands.specs.Kinds.{kind_of}
use Rattle.vic_operands.specs.declared.kind.Kind.{Kind}
use Rattle.vic_operands.specs.declared.kind.Kind.TheVariants.{Table}
use Rattle.vic_operands.specs.declared.operand.NamedCatalogue.{NamedCatalogue}
use Rattle.vic_operands.specs.inner.Kept.{AreKept, IsNamedCatalogueIn}

-- ---- one file behind others

AllZip-append : {A B : Type 0} (R : A → B → Type 0) (xs : List A) (ys : List B) (us : List A) (vs : List B) → AllZip R xs ys → AllZip R us vs → AllZip R (xs ++ us) (ys ++ vs)
AllZip-append R [] [] us vs h k = k
AllZip-append R [] (y ∷ ys) us vs h k = absurd h
AllZip-append R (x ∷ xs) [] us vs h k = absurd h
AllZip-append R (x ∷ xs) (y ∷ ys) us vs h k = (h.0, AllZip-append R xs ys us vs h.1 k)

pub surveys_append : (kind : List ℕ → Kind) (files more : List File) (surveys others : List SurveyValue) → HaveSurveysBy kind files surveys → HaveSurveysBy kind more others → HaveSurveysBy kind (files ++ more) (surveys ++ others)
surveys_append kind files more surveys others h k = record {
  parts = h.parts ++ k.parts;
  each = AllZip-append (λ (f : File) part. AreSurveysBy (kind f.text) f part) files h.parts more k.parts h.each k.each;
  joined = rw (h.joined, k.joined) (sym (flat_map-append (λ part. part) h.parts k.parts));
}

pub kept_append : (files more : List File) (cs ds : List NamedCatalogue) (ps qs : List (List PlaceRowValue)) (surveys others : List SurveyValue)
    → AreKept files cs ps surveys → AreKept more ds qs others → AreKept (files ++ more) (cs ++ ds) (ps ++ qs) (surveys ++ others)
kept_append files more cs ds ps qs surveys others h k = record {
  right = All-append IsRight files more h.right k.right;
  catalogues_are = rw (filter-append is_catalogue files more) (AllZip-append IsNamedCatalogueIn (filter is_catalogue files) cs (filter is_catalogue more) ds h.catalogues_are k.catalogues_are);
  places_are = rw (filter-append is_places files more) (AllZip-append ArePlacesIn (filter is_places files) ps (filter is_places more) qs h.places_are k.places_are);
  surveys_are = surveys_append kind_of files more surveys others h.surveys_are k.surveys_are;
}

-- surveys, a catalogue or places more
pub more_surveys : (files : List File) (f : File) (cs : List NamedCatalogue) (ps : List (List PlaceRowValue)) (surveys more all : List SurveyValue)
    → AreKept files cs ps surveys → AreKept (f ∷ []) [] [] more → all ≡ surveys ++ more → AreKept (files ++ f ∷ []) cs ps all
more_surveys files f cs ps surveys more all h k is =
    subst (λ ss. AreKept (files ++ f ∷ []) cs ps ss) (sym is) (subst (λ x. AreKept (files ++ f ∷ []) cs x (surveys ++ more)) (append-nil ps)
    (subst (λ x. AreKept (files ++ f ∷ []) x (ps ++ []) (surveys ++ more)) (append-nil cs) (kept_append files (f ∷ []) cs [] ps [] surveys more h k)))

pub more_catalogues : (files : List File) (f : File) (cs all : List NamedCatalogue) (n : NamedCatalogue) (ps : List (List PlaceRowValue)) (surveys : List SurveyValue)
    → AreKept files cs ps surveys → AreKept (f ∷ []) (n ∷ []) [] [] → all ≡ cs ++ n ∷ [] → AreKept (files ++ f ∷ []) all ps surveys
more_catalogues files f cs all n ps surveys h k is =
    subst (λ x. AreKept (files ++ f ∷ []) x ps surveys) (sym is) (subst (λ x. AreKept (files ++ f ∷ []) (cs ++ n ∷ []) x surveys) (append-nil ps)
    (subst (λ x. AreKept (files ++ f ∷ []) (cs ++ n ∷ []) (ps ++ []) x) (append-nil surveys) (kept_append files (f ∷ []) cs (n ∷ []) ps [] surveys [] h k)))

pub more_places : (files : List File) (f : File) (cs : List NamedCatalogue) (ps all : List (List PlaceRowValue)) (rows : List PlaceRowValue) (surveys : List SurveyValue)
    → AreKept files cs ps surveys → AreKept (f ∷ []) [] (rows ∷ []) [] → all ≡ ps ++ rows ∷ [] → AreKept (files ++ f ∷ []) cs all surveys
more_places files f cs ps all rows surveys h k is =
    subst (λ x. AreKept (files ++ f ∷ []) cs x surveys) (sym is) (subst (λ x. AreKept (files ++ f ∷ []) cs (ps ++ rows ∷ []) x) (append-nil surveys)
    (subst (λ x. AreKept (files ++ f ∷ []) x (ps ++ rows ∷ []) (surveys ++ [])) (append-nil cs) (kept_append files (f ∷ []) cs [] ps (rows ∷ []) surveys [] h k)))

pub kept_none : AreKept [] [] [] []
kept_none = record { right = All-nil IsRight; catalogues_are = tt; places_are = tt; surveys_are = record { parts = []; each = tt; joined = refl } }

-- ---- one file

filter_one : {A : Type 0} (p : A → Bool) (x : A) → p x ≡ true → filter p (x ∷ []) ≡ x ∷ []
filter_one p x h = rw h refl

filter_other : {A : Type 0} (p : A → Bool) (x : A) → p x ≡ false → filter p (x ∷ []) ≡ []
filter_other p x h = rw h refl

one-right : (f : File) (k : Kind) → kind_of f.text ≡ k → IsRightBy k f.text → All IsRight (f ∷ [])
one-right f k is h = All-cons IsRight f [] (subst (λ k. IsRightBy k f.text) (sym is) h) (All-nil IsRight)

pub one-surveys : (kind : List ℕ → Kind) (f : File) (k : Kind) (surveys : List SurveyValue) → kind f.text ≡ k → AreSurveysBy k f surveys → HaveSurveysBy kind (f ∷ []) surveys
one-surveys kind f k surveys is h = record {
  parts = surveys ∷ [];
  each = (subst (λ k. AreSurveysBy k f surveys) (sym is) h, tt);
  joined = sym (append-nil surveys);
}

-- a file that is no table
pub kept_surveys : (f : File) (k : Kind) (surveys : List SurveyValue) → kind_of f.text ≡ k → columns_by k f.text ≡ None → IsRightBy k f.text → AreSurveysBy k f surveys → AreKept (f ∷ []) [] [] surveys
kept_surveys f k surveys is none right h = record {
  right = one-right f k is right;
  catalogues_are = rw (filter_other is_catalogue f (ap (λ k. are_of_catalogue (columns_by k f.text)) is ∙ ap are_of_catalogue none)) tt;
  places_are = rw (filter_other is_places f (ap (λ k. are_of_places (columns_by k f.text)) is ∙ ap are_of_places none)) tt;
  surveys_are = one-surveys kind_of f k surveys is h;
}

pub kept_catalogue : (f : File) (n : NamedCatalogue) → kind_of f.text ≡ Table → string_bytes n.name ≡ f.name → IsCatalogueOf f.text n.catalogue → AreKept (f ∷ []) (n ∷ []) [] []
kept_catalogue f n is name h = record {
  right = one-right f Table is h.no_fault;
  catalogues_are = rw (filter_one is_catalogue f (ap (λ k. are_of_catalogue (columns_by k f.text)) is ∙ ap are_of_catalogue h.columns)) (record { name = name; catalogue = h }, tt);
  places_are = rw (filter_other is_places f (ap (λ k. are_of_places (columns_by k f.text)) is ∙ ap are_of_places h.columns)) tt;
  surveys_are = one-surveys kind_of f Table [] is refl;
}

pub kept_places : (f : File) (rows : List PlaceRowValue) → kind_of f.text ≡ Table → ArePlacesOf f.text rows → AreKept (f ∷ []) [] (rows ∷ []) []
kept_places f rows is h = record {
  right = one-right f Table is h.no_fault;
  catalogues_are = rw (filter_other is_catalogue f (ap (λ k. are_of_catalogue (columns_by k f.text)) is ∙ ap are_of_catalogue h.columns_are)) tt;
  places_are = rw (filter_one is_places f (ap (λ k. are_of_places (columns_by k f.text)) is ∙ ap are_of_places h.columns_are)) (h, tt);
  surveys_are = one-surveys kind_of f Table [] is refl;
}
