-- What files of a collection are together.
use Rattle.std.proofs.Common.{◌≡◌, ◌≢◌, ◌⊎◌, ◌∙◌, ◌++◌, ◌-◌, ◌<◌, ◌≤◌, ℕ, List, [], ◌∷◌, ap, append-nil, append_assoc, arith, inl, inr, length, map, refl, subst, sym, take}
use Rattle.std.specs.Prelude.{filter, string_bytes, ◌&&◌, false, true, Option, Some, None, is_none, is_some, option_to_list}
use Rattle.std.specs.List.{All, AllZip}
use Rattle.std.proofs.lemmas.List.{length-append}
use Rattle.std.proofs.lemmas.List.Elements.{All-contains, All-push, All-take, Contains-push}
use Rattle.std.proofs.Math.Seq.{take-append_seam}
use Rattle.std.proofs.lemmas.Slice.Zip.{AllZip-long}
use Rattle.vic_survey.specs.Names.{IsName}
use Rattle.vic_survey.specs.Surveys.{SurveyValue}
use Rattle.vic_table.specs.Values.{PlaceRowValue}
use Rattle.vic_operands.specs.Files.{ArePlacesIn, File, IsCatalogueIn, IsFaultBy, IsRight, IsRightBy, is_catalogue, is_places}
use Rattle.vic_operands.specs.Gathered.{AreNamed, AreNoOperands, AreTogether, IsFirstWrongBy}
use Rattle.vic_operands.specs.declared.fault.Refusal.{Refusal}
use Rattle.vic_operands.specs.declared.kind.Kind.{Kind}
use Rattle.vic_operands.specs.declared.operand.NamedCatalogue.{NamedCatalogue}
use Rattle.vic_operands.specs.inner.Kept.{AreKept, IsNamedCatalogueIn}

-- ---- names

-- a name that is none is among more names
pub unnamed_last : (files : List File) (f : File) → (IsName f.name → ⊥) → AreNamed (files ++ f ∷ []) → ⊥
unnamed_last files f none all = none (All-contains (λ (x : File). IsName x.name) (files ++ f ∷ []) f all (Contains-push files f))

pub unnamed_before : (files : List File) (f : File) → (AreNamed files → ⊥) → AreNamed (files ++ f ∷ []) → ⊥
unnamed_before files f none all = none (subst AreNamed (take-append_seam files (f ∷ [])) (All-take (λ (x : File). IsName x.name) (length files) (files ++ f ∷ []) all))

pub named_more : (files : List File) (f : File) → AreNamed files → IsName f.name → AreNamed (files ++ f ∷ [])
named_more files f h name = All-push (λ (x : File). IsName x.name) files f h name

-- ---- a fault

pub wrong_here : (kind : List ℕ → Kind) (files : List File) (f : File) (r : Refusal) → All (λ (x : File). IsRightBy (kind x.text) x.text) files → string_bytes r.name ≡ f.name
    → IsFaultBy (kind f.text) f.text r.line r.fault → IsFirstWrongBy kind (files ++ f ∷ []) r
wrong_here kind files f r right name fault = record { before = files; file = f; after = []; split = refl; right = right; name = name; fault = fault }

pub wrong_before : (kind : List ℕ → Kind) (files : List File) (f : File) (r : Refusal) → IsFirstWrongBy kind files r → IsFirstWrongBy kind (files ++ f ∷ []) r
wrong_before kind files f r h = record {
  before = h.before;
  file = h.file;
  after = h.after ++ f ∷ [];
  split = ap (λ l. l ++ f ∷ []) h.split ∙ append_assoc h.before (h.file ∷ h.after) (f ∷ []);
  right = h.right;
  name = h.name;
  fault = h.fault;
}

-- ---- how many there are of a kind

pub no_operands : (files : List File) (cs : List NamedCatalogue) (ps : List (List PlaceRowValue)) (surveys : List SurveyValue) → AreKept files cs ps surveys
    → (length cs ≢ 1) ⊎ (1 < length ps) → All IsRight files × AreNoOperands files
no_operands files cs ps surveys h (inl other) = (h.right, inl (λ is. other (AllZip-long IsNamedCatalogueIn (filter is_catalogue files) cs h.catalogues_are ∙ is)))
no_operands files cs ps surveys h (inr more) = (h.right, inr (omega (arith, more, AllZip-long ArePlacesIn (filter is_places files) ps h.places_are)))

single : (fs : List File) (n : NamedCatalogue) → AllZip IsNamedCatalogueIn fs (n ∷ []) → AllZip IsCatalogueIn fs (n.catalogue ∷ [])
single [] n h = h
single (f ∷ []) n h = (h.0.catalogue, tt)
single (f ∷ g ∷ fs) n h = absurd h.1

single_name : (fs : List File) (n : NamedCatalogue) → AllZip IsNamedCatalogueIn fs (n ∷ []) → map (λ (f : File). f.name) fs ≡ string_bytes n.name ∷ []
single_name [] n h = absurd h
single_name (f ∷ []) n h = ap (λ x. x ∷ []) (sym h.0.name)
single_name (f ∷ g ∷ fs) n h = absurd h.1

only_last : {A : Type 0} (xs ys : List A) (x : A) → xs ≡ ys ++ x ∷ [] → length xs ≡ 1 → xs ≡ x ∷ []
only_last xs [] x is one = is
only_last xs (y ∷ ys) x is one = absurd (omega (arith, one, ap length is, length-append ys (x ∷ [])))

pub catalogue_name : (files : List File) (cs ds : List NamedCatalogue) (n : NamedCatalogue) (ps : List (List PlaceRowValue)) (surveys : List SurveyValue) → AreKept files cs ps surveys
    → cs ≡ ds ++ n ∷ [] → length cs ≡ 1 → map (λ (f : File). f.name) (filter is_catalogue files) ≡ string_bytes n.name ∷ []
catalogue_name files cs ds n ps surveys h last one = single_name (filter is_catalogue files) n (rw (only_last cs ds n last one) at h.catalogues_are)

pub are_together : (files : List File) (cs ds : List NamedCatalogue) (n : NamedCatalogue) (ps : List (List PlaceRowValue)) (rows : Option (List PlaceRowValue)) (surveys : List SurveyValue)
    → AreKept files cs ps surveys → cs ≡ ds ++ n ∷ [] → length cs ≡ 1 → ps ≡ option_to_list rows
    → AreTogether files (record { catalogue = n.catalogue; rows = rows; surveys = surveys })
are_together files cs ds n ps rows surveys h last one places = record {
  right = h.right;
  catalogue = single (filter is_catalogue files) n (rw (only_last cs ds n last one) at h.catalogues_are);
  rows = rw places at h.places_are;
  surveys = h.surveys_are;
}

-- ---- places that aren't asked for

pub unasked_both : {A B : Type 0} (a : Option A) (b : Option B) → (is_some a && is_none b) ≡ true → (is_some a ≡ true) × (is_some b ≡ false)
unasked_both (Some x) None h = (refl, refl)
unasked_both (Some x) (Some y) h = cc
unasked_both None b h = cc

pub asked_where : {A B : Type 0} (a : Option A) (b : Option B) → (is_some a && is_none b) ≡ false → is_some a ≡ true → is_some b ≡ true
asked_where a (Some y) h is = refl
asked_where (Some x) None h is = cc
asked_where None None h is = cc

-- ---- one of a kind

pub at_most_one : {A : Type 0} (xs ys : List A) (o : Option A) → xs ≡ ys ++ option_to_list o → length xs ≤ 1 → (o ≡ None → length xs ≡ 0) → xs ≡ option_to_list o
at_most_one {A = A} xs ys (Some x) is few none = last xs ys is few
  where
    last : (xs ys : List A) → xs ≡ ys ++ x ∷ [] → length xs ≤ 1 → xs ≡ x ∷ []
    last xs [] is few = is
    last xs (y ∷ ys) is few = absurd (omega (arith, few, ap length is, length-append ys (x ∷ [])))
at_most_one [] ys None is few none = refl
at_most_one (x ∷ xs) ys None is few none = absurd (omega (arith, none refl))

-- a `pop` that returned none was of nothing
pub none_popped : {A : Type 0} (xs ys : List A) (o : Option A) (n : ℕ) → xs ≡ ys ++ option_to_list o → ys ≡ take (n - 1) xs → (o ≡ None → n ≡ 0) → o ≡ None → length xs ≡ 0
none_popped xs ys o n items rest zero none =
    let nothing : ys ≡ [] = rest ∙ ap (λ m. take (m - 1) xs) (zero none) in
    ap length (items ∙ ap (λ o. ys ++ option_to_list o) none ∙ append-nil ys ∙ nothing)
