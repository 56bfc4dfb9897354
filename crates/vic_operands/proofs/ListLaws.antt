-- A list, and the files behind it.
use Rattle.std.proofs.Common.{◌≡◌, ◌++◌, ◌⊎◌, ℕ, Bool, true, false, List, [], ◌∷◌, ap, inl, inr, refl, subst, sym}
use Rattle.std.specs.Prelude.{None, codes, string_bytes}
use Rattle.std.proofs.lemmas.List.Elements.{All-append, All-cons, All-nil}
use Rattle.vic_survey.specs.Names.{IsName}
use Rattle.vic_survey.specs.Surveys.{SurveyValue}
use Rattle.vic_table.specs.Listed.{IsListCatalogue}
use Rattle.vic_table.specs.Values.{CatalogueValue}
use Rattle.vic_collection.specs.Collections.{CollectionValue}
use Rattle.vic_log.specs.Lines.{lines_of_text}
use Rattle.vic_log.specs.Log.{LogValue}
use Rattle.vic_log.specs.Text.{IsLogOf}
use Rattle.vic_operands.specs.Files.{AreSurveysBy, File, HaveSurveysBy, IsFaultBy, IsRight}
use Rattle.vic_operands.specs.Gathered.{AreNamed, IsGathered}
use Rattle.vic_operands.specs.Kinds.{begins, is_list, kind_behind_list}
use Rattle.vic_operands.specs.Lists.{AreLogsRefused, HasList, IsGatheredBy, IsGatheredToReconcile, IsListFault, IsListRefused, IsRightBehindList}
use Rattle.vic_operands.specs.declared.fault.Refusal.{Refusal}
use Rattle.vic_operands.specs.declared.gathered.Gathered.{Gathered}
use Rattle.vic_operands.specs.declared.gathered.Gathered.TheVariants.{Usage, Refused, Collection}
use Rattle.vic_operands.specs.declared.kind.Kind.TheVariants.{Surveys, Log}
use Rattle.vic_operands.specs.declared.operand.FileFault.{FileFault}
use Rattle.vic_operands.specs.declared.operand.FileFault.TheVariants.{Line, Memory}
use Rattle.vic_operands.specs.inner.Lists.{BeginsWithNoList, IsBehindList, RefusesLines, RefusesList}
use Rattle.vic_operands.proofs.GatheringLaws.{named_more, wrong_before, wrong_here}
use Rattle.vic_operands.proofs.KeptLaws.{one-surveys, surveys_append}

-- ---- what they are together

pub gathered-behind_list : (files : List File) (g : Gathered) → IsBehindList files g → IsGatheredToReconcile files g
gathered-behind_list files g h =
    let are : IsGatheredBy (is_list h.list.text) h.list h.logs g = subst (λ b. IsGatheredBy b h.list h.logs g) (sym h.begins) h.are in
    subst (λ fs. IsGatheredToReconcile fs g) (sym h.split) are

pub gathered-no_list : (files : List File) (g : Gathered) → BeginsWithNoList files → IsGathered files g → IsGatheredToReconcile files g
gathered-no_list files g h are =
    let all : IsGathered (h.first ∷ h.others) g = subst (λ fs. IsGathered fs g) h.split are in
    let here : IsGatheredBy (is_list h.first.text) h.first h.others g = subst (λ b. IsGatheredBy b h.first h.others g) (sym h.begins) all in
    subst (λ fs. IsGatheredToReconcile fs g) (sym h.split) here

unnamed_by : (b : Bool) (first : File) (files : List File) → (AreNamed (first ∷ files) → ⊥) → IsGatheredBy b first files Usage
unnamed_by true first files h = h
unnamed_by false first files h = inl h

pub gathered-unnamed : (files : List File) → (AreNamed files → ⊥) → IsGatheredToReconcile files Usage
gathered-unnamed [] h = inl h
gathered-unnamed (first ∷ files) h = unnamed_by (is_list first.text) first files h

pub gathered-none : (files : List File) → files ≡ [] → IsGatheredToReconcile files Usage
gathered-none files is = subst (λ fs. IsGatheredToReconcile fs Usage) (sym is) (inr (All-nil IsRight, inl (λ e. cc e)))

-- ---- what a file behind a list is

pub behind_log : (text : List ℕ) → (kind_behind_list text ≡ Surveys → ⊥) → kind_behind_list text ≡ Log
behind_log text h = go (begins text (codes "vicinity-survey ")) refl
  where
    go : (b : Bool) → begins text (codes "vicinity-survey ") ≡ b → kind_behind_list text ≡ Log
    go true e = absurd (h (rw e refl))
    go false e = rw e refl

-- ---- the list

pub not_listed-refused : (text : List ℕ) (log : LogValue) (why : FileFault) → IsLogOf (lines_of_text text) log → RefusesLines log.lines why → RefusesList text why
not_listed-refused text log (Line n f) is h = subst (λ g. IsListFault text n g) (sym h.1) (log, is, h.0)
not_listed-refused text log Memory is h = tt

-- ---- the first file

pub first-list : (list : File) (c : CatalogueValue) (uids : List ℕ) → is_list list.text ≡ true → IsName list.name → HasList list.text uids → IsListCatalogue c uids
    → IsBehindList (list ∷ []) (Collection (record { catalogue = c; rows = None; surveys = [] }))
first-list list c uids begins name has is = record {
  list = list;
  logs = [];
  split = refl;
  begins = begins;
  are = (
    All-cons (λ (x : File). IsName x.name) list [] name (All-nil (λ (x : File). IsName x.name)),
    record {
      uids = uids;
      has_list = has;
      catalogue = is;
      no_rows = refl;
      right = All-nil IsRightBehindList;
      surveys = record { parts = []; each = tt; joined = refl };
    },
  );
}

pub first-refused : (list : File) (r : Refusal) → is_list list.text ≡ true → IsName list.name → string_bytes r.name ≡ list.name → IsListFault list.text r.line r.fault
    → IsBehindList (list ∷ []) (Refused r)
first-refused list r begins name named fault = record {
  list = list;
  logs = [];
  split = refl;
  begins = begins;
  are = (
    All-cons (λ (x : File). IsName x.name) list [] name (All-nil (λ (x : File). IsName x.name)),
    inl (record { name = named; fault = fault }),
  );
}

-- ---- one file more

pub no_list-more : (files : List File) (f : File) → BeginsWithNoList files → BeginsWithNoList (files ++ f ∷ [])
no_list-more files f h = record { first = h.first; others = h.others ++ f ∷ []; split = ap (λ fs. fs ++ f ∷ []) h.split; begins = h.begins }

pub refused-more : (files : List File) (f : File) (r : Refusal) → IsName f.name → IsBehindList files (Refused r) → IsBehindList (files ++ f ∷ []) (Refused r)
refused-more files f r name h = record {
  list = h.list;
  logs = h.logs ++ f ∷ [];
  split = ap (λ fs. fs ++ f ∷ []) h.split;
  begins = h.begins;
  are = (named_more (h.list ∷ h.logs) f h.are.0 name, at h.are.1);
} where
  at : IsListRefused h.list r ⊎ AreLogsRefused h.list h.logs r → IsListRefused h.list r ⊎ AreLogsRefused h.list (h.logs ++ f ∷ []) r
  at (inl list) = inl list
  at (inr logs) = inr (record { uids = logs.uids; has_list = logs.has_list; wrong = wrong_before kind_behind_list h.logs f r logs.wrong })

pub refused-here : (files : List File) (f : File) (c : CollectionValue) (r : Refusal) → IsName f.name → IsBehindList files (Collection c) → string_bytes r.name ≡ f.name
    → IsFaultBy (kind_behind_list f.text) f.text r.line r.fault → IsBehindList (files ++ f ∷ []) (Refused r)
refused-here files f c r name h named fault =
    let l = h.are.1 in record {
      list = h.list;
      logs = h.logs ++ f ∷ [];
      split = ap (λ fs. fs ++ f ∷ []) h.split;
      begins = h.begins;
      are = (
        named_more (h.list ∷ h.logs) f h.are.0 name,
        inr (record { uids = l.uids; has_list = l.has_list; wrong = wrong_here kind_behind_list h.logs f r l.right named fault }),
      );
    }

pub logs-more : (files : List File) (f : File) (c : CatalogueValue) (surveys more all : List SurveyValue) → IsName f.name
    → IsBehindList files (Collection (record { catalogue = c; rows = None; surveys = surveys })) → IsRightBehindList f → AreSurveysBy (kind_behind_list f.text) f more → all ≡ surveys ++ more
    → IsBehindList (files ++ f ∷ []) (Collection (record { catalogue = c; rows = None; surveys = all }))
logs-more files f c surveys more all name h right says is =
    let l = h.are.1 in
    let one = one-surveys kind_behind_list f (kind_behind_list f.text) more refl says in record {
      list = h.list;
      logs = h.logs ++ f ∷ [];
      split = ap (λ fs. fs ++ f ∷ []) h.split;
      begins = h.begins;
      are = (
        named_more (h.list ∷ h.logs) f h.are.0 name,
        record {
          uids = l.uids;
          has_list = l.has_list;
          catalogue = l.catalogue;
          no_rows = refl;
          right = All-append IsRightBehindList h.logs (f ∷ []) l.right (All-cons IsRightBehindList f [] right (All-nil IsRightBehindList));
          surveys = subst (HaveSurveysBy kind_behind_list (h.logs ++ f ∷ [])) (sym is) (surveys_append kind_behind_list h.logs (f ∷ []) surveys more l.surveys one);
        },
      );
    }
