-- What files are together that are no operands: nothing else.
use Rattle.std.proofs.Common.{◌≡◌, ◌∙◌, ◌++◌, ◌<◌, ℕ, Bool, true, false, List, [], ◌∷◌, ap, append_assoc, arith, inl, inr, length, refl, subst, sym}
use Rattle.std.specs.Prelude.{filter, Option, Some, None, option_to_list}
use Rattle.std.specs.List.{All}
use Rattle.std.proofs.lemmas.List.Elements.{All-contains, Contains-append_left, Contains-append_right, Contains-push}
use Rattle.std.proofs.lemmas.Slice.Zip.{AllZip-long}
use Rattle.vic_log.specs.Lines.{lf}
use Rattle.vic_log.specs.Writing.{joined}
use Rattle.vic_survey.specs.SurveyReading.{IsFirstWrong, IsTextOfSome, IsWrongAfter}
use Rattle.vic_table.specs.Table.{HasNoFault, IsFirstFault}
use Rattle.vic_table.specs.declared.fault.TableLineFault.{TableLineFault}
use Rattle.vic_collection.specs.Collections.{CollectionValue}
use Rattle.vic_operands.specs.Files.{ArePlacesIn, File, IsCatalogueIn, IsFaultBy, IsRight, IsRightBy, is_catalogue, is_places}
use Rattle.vic_operands.specs.Gathered.{AreNoOperands, AreTogether, IsFirstWrongFile, IsGathered}
use Rattle.vic_operands.specs.Kinds.{is_list, kind_of}
use Rattle.vic_operands.specs.Lists.{IsGatheredBehindList, IsGatheredBy, IsGatheredToReconcile}
use Rattle.vic_operands.specs.declared.fault.OperandFault.{OperandFault}
use Rattle.vic_operands.specs.declared.fault.OperandFault.TheVariants as fault
use Rattle.vic_operands.specs.declared.fault.Refusal.{Refusal}
use Rattle.vic_operands.specs.declared.gathered.Gathered.{Gathered}
use Rattle.vic_operands.specs.declared.gathered.Gathered.TheVariants.{Usage, Refused, Collection}
use Rattle.vic_operands.specs.declared.kind.Kind.{Kind}
use Rattle.vic_operands.specs.declared.kind.Kind.TheVariants.{Surveys, Log, Table}

-- ---- a file has no fault, or has one

table_either : (lines : List (List ℕ)) (line : ℕ) (f : TableLineFault) → HasNoFault lines → IsFirstFault lines line f → ⊥
table_either lines line f none h = let e = sym (none h.before) ∙ h.here in cc

surveys_either : (text : List ℕ) (line : ℕ) → IsTextOfSome text → IsFirstWrong text line → ⊥
surveys_either text line some h = at h.rest h.split h.wrong
  where
    at : (rest : List ℕ) → text ≡ joined h.lines ++ rest → IsWrongAfter (joined h.lines) rest → ⊥
    at rest split (inl w) = w.4 (
      some.0,
      w.1,
      some.1,
      some.2 ∙ split ∙ ap (λ r. joined h.lines ++ r) (w.2 ∙ sym (append_assoc w.0 (lf ∷ []) w.1)) ∙ sym (append_assoc (joined h.lines) (w.0 ++ lf ∷ []) w.1),
    )
    at rest split (inr w) = w.1 (some.0, some.1, some.2 ∙ split)

either_by : (k : Kind) (text : List ℕ) (line : ℕ) (f : OperandFault) → IsRightBy k text → IsFaultBy k text line f → ⊥
either_by Table text line (fault.Table f) right h = table_either _ line f right h
either_by Table text line fault.Survey right h = h
either_by Table text line fault.SameName right h = h
either_by Table text line (fault.List f) right h = h
either_by Table text line fault.NotListed right h = h
either_by Surveys text line (fault.Table f) right h = h
either_by Surveys text line fault.Survey right h = surveys_either text line right h
either_by Surveys text line fault.SameName right h = h
either_by Surveys text line (fault.List f) right h = h
either_by Surveys text line fault.NotListed right h = h
either_by Log text line f right h = h

none_wrong : (files : List File) (r : Refusal) → All IsRight files → IsFirstWrongFile files r → ⊥
none_wrong files r right h =
    let there : All IsRight (h.before ++ h.file ∷ h.after) = subst (All IsRight) h.split right in
    either_by (kind_of h.file.text) h.file.text r.line r.fault (All-contains IsRight _ h.file there (Contains-append_right h.before (h.file ∷ h.after) h.file (Contains-append_left (h.file ∷ []) h.after h.file (Contains-push [] h.file)))) h.fault

-- ---- there is one catalogue, and at most one table of places, or not

few : {A : Type 0} (o : Option A) → length (option_to_list o) < 2
few (Some x) = omega arith
few None = omega arith

not_together : (files : List File) (c : CollectionValue) → AreNoOperands files → AreTogether files c → ⊥
not_together files c (inl other) t = other (sym (AllZip-long IsCatalogueIn (filter is_catalogue files) (c.catalogue ∷ []) t.catalogue))
not_together files c (inr more) t = omega (arith, more, few c.rows, AllZip-long ArePlacesIn (filter is_places files) (option_to_list c.rows) t.rows)

-- files that are no operands are nothing else
pub usage_alone : (files : List File) (g : Gathered) → IsGathered files Usage → IsGathered files g → g ≡ Usage
usage_alone files Usage none h = refl
usage_alone files (Refused r) (inl unnamed) h = absurd (unnamed h.0)
usage_alone files (Refused r) (inr none) (named, inl wrong) = absurd (none_wrong files r none.0 wrong)
usage_alone files (Refused r) (inr none) (named, inr refused) = absurd (not_together files refused.collection none.1 refused.together)
usage_alone files (Collection c) (inl unnamed) h = absurd (unnamed h.0)
usage_alone files (Collection c) (inr none) h = absurd (not_together files c none.1 h.1.together)

-- ---- the same, as operands of `reconcile`

behind_alone : (list : File) (logs : List File) (g : Gathered) → IsGatheredBehindList list logs Usage → IsGatheredBehindList list logs g → g ≡ Usage
behind_alone list logs Usage none h = refl
behind_alone list logs (Refused r) none h = absurd (none h.0)
behind_alone list logs (Collection c) none h = absurd (none h.0)

alone_by : (b : Bool) (first : File) (files : List File) (g : Gathered) → IsGatheredBy b first files Usage → IsGatheredBy b first files g → g ≡ Usage
alone_by true first files g none h = behind_alone first files g none h
alone_by false first files g none h = usage_alone (first ∷ files) g none h

pub usage_alone-to_reconcile : (files : List File) (g : Gathered) → IsGatheredToReconcile files Usage → IsGatheredToReconcile files g → g ≡ Usage
usage_alone-to_reconcile [] g none h = usage_alone [] g none h
usage_alone-to_reconcile (first ∷ files) g none h = alone_by (is_list first.text) first files g none h
