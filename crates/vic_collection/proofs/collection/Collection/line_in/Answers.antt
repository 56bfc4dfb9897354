use Rattle.vic_collection.proofs.Words.{◌≡◌, ◌∙◌, ℕ, ap, sym, subst, slice_get, get_or, Some, refl, has, both_ways, List}
use Rattle.std.specs.List.{Contains}
use Rattle.vic_report.specs.Findings.{uids_of}
use Rattle.vic_report.specs.declared.shown.ShownUid.{ShownUid}
use Rattle.vic_survey.specs.Surveys.{SurveyValue}
use Rattle.vic_survey.specs.declared.survey.SurveyedField.TheVariants.{Possible}
use Rattle.vic_collection.specs.Collections.{is_certain_by, is_certain_in}
use Rattle.vic_collection.specs.Findings.{IsShownBy}
use Rattle.vic_collection.proofs.Elements.{item_at, same_at}
use Rattle.vic_collection.proofs.Telling.{nothing_certain}
use Rattle.vic_collection.proofs.collection.Collection.line_in.Goals as goal

here : (xs : List SurveyValue) (i : ℕ) (x y : SurveyValue) → x ≡ get_or xs i x → slice_get xs i ≡ Some y → x ≡ y
here xs i x y is at = same_at (λ s. s) (λ s. s) xs xs i x y refl is at

pub line_of-requires-clause-among : goal.line_of-requires-clause-among
line_of-requires-clause-among c =
    let found = item_at c.args.self.now.surveys c.args.log c.requires.log in
    let one = here c.surveys.result.now c.args.log c.index-surveys-log.result found.0 c.index-surveys-log.is (ap (λ l. slice_get l c.args.log) c.surveys.ensures ∙ found.1) in
    let field : found.0.field ≡ Possible c.in-Possible.seen = ap (λ (t : SurveyValue). t.field) (sym one) ∙ (sym c.field.ensures.value ∙ c.in-Possible.is) in
    ap (λ l. has (uids_of l) c.args.uid) c.as_slice.ensures.value ∙ (ap (λ f. is_certain_by f c.args.uid) (sym field) ∙ c.requires.certain found.0 found.1)

pub returns : goal.returns
returns c s at =
    let shown : ShownUid = record { uid = c.args.uid; line = c.line_of.result } in
    let one = here c.surveys.result.now c.args.log c.index-surveys-log.result s c.index-surveys-log.is (ap (λ l. slice_get l c.args.log) c.surveys.ensures ∙ at) in
    let field : s.field ≡ Possible c.in-Possible.seen = ap (λ (t : SurveyValue). t.field) (sym one) ∙ (sym c.field.ensures.value ∙ c.in-Possible.is) in
    subst (λ f. IsShownBy f shown) (sym field) (subst (λ l. Contains l shown) c.as_slice.ensures.value c.line_of.ensures)

pub unreachable-requires : goal.unreachable-requires
unreachable-requires c =
    let found = item_at c.args.self.now.surveys c.args.log c.requires.log in
    let one = here c.surveys.result.now c.args.log c.index-surveys-log.result found.0 c.index-surveys-log.is (ap (λ l. slice_get l c.args.log) c.surveys.ensures ∙ found.1) in
    both_ways (is_certain_in found.0 c.args.uid) (ap (λ (t : SurveyValue). is_certain_by t.field c.args.uid) (sym one) ∙ (ap (λ f. is_certain_by f c.args.uid) (sym c.field.ensures.value) ∙ nothing_certain c.field.result.now c.args.uid c.in_default.not-Possible)) (c.requires.certain found.0 found.1)
