-- The words of proofs, from one place.
pub use Rattle.std.proofs.Common.{Bool, List, None, Option, Some, [], add-one, ap, arith, append_assoc, append-nil, eq-eqb, eqb-true, false, get_or, if◌then◌else◌, length, map, nat_eq, nat_lt, not, refl, slice_get, slice_index, subst, suc, sym, take, drop, drop-cons, true, zero, ℕ, ◌&&◌, ◌++◌, ◌+◌, ◌-◌, ◌*◌, ◌/◌, ◌%◌, ◌^◌, ◌<◌, ◌==◌, ◌||◌, ◌↔◌, ◌∙◌, ◌∷◌, ◌≡◌, ◌≢◌, ◌≤◌, ⊎_elim}
pub use Rattle.std.proofs.lemmas.Grind.{common_steps}
pub use Rattle.std.proofs.lemmas.List.{drop_all, map-append}
pub use Rattle.std.specs.List.{flat_map}
pub use Rattle.std.specs.Prelude.{codes, decimal}
pub use Rattle.vic_log.specs.Lines.{lf}
pub use Rattle.vic_log.specs.Writing.{joined}
pub use Rattle.vic_frame.specs.Masks.{BitMask}
pub use Rattle.vic_report.specs.declared.shown.ShownUid.{ShownUid}
pub use Rattle.vic_text.specs.Digits.{hex_bytes, mask_text, uid_text}
pub use Rattle.vic_survey.specs.Surveys.{SurveyValue}
pub use Rattle.vic_survey.specs.SurveyText.{certain_line, open_line, found_text, facts_lines, field_lines, lines_before, seal, survey_lines, text_of}
pub use Rattle.vic_survey.specs.declared.survey.FieldFacts.{FieldFacts}
pub use Rattle.std.proofs.lemmas.Result.{on_ok_weaker}
pub use Rattle.std.proofs.Common.{ap₂}
pub use Rattle.vic_log.specs.Names.{line_fault_name}
pub use Rattle.vic_survey.specs.declared.survey.SurveyedField.{SurveyedField}
pub use Rattle.vic_survey.specs.declared.survey.SurveyedField.TheVariants.{Refused, Impossible, Possible}
pub use Rattle.vic_frame.specs.Crc.{crc}
pub use Rattle.std.proofs.Math.Seq.{drop-append_seam}
pub use Rattle.std.proofs.lemmas.List.{take_all}
pub use Rattle.std.proofs.Common.{length-append}
