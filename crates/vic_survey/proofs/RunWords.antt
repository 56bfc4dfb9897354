-- The words of the proofs about reading line by line.
pub use Rattle.vic_survey.proofs.ValueWords.{All-from_recursion, AllByRecursion, recursion_from_All, Bool, List, None, Option, Some, [], ap, arith, append_assoc, length-append, eqb-true, false, if◌then◌else◌, length, map, nat_eq, refl, subst, suc, sym, true, zero, ℕ, ◌&&◌, ◌||◌, ◌++◌, ◌+◌, ◌-◌, ◌^◌, ◌/◌, ◌%◌, ◌<◌, ◌==◌, ◌∙◌, ◌∷◌, ◌≡◌, ◌≢◌, ◌≤◌, nat_tests, ne_eqb, lt-ltb, codes, decimal, BitMask, ShownUid, hex_bytes, mask_text, uid_text, line_fault_name, found_text, certain_line, bytes_eq, bytes_eq-Decides, and_parts, or_parts, IsUid, IsShort, IsLineNumber, IsFieldInRange, IsName, IsVisible, has, encode_upper, upper_digits, to_be_bytes, w64, drop, slice_index, value_text, byte_count, and_then, or_else, after, number_up_to, mask_in, found_in, certain_in, name_in, LineFault, SurveyedField, Refused, Impossible, Possible, Frame}
pub use Rattle.vic_survey.proofs.Words.{append-nil, map-append, flat_map, lf, joined, SurveyValue, FieldFacts, open_line, facts_lines, field_lines, lines_before, seal, survey_lines, text_of}
pub use Rattle.std.specs.Prelude.{IfSome, ⊤}
pub use Rattle.vic_survey.specs.SurveyText.{name_line}
pub use Rattle.vic_survey.specs.SurveyReading.{BeginsSome, IsTextOfSome, IsOneLine, IsWrongAfter, IsFirstWrong}
pub use Rattle.vic_survey.specs.Surveys.{AreSurveys, AreFactsInRange, IsSurvey}
pub use Rattle.vic_survey.specs.Parts.{AreRisingUids, AreRisingMasks}
pub use Rattle.vic_survey.specs.declared.begun.Begun.{Begun}
pub use Rattle.vic_survey.specs.declared.begun.Begun.TheVariants.{Named, UpTo, Unsealed}
pub use Rattle.vic_survey.specs.declared.begun.Part.{Part}
pub use Rattle.vic_survey.specs.inner.Rising.{is_above, is_behind}
pub use Rattle.vic_survey.specs.inner.Steps.{count_after, mask_after, found_after, nothing, with_answers, with_certain, with_open, with_margin, with_weakest, with_hidden, with_deaf, field_in, after_name, certain_after, more_certain, more_open, next_part, State, step_of, step, run, start, lists_of, lines_of, so_far, IsAt, IsBegun, IsState, IsReached}
pub use Rattle.std.proofs.lemmas.List.Elements.{All-push}
