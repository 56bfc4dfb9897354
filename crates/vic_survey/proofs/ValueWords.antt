-- The words of the proofs about values, from one place.
pub use Rattle.vic_survey.proofs.Words.{Bool, List, None, Option, Some, [], ap, arith, append_assoc, length-append, eq-eqb, eqb-true, false, get_or, if◌then◌else◌, length, map, nat_eq, nat_lt, not, refl, slice_get, slice_index, subst, suc, sym, take, drop, true, zero, ℕ, ◌&&◌, ◌++◌, ◌+◌, ◌-◌, ◌*◌, ◌/◌, ◌%◌, ◌^◌, ◌<◌, ◌==◌, ◌||◌, ◌∙◌, ◌∷◌, ◌≡◌, ◌≢◌, ◌≤◌, common_steps, codes, decimal, BitMask, ShownUid, hex_bytes, mask_text, uid_text, line_fault_name, certain_line, found_text, SurveyedField, Refused, Impossible, Possible}
pub use Rattle.std.proofs.Common.{take-append-drop, drop-cons, add-one, All, bytes_eq, le-leb, lt-ltb, ne_eqb, nat_le}
pub use Rattle.std.proofs.lemmas.Bool.{and_parts, or_parts, ltb-true, ltb-false, leb-true}
pub use Rattle.std.proofs.lemmas.Bool.Decides.{nat_tests}
pub use Rattle.std.proofs.lemmas.Fmt.{decimal_by_steps}
pub use Rattle.std.proofs.lemmas.List.{take_at, drop_at, take_all}
pub use Rattle.std.proofs.lemmas.List.Elements.{All-from_recursion, recursion_from_All}
pub use Rattle.std.proofs.lemmas.Slice.Eq.{bytes_eq-Decides}
pub use Rattle.std.proofs.lemmas.Str.{IsUtf8-from_is_utf8, is_utf8-from_IsUtf8}
pub use Rattle.std.specs.Int.{to_be_bytes, w64}
pub use Rattle.std.specs.List.{list_all, AllByRecursion}
pub use Rattle.std.specs.Str.{is_utf8, byte}
pub use Rattle.hex.specs.Hex.{encode_upper, upper_digits}
pub use Rattle.vic_frame.specs.Requests.{byte_count}
pub use Rattle.vic_frame.specs.Uids.{IsUid, is_uid, has}
pub use Rattle.vic_frame.specs.declared.uid.TheConstants.{UID_BITS}
pub use Rattle.vic_log.specs.declared.fault.LineFault.{LineFault}
pub use Rattle.vic_text.specs.Digits.{value_text}
pub use Rattle.vic_text.specs.Values.{number_in, hex_number_in, value_in}
pub use Rattle.vic_survey.specs.Names.{IsName, IsVisible}
pub use Rattle.vic_survey.specs.Parts.{IsLineNumber, IsShort}
pub use Rattle.vic_survey.specs.Surveys.{IsFieldInRange}
pub use Rattle.vic_survey.specs.declared.fault_names.TheConstants.{FAULTS}
pub use Rattle.vic_survey.specs.inner.Values.{and_then, or_else, after, parted, number_up_to, line_number_in, uid_in, mask_in, found_in, certain_in, fault_among, refused_in, is_visible, is_name, name_in}
pub use Rattle.vic_frame.specs.declared.fault.FrameFault.TheVariants.{NotVicinity}
pub use Rattle.vic_log.specs.declared.fault.LineFault.TheVariants.{Frame}
