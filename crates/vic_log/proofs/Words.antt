-- The words of proofs, from one place: what files name from outside of the crate, and the definitions that several of them name.
pub use Rattle.std.proofs.Common.{Bool, Err, IfErr, IfOk, IfSome, IsErr, IsOk, List, MatchResult, None, Ok, OnOk, Option, Result, Some, [], add-one, ap, append-nil, append_assoc, ap₂, arith, cond, drop, drop-cons, eqb, false, get_or, if◌then◌else◌, inl, inr, is_ok, leb, leb-false, length, length-append, length-take-le, map, nat_eq, nat_lt, not, refl, replicate, rules, set, slice_get, slice_index, slice_index_or, subst, suc, sym, take, true, w8, zero, ℕ, ⊎_elim, ◌%◌, ◌&&◌, ◌*◌, ◌++◌, ◌+◌, ◌-◌, ◌/◌, ◌<◌, ◌==◌, ◌^◌, ◌||◌, ◌↔◌, ◌∙◌, ◌∷◌, ◌≡◌, ◌≢◌, ◌≤◌, ◌⊎◌}
pub use Rattle.std.proofs.KnownBytes.{Appends-trans, Consumes-nil, Consumes-trans}
pub use Rattle.std.proofs.Math.Bool.{or-false}
pub use Rattle.std.proofs.Math.Nat.{le_of_lt}
pub use Rattle.std.proofs.Math.Seq.{take-add, take-append-add, take-append_seam}
pub use Rattle.std.proofs.lemmas.Bool.{agree_below, agree_below_at, and_from, and_parts, and_right, both_ways, cases_Bool, cases_eq, cases_lt, cond-false, cond-true, cond_both, eq-eqb, eqb-false, eqb-true, false_from_ne_true, false≢true, le-leb, le-ltb, leb-true, lt-ltb, ltb-true, ne_eqb, or_cases, or_from, or_left, or_parts, or_right}
pub use Rattle.std.proofs.lemmas.Bool.Decides.{nat_tests}
pub use Rattle.std.proofs.lemmas.Grind.{common_steps}
pub use Rattle.std.proofs.lemmas.List.{drop_all, get_or-map, get_or-take, get_or-set_other, get_or-set_same, get_or_append_left, length-drop, length-map, length-set, length-take, length_push, map-append, map-id, nil_from_length, take-append-le, take_all}
pub use Rattle.std.proofs.lemmas.List.Elements.{filter_agree}
pub use Rattle.std.proofs.lemmas.List.Folds.{list_any-append, list_any_at}
pub use Rattle.std.proofs.lemmas.List.FromFn.{get_or-map-range_with_len}
pub use Rattle.std.proofs.lemmas.Map.Views.{any-filter_same}
pub use Rattle.std.proofs.lemmas.Nat.{be_bytes_8, from_be_bytes-to_be_bytes_8}
pub use Rattle.std.proofs.lemmas.Option.{get_or_from_slice_get, slice_get-get_or, slice_get-map, slice_get_past, slice_get_read, slice_get_within}
pub use Rattle.std.proofs.lemmas.Result.{IfErr-weaker, err_from_is_err_and, on_ok_weaker}
pub use Rattle.std.proofs.lemmas.Simd.{bitmask_splat, get_or-chunk, get_or-put_chunk_at, get_or-put_chunk_below, length-chunk, map-map, mask_l-mod, none_from_empty_mask, run_in_chunk_fails, run_in_chunk_stops, splat_is_map, tops_compared, trailing_mask_l, zip2_of_maps}
pub use Rattle.std.specs.BTreeMap.{is_at}
pub use Rattle.std.specs.Int.{to_be_bytes, w64}
pub use Rattle.std.specs.Io.KnownBytes.{Appends, Consumes, IsAtEnd}
pub use Rattle.std.specs.List.{AllByRecursion, filter, list_all, prefix_len, range_with_len}
pub use Rattle.std.specs.Option.{is_some, option_map, unwrap_or}
pub use Rattle.std.specs.Ordering.{nat_cmp}
pub use Rattle.std.specs.Prelude.{⊤}
pub use Rattle.std.specs.Vec.{vec_len, with_item}
pub use Rattle.arrayvec.specs.ArrayVec.{array_vec_len}
pub use Rattle.hex.proofs.HexLemmas.{decode_of-encode_upper, decode_of-even, decode_pairs-ok, length-encode_with}
pub use Rattle.hex.proofs.Pairs.{cons_byte, decode_pairs-ok_pair}
pub use Rattle.hex.specs.Hex.{IsBytes, decode_of, digit_or_error, encode_upper, hex_digit_value, pair_value, upper_digits, ◌>>=◌}
pub use Rattle.hex.specs.declared.error.FromHexError.{FromHexError}
pub use Rattle.vic_frame.proofs.BytesLaws.{length_bytes_of}
pub use Rattle.vic_frame.proofs.FrameLaws.{length-with_crc}
pub use Rattle.vic_frame.proofs.MirrorLaws.{first_is_block, in_span}
pub use Rattle.vic_frame.proofs.ReplyLaws.{reply_found, reply_only}
pub use Rattle.vic_frame.proofs.RequestLaws.{request_found, request_only}
pub use Rattle.vic_frame.specs.Bytes.{AreBytes}
pub use Rattle.vic_frame.specs.Crc.{crc, with_crc}
pub use Rattle.vic_frame.specs.Reading.{reply_reading, request_reading}
pub use Rattle.vic_frame.specs.Replies.{IsReply, Reply, reply_body, reply_spelling}
pub use Rattle.vic_frame.specs.Requests.{IsInRange, IsValid, SpellsRequest, request_body, request_spelling}
pub use Rattle.vic_frame.specs.Uids.{AreDifferent, IsUid, has, is_uid}
pub use Rattle.vic_frame.specs.declared.fault.FrameFault.{FrameFault}
pub use Rattle.vic_frame.specs.declared.request.Request.{Request}
pub use Rattle.vic_log.specs.Begun.{AreRead, HasCut, HasJudged, HasTaken, IsCut, IsShort, IsSplit, spare}
pub use Rattle.vic_log.specs.Device.{HandsOut, HasTakenBut, HasTakenPrefix, KeepsOrHides, TellsOn}
pub use Rattle.vic_log.specs.Early.{HasNoEarlyFault, IsEarly, IsEarlyFault, IsJudged, IsLong, Judges, ReadsAs, ReadsWhere}
pub use Rattle.vic_log.specs.FirstVersion.{AreOfFirstVersion, IsOfFirstVersion}
pub use Rattle.vic_log.specs.SecondVersion.{AreOfSecondVersion, IsOfSecondVersion}
pub use Rattle.vic_log.specs.Grammar.{AreDigitsOf, HasBytes, IsDigitOf, IsPassedOver, SpellsEntry}
pub use Rattle.vic_log.specs.Kept.{Keeps, left_after}
pub use Rattle.vic_log.specs.LineReading.{line_reading}
pub use Rattle.vic_log.specs.Lines.{all_but_last, content, cr, cut, ends_with, lf, lines_of_text, onto, without_last}
pub use Rattle.vic_log.specs.Log.{AreTyped, IsTyped, IsValidEntry, LogValue, last_from}
pub use Rattle.vic_log.specs.OpenRounds.{IsCursorAt, round_at}
pub use Rattle.vic_log.specs.Order.{AreValid, IsInOrder, IsRisingFrom, entries, first_reason, is_after_list, is_duplicate, is_empty, is_outside_round, listed, refusal}
pub use Rattle.vic_log.specs.Populations.{CouldHaveGiven, Fits, IsPopulation, Lone, Nobody, Several, answerers_at, answers_at, outcome_of}
pub use Rattle.vic_log.specs.Quiet.{is_quiet, wakes}
pub use Rattle.vic_log.specs.Rounds.{IsInRound, ends_round, is_slot, opener, slots_left}
pub use Rattle.vic_log.specs.Slots.{Asks, ManyReplies, NoReply, OneReply, Reading, ReplyAmong, Slot, SomeReply, Supplies, SuppliesAll, allows, is_open, may_be, slots_before, slots_of, with_entry}
pub use Rattle.vic_log.specs.Text.{GiveEntries, IsFirstFault, IsLogOf, Refuses, fault_on, header, line_fault, log_upto, logged, named_version, reading_fault, version_of}
pub use Rattle.vic_log.specs.Writing.{entry_text, joined, lines_text, listed_text, numbered, text_of}
pub use Rattle.vic_log.specs.declared.entry.Entry.{Entry}
pub use Rattle.vic_log.specs.declared.entry.Entry.TheVariants.{Captured, Collision, FieldCycle, Garbled, Heard, Listed, Sent, Silent, Unknown}
pub use Rattle.vic_log.specs.declared.entry.LogLine.{LogLine}
pub use Rattle.vic_log.specs.declared.entry.Version.{Version}
pub use Rattle.vic_log.specs.declared.entry.Version.TheVariants.{V1, V2, V3}
pub use Rattle.vic_log.specs.declared.fault.LineFault.{LineFault}
pub use Rattle.vic_log.specs.declared.fault.LineFault.TheVariants.{Header, LineTooLong, TooManyLines}
pub use Rattle.vic_log.specs.declared.fault.LogFault.{LogFault}
pub use Rattle.vic_log.specs.declared.fault.LogFault.TheVariants.{Line, Memory, Read}
pub use Rattle.vic_log.specs.declared.rounds.OpenRound.{OpenRound}
pub use Rattle.vic_log.specs.inner.Digits.{SpellsByte, digit_or_255}
pub use Rattle.vic_log.specs.inner.Text.{RefusesNext, after_line, next_fault}
pub use Rattle.vic_log.specs.inner.UidSets.{IsIndex, IsSetOf, IsUidSet, row_of}
pub use Rattle.std.proofs.raw_atomic.Walks.{proved}
pub use base.Fml.{flft, ftrue}
pub use base.Logic.{id⊢}
pub use denote.Builtin.{u8}
pub use denote.Exit.{yes}
pub use denote.RattleType.{owns}
pub use denote.Ref.{MutRef, mut_Tells, mut_vals}
pub use denote.Shadow.{pure_i}
pub use denote.Signature.{plain}
pub use denote.Slice.{ShrSlice, shr_slice_Tells, shr_slice_vals}
pub use denote.Steps.{closes, opens}
pub use denote.Triple.Entry.{alive}
pub use denote.Triple.Walked.{Goes-none_slice, Goes-ref, Stays, ends_at, says, stay_none_slice, stay_ref}
pub use mir.Syntax.{named}
pub use mir.Val.{Val, vnil, vstruct, vunit}
pub use types.ByLocal.{alloc_all, free_all, look_at, pass_all, sets}
pub use types.Part.{agg}
pub use types.Run.{enter, no_more, of_opd, returns, unit_lit}
