-- The words of proofs, from one place: what files name from outside of the crate, and the definitions that several of them name.
pub use Rattle.std.proofs.Common.{All, Bool, Err, IfErr, IfOk, IsErr, IsErrAnd, List, MatchOption, MatchResult, None, Ok, OnOk, Option, Result, Some, [], ap, append-nil, append_assoc, arith, bytes_eq, codes, decimal, drop, eq-eqb, eqb-true, false, flat_map, get_or, if◌then◌else◌, inl, inr, le-leb, length, lt-ltb, map, nat_lt, ne_eqb, option_map, refl, replicate, rules, set, slice_get, slice_index, string_bytes, subst, suc, sym, take, take-append-drop, true, w64, zero, ℕ, ⊎_elim, ◌%◌, ◌&&◌, ◌*◌, ◌++◌, ◌+◌, ◌-◌, ◌/◌, ◌<◌, ◌==◌, ◌^◌, ◌∙◌, ◌∷◌, ◌≡◌, ◌≤◌}
pub use Rattle.std.proofs.KnownBytes.{Appends-nil, Appends-trans}
pub use Rattle.std.proofs.Math.Nat.{pow-le-pow_right}
pub use Rattle.std.proofs.Math.Seq.{take-append-add, take-append_seam}
pub use Rattle.std.proofs.lemmas.Bool.{and_parts, cases_lt, cases_order, false≢true}
pub use Rattle.std.proofs.lemmas.Fmt.{decimal_is_IsNumeral, parse-decimal}
pub use Rattle.std.proofs.lemmas.List.{append_cancel_left, at_drop_all, at_drop_more, get_or-drop, get_or-set_other, get_or-set_same, get_or-take, length-append, length-drop, length-map, length-set, length-take-le, map-append, take-append-le}
pub use Rattle.std.proofs.lemmas.List.FromFn.{fill_by_all}
pub use Rattle.std.proofs.lemmas.List.Elements.{All-cons, All-head, All-nil, All-tail}
pub use Rattle.std.proofs.lemmas.Nat.{from_be_bytes-to_be_bytes_8}
pub use Rattle.std.proofs.lemmas.Option.{get_or_from_slice_get, slice_get-get_or, slice_get_within}
pub use Rattle.std.proofs.lemmas.Result.{IfOk-weaker}
pub use Rattle.std.proofs.lemmas.Slice.Eq.{bytes_eq-Decides}
pub use Rattle.std.proofs.lemmas.Slice.Zip.{AllZip-long, all_zipped_more}
pub use Rattle.std.specs.Int.{byte_at, bytes_high_first, from_be_bytes, to_be_bytes}
pub use Rattle.std.specs.Io.KnownBytes.{Appends, Consumes}
pub use Rattle.std.specs.List.{AllZip, range_with_len}
pub use Rattle.std.specs.Prelude.{⊤, ◌↔◌, ◌≢◌, nat_le, ok_or}
pub use Rattle.std.specs.Str.Parse.{ParsesUnsigned, digits_value}
pub use Rattle.hex.proofs.HexLemmas.{decode_of-encode_upper, decode_of-ok, decode_sized-ok, decode_sized-twice, length-encode_with}
pub use Rattle.hex.specs.Hex.{IsBytes, decode_sized, encode_upper, upper_digits}
pub use Rattle.hex.specs.declared.error.FromHexError.{FromHexError}
pub use Rattle.vic_frame.proofs.BytesLaws.{holds_bits}
pub use Rattle.vic_frame.proofs.ReplyLaws.{reply_found}
pub use Rattle.vic_frame.proofs.RequestLaws.{request_found}
pub use Rattle.vic_frame.specs.Masks.{BitMask, IsMask}
pub use Rattle.vic_frame.specs.Replies.{IsReply, Reply, SpellsReply}
pub use Rattle.vic_frame.specs.Requests.{IsInRange, IsValid, SpellsRequest, byte_count}
pub use Rattle.vic_frame.specs.Uids.{IsUid, is_uid}
pub use Rattle.vic_frame.specs.declared.request.Request.{Request}
pub use Rattle.vic_frame.specs.declared.request.Request.TheVariants.{Inventory, StayQuiet}
pub use Rattle.vic_frame.specs.declared.uid.TheConstants.{UID_BITS}
pub use Rattle.vic_log.proofs.One.{not_both}
pub use Rattle.vic_log.proofs.Places.{slice_get-append, slice_get_seam}
pub use Rattle.vic_log.specs.Device.{Grows, HandsOut, HasTakenBut, HasTakenPrefix, HasWrittenPrefix, TellsOn}
pub use Rattle.vic_log.specs.Early.{ReadsWhere}
pub use Rattle.vic_log.specs.Lines.{lines_of_text}
pub use Rattle.vic_log.specs.Log.{LogValue}
pub use Rattle.vic_log.specs.Order.{entries, listed}
pub use Rattle.vic_log.specs.Text.{IsFirstFault, IsLogOf}
pub use Rattle.vic_log.specs.Writing.{listed_text}
pub use Rattle.vic_log.specs.declared.entry.Entry.{Entry}
pub use Rattle.vic_log.specs.declared.entry.LogLine.{LogLine}
pub use Rattle.vic_log.specs.declared.fault.LineFault.{LineFault}
pub use Rattle.vic_log.specs.declared.fault.LogFault.{LogFault}
pub use Rattle.vic_log.specs.declared.fault.LogFault.TheVariants.{Line}
pub use Rattle.vic_log.specs.declared.sink.Sink.{Ghosts as Sink}
pub use Rattle.vic_log.specs.declared.source.Source.{Ghosts as Source}
pub use Rattle.vic_tree.specs.declared.open_masks.OpenMasks.{OpenMasks}
pub use Rattle.vic_verdict.proofs.Versions.{complete_second, complete_third}
pub use Rattle.vic_verdict.proofs.Verdicts.{complete_whole}
pub use Rattle.vic_verdict.specs.Explained.{IsExplanation, IsPopulationBehind, IsShownByNone, Shows}
pub use Rattle.vic_verdict.specs.Verdict.{IsVerdict}
pub use Rattle.vic_verdict.specs.declared.explanation.Explanation.{Explanation}
pub use Rattle.vic_verdict.specs.declared.judging.Verdict.{Verdict}
pub use Rattle.vic_verdict.specs.declared.judging.Verdict.TheVariants.{Absent, Complete, Doubtful, Impossible, Unlisted, Unsettled}
pub use Rattle.vic_margin.specs.declared.answer.Margin.{Margin}
pub use Rattle.vic_report.proofs.AllFindings.{none_where_complete, report_begins}
pub use Rattle.vic_report.specs.Findings.{uids_of}
pub use Rattle.vic_report.specs.Reports.{IsReport, verdict_by, verdict_of}
pub use Rattle.vic_report.specs.declared.reporting.LogReport.{LogReport}
pub use Rattle.vic_report.specs.declared.shown.ShownUid.{ShownUid}
pub use Rattle.vic_answer.specs.Answered.{answer_of, HasLog, IsAnswered, IsReadAs}
pub use Rattle.vic_answer.specs.CheckText.{BeginsAsCheck, IsCommandText, IsCheckOf, HasCompleteList, check_text, check_status, verdict_line}
pub use Rattle.vic_text.specs.Digits.{hex_bytes, value_text}
pub use Rattle.vic_text.specs.Values.{hex_number_in, number_in, value_in}
pub use Rattle.vic_answer.specs.ExplainText.{IsExplanationOf, explained_text, population_line, population_of}
pub use Rattle.vic_answer.specs.FrameText.{reply_words, request_words}
pub use Rattle.vic_answer.specs.Findings.{report_findings}
pub use Rattle.vic_answer.specs.ReportText.{IsReportOf, finding_text, reported_text}
pub use Rattle.vic_answer.specs.inner.FindingsLeft.{findings_left}
pub use Rattle.vic_answer.specs.Runs.{Accepts, ForText, IsEnough, IsReadWithin, LeavesSource, Reading, ReadsEnough, ReadsNoEarlyFault, Runs, RunsOver, RunsOverRevealed, Writes, as_returned, as_revealed}
pub use Rattle.vic_answer.specs.SimulateText.{IsSimulationOf, simulated_status, simulated_text}
pub use Rattle.vic_answer.specs.SpellText.{and_then, hex_word, inventory_in, longest_mask, mask_in, number_up_to, reply_in, says_inventory, says_reply, says_stay_quiet, sixteen_in, spelled_text, stay_quiet_in, word, words_of, words_reading}
pub use Rattle.vic_answer.specs.declared.answered.Answered.{Answered}
pub use Rattle.vic_answer.specs.declared.answered.Answered.TheVariants.{Found, RefusedAt}
pub use Rattle.vic_answer.specs.declared.findings.Finding.{Finding}
pub use Rattle.vic_answer.specs.declared.spell.SpellFault.{SpellFault}
pub use Rattle.vic_answer.specs.declared.spell.SpellFault.TheVariants.{Range, Words}
pub use Rattle.vic_answer.specs.declared.status.RunFault.{RunFault}
pub use Rattle.vic_answer.specs.declared.status.RunFault.TheVariants.{Memory, Read, Write}
pub use Rattle.vic_answer.specs.declared.status.Status.{Status}
pub use Rattle.vic_answer.specs.inner.Pieces.{Pushes, PushesBehind}
