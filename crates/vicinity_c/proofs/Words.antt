-- The words of proofs, from one place: what files name from outside of the crate, and the definitions that several of them name.
pub use Rattle.std.proofs.Common.{List, None, Some, [], ap, append_assoc, arith, drop, drop-cons, get_or, length, map, refl, replicate, slice_get, slice_index, subst, suc, sym, take, true, w64, zero, ℕ, ◌%◌, ◌++◌, ◌+◌, ◌-◌, ◌/◌, ◌<◌, ◌∙◌, ◌∷◌, ◌≡◌, ◌≤◌}
pub use Rattle.std.proofs.lemmas.List.{drop-replicate, length-map, take_all, take_more}
pub use Rattle.std.specs.Int.{to_be_bytes}
pub use Rattle.vic_frame.specs.Bytes.{bytes_of}
pub use Rattle.vic_frame.specs.Crc.{with_crc}
pub use Rattle.vic_log.proofs.Places.{slice_get-append}
pub use Rattle.vic_log.specs.Lines.{cut, lf, lines_of_text}
pub use Rattle.vic_log.specs.Order.{entries}
pub use Rattle.vic_log.specs.Text.{log_upto}
pub use Rattle.vic_log.specs.Writing.{entry_text, listed_text}
pub use Rattle.vic_log.specs.declared.entry.Entry.TheVariants.{Listed}
pub use Rattle.vic_answer.specs.CheckText.{HasCompleteList}
pub use Rattle.vic_numbers.specs.declared.numbers.VicinityAnswer.{VicinityAnswer}
pub use Rattle.vicinity_c.specs.Lines.{bytes_line}
