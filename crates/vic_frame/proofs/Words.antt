-- The words of proofs, from one place: what files name from outside of the crate, and the definitions that several of them name.
pub use Rattle.std.proofs.Common.{Bool, IfOk, Less, List, None, Ok, Option, Some, [], add-one, add-zero, add_comm, ap, append-nil, append_assoc, arith, bit_and, bit_xor, div-one, drop, drop-cons, eq-eqb, eqb-true, false, get_or, get_or-drop, get_or-take, if◌then◌else◌, inl, inr, is_eq, le-leb, le-ltb, leb-true, length, length-append, length-drop, length-take, lt-ltb, ltb-false, ltb-true, map, mod-eq_of_lt, mul-le-mul_right, mul_assoc, nat_cmp, nat_eq, nat_le, nat_lt, ne_eqb, not, pow-add, pow_pos, refl, shr-shr, slice_index, subst, suc, sym, take, take-append-drop, take_at, true, zero, ℕ, ◌%◌, ◌&&◌, ◌*◌, ◌++◌, ◌+◌, ◌-◌, ◌/◌, ◌<◌, ◌==◌, ◌^◌, ◌↔◌, ◌∙◌, ◌∷◌, ◌≡◌, ◌≤◌}
pub use Rattle.std.proofs.Math.Nat.{div-eq_of_lt, mod-le, mod-one, mul-add-mod_self_right, mul-mod_left, pow-le-pow_right}
pub use Rattle.std.proofs.Math.Seq.{drop-append_seam, take-append_seam}
pub use Rattle.std.proofs.lemmas.Bool.{and_from, and_parts, cases_Bool, cases_eq, not-false, not_from_true}
pub use Rattle.std.proofs.lemmas.Bool.Decides.{nat_tests}
pub use Rattle.std.proofs.lemmas.Cmp.{ranked}
pub use Rattle.std.proofs.lemmas.List.{drop_all, get_or_past}
pub use Rattle.std.proofs.lemmas.List.FromFn.{get_or-map-range_with_len}
pub use Rattle.std.proofs.lemmas.Nat.{and_mask, field_of, mod-pow-add, mod_below, mod_low, mul-le, shl_whole, shr_high, shr_split, xor_comm, xor_lt, xor_mod, xor_shr}
pub use Rattle.std.specs.List.{range_with_len}
pub use Rattle.vic_frame.specs.Bytes.{AreBytes, bit, bits, bits_of, bytes_of, number_of}
pub use Rattle.vic_frame.specs.Crc.{after_bits, crc, crc_right, register, with_crc}
pub use Rattle.vic_frame.specs.Faults.{command, first_fault, flags, inventory_faults, mask_bytes, mask_len, reply_faults, request_faults, stay_quiet_faults, uid_bytes}
pub use Rattle.vic_frame.specs.Fields.{HasInventoryFields, HasReplyFields, HasStayQuietFields}
pub use Rattle.vic_frame.specs.LowBitsFirst.{IsBlock, IsKey, is_in_block, mirror, mirror_bits, uid_of}
pub use Rattle.vic_frame.specs.Masks.{BitMask, IsMask, LiesIn, lies_in, slot_of_sixteen}
pub use Rattle.vic_frame.specs.Reading.{fault_or, inventory_in, reply_in, request_in, stay_quiet_in}
pub use Rattle.vic_frame.specs.Replies.{IsReply, Reply, SpellsReply, reply_body, reply_spelling}
pub use Rattle.vic_frame.specs.Requests.{IsInRange, IsValid, SpellsRequest, byte_count, request_body, request_spelling}
pub use Rattle.vic_frame.specs.Uids.{IsUid}
pub use Rattle.vic_frame.specs.declared.request.Request.TheVariants.{Inventory, StayQuiet}
