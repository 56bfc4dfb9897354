use Rattle.std.proofs.Common.{◌∙◌, ◌+◌, ◌++◌, ap, sym, arith, drop, get_or, refl}
use Rattle.std.specs.List.{flat_map}
use Rattle.vic_text.specs.Json.{json_byte}
use Rattle.vic_text.proofs.Pieces.{item_next, no_item_left}
use Rattle.vic_text.proofs.json.push_string_bytes.Goals as goal

pub loop-byte-preserved : goal.loop-byte-preserved
loop-byte-preserved c =
    let next = item_next json_byte c.loop-byte.text.items c.args.bytes.now c.loop-byte.byte-index (get_or c.args.bytes.now c.loop-byte.byte-index 0) 0 c.loop-byte-test.true refl in
    ap (λ t. t ++ flat_map json_byte (drop (c.loop-byte.byte-index + 1) c.args.bytes.now)) c.in_ok-push_string_byte.ensures ∙ next ∙ c.loop-byte.invariant

pub returns : goal.returns
returns c = sym (no_item_left json_byte c.loop-byte.text.items c.args.bytes.now c.loop-byte.byte-index (omega arith)) ∙ c.loop-byte.invariant
