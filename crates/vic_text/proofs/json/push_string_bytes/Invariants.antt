use Rattle.std.proofs.Common.{◌≡◌, ◌++◌, drop}
use Rattle.std.specs.List.{flat_map}
use Rattle.vic_text.specs.Json.{json_byte}
use Rattle.vic_text.proofs.json.push_string_bytes.Given as goal

abbrev pub invariant-loop-byte : goal.invariant-loop-byte
invariant-loop-byte l = l.text.items ++ flat_map json_byte (drop l.byte-index l.bytes) ≡ l.fn.text.items ++ flat_map json_byte l.bytes
