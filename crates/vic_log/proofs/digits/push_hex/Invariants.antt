use Rattle.vic_log.proofs.Words.{◌≡◌, ◌+◌, ◌*◌, ◌++◌, drop, encode_upper, array_vec_len}
use Rattle.vic_log.proofs.digits.push_hex.Given as goal

abbrev pub invariant-loop-byte : goal.invariant-loop-byte
invariant-loop-byte g l = record {
  long : array_vec_len l.text ≡ array_vec_len l.initial.text + 2 * l.byte-index;
  told : l.text.items ++ encode_upper (drop l.byte-index l.bytes) ≡ l.initial.text.items ++ encode_upper l.bytes;
}
