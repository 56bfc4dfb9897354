use Rattle.std.proofs.Common.{length, map, string_bytes}
use denote.Text.{Utf8}
use denote.Shadow.{shadow}
use Rattle.vicinity_c.proofs.NamesInLines.{AreCut}
use Rattle.vicinity_c.proofs.given.names_in.Given as goal

-- the names so far are cut off, and whatever names the bytes have, the others are the rest
abbrev pub invariant-loop-name : goal.invariant-loop-name
invariant-loop-name l = record {
  text : shadow (Utf8 l.rest);
  cut : AreCut l.bytes (map string_bytes l.names.items) l.rest;
}

abbrev pub decreases-loop-name : goal.decreases-loop-name
decreases-loop-name l = length l.rest
