use Rattle.std.proofs.Common.{map, string_bytes, take}
use Rattle.std.specs.List.{All}
use Rattle.vic_survey.specs.Names.{IsName}
use Rattle.vic_program.proofs.each.are_names.Given as goal

abbrev pub invariant-loop-name : goal.invariant-loop-name
invariant-loop-name l = All IsName (take l.name-index (map string_bytes l.names))
