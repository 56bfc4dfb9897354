use Rattle.std.proofs.Common.{map, string_bytes, take}
use Rattle.vic_program.specs.Each.{ReadsEach}
use Rattle.vic_program.specs.FilesView.{files_view}
use Rattle.vic_program.proofs.each.taken_from.Given as goal

abbrev pub invariant-loop-name : goal.invariant-loop-name
invariant-loop-name g l = ReadsEach (files_view g.F.Files g.F.File.Source l.files) (take l.name-index (map string_bytes l.names)) (λ texts. g.G.Gather.HasTaken (take l.name-index (map string_bytes l.names)) texts l.taken)
