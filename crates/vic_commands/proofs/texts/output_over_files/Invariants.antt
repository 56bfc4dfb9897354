use Rattle.std.proofs.Common.{map, string_bytes, take}
use Rattle.vic_commands.proofs.texts.output_over_files.Given as goal

-- the texts so far were taken
abbrev pub invariant-loop-i : goal.invariant-loop-i
invariant-loop-i g l =
    g.G.Gather.HasTaken (take l.i (map string_bytes l.names)) (take l.i (map (λ t. t.now) l.texts)) l.taken
