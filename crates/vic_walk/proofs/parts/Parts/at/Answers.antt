use Rattle.vic_walk.proofs.PartLaws.{between_all}
use Rattle.vic_walk.proofs.parts.Parts.at.Goals as goal

pub search-requires-else-is_between-2 : goal.search-requires-else-is_between-2
search-requires-else-is_between-2 c = rw c.count.ensures.count (between_all _ _ c.count.ensures.borders c.number-2.ensures.small)
