-- Tags in a row by their keys, each Ready or Quiet.
use Rattle.std.specs.Prelude.{ℕ, Bool, not, List, length, map, slice_index_or}
use Rattle.std.specs.List.{range_with_len}
use Rattle.vic_field.specs.declared.quiet.QuietPositions.{QuietPositions}
use Rattle.vic_field.specs.declared.row.Row.{Row}
use Rattle.vic_field.specs.Positions.{is_quiet_position}

-- the tag at a position: its key, and whether it is Ready
abbrev pub tag_at : List ℕ → QuietPositions → ℕ → ℕ × Bool
tag_at keys quiet k = (slice_index_or keys k 0, not (is_quiet_position quiet k))

-- the tags with these keys
abbrev pub tags_with : List ℕ → QuietPositions → List (ℕ × Bool)
tags_with keys quiet = map (tag_at keys quiet) (range_with_len 0 (length keys))

-- a row's tags
abbrev pub entries : Row → List (ℕ × Bool)
entries r = tags_with r.keys.items r.quiet
