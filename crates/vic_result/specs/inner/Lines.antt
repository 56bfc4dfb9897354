-- Texts behind which lines were written.
use Rattle.std.specs.Prelude.{◌≡◌, ℕ, Option, List, ◌++◌}
use Rattle.vic_frame.specs.Masks.{BitMask}
use Rattle.vic_collection.specs.Collections.{CollectionValue}
use Rattle.vic_result.specs.ResultLines.{AreUnsettledLines}

-- what is unsettled was written
abbrev pub AddsUnsettled : CollectionValue → Option BitMask → List ℕ → List ℕ → Type 0
AddsUnsettled c unsettled old new =
    (piece : List ℕ) × AreUnsettledLines c unsettled piece × (new ≡ old ++ piece)
