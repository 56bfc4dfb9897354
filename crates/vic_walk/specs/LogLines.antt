-- The first lines of a log.
use Rattle.std.specs.Prelude.{List}
use Rattle.vic_log.specs.declared.entry.LogLine.{LogLine}
use Rattle.vic_log.specs.Order.{IsInOrder, AreValid, IsRisingFrom, entries}

-- entries in order, with valid requests, on lines whose numbers rise
pub record AreLogLines (lines : List LogLine) : Type 0 where
  pub order : IsInOrder (entries lines)
  pub valid : AreValid (entries lines)
  pub rising : IsRisingFrom 0 lines
