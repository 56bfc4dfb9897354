-- What a possible log tells of the tags: which may be there, which must, and which meet its slots.
use Rattle.std.specs.Prelude.{ℕ, Bool, List}
use Rattle.vic_tree.specs.OpenSet.{SameUids}
use Rattle.vic_log.specs.declared.entry.Entry.{Entry}
use Rattle.vic_log.specs.Slots.{slots_of, is_open, IsForcedBy}
use Rattle.vic_verdict.specs.declared.facts.Met.{Met}
use Rattle.vic_verdict.specs.Needs.{IsMet}
use Rattle.vic_verdict.specs.Possible.{IsPossible}
use Rattle.vic_verdict.specs.Rising.{IsListOf}

-- some population could have produced the log; the set has the UIDs that its slots leave open, and
-- the list those that they force
pub record AreOpenAndCertain (es : List Entry) (set : ℕ → Bool) (certain : List ℕ) : Type 0 where
  pub possible : IsPossible es
  pub uids_open : SameUids set (is_open (slots_of es))
  pub forced : IsListOf (IsForcedBy (is_open (slots_of es)) (slots_of es)) certain

-- that, and what meets its slots
pub record AreFactsOf (es : List Entry) (set : ℕ → Bool) (met : Met) (certain : List ℕ)
    : Type 0 where
  pub told : AreOpenAndCertain es set certain
  pub is_met : IsMet es met
