-- What a log says of its field, from what the calls returned.
use Rattle.std.proofs.Common.{◌≡◌, ℕ, List, sym, subst}
use Rattle.vic_frame.specs.Masks.{BitMask}
use Rattle.vic_log.specs.Order.{entries}
use Rattle.vic_log.specs.declared.entry.LogLine.{LogLine}
use Rattle.vic_tree.specs.Keys.{AreKeysOf}
use Rattle.vic_tree.specs.OpenMasks.{AreAll, IsOpenMask}
use Rattle.vic_tree.specs.OpenSet.{without_keys}
use Rattle.vic_tree.specs.Ranges.{is_open_in}
use Rattle.vic_verdict.proofs.Differing.{log_facts}
use Rattle.vic_verdict.specs.Facts.{AreOpenAndCertain}
use Rattle.vic_verdict.specs.Possible.{IsCertainUid}
use Rattle.vic_verdict.specs.Rising.{IsListOf}
use Rattle.vic_report.proofs.AllFindings.{open_set}
use Rattle.vic_object.specs.Told.{AreCertainIn, AreOpenIn}

pub certain_are : (lines : List LogLine) (open_ranges : List (ℕ × ℕ)) (certain us : List ℕ) → AreOpenAndCertain (entries lines) (is_open_in open_ranges) certain → us ≡ certain → AreCertainIn lines us
certain_are lines open_ranges certain us told is =
    (λ p. subst (IsListOf (IsCertainUid (entries lines))) (sym is) (log_facts (entries lines) (is_open_in open_ranges) certain told).must, λ never. absurd (never told.possible))

pub certain_list : (lines : List LogLine) (open_ranges : List (ℕ × ℕ)) (certain : List ℕ) → AreOpenAndCertain (entries lines) (is_open_in open_ranges) certain → IsListOf (IsCertainUid (entries lines)) certain
certain_list lines open_ranges certain told = (log_facts (entries lines) (is_open_in open_ranges) certain told).must

pub masks_are : (lines : List LogLine) (open_ranges : List (ℕ × ℕ)) (certain keys : List ℕ) (ms : List BitMask) → AreOpenAndCertain (entries lines) (is_open_in open_ranges) certain → AreKeysOf keys certain → AreAll (IsOpenMask (without_keys (is_open_in open_ranges) keys)) ms → AreOpenIn lines ms
masks_are lines open_ranges certain keys ms told own all = (
  λ p. record {
    set = without_keys (is_open_in open_ranges) keys;
    uids = open_set (entries lines) (is_open_in open_ranges) certain keys (log_facts (entries lines) (is_open_in open_ranges) certain told) own.members;
    all = all;
  },
  λ never. absurd (never told.possible),
)
