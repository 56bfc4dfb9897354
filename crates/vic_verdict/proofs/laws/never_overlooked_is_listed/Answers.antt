use Rattle.vic_verdict.proofs.Words.{◌≡◌, ℕ, List, true, has, entries, listed, Entry, IsUid, IsWhole}
use Rattle.vic_log.specs.Overlooked.{IsNeverOverlooked}
use Rattle.vic_log.proofs.Overlooked.{never_overlooked}
use Rattle.vic_verdict.proofs.Decide.{IsPossibleUid-iff}
use Rattle.vic_verdict.proofs.Verdicts.{complete_whole}
use Rattle.vic_verdict.proofs.laws.never_overlooked_is_listed.Goals as goal

listed_in_whole : (es : List Entry) (u : ℕ) → IsWhole es → IsUid u → IsNeverOverlooked es u → has (listed es) u ≡ true
listed_in_whole es u whole is never =
    let may = (IsPossibleUid-iff es u whole.0).1 ((never_overlooked es u is).0 never) in
    (whole.1 may.0 may.1 may.2 u).0 may.3

pub returns : goal.returns
returns c = record {
  complete = λ lines count u verdict. listed_in_whole (entries lines) u (complete_whole lines count verdict);
  whole = listed_in_whole;
}
