-- How a field keeps its tags: by the low bits of their UIDs, lowest first.
use Rattle.std.specs.Prelude.{◌≡◌, ℕ, Bool, List, ◌&&◌, nat_le, map}
use Rattle.std.specs.Ordering.{nat_cmp}
use Rattle.std.specs.List.{All, filter}
use Rattle.std.specs.List.Sorted.{IsStrictlySortedBy}
use Rattle.vic_frame.specs.LowBitsFirst.{IsKey, uid_of}

-- rising keys of 56 bits
pub record AreRisingKeys (ks : List ℕ) : Type 0 where
  pub small : All IsKey ks
  pub rising : IsStrictlySortedBy nat_cmp ks

-- entries by key as tags
abbrev pub tags_of : List (ℕ × Bool) → List (ℕ × Bool)
tags_of es = map (λ e. (uid_of e.0, e.1)) es

-- the Ready tags whose keys lie from a to b
abbrev pub ready_between : ℕ → ℕ → List (ℕ × Bool) → List ℕ
ready_between a b es =
    map (λ e. uid_of e.0) (filter (λ e. (nat_le a e.0 && nat_le e.0 b) && e.1) es)

-- the UIDs with these keys
abbrev pub uids_at : List ℕ → List ℕ
uids_at ks = map uid_of ks

-- the keys of these UIDs, in the order of the UIDs
pub record AreKeysOfEach (us ks : List ℕ) : Type 0 where
  pub uids : uids_at ks ≡ us
  pub small : All IsKey ks
