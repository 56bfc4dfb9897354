-- What a reading tells, from what the calls returned.
use Rattle.std.proofs.Common.{◌≡◌, ◌↔◌, ◌∙◌, ℕ, Bool, true, false, not, ◌&&◌, List, Option, Some, None, refl, sym}
use Rattle.std.specs.Prelude.{MatchOption}
use Rattle.std.proofs.lemmas.Bool.{and_parts, false_from_ne_true}
use Rattle.vic_frame.specs.Uids.{IsUid}
use Rattle.vic_log.proofs.Sets.{IsUid-member}
use Rattle.vic_log.specs.Order.{entries}
use Rattle.vic_log.specs.declared.entry.Entry.{Entry}
use Rattle.vic_log.specs.declared.entry.LogLine.{LogLine}
use Rattle.vic_tree.specs.OpenSet.{SameUids, has_key, without_keys}
use Rattle.vic_tree.specs.Ranges.{is_open_in}
use Rattle.vic_verdict.proofs.Decide.{IsPossibleUid-iff}
use Rattle.vic_verdict.specs.Facts.{AreOpenAndCertain}
use Rattle.vic_verdict.specs.Possible.{IsCertainUid, IsPossible, IsPossibleUid}
use Rattle.vic_object.specs.inner.Certain.{AreCertainKeys}

-- ---- whether a reading settles a field

not_both : (b : Bool) → b ≡ true → not b ≡ true → ⊥
not_both true h k = absurd (cc k)
not_both false h k = absurd (cc h)

key_there : (a b : Bool) → (a && not b) ≡ false → a ≡ true → b ≡ true
key_there true true h k = refl
key_there true false h k = absurd (cc h)
key_there false b h k = absurd (cc k)

pub settled_made : (lines : List LogLine) (ds : List Entry) (rs : List (ℕ × ℕ)) (own : List ℕ) (certain : Option (List ℕ)) (b : Bool) → AreOpenAndCertain ds (is_open_in rs) own → AreCertainKeys lines certain
    → MatchOption certain (b ≡ true) (λ keys. (b ≡ true) ↔ SameUids (without_keys (is_open_in rs) keys) (λ _. false))
    → (b ≡ true) ↔ ((u : ℕ) → IsPossibleUid ds u → IsCertainUid (entries lines) u)
settled_made lines ds rs own None b told never h = (λ _ u may p is gives. absurd (never (p, is, gives)), λ _. h)
settled_made lines ds rs own (Some keys) b told k h = (
  λ e u may.
      let there = (IsPossibleUid-iff ds u told.possible).0 may in
      let i : IsUid u = IsUid-member may.0 u may.1 may.3 in
      let key : has_key keys u ≡ true = key_there (is_open_in rs u) (has_key keys u) (h.0 e u i) (told.uids_open u i ∙ there) in
      (k.1.members u).0 (sym (k.2.members u i) ∙ key),
  λ all. h.1 (λ u i. false_from_ne_true (is_open_in rs u && not (has_key keys u)) (λ t.
      let p = and_parts (is_open_in rs u) (not (has_key keys u)) t in
      let may = (IsPossibleUid-iff ds u told.possible).1 (sym (told.uids_open u i) ∙ p.0) in
      not_both (has_key keys u) (k.2.members u i ∙ (k.1.members u).1 (all u may)) p.1)),
)

pub never_settled : (lines : List LogLine) (ds : List Entry) → (IsPossible ds → ⊥) → (true ≡ true) ↔ ((u : ℕ) → IsPossibleUid ds u → IsCertainUid (entries lines) u)
never_settled lines ds never = (λ _ u may. absurd (never (may.0, may.1, may.2)), λ _. refl)
