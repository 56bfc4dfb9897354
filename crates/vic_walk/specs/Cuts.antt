-- Which borders a log needs, so that it treats the UIDs of each part alike.
use Rattle.std.specs.Prelude.{◌≡◌, ℕ, Bool, true, ◌||◌, Option, Some, List, slice_get}
use Rattle.vic_frame.specs.Uids.{IsUid}
use Rattle.vic_frame.specs.LowBitsFirst.{mirror}
use Rattle.vic_log.specs.declared.entry.Entry.{Entry}
use Rattle.vic_log.specs.Rounds.{is_slot, mask_at, lies_in_some}
use Rattle.vic_log.specs.Quiet.{silences, is_quiet}
use Rattle.vic_log.specs.Slots.{hears, slots_before, is_open}
use Rattle.vic_walk.specs.Borders.{IsPartOf}

-- the entry names the UID: it silences it, or hears it
abbrev pub names : Option Entry → ℕ → Bool
names o u = silences o u || hears o u

-- two UIDs of one part
pub record AreTogether (bs : List ℕ) (u v : ℕ) : Type 0 where
  pub first : IsUid u
  pub second : IsUid v
  pub part : (p : ℕ) × IsPartOf bs (mirror u) p × IsPartOf bs (mirror v) p

-- the borders are cut for the entries: of each part a slot's mask has all UIDs or none, and a UID
-- that an entry names is alone in its part
pub record AreCut (bs : List ℕ) (es : List Entry) : Type 0 where
  pub masks : (i u v : ℕ) (e : Entry) → slice_get es i ≡ Some e → is_slot e ≡ true
      → AreTogether bs u v
      → lies_in_some (mask_at es i) u ≡ lies_in_some (mask_at es i) v
  pub named : (i u v : ℕ) → names (slice_get es i) u ≡ true → AreTogether bs u v → u ≡ v

-- before position i both UIDs are open or neither is, and both are Quiet or neither is
pub record AreAlikeAt (es : List Entry) (i u v : ℕ) : Type 0 where
  pub openness : is_open (slots_before es i) u ≡ is_open (slots_before es i) v
  pub quietness : is_quiet es i u ≡ is_quiet es i v
