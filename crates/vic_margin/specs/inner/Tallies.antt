-- What a tally knows of the parts of a log.
use Rattle.std.specs.Prelude.{◌≡◌, ℕ, ◌+◌, ◌<◌, ◌≤◌, Bool, true, false, List, length, slice_index}
use Rattle.vic_frame.specs.LowBitsFirst.{mirror}
use Rattle.vic_frame.specs.Uids.{IsUid}
use Rattle.vic_log.specs.declared.entry.Entry.{Entry}
use Rattle.vic_log.specs.Quiet.{is_quiet}
use Rattle.vic_walk.specs.declared.steps.Span.{Span}
use Rattle.vic_walk.specs.Borders.{IsPartOf, part_count}
use Rattle.vic_walk.specs.Marked.{is_marked}
use Rattle.vic_margin.specs.declared.tally.Tally.{Tally}
use Rattle.vic_margin.specs.UidMargins.{margin_before, margin_of, one_if}
use Rattle.vic_margin.specs.inner.Counts.{count_at}
use Rattle.vic_margin.specs.inner.Trees.{within}

-- before position i, what the tally says of a part is so of a UID in it
pub record IsTallyOf (es : List Entry) (i u p : ℕ) (t : Tally) : Type 0 where
  pub quiet : is_marked t.quiet p ≡ is_quiet es i u
  pub ready : is_quiet es i u ≡ false
      → count_at t.counts p ≡ margin_before es i u + slice_index t.rest.items p
  pub kept : is_quiet es i u ≡ true → slice_index t.rest.items p ≡ margin_before es i u

-- the tally is before position i
pub record IsTallyAt (bs : List ℕ) (es : List Entry) (i : ℕ) (t : Tally) : Type 0 where
  pub room : length t.rest.items ≡ part_count bs
  pub few : t.counts.raised ≤ i
  pub known : (u p : ℕ) → IsUid u → IsPartOf bs (mirror u) p → IsTallyOf es i u p t

-- of the parts for which a test holds, the rest is now what was left of their counts
pub record IsTurned (which : ℕ → Bool) (old new : Tally) : Type 0 where
  pub turned : (p : ℕ) → p < length old.rest.items → which p ≡ true
      → slice_index new.rest.items p + slice_index old.rest.items p ≡ count_at old.counts p
  pub same : (p : ℕ) → which p ≡ false
      → slice_index new.rest.items p ≡ slice_index old.rest.items p
  pub counts : new.counts ≡ old.counts
  pub size : length new.rest.items ≡ length old.rest.items

-- one more is counted in the parts of a span, and of those for which a test holds taken back
pub record IsCounted (s : Span) (back : ℕ → Bool) (old new : Tally) : Type 0 where
  pub counts : (p : ℕ) → p < old.counts.leaves
      → count_at new.counts p ≡ count_at old.counts p + one_if (within s.from s.to p)
  pub rest : (p : ℕ) → slice_index new.rest.items p
      ≡ slice_index old.rest.items p + one_if (back p)
  pub quiet : new.quiet ≡ old.quiet
  pub leaves : new.counts.leaves ≡ old.counts.leaves
  pub raised : new.counts.raised ≡ old.counts.raised + 1
  pub size : length new.rest.items ≡ length old.rest.items

-- the margin of the UIDs of each part
pub record AreMargins (bs : List ℕ) (es : List Entry) (margins : List ℕ) : Type 0 where
  pub room : length margins ≡ part_count bs
  pub margin : (u p : ℕ) → IsUid u → IsPartOf bs (mirror u) p
      → slice_index margins p ≡ margin_of es u
