use Rattle.vic_tree.proofs.Words.{◌∷◌, [], subst, sym, BitMask, IsAtMost, is_left}
use Rattle.vic_tree.proofs.BesidesLaws.{keys_open}
use Rattle.vic_tree.proofs.StretchLaws.{no_mask, stays_in}
use Rattle.vic_tree.proofs.spaced_keys.stretch_of.Goals as goal
use Rattle.vic_tree.proofs.spaced_keys.stretch_of.Goals.{in-Some, in-None}

pub returns : goal.returns
returns c =
    let keys = c.args.keys.now in
    let r = c.args.range in
    let p = is_left (r ∷ []) keys in
    record {
      ends = c.requires;
      least = λ m f le.
          let pass = stays_in keys r m c.requires f le in
          elim c.match-widest_left.branch [
            | in-Some w ↦ subst (λ (x : BitMask). IsAtMost x m) (sym w.widest-is) ((rw c.as_slice.ensures.value at w.in-Some.ensures.found).least m f.is_mask f.short ((keys_open p m f.is_mask f.short).0 pass))
            | in-None w ↦ absurd (no_mask p m f.is_mask f.short pass (rw c.as_slice.ensures.value at w.in-None.ensures.none))
          ];
    }
