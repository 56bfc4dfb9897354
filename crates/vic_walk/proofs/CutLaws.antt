-- Where the borders stand that a log needs, and the parts between them.
use Rattle.std.proofs.Common.{◌≡◌, ℕ, ◌+◌, ◌-◌, ◌<◌, ◌≤◌, ◌++◌, ◌∷◌, [], true, List, Option, Some, None, length, refl, sym, ap, subst, ◌∙◌, arith, ⊎_elim, slice_get, slice_index}
use Rattle.std.proofs.lemmas.Bool.{cases_lt, false≢true, or_left, or_right}
use Rattle.std.proofs.lemmas.Bool.Decides.{nat_tests}
use Rattle.std.proofs.lemmas.List.{get_or-set_other, get_or-set_same, get_or_default, length-append}
use Rattle.std.proofs.Math.ListN.{get_or, length-set, set}
use Rattle.std.proofs.lemmas.Nat.{pow_pos}
use Rattle.std.proofs.lemmas.Option.{get_or_from_slice_get, slice_get-get_or, slice_get_read, slice_get_within}
use Rattle.vic_frame.proofs.MirrorLaws.{mirror_below, uid_of_mirror}
use Rattle.vic_frame.specs.Uids.{IsUid}
use Rattle.vic_frame.specs.KeyBlocks.{is_in_some_block}
use Rattle.vic_frame.specs.LowBitsFirst.{mirror, uid_of}
use Rattle.vic_frame.specs.Replies.{Reply}
use Rattle.vic_frame.specs.declared.low_bits_first.KeyBlock.{KeyBlock}
use Rattle.vic_frame.specs.declared.request.Request.TheVariants.{StayQuiet}
use Rattle.vic_log.proofs.Places.{slice_get-append, slice_get_seam}
use Rattle.vic_log.specs.Rounds.{is_slot}
use Rattle.vic_log.specs.Slots.{hears}
use Rattle.vic_log.specs.declared.entry.Entry.{Entry}
use Rattle.vic_log.specs.declared.entry.Entry.TheVariants.{Captured, Heard, Sent}
use Rattle.vic_walk.proofs.Entries.{eqb-same}
use Rattle.vic_walk.proofs.ListLaws.{named_past}
use Rattle.vic_walk.proofs.PartLaws.{alike_in_block, below, from_border, own_part, stands_in}
use Rattle.vic_walk.specs.Borders.{AreBorders, IsPartOf, part_count}
use Rattle.vic_walk.specs.Cuts.{AreCut, names}
use Rattle.vic_walk.specs.Listing.{IsListFrom}
use Rattle.vic_walk.specs.Steps.{AreLogParts, IsEntryAt, IsStepAt, is_within, span_of}
use Rattle.vic_walk.specs.declared.log_parts.LogParts.{LogParts}
use Rattle.vic_walk.specs.declared.steps.Step.{Step}
use Rattle.vic_walk.specs.inner.Gathered.{AreMoved, ArePlaced, HasAll, HasBlockAt, HasKeyAt, HasMaskAt, HasUidAt, IsPlaced}

-- ---- borders that are moved

block_moved : (old new : List ℕ) (f : ℕ → ℕ) (b : Option KeyBlock) (from to : ℕ) → AreMoved old new f → HasBlockAt old b from to → HasBlockAt new b (f from) (f to)
block_moved old new f (Some b) from to moved has = (moved _ _ has.0, moved _ _ has.1)
block_moved old new f None from to moved has = ap f has

pub mask_moved : (es : List Entry) (i : ℕ) (old new : List ℕ) (f : ℕ → ℕ) (from to : ℕ) → AreMoved old new f → HasMaskAt es i old from to → HasMaskAt es i new (f from) (f to)
mask_moved es i old new f from to moved has = (has.0, block_moved old new f has.0 from to moved has.1, has.2)

pub uid_moved : (old new : List ℕ) (f : ℕ → ℕ) (u place : ℕ) → AreMoved old new f → HasUidAt old u place → HasUidAt new u (f place)
uid_moved old new f u place moved has = (moved _ _ has.0, (f has.1.0, moved _ _ has.1.1))

pub uid_is_key : (bs : List ℕ) (u place : ℕ) → HasUidAt bs u place → HasKeyAt bs place
uid_is_key bs u place has = (mirror u, mirror_below 56 u, has.0)

-- the places of a step are moved
pub record IsMoved (f : ℕ → ℕ) (s t : Step) : Type 0 where
  pub from : t.from ≡ f s.from
  pub to : t.to ≡ f s.to
  pub own : t.own ≡ f s.own

pub placed_moved : (es : List Entry) (old new : List ℕ) (i : ℕ) (f : ℕ → ℕ) (s t : Step) → AreMoved old new f → IsMoved f s t → IsPlaced es old i s → IsPlaced es new i t
placed_moved es old new i f s t moved is h = record {
  to = (h.to.0, rw is.to (moved _ _ h.to.1));
  own = (h.own.0, h.own.1, rw is.own (moved _ _ h.own.2));
  mask = λ e at slot. rw (is.from, is.to) (mask_moved es i old new f s.from s.to moved (h.mask e at slot));
  named = λ u is_uid name. rw is.own (uid_moved old new f u s.own moved (h.named u is_uid name));
  heard = h.heard;
}

-- the step at a position
abbrev pub step_in : List Step → ℕ → Step
step_in ss i = get_or ss i (record { from = 0; to = 0; own = 0 })

-- the first n steps are moved, and the others aren't
pub record AreMovedTo (f : ℕ → ℕ) (old : List Step) (n : ℕ) (new : List Step) : Type 0 where
  pub size : length new ≡ length old
  pub moved : (i : ℕ) → i < n → IsMoved f (step_in old i) (step_in new i)
  pub kept : (i : ℕ) → n ≤ i → step_in new i ≡ step_in old i

pub moved_next : (f : ℕ → ℕ) (old now : List Step) (n : ℕ) (r s : Step) → n < length now → r ≡ get_or now n r → IsMoved f r s → AreMovedTo f old n now → AreMovedTo f old (n + 1) (set now n s)
moved_next f old now n r s within read is h =
    let same : r ≡ step_in old n = read ∙ get_or_default now n r _ within ∙ h.kept n (omega arith) in
    record {
      size = length-set now n s ∙ h.size;
      moved = λ i lt. ⊎_elim
          (λ (before : i < n). rw (get_or-set_other now n i s (record { from = 0; to = 0; own = 0 }) (λ e. absurd (omega (arith, before, e)))) (h.moved i before))
          (λ (here : n ≤ i). let at : i ≡ n = omega (arith, lt, here) in rw (at, get_or-set_same now n s (record { from = 0; to = 0; own = 0 }) within, ← same) is)
          (cases_lt i n);
      kept = λ i past. get_or-set_other now n i s _ (λ e. absurd (omega (arith, past, e))) ∙ h.kept i (omega (arith, past));
    }

pub all_moved : (es : List Entry) (bs cs : List ℕ) (f : ℕ → ℕ) (old new : List Step) (n : ℕ) → AreMoved bs cs f → length old ≤ n → AreMovedTo f old n new → ArePlaced es bs old → ArePlaced es cs new
all_moved es bs cs f old new n moved all h placed i t at =
    let within : i < length old = let w = slice_get_within new i t at in let size = h.size in omega (arith, w, size) in
    let is : step_in new i ≡ t = get_or_from_slice_get new i t _ at in
    placed_moved es bs cs i f (step_in old i) t moved (rw is at (h.moved i (omega (arith, within, all)))) (placed i _ (slice_get-get_or old i _ within))

pub placed_kept : (es : List Entry) (old new : List ℕ) (i : ℕ) (s : Step) → HasAll old new → IsPlaced es old i s → IsPlaced es new i s
placed_kept es old new i s more h = placed_moved es old new i (λ p. p) s s more (record { from = refl; to = refl; own = refl }) h

pub more_again : (old mid new : List ℕ) → HasAll old mid → HasAll mid new → HasAll old new
more_again old mid new first then_ = λ b place at. then_ b place (first b place at)

-- one more entry
pub placed_here : (es : List Entry) (i : ℕ) (e : Entry) (mid new : List ℕ) (s : Step) → slice_get es i ≡ Some e → s.to < length mid → (is_slot e ≡ true → HasMaskAt es i mid s.from s.to) → HasAll mid new → HasKeyAt new s.own → ((u : ℕ) → IsUid u → names (Some e) u ≡ true → HasUidAt new u s.own) → ((u : ℕ) → hears (Some e) u ≡ true → IsUid u) → IsPlaced es new i s
placed_here es i e mid new s here to mask more own named heard = record {
  to = (slice_index mid s.to, more _ _ (record { within = to; here = refl }));
  own = own;
  mask = λ f at slot. let same : f ≡ e = cc in mask_moved es i mid new (λ p. p) s.from s.to more (mask (rw same at slot));
  named = λ u is name. named u is (subst (λ (o : Option Entry). names o u ≡ true) here name);
  heard = λ u it. heard u (subst (λ (o : Option Entry). hears o u ≡ true) here it);
}

pub placed_none : (es : List Entry) (bs : List ℕ) → ArePlaced es bs []
placed_none es bs i s at = absurd (let within = slice_get_within [] i s at in omega (arith, within))

pub placed_more : (es : List Entry) (old new : List ℕ) (ss : List Step) (s : Step) → HasAll old new → ArePlaced es old ss → IsPlaced es new (length ss) s → ArePlaced es new (ss ++ s ∷ [])
placed_more es old new ss s more before here i t at = ⊎_elim
    (λ (earlier : i < length ss). placed_kept es old new i t more (before i t (slice_get-append ss (s ∷ []) i earlier ∙ at)))
    (λ (last : length ss ≤ i).
    let within = slice_get_within (ss ++ s ∷ []) i t at in
    let same : i ≡ length ss = omega (arith, last, within, length-append ss (s ∷ [])) in
    let is : t ≡ s = let seam = slice_get_seam ss s [] in let now = rw same at at in cc in
    rw (same, is) here)
    (cases_lt i (length ss))

-- ---- steps

block_span : (bs : List ℕ) (b : Option KeyBlock) (k p : ℕ) (s : Step) → AreBorders bs → (s.to < length bs) → HasBlockAt bs b s.from s.to → IsPartOf bs k p → is_in_some_block b k ≡ is_within (span_of s) p
block_span bs (Some b) k p s borders within has own =
    let low = from_border bs k p s.from borders has.0.within own in
    let high = from_border bs k p s.to borders has.1.within own in
    let from = has.0.here in
    let to = has.1.here in
    let some = pow_pos (56 - b.len) in
    grind (arith, nat_tests, low, high, from, to, some)
block_span bs None k p s borders within has own = grind (arith, nat_tests, has)

pub step_at : (bs : List ℕ) (es : List Entry) (i : ℕ) (s : Step) → AreBorders bs → IsPlaced es bs i s → IsStepAt bs es i s
step_at bs es i s borders h =
    let to = h.to.1 in
    let own = h.own.2 in
    let end = borders.last in
    let short : s.own < part_count bs = ⊎_elim
    (λ (lt : s.own < part_count bs). lt)
    (λ (ge : part_count bs ≤ s.own).
    let within = own.within in
    let same : s.own ≡ length bs - 1 = omega (arith, ge, within) in
    let at = own.here in
    let key = h.own.1 in
    absurd (let last = rw (← same) at end in omega (arith, last, at, key)))
    (cases_lt s.own (part_count bs)) in
    record {
      below = record { to = let within = to.within in omega (arith, within); own = short };
      slot = λ e here slot u p is at.
          let m = h.mask e here slot in
          sym (m.2 u is) ∙ block_span bs m.0 (mirror u) p s borders to.within m.1 at;
      heard = h.heard;
      named = λ u is name.
          let it = (h.named u is name).0 in
          let at = it.here in
          let rise = below bs s.own (s.own + 1) borders.rising (omega arith) (omega (arith, short)) in
          record { within = short; from = omega (arith, at); before = omega (arith, at, rise) };
    }

-- ---- parts that the log treats alike

alike : (bs : List ℕ) (b : Option KeyBlock) (from to k l p : ℕ) → AreBorders bs → HasBlockAt bs b from to → IsPartOf bs k p → IsPartOf bs l p → is_in_some_block b k ≡ is_in_some_block b l
alike bs (Some b) from to k l p borders has one other = alike_in_block bs b.first b.len k l p borders (stands_in bs _ _ has.0) (stands_in bs _ _ has.1) one other
alike bs None from to k l p borders has one other = refl

-- before the list each entry has its step, and from there on none needs one
pub are_cut : (bs : List ℕ) (es : List Entry) (ss : List Step) → AreBorders bs → IsListFrom es (length ss) → ArePlaced es bs ss → AreCut bs es
are_cut bs es ss borders list placed = record {
  masks = λ i u v e at slot both. ⊎_elim
      (λ (before : i < length ss).
      let m = (placed i _ (slice_get-get_or ss i (record { from = 0; to = 0; own = 0 }) before)).mask e at slot in
      sym (m.2 u both.first) ∙ alike bs m.0 _ _ (mirror u) (mirror v) both.part.0 borders m.1 both.part.1 both.part.2 ∙ m.2 v both.second)
      (λ (past : length ss ≤ i). absurd (let l = list i e past at in false≢true (rw l.1 at slot)))
      (cases_lt i (length ss));
  named = λ i u v name both. ⊎_elim
      (λ (before : i < length ss).
      let own = (placed i _ (slice_get-get_or ss i (record { from = 0; to = 0; own = 0 }) before)).named u both.first name in
      let same = own_part bs (mirror u) (mirror v) both.part.0 borders (stands_in bs _ _ own.0) (stands_in bs _ _ own.1.1) both.part.1 both.part.2 in
      sym (uid_of_mirror u both.first) ∙ ap uid_of (sym same) ∙ uid_of_mirror v both.second)
      (λ (past : length ss ≤ i). absurd (false≢true (sym (named_past es (length ss) i u list past) ∙ name)))
      (cases_lt i (length ss));
}

pub log_parts : (es : List Entry) (c : LogParts) → AreBorders c.parts → IsListFrom es (length c.steps.items) → length c.steps.items ≤ length es → ArePlaced es c.parts c.steps.items → AreLogParts es c
log_parts es c borders list within placed = record {
  borders = borders;
  cut = are_cut c.parts es c.steps.items borders list placed;
  within = within;
  list = list;
  steps = λ i s at. step_at c.parts es i s borders (placed i s at);
}

-- ---- the part of the UID that an entry names

hears_own : (bs : List ℕ) (es : List Entry) (i u : ℕ) (s : Step) → IsStepAt bs es i s → hears (slice_get es i) u ≡ true → IsUid u × IsPartOf bs (mirror u) s.own
hears_own bs es i u s step it = let is = step.heard u it in (is, step.named u is (or_right _ _ it))

pub heard_own : (bs : List ℕ) (es : List Entry) (i : ℕ) (r : Reply) (s : Step) → IsStepAt bs es i s → slice_get es i ≡ Some (Heard r) → IsUid r.uid × IsPartOf bs (mirror r.uid) s.own
heard_own bs es i r s step k = hears_own bs es i r.uid s step (rw k (eqb-same r.uid))

pub captured_own : (bs : List ℕ) (es : List Entry) (i : ℕ) (r : Reply) (s : Step) → IsStepAt bs es i s → slice_get es i ≡ Some (Captured r) → IsUid r.uid × IsPartOf bs (mirror r.uid) s.own
captured_own bs es i r s step k = hears_own bs es i r.uid s step (rw k (eqb-same r.uid))

pub silenced_own : (bs : List ℕ) (es : List Entry) (i link v : ℕ) (s : Step) → IsStepAt bs es i s → slice_get es i ≡ Some (Sent (StayQuiet link v)) → IsUid v → IsPartOf bs (mirror v) s.own
silenced_own bs es i link v s step k is = step.named v is (rw k (or_left _ _ (eqb-same v)))

-- ---- a place of a log

pub place_at : (es : List Entry) (c : LogParts) (i : ℕ) (e : Entry) (s : Step) → AreLogParts es c → slice_get es i ≡ Some e → i < length c.steps.items → s ≡ get_or c.steps.items i s → IsEntryAt c.parts es i e s
place_at es c i e s cut here within read = record {
  here = here;
  borders = cut.borders;
  cut = cut.cut;
  step = cut.steps i s (slice_get_read c.steps.items (length c.steps.items) i s refl within read);
}
