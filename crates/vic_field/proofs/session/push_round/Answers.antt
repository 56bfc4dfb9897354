use Rattle.vic_field.proofs.Words.{◌≡◌, ◌<◌, ◌++◌, [], ◌∷◌, Some, refl, sym, ap, ◌∙◌, add-one, append_assoc, arith, slot_count, mask_in, Entry, Sent, last_from, LogValue, entries, BitMask, IsValidEntry, slots_opened, slot_line, slot_lines_to, with_entries, heard, ready_in}
use Rattle.vic_field.proofs.Numbering.{entries-with, last_from-with, with-append}
use Rattle.vic_field.proofs.Rounds.{IsOpen, IsOpen-sent, IsOpen-slots, IsOpen-follows, slot_lines_to-length, slot_line-is_slot}
use Rattle.vic_field.specs.declared.outcome.Outcome.{Outcome}
use Rattle.vic_field.specs.declared.outcome.Outcome.TheVariants.{Lone, Several, Silent}
use Rattle.vic_log.specs.FirstVersion.{IsOfFirstVersion}
use Rattle.vic_log.specs.SecondVersion.{IsOfSecondVersion}
use Rattle.vic_field.proofs.session.push_round.Goals as goal

-- slot lines of what is heard are lines of each version
in_each_version : (o : Outcome) → IsValidEntry (slot_line o) × IsOfFirstVersion (slot_line o) × IsOfSecondVersion (slot_line o) × (slots_opened (Some (slot_line o)) ≡ 0)
in_each_version Silent = (tt, tt, tt, refl)
in_each_version (Lone u) = (tt, tt, tt, refl)
in_each_version Several = (tt, tt, tt, refl)

pub push_next-requires-in-loop-k : goal.push_next-requires-in-loop-k
push_next-requires-in-loop-k c =
    let q = c.args.request.now in
    let tags = c.args.field.now in
    let k = c.loop-k.k in
    let before = entries c.args.filled.now.lines in
    let told = slot_lines_to tags q k in
    let open_now : IsOpen ((before ++ Sent q ∷ []) ++ told) q k = IsOpen-slots (before ++ Sent q ∷ []) q tags k (IsOpen-sent before q) in
    let all : entries c.loop-k.filled.lines ≡ (before ++ Sent q ∷ []) ++ told = ap (λ (v : LogValue). entries v.lines) c.loop-k.invariant.filled ∙ entries-with c.args.filled.now (Sent q ∷ told) ∙ sym (append_assoc before (Sent q ∷ []) told) in
    let more : k < slot_count q = let e = c.slots-k-end.ensures in let b = c.loop-k-test.true in omega arith in
    let long = slot_lines_to-length tags q k in
    let last = ap (λ (v : LogValue). last_from 1 v.lines) c.loop-k.invariant.filled ∙ last_from-with c.args.filled.now (Sent q ∷ told) in
    let room = c.requires.room in
    let fits = in_each_version c.answer.result in
    rw c.slot_line.ensures (record {
      follows = rw all (IsOpen-follows _ q k (slot_line c.answer.result) open_now more (slot_line-is_slot c.answer.result));
      valid = fits.0;
      first_version = λ _. fits.1;
      second_version = λ _. fits.2;
      room = let none = fits.3 in omega (arith, none);
    })

pub loop-k-preserved : goal.loop-k-preserved
loop-k-preserved c =
    let log = c.args.filled.now in
    let q = c.args.request.now in
    let tags = c.args.field.now in
    let k = c.loop-k.k in
    let mask : c.in-Some.mask ≡ mask_in q k = (c.in-Some.ensures.mask).1 in
    let line : c.slot_line.result ≡ slot_line (heard (ready_in (mask_in q k) tags)) = c.slot_line.ensures ∙ ap slot_line (c.answer.ensures.heard ∙ ap (λ (m : BitMask). heard (ready_in m tags)) mask) in
    rw add-one record {
      filled =
          c.in_ok-push_next-2.ensures.added
          ∙ ap (λ (e : Entry). with_entries c.loop-k.filled (e ∷ [])) line
          ∙ ap (λ (v : LogValue). with_entries v (slot_line (heard (ready_in (mask_in q k) tags)) ∷ [])) c.loop-k.invariant.filled
          ∙ with-append log (Sent q ∷ slot_lines_to tags q k) (slot_line (heard (ready_in (mask_in q k) tags)) ∷ []);
      population = λ h. c.answer.ensures.population;
    }
