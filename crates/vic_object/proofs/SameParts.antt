-- The parts of entries are also those of their cautious readings.
use Rattle.std.proofs.Common.{◌≡◌, ℕ, zero, suc, ◌-◌, ◌==◌, Bool, true, false, List, [], ◌∷◌, Option, Some, None, refl, sym, ap, subst, ◌∙◌, arith, if◌then◌else◌, option_map, slice_get, drop}
use Rattle.std.proofs.lemmas.Bool.Decides.{nat_tests}
use Rattle.std.proofs.lemmas.Option.{slice_get-map}
use Rattle.vic_log.proofs.Cautious.{deaf_weaker_self, hidden_weaker}
use Rattle.vic_log.proofs.Weaker.{SameOrSlots, at_each, weaker_opener}
use Rattle.vic_log.specs.Deaf.{answers, captured, deaf_entries, deaf_entry, hidden_entries}
use Rattle.vic_log.specs.Rounds.{is_slot, mask_at, mask_of_slot, mask_since, opener}
use Rattle.vic_log.specs.Slots.{hears}
use Rattle.vic_log.specs.Weaker.{AreWeaker}
use Rattle.vic_log.specs.declared.entry.Entry.{Entry}
use Rattle.vic_log.specs.declared.entry.Entry.TheVariants.{Captured, Collision, FieldCycle, Garbled, Heard, Listed, Sent, Silent, Unknown}
use Rattle.vic_walk.specs.Cuts.{names}
use Rattle.vic_walk.specs.Listing.{IsListing}
use Rattle.vic_walk.specs.Steps.{AreLogParts}
use Rattle.vic_walk.specs.declared.log_parts.LogParts.{LogParts}

-- ---- one entry

-- it names the same UIDs as the other, is a slot line if that is one, and lists a UID if that does
record IsLike (d e : Entry) : Type 0 where
  slot : is_slot d ≡ is_slot e
  named : (u : ℕ) → names (Some d) u ≡ names (Some e) u
  heard : (u : ℕ) → hears (Some d) u ≡ hears (Some e) u
  listing : IsListing e → IsListing d

like_same : (e : Entry) → IsLike e e
like_same e = record { slot = refl; named = λ u. refl; heard = λ u. refl; listing = λ l. l }

like_captured : (e : Entry) → IsLike (captured e) e
like_captured (Heard r) = record { slot = refl; named = λ u. refl; heard = λ u. refl; listing = λ l. absurd (cc l.1) }
like_captured (Captured r) = like_same (Captured r)
like_captured (Sent q) = like_same (Sent q)
like_captured (Listed u) = like_same (Listed u)
like_captured Silent = like_same Silent
like_captured Collision = like_same Collision
like_captured Garbled = like_same Garbled
like_captured Unknown = like_same Unknown
like_captured FieldCycle = like_same FieldCycle

like_silence : (b : Bool) → IsLike (if b then Unknown else Silent) Silent
like_silence true = record { slot = refl; named = λ u. refl; heard = λ u. refl; listing = λ l. absurd (cc l.1) }
like_silence false = like_same Silent

like_deaf : (e : Entry) (n : ℕ) → IsLike (deaf_entry e n) e
like_deaf Silent n = like_silence (n == 0)
like_deaf (Heard r) n = like_captured (Heard r)
like_deaf (Captured r) n = like_same (Captured r)
like_deaf (Sent q) n = like_same (Sent q)
like_deaf (Listed u) n = like_same (Listed u)
like_deaf Collision n = like_same Collision
like_deaf Garbled n = like_same Garbled
like_deaf Unknown n = like_same Unknown
like_deaf FieldCycle n = like_same FieldCycle

-- ---- at a position

named_at : (f : Entry → Entry) (o : Option Entry) (u : ℕ) → ((e : Entry) → IsLike (f e) e) → names (option_map f o) u ≡ names o u
named_at f (Some e) u like = (like e).named u
named_at f None u like = refl

heard_at : (f : Entry → Entry) (o : Option Entry) (u : ℕ) → ((e : Entry) → IsLike (f e) e) → hears (option_map f o) u ≡ hears o u
heard_at f (Some e) u like = (like e).heard u
heard_at f None u like = refl

-- what was there
entry_at : (f : Entry → Entry) (o : Option Entry) (d : Entry) → option_map f o ≡ Some d → (e : Entry) × (o ≡ Some e) × (f e ≡ d)
entry_at f (Some e) d k = (e, refl, cc)
entry_at f None d k = absurd (cc k)

hidden_option : (es : List Entry) (i : ℕ) → slice_get (hidden_entries es) i ≡ option_map captured (slice_get es i)
hidden_option es i = slice_get-map captured es i

deaf_option : (es : List Entry) (i : ℕ) → slice_get (deaf_entries es) i ≡ option_map (λ e. deaf_entry e (answers (drop (suc i) es))) (slice_get es i)
deaf_option [] i = refl
deaf_option (e ∷ es) zero = refl
deaf_option (e ∷ es) (suc i) = deaf_option es i

-- ---- masks

same_masks : (o p : Option Entry) (k : ℕ) → SameOrSlots o p → mask_of_slot o k ≡ mask_of_slot p k
same_masks o p k s = grind (arith, nat_tests)

same_since : (ds es : List Entry) (i : ℕ) (o : Option ℕ) → AreWeaker ds es → mask_since ds i o ≡ mask_since es i o
same_since ds es i (Some j) w = same_masks _ _ (i - suc j) (at_each ds es w j)
same_since ds es i None w = refl

mask_same : (ds es : List Entry) (i : ℕ) → AreWeaker ds es → mask_at ds i ≡ mask_at es i
mask_same ds es i w = ap (mask_since ds i) (weaker_opener ds es w i) ∙ same_since ds es i (opener es i) w

-- ---- the parts

parts_like : (ds es : List Entry) (f : ℕ → Entry → Entry) (c : LogParts) → AreWeaker ds es → ((i : ℕ) → slice_get ds i ≡ option_map (f i) (slice_get es i)) → ((i : ℕ) (e : Entry) → IsLike (f i e) e) → AreLogParts es c → AreLogParts ds c
parts_like ds es f c w at like h =
    let named : (i u : ℕ) → names (slice_get ds i) u ≡ names (slice_get es i) u = λ i u. ap (λ o. names o u) (at i) ∙ named_at (f i) (slice_get es i) u (like i) in
    let heard : (i u : ℕ) → hears (slice_get ds i) u ≡ hears (slice_get es i) u = λ i u. ap (λ o. hears o u) (at i) ∙ heard_at (f i) (slice_get es i) u (like i) in
    let there : (i : ℕ) (d : Entry) → slice_get ds i ≡ Some d → (e : Entry) × (slice_get es i ≡ Some e) × (f i e ≡ d) = λ i d k. entry_at (f i) (slice_get es i) d (sym (at i) ∙ k) in
    let slot : (i : ℕ) (d : Entry) (k : slice_get ds i ≡ Some d) → is_slot d ≡ true → is_slot (there i d k).0 ≡ true = λ i d k s. sym (like i (there i d k).0).slot ∙ (ap is_slot (there i d k).2 ∙ s) in
    record {
      borders = h.borders;
      cut = record {
        masks = λ i u v d k s together. rw (mask_same ds es i w) (h.cut.masks i u v (there i d k).0 (there i d k).1 (slot i d k s) together);
        named = λ i u v n together. h.cut.named i u v (sym (named i u) ∙ n) together;
      };
      within = rw w.as_many h.within;
      list = λ i d le k. subst IsListing (there i d k).2 ((like i (there i d k).0).listing (h.list i (there i d k).0 le (there i d k).1));
      steps = λ i s k.
          let old = h.steps i s k in
          record {
            below = old.below;
            slot = λ d l is u p uid of. rw (mask_same ds es i w) (old.slot (there i d l).0 (there i d l).1 (slot i d l is) u p uid of);
            named = λ u uid n. old.named u uid (sym (named i u) ∙ n);
            heard = λ u n. old.heard u (sym (heard i u) ∙ n);
          };
    }

pub parts_hidden : (es : List Entry) (c : LogParts) → AreLogParts es c → AreLogParts (hidden_entries es) c
parts_hidden es c = parts_like _ es (λ i. captured) c (hidden_weaker es) (hidden_option es) (λ i. like_captured)

pub parts_deaf : (es : List Entry) (c : LogParts) → AreLogParts es c → AreLogParts (deaf_entries es) c
parts_deaf es c = parts_like _ es (λ i e. deaf_entry e (answers (drop (suc i) es))) c (deaf_weaker_self es) (deaf_option es) (λ i e. like_deaf e (answers (drop (suc i) es)))
