-- What a log says of its field is what its facts say.
use Rattle.vic_survey.proofs.ValueWords.{All, Bool, List, None, Some, [], ap, arith, eq-eqb, ne_eqb, false, get_or, length, not, refl, subst, sym, true, ℕ, ◌&&◌, ◌++◌, ◌<◌, ◌+◌, ◌==◌, ◌∙◌, ◌∷◌, ◌≡◌, and_parts, BitMask, IsUid, is_uid, has}
use Rattle.std.proofs.Common.{◌↔◌, ⊎_elim}
use Rattle.std.specs.List.{Contains}
use Rattle.std.proofs.lemmas.List.Elements.{All-contains, All-push, Contains-get_or, Contains-push, Contains-push_cases}
use Rattle.std.proofs.lemmas.List.Quantifiers.{all_pairs_push}
use Rattle.std.proofs.lemmas.List.{length_push, get_or_append_left, get_or_default, get_or-take, length-take-le}
use Rattle.std.proofs.Common.{take, add-one}
use Rattle.std.specs.Prelude.{Result, Ok, Err, IfOk, IfSome, Option}
use Rattle.vic_verdict.specs.Rising.{IsListOf}
use Rattle.vic_margin.specs.Readings.{IsFirstOpened}
use Rattle.vic_survey.specs.Parts.{AreRisingMasks, IsShort}
use Rattle.std.proofs.Math.Seq.{take-suc}
use Rattle.vic_frame.specs.Masks.{lies_in}
use Rattle.vic_log.specs.declared.entry.Entry.{Entry}
use Rattle.vic_tree.specs.OpenMasks.{AreAll, ComesBefore, IsOpenMask}
use Rattle.vic_tree.specs.OpenSet.{without_keys}
use Rattle.vic_tree.specs.Ranges.{is_open_in}
use Rattle.vic_verdict.specs.Facts.{AreFactsOf}
use Rattle.vic_verdict.specs.Possible.{IsCertainUid}
use Rattle.vic_verdict.specs.declared.facts.Met.{Met}
use Rattle.vic_verdict.proofs.Decide.{IsCertainUid-iff, IsPossibleUid-iff}
use Rattle.vic_log.specs.Deaf.{answers, deaf_entries, hidden_entries}
use Rattle.vic_log.specs.Order.{entries}
use Rattle.vic_log.specs.declared.entry.LogLine.{LogLine}
use Rattle.vic_report.specs.Findings.{IsShownCertain, uids_of}
use Rattle.vic_margin.specs.Margins.{IsWeakestBesides}
use Rattle.vic_survey.proofs.ValueWords.{ShownUid}
use Rattle.vic_survey.specs.declared.survey.FieldFacts.{FieldFacts}
use Rattle.vic_survey.specs.Making.{AreOpenMasksOf, HasUncertain, AreFieldFactsOf, weakest_of}
use Rattle.vic_survey.specs.inner.Kept.{AreKeptOf}
use Rattle.vic_survey.proofs.Throughout.{has_other}

-- ---- the open masks

pub certain_told : (es : List Entry) (set : ℕ → Bool) (met : Met) (certain : List ℕ) → AreFactsOf es set met certain → (u : ℕ) → has certain u ≡ true → IsCertainUid es u
certain_told es set met certain f u h = (IsCertainUid-iff es u f.told.possible).1 ((f.told.forced.members u).0 h)

-- a certain UID is possible
certain_open : (es : List Entry) (ranges : List (ℕ × ℕ)) (met : Met) (certain : List ℕ) (u : ℕ) → AreFactsOf es (is_open_in ranges) met certain → IsUid u → has certain u ≡ true → without_keys (is_open_in ranges) [] u ≡ true
certain_open es ranges met certain u f i h =
    let p = f.told.possible in
    let there = (IsPossibleUid-iff es u p).0 (p.0, p.1, p.2, certain_told es (is_open_in ranges) met certain f u h p.0 p.1 p.2) in
    rw (f.told.uids_open u i ∙ there) refl

pub masks_of : (es : List Entry) (ranges : List (ℕ × ℕ)) (met : Met) (certain : List ℕ) (masks others ms : List BitMask) → AreFactsOf es (is_open_in ranges) met certain
    → AreAll (IsOpenMask (without_keys (is_open_in ranges) [])) masks → AreAll (IsOpenMask (has certain)) others → AreKeptOf (λ m. ¬ (Contains others m)) masks ms → AreOpenMasksOf es ms
masks_of es ranges met certain masks others ms f a b kept = record {
  set = set;
  uids = λ u i. (
    λ h. (IsPossibleUid-iff es u f.told.possible).1 (sym (f.told.uids_open u i) ∙ (and_parts (is_open_in ranges u) true h).0),
    λ p. rw (f.told.uids_open u i ∙ (IsPossibleUid-iff es u f.told.possible).0 p) refl,
  );
  all = record {
    rising = kept.rising;
    wanted = λ i d lt. one (get_or ms i d) (Contains-get_or ms i d lt);
    others = λ m w. (kept.members m).1 (
      a.others m w.0,
      λ c.
          let all = All-contains (IsOpenMask (has certain)) others m b.wanted c in
          let u = w.1.0 in
          w.1.3 (certain_told es (is_open_in ranges) met certain f u (all.open_throughout u w.1.1 w.1.2)),
    );
  };
} where
  set : ℕ → Bool
  set = without_keys (is_open_in ranges) []

  one : (m : BitMask) → Contains ms m → IsOpenMask set m × HasUncertain es m
  one m c =
      let t = (kept.members m).0 c in
      let is = All-contains (IsOpenMask set) masks m a.wanted t.0 in
      let w = has_other set (has certain) m (λ u i h. certain_open es ranges met certain u f i h) is (λ h. t.1 (b.others m h)) in
      (is, (w.0, w.1, w.2, λ h. absurd (cc ((f.told.forced.members w.0).1 ((IsCertainUid-iff es w.0 f.told.possible).0 h), w.3))))

-- ---- which masks are kept

contains_left : (xs : List BitMask) (y m : BitMask) → Contains xs m → Contains (xs ++ y ∷ []) m
contains_left xs y m c = (c.0, omega (arith, c.1, length_push xs y), get_or_append_left xs (y ∷ []) m c.0 c.1 ∙ c.2)

-- one more mask, which is kept
pub keeps_one : (P : BitMask → Type 0) (kept ms : List BitMask) (i : ℕ) (y : BitMask) → i < length ms → y ≡ get_or ms i y → P y
    → ((m : BitMask) → Contains kept m ↔ (Contains (take i ms) m × P m)) → (m : BitMask) → Contains (kept ++ y ∷ []) m ↔ (Contains (take (i + 1) ms) m × P m)
keeps_one P kept ms i y h is p w m =
    let next : take (i + 1) ms ≡ take i ms ++ y ∷ [] = rw add-one (take-suc ms i y h ∙ ap (λ x. take i ms ++ x ∷ []) (sym is)) in
    rw next (
      (λ c. ⊎_elim (λ old. let o = (w m).0 old in (contains_left (take i ms) y m o.0, o.1)) (λ e. (subst (Contains (take i ms ++ y ∷ [])) e (Contains-push (take i ms) y), subst P e p)) (Contains-push_cases kept y m c)),
      (λ c. ⊎_elim (λ old. contains_left kept y m ((w m).1 (old, c.1))) (λ e. subst (Contains (kept ++ y ∷ [])) e (Contains-push kept y)) (Contains-push_cases (take i ms) y m c.0)),
    )

-- one more mask, which isn't
pub keeps_none : (P : BitMask → Type 0) (kept ms : List BitMask) (i : ℕ) (y : BitMask) → i < length ms → y ≡ get_or ms i y → (P y → ⊥)
    → ((m : BitMask) → Contains kept m ↔ (Contains (take i ms) m × P m)) → (m : BitMask) → Contains kept m ↔ (Contains (take (i + 1) ms) m × P m)
keeps_none P kept ms i y h is none w m =
    let next : take (i + 1) ms ≡ take i ms ++ y ∷ [] = rw add-one (take-suc ms i y h ∙ ap (λ x. take i ms ++ x ∷ []) (sym is)) in
    rw next (
      (λ c. let o = (w m).0 c in (contains_left (take i ms) y m o.0, o.1)),
      (λ c. ⊎_elim (λ old. (w m).1 (old, c.1)) (λ e. absurd (none (subst P (sym e) c.1))) (Contains-push_cases (take i ms) y m c.0)),
    )

-- it comes behind those that are kept
pub keeps_order : (P : BitMask → Type 0) (kept ms : List BitMask) (i : ℕ) (y : BitMask) → AreRisingMasks ms → i < length ms → y ≡ get_or ms i y → AreRisingMasks kept
    → ((m : BitMask) → Contains kept m ↔ (Contains (take i ms) m × P m)) → AreRisingMasks (kept ++ y ∷ [])
keeps_order P kept ms i y o h is valid w = record {
  rising = all_pairs_push ComesBefore kept y valid.rising before;
  short = All-push IsShort kept y valid.short (subst IsShort (sym is) (o.short i y h));
} where
  before : (k : ℕ) (d : BitMask) → k < length kept → ComesBefore (get_or kept k d) y
  before k d lt =
      let x = get_or kept k d in
      let c = ((w x).0 (Contains-get_or kept k d lt)).0 in
      let few : c.0 < i = omega (arith, c.1, length-take-le i ms (omega (arith, h))) in
      let there : get_or ms c.0 x ≡ x = sym (get_or-take i ms c.0 x few) ∙ c.2 in
      let next : get_or ms i x ≡ y = get_or_default ms i x y h ∙ sym is in
      subst (λ a. ComesBefore a y) there (subst (λ b. ComesBefore (get_or ms c.0 x) b) next (o.rising c.0 i x few h))

-- all open masks of a set are masks in order
pub all_open : (set : ℕ → Bool) (ms : List BitMask) → AreAll (IsOpenMask set) ms → AreRisingMasks ms
all_open set ms a = record {
  rising = a.rising;
  short = λ k d lt. let one = a.wanted k d lt in (one.short, one.is_mask.1);
}

pub if_ok_more : {A E : Type 0} (P Q : A → Type 0) (r : Result A E) → ((x : A) → P x → Q x) → IfOk r P → IfOk r Q
if_ok_more P Q (Ok x) f h = f x h
if_ok_more P Q (Err e) f h = tt

-- ---- the parts of a survey

pub certain_listed : (es : List Entry) (set : ℕ → Bool) (met : Met) (certain : List ℕ) → AreFactsOf es set met certain → IsListOf (IsCertainUid es) certain
certain_listed es set met certain f = record {
  rising = f.told.forced.rising;
  members = λ u. (certain_told es set met certain f u, λ h. (f.told.forced.members u).1 ((IsCertainUid-iff es u f.told.possible).0 h));
}

pub opened_short : (ds es : List Entry) (m : Option BitMask) → IsFirstOpened ds es m → IfSome m IsShort
opened_short ds es None h = tt
opened_short ds es (Some m) h = (h.0.short, h.0.fits)

-- what a possible log says, from what the calls returned
pub facts_made : (lines : List LogLine) (set : ℕ → Bool) (met : Met) (certain : List ℕ) (told : List ShownUid) (s : FieldFacts) → AreFactsOf (entries lines) set met certain
    → uids_of told ≡ certain → All (IsShownCertain lines) told → s.certain ≡ told → ((es : List Entry) → AreFactsOf es set met certain → AreOpenMasksOf es s.«open»)
    → s.answers ≡ answers (entries lines) → IsWeakestBesides (entries lines) certain (weakest_of s)
    → IsFirstOpened (hidden_entries (entries lines)) (entries lines) s.hidden → IsFirstOpened (deaf_entries (entries lines)) (entries lines) s.deaf → AreFieldFactsOf lines s
facts_made lines set met certain told s f uids shown is masks count weakest hidden deaf =
    let same : uids_of s.certain ≡ certain = ap uids_of is ∙ uids in
    record {
      possible = f.told.possible;
      answers_are = count;
      certain = subst (IsListOf (IsCertainUid (entries lines))) (sym same) (certain_listed (entries lines) set met certain f);
      shown = subst (All (IsShownCertain lines)) (sym is) shown;
      masks = masks (entries lines) f;
      weakest = subst (λ us. IsWeakestBesides (entries lines) us (weakest_of s)) (sym same) weakest;
      hidden = hidden;
      deaf = deaf;
    }
