-- All findings of a possible log, and that the first of them is its verdict.
use Rattle.vic_report.proofs.Words.{◌≡◌, ℕ, List, [], ◌∷◌, length, get_or, Bool, true, false, not, ◌&&◌, Option, Some, None, refl, sym, ap, ◌∙◌, ◌↔◌, MatchOption, option_map, All, and_parts, and_from, not-true, not_from_false, IsUid, has, Entry, LogLine, entries, listed, slots_of, is_open, uids_of, IsUndecided, IsLeftOpen, MayBeMissing, IsPossible, IsPossibleUid, IsCertainUid, ShownUid, AreFindings, AreOpenMasks, IsReport, IsLeftToAsk, verdict_by, verdict_of, IsListOf, IsFailing, IsAbsent, IsUnlisted, IsFirstMask, NoSuch, IsVerdict, head_least, none_of, member_at, BitMask, SameUids, has_key, without_keys, OpenMasks, Complete, AreFacts, first_mask, missing_least, missing_or_absent, none_unsettled, open_iff}
use Rattle.vic_report.specs.declared.findings.Unsettled.{Unsettled}
use Rattle.vic_report.specs.declared.reporting.LogReport.{LogReport}
use Rattle.vic_report.specs.declared.reporting.LogReport.TheVariants as report

pub all_from_has : (P : ℕ → Type 0) (us : List ℕ) → ((u : ℕ) → has us u ≡ true → P u) → All P us
all_from_has P us h k d below = h (get_or us k d) (member_at us k (get_or us k d) d below refl)

-- the set without the certain UIDs
pub open_set : (es : List Entry) (set : ℕ → Bool) (certain keys : List ℕ) → AreFacts (IsPossibleUid es) (IsCertainUid es) set certain → ((u : ℕ) → IsUid u → has_key keys u ≡ has certain u) → (u : ℕ) → IsUid u → (without_keys set keys u ≡ true) ↔ IsUndecided es u
open_set es set certain keys facts named u i =
    let open_ = open_iff (IsPossibleUid es) (IsCertainUid es) set certain u facts i in
    let is : without_keys set keys u ≡ (set u && not (has certain u)) = ap (λ b. set u && not b) (named u i) in (
      (λ h. let w = and_parts (set u) (not (has certain u)) (sym is ∙ h) in open_.0 (w.0, not-true _ w.1)),
      (λ h. let w = open_.1 h in is ∙ and_from (set u) (not (has certain u)) w.0 (not_from_false _ w.1)),
    )

-- what is left to ask for, with the open masks
abbrev unsettled_with : BitMask → OpenMasks → Unsettled
unsettled_with m o = record { mask = m; «open» = o }

pub left_to_ask : (es : List Entry) (m : Option BitMask) (o : OpenMasks) → MatchOption m (NoSuch (IsLeftOpen es)) (IsFirstMask (IsLeftOpen es)) → AreOpenMasks es o → MatchOption (option_map (λ k. unsettled_with k o) m) (NoSuch (IsLeftOpen es)) (IsLeftToAsk es)
left_to_ask es None o none masks = none
left_to_ask es (Some m) o first masks = record { mask = first; open_masks = masks }

-- ---- the verdict by the findings

pub first_is_verdict : (lines : List LogLine) (absent unlisted doubtful : List ℕ) (m : Option BitMask) → IsPossible (entries lines) → IsListOf (IsAbsent (entries lines)) absent → IsListOf (IsUnlisted (entries lines)) unlisted
    → MatchOption m (NoSuch (IsLeftOpen (entries lines))) (IsFirstMask (IsLeftOpen (entries lines))) → IsListOf (MayBeMissing (entries lines)) doubtful
    → (absent ≡ [] → unlisted ≡ [] → m ≡ None → doubtful ≡ [] → ⊥) → IsVerdict lines (verdict_by absent unlisted m doubtful)
first_is_verdict lines (u ∷ absent) unlisted doubtful m p a l f d some = (p, head_least (IsAbsent (entries lines)) u absent a)
first_is_verdict lines [] (u ∷ unlisted) doubtful m p a l f d some = (p, none_of (IsAbsent (entries lines)) a, head_least (IsUnlisted (entries lines)) u unlisted l)
first_is_verdict lines [] [] doubtful (Some m) p a l f d some =
    let es = entries lines in
    let none = none_of (IsUnlisted es) l in
    (p, none_of (IsAbsent es) a, none, first_mask es m none f)
first_is_verdict lines [] [] (u ∷ doubtful) None p a l f d some =
    let es = entries lines in
    let absent = none_of (IsAbsent es) a in
    let unlisted = none_of (IsUnlisted es) l in
    (p, absent, unlisted, none_unsettled es unlisted f, missing_least es u p absent (head_least (MayBeMissing es) u doubtful d))
first_is_verdict lines [] [] [] None p a l f d some = absurd (some refl refl refl refl)

pub none_is_complete : (lines : List LogLine) (count : ℕ) → IsPossible (entries lines) → IsListOf (IsAbsent (entries lines)) [] → IsListOf (IsUnlisted (entries lines)) [] → NoSuch (IsLeftOpen (entries lines)) → IsListOf (MayBeMissing (entries lines)) [] → count ≡ length (listed (entries lines)) → IsVerdict lines (Complete count)
none_is_complete lines count p a l f d counted =
    let es = entries lines in
    let absent = none_of (IsAbsent es) a in
    let unlisted = none_of (IsUnlisted es) l in
    (p, absent, unlisted, none_unsettled es unlisted f, λ u x. missing_or_absent es u absent (none_of (MayBeMissing es) d u) x, counted)

-- the mask of what is left to ask for
masks_of : (es : List Entry) (x : Option Unsettled) → MatchOption x (NoSuch (IsLeftOpen es)) (IsLeftToAsk es) → MatchOption (option_map (λ (y : Unsettled). y.mask) x) (NoSuch (IsLeftOpen es)) (IsFirstMask (IsLeftOpen es))
masks_of es None h = h
masks_of es (Some x) h = h.mask

no_uids : (xs : List ShownUid) → uids_of xs ≡ [] → xs ≡ []
no_uids [] h = refl
no_uids (x ∷ xs) h = cc

no_mask : (x : Option Unsettled) → option_map (λ (y : Unsettled). y.mask) x ≡ None → x ≡ None
no_mask None h = refl
no_mask (Some x) h = cc

pub report_begins : (lines : List LogLine) (r : LogReport) → IsReport lines r → IsVerdict lines (verdict_of r)
report_begins lines (report.Impossible c) h = h.line
report_begins lines (report.Complete count) h = h
report_begins lines (report.NotWhole f) h =
    let all : AreFindings lines f = h.1 in
    first_is_verdict lines (uids_of f.absent.items) (uids_of f.unlisted.items) f.doubtful.items (option_map (λ (y : Unsettled). y.mask) f.unsettled) h.0 all.absent all.unlisted (masks_of (entries lines) f.unsettled all.unsettled) all.doubtful
    (λ a u m d. h.2 (record { absent = no_uids f.absent.items a; unlisted = no_uids f.unlisted.items u; unsettled = no_mask f.unsettled m; doubtful = d }))

-- findings of which none is there begin with a count
count_of_none : (absent unlisted doubtful : List ℕ) (m : Option BitMask) (count : ℕ) → verdict_by absent unlisted m doubtful ≡ Complete count → (absent ≡ []) × (unlisted ≡ []) × (m ≡ None) × (doubtful ≡ [])
count_of_none [] [] [] None count h = (refl, refl, refl, refl)
count_of_none [] [] doubtful (Some m) count h = cc
count_of_none _ _ _ _ count h = cc

pub none_where_complete : (lines : List LogLine) (r : LogReport) (count : ℕ) → IsReport lines r → verdict_of r ≡ Complete count → r ≡ report.Complete count
none_where_complete lines (report.Impossible c) count h is = cc
none_where_complete lines (report.Complete n) count h is = let same : n ≡ count = cc in ap report.Complete same
none_where_complete lines (report.NotWhole f) count h is =
    let all = count_of_none (uids_of f.absent.items) (uids_of f.unlisted.items) f.doubtful.items (option_map (λ (y : Unsettled). y.mask) f.unsettled) count is in
    absurd (h.2 (record { absent = no_uids f.absent.items all.0; unlisted = no_uids f.unlisted.items all.1; unsettled = no_mask f.unsettled all.2; doubtful = all.3 }))

-- ---- what the lines of findings are asked of

pub shut_all : (es : List Entry) (set : ℕ → Bool) (us certain ys : List ℕ) → SameUids set (is_open (slots_of es)) → ((u : ℕ) → has us u ≡ true → IsUid u) → IsListOf (λ u. IsFailing us set u × (has certain u ≡ false)) ys → All (λ u. is_open (slots_of es) u ≡ false) ys
shut_all es set us certain ys same uids shut = all_from_has (λ u. is_open (slots_of es) u ≡ false) ys (λ u h.
    let f = ((shut.members u).0 h).0 in
    sym (same u (uids u f.0)) ∙ f.1)
