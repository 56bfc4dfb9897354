-- What a collection lacks, what is there beside it, and what can't be told: its findings (profile).
use Rattle.std.specs.Prelude.{◌≡◌, ◌↔◌, ℕ, ◌^◌, ◌<◌, ◌≤◌, Bool, true, ◌&&◌, not, Some, List, map, position, count_by, slice_get, MatchOption}
use Rattle.std.specs.List.{All, Contains}
use Rattle.vic_frame.specs.declared.uid.TheConstants.{UID_BITS}
use Rattle.vic_frame.specs.Masks.{BitMask, lies_in}
use Rattle.vic_frame.specs.Uids.{IsUid}
use Rattle.vic_tree.specs.declared.open_masks.OpenMasks.{OpenMasks}
use Rattle.vic_tree.specs.declared.open_masks.TheConstants.{MAX_OPEN_MASKS}
use Rattle.vic_tree.specs.OpenMasks.{AreFirst, IsOpenMask}
use Rattle.vic_tree.specs.OpenSet.{SameUids}
use Rattle.vic_verdict.specs.Rising.{IsListOf}
use Rattle.vic_verdict.specs.Verdict.{IsFirstMask, NoSuch}
use Rattle.vic_report.specs.declared.shown.ShownUid.{ShownUid}
use Rattle.vic_survey.specs.Surveys.{SurveyValue}
use Rattle.vic_survey.specs.declared.survey.SurveyedField.{SurveyedField}
use Rattle.vic_survey.specs.declared.survey.SurveyedField.TheVariants.{Refused, Impossible, Possible}
use Rattle.vic_table.specs.Values.{ItemValue}
use Rattle.vic_collection.specs.declared.findings.Findings.{Findings}
use Rattle.vic_collection.specs.declared.found_items.FoundItem.{FoundItem}
use Rattle.vic_collection.specs.declared.unlisted.UnlistedUid.{UnlistedUid}
use Rattle.vic_collection.specs.declared.state.State.{State}
use Rattle.vic_collection.specs.declared.state.State.TheVariants.{Returned, Misplaced, Doubtful, NotCounted, Absent}
use Rattle.vic_collection.specs.Collections.{CollectionValue, certain_logs, is_certain_somewhere, is_named, is_possible_in, is_possible_somewhere, is_unlisted, positions_from, tells_nothing}
use Rattle.vic_collection.specs.Joins.{is_left_over, places_without_log}
use Rattle.vic_collection.specs.States.{is_there, state_of}

-- ---- items in a state

-- the UID of an item in this state
abbrev pub IsUidIn : CollectionValue → State → ℕ → Type 0
IsUidIn c state u =
    (item : ItemValue) × Contains c.catalogue.items item × (item.uid ≡ Some u)
    × (state_of c item ≡ state)

-- the item at this position is in this state, and has this UID
abbrev pub IsFoundIn : CollectionValue → State → FoundItem → Type 0
IsFoundIn c state found =
    (item : ItemValue) × (slice_get c.catalogue.items found.item ≡ Some item)
    × (item.uid ≡ Some found.uid) × (state_of c item ≡ state)

-- the UIDs of items in this state, in rising order, with their items
pub record AreFoundIn (c : CollectionValue) (state : State) (found : List FoundItem)
    : Type 0 where
  pub uids : IsListOf (IsUidIn c state) (map (λ f. f.uid) found)
  pub items : All (IsFoundIn c state) found

-- ---- UIDs of no item

-- the survey has the UID, with this line
abbrev pub IsShownBy : SurveyedField → ShownUid → Type 0
IsShownBy (Possible s) shown = Contains s.certain shown
IsShownBy (Refused n fault) shown = ⊥
IsShownBy (Impossible n) shown = ⊥

-- the first log in which a UID is certain, and the line of its survey that shows it
pub record IsShownFirst (c : CollectionValue) (x : UnlistedUid) : Type 0 where
  pub first : slice_get (certain_logs c x.uid) 0 ≡ Some x.log
  pub shown : (s : SurveyValue) → slice_get c.surveys x.log ≡ Some s
      → IsShownBy s.field (record { uid = x.uid; line = x.line })

-- the UIDs that are certain somewhere and of no item, in rising order
pub record AreUnlisted (c : CollectionValue) (found : List UnlistedUid) : Type 0 where
  pub uids : IsListOf (λ u. is_unlisted c u ≡ true) (map (λ x. x.uid) found)
  pub shown : All (IsShownFirst c) found

-- a UID of no item that may be somewhere and may be nowhere
abbrev pub is_left_open : CollectionValue → ℕ → Bool
is_left_open c u = is_possible_somewhere c u && not (is_named c u)

-- a mask of at most 56 bits all of whose UIDs are such
abbrev pub IsUnsettled : CollectionValue → BitMask → Type 0
IsUnsettled c m =
    (m.len ≤ UID_BITS) × (m.value < 2 ^ m.len)
    × ((u : ℕ) → IsUid u → lies_in m u ≡ true → is_left_open c u ≡ true)

-- a UID that is possible in a log and certain in none
abbrev pub is_left_by : CollectionValue → SurveyValue → ℕ → Bool
is_left_by c s u = is_possible_in s u && not (is_certain_somewhere c u)

-- the first open masks of these UIDs, and whether there are more
pub record AreOpenMasksOfSurvey (c : CollectionValue) (s : SurveyValue) (o : OpenMasks)
    : Type 0 where
  pub set : ℕ → Bool
  pub uids : SameUids set (is_left_by c s)
  pub first : AreFirst MAX_OPEN_MASKS (IsOpenMask set) o.masks.items
  pub more : (o.more ≡ true)
      ↔ ((m : BitMask) × IsOpenMask set m × (Contains o.masks.items m → ⊥))

-- ---- all findings

-- how many items are in place or there
abbrev pub count_there : CollectionValue → ℕ
count_there c = count_by (λ item. is_there (state_of c item)) c.catalogue.items

-- the first log that isn't possible; items and UIDs by what is wrong with them; the first mask that
-- is unsettled; the places without a log and the logs of no place; the state of each item, and how
-- many are there
pub record AreFindings (c : CollectionValue) (f : Findings) : Type 0 where
  pub not_possible : f.not_possible ≡ position tells_nothing c.surveys
  pub absent : AreFoundIn c Absent f.absent.items
  pub unlisted : AreUnlisted c f.unlisted.items
  pub unsettled : MatchOption f.unsettled (NoSuch (IsUnsettled c)) (IsFirstMask (IsUnsettled c))
  pub doubtful : AreFoundIn c Doubtful f.doubtful.items
  pub misplaced : AreFoundIn c Misplaced f.misplaced.items
  pub returned : AreFoundIn c Returned f.returned.items
  pub not_counted : AreFoundIn c NotCounted f.not_counted.items
  pub without_log : map (λ place. place.now) f.without_log.items ≡ places_without_log c
  pub left_over : f.left_over.items ≡ positions_from (is_left_over c) 0 c.surveys
  pub states : f.states.items ≡ map (state_of c) c.catalogue.items
  pub count : f.count ≡ count_there c
