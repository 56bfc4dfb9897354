-- The answer of a collection (profile): the first of eleven cases that applies.
use Rattle.std.specs.Prelude.{◌≡◌, true, [], Some, None, position, slice_get}
use Rattle.vic_verdict.specs.Verdict.{IsFirstMask, IsLeast, NoSuch}
use Rattle.vic_collection.specs.declared.answer.CollectionAnswer.{CollectionAnswer}
use Rattle.vic_collection.specs.declared.answer.CollectionAnswer.TheVariants as answer
use Rattle.vic_collection.specs.declared.state.State.TheVariants as state
use Rattle.vic_collection.specs.Collections.{CollectionValue, is_unlisted, positions_from, tells_nothing}
use Rattle.vic_collection.specs.Findings.{IsUidIn, IsUnsettled, count_there}
use Rattle.vic_collection.specs.Joins.{is_left_over, places_without_log}

-- no case before these applies
abbrev pub AllPossible : CollectionValue → Type 0
AllPossible c = position tells_nothing c.surveys ≡ None

abbrev pub NoneAbsent : CollectionValue → Type 0
NoneAbsent c = AllPossible c × NoSuch (IsUidIn c state.Absent)

abbrev pub NoneUnlisted : CollectionValue → Type 0
NoneUnlisted c = NoneAbsent c × NoSuch (λ u. is_unlisted c u ≡ true)

abbrev pub NoneUnsettled : CollectionValue → Type 0
NoneUnsettled c = NoneUnlisted c × NoSuch (IsUnsettled c)

abbrev pub NoneDoubtful : CollectionValue → Type 0
NoneDoubtful c = NoneUnsettled c × NoSuch (IsUidIn c state.Doubtful)

abbrev pub NoneMisplaced : CollectionValue → Type 0
NoneMisplaced c = NoneDoubtful c × NoSuch (IsUidIn c state.Misplaced)

abbrev pub NoneReturned : CollectionValue → Type 0
NoneReturned c = NoneMisplaced c × NoSuch (IsUidIn c state.Returned)

abbrev pub NoneNotCounted : CollectionValue → Type 0
NoneNotCounted c = NoneReturned c × NoSuch (IsUidIn c state.NotCounted)

abbrev pub NoneWithoutLog : CollectionValue → Type 0
NoneWithoutLog c = NoneNotCounted c × (places_without_log c ≡ [])

abbrev pub NoneLeftOver : CollectionValue → Type 0
NoneLeftOver c = NoneWithoutLog c × (positions_from (is_left_over c) 0 c.surveys ≡ [])

-- the answer
abbrev pub IsAnswer : CollectionValue → CollectionAnswer → Type 0
IsAnswer c (answer.NotPossible log) = position tells_nothing c.surveys ≡ Some log
IsAnswer c (answer.Absent u) = AllPossible c × IsLeast (IsUidIn c state.Absent) u
IsAnswer c (answer.Unlisted u) = NoneAbsent c × IsLeast (λ v. is_unlisted c v ≡ true) u
IsAnswer c (answer.Unsettled m) = NoneUnlisted c × IsFirstMask (IsUnsettled c) m
IsAnswer c (answer.Doubtful u) = NoneUnsettled c × IsLeast (IsUidIn c state.Doubtful) u
IsAnswer c (answer.Misplaced u) = NoneDoubtful c × IsLeast (IsUidIn c state.Misplaced) u
IsAnswer c (answer.Returned u) = NoneMisplaced c × IsLeast (IsUidIn c state.Returned) u
IsAnswer c (answer.NotCounted u) = NoneReturned c × IsLeast (IsUidIn c state.NotCounted) u
IsAnswer c (answer.WithoutLog place) =
    NoneNotCounted c × (slice_get (places_without_log c) 0 ≡ Some place.now)
IsAnswer c (answer.LeftOver log) =
    NoneWithoutLog c × (slice_get (positions_from (is_left_over c) 0 c.surveys) 0 ≡ Some log)
IsAnswer c (answer.Complete count) = NoneLeftOver c × (count ≡ count_there c)
