-- The margin of a UID (profile): in how many slots of a log it was overlooked.
use Rattle.std.specs.Prelude.{ℕ, zero, suc, ◌+◌, Bool, List, length, if◌then◌else◌}
use Rattle.vic_log.specs.declared.entry.Entry.{Entry}
use Rattle.vic_log.specs.Overlooked.{is_overlooked}

-- how many a test adds to a count
abbrev pub one_if : Bool → ℕ
one_if b = if b then 1 else 0

-- at how many positions before i the UID was overlooked
abbrev pub margin_before : List Entry → ℕ → ℕ → ℕ
margin_before es zero u = 0
margin_before es (suc i) u = margin_before es i u + one_if (is_overlooked es i u)

-- at how many in all
abbrev pub margin_of : List Entry → ℕ → ℕ
margin_of es u = margin_before es (length es) u
