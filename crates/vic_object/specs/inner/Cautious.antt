-- What the cautious readings of entries are.
use Rattle.std.specs.Prelude.{◌≡◌, ◌⊎◌, List}
use Rattle.vic_log.specs.Deaf.{deaf_entries, hidden_entries}
use Rattle.vic_log.specs.declared.entry.Entry.{Entry}

-- the first entries are the hidden, or the deaf, ones of the second
abbrev pub AreHiddenOrDeaf : List Entry → List Entry → Type 0
AreHiddenOrDeaf ds es = (ds ≡ hidden_entries es) ⊎ (ds ≡ deaf_entries es)
