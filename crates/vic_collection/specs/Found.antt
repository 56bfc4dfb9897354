-- By what a log is found: its name, what follows the last `/` or `\` in it, and that without its
-- ending (profile).
use Rattle.std.specs.Prelude.{ℕ, ◌==◌, Bool, ◌||◌, if◌then◌else◌, List, [], ◌∷◌}
use Rattle.std.specs.List.{list_any}
use Rattle.std.specs.Str.{byte}
use Rattle.vic_frame.specs.Uids.{has}

-- what parts the folders of a path
abbrev pub is_slash : ℕ → Bool
is_slash b = b == byte "/" || b == byte "\\"

-- what follows the last `/` or `\`
abbrev pub base_of : List ℕ → List ℕ
base_of [] = []
base_of (b ∷ name) = if list_any is_slash (b ∷ name) then base_of name else b ∷ name

-- what stands before the last `.`, nothing where there is none
abbrev pub before_ending : List ℕ → List ℕ
before_ending [] = []
before_ending (b ∷ name) = if has name (byte ".") then b ∷ before_ending name else []

abbrev pub or_else : List ℕ → List ℕ → List ℕ
or_else [] name = name
or_else (b ∷ front) name = b ∷ front

-- without the last `.` and what follows it, unless the name begins with this `.`
abbrev pub stem_of : List ℕ → List ℕ
stem_of name = or_else (before_ending name) name

-- by what a log with this name is found, the first first
abbrev pub found_by : List ℕ → List (List ℕ)
found_by name = name ∷ base_of name ∷ stem_of (base_of name) ∷ []
