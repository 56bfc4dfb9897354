-- The first lines of a log.
use Rattle.vic_verdict.proofs.Words.{take-take, ◌≡◌, ℕ, ◌≤◌, List, ◌++◌, take, drop, sym, ap, ◌∙◌, take-append-drop, take-map, LogLine, IsPossible, entries, map-append}
use Rattle.vic_verdict.proofs.Possibility.{IsPossible-front}

-- the first lines, and the others
pub front_and_rest : (n : ℕ) (lines : List LogLine) → entries (take n lines) ++ entries (drop n lines) ≡ entries lines
front_and_rest n lines = sym (map-append (λ (l : LogLine). l.item) (take n lines) (drop n lines)) ∙ ap entries (take-append-drop n lines)

-- what begins a possible log is possible
pub possible_first : (n : ℕ) (lines : List LogLine) → IsPossible (entries lines) → IsPossible (entries (take n lines))
possible_first n lines h = IsPossible-front (entries (take n lines)) (entries (drop n lines)) (rw front_and_rest h)

pub possible_shorter : (m n : ℕ) (lines : List LogLine) → m ≤ n → IsPossible (entries (take n lines)) → IsPossible (entries (take m lines))
possible_shorter m n lines le h = rw take-take at (possible_first m (take n lines) h)

-- the entries of the first lines
pub first_entries : (n : ℕ) (lines : List LogLine) → entries (take n lines) ≡ take n (entries lines)
first_entries n lines = sym (take-map (λ (l : LogLine). l.item) n lines)
