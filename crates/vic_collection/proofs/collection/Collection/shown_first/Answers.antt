use Rattle.vic_collection.proofs.Words.{◌≡◌, ◌∙◌, ◌<◌, ap, sym, subst, slice_get, slice_get-get_or, slice_get_within, get_or, Some, length, arith, List, ℕ}
use Rattle.vic_collection.specs.Collections.{certain_logs, is_certain_in}
use Rattle.vic_collection.proofs.Halves.{first_position}
use Rattle.vic_collection.proofs.collection.Collection.shown_first.Goals as goal

pub bounds-certain_in-0 : goal.bounds-certain_in-0
bounds-certain_in-0 c = subst (λ (l : List ℕ). 0 < length l) (sym c.certain_in.ensures) (first_position (λ s. is_certain_in s c.args.uid) c.args.self.now.surveys c.requires).0

pub line_in-line-requires-clause-log : goal.line_in-line-requires-clause-log
line_in-line-requires-clause-log c =
    let first = first_position (λ s. is_certain_in s c.args.uid) c.args.self.now.surveys c.requires in
    let log = ap (λ l. get_or l 0 0) c.certain_in.ensures in
    let within = slice_get_within c.args.self.now.surveys (get_or (certain_logs c.args.self.now c.args.uid) 0 0) first.1 first.2 in
    omega (arith, log, within)

pub line_in-line-requires-clause-certain : goal.line_in-line-requires-clause-certain
line_in-line-requires-clause-certain c s at =
    let first = first_position (λ t. is_certain_in t c.args.uid) c.args.self.now.surveys c.requires in
    let log = ap (λ l. get_or l 0 0) c.certain_in.ensures in
    let there = ap (slice_get c.args.self.now.surveys) log ∙ first.2 in
    let same : s ≡ first.1 = cc (at, there) in
    ap (λ t. is_certain_in t c.args.uid) same ∙ first.3

pub returns-clause-shown : goal.returns-clause-shown
returns-clause-shown c =
    let first = first_position (λ t. is_certain_in t c.args.uid) c.args.self.now.surveys c.requires in
    record {
      first = slice_get-get_or (certain_logs c.args.self.now c.args.uid) 0 0 first.0 ∙ ap (λ (l : List ℕ). Some (get_or l 0 0)) (sym c.certain_in.ensures);
      shown = c.line_in-line.ensures;
    }
