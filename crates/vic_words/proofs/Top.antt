-- Which command a parse enters.
use Rattle.std.proofs.Common.{◌≡◌, ◌∙◌, Bool, true, false, List, [], ◌∷◌, ◌++◌, length, Option, Some, None, refl, sym, ap, ap₂, subst, arith, codes, option_map, is_some}
use Rattle.std.specs.List.{fold, find}
use Rattle.std.specs.Str.{bytes_eq}
use Rattle.std.specs.Option.{option_map_or}
use Rattle.clap.specs.Walk.{Names, Text, Walk, answers_to, idle, nothing_held, rows_after, subcommand_met, walk, walk_from, walked, after_step, subcommand_or_other, finished, settled}
use Rattle.clap.specs.Simple.{App, Shape, built, entered, label_of, names_of, rows_at, subcommand_of, is_simple}
use Rattle.clap.specs.Kinds.{Kinds, or_else}
use Rattle.clap.specs.Faults.{other_fault, step_fault, check_fault, entered_fault, settle_fault, turn_fault, defaults_fault, fault_of, level_fault, walk_fault, is_simple_and_free}
use Rattle.clap.proofs.WalkLemmas.{walk_stopped}
use Rattle.std.proofs.lemmas.Slice.Eq.{bytes_eq-Decides}
use Rattle.std.specs.Str.{IsUtf8}
use Rattle.vic_words.specs.Words.{files_name, is_end_of_options, is_option}
use Rattle.vic_words.specs.declared.asked.FilesCommand.{FilesCommand}
use Rattle.vic_words.specs.declared.asked.FilesCommand.TheVariants.{Reconcile, Survey, Collection, JsonCollection}
use Rattle.vic_words.proofs.Leaf.{IsLeaf, both_empty, dash_long, dash_short, first_empty, state, not_refused, option_refused}
use Rattle.clap.specs.declared.error.kind.ErrorKind.TheVariants.{InvalidSubcommand, UnknownArgument}
use Rattle.vic_words.specs.inner.Commands.{commands}
use Rattle.vic_words.proofs.Shapes.{one_shape, words_shape}

pub simple_and_free : is_simple_and_free commands ≡ true
simple_and_free = refl

pub simple : is_simple commands ≡ true
simple = refl

-- the program, as clap builds it
abbrev pub program_built : App
program_built = built commands

-- a walk that has met a subcommand refuses nothing
stopped_passes : (s : Shape) (names : Names) (name : Text) (seen words : List Text)
    → walk_fault s names (record (walk_from nothing_held) { stopped = Some (name, seen) }) words ≡ []
unfolding walk_fault walked
stopped_passes s names name seen [] = refl
stopped_passes s names name seen (x ∷ xs) = stopped_passes s names name (seen ++ x ∷ []) xs

abbrev whole : Walk → Kinds → Kinds
whole w k = or_else k (or_else (entered_fault program_built w.stopped) (or_else (settle_fault program_built.top.rules program_built.top.args_override_self w.held)
    (or_else (defaults_fault (settled program_built.top.rules w.held).rows program_built.top.rules)
    (check_fault program_built.top (finished program_built.top.rules w.held) (is_some (entered program_built w.stopped))))))

-- what a first word is refused for, by the subcommand that it names
abbrev turn_by : Text → Option Text → Kinds
turn_by w o = or_else (other_fault program_built.top o w nothing_held)
    (step_fault program_built.top 1 (subcommand_or_other program_built.top.rules o idle 1 w nothing_held).0
    (subcommand_or_other program_built.top.rules o idle 1 w nothing_held).1)

module _ (s : Shape) (met : subcommand_met (names_of program_built) idle s.name ≡ Some s.name)
    (found : find (λ t. answers_to s.name (label_of t)) program_built.subs ≡ Some s) (help : bytes_eq s.name (codes "help") ≡ false) where
  abbrev at_name : List Text → Walk
  at_name words = record (walk_from nothing_held) { stopped = Some (s.name, words) }

  first_step : walked program_built.top.rules (names_of program_built) (walk_from nothing_held) s.name ≡ at_name []
  unfolding walked
  first_step = ap (λ o. after_step program_built.top.rules s.name (walk_from nothing_held)
      (subcommand_or_other program_built.top.rules o idle 1 s.name nothing_held).0 (subcommand_or_other program_built.top.rules o idle 1 s.name nothing_held).1) met

  walk_is : (words : List Text) → walk program_built.top.rules (names_of program_built) nothing_held (s.name ∷ words) ≡ at_name words
  walk_is words = ap (λ w. fold (walked program_built.top.rules (names_of program_built)) w words) first_step
      ∙ sym (walk_stopped program_built.top.rules (names_of program_built) (walk_from nothing_held) s.name [] words)

  first_turn : turn_fault program_built.top (names_of program_built) (walk_from nothing_held) s.name ≡ []
  first_turn = ap (turn_by s.name) met ∙ rw help refl

  walk_passes : (words : List Text) → walk_fault program_built.top (names_of program_built) (walk_from nothing_held) (s.name ∷ words) ≡ []
  unfolding walk_fault
  walk_passes words = ap₂ (λ k w. or_else k (walk_fault program_built.top (names_of program_built) w words)) first_turn first_step
      ∙ stopped_passes program_built.top (names_of program_built) s.name [] words

  or_nothing : (k : Kinds) → or_else k [] ≡ k
  or_nothing [] = refl
  or_nothing (x ∷ k) = refl

  pub enters_fault : (program : Text) (words : List Text) → fault_of commands (program ∷ s.name ∷ words) ≡ level_fault s [] nothing_held words false []
  unfolding defaults_fault
  enters_fault program words = ap₂ whole (walk_is words) (walk_passes words)
      ∙ (ap (λ f. or_else (option_map_or (λ t. level_fault t [] nothing_held words false []) f [])
      (check_fault program_built.top [] (is_some (option_map (λ t. rows_at t words) f)))) found ∙ or_nothing _)

  pub enters_rows : (program : Text) (words : List Text) → subcommand_of commands (program ∷ s.name ∷ words) ≡ Some (s.name, rows_after s.rules [] words)
  enters_rows program words = ap (λ w. entered program_built w.stopped) (walk_is words) ∙ ap (λ f. option_map (λ t. rows_at t words) f) found

-- ---- a word that names no command

top_is_leaf : IsLeaf program_built.top
top_is_leaf = record { long = λ n. refl; short = λ x. refl; plain = λ p. refl }

step_by : (w : Text) (rest : List Text) → subcommand_met (names_of program_built) idle w ≡ None → fault_of commands ([] ∷ w ∷ rest) ≡ [] → turn_by w None ≡ []
unfolding walk_fault
step_by w rest none e = sym (ap (turn_by w) none) ∙ first_empty _ _ (first_empty _ _ e)

stray_turn : (w : Text) → is_end_of_options w ≡ false → is_option w ≡ false → turn_by w None ≡ UnknownArgument ∷ InvalidSubcommand ∷ []
stray_turn w end option = rw (end, dash_long w option, dash_short w option) refl

first_trailing : (w : Text) → subcommand_met (names_of program_built) idle w ≡ None → is_end_of_options w ≡ true
    → walked program_built.top.rules (names_of program_built) (walk_from nothing_held) w ≡ state nothing_held idle 1 true
unfolding walked
first_trailing w none end = ap (λ o. after_step program_built.top.rules w (walk_from nothing_held)
    (subcommand_or_other program_built.top.rules o idle 1 w nothing_held).0 (subcommand_or_other program_built.top.rules o idle 1 w nothing_held).1) none
    ∙ rw end refl

stray_after : (x : Text) (xs : List Text) → walk_fault program_built.top (names_of program_built) (state nothing_held idle 1 true) (x ∷ xs) ≡ [] → ⊥
unfolding walk_fault
stray_after x xs e = omega (arith, ap length e)

after_end : (program w x : Text) (xs : List Text) → subcommand_met (names_of program_built) idle w ≡ None → is_end_of_options w ≡ true
    → fault_of commands (program ∷ w ∷ x ∷ xs) ≡ [] → ⊥
unfolding walk_fault
after_end program w x xs none end e = stray_after x xs (ap (λ v. walk_fault program_built.top (names_of program_built) v (x ∷ xs)) (sym (first_trailing w none end))
    ∙ both_empty _ _ (first_empty _ _ e))

only_end : (program w : Text) (rest : List Text) → subcommand_met (names_of program_built) idle w ≡ None → is_end_of_options w ≡ true
    → fault_of commands (program ∷ w ∷ rest) ≡ [] → subcommand_of commands (program ∷ w ∷ rest) ≡ None
only_end program w [] none end e = ap (λ v. entered program_built v.stopped) (first_trailing w none end)
only_end program w (x ∷ xs) none end e = absurd (after_end program w x xs none end e)

pub unnamed : (program w : Text) (rest : List Text) → IsUtf8 w → subcommand_met (names_of program_built) idle w ≡ None
    → fault_of commands (program ∷ w ∷ rest) ≡ [] → subcommand_of commands (program ∷ w ∷ rest) ≡ None
unnamed program w rest utf8 none e = go (is_end_of_options w) (is_option w) refl refl
  where
    go : (end option : Bool) → is_end_of_options w ≡ end → is_option w ≡ option → subcommand_of commands (program ∷ w ∷ rest) ≡ None
    go true option is_end is_opt = only_end program w rest none is_end e
    go false true is_end is_opt = absurd (not_refused _ _ (option_refused program_built.top w nothing_held top_is_leaf refl utf8 is_end is_opt) (step_by w rest none e))
    go false false is_end is_opt = absurd (omega (arith, ap length (sym (stray_turn w is_end is_opt) ∙ step_by w rest none e)))

-- ---- a word that names a command

pub record Entered (n : Text) (s : Shape) : Type 0 where
  pub fault : (program : Text) (words : List Text) → fault_of commands (program ∷ n ∷ words) ≡ level_fault s [] nothing_held words false []
  pub rows : (program : Text) (words : List Text) → subcommand_of commands (program ∷ n ∷ words) ≡ Some (n, rows_after s.rules [] words)

pub check_entered : Entered (codes "check") (one_shape (codes "check") (codes "file") false)
check_entered = record { fault = enters_fault _ refl refl refl; rows = enters_rows _ refl refl refl }

pub simulate_entered : Entered (codes "simulate") (one_shape (codes "simulate") (codes "file") false)
simulate_entered = record { fault = enters_fault _ refl refl refl; rows = enters_rows _ refl refl refl }

pub explain_entered : Entered (codes "explain") (one_shape (codes "explain") (codes "file") false)
explain_entered = record { fault = enters_fault _ refl refl refl; rows = enters_rows _ refl refl refl }

pub report_entered : Entered (codes "report") (one_shape (codes "report") (codes "file") false)
report_entered = record { fault = enters_fault _ refl refl refl; rows = enters_rows _ refl refl refl }

pub margin_entered : Entered (codes "margin") (one_shape (codes "margin") (codes "file") false)
margin_entered = record { fault = enters_fault _ refl refl refl; rows = enters_rows _ refl refl refl }

pub json_entered : Entered (codes "json") (one_shape (codes "json") (codes "file") false)
json_entered = record { fault = enters_fault _ refl refl refl; rows = enters_rows _ refl refl refl }

pub frame_entered : Entered (codes "frame") (one_shape (codes "frame") (codes "hex") true)
frame_entered = record { fault = enters_fault _ refl refl refl; rows = enters_rows _ refl refl refl }

pub files_entered : (command : FilesCommand) → Entered (files_name command) (words_shape (files_name command))
files_entered Reconcile = record { fault = enters_fault _ refl refl refl; rows = enters_rows _ refl refl refl }
files_entered Survey = record { fault = enters_fault _ refl refl refl; rows = enters_rows _ refl refl refl }
files_entered Collection = record { fault = enters_fault _ refl refl refl; rows = enters_rows _ refl refl refl }
files_entered JsonCollection = record { fault = enters_fault _ refl refl refl; rows = enters_rows _ refl refl refl }

pub spell_entered : Entered (codes "spell") (words_shape (codes "spell"))
spell_entered = record { fault = enters_fault _ refl refl refl; rows = enters_rows _ refl refl refl }

decide : (n w : Text) (P : Text → Type 0) → P n → (bytes_eq n w ≡ false → P w) → P w
decide n w P it other = go (bytes_eq n w) refl
  where
    go : (t : Bool) → bytes_eq n w ≡ t → P w
    go true e = subst P ((bytes_eq-Decides n w).0 e) it
    go false e = other e

-- a word is the name of a command, or names none
pub named : (w : Text) (P : Text → Type 0) → P (codes "check") → P (codes "simulate") → P (codes "explain") → P (codes "report") → P (codes "margin")
    → P (codes "json") → P (codes "frame") → ((command : FilesCommand) → P (files_name command)) → P (codes "spell") → (subcommand_met (names_of program_built) idle w ≡ None → P w) → P w
named w P check simulate explain report margin json frame files spell none =
    decide (codes "check") w P check (λ a. decide (codes "simulate") w P simulate (λ b. decide (codes "explain") w P explain
    (λ c. decide (codes "report") w P report (λ d. decide (codes "margin") w P margin (λ e. decide (codes "json") w P json (λ j. decide (codes "frame") w P frame
    (λ f. decide (codes "reconcile") w P (files Reconcile) (λ g. decide (codes "survey") w P (files Survey) (λ s. decide (codes "collection") w P (files Collection)
    (λ k. decide (codes "json-collection") w P (files JsonCollection) (λ o. decide (codes "spell") w P spell (λ h. none (rw (a, b, c, d, e, j, f, g, s, k, o, h) refl)))))))))))))

-- the name of the command that a parse enters is the word that names it
abbrev pub HasName : Text → Text → List Text → Text → Type 0
HasName program name words w = fault_of commands (program ∷ w ∷ words) ≡ [] → option_map (λ p. p.0) (subcommand_of commands (program ∷ w ∷ words)) ≡ Some name → w ≡ name

pub some≢none : (a : Text) → Some a ≡ None → ⊥
some≢none a e = cc

name_of_some : (a b : Text) → Some a ≡ Some b → a ≡ b
name_of_some a b e = cc

same : {n : Text} {s : Shape} → (program name : Text) (words : List Text) → Entered n s → HasName program name words n
same program name words entered e found = name_of_some _ name (sym (ap (option_map (λ p. p.0)) (entered.rows program words)) ∙ found)

pub same_name : (program w name : Text) (words : List Text) → IsUtf8 w → HasName program name words w
same_name program w name words utf8 = named w (HasName program name words) (same program name words check_entered) (same program name words simulate_entered)
    (same program name words explain_entered) (same program name words report_entered) (same program name words margin_entered) (same program name words json_entered)
    (same program name words frame_entered) (λ command. same program name words (files_entered command)) (same program name words spell_entered)
    (λ none e found. absurd (some≢none name (sym found ∙ ap (option_map (λ p. p.0)) (unnamed program w words utf8 none e))))

pub no_words_given : subcommand_of commands [] ≡ None
no_words_given = refl

pub only_the_program : (program : Text) → subcommand_of commands (program ∷ []) ≡ None
only_the_program program = refl
