-- What a parse makes of the words after a command.
use Rattle.std.proofs.Common.{◌≡◌, ◌∙◌, ◌==◌, ◌&&◌, ℕ, Bool, true, false, List, [], ◌∷◌, ◌++◌, length, Option, Some, None, refl, sym, ap, ap₂, subst, arith, true≢false, if◌then◌else◌}
use Rattle.std.specs.Prelude.{⊤, slice_get}
use Rattle.std.specs.List.{fold}
use Rattle.std.specs.Str.{IsUtf8, chars}
use Rattle.std.proofs.Math.Utf8.{encodes}
use Rattle.std.proofs.lemmas.Str.{encode_ascii, encodes-chars}
use Rattle.std.proofs.lemmas.Bool.{eqb-true}
use Rattle.clap.specs.Walk.{Held, Row, Rule, Text, Waiting, Walk, arg_by_index, arg_by_long, arg_by_short, idle, next_position, positional, is_multiple, is_pending, takes_several, positional_held, settled, to_positional, value, walk_from, walked, word_met, trailing, finished, nothing_held, rows_after, Step, after_step}
use Rattle.clap.specs.Simple.{Shape}
use Rattle.clap.specs.Kinds.{Kinds, or_else}
use Rattle.clap.specs.Faults.{check_fault, defaults_fault, level_fault, settle_fault, bundle_fault, flag_word_fault, other_fault, word_fault, flags_fault, step_fault, turn_fault, walk_fault}
use Rattle.clap.specs.Lexer.{long_of, name_and_value, short_of}
use Rattle.clap.specs.declared.error.kind.ErrorKind.TheVariants.{UnknownArgument}
use Rattle.vic_words.specs.Words.{after_operand, is_end_of_options, is_option, operands_of}

-- ---- where a parse stands: what it holds, and the place of the next operand

abbrev pub Spot : Type 0
Spot = Held × ℕ

abbrev put_at : List Rule → Option Rule → Spot → Text → Spot
put_at c None at x = at
put_at c (Some a) at x = (positional_held c a x at.0, next_position a at.1)

-- one operand more
abbrev pub put : List Rule → Spot → Text → Spot
put c at x = put_at c (arg_by_index c at.1) at x

abbrev pub put_fault : Shape → Spot → List Text → Kinds
put_fault s at [] = []
put_fault s at (x ∷ xs) = or_else (step_fault s at.1 at.0 value) (put_fault s (put s.rules at x) xs)

-- a walk that has met no subcommand
abbrev pub state : Held → Waiting → ℕ → Bool → Walk
state h waiting p over =
    record { held = h; waiting = waiting; position = p; is_trailing = over; stopped = None }

abbrev pub has_trailing : Option Rule → Bool
has_trailing None = false
has_trailing (Some a) = a.trailing_var_arg

-- a command whose arguments are operands
pub record IsLeaf (s : Shape) : Type 0 where
  pub long : (n : Text) → arg_by_long s.rules n ≡ None
  pub short : (x : ℕ) → arg_by_short s.rules x ≡ None
  pub plain : (p : ℕ) → has_trailing (arg_by_index s.rules p) ≡ false

-- ---- after the options have ended

-- what the walk over these words comes to is what putting these operands comes to
pub record Puts (s : Shape) (w : Walk) (words : List Text) (at : Spot) (operands : List Text) : Type 0 where
  pub held : (fold (walked s.rules []) w words).held ≡ (fold (put s.rules) at operands).0
  pub fault : walk_fault s [] w words ≡ put_fault s at operands

-- a word that goes to an operand, and the words after it
pub one_put : (s : Shape) (w : Walk) (x : Text) (xs operands : List Text) (o : Option Rule) → w.stopped ≡ None → arg_by_index s.rules w.position ≡ o
    → Puts s (to_positional s.rules o x w w.held) xs (put_at s.rules o (w.held, w.position) x) operands
    → ((fold (walked s.rules []) (to_positional s.rules (arg_by_index s.rules w.position) x w w.held) xs).held ≡ (fold (put s.rules) (w.held, w.position) (x ∷ operands)).0)
    × (or_else (step_fault s w.position w.held value) (walk_fault s [] (to_positional s.rules (arg_by_index s.rules w.position) x w w.held) xs) ≡ put_fault s (w.held, w.position) (x ∷ operands))
one_put s w x xs operands o stopped e rest = (
  ap (λ o. (fold (walked s.rules []) (to_positional s.rules o x w w.held) xs).held) e ∙ (rest.held ∙ sym (ap (λ o. (fold (put s.rules) (put_at s.rules o (w.held, w.position) x) operands).0) e)),
  ap (λ o. or_else (step_fault s w.position w.held value) (walk_fault s [] (to_positional s.rules o x w w.held) xs)) e
      ∙ (ap (or_else (step_fault s w.position w.held value)) rest.fault
      ∙ sym (ap (λ o. or_else (step_fault s w.position w.held value) (put_fault s (put_at s.rules o (w.held, w.position) x) operands)) e)),
)

pub trailing_walk : (s : Shape) (words : List Text) (h : Held) (waiting : Waiting) (p : ℕ) → Puts s (state h waiting p true) words (h, p) words
unfolding walked walk_fault
trailing_walk s [] h waiting p = record { held = refl; fault = refl }
trailing_walk s (x ∷ xs) h waiting p =
    let both = go (trailing_walk s xs) (arg_by_index s.rules p) refl in record { held = both.0; fault = both.1 }
  where
    go : ((h : Held) (waiting : Waiting) (p : ℕ) → Puts s (state h waiting p true) xs (h, p) xs) → (o : Option Rule) → arg_by_index s.rules p ≡ o
        → ((fold (walked s.rules []) (to_positional s.rules (arg_by_index s.rules p) x (state h waiting p true) h) xs).held ≡ (fold (put s.rules) (h, p) (x ∷ xs)).0)
        × (or_else (step_fault s p h value) (walk_fault s [] (to_positional s.rules (arg_by_index s.rules p) x (state h waiting p true) h) xs) ≡ put_fault s (h, p) (x ∷ xs))
    go more None e = one_put s (state h waiting p true) x xs xs None refl e (more h waiting p)
    go more (Some a) e = one_put s (state h waiting p true) x xs xs (Some a) refl e
        (more (positional_held s.rules a x h) (if is_multiple a then positional else idle) (next_position a p))

-- ---- while options may come

abbrev pub between : Bool → Waiting
between b = if b then positional else idle

pub dash_long : (x : Text) → is_option x ≡ false → long_of x ≡ None
dash_long [] e = refl
dash_long (a ∷ []) e = go (a == 45) refl
  where
    go : (t : Bool) → (a == 45) ≡ t → long_of (a ∷ []) ≡ None
    go true t = rw t refl
    go false t = rw t refl
dash_long (a ∷ b ∷ r) e = rw e refl

pub dash_short : (x : Text) → is_option x ≡ false → short_of x ≡ None
dash_short [] e = refl
dash_short (a ∷ []) e = go (a == 45) refl
  where
    go : (t : Bool) → (a == 45) ≡ t → short_of (a ∷ []) ≡ None
    go true t = rw t refl
    go false t = rw t refl
dash_short (a ∷ b ∷ r) e = rw e refl

-- a word that is no option goes to an operand
plain_met : (c : List Rule) (b : Bool) (p : ℕ) (x : Text) (h : Held) → is_end_of_options x ≡ false → is_option x ≡ false
    → word_met c [] false (between b) p x h ≡ (h, value)
plain_met c true p x h end option = rw (end, dash_long x option, dash_short x option) refl
plain_met c false p x h end option = rw (end, dash_long x option, dash_short x option) refl

plain_passes : (s : Shape) (b : Bool) (x : Text) (h : Held) → is_end_of_options x ≡ false → is_option x ≡ false → word_fault s [] false (between b) x h ≡ []
plain_passes s true x h end option = rw (end, dash_long x option, dash_short x option) refl
plain_passes s false x h end option = rw (end, dash_long x option, dash_short x option) refl

-- `--` ends the options
end_met : (c : List Rule) (b : Bool) (p : ℕ) (x : Text) (h : Held) → is_end_of_options x ≡ true → word_met c [] false (between b) p x h ≡ (h, trailing p)
end_met c true p x h end = rw end refl
end_met c false p x h end = rw end refl

end_passes : (s : Shape) (b : Bool) (x : Text) (h : Held) → is_end_of_options x ≡ true → word_fault s [] false (between b) x h ≡ []
end_passes s true x h end = rw end refl
end_passes s false x h end = rw end refl

-- the characters of a word behind a `-`
chars_past_dash : (flags : Text) → chars (45 ∷ flags) ≡ 45 ∷ chars flags
unfolding chars
chars_past_dash [] = refl
chars_past_dash (b ∷ bs) = refl

some_char : (cs : List ℕ) (b : ℕ) (r : Text) → encodes (45 ∷ cs) ≡ 45 ∷ b ∷ r → (c : ℕ) × (slice_get cs 0 ≡ Some c)
some_char [] b r e =
    let one : encodes (45 ∷ []) ≡ 45 ∷ [] = ap (λ t. t ++ []) (encode_ascii 45 (omega arith)) in
    absurd (omega (arith, ap length (sym one ∙ e)))
some_char (c ∷ cs) b r e = (c, refl)

first_flag : (b : ℕ) (r : Text) → IsUtf8 (45 ∷ b ∷ r) → (c : ℕ) × (slice_get (chars (b ∷ r)) 0 ≡ Some c)
first_flag b r utf8 = some_char (chars (b ∷ r)) b r (ap encodes (sym (chars_past_dash (b ∷ r))) ∙ encodes-chars (45 ∷ b ∷ r) utf8)

-- an option that begins with one `-`
short_refused : (s : Shape) (b : ℕ) (r : Text) (h : Held) → IsLeaf s → h.skip ≡ 0 → IsUtf8 (45 ∷ b ∷ r) → bundle_fault s.rules s.args_override_self (b ∷ r) h ≡ UnknownArgument ∷ []
unfolding flags_fault
short_refused s b r h leaf skip utf8 = let first = first_flag b r utf8 in rw (skip, first.1, leaf.short first.0) refl

long_refused : (s : Shape) (p : Text × Option Text) (x : Text) (h : Held) → IsLeaf s → flag_word_fault s.rules s.args_override_self (Some p) x h ≡ UnknownArgument ∷ []
long_refused s p x h leaf = rw (leaf.long p.0) refl

pub option_refused : (s : Shape) (x : Text) (h : Held) → IsLeaf s → h.skip ≡ 0 → IsUtf8 x → is_end_of_options x ≡ false → is_option x ≡ true
    → other_fault s None x h ≡ UnknownArgument ∷ []
option_refused s [] h leaf skip utf8 end option = absurd (true≢false (sym option))
option_refused s (a ∷ []) h leaf skip utf8 end option = absurd (true≢false (sym option))
option_refused s (a ∷ b ∷ r) h leaf skip utf8 end option =
    let a_is : a ≡ 45 = eqb-true a 45 option in
    let utf8' : IsUtf8 (45 ∷ b ∷ r) = subst (λ n. IsUtf8 (n ∷ b ∷ r)) a_is utf8 in
    let end' : is_end_of_options (45 ∷ b ∷ r) ≡ false = ap (λ n. is_end_of_options (n ∷ b ∷ r)) (sym a_is) ∙ end in
    ap (λ n. other_fault s None (n ∷ b ∷ r) h) a_is ∙ go (b == 45) refl utf8' end'
  where
    long_go : (r : Text) → IsUtf8 (45 ∷ b ∷ r) → is_end_of_options (45 ∷ b ∷ r) ≡ false → (b == 45) ≡ true → other_fault s None (45 ∷ b ∷ r) h ≡ UnknownArgument ∷ []
    long_go [] utf8' end' t = absurd (true≢false (rw t at end'))
    long_go (c ∷ rest) utf8' end' t = rw (t, leaf.long (name_and_value (c ∷ rest)).0) refl

    go : (t : Bool) → (b == 45) ≡ t → IsUtf8 (45 ∷ b ∷ r) → is_end_of_options (45 ∷ b ∷ r) ≡ false → other_fault s None (45 ∷ b ∷ r) h ≡ UnknownArgument ∷ []
    go true t utf8' end' = long_go r utf8' end' t
    go false t utf8' end' = rw (t, t) (short_refused s b r h leaf skip utf8')

skip_kept : (c : List Rule) (a : Rule) (x : Text) (h : Held) → h.skip ≡ 0 → (positional_held c a x h).skip ≡ 0
skip_kept c a x h none = go (is_pending a h.pending && takes_several a)
  where
    go : (t : Bool) → (if t then h else settled c h).skip ≡ 0
    go true = none
    go false = none

abbrev pub AllUtf8 : List Text → Type 0
AllUtf8 [] = ⊤
AllUtf8 (x ∷ xs) = IsUtf8 x × AllUtf8 xs

-- what a walk over these words comes to, by the operands that they have
abbrev pub Parses : Shape → Walk → List Text → Spot → Option (List Text) → Type 0
Parses s w words at None = walk_fault s [] w words ≡ [] → ⊥
Parses s w words at (Some operands) = Puts s w words at operands

pub both_empty : (a b : Kinds) → or_else a b ≡ [] → b ≡ []
both_empty [] b e = e
both_empty (k ∷ ks) b e = absurd (omega (arith, ap length e))

-- a word that is not refused, and leads on to another place
moved : (s : Shape) (w after : Walk) (x : Text) (xs : List Text) (at : Spot) (q : Option (List Text)) → walked s.rules [] w x ≡ after → turn_fault s [] w x ≡ []
    → Parses s after xs at q → Parses s w (x ∷ xs) at q
unfolding walk_fault
moved s w after x xs at None leads passes rest = λ e. rest (ap (λ v. walk_fault s [] v xs) (sym leads) ∙ both_empty _ _ e)
moved s w after x xs at (Some operands) leads passes rest = record {
  held = ap (λ v. (fold (walked s.rules []) v xs).held) leads ∙ rest.held;
  fault = ap₂ (λ k v. or_else k (walk_fault s [] v xs)) passes leads ∙ rest.fault;
}

-- a word whose kind is known
steps : (s : Shape) (b : Bool) (h : Held) (p : ℕ) (x : Text) (step : Step) → word_met s.rules [] false (between b) p x h ≡ (h, step)
    → walked s.rules [] (state h (between b) p false) x ≡ after_step s.rules x (state h (between b) p false) h step
unfolding walked
steps s b h p x step met = ap (λ m. after_step s.rules x (state h (between b) p false) m.0 m.1) met

turns : (s : Shape) (b : Bool) (h : Held) (p : ℕ) (x : Text) (step : Step) → word_met s.rules [] false (between b) p x h ≡ (h, step)
    → word_fault s [] false (between b) x h ≡ [] → turn_fault s [] (state h (between b) p false) x ≡ step_fault s p h step
turns s b h p x step met passes = ap₂ (λ k m. or_else k (step_fault s p m.0 m.1)) passes met

-- an operand, and the words after it
plain_step : (s : Shape) (b : Bool) (h : Held) (p : ℕ) (x : Text) (xs : List Text) (o : Option Rule) (q : Option (List Text))
    → word_met s.rules [] false (between b) p x h ≡ (h, value) → word_fault s [] false (between b) x h ≡ [] → arg_by_index s.rules p ≡ o
    → Parses s (to_positional s.rules o x (state h (between b) p false) h) xs (put_at s.rules o (h, p) x) q
    → Parses s (state h (between b) p false) (x ∷ xs) (h, p) (after_operand x q)
unfolding walk_fault
plain_step s b h p x xs o None met passes e rest = λ none.
    rest (ap (λ o. walk_fault s [] (to_positional s.rules o x (state h (between b) p false) h) xs) (sym e)
    ∙ (ap (λ v. walk_fault s [] v xs) (sym (steps s b h p x value met)) ∙ both_empty _ _ none))
plain_step s b h p x xs o (Some operands) met passes e rest =
    let both = one_put s (state h (between b) p false) x xs operands o refl e rest in
    record {
      held = ap (λ v. (fold (walked s.rules []) v xs).held) (steps s b h p x value met) ∙ both.0;
      fault = ap₂ (λ k v. or_else k (walk_fault s [] v xs)) (turns s b h p x value met passes) (steps s b h p x value met) ∙ both.1;
    }

option_word_refused : (s : Shape) (b : Bool) (x : Text) (h : Held) → other_fault s None x h ≡ UnknownArgument ∷ [] → word_fault s [] false (between b) x h ≡ UnknownArgument ∷ []
option_word_refused s true x h e = e
option_word_refused s false x h e = e

pub not_refused : (word rest : Kinds) → word ≡ UnknownArgument ∷ [] → or_else word rest ≡ [] → ⊥
not_refused [] rest e none = omega (arith, ap length e)
not_refused (k ∷ ks) rest e none = omega (arith, ap length none)

not_empty : (word step rest : Kinds) → word ≡ UnknownArgument ∷ [] → or_else (or_else word step) rest ≡ [] → ⊥
not_empty [] step rest e none = omega (arith, ap length e)
not_empty (k ∷ ks) step rest e none = omega (arith, ap length none)

pub leaf_walk : (s : Shape) → IsLeaf s → (words : List Text) → AllUtf8 words → (b : Bool) (h : Held) (p : ℕ) → h.skip ≡ 0
    → Parses s (state h (between b) p false) words (h, p) (operands_of words)
unfolding walk_fault
leaf_walk s leaf [] utf8 b h p skip = record { held = refl; fault = refl }
leaf_walk s leaf (x ∷ xs) utf8 b h p skip = go (leaf_walk s leaf xs utf8.1) (is_end_of_options x) (is_option x) refl refl
  where
    next : ((b : Bool) (h : Held) (p : ℕ) → h.skip ≡ 0 → Parses s (state h (between b) p false) xs (h, p) (operands_of xs))
        → (o : Option Rule) → arg_by_index s.rules p ≡ o
        → Parses s (to_positional s.rules o x (state h (between b) p false) h) xs (put_at s.rules o (h, p) x) (operands_of xs)
    next more None e = more b h p skip
    next more (Some a) e =
        let plain : a.trailing_var_arg ≡ false = ap has_trailing (sym e) ∙ leaf.plain p in
        subst (λ t. Parses s (state (positional_held s.rules a x h) (between (is_multiple a)) (next_position a p) t) xs (positional_held s.rules a x h, next_position a p) (operands_of xs))
        (sym plain) (more (is_multiple a) (positional_held s.rules a x h) (next_position a p) (skip_kept s.rules a x h skip))

    go : ((b : Bool) (h : Held) (p : ℕ) → h.skip ≡ 0 → Parses s (state h (between b) p false) xs (h, p) (operands_of xs))
        → (end option : Bool) → is_end_of_options x ≡ end → is_option x ≡ option
        → Parses s (state h (between b) p false) (x ∷ xs) (h, p) (operands_of (x ∷ xs))
    go more true option is_end is_opt = rw is_end (moved s (state h (between b) p false) (state h (between b) p true) x xs (h, p) (Some xs)
        (steps s b h p x (trailing p) (end_met s.rules b p x h is_end)) (turns s b h p x (trailing p) (end_met s.rules b p x h is_end) (end_passes s b x h is_end))
        (trailing_walk s xs h (between b) p))
    go more false true is_end is_opt = rw (is_end, is_opt) (λ none. not_empty _ _ _ (option_word_refused s b x h (option_refused s x h leaf skip utf8.0 is_end is_opt)) none)
    go more false false is_end is_opt = rw (is_end, is_opt)
        (plain_step s b h p x xs (arg_by_index s.rules p) (operands_of xs) (plain_met s.rules b p x h is_end is_opt) (plain_passes s b x h is_end is_opt) refl
        (next more (arg_by_index s.rules p) refl))

-- ---- a command

abbrev pub end_fault : Shape → Held → Kinds
end_fault s end = or_else (settle_fault s.rules s.args_override_self end)
    (or_else (defaults_fault (settled s.rules end).rows s.rules) (check_fault s (finished s.rules end) false))

abbrev pub start : Spot
start = (nothing_held, 1)

-- how a command with these operands fails, and its rows
abbrev pub operands_fault : Shape → List Text → Kinds
operands_fault s operands = or_else (put_fault s start operands) (end_fault s (fold (put s.rules) start operands).0)

abbrev pub operands_rows : Shape → List Text → List Row
operands_rows s operands = finished s.rules (fold (put s.rules) start operands).0

pub record Level (s : Shape) (words operands : List Text) : Type 0 where
  pub fault : level_fault s [] nothing_held words false [] ≡ operands_fault s operands
  pub rows : rows_after s.rules [] words ≡ operands_rows s operands

abbrev pub Levels : Shape → List Text → Option (List Text) → Type 0
Levels s words None = level_fault s [] nothing_held words false [] ≡ [] → ⊥
Levels s words (Some operands) = Level s words operands

pub first_empty : (a b : Kinds) → or_else a b ≡ [] → a ≡ []
first_empty [] b e = refl
first_empty (k ∷ ks) b e = absurd (omega (arith, ap length e))

level_from : (s : Shape) (words : List Text) (q : Option (List Text)) → Parses s (walk_from nothing_held) words start q → Levels s words q
level_from s words None h = λ e. h (first_empty _ _ e)
level_from s words (Some operands) h = record {
  fault = ap₂ (λ k end. or_else k (end_fault s end)) h.fault h.held;
  rows = ap (finished s.rules) h.held;
}

pub level_is : (s : Shape) → IsLeaf s → (words : List Text) → AllUtf8 words → Levels s words (operands_of words)
level_is s leaf words utf8 = level_from s words (operands_of words) (leaf_walk s leaf words utf8 false nothing_held 1 refl)
