-- A line split byte by byte.
use Rattle.vic_table.proofs.Words.{◌≡◌, ℕ, ◌≤◌, ◌-◌, List, [], ◌∷◌, ◌++◌, Option, Some, None, refl, sym, ap, ap₂, ◌∙◌, arith, nat_tests, append_assoc, append-nil, length, drop, take, All, AllByRecursion, length-append, length-drop, take_all, drop-append-le, take-append-le, All-push, All-weaker, drop_all, ◌≢◌, recursion_from_All, map-append}
use Rattle.std.specs.Prelude.{⊤}
use Rattle.vic_table.specs.Cells.{with_byte, with_cell, cells_from}
use Rattle.vic_table.specs.declared.cells.Span.{Span}
use Rattle.vic_table.specs.declared.cells.Spot.{Spot}
use Rattle.vic_table.specs.declared.cells.Spot.TheVariants.{Begin, Plain, Quoted, Closed}
use Rattle.vic_table.specs.declared.cells.Step.{Step}
use Rattle.vic_table.specs.declared.cells.Step.TheVariants.{Skips, Keeps, Ends, Wrong}
use Rattle.vic_table.specs.inner.Spans.{IsWithin, span_bytes, span_cells, joined, after_step}

-- some cells, if any
abbrev pub HasSome : Option (List (List ℕ)) → Type 0
HasSome None = ⊤
HasSome (Some []) = ⊥
HasSome (Some (cell ∷ cells)) = ⊤

with_byte-some : (b : ℕ) (o : Option (List (List ℕ))) → HasSome (with_byte b o)
with_byte-some b None = tt
with_byte-some b (Some []) = tt
with_byte-some b (Some (cell ∷ cells)) = tt

with_cell-some : (o : Option (List (List ℕ))) → HasSome (with_cell o)
with_cell-some None = tt
with_cell-some (Some cells) = tt

pub has_some : (separator : ℕ) (spot : Spot) (line : List ℕ) → HasSome (cells_from separator spot line)
has_some separator Begin [] = tt
has_some separator Plain [] = tt
has_some separator Quoted [] = tt
has_some separator Closed [] = tt
has_some separator Begin (b ∷ line) = grind (arith, nat_tests, with_byte-some, with_cell-some, has_some separator Quoted line)
has_some separator Plain (b ∷ line) = grind (arith, nat_tests, with_byte-some, with_cell-some)
has_some separator Quoted (b ∷ line) = grind (arith, nat_tests, with_byte-some, has_some separator Closed line)
has_some separator Closed (b ∷ line) = grind (arith, nat_tests, with_byte-some, with_cell-some)

pub joined-byte : (cells : List (List ℕ)) (front : List ℕ) (b : ℕ) (o : Option (List (List ℕ))) → joined cells front (with_byte b o) ≡ joined cells (front ++ b ∷ []) o
joined-byte cells front b None = refl
joined-byte cells front b (Some []) = refl
joined-byte cells front b (Some (cell ∷ more)) = ap (λ c. Some (cells ++ c ∷ more)) (sym (append_assoc front (b ∷ []) cell))

pub joined-cell : (cells : List (List ℕ)) (front : List ℕ) (o : Option (List (List ℕ))) → HasSome o → joined cells front (with_cell o) ≡ joined (cells ++ front ∷ []) [] o
joined-cell cells front None h = refl
joined-cell cells front (Some []) h = absurd h
joined-cell cells front (Some (cell ∷ more)) h = ap Some (ap (λ c. cells ++ c ∷ cell ∷ more) (append-nil front) ∙ sym (append_assoc cells (front ∷ []) (cell ∷ more)))

pub joined-end : (cells : List (List ℕ)) (front : List ℕ) → joined cells front (Some ([] ∷ [])) ≡ Some (cells ++ front ∷ [])
joined-end cells front = ap (λ c. Some (cells ++ c ∷ [])) (append-nil front)

-- ---- the cells kept so far

span_bytes-more : (bytes more : List ℕ) (s : Span) → IsWithin (length bytes) s → span_bytes (bytes ++ more) s ≡ span_bytes bytes s
span_bytes-more bytes more s w =
    ap (take (s.end - s.start)) (drop-append-le s.start bytes more (omega (arith, w.low, w.high)))
    ∙ take-append-le (s.end - s.start) (drop s.start bytes) more (omega (arith, w.low, w.high, length-drop s.start bytes))

span_cells-rec : (bytes more : List ℕ) (spans : List Span) → AllByRecursion (IsWithin (length bytes)) spans → span_cells (bytes ++ more) spans ≡ span_cells bytes spans
span_cells-rec bytes more [] w = refl
span_cells-rec bytes more (s ∷ spans) w = ap₂ (λ x xs. x ∷ xs) (span_bytes-more bytes more s w.0) (span_cells-rec bytes more spans w.1)

pub span_cells-more : (bytes more : List ℕ) (spans : List Span) → All (IsWithin (length bytes)) spans → span_cells (bytes ++ more) spans ≡ span_cells bytes spans
span_cells-more bytes more spans w = span_cells-rec bytes more spans (recursion_from_All (IsWithin (length bytes)) spans w)

pub within-more : (bytes : List ℕ) (b : ℕ) (spans : List Span) → All (IsWithin (length bytes)) spans → All (IsWithin (length (bytes ++ b ∷ []))) spans
within-more bytes b spans w = All-weaker (IsWithin (length bytes)) (IsWithin (length (bytes ++ b ∷ []))) (λ s h. record { low = h.low; high = omega (arith, h.high, length-append bytes (b ∷ [])) }) spans w

pub span_last : (bytes : List ℕ) (start : ℕ) → span_bytes bytes (record { start = start; end = length bytes }) ≡ drop start bytes
span_last bytes start = take_all (length bytes - start) (drop start bytes) (omega (arith, length-drop start bytes))

pub span_cells-push : (bytes : List ℕ) (spans : List Span) (start : ℕ) → span_cells bytes (spans ++ record { start = start; end = length bytes } ∷ []) ≡ span_cells bytes spans ++ drop start bytes ∷ []
span_cells-push bytes spans start = map-append (span_bytes bytes) spans (record { start = start; end = length bytes } ∷ []) ∙ ap (λ cell. span_cells bytes spans ++ cell ∷ []) (span_last bytes start)

-- ---- a line split up to some bytes

-- what is kept of the line before the rest
pub record IsSplit (separator : ℕ) (line bytes : List ℕ) (spans : List Span) (start : ℕ) (spot : Spot) (rest : List ℕ) : Type 0 where
  pub low : start ≤ length bytes
  pub within : All (IsWithin (length bytes)) spans
  pub so_far : cells_from separator Begin line ≡ joined (span_cells bytes spans) (drop start bytes) (cells_from separator spot rest)

module _ {separator : ℕ} {line bytes : List ℕ} {spans : List Span} {start : ℕ} {spot : Spot} {rest : List ℕ} (s : IsSplit separator line bytes spans start spot rest) (b : ℕ) (more : List ℕ) (next : Step) (e : rest ≡ b ∷ more) (steps : cells_from separator spot (b ∷ more) ≡ after_step separator b next more) where
  ahead : cells_from separator spot rest ≡ after_step separator b next more
  ahead = ap (cells_from separator spot) e ∙ steps

  pub split_skips : (to : Spot) → next ≡ Skips to → IsSplit separator line bytes spans start to more
  split_skips to is = record { low = s.low; within = s.within; so_far = s.so_far ∙ ap (joined (span_cells bytes spans) (drop start bytes)) (ahead ∙ ap (λ n. after_step separator b n more) is) }

  pub split_keeps : (to : Spot) → next ≡ Keeps to → IsSplit separator line (bytes ++ b ∷ []) spans start to more
  split_keeps to is = record {
    low = omega (arith, s.low, length-append bytes (b ∷ []));
    within = within-more bytes b spans s.within;
    so_far = s.so_far
        ∙ (ap (joined (span_cells bytes spans) (drop start bytes)) (ahead ∙ ap (λ n. after_step separator b n more) is)
        ∙ (joined-byte (span_cells bytes spans) (drop start bytes) b (cells_from separator to more)
        ∙ ap₂ (λ cells front. joined cells front (cells_from separator to more)) (sym (span_cells-more bytes (b ∷ []) spans s.within)) (sym (drop-append-le start bytes (b ∷ []) s.low))));
  }

  pub split_ends : next ≡ Ends → IsSplit separator line bytes (spans ++ record { start = start; end = length bytes } ∷ []) (length bytes) Begin more
  split_ends is = record {
    low = omega arith;
    within = All-push (IsWithin (length bytes)) spans (record { start = start; end = length bytes }) s.within (record { low = s.low; high = omega arith });
    so_far = s.so_far
        ∙ (ap (joined (span_cells bytes spans) (drop start bytes)) (ahead ∙ ap (λ n. after_step separator b n more) is)
        ∙ (joined-cell (span_cells bytes spans) (drop start bytes) (cells_from separator Begin more) (has_some separator Begin more)
        ∙ ap₂ (λ cells front. joined cells front (cells_from separator Begin more)) (sym (span_cells-push bytes spans start)) (sym (drop_all (length bytes) bytes (omega arith)))));
  }

  pub split_wrong : next ≡ Wrong → cells_from separator Begin line ≡ None
  split_wrong is = s.so_far ∙ ap (joined (span_cells bytes spans) (drop start bytes)) (ahead ∙ ap (λ n. after_step separator b n more) is)

no_more : (separator : ℕ) (spot : Spot) → spot ≢ Quoted → cells_from separator spot [] ≡ Some ([] ∷ [])
no_more separator Begin h = refl
no_more separator Plain h = refl
no_more separator Quoted h = absurd (h refl)
no_more separator Closed h = refl

module _ {separator : ℕ} {line bytes : List ℕ} {spans : List Span} {start : ℕ} {spot : Spot} (s : IsSplit separator line bytes spans start spot []) where
  pub split_whole : spot ≢ Quoted → cells_from separator Begin line ≡ Some (span_cells bytes (spans ++ record { start = start; end = length bytes } ∷ []))
  split_whole closed =
      s.so_far
      ∙ (ap (joined (span_cells bytes spans) (drop start bytes)) (no_more separator spot closed)
      ∙ (joined-end (span_cells bytes spans) (drop start bytes) ∙ ap Some (sym (span_cells-push bytes spans start))))

  pub split_open : spot ≡ Quoted → cells_from separator Begin line ≡ None
  split_open is = s.so_far ∙ ap (λ t. joined (span_cells bytes spans) (drop start bytes) (cells_from separator t [])) is

joined-none : (o : Option (List (List ℕ))) → HasSome o → o ≡ joined [] [] o
joined-none None h = refl
joined-none (Some []) h = absurd h
joined-none (Some (cell ∷ cells)) h = refl

pub split_begin : (separator : ℕ) (line bytes : List ℕ) (spans : List Span) → bytes ≡ [] → spans ≡ [] → IsSplit separator line bytes spans 0 Begin line
split_begin separator line bytes spans no_bytes no_spans = record {
  low = omega arith;
  within = rw no_spans (λ k d lt. absurd (omega arith));
  so_far = rw (no_bytes, no_spans) (joined-none (cells_from separator Begin line) (has_some separator Begin line));
}

pub split_within : {separator : ℕ} {line bytes : List ℕ} {spans : List Span} {start : ℕ} {spot : Spot} {rest : List ℕ} → IsSplit separator line bytes spans start spot rest → All (IsWithin (length bytes)) (spans ++ record { start = start; end = length bytes } ∷ [])
split_within {bytes = bytes} {spans = spans} {start = start} s = All-push (IsWithin (length bytes)) spans (record { start = start; end = length bytes }) s.within (record { low = s.low; high = omega arith })
