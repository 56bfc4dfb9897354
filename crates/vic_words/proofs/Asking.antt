-- What clap finds asks for what the words ask for.
use Rattle.std.proofs.Common.{◌≡◌, ◌∙◌, ◌<◌, ◌≤◌, Bool, true, false, List, [], ◌∷◌, length, map, Option, Some, None, refl, sym, ap, subst, arith, codes, option_map, string_bytes, unwrap_or, Result, Ok, Err, IfErr, IsErrAnd}
use Rattle.std.specs.Prelude.{String}
use Rattle.std.proofs.lemmas.List.{length-map}
use Rattle.std.proofs.lemmas.Str.{IsUtf8-string_bytes}
use Rattle.clap.specs.Words.{Row, Text, first_of, fault_of, subcommand_of}
use Rattle.clap.specs.Lexer.{usize_max}
use Rattle.vic_answer.specs.declared.task.Task.{Task}
use Rattle.vic_answer.specs.declared.task.Task.TheVariants.{Check, Simulate, Explain, Report, Margin, Frame, Spell}
use Rattle.vic_words.specs.Words.{Ask, HasFile, is_end_of_options, operands_of, spelled_words}
use Rattle.vic_words.specs.inner.Commands.{commands}
use Rattle.vic_words.specs.inner.Found.{FileAsks, RowsAsk, SubcommandAsks, TaskAsks, clap_words, lacks_end_of_options, words_found}
use Rattle.vic_words.specs.declared.asked.Asked.{Asked}
use Rattle.vic_words.specs.declared.asked.Asked.TheVariants.{Task as OneTask, Json, Files}
use Rattle.vic_words.specs.declared.asked.FilesCommand.TheVariants.{Reconcile, Survey, Collection, JsonCollection}
use Rattle.vic_words.proofs.Leaf.{AllUtf8}
use Rattle.vic_words.proofs.Levels.{fault_at, file_asked, file_given, hex_asked, hex_given, rows_at, words_asked, words_given}
use Rattle.vic_words.proofs.Shapes.{one_shape, words_shape}
use Rattle.vic_words.proofs.Top.{Entered, check_entered, explain_entered, files_entered, frame_entered, json_entered, margin_entered, no_words_given, only_the_program, report_entered, same_name, simulate_entered, some≢none, spell_entered}

pub all_utf8 : {Z : Type 0} (words : List (String Z)) → AllUtf8 (map string_bytes words)
all_utf8 [] = tt
all_utf8 (x ∷ xs) = (IsUtf8-string_bytes x, all_utf8 xs)

-- clap finds this among the words that it is given
pub record Finds (clapped : List Text) (name : Text) (rows : List Row) : Type 0 where
  pub none : fault_of commands clapped ≡ []
  pub found : subcommand_of commands clapped ≡ Some (name, rows)

-- ---- the words that clap is given

-- the program's name and the command's stay in front
pub record Heads (program w : Text) (clapped : List Text) : Type 0 where
  pub rest : List Text
  pub is : clapped ≡ program ∷ w ∷ rest

heads : (program w : Text) (words : List Text) → Heads program w (clap_words (program ∷ w ∷ words))
heads program w words = go (lacks_end_of_options (program ∷ w ∷ words)) refl
  where
    go : (t : Bool) → lacks_end_of_options (program ∷ w ∷ words) ≡ t → Heads program w (clap_words (program ∷ w ∷ words))
    go true e = record { rest = codes "--" ∷ words; is = rw e refl }
    go false e = record { rest = words; is = rw e refl }

-- clap takes each word behind `spell` for an operand
pub record Spelled (program : Text) (words : List Text) : Type 0 where
  pub rest : List Text
  pub is : clap_words (program ∷ codes "spell" ∷ words) ≡ program ∷ codes "spell" ∷ rest
  pub operands : operands_of rest ≡ Some (spelled_words words)

spelled : (program : Text) (words : List Text) → Spelled program words
spelled program [] = record { rest = codes "--" ∷ []; is = refl; operands = refl }
spelled program (x ∷ xs) = go (is_end_of_options x) refl
  where
    go : (t : Bool) → is_end_of_options x ≡ t → Spelled program (x ∷ xs)
    go true e = record { rest = x ∷ xs; is = rw e refl; operands = rw e refl }
    go false e = record { rest = codes "--" ∷ x ∷ xs; is = rw e refl; operands = rw e refl }

-- ---- what is found is asked for

pair_name : (a b : Text) (r q : List Row) → ◌≡◌ {A = Option (Text × List Row)} (Some (a, r)) (Some (b, q)) → r ≡ q
pair_name a b r q e = ap (λ (o : Option (Text × List Row)). unwrap_or (option_map (λ p. p.1) o) []) e

pub record AtName (w n : Text) (program : Text) (words : List Text) (rows : List Row) : Type 0 where
  pub named : w ≡ n
  pub utf8 : AllUtf8 (clap_words (program ∷ n ∷ words))
  pub finds : Finds (clap_words (program ∷ n ∷ words)) n rows

at_name : (n program w name : Text) (words : List Text) (rows : List Row) → AllUtf8 (clap_words (program ∷ w ∷ words))
    → Finds (clap_words (program ∷ w ∷ words)) name rows → name ≡ n → AtName w n program words rows
at_name n program w name words rows utf8 finds is = go (heads program w words)
  where
    go : Heads program w (clap_words (program ∷ w ∷ words)) → AtName w n program words rows
    go h =
        let utf8' : AllUtf8 (program ∷ w ∷ h.rest) = subst AllUtf8 h.is utf8 in
        let finds' : Finds (program ∷ w ∷ h.rest) name rows = subst (λ c. Finds c name rows) h.is finds in
        let named : w ≡ n = same_name program w name h.rest utf8'.1.0 finds'.none (ap (option_map (λ p. p.0)) finds'.found) ∙ is in
        record {
          named = named;
          utf8 = subst (λ v. AllUtf8 (clap_words (program ∷ v ∷ words))) named utf8;
          finds = subst (λ v. Finds (clap_words (program ∷ v ∷ words)) n rows) named (subst (λ m. Finds (clap_words (program ∷ w ∷ words)) m rows) is finds);
        }

-- what a command finds, by what its own words come to
pub record Below (s : Rattle.clap.specs.Words.Shape) (words : List Text) (rows : List Row) : Type 0 where
  pub none : fault_at s words ≡ []
  pub rows_are : rows_at s words ≡ rows

below : (n : Text) (s : Rattle.clap.specs.Words.Shape) (program : Text) (words : List Text) (rows : List Row) → Entered n s → Finds (program ∷ n ∷ words) n rows → Below s words rows
below n s program words rows entered finds = record {
  none = sym (entered.fault program words) ∙ finds.none;
  rows_are = pair_name n n _ rows (sym (entered.rows program words) ∙ finds.found);
}

file_to : (n program : Text) (words : List Text) (rows : List Row) (f : Option Text) → Entered n (one_shape n (codes "file") false) → AllUtf8 words → Finds (program ∷ n ∷ words) n rows
    → first_of (codes "file") rows ≡ f → HasFile words f
file_to n program words rows f entered utf8 finds is =
    let b = below n (one_shape n (codes "file") false) program words rows entered finds in
    subst (HasFile words) (ap (first_of (codes "file")) b.rows_are ∙ is) (file_given n words utf8 b.none)

some_cons : (a b : List Text) → Some a ≡ Some b → a ≡ b
some_cons a b e = cc

spell_to : (program : Text) (words : List Text) (rows : List Row) (ws : List Text) → AllUtf8 (clap_words (program ∷ codes "spell" ∷ words))
    → Finds (clap_words (program ∷ codes "spell" ∷ words)) (codes "spell") rows → ws ≡ words_found rows → (ws ≡ spelled_words words) × (0 < length ws)
spell_to program words rows ws utf8 finds is = go (spelled program words)
  where
    go : Spelled program words → (ws ≡ spelled_words words) × (0 < length ws)
    go p =
        let utf8' : AllUtf8 (program ∷ codes "spell" ∷ p.rest) = subst AllUtf8 p.is utf8 in
        let finds' : Finds (program ∷ codes "spell" ∷ p.rest) (codes "spell") rows = subst (λ c. Finds c (codes "spell") rows) p.is finds in
        let b = below (codes "spell") (words_shape (codes "spell")) program p.rest rows spell_entered finds' in
        let given = words_given (codes "spell") p.rest utf8'.1.1 b.none in
        let are : words_found (rows_at (words_shape (codes "spell")) p.rest) ≡ ws = ap words_found b.rows_are ∙ sym is in
        (some_cons _ _ (ap Some (sym are) ∙ sym given.0 ∙ p.operands), omega (arith, given.1, ap length are))

files_to : (n program : Text) (words : List Text) (rows : List Row) (ws : List Text) → Entered n (words_shape n) → AllUtf8 words → Finds (program ∷ n ∷ words) n rows
    → ws ≡ words_found rows → (operands_of words ≡ Some ws) × (0 < length ws)
files_to n program words rows ws entered utf8 finds is =
    let b = below n (words_shape n) program words rows entered finds in
    let given = words_given n words utf8 b.none in
    let are : words_found (rows_at (words_shape n) words) ≡ ws = ap words_found b.rows_are ∙ sym is in
    (given.0 ∙ ap Some are, omega (arith, given.1, ap length are))

pub rows_to_words : (words : List Text) (name : Text) (rows : List Row) (asked : Asked) → AllUtf8 (clap_words words) → Finds (clap_words words) name rows → RowsAsk name rows asked → Ask words asked
rows_to_words [] name rows asked utf8 finds h = absurd (some≢none name (ap (option_map (λ p. p.0)) (sym finds.found ∙ no_words_given)))
rows_to_words (program ∷ []) name rows asked utf8 finds h = absurd (some≢none name (ap (option_map (λ p. p.0)) (sym finds.found ∙ only_the_program program)))
rows_to_words (program ∷ w ∷ words) name rows (OneTask (Check file)) utf8 finds h =
    let a = at_name (codes "check") program w name words rows utf8 finds h.0 in
    (a.named, file_to (codes "check") program words rows _ check_entered a.utf8.1.1 a.finds h.1)
rows_to_words (program ∷ w ∷ words) name rows (OneTask (Simulate file)) utf8 finds h =
    let a = at_name (codes "simulate") program w name words rows utf8 finds h.0 in
    (a.named, file_to (codes "simulate") program words rows _ simulate_entered a.utf8.1.1 a.finds h.1)
rows_to_words (program ∷ w ∷ words) name rows (OneTask (Explain file)) utf8 finds h =
    let a = at_name (codes "explain") program w name words rows utf8 finds h.0 in
    (a.named, file_to (codes "explain") program words rows _ explain_entered a.utf8.1.1 a.finds h.1)
rows_to_words (program ∷ w ∷ words) name rows (OneTask (Report file)) utf8 finds h =
    let a = at_name (codes "report") program w name words rows utf8 finds h.0 in
    (a.named, file_to (codes "report") program words rows _ report_entered a.utf8.1.1 a.finds h.1)
rows_to_words (program ∷ w ∷ words) name rows (OneTask (Margin file)) utf8 finds h =
    let a = at_name (codes "margin") program w name words rows utf8 finds h.0 in
    (a.named, file_to (codes "margin") program words rows _ margin_entered a.utf8.1.1 a.finds h.1)
rows_to_words (program ∷ w ∷ words) name rows (OneTask (Frame hex)) utf8 finds h =
    let a = at_name (codes "frame") program w name words rows utf8 finds h.0 in
    let b = below (codes "frame") (one_shape (codes "frame") (codes "hex") true) program words rows frame_entered a.finds in
    (a.named, hex_given (codes "frame") words (string_bytes hex) a.utf8.1.1 b.none (ap (first_of (codes "hex")) b.rows_are ∙ h.1))
rows_to_words (program ∷ w ∷ words) name rows (OneTask (Spell spelled)) utf8 finds h =
    let a = at_name (codes "spell") program w name words rows utf8 finds h.0 in
    let p = spell_to program words rows (map string_bytes spelled.items) a.utf8 a.finds h.1 in
    (a.named, p.0, omega (arith, p.1, length-map spelled.items string_bytes))
rows_to_words (program ∷ w ∷ words) name rows (Json file) utf8 finds h =
    let a = at_name (codes "json") program w name words rows utf8 finds h.0 in
    (a.named, file_to (codes "json") program words rows _ json_entered a.utf8.1.1 a.finds h.1)
rows_to_words (program ∷ w ∷ words) name rows (Files Reconcile files) utf8 finds h =
    let a = at_name (codes "reconcile") program w name words rows utf8 finds h.0 in
    let p = files_to (codes "reconcile") program words rows (map string_bytes files.items) (files_entered Reconcile) a.utf8.1.1 a.finds h.1 in
    (a.named, p.0, omega (arith, p.1, length-map files.items string_bytes))
rows_to_words (program ∷ w ∷ words) name rows (Files Survey files) utf8 finds h =
    let a = at_name (codes "survey") program w name words rows utf8 finds h.0 in
    let p = files_to (codes "survey") program words rows (map string_bytes files.items) (files_entered Survey) a.utf8.1.1 a.finds h.1 in
    (a.named, p.0, omega (arith, p.1, length-map files.items string_bytes))
rows_to_words (program ∷ w ∷ words) name rows (Files Collection files) utf8 finds h =
    let a = at_name (codes "collection") program w name words rows utf8 finds h.0 in
    let p = files_to (codes "collection") program words rows (map string_bytes files.items) (files_entered Collection) a.utf8.1.1 a.finds h.1 in
    (a.named, p.0, omega (arith, p.1, length-map files.items string_bytes))
rows_to_words (program ∷ w ∷ words) name rows (Files JsonCollection files) utf8 finds h =
    let a = at_name (codes "json-collection") program w name words rows utf8 finds h.0 in
    let p = files_to (codes "json-collection") program words rows (map string_bytes files.items) (files_entered JsonCollection) a.utf8.1.1 a.finds h.1 in
    (a.named, p.0, omega (arith, p.1, length-map files.items string_bytes))

-- ---- what is asked for is found

pub record FindsFor (clapped : List Text) (asked : Asked) : Type 0 where
  pub name : Text
  pub rows : List Row
  pub finds : Finds clapped name rows
  pub asks : RowsAsk name rows asked

finds_below : (n : Text) (s : Rattle.clap.specs.Words.Shape) (program : Text) (words : List Text) → Entered n s → fault_at s words ≡ [] → Finds (program ∷ n ∷ words) n (rows_at s words)
finds_below n s program words entered none = record { none = entered.fault program words ∙ none; found = entered.rows program words }

-- the words behind a command's name, of which clap takes each operand for one
module _ (program : Text) (words : List Text) (asked : Asked) where
  abbrev For : Text → Type 0
  For w = AllUtf8 (clap_words (program ∷ w ∷ words)) → length (clap_words (program ∷ w ∷ words)) ≤ usize_max → FindsFor (clap_words (program ∷ w ∷ words)) asked

  by_name : (n w : Text) → w ≡ n → For n → For w
  by_name n w is h = subst For (sym is) h

file_from : (n : Text) (program : Text) (words : List Text) (f : Option Text) → Entered n (one_shape n (codes "file") false) → AllUtf8 words → HasFile words f
    → Finds (program ∷ n ∷ words) n (rows_at (one_shape n (codes "file") false) words) × (first_of (codes "file") (rows_at (one_shape n (codes "file") false) words) ≡ f)
file_from n program words f entered utf8 has =
    let a = file_asked n words f utf8 has in
    (finds_below n (one_shape n (codes "file") false) program words entered a.0, a.1)

pub words_to_rows : (words : List Text) (asked : Asked) → AllUtf8 (clap_words words) → length (clap_words words) ≤ usize_max → Ask words asked → FindsFor (clap_words words) asked
words_to_rows [] asked utf8 fits h = absurd h
words_to_rows (program ∷ []) asked utf8 fits h = absurd h
words_to_rows (program ∷ w ∷ words) (OneTask (Check file)) utf8 fits h = by_name program words (OneTask (Check file)) (codes "check") w h.0 (λ utf8 fits.
    let f = file_from (codes "check") program words _ check_entered utf8.1.1 h.1 in record { name = codes "check"; rows = _; finds = f.0; asks = (refl, f.1) }) utf8 fits
words_to_rows (program ∷ w ∷ words) (OneTask (Simulate file)) utf8 fits h = by_name program words (OneTask (Simulate file)) (codes "simulate") w h.0 (λ utf8 fits.
    let f = file_from (codes "simulate") program words _ simulate_entered utf8.1.1 h.1 in record { name = codes "simulate"; rows = _; finds = f.0; asks = (refl, f.1) }) utf8 fits
words_to_rows (program ∷ w ∷ words) (OneTask (Explain file)) utf8 fits h = by_name program words (OneTask (Explain file)) (codes "explain") w h.0 (λ utf8 fits.
    let f = file_from (codes "explain") program words _ explain_entered utf8.1.1 h.1 in record { name = codes "explain"; rows = _; finds = f.0; asks = (refl, f.1) }) utf8 fits
words_to_rows (program ∷ w ∷ words) (OneTask (Report file)) utf8 fits h = by_name program words (OneTask (Report file)) (codes "report") w h.0 (λ utf8 fits.
    let f = file_from (codes "report") program words _ report_entered utf8.1.1 h.1 in record { name = codes "report"; rows = _; finds = f.0; asks = (refl, f.1) }) utf8 fits
words_to_rows (program ∷ w ∷ words) (OneTask (Margin file)) utf8 fits h = by_name program words (OneTask (Margin file)) (codes "margin") w h.0 (λ utf8 fits.
    let f = file_from (codes "margin") program words _ margin_entered utf8.1.1 h.1 in record { name = codes "margin"; rows = _; finds = f.0; asks = (refl, f.1) }) utf8 fits
words_to_rows (program ∷ w ∷ words) (OneTask (Frame hex)) utf8 fits h = by_name program words (OneTask (Frame hex)) (codes "frame") w h.0 (λ utf8 fits.
    let a = hex_asked (codes "frame") words (string_bytes hex) utf8.1.1 h.1 in
    record { name = codes "frame"; rows = _; finds = finds_below (codes "frame") (one_shape (codes "frame") (codes "hex") true) program words frame_entered a.0; asks = (refl, a.1) }) utf8 fits
words_to_rows (program ∷ w ∷ words) (OneTask (Spell ws)) utf8 fits h = by_name program words (OneTask (Spell ws)) (codes "spell") w h.0 (λ utf8 fits.
    let p = spelled program words in
    let utf8' : AllUtf8 (program ∷ codes "spell" ∷ p.rest) = subst AllUtf8 p.is utf8 in
    let fits' : length (program ∷ codes "spell" ∷ p.rest) ≤ usize_max = subst (λ c. length c ≤ usize_max) p.is fits in
    let a = words_asked (codes "spell") p.rest (spelled_words words) utf8'.1.1 p.operands (omega (arith, h.2, ap length h.1, length-map ws.items string_bytes)) (omega arith) in
    record {
      name = codes "spell";
      rows = _;
      finds = subst (λ c. Finds c (codes "spell") (rows_at (words_shape (codes "spell")) p.rest)) (sym p.is) (finds_below (codes "spell") (words_shape (codes "spell")) program p.rest spell_entered a.0);
      asks = (refl, h.1 ∙ sym a.1);
    }) utf8 fits
words_to_rows (program ∷ w ∷ words) (Json file) utf8 fits h = by_name program words (Json file) (codes "json") w h.0 (λ utf8 fits.
    let f = file_from (codes "json") program words _ json_entered utf8.1.1 h.1 in record { name = codes "json"; rows = _; finds = f.0; asks = (refl, f.1) }) utf8 fits
words_to_rows (program ∷ w ∷ words) (Files Reconcile files) utf8 fits h = by_name program words (Files Reconcile files) (codes "reconcile") w h.0 (λ utf8 fits.
    let a = words_asked (codes "reconcile") words (map string_bytes files.items) utf8.1.1 h.1 (omega (arith, h.2, length-map files.items string_bytes)) (omega arith) in
    record { name = codes "reconcile"; rows = _; finds = finds_below (codes "reconcile") (words_shape (codes "reconcile")) program words (files_entered Reconcile) a.0; asks = (refl, sym a.1) }) utf8 fits
words_to_rows (program ∷ w ∷ words) (Files Survey files) utf8 fits h = by_name program words (Files Survey files) (codes "survey") w h.0 (λ utf8 fits.
    let a = words_asked (codes "survey") words (map string_bytes files.items) utf8.1.1 h.1 (omega (arith, h.2, length-map files.items string_bytes)) (omega arith) in
    record { name = codes "survey"; rows = _; finds = finds_below (codes "survey") (words_shape (codes "survey")) program words (files_entered Survey) a.0; asks = (refl, sym a.1) }) utf8 fits
words_to_rows (program ∷ w ∷ words) (Files Collection files) utf8 fits h = by_name program words (Files Collection files) (codes "collection") w h.0 (λ utf8 fits.
    let a = words_asked (codes "collection") words (map string_bytes files.items) utf8.1.1 h.1 (omega (arith, h.2, length-map files.items string_bytes)) (omega arith) in
    record { name = codes "collection"; rows = _; finds = finds_below (codes "collection") (words_shape (codes "collection")) program words (files_entered Collection) a.0; asks = (refl, sym a.1) }) utf8 fits
words_to_rows (program ∷ w ∷ words) (Files JsonCollection files) utf8 fits h = by_name program words (Files JsonCollection files) (codes "json-collection") w h.0 (λ utf8 fits.
    let a = words_asked (codes "json-collection") words (map string_bytes files.items) utf8.1.1 h.1 (omega (arith, h.2, length-map files.items string_bytes)) (omega arith) in
    record { name = codes "json-collection"; rows = _; finds = finds_below (codes "json-collection") (words_shape (codes "json-collection")) program words (files_entered JsonCollection) a.0; asks = (refl, sym a.1) }) utf8 fits

-- ---- by what is found at once

pub found_asks : (words clapped : List Text) (asked : Asked) → clapped ≡ clap_words words → AllUtf8 clapped → fault_of commands clapped ≡ []
    → SubcommandAsks (subcommand_of commands clapped) asked → Ask words asked
found_asks words clapped asked is utf8 none h = go (subcommand_of commands clapped) refl h
  where
    go : (q : Option (Text × List Row)) → subcommand_of commands clapped ≡ q → SubcommandAsks q asked → Ask words asked
    go None e h = absurd h
    go (Some p) e h = rows_to_words words p.0 p.1 asked (subst AllUtf8 is utf8) (subst (λ c. Finds c p.0 p.1) is (record { none = none; found = e })) h

pub record IsFound (clapped : List Text) (asked : Asked) : Type 0 where
  pub none : fault_of commands clapped ≡ []
  pub asks : SubcommandAsks (subcommand_of commands clapped) asked

pub asked_is_found : (words clapped : List Text) (asked : Asked) → clapped ≡ clap_words words → AllUtf8 clapped → length clapped ≤ usize_max → Ask words asked → IsFound clapped asked
asked_is_found words clapped asked is utf8 fits h = go (words_to_rows words asked (subst AllUtf8 is utf8) (subst (λ c. length c ≤ usize_max) is fits) h)
  where
    go : FindsFor (clap_words words) asked → IsFound clapped asked
    go f = subst (λ c. IsFound c asked) (sym is) (record { none = f.finds.none; asks = subst (λ q. SubcommandAsks q asked) (sym f.finds.found) f.asks })

-- ---- a command that is neither `frame` nor `spell`

pub other_command : (name : Text) (rows : List Row) (task : Task) → (name ≡ codes "frame" → ⊥) → (name ≡ codes "spell" → ⊥) → TaskAsks name rows task
    → FileAsks name (first_of (codes "file") rows) task
other_command name rows (Check file) frame spell h = h
other_command name rows (Simulate file) frame spell h = h
other_command name rows (Explain file) frame spell h = h
other_command name rows (Report file) frame spell h = h
other_command name rows (Margin file) frame spell h = h
other_command name rows (Frame hex) frame spell h = absurd (frame h.0)
other_command name rows (Spell ws) frame spell h = absurd (spell h.0)

-- ---- an error that was passed up

pub err_is : {X E : Type 0} (r : Result X E) (e : E) (P : E → Type 0) → IsErrAnd r (λ y. y ≡ e) → P e → IfErr r P
err_is (Ok x) e P same h = absurd same
err_is (Err y) e P same h = subst P (sym same) h
