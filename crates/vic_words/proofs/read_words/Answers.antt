use Rattle.std.proofs.Common.{◌≡◌, ◌≤◌, [], IsErrAnd, arith, map, length, string_bytes, rules, subst, sym}
use Rattle.std.proofs.lemmas.List.{length-map}
use Rattle.std.proofs.lemmas.Result.{IfErr-weaker, IfOk-weaker}
use Rattle.clap.specs.Lexer.{usize_max}
use Rattle.clap.specs.Words.{fault_of, subcommand_of, subcommand_rows_of}
use Rattle.vic_words.specs.declared.asked.WordsFault.TheVariants.{Usage}
use Rattle.vic_words.specs.inner.Commands.{commands}
use Rattle.vic_words.specs.inner.Found.{SubcommandAsks, clap_words}
use Rattle.vic_words.proofs.Asking.{all_utf8, asked_is_found, err_is, found_asks}
use Rattle.vic_words.proofs.read_words.Goals as goal

pub returns-in_err-matches_of-clause-usage : goal.returns-in_err-matches_of-clause-usage
returns-in_err-matches_of-clause-usage c =
    let words = c.in_ok-words.words.items in
    let is : map string_bytes words ≡ clap_words (map string_bytes c.args.words.items) = search rules in
    let fits : length (map string_bytes words) ≤ usize_max = omega (arith, length-map words string_bytes) in
    let faulty : c.in_err-matches_of.field-0.0 ≡ Usage → fault_of commands (map string_bytes words) ≡ [] → ⊥ = search rules in
    let same : IsErrAnd c.from_residual-in_err-matches_of.result (λ e. e ≡ c.in_err-matches_of.field-0.0) = search rules in
    err_is c.from_residual-in_err-matches_of.result _ _ same (λ u a asks. faulty u (asked_is_found _ (map string_bytes words) a is (all_utf8 words) fits asks).none)

pub returns-clause-asked : goal.returns-clause-asked
returns-clause-asked c =
    let words = c.in_ok-words.words.items in
    let is : map string_bytes words ≡ clap_words (map string_bytes c.args.words.items) = search rules in
    let none : fault_of commands (map string_bytes words) ≡ [] = search rules in
    let found : subcommand_rows_of c.in_ok-matches_of.field-0 ≡ subcommand_of commands (map string_bytes words) = search rules in
    IfOk-weaker c.asked_by.result _ _ (λ a h. found_asks _ (map string_bytes words) a is (all_utf8 words) none (subst (λ q. SubcommandAsks q a) found h)) c.asked_by.ensures.asked

pub returns-clause-usage : goal.returns-clause-usage
returns-clause-usage c =
    let words = c.in_ok-words.words.items in
    let is : map string_bytes words ≡ clap_words (map string_bytes c.args.words.items) = search rules in
    let fits : length (map string_bytes words) ≤ usize_max = omega (arith, length-map words string_bytes) in
    let found : subcommand_rows_of c.in_ok-matches_of.field-0 ≡ subcommand_of commands (map string_bytes words) = search rules in
    IfErr-weaker c.asked_by.result _ _ (λ e h u a asks. h u a
    (subst (λ q. SubcommandAsks q a) (sym found) (asked_is_found _ (map string_bytes words) a is (all_utf8 words) fits asks).asks)) c.asked_by.ensures.usage
