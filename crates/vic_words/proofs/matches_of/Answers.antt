use Rattle.std.proofs.Common.{◌≡◌, true, [], ◌∷◌, map, string_bytes, IfErr, IsErrAnd, Result, Ok, Err, rules, subst, sym, ⊎_elim}
use Rattle.clap.specs.Faults.{is_simple_and_free}
use Rattle.clap.specs.Kinds.{HasKind, Kinds}
use Rattle.clap.specs.Words.{App, app_of, fault_of, is_simple, kind_of, subcommand_of, subcommand_rows_of}
use Rattle.clap.specs.declared.error.Error.{Error}
use Rattle.clap.specs.declared.error.kind.ErrorKind.TheVariants.{OutOfMemory}
use Rattle.vic_words.specs.declared.asked.WordsFault.TheVariants.{Usage}
use Rattle.vic_words.specs.inner.Commands.{commands}
use Rattle.vic_words.proofs.Top.{simple, simple_and_free}
use Rattle.vic_words.proofs.matches_of.Goals as goal

-- an error that isn't refused memory is one of the kinds of the words
some_kind : (kinds : Kinds) (e : Error) → HasKind kinds e → (kind_of e ≡ OutOfMemory → ⊥) → kinds ≡ [] → ⊥
some_kind [] e h other none = ⊎_elim other (λ among. among) h
some_kind (k ∷ ks) e h other none = cc

err_weaker : {X E : Type 0} (r : Result X E) (P Q : E → Type 0) → IsErrAnd r P → ((e : E) → P e → Q e) → IfErr r Q
err_weaker (Ok x) P Q h f = absurd h
err_weaker (Err e) P Q h f = f e h

pub returns-in_err-try_get_matches_from-clause-usage : goal.returns-in_err-try_get_matches_from-clause-usage
returns-in_err-try_get_matches_from-clause-usage c =
    let is : app_of c.in_ok-commands.field-0 ≡ commands = c.in_ok-commands.ensures in
    let free = subst (λ (a : App). is_simple_and_free a ≡ true) (sym is) simple_and_free in
    let kinds = subst (λ (a : App). HasKind (fault_of a (map string_bytes c.args.words.now)) c.in_err-try_get_matches_from.field-0.0) is (c.in_err-try_get_matches_from.ensures.kinds free) in
    let given : IsErrAnd c.from_residual-in_err-try_get_matches_from.result (λ e. e ≡ Usage → kind_of c.in_err-try_get_matches_from.field-0.0 ≡ OutOfMemory → ⊥) = search rules in
    err_weaker c.from_residual-in_err-try_get_matches_from.result _ _ given (λ e other usage. some_kind _ c.in_err-try_get_matches_from.field-0.0 kinds (other usage))

pub returns-clause-none : goal.returns-clause-none
returns-clause-none c =
    let is : app_of c.in_ok-commands.field-0 ≡ commands = c.in_ok-commands.ensures in
    let free = subst (λ (a : App). is_simple_and_free a ≡ true) (sym is) simple_and_free in
    subst (λ (a : App). fault_of a (map string_bytes c.args.words.now) ≡ []) is (c.in_ok-try_get_matches_from.ensures.kinds free)

pub returns-clause-found : goal.returns-clause-found
returns-clause-found c =
    let is : app_of c.in_ok-commands.field-0 ≡ commands = c.in_ok-commands.ensures in
    let one = subst (λ (a : App). is_simple a ≡ true) (sym is) simple in
    subst (λ (a : App). subcommand_rows_of c.in_ok-try_get_matches_from.field-0 ≡ subcommand_of a (map string_bytes c.args.words.now)) is (c.in_ok-try_get_matches_from.ensures.matches one).1
