-- `new` makes a value of no bytes, whose history is empty.
use Rattle.vic_log.proofs.Words.{[], ◌∷◌, refl, proved, ftrue, owns, pure_i, alive, ends_at, says, vnil, vstruct, alloc_all, free_all, look_at, pass_all, sets, agg, enter, no_more, returns}
use types.Kit.{‵, raw, ◌⊛◌, ◌$◌, ◌∵◌, !, qed, move, keep, split, suffices, done}
use Rattle.vic_log.specs.contracts.history.History.new as f
use Rattle.vic_log.specs.contracts.history.History.{the_row as R}
use Rattle.vic_log.proofs.history.History.new.Statement.{statement}
use Rattle.vic_log.proofs.history.History.new.Code as code

pub new_spec : {M : Type 1} → statement M
new_spec 𝓤 𝓛 𝓜 𝓡 wired =
    let c = f.clauses 𝓛 𝓜.mem 𝓡.returns in
    proved 𝓛 f.ended tt c 𝓜 𝓡 tt f.Key.name code.function (code.unfolded 𝓤 𝓛.H 𝓜 𝓡 wired)
    (λ κs. tt) (λ κs. tt) (λ κs qs bounds a n are.
    qed 𝓛 ((raw (alive 𝓛 f.signature κs qs) ⊛ ‵ (owns [] tt tt)) ∷ ‵ ftrue ∷ []) ∵ keep ! (0 ∷ []) $ split ! $
    enter ! _ _ _ _ _ $ alloc_all ! (λ l. pass_all ! refl tt $
    sets ! (agg ! (no_more !)) refl (tt, tt) $
    returns ! (look_at ! 0 refl) $ free_all ! refl $
    suffices ! _ (ends_at 𝓛 f.ended tt c ((κs, qs, bounds, a, tt), n) (vstruct vnil) (record { bytes = [] }) tt tt) $
    says ! refl $ pure_i ! (R.own_val (record { bytes = [] }) (vstruct vnil ∷ [])) ((λ vss. (tt, tt)), tt) ((tt, (refl, tt)), tt) $
    move ! (1 ∷ 2 ∷ 0 ∷ []) $ done !))
