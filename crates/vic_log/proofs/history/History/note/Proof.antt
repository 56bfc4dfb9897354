-- An empty body. The borrow is opened and closed at another ghost value.
use Rattle.vic_log.proofs.Words.{List, [], ◌∷◌, ◌++◌, refl, proved, flft, ftrue, id⊢, u8, yes, owns, MutRef, mut_Tells, mut_vals, plain, ShrSlice, shr_slice_Tells, shr_slice_vals, closes, opens, Goes-none_slice, Goes-ref, Stays, ends_at, says, stay_none_slice, stay_ref, named, Val, vunit, alloc_all, free_all, look_at, pass_all, sets, enter, of_opd, returns, unit_lit}
use types.Kit.{‵, ◌⊛◌, ◌$◌, ◌∵◌, !, qed, move, keep, drop, use1, split, join, fsplit, fsplit3, fjoin, fjoin3, feq_i, suffices, frame, done}
use Rattle.vic_log.specs.contracts.history.History.note as f
use Rattle.vic_log.specs.contracts.history.History.{the_row as R}
use Rattle.vic_log.proofs.history.History.note.Statement.{statement}
use Rattle.vic_log.proofs.history.History.note.Code as code

abbrev stayed : Stays f.ended.signature.params f.ended.kept
stayed = (stay_ref (0 ∷ []) tt (plain (λ _. R)), (stay_none_slice (1 ∷ []) tt (plain (λ _. u8)) yes, tt))

pub note_spec : {M : Type 1} → statement M
note_spec 𝓤 𝓛 𝓜 𝓡 wired =
    let c = f.clauses 𝓛 𝓜.mem 𝓡.returns in
    proved 𝓛 f.ended stayed c 𝓜 𝓡 (Goes-ref 𝓛 2 0 tt (plain (λ _. R)), (Goes-none_slice 𝓛 2 (1 ∷ []) tt (plain (λ _. u8)) yes, tt))
    f.Key.name code.function (code.unfolded 𝓤 𝓛.H 𝓜 𝓡 wired)
    (λ κs. (mut_vals, (shr_slice_vals, tt))) (λ κs. (mut_Tells (named 0) κs.0 R, (shr_slice_Tells (named 1) κs.1.0 u8, tt))) (λ κs qs bounds a n are.
    let b = a.0.ref_ptr.0 in
    let o = a.0.ref_ptr.1 in
    let h = a.0.now in
    let vss : List Val × (List Val × Unit {0}) = (mut_vals a.0, (shr_slice_vals a.1.0, tt)) in
    qed 𝓛 (((‵ (flft κs.0 qs.0) ⊛ (‵ (flft κs.1.0 qs.1.0) ⊛ ‵ ftrue)) ⊛ ‵ (owns (MutRef (named 0) κs.0 R ∷ ShrSlice (named 1) κs.1.0 u8 ∷ []) a vss)) ∷ ‵ ftrue ∷ []) ∵
    keep ! (0 ∷ []) $ split ! $ split ! $ move ! (2 ∷ []) $ fsplit ! $ fsplit3 ! $ drop ! $ move ! (0 ∷ 1 ∷ 3 ∷ []) $
    enter ! _ _ _ _ _ $ alloc_all ! (λ l. pass_all ! refl ((tt, tt), ((tt, (tt, (record { fits = are.1.0.0.1.0 }, tt))), tt)) $
    move ! (0 ∷ 1 ∷ 2 ∷ []) $ opens ! tt R {h = h} b o (λ vs.
    sets ! (of_opd ! (unit_lit !)) refl (tt, tt) $
    move ! (1 ∷ []) $ use1 𝓛 (‵ (R.own_val (record h { bytes = h.bytes ++ a.1.0.now }) vs)) (id⊢ 𝓤 _) $
    move ! (1 ∷ 0 ∷ []) $ closes ! tt R (record h { bytes = h.bytes ++ a.1.0.now }) vs b o $
    returns ! (look_at ! 0 refl) $ free_all ! refl $ keep ! (0 ∷ 1 ∷ 2 ∷ 3 ∷ 4 ∷ []) $
    suffices ! _ (ends_at 𝓛 f.ended stayed c ((κs, qs, bounds, a, vss), n) vunit tt (record h { bytes = h.bytes ++ a.1.0.now }, (tt, tt)) (tt, (tt, tt))) $
    says ! refl $ move ! (2 ∷ 4 ∷ []) $ join ! $ frame ! $ feq_i ! _ (mut_vals a.0) _ refl $ fjoin3 ! $ fjoin ! $
    feq_i ! _ (vunit ∷ []) _ refl $ move ! (1 ∷ 0 ∷ []) $ done !)))
