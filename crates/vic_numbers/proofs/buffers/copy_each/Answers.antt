use Rattle.vic_numbers.proofs.Words.{◌≡◌, ℕ, zero, suc, add-one, ◌<◌, ◌≤◌, List, ◌∷◌, ◌++◌, drop, get_or, length, map, take, ap, sym, ◌∙◌, arith}
use Rattle.std.proofs.Math.ListN.{set}
use Rattle.vic_numbers.proofs.buffers.copy_each.Goals as goal

set_next : {X V : Type 0} (told : X → V) (xs : List X) (room : List V) (i : ℕ) (x : X) → i < length xs → length xs ≤ length room → x ≡ get_or xs i x
    → set (map told (take i xs) ++ drop i room) i (told x) ≡ map told (take (suc i) xs) ++ drop (suc i) room
set_next told (y ∷ xs) (r ∷ room) zero x lt fits is = ap (λ z. told z ∷ room) is
set_next told (y ∷ xs) (r ∷ room) (suc i) x lt fits is = ap (λ zs. told y ∷ zs) (set_next told xs room i x (omega (arith, lt)) (omega (arith, fits)) is)
set_next told _ _ i x lt fits is = absurd (omega (arith, lt, fits))

pub loop-index-preserved : goal.loop-index-preserved
loop-index-preserved g c told by =
    let xs = c.args.items.now in
    let room = c.args.room.now in
    let i = c.loop-index.index in
    let x = c.index-items-index.result in
    ap (λ rs. set rs i c.value_of.result) (c.loop-index.invariant told by)
    ∙ (ap (λ v. set (map told (take i xs) ++ drop i room) i v) (by _ _ c.value_of.ensures)
    ∙ (set_next told xs room i x c.loop-index-test.true c.if-items-room.true c.index-items-index.is
    ∙ ap (λ n. map told (take n xs) ++ drop n room) (sym (add-one i))))
