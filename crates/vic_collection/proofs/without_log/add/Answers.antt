use Rattle.vic_collection.proofs.Words.{◌≡◌, ◌∙◌, ap, sym, map, map_push, false, true, Bool, not, List, ℕ, refl, false≢true}
use Rattle.std.specs.Borrow.{Bor}
use Rattle.vic_collection.specs.inner.NameSets.{has_name}
use Rattle.vic_collection.proofs.NameSets.{has_name-insert}
use Rattle.vic_collection.proofs.Without.{one_added}
use Rattle.vic_collection.proofs.without_log.add.Goals as goal

pub returns-in_ok-push : goal.returns-in_ok-push
returns-in_ok-push c =
    let place = c.args.place in
    let old = c.args.known.now in
    let unknown : has_name old place.now ≡ false = is_false (has_name old place.now) (sym c.in_ok-insert.ensures.added ∙ c.if-branch.true) in
    let more = ap (map (λ (p : Bor (List ℕ)). p.now)) c.in_ok-push.ensures.items ∙ map_push (λ (p : Bor (List ℕ)). p.now) c.args.without.now.items place in
    one_added old c.insert.new.self (map (λ p. p.now) c.args.without.now.items) (map (λ p. p.now) c.push.new.self.items) place.now
    (λ q. has_name-insert old c.insert.new.self place q c.in_ok-insert.ensures.updates.0) (more ∙ rw unknown refl) where
      is_false : (b : Bool) → not b ≡ true → b ≡ false
      is_false true e = absurd (false≢true e)
      is_false false e = refl
