use Rattle.vic_walk.specs.inner.Unmet.{is_open_before}
use Rattle.vic_walk.proofs.Words.{◌≡◌, ◌∙◌, ◌<◌, ℕ, refl, Bool, true, false, not, ◌&&◌, arith, length, nat_tests, slice_index, sym, nat_lt, has, IsPartOf, IsUid, mirror, is_marked, is_open, is_quiet, slots_before}
use Rattle.vic_walk.proofs.Ending.{open_to_end}
use Rattle.vic_walk.proofs.Meeting.{more_parts, no_part}
use Rattle.vic_walk.proofs.lacking.open_before.Goals as goal
use Rattle.vic_walk.proofs.lacking.open_before.Goals.{then-is_open_before+in_ok-add, else-is_open_before}

pub loop-part-preserved : goal.loop-part-preserved
loop-part-preserved c =
    let l = c.loop-part in
    let opened : ℕ → Bool = λ q. is_open_before c.args.position (slice_index c.args.ends.now q) in
    let is_ready : ℕ → Bool = λ q. opened q && is_marked c.args.states.now.ready q in
    let is_quiet_too : ℕ → Bool = λ q. opened q && not (is_marked c.args.states.now.ready q) in
    elim c.if-is_open_before.branch [
      | then-is_open_before+in_ok-add w ↦
          let it : opened l.part ≡ true = sym c.is_open_before.ensures ∙ w.if-is_open_before.true in
          record {
            room = rw w.open-is (w.add.ensures.room ∙ l.invariant.room);
            ready = λ p. more_parts is_ready l.part p _ _ (l.invariant.ready p) (rw (w.open-is, w.in_ok-add.ensures.ready p, w.has.ensures, it) refl);
            quiet = λ p. more_parts is_quiet_too l.part p _ _ (l.invariant.quiet p) (rw (w.open-is, w.in_ok-add.ensures.quiet p, w.has.ensures, it) refl);
          }
      | else-is_open_before w ↦
          let it : opened l.part ≡ false = sym c.is_open_before.ensures ∙ w.if-is_open_before.false in
          record {
            room = rw w.open-is l.invariant.room;
            ready = λ p. more_parts is_ready l.part p _ _ (l.invariant.ready p) (rw w.open-is (no_part p l.part _ (is_ready l.part) (rw it refl)));
            quiet = λ p. more_parts is_quiet_too l.part p _ _ (l.invariant.quiet p) (rw w.open-is (no_part p l.part _ (is_quiet_too l.part) (rw it refl)));
          }
    ]

-- what is said of each part, of one that is open or isn't
all_open : (p n : ℕ) (o r q : Bool) → p < n → r ≡ (true && not q) → ((nat_lt p n && (o && r)) ≡ (o && not q)) × ((nat_lt p n && (o && not r)) ≡ (o && q))
all_open p n o r true below is = rw is (grind (arith, nat_tests), grind (arith, nat_tests))
all_open p n o r false below is = rw is (grind (arith, nat_tests), grind (arith, nat_tests))

pub returns : goal.returns
returns c bs es i w h =
    let l = c.loop-part in
    let end : l.part ≡ length c.args.ends.now = omega (arith, c.loop-part-test.false, l.auto.part-end) in
    let parts : (u p : ℕ) → IsUid u → IsPartOf bs (mirror u) p → (is_marked l.open.ready p ≡ (is_open (slots_before es c.args.position) u && not (is_quiet es i u))) × (has l.open.quiet.items p ≡ (is_open (slots_before es c.args.position) u && is_quiet es i u)) = λ u p is at.
    let within : p < length c.args.ends.now = let room = w.known.room in omega (arith, at.within, room) in
    let it = open_to_end es w.position u (slice_index c.args.ends.now p) c.args.position (w.known.each u p is at) w.far in
    let both = all_open p (length c.args.ends.now) (is_open_before c.args.position (slice_index c.args.ends.now p)) (is_marked c.args.states.now.ready p) (is_quiet es i u) within (h.ready u p is at) in
    (rw it ((rw end at (l.invariant.ready p)) ∙ both.0), rw it ((rw end at (l.invariant.quiet p)) ∙ both.1)) in
    record {
      room = l.invariant.room ∙ w.known.room;
      ready = λ u p is at. (parts u p is at).0;
      quiet = λ u p is at. (parts u p is at).1;
    }
