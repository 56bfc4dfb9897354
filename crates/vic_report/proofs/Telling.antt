-- Lines that show UIDs.
use Rattle.vic_report.proofs.Words.{arith, length, length-map, ◌<◌, ◌≡◌, ℕ, List, true, Some, refl, sym, ap, ◌∙◌, subst, ⊎_elim, slice_get, and_parts, and_from, Entry, Collision, Garbled, Heard, Captured, hears, eqb-true, false≢true, LogLine, entries, answers_at, slots_of, is_open, Forces, ManyReplies, SomeReply, AreAnswering, IsAnsweringAt, get_or, MayAnswer, ShowsAt, ShowsCertain, IsPossible, Answering, is_open_there, IsPossibleUid-iff, needs_two_or_one, forces_two_iff, forces_one_iff}
use Rattle.vic_report.proofs.Conflicts.{line_of}
use Rattle.vic_verdict.specs.Needs.{ForcesThere}
use Rattle.vic_verdict.proofs.Walking.{unread_needs}

-- ---- what a line shows

hears_shows : (es : List Entry) (i : ℕ) (e : Entry) (u : ℕ) → hears (Some e) u ≡ true → ShowsAt es i u e
hears_shows es i (Heard r) u h = eqb-true r.uid u h
hears_shows es i (Captured r) u h = eqb-true r.uid u h
hears_shows es i e u h = absurd (false≢true h)

pub reply_shows : (lines : List LogLine) (i : ℕ) (l : LogLine) (u : ℕ) → slice_get lines i ≡ Some l → hears (Some l.item) u ≡ true → ShowsCertain lines l.number u
reply_shows lines i l u k heard = record {
  place = i;
  line = l;
  there = k;
  number = refl;
  shows = hears_shows (entries lines) i l.item u heard;
}

may : (es : List Entry) (i u : ℕ) → IsPossible es → is_open_there es i u ≡ true → MayAnswer es i u
may es i u p h = let w = and_parts (is_open (slots_of es) u) (answers_at es i u) h in ((IsPossibleUid-iff es u p).1 w.0, w.1)

answers_back : (es : List Entry) (i u : ℕ) → IsPossible es → MayAnswer es i u → is_open_there es i u ≡ true
answers_back es i u p m = and_from _ _ ((IsPossibleUid-iff es u p).0 m.0) m.1

shows_two : (es : List Entry) (i u : ℕ) → IsPossible es → Forces ManyReplies (is_open_there es i) u → is_open_there es i u ≡ true → ShowsAt es i u Collision
shows_two es i u p f here = (may es i u p here, (f.0, f.1, may es i f.0 p f.3, λ w m. f.4 w (answers_back es i w p m)))

shows_one : (es : List Entry) (i u : ℕ) → IsPossible es → Forces SomeReply (is_open_there es i) u → ShowsAt es i u Garbled
shows_one es i u p f = (may es i u p f.0, λ w m. f.1 w (answers_back es i w p m))

-- an unread slot is among the lines
pub unread_there : (lines : List LogLine) (unread : List Answering) (k : ℕ) (f : Answering) → AreAnswering (entries lines) (length (entries lines)) unread → k < length unread → f ≡ get_or unread k f → IsAnsweringAt (entries lines) f.at f × (f.at < length lines)
unread_there lines unread k f h below is =
    let es = entries lines in
    let w = h.each k f below in
    let x : IsAnsweringAt es w.0 f = subst (IsAnsweringAt es w.0) (sym is) w.2 in
    (subst (λ (i : ℕ). IsAnsweringAt es i f) (sym x.place) x, omega (arith, w.1, x.place, length-map lines (λ (l : LogLine). l.item)))

-- where exactly as many are open, the slot shows each
pub unread_shows : (lines : List LogLine) (f : Answering) (l : LogLine) (u : ℕ) → IsPossible (entries lines) → IsAnsweringAt (entries lines) f.at f → slice_get lines f.at ≡ Some l → ForcesThere f u → ShowsCertain lines l.number u
unread_shows lines f l u p unread there x =
    let es = entries lines in
    let here = unread.uids.members u x.1 in
    let shown : (e : Entry) → slice_get es f.at ≡ Some e → ShowsAt es f.at u e → ShowsCertain lines l.number u = λ e g t.
    let y = line_of lines f.at e g in
    let both : Some l ≡ Some y.0 = sym there ∙ y.1 in
    let same : y.0 ≡ l = cc in
    let item : e ≡ l.item = sym y.2 ∙ ap (λ (z : LogLine). z.item) same in
    record { place = f.at; line = l; there = there; number = refl; shows = subst (ShowsAt es f.at u) item t } in
    ⊎_elim
    (λ w. let two = w.1 in shown Collision w.0 (shows_two es f.at u p ((forces_two_iff _ f.uids.items u unread.uids).1 (x.0 ∙ two, x.1)) here))
    (λ w. let one = w.1 in shown Garbled w.0 (shows_one es f.at u p ((forces_one_iff _ f.uids.items u unread.uids).1 (x.0 ∙ one, x.1))))
    (needs_two_or_one (slice_get es f.at) f.need unread.need (rw unread.need at (unread_needs (slice_get es f.at) unread.unread)))
