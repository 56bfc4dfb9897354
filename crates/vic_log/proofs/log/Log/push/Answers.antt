use Rattle.vic_log.proofs.Words.{rules, ◌≡◌, ap, sym, subst, ◌∙◌, ◌∷◌, [], ◌++◌, ◌||◌, List, ℕ, None, ◌<◌, refl, append-nil, not, has, IsIndex, entries, listed, is_empty, refusal, LogValue, last_from, IsTyped, LogLine, V1, V2, IsOfFirstVersion, IsOfSecondVersion, left_after}
use Rattle.vic_log.proofs.Push.{Keeps-push, refusal_listed, lists_none, listed-append, entries-push}
use Rattle.vic_log.proofs.log.Log.push.Goals as goal
use Rattle.vic_log.proofs.log.Log.push.Goals.{in-Listed+in_ok-index_uid, in_default+in_default-refusal}

pub invariant_of-self-2 : goal.invariant_of-self-2
invariant_of-self-2 c =
    let l : LogLine = record { number = c.args.number; item = c.args.item } in
    let old = c.self.inside in
    let new = c.match-item.self-inside in
    let items : List LogLine = old.lines.items in
    let above : last_from 1 items < l.number = subst (λ (v : LogValue). last_from 1 v.lines < l.number) (sym c.self.view_is) c.requires.above in
    let typed : IsTyped l.item = search rules in
    let second : old.version ≡ V2 → IsOfSecondVersion l.item = λ h. c.requires.second_version (ap (λ (v : LogValue). v.version) (sym c.self.view_is) ∙ h) in
    let first : old.version ≡ V1 → IsOfFirstVersion l.item = λ h. c.requires.first_version (ap (λ (v : LogValue). v.version) (sym c.self.view_is) ∙ h) in
    let free : refusal (entries items) l.item ≡ None = elim c.match-item.branch [
      | in-Listed+in_ok-index_uid w ↦ rw w.in-Listed.is (refusal_listed (entries items) w.in-Listed.uid (ap (λ (xs : List LogLine). has (listed (entries xs)) w.in-Listed.uid) (sym (w.deref.ensures.value ∙ c.reserve.ensures.items)) ∙ w.in_ok-index_uid.ensures.answer))
      | in_default+in_default-refusal w ↦ ap (λ (xs : List LogLine). refusal (entries xs) l.item) (sym c.reserve.ensures.items) ∙ (sym w.refusal-in_default.ensures ∙ w.in_default-refusal.is)
    ] in
    let index : IsIndex (listed (entries items) ++ listed (l.item ∷ [])) new.greatest new.uids = elim c.match-item.branch [
      | in-Listed+in_ok-index_uid w ↦ rw (w.self-inside-is, w.in-Listed.is) (subst (λ (xs : List LogLine). IsIndex (listed (entries xs) ++ w.in-Listed.uid ∷ []) w.index_uid.new.greatest w.index_uid.new.uids) (w.deref.ensures.value ∙ c.reserve.ensures.items) w.in_ok-index_uid.ensures.more)
      | in_default+in_default-refusal w ↦ rw (w.self-inside-is, lists_none l.item w.in_default.not-Listed) (subst (λ (us : List ℕ). IsIndex us old.greatest old.uids) (sym (append-nil (listed (entries items)))) c.self.invariant.1)
    ] in
    let kept : (new.version ≡ old.version) × (new.lines.items ≡ items) × (new.listing ≡ old.listing) × (new.slots_left ≡ old.slots_left) = elim c.match-item.branch [
      | in-Listed+in_ok-index_uid w ↦ rw w.self-inside-is (refl, c.reserve.ensures.items, refl, refl)
      | in_default+in_default-refusal w ↦ rw w.self-inside-is (refl, c.reserve.ensures.items, refl, refl)
    ] in
    let same : c.match-item.item ≡ l.item = elim c.match-item.branch [
      | in-Listed+in_ok-index_uid w ↦ w.item-is ∙ sym w.in-Listed.is
      | in_default+in_default-refusal w ↦ w.item-is
    ] in
    let pushed : c.push_reserved.new.self.items ≡ new.lines.items ++ c.new.result ∷ [] = c.push_reserved.ensures.items in
    let items_is : c.push_reserved.new.self.items ≡ items ++ l ∷ [] = pushed ∙ rw (kept.1, c.new.ensures, same) refl in
    let listing : c.listing_after-self-inside.result ≡ (old.listing || not (is_empty (listed (l.item ∷ [])))) = c.listing_after-self-inside.ensures ∙ rw (kept.2, same) refl in
    let left : c.slots_after-self-inside.result ≡ left_after old.slots_left l.item = c.slots_after-self-inside.ensures ∙ rw (kept.3, same) refl in
    let uids : listed (entries (items ++ l ∷ [])) ≡ listed (entries items) ++ listed (l.item ∷ []) = ap listed (entries-push items l) ∙ listed-append (entries items) (l.item ∷ []) in
    rw (items_is, kept.0) (Keeps-push old.version items l _ _ _ _ c.self.invariant.0 free above c.requires.limit c.requires.valid typed first second listing left, rw uids index)
