-- More entries, and more UIDs on the list: no margin is less.
use Rattle.vic_margin.proofs.Words.{◌≡◌, ℕ, zero, suc, ◌+◌, ◌≤◌, ◌||◌, ◌&&◌, false, List, [], ◌∷◌, ◌++◌, length, map, refl, ap, ◌∙◌, arith, nat_tests, slice_get, has, Entry, Listed, answers_at, is_overlooked, some_denies_reply_of, margin_before, margin_of, one_if}
use Rattle.std.proofs.Math.Bool.{and-false}
use Rattle.std.proofs.lemmas.List.{length-append}
use Rattle.std.proofs.lemmas.List.Folds.{list_any-append}
use Rattle.vic_log.proofs.Places.{agree_upto, answers_agree, slice_get-append}
use Rattle.vic_log.proofs.Push.{listed-append}
use Rattle.vic_log.specs.Order.{listed}
use Rattle.vic_margin.specs.Margins.{IsMargin}
use Rattle.vic_margin.proofs.LawLemmas.{unlisted_often}

-- ---- entries that follow

overlooked_agrees : (es more : List Entry) (i u : ℕ) → suc i ≤ length es → is_overlooked es i u ≡ is_overlooked (es ++ more) i u
overlooked_agrees es more i u h = rw (answers_agree i es (es ++ more) (agree_upto es more i (omega (arith, h))) u, slice_get-append es more i (omega (arith, h))) refl

pub before_agrees : (es more : List Entry) (n u : ℕ) → n ≤ length es → margin_before es n u ≡ margin_before (es ++ more) n u
before_agrees es more zero u h = refl
before_agrees es more (suc n) u h =
    let rest = before_agrees es more n u (omega (arith, h)) in
    let one = ap one_if (overlooked_agrees es more n u h) in
    omega (arith, rest, one)

rises : (es : List Entry) (n d u : ℕ) → margin_before es n u ≤ margin_before es (d + n) u
rises es n zero u = let same : 0 + n ≡ n = omega arith in rw same (omega arith)
rises es n (suc d) u = let rest = rises es n d u in let same : suc d + n ≡ suc (d + n) = omega arith in rw same (omega (arith, rest))

pub more_margin : (es more : List Entry) (u : ℕ) → margin_of es u ≤ margin_of (es ++ more) u
more_margin es more u =
    let same = before_agrees es more (length es) u (omega arith) in
    let up = rises (es ++ more) (length es) (length more) u in
    let long : length more + length es ≡ length (es ++ more) = let all = length-append es more in omega (arith, all) in
    let end = ap (λ n. margin_before (es ++ more) n u) long in
    omega (arith, same, up, end)

-- ---- a list that follows

listed_lacks : (us : List ℕ) (i u : ℕ) → some_denies_reply_of (slice_get (map Listed us) i) u ≡ false
listed_lacks [] i u = refl
listed_lacks (v ∷ us) zero u = refl
listed_lacks (v ∷ us) (suc i) u = listed_lacks us i u

behind_lacks : (es : List Entry) (us : List ℕ) (d u : ℕ) → some_denies_reply_of (slice_get (es ++ map Listed us) (d + length es)) u ≡ false
behind_lacks [] us d u = let same : d + 0 ≡ d = omega arith in rw same (listed_lacks us d u)
behind_lacks (e ∷ es) us d u = let same : d + suc (length es) ≡ suc (d + length es) = omega arith in rw same (behind_lacks es us d u)

stays : (es : List Entry) (us : List ℕ) (d u : ℕ) → margin_before (es ++ map Listed us) (d + length es) u ≡ margin_before (es ++ map Listed us) (length es) u
stays es us zero u = let same : 0 + length es ≡ length es = omega arith in rw same refl
stays es us (suc d) u =
    let rest = stays es us d u in
    let isnt : is_overlooked (es ++ map Listed us) (d + length es) u ≡ false = ap (λ b. answers_at (es ++ map Listed us) (d + length es) u && b) (behind_lacks es us d u) ∙ and-false _ in
    let next : suc d + length es ≡ suc (d + length es) = omega arith in
    rw (next, isnt) (omega (arith, rest))

pub listed_margin : (es : List Entry) (us : List ℕ) (u : ℕ) → margin_of (es ++ map Listed us) u ≡ margin_of es u
listed_margin es us u =
    let same = before_agrees es (map Listed us) (length es) u (omega arith) in
    let stay = stays es us (length (map Listed us)) u in
    let long : length (map Listed us) + length es ≡ length (es ++ map Listed us) = let all = length-append es (map Listed us) in omega (arith, all) in
    let end = ap (λ n. margin_before (es ++ map Listed us) n u) long in
    omega (arith, same, stay, end)

-- ---- the margin of a log

has_listed-append : (es fs : List Entry) (u : ℕ) → has (listed (es ++ fs)) u ≡ (has (listed es) u || has (listed fs) u)
has_listed-append es fs u = ap (λ us. has us u) (listed-append es fs) ∙ list_any-append _ (listed es) (listed fs)

pub more_entries : (es more : List Entry) (us : List ℕ) (m n : ℕ) → IsMargin (es ++ map Listed us) m → IsMargin (es ++ more ++ map Listed us) n → m ≤ n
more_entries es more us m n a b =
    let some = b.0 in
    let all = has_listed-append (es ++ more) (map Listed us) some.uid in
    let front = has_listed-append es more some.uid in
    let few = has_listed-append es (map Listed us) some.uid in
    let isnt : has (listed (es ++ map Listed us)) some.uid ≡ false = grind (arith, nat_tests, all, front, few, some.unlisted) in
    let often = unlisted_often (es ++ map Listed us) m some.uid a some.is_uid isnt in
    let same = listed_margin es us some.uid in
    let one = more_margin es more some.uid in
    let two = more_margin (es ++ more) (map Listed us) some.uid in
    let e = some.margin in
    omega (arith, often, same, one, two, e)

pub more_listed : (es : List Entry) (us : List ℕ) (m n : ℕ) → IsMargin es m → IsMargin (es ++ map Listed us) n → m ≤ n
more_listed es us m n a b =
    let some = b.0 in
    let all = has_listed-append es (map Listed us) some.uid in
    let isnt : has (listed es) some.uid ≡ false = grind (arith, nat_tests, all, some.unlisted) in
    let often = unlisted_often es m some.uid a some.is_uid isnt in
    let one = more_margin es (map Listed us) some.uid in
    let e = some.margin in
    omega (arith, often, one, e)
