-- Where the same populations could have produced two logs, and both list the same UIDs, they have the same verdict.
use Rattle.vic_margin.proofs.Words.{◌≡◌, ◌∙◌, ◌↔◌, ℕ, Bool, true, false, List, None, length, ap, subst, sym, has, Entry}
use Rattle.vic_frame.specs.Masks.{BitMask}
use Rattle.vic_log.proofs.Cautious.{deaf_weaker_self, hidden_weaker}
use Rattle.vic_log.proofs.Weaker.{weaker_listed}
use Rattle.vic_log.specs.Deaf.{deaf_entries, hidden_entries}
use Rattle.vic_log.specs.Log.{IsLog}
use Rattle.vic_log.specs.Order.{entries, listed}
use Rattle.vic_log.specs.Populations.{CouldHaveGiven, IsPopulation}
use Rattle.vic_log.specs.declared.entry.LogLine.{LogLine}
use Rattle.vic_log.specs.declared.entry.Version.{Version}
use Rattle.vic_verdict.proofs.Verdicts.{possible_to}
use Rattle.vic_verdict.specs.Possible.{IsCertainUid, IsPossible, IsPossibleUid}
use Rattle.vic_verdict.specs.Verdict.{IsAbsent, IsDoubtful, IsUnlisted, IsUnsettled, IsVerdict, NoSuch}
use Rattle.vic_verdict.specs.declared.judging.Verdict.{Verdict}
use Rattle.vic_verdict.specs.declared.judging.Verdict.TheVariants.{Absent, Complete, Doubtful, Impossible, Unlisted, Unsettled}
use Rattle.vic_walk.proofs.LineLaws.{rising_lower}
use Rattle.vic_margin.proofs.SamePopulations.{same_deaf, same_hidden}
use Rattle.vic_margin.specs.Readings.{IsFirstOpened}

record AreAlike (ds es : List Entry) : Type 0 where
  given : (p : List ℕ) → IsPopulation p → CouldHaveGiven p ds ↔ CouldHaveGiven p es
  same : listed ds ≡ listed es

alike_back : (ds es : List Entry) → AreAlike ds es → AreAlike es ds
alike_back ds es a = record { given = λ p pop. ((a.given p pop).1, (a.given p pop).0); same = sym a.same }

-- ---- what the verdict is about

alike_possible : (ds es : List Entry) → AreAlike ds es → IsPossible es → IsPossible ds
alike_possible ds es a h = (h.0, h.1, (a.given h.0 h.1).1 h.2)

alike_may : (ds es : List Entry) (u : ℕ) → AreAlike ds es → IsPossibleUid es u → IsPossibleUid ds u
alike_may ds es u a h = (h.0, h.1, (a.given h.0 h.1).1 h.2, h.3)

alike_certain : (ds es : List Entry) (u : ℕ) → AreAlike ds es → IsCertainUid es u → IsCertainUid ds u
alike_certain ds es u a h = λ p pop given. h p pop ((a.given p pop).0 given)

alike_has : (ds es : List Entry) (u : ℕ) (b : Bool) → AreAlike ds es → has (listed es) u ≡ b → has (listed ds) u ≡ b
alike_has ds es u b a h = ap (λ us. has us u) a.same ∙ h

alike_absent : (ds es : List Entry) (u : ℕ) → AreAlike ds es → IsAbsent es u → IsAbsent ds u
alike_absent ds es u a h = (alike_has ds es u true a h.0, λ may. h.1 (alike_may es ds u (alike_back ds es a) may))

alike_unlisted : (ds es : List Entry) (u : ℕ) → AreAlike ds es → IsUnlisted es u → IsUnlisted ds u
alike_unlisted ds es u a h = (alike_certain ds es u a h.0, alike_has ds es u false a h.1)

alike_unsettled : (ds es : List Entry) (m : BitMask) → AreAlike ds es → IsUnsettled es m → IsUnsettled ds m
alike_unsettled ds es m a h = (h.0, h.1, λ u is lies. (alike_may ds es u a (h.2 u is lies).0, alike_has ds es u false a (h.2 u is lies).1))

alike_doubtful : (ds es : List Entry) (u : ℕ) → AreAlike ds es → IsDoubtful es u → IsDoubtful ds u
alike_doubtful ds es u a h = (alike_has ds es u true a h.0, λ sure. h.1 (alike_certain es ds u (alike_back ds es a) sure))

-- ---- the verdict

no_absent : (ds es : List Entry) → AreAlike ds es → NoSuch (IsAbsent es) → NoSuch (IsAbsent ds)
no_absent ds es a none = λ u h. none u (alike_absent es ds u (alike_back ds es a) h)

no_unlisted : (ds es : List Entry) → AreAlike ds es → NoSuch (IsUnlisted es) → NoSuch (IsUnlisted ds)
no_unlisted ds es a none = λ u h. none u (alike_unlisted es ds u (alike_back ds es a) h)

no_unsettled : (ds es : List Entry) → AreAlike ds es → NoSuch (IsUnsettled es) → NoSuch (IsUnsettled ds)
no_unsettled ds es a none = λ m h. none m (alike_unsettled es ds m (alike_back ds es a) h)

no_doubtful : (ds es : List Entry) → AreAlike ds es → NoSuch (IsDoubtful es) → NoSuch (IsDoubtful ds)
no_doubtful ds es a none = λ u h. none u (alike_doubtful es ds u (alike_back ds es a) h)

alike_verdict : (read lines : List LogLine) (version : Version) → IsLog version lines → IsPossible (entries lines) → AreAlike (entries read) (entries lines) → (v : Verdict) → IsVerdict lines v → IsVerdict read v
alike_verdict read lines version log possible a (Impossible n) h = absurd (h.0 (possible_to lines (rising_lower lines log.rising) possible n))
alike_verdict read lines version log possible a (Absent u) h =
    let ds = entries read in
    let es = entries lines in
    (alike_possible ds es a possible, (alike_absent ds es u a h.1.0, λ m k. h.1.1 m (alike_absent es ds m (alike_back ds es a) k)))
alike_verdict read lines version log possible a (Unlisted u) h =
    let ds = entries read in
    let es = entries lines in
    (alike_possible ds es a possible, no_absent ds es a h.1, (alike_unlisted ds es u a h.2.0, λ m k. h.2.1 m (alike_unlisted es ds m (alike_back ds es a) k)))
alike_verdict read lines version log possible a (Unsettled mask) h =
    let ds = entries read in
    let es = entries lines in
    (alike_possible ds es a possible, no_absent ds es a h.1, no_unlisted ds es a h.2, (alike_unsettled ds es mask a h.3.0, λ m k. h.3.1 m (alike_unsettled es ds m (alike_back ds es a) k)))
alike_verdict read lines version log possible a (Doubtful u) h =
    let ds = entries read in
    let es = entries lines in
    (alike_possible ds es a possible, no_absent ds es a h.1, no_unlisted ds es a h.2, no_unsettled ds es a h.3, (alike_doubtful ds es u a h.4.0, λ m k. h.4.1 m (alike_doubtful es ds m (alike_back ds es a) k)))
alike_verdict read lines version log possible a (Complete count) h =
    let ds = entries read in
    let es = entries lines in
    (alike_possible ds es a possible, no_absent ds es a h.1, no_unlisted ds es a h.2, no_unsettled ds es a h.3, no_doubtful ds es a h.4, h.5 ∙ ap length (sym a.same))

same_verdict : (version other : Version) (lines read : List LogLine) (v : Verdict) → IsLog version lines → IsPossible (entries lines) → IsLog other read → AreAlike (entries read) (entries lines) → IsVerdict read v ↔ IsVerdict lines v
same_verdict version other lines read v log possible own a = (
  (λ h. alike_verdict lines read other own (alike_possible (entries read) (entries lines) a possible) (alike_back (entries read) (entries lines) a) v h),
  (λ h. alike_verdict read lines version log possible a v h),
)

pub verdict_hidden : (version other : Version) (lines read : List LogLine) (v : Verdict) → IsLog version lines → IsPossible (entries lines) → IsFirstOpened (hidden_entries (entries lines)) (entries lines) None → IsLog other read → entries read ≡ hidden_entries (entries lines) → IsVerdict read v ↔ IsVerdict lines v
verdict_hidden version other lines read v log possible none own is =
    let es : List Entry = entries lines in
    let alike : AreAlike (hidden_entries es) es = record { given = same_hidden es possible none; same = weaker_listed _ es (hidden_weaker es) } in
    same_verdict version other lines read v log possible own (subst (λ ds. AreAlike ds es) (sym is) alike)

pub verdict_deaf : (version other : Version) (lines read : List LogLine) (v : Verdict) → IsLog version lines → IsPossible (entries lines) → IsFirstOpened (deaf_entries (entries lines)) (entries lines) None → IsLog other read → entries read ≡ deaf_entries (entries lines) → IsVerdict read v ↔ IsVerdict lines v
verdict_deaf version other lines read v log possible none own is =
    let es : List Entry = entries lines in
    let alike : AreAlike (deaf_entries es) es = record { given = same_deaf es possible none; same = weaker_listed _ es (deaf_weaker_self es) } in
    same_verdict version other lines read v log possible own (subst (λ ds. AreAlike ds es) (sym is) alike)
