-- Where nothing is asked for.
use Rattle.std.proofs.Common.{◌≡◌, ◌∙◌, ℕ, List, length, sym, ap}
use Rattle.std.proofs.lemmas.List.{length-map}
use Rattle.vicinity_c.specs.Run.{AreNames, AreTexts, AsksNothing}
use Rattle.vicinity_c.proofs.NamesInLines.{AreNames-as_many}

-- the same bytes have as many texts as lengths
texts_counted : (text_bytes lengths : List ℕ) (texts : List (List ℕ)) → AreTexts text_bytes lengths texts → length texts ≡ length lengths
texts_counted text_bytes lengths texts h = sym (length-map texts length) ∙ ap length h.measured

-- there aren't as many names as texts
pub other_count : (number : ℕ) (name_bytes text_bytes lengths : List ℕ) (names texts : List (List ℕ)) → AreNames name_bytes names → AreTexts text_bytes lengths texts → (length names ≡ length texts → ⊥) → AsksNothing number name_bytes text_bytes lengths
other_count number name_bytes text_bytes lengths names texts h k differ command ns ts asked =
    let given = asked.given in
    differ (AreNames-as_many name_bytes names ns h given.are_names ∙ (given.as_many ∙ (texts_counted text_bytes lengths ts given.are_texts ∙ sym (texts_counted text_bytes lengths texts k))))
