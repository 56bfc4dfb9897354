-- The items of a list of UIDs.
use Rattle.vic_table.proofs.Words.{◌≡◌, ◌≤◌, ℕ, Some, None, List, [], ◌∷◌, All, arith, ap, refl, subst, sym, map}
use Rattle.std.proofs.lemmas.List.Elements.{All-cons, All-nil}
use Rattle.vic_table.specs.Listed.{IsListCatalogue, IsListed}
use Rattle.vic_table.specs.Values.{CatalogueValue, ItemValue}
use Rattle.vic_table.specs.inner.Kept.{ItemAt, IsWithinText, item_values, listed_at, value_at}

pub listed_within : (us : List ℕ) → All (IsWithinText 0) (map listed_at us)
listed_within [] = All-nil (IsWithinText 0)
listed_within (u ∷ us) = All-cons (IsWithinText 0) (listed_at u) (map listed_at us) (record { low = omega arith; high = omega arith }) (listed_within us)

uids_listed : (text us : List ℕ) → map (λ (item : ItemValue). item.uid) (item_values text (map listed_at us)) ≡ map Some us
uids_listed text [] = refl
uids_listed text (u ∷ us) = ap (λ xs. Some u ∷ xs) (uids_listed text us)

all_listed : (text us : List ℕ) → All IsListed (item_values text (map listed_at us))
all_listed text [] = All-nil IsListed
all_listed text (u ∷ us) = All-cons IsListed (value_at text (listed_at u)) (item_values text (map listed_at us)) (refl, refl) (all_listed text us)

pub is_list : (c : CatalogueValue) (items : List ItemAt) (text us : List ℕ) → c.columns.place ≡ None → c.items ≡ item_values text items → items ≡ map listed_at us → IsListCatalogue c us
is_list c items text us places are is = record {
  no_places = places;
  uids_are = rw (are, is) (uids_listed text us);
  listed = rw (are, is) (all_listed text us);
}
