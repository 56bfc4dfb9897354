-- The entries of lines, one by one, and the UIDs that they list.
use Rattle.vic_field.proofs.Words.{◌≡◌, ℕ, suc, false, List, take, Some, refl, ap, ◌∙◌, arith, slice_get, option_map, Entry, Sent, LogLine, Request, entries, is_slot, IsValid, slice_get-map, IsValidEntry, HasNoSlotsBefore, sym, take-map}

-- one line more that tells of no slot
pub no_slots_next : (n : ℕ) (lines : List LogLine) (l : LogLine) → HasNoSlotsBefore n lines → slice_get lines n ≡ Some l → is_slot l.item ≡ false → HasNoSlotsBefore (suc n) lines
no_slots_next n lines l h k s i m below there =
    grind (arith, h i m)

-- the entries of the first lines
pub entries_take : (lines : List LogLine) (n : ℕ) → entries (take n lines) ≡ take n (entries lines)
entries_take lines n = sym (take-map (λ (l : LogLine). l.item) n lines)

-- the entry of a line
pub entry_at : (lines : List LogLine) (i : ℕ) (l : LogLine) → slice_get lines i ≡ Some l → slice_get (entries lines) i ≡ Some l.item
entry_at lines i l k = slice_get-map (λ (x : LogLine). x.item) lines i ∙ ap (option_map (λ (x : LogLine). x.item)) k

pub valid_entry : (e : Entry) → ((q : Request) → e ≡ Sent q → IsValid q) → IsValidEntry e
valid_entry (Sent q) h = h q refl
valid_entry e h = tt
