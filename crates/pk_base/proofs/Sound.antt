-- The tests of entries decide what entries are.
use Rattle.std.proofs.Common.{◌≡◌, ℕ, ◌≤◌, Bool, true, false, List, [], ◌∷◌, length, refl, arith, Some, None}
use Rattle.std.{specs.Prelude.nat_le, specs.Prelude.◌&&◌, specs.Prelude.if◌then◌else◌, specs.List.list_all, specs.List.AllByRecursion, proofs.lemmas.Bool.Decides.nat_tests}
use Rattle.pk_base.{specs.declared.sizes.TheConstants.MOST_SPACES, specs.Key.Key, specs.Key.IsKey, specs.Key.is_key, specs.Key.space_of, specs.Key.bytes_of, specs.Entry.Entry, proofs.Logic.both_true}
use Rattle.pk_base.{specs.Shape.Shape, specs.Shape.page_entries, specs.EntryChecks.IsEntry, specs.EntryChecks.AreEntries, proofs.EntryLemmas.place_is, proofs.EntryLemmas.is_place}
use Rattle.pk_base.specs.EntryBytes.{is_place_page, is_place_len, is_place_of, is_entry, are_entries}

pub if_some : {A : Type 0} (b : Bool) (x y : A) → (if b then Some x else None) ≡ Some y → (b ≡ true) × (x ≡ y)
if_some true x y e = (refl, cc)
if_some false x y e = cc

at_least : (a b : ℕ) → nat_le a b ≡ true → a ≤ b
at_least a b e = grind (arith, nat_tests)

pub key_sound : (key : Key) → is_key key ≡ true → IsKey key
key_sound key e =
    let last = both_true (nat_le 1 (length (bytes_of key)) && nat_le (length (bytes_of key)) 16 && nat_le 1 (space_of key)) (nat_le (space_of key) MOST_SPACES) e in
    let third = both_true (nat_le 1 (length (bytes_of key)) && nat_le (length (bytes_of key)) 16) (nat_le 1 (space_of key)) last.0 in
    let size = both_true (nat_le 1 (length (bytes_of key))) (nat_le (length (bytes_of key)) 16) third.0 in
    record {
      some = at_least 1 (length (bytes_of key)) size.0;
      most = at_least (length (bytes_of key)) 16 size.1;
      space_some = at_least 1 (space_of key) third.1;
      space_most = at_least (space_of key) MOST_SPACES last.1;
    }

pub least_true : (a b : ℕ) → a ≤ b → nat_le a b ≡ true
least_true a b h = grind (arith, nat_tests)

pub key_true : (key : Key) → IsKey key → is_key key ≡ true
key_true key h =
    rw (least_true 1 (length (bytes_of key)) h.some, least_true (length (bytes_of key)) 16 h.most, least_true 1 (space_of key) h.space_some, least_true (space_of key) MOST_SPACES h.space_most) refl

pub entry_true : (g : Shape) (e : Entry) → IsEntry g e → is_entry g e ≡ true
entry_true g (key, Some place) h =
    let tests = is_place g place.page place.len h.1 in
    rw (key_true key h.0, tests.0, tests.1) refl
entry_true g (key, None) h = rw (key_true key h.0) refl

pub entry_sound : (g : Shape) (e : Entry) → is_entry g e ≡ true → IsEntry g e
entry_sound g (key, Some place) e =
    let h = both_true (is_key key) (is_place_of g (Some place)) e in
    let at = both_true (is_place_page g place.page) (is_place_len g place.page place.len) h.1 in
    (key_sound key h.0, place_is g place.page place.len at.0 at.1)
entry_sound g (key, None) e = (key_sound key (both_true (is_key key) true e).0, tt)

entries_sound : (g : Shape) (es : List Entry) → list_all (is_entry g) es ≡ true → AllByRecursion (IsEntry g) es
entries_sound g [] e = tt
entries_sound g (x ∷ es) e = let h = both_true (is_entry g x) (list_all (is_entry g) es) e in (entry_sound g x h.0, entries_sound g es h.1)

pub are_sound : (g : Shape) (es : List Entry) → are_entries g es ≡ true → AreEntries g es
are_sound g es e =
    let h = both_true (nat_le 1 (length es) && nat_le (length es) (page_entries g)) (list_all (is_entry g) es) e in
    let size = both_true (nat_le 1 (length es)) (nat_le (length es) (page_entries g)) h.0 in
    record { some = at_least 1 (length es) size.0; most = at_least (length es) (page_entries g) size.1; each = entries_sound g es h.1 }
