-- The entry of a key in a page by its number at the key's home: the page has its entries noted, and another number excludes the key.
use Rattle.std.proofs.Common.{◌≡◌, ◌≢◌, ℕ, suc, ◌+◌, ◌*◌, ◌<◌, ◌≤◌, List, length, get_or, drop, ap, sym, ◌∙◌, arith, inl, inr, Some, length-take-le, length-drop}
use Rattle.std.specs.Prelude.{slice_get}
use Rattle.pk_base.{specs.Shape.Shape, specs.Shape.IsShape, specs.Fields.number_at, specs.Entry.Entry, specs.Entry.key_of, specs.EntryBytes.cell_at}
use Rattle.pk_base.{specs.EntryBytes.cell_key, specs.EntryBytes.entry_at}
use Rattle.pk_base.{proofs.EntryLemmas.key_of_at, proofs.PlaceLemmas.get_is}
use Rattle.pk_homes.{specs.declared.table.TheConstants.SHARED, specs.Hash.hash_of, proofs.Numbers.cell_hash}
use Rattle.pk_meta.{specs.PageChecks.IsMetaPage, specs.PageChecks.Decodes, proofs.FindLemmas.cell_good, proofs.FindLemmas.cell_room, proofs.FindLemmas.cell_entry, proofs.PageLemmas.meta_again}
use Rattle.pk_pin.specs.Index.{hash_in, HasEntries, IsNumberOf}

module _ (g : Shape) (page : List ℕ) (shape : IsShape g) (sized : length page ≡ g.page_bytes) (decodes : Decodes g page) where
  -- a page has few entries
  has_entries : HasEntries page
  has_entries =
      let own = meta_again g page decodes.0 decodes.1 decodes.2 shape decodes.3 in
      let room : 32 + 32 * number_at 2 10 page ≤ g.page_bytes = cell_room g page shape decodes in
      let most : g.page_bytes ≤ 16384 = shape.page_most in
      record { room = omega (arith, room, sized); few = omega (arith, room, most) }

  -- and the hash of an entry is that of its key
  hash_is : (key : List ℕ) (i : ℕ) → i < number_at 2 10 page → cell_key (cell_at (32 + 32 * i) page) ≡ key → hash_in page i ≡ hash_of key
  hash_is key i h same =
      let room : 32 + 32 * number_at 2 10 page ≤ g.page_bytes = cell_room g page shape decodes in
      let long : length (cell_at (32 + 32 * i) page) ≡ 32 = length-take-le 32 (drop (32 + 32 * i) page) (omega (arith, room, sized, length-drop (32 + 32 * i) page)) in
      cell_hash g (cell_at (32 + 32 * i) page) long (cell_good g page shape decodes i h) ∙ ap hash_of same

  -- the number of a home that is not shared is that of each entry of the key
  pub is_single : (key : List ℕ) (number i : ℕ) → IsNumberOf page (hash_of key) number → number < SHARED → i < number_at 2 10 page
      → cell_key (cell_at (32 + 32 * i) page) ≡ key → number ≡ suc i
  is_single key number i is single h same =
      elim (is has_entries i h (hash_is key i h same)) [
        | inl here ↦ here
        | inr many ↦ absurd (omega arith)
      ]

  -- if the entry with that number has another key, none has this one
  pub none_single : (key : List ℕ) (number : ℕ) → IsNumberOf page (hash_of key) number → number < SHARED
      → ((i : ℕ) → i < number_at 2 10 page → number ≡ suc i → cell_key (cell_at (32 + 32 * i) page) ≢ key)
      → (level index : ℕ) (entries : List Entry) → IsMetaPage g page level index entries
      → (k : ℕ) (d : Entry) → k < length entries → key_of (get_or entries k d) ≡ key → ⊥
  none_single key number is single other level index entries held k d less same =
      let own = meta_again g page level index entries shape held in
      let inside : k < number_at 2 10 page = omega (arith, own.count_is) in
      let cell : List ℕ = cell_at (32 + 32 * k) page in
      let got : slice_get entries k ≡ Some (entry_at cell) = cell_entry g page shape level index entries held k inside in
      let key_is : cell_key cell ≡ key = sym (key_of_at cell) ∙ ap key_of (sym ((get_is entries k (entry_at cell) got).1 d)) ∙ same in
      other k inside (is_single key number k is single inside key_is) key_is
