-- The 32 bytes of an entry, and of entries one after another in a page.
use Rattle.std.specs.Prelude.{◌≡◌, ℕ, ◌+◌, ◌*◌, List, ◌++◌, length, take}
use Rattle.std.specs.List.{flat_map}
use Rattle.pk_base.{specs.declared.sizes.TheConstants.HEAD_BYTES, specs.declared.sizes.TheConstants.ENTRY_BYTES, specs.Key.IsKey, specs.Entry.Entry, specs.Entry.key_of}
use Rattle.pk_base.specs.EntryBytes.{entry_bytes, entry_at}

-- the bytes are those of the entry that they are read as
pub record IsCell (cell : List ℕ) : Type 0 where
  pub key : IsKey (key_of (entry_at cell))
  pub bytes : cell ≡ entry_bytes (entry_at cell)

-- the bytes of these entries follow the place of the head
abbrev pub HasCells : List Entry → List ℕ → Type 0
HasCells es page = take (HEAD_BYTES + ENTRY_BYTES * length es) page ≡ take HEAD_BYTES page ++ flat_map entry_bytes es
