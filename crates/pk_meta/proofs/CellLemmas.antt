-- The bytes of an entry are read as it, and a page is made of them.
use Rattle.std.proofs.Common.{◌≡◌, ℕ, zero, suc, ◌+◌, ◌-◌, ◌*◌, ◌^◌, ◌<◌, ◌≤◌, cond, List, [], ◌∷◌, ◌++◌, length, take, drop, get_or, refl, sym, ap, subst, ◌∙◌, arith, length-drop}
use Rattle.std.proofs.Common.{length-append, lit<, None}
use Rattle.std.specs.Prelude.{nat_eq}
use Rattle.std.{specs.List.flat_map, proofs.lemmas.List.length-take, proofs.lemmas.List.length-take-le, proofs.lemmas.List.append_assoc, proofs.lemmas.List.append-nil}
use Rattle.std.{proofs.lemmas.List.take_all, proofs.lemmas.List.take_at, proofs.lemmas.List.drop_at}
use Rattle.std.proofs.lemmas.List.{take-append-drop, take-take, get_or-drop}
use Rattle.pk_base.{specs.Fields.number_at, specs.Fields.spelled, specs.Fields.padded, specs.Fields.zeros, specs.Fields.u16, specs.Fields.u32, specs.Shape.Shape}
use Rattle.pk_base.{specs.Key.IsKey, specs.Key.Key, specs.Key.space_of, specs.Key.bytes_of, specs.Entry.Entry, specs.Entry.Place, specs.Entry.key_of, specs.Entry.put_entry}
use Rattle.pk_base.{specs.Entry.gone_entry}
use Rattle.pk_base.{specs.EntryBytes.cell_key, specs.EntryBytes.cell_at, specs.EntryBytes.entry_bytes, specs.EntryBytes.entry_at, specs.EntryChecks.entry_fault}
use Rattle.pk_base.proofs.Tables.{Stand, AreSized, spelled_stand, stands_byte, stands_number, stands_padded, length-padded}
use Rattle.pk_base.proofs.EntryLemmas.{entry_takes, key_of_at, key_is_key, length-entry_bytes}
use Rattle.pk_meta.{specs.Cells.IsCell, specs.Cells.HasCells, specs.Page.meta_magic, specs.Page.meta_bytes}

-- ---- what is in the bytes of an entry

module _ (cell : List ℕ) (is : IsCell cell) where
  pub cell_len : length cell ≡ 32
  cell_len = ap length is.bytes ∙ length-entry_bytes (entry_at cell) is.key

  pub cell_is_key : IsKey (cell_key cell)
  cell_is_key = subst IsKey (key_of_at cell) is.key

  pub cell_size : get_or cell 0 0 ≤ 16
  cell_size =
      let most = cell_is_key.most in
      let long = length-take (get_or cell 0 0) (drop 4 cell) in
      let rest = length-drop 4 cell in
      omega (arith, most, long, rest, cell_len)

  pub cell_space : get_or cell 2 0 < 255
  cell_space = let most = cell_is_key.space_most in omega (arith, most)

-- bytes that pass as an entry are those of one
pub passed_cell : (g : Shape) (cell : List ℕ) → ((i : ℕ) → get_or cell i 0 < 256) → length cell ≡ 32 → entry_fault g cell ≡ None → IsCell cell
passed_cell g cell fits sized good = let t = entry_takes g cell fits sized good in record { key = key_is_key g (entry_at cell) t.0; bytes = t.1 }

take_small : (n i : ℕ) (xs : List ℕ) → ((k : ℕ) → get_or xs k 0 < 256) → get_or (take n xs) i 0 < 256
take_small zero i xs h = lit< tt
take_small (suc n) i [] h = lit< tt
take_small (suc n) zero (x ∷ xs) h = h 0
take_small (suc n) (suc i) (x ∷ xs) h = take_small n i xs (λ k. h (suc k))

pub cell_small : (at : ℕ) (page : List ℕ) → ((i : ℕ) → get_or page i 0 < 256) → (i : ℕ) → get_or (cell_at at page) i 0 < 256
cell_small at page fits i = take_small 32 i (drop at page) (λ k. rw (get_or-drop at page k 0) (fits (at + k)))

-- ---- what was written is read

-- the rows of an entry's table, each with its size
rows : Key → ℕ → ℕ → ℕ → List (ℕ × List ℕ)
rows key kind page len =
    (1, length (bytes_of key) ∷ []) ∷ (1, kind ∷ []) ∷ (1, (space_of key - 1) ∷ []) ∷ (1, zeros 1) ∷ (16, padded 16 (bytes_of key)) ∷ (4, u32 page) ∷ (4, u32 len)
    ∷ (4, zeros 4) ∷ []

are_sized : (key : Key) (kind page len : ℕ) → IsKey key → AreSized (rows key kind page len)
unfolding rows
are_sized key kind page len h = (refl, (refl, (refl, (refl, (length-padded 16 (bytes_of key) h.most, (refl, (refl, (refl, tt))))))))

-- a key is its namespace and its bytes
key_whole : (k : Key) → IsKey k → k ≡ (space_of k - 1 + 1) ∷ bytes_of k
key_whole [] h = let some = h.some in absurd (omega arith)
key_whole (n ∷ b) h = let some = h.space_some in ap (λ (m : ℕ). m ∷ b) (omega arith)

module _ (key : Key) (kind page len : ℕ) (bytes : List ℕ) (row : Stand 0 (rows key kind page len) bytes) (is_key : IsKey key) (page_fits : page < 2 ^ 32) (len_fits : len < 2 ^ 32) where
  size_read : get_or bytes 0 0 ≡ length (bytes_of key)
  unfolding rows
  size_read = stands_byte 0 (length (bytes_of key)) (drop 1 bytes) bytes row.0

  space_read : get_or bytes 2 0 ≡ space_of key - 1
  unfolding rows
  space_read = stands_byte 2 (space_of key - 1) (drop 3 bytes) bytes row.1.1.0

  kind_read : get_or bytes 1 0 ≡ kind
  unfolding rows
  kind_read = stands_byte 1 kind (drop 2 bytes) bytes row.1.0

  page_read : number_at 4 20 bytes ≡ page
  unfolding rows
  page_read = stands_number 4 20 page (drop 24 bytes) bytes row.1.1.1.1.1.0 page_fits

  len_read : number_at 4 24 bytes ≡ len
  unfolding rows
  len_read = stands_number 4 24 len (drop 28 bytes) bytes row.1.1.1.1.1.1.0 len_fits

  key_read : take (length (bytes_of key)) (drop 4 bytes) ≡ bytes_of key
  unfolding rows
  key_read = (stands_padded 4 16 (bytes_of key) (drop 20 bytes) bytes row.1.1.1.1.0 is_key.most).1

  reads_again : entry_at bytes ≡ cond (nat_eq kind 1) (put_entry key (record { page = page; len = len })) (gone_entry key)
  unfolding entry_at
  reads_again =
      rw (size_read, kind_read, page_read, len_read, space_read, key_read)
      (ap (λ (k : Key). cond (nat_eq kind 1) (put_entry k (record { page = page; len = len })) (gone_entry k)) (sym (key_whole key is_key)))

pub put_reads : (key : Key) (place : Place) → IsKey key → place.page < 2 ^ 32 → place.len < 2 ^ 32 → entry_at (entry_bytes (put_entry key place)) ≡ put_entry key place
unfolding rows entry_bytes
put_reads key place h p l =
    let e : Entry = put_entry key place in
    reads_again key 1 place.page place.len (entry_bytes e) (spelled_stand 0 (rows key 1 place.page place.len) (entry_bytes e) (are_sized key 1 place.page place.len h) refl) h p l

pub gone_reads : (key : Key) → IsKey key → entry_at (entry_bytes (gone_entry key)) ≡ gone_entry key
unfolding rows entry_bytes
gone_reads key h =
    let e : Entry = gone_entry key in
    reads_again key 2 0 0 (entry_bytes e) (spelled_stand 0 (rows key 2 0 0) (entry_bytes e) (are_sized key 2 0 0 h) refl) h (lit< tt) (lit< tt)

-- the bytes of an entry that is read from them
pub read_cell : (e : Entry) (cell : List ℕ) → IsKey (key_of e) → cell ≡ entry_bytes e → entry_at (entry_bytes e) ≡ e → IsCell cell
read_cell e cell key is read =
    let same : entry_at cell ≡ e = ap entry_at is ∙ read in
    record { key = subst (λ (x : Entry). IsKey (key_of x)) (sym same) key; bytes = is ∙ ap entry_bytes (sym same) }

-- ---- a page of the bytes of entries

pub first_kept : (k m : ℕ) (old new rest : List ℕ) → k ≤ m → k ≤ length old → take m new ≡ take k old ++ rest → take k new ≡ take k old
first_kept k m old new rest h room e = sym (take-take k m new h) ∙ ap (take k) e ∙ take_at (take k old) rest k (length-take-le k old room)

-- what precedes the entries
abbrev pub head_of : ℕ → ℕ → ℕ → List ℕ
head_of level index n = spelled (meta_magic ∷ (level ∷ []) ∷ zeros 1 ∷ u16 n ∷ u32 index ∷ zeros 16 ∷ [])

module _ (es : List Entry) (page : List ℕ) (has : HasCells es page) (room : 32 + 32 * length es ≤ length page) where
  abbrev cells : List ℕ
  cells = flat_map entry_bytes es

  pub cells_long : length cells ≡ 32 * length es
  cells_long =
      let all = length-take-le (32 + 32 * length es) page room in
      let first = length-take-le 32 page (omega (arith, room)) in
      let parts = length-append (take 32 page) cells in
      let same = ap length has in
      omega (arith, all, first, parts, same)

  -- they follow the place of the head
  pub cells_stand : drop 32 page ≡ cells ++ drop (32 + 32 * length es) page
  cells_stand =
      let first = length-take-le 32 page (omega (arith, room)) in
      ap (drop 32) (sym (take-append-drop (32 + 32 * length es) page) ∙ ap (λ (xs : List ℕ). xs ++ drop (32 + 32 * length es) page) has
      ∙ append_assoc (take 32 page) cells (drop (32 + 32 * length es) page))
      ∙ drop_at (take 32 page) (cells ++ drop (32 + 32 * length es) page) 32 first

whole_page : (g : Shape) (level index : ℕ) (es : List Entry)
    → head_of level index (length es) ++ (flat_map entry_bytes es ++ (zeros (g.page_bytes - (32 + 32 * length es)) ++ [])) ≡ meta_bytes g level index es
unfolding meta_bytes
whole_page g level index es = refl

pub completed : (g : Shape) (level index n : ℕ) (es : List Entry) (old new : List ℕ) → length es ≡ n → length old ≡ g.page_bytes → 32 + 32 * n ≤ g.page_bytes → HasCells es old
    → length (head_of level index n) ≡ 32
    → take (length old) new ≡ take (32 + 32 * n) (head_of level index n ++ drop 32 old) ++ zeros (length old - (32 + 32 * n)) → length new ≡ length old → new ≡ meta_bytes g level index es
completed g level index n es old new many sized room has short e len =
    let fits : 32 + 32 * length es ≤ length old = omega (arith, many, sized, room) in
    let long = cells_long es old has fits in
    let head : List ℕ = head_of level index n in
    let F : List ℕ = flat_map entry_bytes es in
    let rest : List ℕ = drop (32 + 32 * length es) old in
    let front : take (32 + 32 * n) (head ++ drop 32 old) ≡ head ++ F =
    ap (λ (xs : List ℕ). take (32 + 32 * n) (head ++ xs)) (cells_stand es old has fits) ∙ ap (take (32 + 32 * n)) (sym (append_assoc head F rest))
    ∙ take_at (head ++ F) rest (32 + 32 * n) (let parts = length-append head F in omega (arith, parts, short, long, many)) in
    sym (take_all (length old) new (omega (arith, len))) ∙ e ∙ ap (λ (xs : List ℕ). xs ++ zeros (length old - (32 + 32 * n))) front
    ∙ append_assoc head F (zeros (length old - (32 + 32 * n)))
    ∙ (λ i. head_of level index (sym many i) ++ (F ++ zeros (sized i - (32 + 32 * sym many i))))
    ∙ ap (λ (z : List ℕ). head_of level index (length es) ++ (F ++ z)) (sym (append-nil (zeros (g.page_bytes - (32 + 32 * length es)))))
    ∙ whole_page g level index es

-- a page that was made has the bytes of its entries
pub meta_has_cells : (g : Shape) (level index : ℕ) (es : List Entry) → length (flat_map entry_bytes es) ≡ 32 * length es → HasCells es (meta_bytes g level index es)
meta_has_cells g level index es long =
    let head : List ℕ = head_of level index (length es) in
    let F : List ℕ = flat_map entry_bytes es in
    let rest : List ℕ = zeros (g.page_bytes - (32 + 32 * length es)) ++ [] in
    let short : length head ≡ 32 = refl in
    let is : head ++ (F ++ rest) ≡ meta_bytes g level index es = whole_page g level index es in
    let front : take (32 + 32 * length es) (head ++ (F ++ rest)) ≡ head ++ F =
    ap (take (32 + 32 * length es)) (sym (append_assoc head F rest)) ∙ take_at (head ++ F) rest (32 + 32 * length es) (let parts = length-append head F in omega (arith, parts, short, long)) in
    let first : take 32 (head ++ (F ++ rest)) ≡ head = take_at head (F ++ rest) 32 short in
    subst (λ (page : List ℕ). take (32 + 32 * length es) page ≡ take 32 page ++ F) is (front ∙ ap (λ (xs : List ℕ). xs ++ F) (sym first))
