-- Epochs that were replayed, as the reading of a flash has them.
use Rattle.std.proofs.Common.{◌≡◌, ℕ, ◌-◌, ◌*◌, ◌/◌, ◌<◌, ◌≤◌, true, false, ◌||◌, ◌==◌, List, [], ◌∷◌, length, refl, sym, ap, subst, ◌∙◌, arith, Option, Some, None, Result, Ok, Err}
use Rattle.std.specs.declared.cmp.Ordering.TheVariants.{Less, Equal, Greater}
use Rattle.std.{specs.FinMap.Entries.put, specs.FinMap.Entries.by_order, proofs.lemmas.Bool.or_right, proofs.lemmas.Bool.or_from, proofs.lemmas.Bool.le-leb, proofs.lemmas.Bool.lt-leb}
use Rattle.std.{specs.Prelude.nat_le, specs.Prelude.slice_index, proofs.Math.Nat.zero-div, proofs.Math.Nat.zero-mod, proofs.lemmas.Bool.Decides.nat_tests}
use Rattle.pk_base.{specs.Key.Key, specs.Key.key_cmp, specs.Shape.Shape, specs.Shape.epoch_commits, specs.Entry.Entry, specs.Entry.Place, specs.Firsts.firsts}
use Rattle.pk_base.specs.Page.{Page, Flash, page_at, page_in, commits_of}
use Rattle.pk_base.specs.Refusal.{Refusal, damaged}
use Rattle.pk_jrnfmt.specs.Epoch.{epoch, journal}
use Rattle.pk_rootfmt.{specs.Root.Root, specs.Held.two_of, specs.Held.older_of}
use Rattle.pk_buf.specs.Table.{Table, no_entries}
use Rattle.pk_jrn.{specs.Epochs.EpochOnFlash, specs.Epochs.HasCommit, specs.Epochs.found_at_opening, specs.Replays.Replayed, specs.Replays.buffer_of, proofs.Puts.firsts-reverse}
use Rattle.pk_model.{specs.RootLimits.root_spaces, specs.Found.older_epoch}
use Rattle.pk_scan.{specs.OpeningParts.OlderHeld, specs.OpeningParts.NewestHeld, proofs.Naming.two_is, proofs.Naming.older_is, proofs.Naming.older_none}

-- ---- entries of a table

put_some : (key : Key) (v : Option Place) (es : List Entry) → 1 ≤ length (put key_cmp key v es)
put_some key v [] = omega arith
put_some key v (e ∷ es) =
    elim (key_cmp key e.0) as (λ o. 1 ≤ length (by_order o ((key, v) ∷ e ∷ es) ((e.0, v) ∷ es) (e ∷ put key_cmp key v es))) [
      | Less ↦ omega arith
      | Equal ↦ omega arith
      | Greater ↦ omega arith
    ]

none_first : (es : List Entry) → length (firsts es) ≡ 0 → length es ≡ 0
none_first [] e = refl
none_first (x ∷ es) e = absurd (omega (arith, put_some x.0 x.1 (firsts es), e))

some_first : (es : List Entry) → 1 ≤ length (firsts es) → 1 ≤ length es
some_first [] h = absurd (omega (arith, h))
some_first (x ∷ es) h = omega arith

held_size : (shape : Shape) (into : Table) (es : List Entry) → into ≡ buffer_of shape es → length into.entries ≡ length (firsts es)
held_size shape into es held = ap (λ (t : Table). length t.entries) held ∙ firsts-reverse es

-- ---- the older epoch

module _ (shape : Shape) (at : ℕ → Page) (root : Root) where
  found_of : (es : List Entry) → epoch shape (root_spaces shape root) at (root.epoch - 1) root.older ≡ Ok es → (length root.older == 0 || nat_le 1 (length es)) ≡ true → older_epoch shape at root ≡ Ok es
  found_of es read test = rw (read, test) refl

  none_of : (es : List Entry) → epoch shape (root_spaces shape root) at (root.epoch - 1) root.older ≡ Ok es
      → (length root.older == 0 || nat_le 1 (length es)) ≡ false → older_epoch shape at root ≡ Err (damaged (page_in shape root.older 0))
  none_of es read test = rw (read, test) refl

  refused_of : (e : Refusal) → epoch shape (root_spaces shape root) at (root.epoch - 1) root.older ≡ Err e → older_epoch shape at root ≡ Err e
  refused_of e read = rw read refl

abbrev refusal_at : ℕ → Result (List Entry) Refusal
refusal_at page = Err (damaged page)

first_in : (shape : Shape) (bs : List ℕ) → slice_index bs 0 * shape.block_pages ≡ page_in shape bs 0
first_in shape bs =
    let q : slice_index bs (0 / shape.block_pages) * shape.block_pages ≡ slice_index bs 0 * shape.block_pages = ap (λ (k : ℕ). slice_index bs k * shape.block_pages) (zero-div shape.block_pages) in
    let r = zero-mod shape.block_pages in
    omega (arith, q, r)

module _ (shape : Shape) (flash : Flash) (root : Root) where
  abbrev at : ℕ → Page
  at = page_at flash

  empty_is : (number : ℕ) → epoch shape (root_spaces shape root) at number [] ≡ Ok []
  unfolding epoch
  empty_is number = let none : 0 * (shape.block_pages / 2) ≡ 0 = omega arith in ap (λ (n : ℕ). journal shape (root_spaces shape root) number 0 [] (commits_of shape at [] 0 n)) none

  no_blocks : (number : ℕ) (bs : List ℕ) → bs ≡ [] → epoch shape (root_spaces shape root) at number bs ≡ Ok []
  no_blocks number bs none = ap (epoch shape (root_spaces shape root) at number) none ∙ empty_is number

  pub older_not_named : (into : Table) → None ≡ older_of root.older → into ≡ no_entries shape → OlderHeld shape flash root into
  older_not_named into none is =
      let empty : root.older ≡ [] = older_none root.older none in
      let read : epoch shape (root_spaces shape root) at (root.epoch - 1) root.older ≡ Ok [] = no_blocks (root.epoch - 1) root.older empty in
      let named : (length root.older == 0 || nat_le 1 (length {A = Entry} [])) ≡ true = rw empty refl in
      ([], record { finds = found_of shape at root [] read named; held = is; each = tt })

  module _ (bs : List ℕ) (is : Some bs ≡ older_of root.older) where
    read_older : {e : Result (List Entry) Refusal} → epoch shape (root_spaces shape root) at (root.epoch - 1) bs ≡ e → epoch shape (root_spaces shape root) at (root.epoch - 1) root.older ≡ e
    read_older read = sym (ap (epoch shape (root_spaces shape root) at (root.epoch - 1)) (older_is root.older bs is)) ∙ read

    pub older_held : (used : ℕ) (into : Table) → Replayed shape (root_spaces shape root) (root.epoch - 1) bs flash used into → 1 ≤ length into.entries → OlderHeld shape flash root into
    older_held used into r some =
        let many = held_size shape into r.entries r.held in
        let one : 1 ≤ length r.entries = some_first r.entries (omega (arith, some, many)) in
        let test = or_right (length root.older == 0) (nat_le 1 (length r.entries)) (le-leb 1 (length r.entries) one) in
        (r.entries, record { finds = found_of shape at root r.entries (read_older r.read) test; held = r.held; each = r.each })

    first_of_some : (os : List ℕ) → Some bs ≡ older_of os → (length os == 0) ≡ false
    first_of_some [] e = cc
    first_of_some (o ∷ os) e = grind (arith, nat_tests)

    first_page : slice_index bs 0 * shape.block_pages ≡ page_in shape root.older 0
    first_page = ap (λ (os : List ℕ). slice_index os 0 * shape.block_pages) (older_is root.older bs is) ∙ first_in shape root.older

    pub older_without : (used : ℕ) (into : Table) → Replayed shape (root_spaces shape root) (root.epoch - 1) bs flash used into
        → length into.entries ≡ 0 → older_epoch shape at root ≡ Err (damaged (slice_index bs 0 * shape.block_pages))
    older_without used into r none =
        let many = held_size shape into r.entries r.held in
        let zero_many : length r.entries ≡ 0 = none_first r.entries (omega (arith, none, many)) in
        let test = or_from (length root.older == 0) (nat_le 1 (length r.entries)) (first_of_some root.older is) (lt-leb 1 (length r.entries) (omega (arith, zero_many))) in
        none_of shape at root r.entries (read_older r.read) test ∙ sym (ap refusal_at first_page)

    pub older_refused : (page : ℕ) → epoch shape (root_spaces shape root) at (root.epoch - 1) bs ≡ Err (damaged page) → older_epoch shape at root ≡ Err (damaged page)
    older_refused page read = refused_of shape at root (damaged page) (read_older read)

  pub newest_held : (bs : List ℕ) (used : ℕ) (into : Table) → length root.newest ≡ 2 → bs ≡ two_of root.newest
      → Replayed shape (root_spaces shape root) root.epoch bs flash used into → EpochOnFlash (found_at_opening shape root.epoch bs used) flash
      → NewestHeld shape flash root into (found_at_opening shape root.epoch bs used)
  newest_held bs used into two is r fits =
      let same : bs ≡ root.newest = is ∙ two_is root.newest two in (
        (r.entries, record { finds = sym (ap (epoch shape (root_spaces shape root) at root.epoch) same) ∙ r.read; held = r.held; each = r.each }),
        (used, ap (λ (b : List ℕ). found_at_opening shape root.epoch b used) same, subst (λ (b : List ℕ). used < epoch_commits shape → HasCommit shape flash b used → ⊥) same r.ends),
        fits,
      )
