-- The newest table: its search, and which changes of pages leave it the newest.
use Rattle.std.proofs.Common.{◌≡◌, ◌≢◌, ◌⊎◌, inl, inr, ℕ, zero, suc, ◌+◌, ◌*◌, ◌<◌, ◌≤◌, Bool, true, false, refl, sym, ap, subst, ◌∙◌, arith, Option, Some, None}
use Rattle.std.{specs.Prelude.nat_le, specs.Prelude.nat_eq, specs.Prelude.if◌then◌else◌, proofs.lemmas.Bool.Decides.nat_tests, proofs.lemmas.Option.same_Some}
use Rattle.pk_base.{specs.Shape.Shape, specs.Page.Page}
use Rattle.pk_remap.specs.Table.{SpareTable}
use Rattle.pk_remap.specs.Newest.{table_in, newer_table, newest_from, newest_table, first_table_page, IsTablePage, IsNewer, IsNewest, IsNewestBeside}

pub none_some : (x : SpareTable) → None ≡ Some x → ⊥
none_some x e = cc

-- two numbers are the same or differ
pub by_equal : (a b : ℕ) (P : Type 0) → (a ≡ b → P) → (a ≢ b → P) → P
by_equal a b P same other = by (nat_eq a b) refl
  where
    by : (t : Bool) → nat_eq a b ≡ t → P
    by true t = same (grind (arith, nat_tests))
    by false t = other (grind (arith, nat_tests))

module _ (shape : Shape) (spares : ℕ) (at : ℕ → Page) where
  -- the newest table of n pages from page k on
  pub record Best (from count page : ℕ) (table : SpareTable) : Type 0 where
    pub above : from ≤ page
    pub below : page < from + count
    pub is : table_in shape spares (at page) ≡ Some table
    pub newest : (k : ℕ) → from ≤ k → k < from + count → (other : SpareTable) → table_in shape spares (at k) ≡ Some other → IsNewer page table k other

  -- there is none
  abbrev pub NoneIn : ℕ → ℕ → Type 0
  NoneIn from count = (k : ℕ) → from ≤ k → k < from + count → table_in shape spares (at k) ≡ None

  abbrev pub Found : ℕ → ℕ → Option (ℕ × SpareTable) → Type 0
  Found from count None = NoneIn from count
  Found from count (Some top) = Best from count top.0 top.1

  -- a page has one table
  pub own_number : (k : ℕ) (table : SpareTable) → table_in shape spares (at k) ≡ Some table → (j : ℕ) (other : SpareTable) → j ≡ k
      → table_in shape spares (at j) ≡ Some other → other.number ≡ table.number
  own_number k table e j other same is =
      ap (λ (x : SpareTable). x.number) (same_Some other table (sym is ∙ ap (λ (x : ℕ). table_in shape spares (at x)) same ∙ e))

  found-step : (k n : ℕ) (own : Option SpareTable) (later : Option (ℕ × SpareTable))
      → table_in shape spares (at k) ≡ own → Found (suc k) n later → Found k (suc n) (newer_table k own later)
  found-step k n None None e more = λ j from to. by_equal j k (table_in shape spares (at j) ≡ None)
      (λ same. ap (λ (x : ℕ). table_in shape spares (at x)) same ∙ e)
      (λ other. more j (omega (arith, from, other)) (omega (arith, to)))
  found-step k n None (Some later) e more = record {
    above = omega (arith, more.above);
    below = omega (arith, more.below);
    is = more.is;
    newest = λ j from to other is. by_equal j k (IsNewer later.0 later.1 j other)
        (λ same. absurd (none_some other (sym e ∙ ap (λ (x : ℕ). table_in shape spares (at x)) (sym same) ∙ is)))
        (λ apart. more.newest j (omega (arith, from, apart)) (omega (arith, to)) other is);
  }
  found-step k n (Some table) None e more = record {
    above = omega arith;
    below = omega arith;
    is = e;
    newest = λ j from to other is. by_equal j k (IsNewer k table j other)
        (λ same. inr (own_number k table e j other same is, from))
        (λ apart. absurd (none_some other (sym (more j (omega (arith, from, apart)) (omega (arith, to))) ∙ is)));
  }
  found-step k n (Some table) (Some later) e more = by_number (nat_le later.1.number table.number) refl
    where
      if_less : (a b j : ℕ) → a ≤ b → k ≤ j → (a < b) ⊎ ((a ≡ b) × (k ≤ j))
      if_less a b j most from = by_equal a b ((a < b) ⊎ ((a ≡ b) × (k ≤ j))) (λ same. inr (same, from)) (λ apart. inl (omega (arith, most, apart)))

      by_number : (t : Bool) → nat_le later.1.number table.number ≡ t → Found k (suc n) (if t then Some (k, table) else Some later)
      by_number true t =
          let most : later.1.number ≤ table.number = grind (arith, nat_tests) in
          record {
            above = omega arith;
            below = omega arith;
            is = e;
            newest = λ j from to other is. by_equal j k (IsNewer k table j other)
                (λ same. inr (own_number k table e j other same is, from))
                (λ apart. elim (more.newest j (omega (arith, from, apart)) (omega (arith, to)) other is) [
                  | inl less ↦ inl (omega (arith, less, most))
                  | inr same ↦ if_less other.number table.number j (omega (arith, same.0, most)) from
                ]);
          }
      by_number false t =
          let less : table.number < later.1.number = grind (arith, nat_tests) in
          record {
            above = omega (arith, more.above);
            below = omega (arith, more.below);
            is = more.is;
            newest = λ j from to other is. by_equal j k (IsNewer later.0 later.1 j other)
                (λ same. inl (omega (arith, less, own_number k table e j other same is)))
                (λ apart. more.newest j (omega (arith, from, apart)) (omega (arith, to)) other is);
          }

  found : (k n : ℕ) → Found k n (newest_from shape spares at k n)
  found k zero = λ j from to. absurd (omega (arith, from, to))
  found k (suc n) = found-step k n (table_in shape spares (at k)) (newest_from shape spares at (suc k) n) refl (found (suc k) n)

  -- the newest table is found
  pub newest-found : (page : ℕ) (table : SpareTable) → IsNewest shape spares at page table → newest_table shape spares at ≡ Some (page, table)
  unfolding newest_table
  newest-found page table is = by (newest_from shape spares at (first_table_page shape spares) (2 * shape.block_pages))
      (found (first_table_page shape spares) (2 * shape.block_pages))
    where
      by : (r : Option (ℕ × SpareTable)) → Found (first_table_page shape spares) (2 * shape.block_pages) r → r ≡ Some (page, table)
      by None none = absurd (none_some table (sym (none page is.there.from is.there.to) ∙ is.is))
      by (Some top) best =
          let own = is.newest top.0 (record { from = best.above; to = best.below }) top.1 best.is in
          let other = best.newest page is.there.from is.there.to table is.is in
          let page_is : top.0 ≡ page = elim own [
            | inl less ↦ elim other [ inl less' ↦ absurd (omega (arith, less, less')) | inr same ↦ absurd (omega (arith, less, same.0)) ]
            | inr same ↦ elim other [ inl less' ↦ absurd (omega (arith, same.0, less')) | inr same' ↦ omega (arith, same.1, same'.1) ]
          ] in
          let table_is : top.1 ≡ table = same_Some top.1 table (sym best.is ∙ ap (λ (x : ℕ). table_in shape spares (at x)) page_is ∙ is.is) in
          λ i. Some (page_is i, table_is i)

  -- and what is found is the newest
  pub found-newest : (page : ℕ) (table : SpareTable) → newest_table shape spares at ≡ Some (page, table) → IsNewest shape spares at page table
  unfolding newest_table
  found-newest page table e =
      let best : Best (first_table_page shape spares) (2 * shape.block_pages) page table =
      subst (Found (first_table_page shape spares) (2 * shape.block_pages)) e (found (first_table_page shape spares) (2 * shape.block_pages)) in
      record {
        there = record { from = best.above; to = best.below };
        is = best.is;
        newest = λ k there other is. best.newest k there.from there.to other is;
      }

module _ (shape : Shape) (spares : ℕ) (at at' : ℕ → Page) (page : ℕ) (table : SpareTable) where
  -- A page of the table blocks differs only if it is no table page now; that of the newest table does not differ.
  pub newest-kept : IsNewest shape spares at page table → at' page ≡ at page
      → ((k : ℕ) → IsTablePage shape spares k → (at' k ≡ at k) ⊎ (table_in shape spares (at' k) ≡ None)) → IsNewest shape spares at' page table
  newest-kept was same others = record {
    there = was.there;
    is = ap (table_in shape spares) same ∙ was.is;
    newest = λ k there other is. elim (others k there) [
      | inl e ↦ was.newest k there other (sym (ap (table_in shape spares) e) ∙ is)
      | inr none ↦ absurd (none_some other (sym none ∙ is))
    ];
  }

  -- the pair is no table
  pub newest-beside : (pair : ℕ) → IsNewest shape spares at page table → page ≢ pair → page ≢ suc pair → IsNewestBeside shape spares pair at page table
  newest-beside pair was first second = record {
    there = was.there;
    not_first = first;
    not_second = second;
    is = was.is;
    newest = λ k there one two other is. was.newest k there other is;
  }

  pub beside-kept : (pair : ℕ) → IsNewestBeside shape spares pair at page table
      → ((k : ℕ) → IsTablePage shape spares k → k ≢ pair → k ≢ suc pair → at' k ≡ at k) → IsNewestBeside shape spares pair at' page table
  beside-kept pair was same = record {
    there = was.there;
    not_first = was.not_first;
    not_second = was.not_second;
    is = ap (table_in shape spares) (same page was.there was.not_first was.not_second) ∙ was.is;
    newest = λ k there one two other is. was.newest k there one two other (sym (ap (table_in shape spares) (same k there one two)) ∙ is);
  }

-- A pair of pages of which each is no table page, or that of a newer table: this table is the newest, or the newest one of the other pages.
module _ (shape : Shape) (spares : ℕ) (at : ℕ → Page) (page : ℕ) (table new : SpareTable) (pair : ℕ)
    (beside : IsNewestBeside shape spares pair at page table) (newer : table.number < new.number)
    (first : IsTablePage shape spares pair) (second : IsTablePage shape spares (suc pair)) where
  -- which of the two is the newest
  abbrev pub NewestOf : Type 0
  NewestOf = IsNewest shape spares at page table ⊎ ((q : ℕ) × IsNewest shape spares at q new)

  by_page : (k : ℕ) (P : Type 0) → (k ≡ pair → P) → (k ≡ suc pair → P) → (k ≢ pair → k ≢ suc pair → P) → P
  by_page k P one two rest = by_equal k pair P one (λ first. by_equal k (suc pair) P two (λ second. rest first second))

  older : (q k : ℕ) → IsTablePage shape spares k → k ≢ pair → k ≢ suc pair
      → (other : SpareTable) → table_in shape spares (at k) ≡ Some other → IsNewer q new k other
  older q k there one two other is = elim (beside.newest k there one two other is) [
    | inl less ↦ inl (omega (arith, less, newer))
    | inr same ↦ inl (omega (arith, same.0, newer))
  ]

  -- the pair has no table
  pub pair-none : table_in shape spares (at pair) ≡ None → table_in shape spares (at (suc pair)) ≡ None → IsNewest shape spares at page table
  pair-none none none' = record {
    there = beside.there;
    is = beside.is;
    newest = λ k there other is. by_page k (IsNewer page table k other)
        (λ e. absurd (none_some other (sym none ∙ ap (λ (x : ℕ). table_in shape spares (at x)) (sym e) ∙ is)))
        (λ e. absurd (none_some other (sym none' ∙ ap (λ (x : ℕ). table_in shape spares (at x)) (sym e) ∙ is)))
        (λ one two. beside.newest k there one two other is);
  }

  -- its first page has the new one
  pub pair-first : table_in shape spares (at pair) ≡ Some new
      → (table_in shape spares (at (suc pair)) ≡ None) ⊎ (table_in shape spares (at (suc pair)) ≡ Some new)
      → IsNewest shape spares at pair new
  pair-first is or = record {
    there = first;
    is = is;
    newest = λ k there other own. by_page k (IsNewer pair new k other)
        (λ e. let same : other ≡ new = same_Some other new (sym own ∙ ap (λ (x : ℕ). table_in shape spares (at x)) e ∙ is) in inr
        (ap (λ (x : SpareTable). x.number) same, omega (arith, e)))
        (λ e. let here : table_in shape spares (at (suc pair)) ≡ Some other = ap (λ (x : ℕ). table_in shape spares (at x)) (sym e) ∙ own in
        elim or [
          | inl none ↦ absurd (none_some other (sym none ∙ here))
          | inr too ↦ let same : other ≡ new = same_Some other new (sym here ∙ too) in inr (ap (λ (x : SpareTable). x.number) same, omega (arith, e))
        ])
        (λ one two. older pair k there one two other own);
  }

  -- only its second page has it
  pub pair-second : table_in shape spares (at pair) ≡ None → table_in shape spares (at (suc pair)) ≡ Some new → IsNewest shape spares at (suc pair) new
  pair-second none is = record {
    there = second;
    is = is;
    newest = λ k there other own. by_page k (IsNewer (suc pair) new k other)
        (λ e. absurd (none_some other (sym none ∙ ap (λ (x : ℕ). table_in shape spares (at x)) (sym e) ∙ own)))
        (λ e. let same : other ≡ new = same_Some other new (sym own ∙ ap (λ (x : ℕ). table_in shape spares (at x)) e ∙ is) in inr
        (ap (λ (x : SpareTable). x.number) same, omega (arith, e)))
        (λ one two. older (suc pair) k there one two other own);
  }

  -- in any case
  pub pair-newest : (table_in shape spares (at pair) ≡ None) ⊎ (table_in shape spares (at pair) ≡ Some new)
      → (table_in shape spares (at (suc pair)) ≡ None) ⊎ (table_in shape spares (at (suc pair)) ≡ Some new) → NewestOf
  pair-newest (inl none) (inl none') = inl (pair-none none none')
  pair-newest (inl none) (inr is) = inr (suc pair, pair-second none is)
  pair-newest (inr is) or = inr (pair, pair-first is or)
