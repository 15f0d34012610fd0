-- A search through table pages from the lowest on finds the newest table.
use Rattle.std.proofs.Common.{◌≡◌, inl, inr, ℕ, suc, ◌+◌, ◌*◌, ◌<◌, ◌≤◌, Bool, true, false, List, refl, sym, ap, subst, ◌∙◌, arith, Option, Some, None}
use Rattle.std.{specs.Prelude.nat_lt, specs.Prelude.if◌then◌else◌, proofs.lemmas.Bool.Decides.nat_tests}
use Rattle.pk_base.{specs.Shape.Shape, specs.Page.Page, specs.Page.erased, specs.Page.whole, specs.Page.torn}
use Rattle.pk_nand.{specs.BoardState.BoardState, specs.Calls.Rose, specs.Counts.after_reads, specs.Effects.OnlyReading, specs.Operations.filled, specs.Operations.ReadFailed, specs.Seen.answer}
use Rattle.pk_remap.{specs.Table.SpareTable, specs.Newest.table_in, specs.Newest.newest_table, specs.Newest.first_table_page, specs.Newest.IsNewer, specs.Counting.SearchFailed}
use Rattle.pk_remap.{specs.Searched.newer_at, specs.Searched.table_read, proofs.Finding.Found, proofs.Finding.by_equal, proofs.Finding.own_number, proofs.Finding.newest-found}
use Rattle.pk_remap.{proofs.Finding.found-newest, proofs.Finding.none_some}

pub read_table : (shape : Shape) (spares : ℕ) (p : Page) (old : List ℕ) → table_read shape spares (answer p) (filled p old) ≡ table_in shape spares p
read_table shape spares erased old = refl
read_table shape spares (whole bytes) old = refl
read_table shape spares torn old = refl

module _ (shape : Shape) (spares : ℕ) (at : ℕ → Page) where
  -- one page more
  pub searched-step : (from n : ℕ) (best : Option (ℕ × SpareTable)) (own : Option SpareTable)
      → table_in shape spares (at (from + n)) ≡ own → Found shape spares at from n best
      → Found shape spares at from (suc n) (newer_at best (from + n) own)
  searched-step from n best own e was = by best own e was
    where
      here : (j : ℕ) (x : Option SpareTable) → table_in shape spares (at (from + n)) ≡ x → j ≡ from + n → table_in shape spares (at j) ≡ x
      here j x e same = ap (λ (k : ℕ). table_in shape spares (at k)) same ∙ e

      by : (best : Option (ℕ × SpareTable)) (own : Option SpareTable) → table_in shape spares (at (from + n)) ≡ own
          → Found shape spares at from n best → Found shape spares at from (suc n) (newer_at best (from + n) own)
      by None None e none = λ j low high. by_equal j (from + n) (table_in shape spares (at j) ≡ None)
          (λ same. here j None e same) (λ other. none j low (omega (arith, high, other)))
      by (Some top) None e was = record {
        above = was.above;
        below = omega (arith, was.below);
        is = was.is;
        newest = λ j low high table is. by_equal j (from + n) (IsNewer top.0 top.1 j table)
            (λ same. absurd (none_some table (sym (here j None e same) ∙ is)))
            (λ other. was.newest j low (omega (arith, high, other)) table is);
      }
      by None (Some new) e none = record {
        above = omega arith;
        below = omega arith;
        is = e;
        newest = λ j low high table is. by_equal j (from + n) (IsNewer (from + n) new j table)
            (λ same. inr (own_number shape spares at (from + n) new e j table same is, omega (arith, same)))
            (λ other. absurd (none_some table (sym (none j low (omega (arith, high, other))) ∙ is)));
      }
      by (Some top) (Some new) e was = by_number (nat_lt top.1.number new.number) refl
        where
          by_number : (t : Bool) → nat_lt top.1.number new.number ≡ t → Found shape spares at from (suc n) (if t then Some (from + n, new) else Some top)
          by_number true t =
              let less : top.1.number < new.number = grind (arith, nat_tests) in
              record {
                above = omega arith;
                below = omega arith;
                is = e;
                newest = λ j low high table is. by_equal j (from + n) (IsNewer (from + n) new j table)
                    (λ same. inr (own_number shape spares at (from + n) new e j table same is, omega (arith, same)))
                    (λ other. elim (was.newest j low (omega (arith, high, other)) table is) [
                      | inl lower ↦ inl
                          (omega (arith, lower, less))
                      | inr equal ↦ inl (omega (arith, equal.0, less))
                    ]);
              }
          by_number false t =
              let most : new.number ≤ top.1.number = grind (arith, nat_tests) in
              record {
                above = was.above;
                below = omega (arith, was.below);
                is = was.is;
                newest = λ j low high table is. by_equal j (from + n) (IsNewer top.0 top.1 j table)
                    (λ same.
                    let number : table.number ≡ new.number = own_number shape spares at (from + n) new e j table same is in
                    choose_number j table (omega (arith, number, most)) (omega (arith, same, was.below)))
                    (λ other. was.newest j low (omega (arith, high, other)) table is);
              }
            where
              choose_number : (j : ℕ) (table : SpareTable) → table.number ≤ top.1.number → top.0 ≤ j → IsNewer top.0 top.1 j table
              choose_number j table most low = by_equal table.number top.1.number (IsNewer top.0 top.1 j table)
                  (λ same. inr (same, low)) (λ other. inl (omega (arith, most, other)))

  -- no page was searched
  pub searched-none : (from : ℕ) → Found shape spares at from 0 None
  searched-none from = λ j low high. absurd (omega (arith, low, high))

  -- all pages were searched
  pub searched-all : (best : Option (ℕ × SpareTable))
      → Found shape spares at (first_table_page shape spares) (2 * shape.block_pages) best → newest_table shape spares at ≡ best
  searched-all None none = by (newest_table shape spares at) refl
    where
      by : (r : Option (ℕ × SpareTable)) → newest_table shape spares at ≡ r → newest_table shape spares at ≡ None
      by None e = e
      by (Some top) e =
          let is = found-newest shape spares at top.0 top.1 e in
          absurd (none_some top.1 (sym (none top.0 is.there.from is.there.to) ∙ is.is))
  searched-all (Some top) best = newest-found shape spares at top.0 top.1 (record {
    there = record { from = best.above; to = best.below };
    is = best.is;
    newest = λ k there other is. best.newest k there.from there.to other is;
  })

-- a read failed after some others
pub search_failed : (k at : ℕ) (old now new : BoardState) → now ≡ after_reads k old → ReadFailed now new at → SearchFailed old new
search_failed k at old now new is failed =
    let F : BoardState → Type 0 = λ s. Rose s.flash_faults new.flash_faults in
    let R : BoardState → Type 0 = λ s. Rose s.read_faults new.read_faults in
    let A : BoardState → Type 0 = λ s. OnlyReading now s in
    let B : BoardState → Type 0 = λ s. OnlyReading s new in
    let own : OnlyReading now new = subst A (sym failed.rest) refl in
    record { flash = subst F is failed.flash; read = subst R is failed.read; rest = subst B is own }
