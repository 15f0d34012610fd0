-- A value that was stored, as the contract of a drive sees it.
use Rattle.std.proofs.Common.{◌≡◌, inl, inr, ℕ, ◌+◌, ◌*◌, ◌/◌, ◌≤◌, sym, ap, subst, ◌∙◌, ◌⊎◌, arith, true, false, List, [], ◌∷◌, ◌++◌, reverse, Option, Some, None, cond}
use Rattle.std.{proofs.lemmas.Bool.le-leb, specs.Prelude.MatchOption, specs.List.flat_map, specs.Ordering.eq_by_cmp, specs.FinMap.Entries.find}
use Rattle.pk_base.{specs.Shape.Shape, specs.Shape.charge, specs.Page.Flash, specs.Entry.Entry, specs.Entry.Place, specs.Key.Key, specs.Key.key_cmp, specs.Firsts.firsts}
use Rattle.pk_base.proofs.Logic.{not_both, some_same}
use Rattle.pk_buf.specs.Table.{Table}
use Rattle.pk_nvme.specs.Command.{Command, key}
use Rattle.pk_nand.{specs.BoardState.BoardState, specs.Effects.OnlyFlash}
use Rattle.pk_pool.specs.Blocks.{Blocks, freed}
use Rattle.pk_model.{specs.Found.Found, specs.Found.entries_in_order, proofs.Lookups.find-firsts}
use Rattle.pk_call.{specs.Sight.free_pages, specs.Moving.HasOpenRoom, specs.Moving.StoresIn, specs.Moving.Stores}
use Rattle.pk_values.{specs.State.OpenBlock, specs.State.fits_open, specs.State.has_left, specs.Placed.IsOpenIn}
use Rattle.pk_parts.{specs.Parts.Parts, specs.Parts.sight_of, specs.Parts.block_if_open, specs.Agreeing.DriveOnFlash}
use Rattle.pk_parts.specs.Staying.{IsNoted, SameUse, OpensOne, MakesRoom}
use Rattle.pk_background.proofs.Ticking.{count_free}

-- ---- what is seen of it

-- the open block has room if this many of its pages are Erased
pub left_is : (shape : Shape) (pool : Blocks) (flash : Flash) (o : Option OpenBlock) (b count : ℕ)
    → MatchOption o (Unit {0}) (λ x. IsOpenIn shape pool flash x) → block_if_open o ≡ Some b → count ≤ free_pages shape flash b → has_left shape o count ≡ true
left_is shape pool flash None b count is e room = cc
left_is shape pool flash (Some o) b count is e room =
    let n : ℕ = shape.block_pages in
    let same : o.block ≡ b = some_same o.block b e in
    let free = count_free flash (o.block * n) n o.used is.within is.written is.unwritten in
    let within = is.within in
    let here : count ≤ free_pages shape flash o.block = subst (λ x. count ≤ free_pages shape flash x) (sym same) room in
    le-leb (o.used + count) n (omega (arith, free, here, within))

-- an entry that a list has counts before others
found_front : (k : Key) (xs ys : List Entry) (place : Option Place) → find key_cmp k xs ≡ Some place → find key_cmp k (xs ++ ys) ≡ Some place
found_front k [] ys place is = cc
found_front k (x ∷ xs) ys place is =
    elim (eq_by_cmp key_cmp k x.0) as (λ b. cond b (Some x.1) (find key_cmp k xs) ≡ Some place → cond b (Some x.1) (find key_cmp k (xs ++ ys)) ≡ Some place) [
      | true ↦ λ e. e
      | false ↦ λ e. found_front k xs ys place e
    ] is

-- the first list has the entry that counts
pub found_first : (found : Found) (pending : List Entry) (k : Key) (place : Option Place)
    → find key_cmp k (firsts (reverse (found.newest ++ pending))) ≡ Some place → find key_cmp k (entries_in_order found pending) ≡ Some place
found_first found pending k place is =
    found_front k (reverse (found.newest ++ pending) ++ reverse found.older) (flat_map (λ es. es) found.runs) place
    (found_front k (reverse (found.newest ++ pending)) (reverse found.older) place (sym (find-firsts k (reverse (found.newest ++ pending))) ∙ is))

module _ (d e : Parts) (old new : BoardState) (c : Command) (a : DriveOnFlash d old.shape old.pages) (b : DriveOnFlash e new.shape new.pages)
    (n : IsNoted e (key c)) (blocks : SameUse d e ⊎ (OpensOne d e (charge d.log.shape c.size) ⊎ MakesRoom d e (charge d.log.shape c.size))) where
  has_room : HasOpenRoom a.shape old.pages (sight_of d) (charge a.shape c.size) → fits_open d.log.shape d.values (charge d.log.shape c.size) ≡ false → ⊥
  has_room room none =
      let left : fits_open a.shape d.values (charge a.shape c.size) ≡ true = left_is a.shape
      (freed d.pool) old.pages d.values.open_block room.0 (charge a.shape c.size) a.with.placed.open_is room.1 room.2 in
      not_both (fits_open a.shape d.values (charge a.shape c.size)) left (subst (λ s. fits_open s d.values (charge s c.size) ≡ false) a.with.shape_is none)

  -- if its value has room, the open block is unchanged
  open_stays : HasOpenRoom a.shape old.pages (sight_of d) (charge a.shape c.size) → block_if_open e.values.open_block ≡ block_if_open d.values.open_block
  open_stays room = elim blocks [
    | inl same ↦ same.open_same
    | inr (inl one) ↦ absurd (has_room room one.no_room)
    | inr (inr made) ↦ absurd (has_room room made.no_room)
  ]

  stores_here : (same : b.shape ≡ a.shape) → StoresIn a.shape old.pages new.pages (sight_of d) (sight_of e) c
  stores_here same =
      let T : Shape → Type 0 = λ s. StoresIn s old.pages new.pages (sight_of d) (sight_of e) c in
      let active : find key_cmp (key c) (firsts (reverse (b.found.newest ++ e.log.pending))) ≡ Some
      (Some n.place) = ap (λ (t : Table). find key_cmp (key c) t.entries) (sym b.with.index.logs.active_is) ∙ n.found in
      let room : HasOpenRoom b.shape old.pages (sight_of d) (charge b.shape c.size) → block_if_open e.values.open_block ≡ block_if_open d.values.open_block =
      subst (λ s. HasOpenRoom s old.pages (sight_of d) (charge s c.size) → block_if_open e.values.open_block ≡ block_if_open d.values.open_block) (sym same) open_stays in
      subst T same (record {
        tree = record { root = b.top.1; found = b.found };
        is_tree = record { page_of_root = b.top.0; is_newest = b.with.committed.is_top; is_found = b.with.committed.is_found };
        place = n.place;
        found = found_first b.found e.log.pending (key c) (Some n.place) active;
        in_open = n.in_open ∙ ap (λ (s : Shape). Some (n.place.page / s.block_pages)) b.with.shape_is;
        stays = room;
      })

  pub stores_all : OnlyFlash old new → Stores old new (sight_of d) (sight_of e) c
  stores_all rest shape frames m st =
      let told : new.shape ≡ old.shape = ap (λ (x : BoardState). x.shape) rest in
      let same : b.shape ≡ a.shape = some_same b.shape a.shape (sym b.told_is ∙ (told ∙ a.told_is)) in
      subst (λ s. StoresIn s old.pages new.pages (sight_of d) (sight_of e) c) (some_same a.shape shape (sym a.told_is ∙ st.shape_is)) (stores_here same)
