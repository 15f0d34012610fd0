-- A drive after the reads of its opening.
use Rattle.std.proofs.Common.{◌≡◌, ℕ, ◌<◌, ◌≤◌, Some, List, [], length, refl, sym, ap, subst, ◌∙◌, arith}
use Rattle.pk_base.{specs.Shape.Shape, specs.Shape.IsShape, specs.Shape.page_entries, specs.Shape.pinned, specs.Page.Flash, specs.Page.page_at, specs.Entry.Entry, specs.Map.Map}
use Rattle.pk_rootfmt.specs.Root.{Root}
use Rattle.pk_model.{specs.Found.Found, specs.Found.found_under, specs.Tree.Tree, specs.Tree.IsTree, specs.Spaces.terms_at}
use Rattle.pk_nand.{specs.BoardState.BoardState, specs.Calls.IsReady, specs.Counts.after_reads}
use Rattle.pk_call.{specs.Sight.entries_of_runs, specs.Drive.HoldsMap, specs.Steady.live_blocks, specs.Steady.pages_of_runs}
use Rattle.pk_parts.{specs.Parts.Parts, specs.Parts.IsParts, specs.Parts.sight_of, specs.Agreeing.DriveOnFlash, specs.Moves.StandsFor, specs.Opening.OpenedOn}
use Rattle.pk_parts.{proofs.Halves.between, proofs.Standing.agrees_so}
use Rattle.pk_core.{proofs.Standing.still_stands, proofs.Steadying.pinned_leased}

-- ---- what contracts say of it

few_pending : (shape : Shape) (flash : Flash) (frames : ℕ) (d : Parts) → IsShape shape → OpenedOn shape flash frames d → length d.log.pending < page_entries d.log.shape
few_pending shape flash frames d is o =
    let least : 512 ≤ shape.page_bytes = is.page_least in
    let some : 0 < page_entries shape = omega arith in
    subst (λ (s : Shape). length d.log.pending < page_entries s) (sym o.with.shape_is) (subst (λ (es : List Entry). length es < page_entries shape) (sym o.none_pending) some)

-- after the reads of an opening
module _ (shape : Shape) (frames reads : ℕ) (old new : BoardState) (d : Parts) (is_shape : IsShape shape)
    (ready : IsReady old shape) (done : new ≡ after_reads reads old) (o : OpenedOn shape old.pages frames d) where
  told : new.shape ≡ Some shape
  told = ap (λ (s : BoardState). s.shape) done ∙ ready.shape_is

  stands : StandsFor d shape new.pages o.all
  stands = subst (λ (f : Flash). StandsFor d shape f o.all) (sym (ap (λ (s : BoardState). s.pages) done)) (record { top = o.top; found = o.found; without = o.all; with = o.with; whole = o.whole })

  pub agrees_behind : DriveOnFlash d new.shape new.pages × (length d.log.pending < page_entries d.log.shape)
  agrees_behind = (agrees_so d new.shape shape new.pages o.all told stands, few_pending shape old.pages frames d is_shape o)

  pub stands_behind : (m : Map) × HoldsMap shape (terms_at shape new.pages frames) new (sight_of d) m
  stands_behind = (o.all, still_stands d new shape (terms_at shape new.pages frames) o.all told o.frames_are refl (between d shape new.pages o.all stands))

  -- as many blocks are in use as have a page of a value
  pub blocks_behind : (tree : Tree) → IsTree shape new.pages tree → (sight_of d).counts.blocks ≡ live_blocks shape tree.found []
  blocks_behind tree is =
      let was : IsTree shape old.pages tree = subst (λ (f : Flash). IsTree shape f tree) (ap (λ (s : BoardState). s.pages) done) is in
      let top : (was.page_of_root, tree.root) ≡ o.top = let e = sym was.is_newest ∙ o.with.committed.is_top in cc in
      let found : tree.found ≡ o.found = let e = sym was.is_found ∙ ap (λ (t : ℕ × Root). found_under shape (page_at old.pages) t.1) top ∙ o.with.committed.is_found in cc in
      o.blocks_are ∙ ap (λ (f : Found). live_blocks shape f []) (sym found)

  -- the pages of the pinned levels alone have frames
  pub closed_behind : IsParts d → (sight_of d).counts.leased ≡ pages_of_runs shape (pinned shape frames) (entries_of_runs (sight_of d).counts)
  closed_behind keeps =
      subst (λ (n : ℕ). (sight_of d).counts.leased ≡ pages_of_runs shape (pinned shape n) (entries_of_runs (sight_of d).counts)) o.frames_are
      (pinned_leased d shape old.pages o.top o.found o.all o.all o.with keeps o.closed o.no_merge)
