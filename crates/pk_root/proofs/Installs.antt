-- Erases and programs of root blocks.
use Rattle.std.proofs.Common.{◌≡◌, inl, inr, ℕ, ◌+◌, ◌*◌, ◌/◌, ◌%◌, ◌<◌, ◌≤◌, Bool, true, false, List, [], ◌∷◌, length, Some, nat_lt, if◌then◌else◌, refl, sym, ap, ◌∙◌, subst, arith, le_refl, mod-lt}
use Rattle.std.proofs.Common.{length-set}
use Rattle.std.{proofs.Math.ListN.set, proofs.Math.Nat.mul-le-mul_right, proofs.Math.Nat.mul-mod_left, proofs.lemmas.Nat.div-add-mod', proofs.lemmas.Bool.ltb-true}
use Rattle.pk_base.{specs.Shape.Shape, specs.Shape.IsShape, specs.Page.Page, specs.Page.Flash, specs.Page.page_at, specs.Page.erased, specs.Page.whole, specs.Page.SameBehind}
use Rattle.pk_base.specs.Mark.{Mark, erase, after}
use Rattle.pk_nand.{specs.BoardState.BoardState, specs.BoardState.shape_of, specs.Cut.Interrupted, specs.Cut.MayLeave, specs.Cut.touched_block, specs.Crash.Reached, specs.Crash.Went}
use Rattle.pk_nand.{specs.Calls.IsReady, specs.Calls.LeftBehind, specs.Calls.after_program, specs.Operations.InOrder, specs.Operations.after_erase, specs.Operations.EraseFailed, specs.Pairs.IsPairCut}
use Rattle.pk_nand.{proofs.Leaving.interrupted_done, proofs.Leaving.IsFlash-left, proofs.Leaving.full_erase, proofs.Leaving.page_at-slice_set, proofs.Touching.elsewhere}
use Rattle.pk_nand.{proofs.Reaching.Reached-erase, proofs.Reaching.Went-erase_failed, proofs.Writing.shape_is, proofs.Writing.InOrder-next, proofs.Writing.mod-add}
use Rattle.pk_rootfmt.specs.Root.{Root, root_page, root_bytes}
use Rattle.pk_model.{specs.Laws.IsInstall, specs.Laws.RootErase, specs.Laws.RootPair, proofs.Roots.first_stands}
use Rattle.pk_seg.proofs.ErasedBlocks.{order_erased}
use Rattle.pk_root.{specs.declared.next.Next.TheVariants.Erase, specs.declared.next.Next.TheVariants.Program, specs.declared.next.Next.TheVariants.Again, proofs.Scanning.root_page_exists}
use Rattle.pk_root.specs.Installing.{other_block, next_behind, before_pair, IsPossible, InstallerOnFlash, KeepsRoot, MayInstall}
use Rattle.pk_root.proofs.Places.{block_below, page_below, not_other, set_back}
use Rattle.pk_model.proofs.Growing.{weaken, weaken_went}

-- ---- pages after the root blocks

-- a mark in a root block leaves them
pub behind_block : (shape : Shape) (mark : Mark) (k block : ℕ) (old new : Page) → 0 < shape.block_pages → touched_block shape mark ≡ Some block → block < 2 → 2 * shape.block_pages ≤ k
    → MayLeave shape mark k old new → new ≡ old
behind_block shape mark k block old new some touched low high =
    elsewhere shape mark k block old new touched
    (λ (e : k / shape.block_pages ≡ block). let below : k < 2 * shape.block_pages = page_below shape.block_pages k some (omega (arith, e, low)) in omega (arith, below, high))

-- ---- erases

-- the board stays ready if an erase fails
pub IsReady-erase_failed : (board new : BoardState) (shape : Shape) (block : ℕ) → EraseFailed board new block → IsReady board shape → IsReady new shape
IsReady-erase_failed board new shape block failed ready = record {
  shape_is = ap (λ s. s.shape) failed.rest ∙ ready.shape_is;
  flash = IsFlash-left shape (erase block) board.pages new.pages board.trail new.trail (full_erase shape block) ready.flash
      (subst (λ s. LeftBehind s (erase block) board.pages new.pages board.trail new.trail) (shape_is board shape ready) failed.left);
}

module _ (law : RootErase) (shape : Shape) (board : BoardState) (beside : ℕ) (top : ℕ × Root) (is_shape : IsShape shape)
    (ready : IsReady board shape) (fits : InstallerOnFlash shape (Erase beside) top board.pages) where
  abbrev block : ℕ
  block = other_block shape beside

  some : 0 < shape.block_pages
  some = let least = is_shape.block_least in omega (arith, least)

  -- an erase of the other block, done or not
  left : (f : Flash) → Interrupted shape (erase block) board.pages f [] → KeepsRoot shape board.pages f
  left f cut = record {
    newest = law shape board.pages top block f [] fits.newest fits.possible.elsewhere (inl cut) ∙ sym fits.newest;
    behind = λ k high. behind_block shape (erase block) k block _ _ some refl (omega arith) high (cut.pages k);
    size = cut.same_size;
  }

  within : (f : Flash) → Interrupted (shape_of board) (erase block) board.pages f [] → KeepsRoot shape board.pages f
  within f cut = left f (subst (λ s. Interrupted s (erase block) board.pages f []) (shape_is board shape ready) cut)

  pub erase_done : KeepsRoot shape board.pages (after_erase board block).pages
  erase_done = rw (shape_is board shape ready) (left (after shape (erase block) board.pages) (interrupted_done shape (erase block) board.pages))

  pub erase_reaches : Reached board (after_erase board block) (λ cut _. KeepsRoot shape board.pages cut)
  erase_reaches = (erase block ∷ [], Reached-erase board (λ cut _. KeepsRoot shape board.pages cut) block within erase_done)

  pub erase_went : (new : BoardState) → EraseFailed board new block → Went board new (λ cut _. KeepsRoot shape board.pages cut)
  erase_went new failed = Went-erase_failed board (λ cut _. KeepsRoot shape board.pages cut) new block failed within erase_done

  -- if it failed
  pub erase_left : (new : BoardState) → EraseFailed board new block → KeepsRoot shape board.pages new.pages
  erase_left new failed = elim failed.left [
    | inl marked ↦ within new.pages marked.0
    | inr same ↦ rw same.0 (record { newest = refl; behind = λ k high. refl; size = refl })
  ]

  -- the first page of the other block is next now
  pub erase_fits : (now : ℕ × Root) → InstallerOnFlash shape (Erase beside) now board.pages → InstallerOnFlash shape (Program (block * shape.block_pages)) now (after_erase board block).pages
  erase_fits now former = record {
    newest = erase_done.newest ∙ former.newest;
    possible = record {
      in_root_blocks = let least = is_shape.block_least in let product = mul-le-mul_right {m = block} {n = 1} shape.block_pages (omega arith) in omega (arith, least, product);
      even = let none : block * shape.block_pages % shape.block_pages ≡ 0 = mul-mod_left block shape.block_pages in omega (arith, none);
      order = order_erased board shape block (block * shape.block_pages) ready (let fit = is_shape.data_fits in omega (arith, fit)) refl;
    };
  }

-- ---- programs

-- a pair whose first page is even in its block is in it
pub even_room : (shape : Shape) (page : ℕ) → IsShape shape → page % shape.block_pages % 2 ≡ 0 → page % shape.block_pages + 1 < shape.block_pages
even_room shape page is even =
    let least = is.block_least in
    let eights = is.eights in
    let less : page % shape.block_pages < shape.block_pages = mod-lt page (omega (arith, least)) in
    omega (arith, less, eights, even)

module _ {shape : Shape} {start : Flash} {top : ℕ × Root} {page : ℕ} {bytes : List ℕ} {root : Root} (law : RootPair) (install : IsInstall shape start top page bytes root) where
  -- cuts of the pair
  pair_install : (f : Flash) → IsPairCut page bytes start f → MayInstall shape page root start f
  pair_install f is_cut = record {
    newest = elim (law shape start top page bytes root f install is_cut) [ inl former ↦ inl (former ∙ sym install.was) | inr new ↦ inr new ];
    behind = λ k high. is_cut.outside.above k (let below = install.in_root_blocks in omega (arith, high, below));
    size = is_cut.outside.size;
  }

  -- the same of all cuts of a call
  pub reached_installs : (old new : BoardState) → Reached old new (λ f _. IsPairCut page bytes start f) → Reached old new (λ f _. MayInstall shape page root start f)
  reached_installs old new (marks, run) = (marks, weaken marks old new (λ f _. IsPairCut page bytes start f) (λ f _. MayInstall shape page root start f) (λ f _ c. pair_install f c) run)

  pub went_installs : (old new : BoardState) → Went old new (λ f _. IsPairCut page bytes start f) → Went old new (λ f _. MayInstall shape page root start f)
  went_installs old new (marks, run) = (marks, weaken_went marks old new (λ f _. IsPairCut page bytes start f) (λ f _. MayInstall shape page root start f) (λ f _ c. pair_install f c) run)

-- if a call stopped, its flash is a cut
pub went_left : (old new : BoardState) (P : Flash → Type 0) → Went old new (λ f _. P f) → P new.pages
went_left old new P run = run.1.cuts new.pages _ run.1.stands

pub went_behind : (shape : Shape) (page : ℕ) (bytes : List ℕ) (old new : BoardState) → page + 1 < 2 * shape.block_pages
    → Went old new (λ f _. IsPairCut page bytes old.pages f) → SameBehind shape old.pages new.pages
went_behind shape page bytes old new below run k high = (went_left old new (IsPairCut page bytes old.pages) run).outside.above k (omega (arith, high, below))

-- a root with a greater number than the newest one's, and its bytes, for the pair that is next
pub install : (shape : Shape) (board : BoardState) (page : ℕ) (top : ℕ × Root) (bytes : List ℕ) (root : Root) → IsShape shape → IsReady board shape
    → InstallerOnFlash shape (Program page) top board.pages → root_page shape bytes ≡ Some root → top.1.number < root.number → IsInstall shape board.pages top page bytes root
install shape board page top bytes root is_shape ready fits spells greater =
    let room = even_room shape page is_shape fits.possible.even in
    record {
      was = fits.newest;
      in_root_blocks = fits.possible.in_root_blocks;
      exists = root_page_exists shape board (page + 1) is_shape ready fits.possible.in_root_blocks;
      even = fits.possible.even;
      first_erased = fits.possible.order.behind page (le_refl page) (omega (arith, room));
      second_erased = fits.possible.order.behind (page + 1) (omega arith) (omega (arith, room));
      spells = spells;
      greater_number = greater;
    }

-- the root is the newest in the first page, and its second program is next
pub program_fits : {shape : Shape} {top : ℕ × Root} {page : ℕ} {bytes : List ℕ} {root : Root} (board new : BoardState) → IsInstall shape board.pages top page bytes root
    → new ≡ after_program board page bytes → bytes ≡ root_bytes shape root → IsPairCut page bytes board.pages new.pages → page_at new.pages page ≡ whole bytes
    → InOrder shape new.pages (page + 1) → InstallerOnFlash shape (Again page) (page, root) new.pages
program_fits {shape = shape} {top = top} {page = page} {bytes = bytes} {root = root} board new begun made spelled is_cut here order = record {
  newest = first_stands shape board.pages new.pages top page bytes root begun is_cut here;
  possible = record {
    at_first = refl;
    here = here ∙ ap (λ (b : List ℕ). whole b) spelled;
    order = order;
    former = top;
    install = subst (λ (b : List ℕ). IsInstall shape (before_pair new.pages page) top page b root) spelled
        (subst (λ (f : Flash). IsInstall shape f top page bytes root)
        (sym (ap (λ (b : BoardState). before_pair b.pages page) made ∙ set_back board.pages page (whole bytes) begun.first_erased)) begun);
  };
}

-- after a root in a pair that was programmed
possible_behind : (shape : Shape) (flash : Flash) (page : ℕ) (bytes : List ℕ) (root : Root) (t : Bool) → nat_lt (page % shape.block_pages + 2) shape.block_pages ≡ t → IsShape shape
    → page + 1 < length flash → page + 1 < 2 * shape.block_pages → page % shape.block_pages % 2 ≡ 0 → InOrder shape flash (page + 1)
    → IsPossible shape (if t then Program (page + 2) else Erase page) (page, root) (set flash (page + 1) (whole bytes))
possible_behind shape flash page bytes root true test is exists below even order =
    let n : ℕ = shape.block_pages in
    let room : page % n + 2 < n = ltb-true _ _ test in
    let low : page / n < 2 = block_below n page (omega (arith, below)) in
    let all : page / n * n + page % n ≡ page = div-add-mod' page n in
    let one : (page + 1) % n ≡ page % n + 1 = mod-add page 1 n (omega (arith, room)) in
    let two : (page + 2) % n ≡ page % n + 2 = mod-add page 2 n room in
    let eights = is.eights in
    let end : page / n * n ≤ 1 * n = mul-le-mul_right {m = page / n} {n = 1} n (omega (arith, low)) in
    let behind : InOrder shape (set flash (page + 1) (whole bytes)) ((page + 1) + 1) = InOrder-next shape flash (page + 1) bytes exists (omega (arith, one, room)) order in
    let next : (page + 1) + 1 ≡ page + 2 = omega arith in
    record {
      in_root_blocks = omega (arith, all, room, end, eights, even);
      even = omega (arith, two, even);
      order = subst (λ (k : ℕ). InOrder shape (set flash (page + 1) (whole bytes)) k) next behind;
    }
possible_behind shape flash page bytes root false test is exists below even order =
    record { in_root_blocks = omega (arith, below); elsewhere = not_other shape.block_pages page (omega (arith, below)) }

-- the second program of a root
module _ (shape : Shape) (board : BoardState) (page at : ℕ) (root : Root) (is_shape : IsShape shape) (fits : InstallerOnFlash shape (Again page) (at, root) board.pages) where
  abbrev bytes : List ℕ
  bytes = root_bytes shape root

  abbrev start : Flash
  start = before_pair board.pages page

  pub again_install : IsInstall shape start fits.possible.former page bytes root
  again_install = fits.possible.install

  pub again_exists : page + 1 < length board.pages
  again_exists = subst (λ (n : ℕ). page + 1 < n) (length-set board.pages page erased) again_install.exists

  second_free : page_at board.pages (page + 1) ≡ erased
  second_free = fits.possible.order.behind (page + 1) (le_refl (page + 1))
      (let one : (page + 1) % shape.block_pages ≡ page % shape.block_pages + 1 = mod-add page 1 shape.block_pages (even_room shape page is_shape again_install.even) in
      let r = even_room shape page is_shape again_install.even in omega (arith, one, r))

  -- what is there before the second program is a cut of the pair
  pub again_start : IsPairCut page bytes start board.pages
  again_start = record {
    outside = record {
      size = sym (length-set board.pages page erased);
      below = λ k low. sym (page_at-slice_set board.pages page k erased (λ e. omega (arith, e, low)));
      above = λ k high. sym (page_at-slice_set board.pages page k erased (λ e. omega (arith, e, high)));
    };
    first = inl fits.possible.here;
    second = inr (inl second_free);
  }

  -- the root is still the newest one, and what follows its pair is next
  pub again_fits : (new : BoardState) → new ≡ after_program board (page + 1) bytes → IsPairCut page bytes start new.pages → InstallerOnFlash shape (next_behind shape page) (page, root) new.pages
  again_fits new made is_cut =
      let still : page_at new.pages page ≡ whole bytes = ap (λ (b : BoardState). page_at b.pages page) made
      ∙ page_at-slice_set board.pages (page + 1) page (whole bytes) (λ e. omega (arith, e)) ∙ fits.possible.here in
      record {
        newest = first_stands shape start new.pages fits.possible.former page bytes root again_install is_cut still;
        possible = subst (λ (f : Flash). IsPossible shape (next_behind shape page) (page, root) f) (sym (ap (λ (b : BoardState). b.pages) made))
            (possible_behind shape board.pages page bytes root
            (nat_lt (page % shape.block_pages + 2) shape.block_pages) refl is_shape again_exists again_install.in_root_blocks again_install.even fits.possible.order);
      }

  -- no page after the root blocks differs
  pub again_behind : (f : Flash) → IsPairCut page bytes start f → SameBehind shape board.pages f
  again_behind f is_cut k high =
      let below = again_install.in_root_blocks in
      is_cut.outside.above k (omega (arith, high, below)) ∙ page_at-slice_set board.pages page k erased (λ e. omega (arith, e, high, below))
