-- A flash with a first root in pages 0 and 1 and all other pages Erased holds the empty map, and this root is its newest.
use Rattle.std.proofs.Common.{◌≡◌, ◌⊎◌, inr, ℕ, zero, suc, ◌+◌, ◌*◌, ◌/◌, ◌%◌, ◌<◌, ◌≤◌, refl, sym, ap, subst, ◌∙◌, arith, true, List, [], ◌∷◌, length, length-set, nat_le, min, slice_index, slice_set}
use Rattle.std.proofs.Common.{Some, None, Ok, le→leb, zero-mul, mul-le-mul_right}
use Rattle.std.{proofs.Math.Nat.zero-div, proofs.Math.Nat.zero-mod, specs.FinMap.empty}
use Rattle.pk_base.{specs.Shape.Shape, specs.Shape.IsShape, specs.Shape.page_count, specs.Shape.page_entries, specs.Shape.run_pages, specs.Shape.buffer, proofs.Logic.is_true}
use Rattle.pk_base.specs.Page.{Page, Flash, page_at, erased, whole, page_in, page_of_pair, commit_at}
use Rattle.pk_jrnfmt.specs.Epoch.{epoch}
use Rattle.pk_meta.specs.Run.{run}
use Rattle.pk_nand.{specs.BoardState.BoardState, specs.Calls.IsReady, specs.Calls.after_programs, specs.Pairs.programs_of_pair}
use Rattle.pk_nand.proofs.Leaving.{page_at-slice_set, page_at-slice_set_same}
use Rattle.pk_rootfmt.{specs.Root.Root, specs.Root.root_bytes, specs.Root.is_root, specs.Held.first_with, specs.Newest.newest_root, specs.Newest.root_of, proofs.AgainLemmas.reads_back}
use Rattle.pk_model.{specs.Found.Found, specs.Found.found_under, specs.Found.older_epoch, specs.Found.newest_epoch, specs.Found.runs_from, specs.Values.values_of, specs.Laws.IsWholePage}
use Rattle.pk_model.{specs.Reading.Holds, specs.Reading.map_under, specs.Reading.reading_of, proofs.Roots.newest_complete, proofs.Roots.inside, proofs.Commits.ends, specs.RootLimits.root_spaces}

-- what is found under the first root
abbrev nothing : Found
nothing = record { newest = []; older = []; runs = [] ∷ [] ∷ [] ∷ [] ∷ [] }

-- a run without entries has no pages
no_entries : (shape : Shape) (spaces : ℕ) (at : ℕ → Page) (level : ℕ) → run shape spaces at level 0 [] ≡ Ok []
unfolding run
no_entries shape spaces at level =
    let none : run_pages shape 0 ≡ 0 = (λ i. zero-div (page_entries shape) i + min 1 (zero-mod (page_entries shape) i)) in
    rw none refl

-- a pair of Erased pages has no page that is Whole
none_whole : (first : ℕ) (x y : Page) → x ≡ erased → y ≡ erased → IsWholePage (page_of_pair first x y).1 → ⊥
none_whole first x y is_x is_y there = subst IsWholePage (ap (λ (p : Page). (page_of_pair first p y).1) is_x ∙ is_y) there

module _ (shape : Shape) (flash : Flash) (is_shape : IsShape shape) (size : length flash ≡ page_count shape)
    (are_erased : (q : ℕ) → q < page_count shape → page_at flash q ≡ erased) (limits : List ℕ) (grammar : is_root shape (first_with limits) ≡ true) where
  abbrev top : Root
  top = first_with limits

  abbrev half_made : Flash
  half_made = slice_set flash 0 (whole (root_bytes shape top))

  abbrev made : Flash
  made = slice_set half_made 1 (whole (root_bytes shape top))

  some_pages : 8 ≤ shape.block_pages
  some_pages = is_shape.block_least

  -- the blocks of roots are in the flash, and a block more
  roots_exist : 3 * shape.block_pages ≤ page_count shape
  roots_exist =
      let blocks : 3 ≤ shape.blocks = let fit = is_shape.data_fits in omega (arith, fit) in
      let thrice = mul-le-mul_right shape.block_pages blocks in
      omega (arith, thrice)

  spelled_back : root_of shape (whole (root_bytes shape top)) ≡ Some top
  spelled_back = reads_back shape top is_shape grammar

  first_there : root_of shape (page_at made 0) ≡ Some top
  first_there =
      let inside : 0 < length flash = let some = some_pages in let exists = roots_exist in omega (arith, size, some, exists) in
      ap (root_of shape) (page_at-slice_set half_made 1 0 (whole (root_bytes shape top)) (λ e. cc) ∙ page_at-slice_set_same flash 0 (whole (root_bytes shape top)) inside) ∙ spelled_back

  second_there : root_of shape (page_at made 1) ≡ Some top
  second_there =
      let same = length-set flash 0 (whole (root_bytes shape top)) in
      let inside : 1 < length half_made = let some = some_pages in let exists = roots_exist in omega (arith, size, some, exists, same) in
      ap (root_of shape) (page_at-slice_set_same half_made 1 (whole (root_bytes shape top)) inside) ∙ spelled_back

  others_erased : (q : ℕ) → 2 ≤ q → q < page_count shape → page_at made q ≡ erased
  others_erased q other inside =
      page_at-slice_set half_made 1 q (whole (root_bytes shape top)) (λ e. omega (arith, other, e))
      ∙ (page_at-slice_set flash 0 q (whole (root_bytes shape top)) (λ e. omega (arith, other, e)) ∙ are_erased q inside)

  only_first : (q : ℕ) (s : Root) → 0 ≤ q → q < 0 + 2 * shape.block_pages → root_of shape (page_at made q) ≡ Some s → (s.number < top.number) ⊎ ((s.number ≡ top.number) × (0 ≤ q))
  only_first zero s low high is = inr (ap (λ (r : Root). r.number) (inside s top (sym is ∙ first_there)), omega arith)
  only_first (suc zero) s low high is = inr (ap (λ (r : Root). r.number) (inside s top (sym is ∙ second_there)), omega arith)
  only_first (suc (suc q)) s low high is =
      let exists = roots_exist in
      let clash : None ≡ Some s = ap (root_of shape) (sym (others_erased (suc (suc q)) (omega arith) (omega (arith, high, exists)))) ∙ is in
      cc

  pub is_top : newest_root shape (page_at made) ≡ Some (0, top)
  is_top = newest_complete shape (page_at made) (0, top) (record {
    low = omega arith;
    high = let some = some_pages in omega (arith, some);
    there = first_there;
    others = only_first;
  })

  -- the first page of the epoch is that of block 2
  first_page : page_in shape (2 ∷ 3 ∷ []) 0 ≡ 2 * shape.block_pages
  first_page =
      let half : slice_index (2 ∷ 3 ∷ []) (0 / shape.block_pages) ≡ 2 = ap (slice_index (2 ∷ 3 ∷ [])) (zero-div shape.block_pages) in
      let product : slice_index (2 ∷ 3 ∷ []) (0 / shape.block_pages) * shape.block_pages ≡ 2 * shape.block_pages = ap (λ b. b * shape.block_pages) half in
      let rest : 0 % shape.block_pages ≡ 0 = zero-mod shape.block_pages in
      omega (arith, product, rest)

  -- both pages of the first commit are Erased
  not_written : IsWholePage (commit_at shape (page_at made) (2 ∷ 3 ∷ []) 0).1 → ⊥
  not_written =
      let some = some_pages in
      let exists = roots_exist in
      let one : page_at made (page_in shape (2 ∷ 3 ∷ []) 0) ≡ erased = ap (page_at made) first_page ∙ others_erased (2 * shape.block_pages) (omega (arith, some)) (omega (arith, some, exists)) in
      let next : page_in shape (2 ∷ 3 ∷ []) 0 + 1 ≡ 2 * shape.block_pages + 1 = let at = first_page in omega (arith, at) in
      let other : page_at made (page_in shape (2 ∷ 3 ∷ []) 0 + 1) ≡ erased = ap (page_at made) next ∙ others_erased (2 * shape.block_pages + 1) (omega (arith, some)) (omega (arith, some, exists)) in
      none_whole (page_in shape (2 ∷ 3 ∷ []) 0) (page_at made (page_in shape (2 ∷ 3 ∷ []) 0)) (page_at made (page_in shape (2 ∷ 3 ∷ []) 0 + 1)) one other

  newest_empty : newest_epoch shape (page_at made) top ≡ Ok []
  unfolding epoch
  newest_empty = ends shape (page_at made) (2 ∷ 3 ∷ []) (root_spaces shape top) 1 0 [] (2 * (shape.block_pages / 2)) not_written

  older_empty : older_epoch shape (page_at made) top ≡ Ok []
  unfolding epoch
  older_empty = rw (zero-mul (shape.block_pages / 2)) refl

  runs_empty : runs_from shape (root_spaces shape top) (page_at made) 1 top.counts top.runs ≡ Ok nothing.runs
  unfolding runs_from
  runs_empty =
      let one = no_entries shape (root_spaces shape top) (page_at made) 1 in
      let two = no_entries shape (root_spaces shape top) (page_at made) 2 in
      let three = no_entries shape (root_spaces shape top) (page_at made) 3 in
      let four = no_entries shape (root_spaces shape top) (page_at made) 4 in
      rw (one, two, three, four) refl

  is_found : found_under shape (page_at made) top ≡ Ok nothing
  unfolding found_under
  is_found = let older = older_empty in let newest = newest_empty in let runs = runs_empty in rw (older, newest, runs) refl

  is_map : map_under shape (page_at made) top nothing [] ≡ Ok empty
  unfolding map_under values_of
  is_map = let room : nat_le 0 (buffer shape) ≡ true = is_true _ (le→leb 0 (buffer shape) (omega arith)) in rw room refl

  pub holds_nothing : Holds shape made empty
  unfolding reading_of
  holds_nothing = let newest = is_top in let found = is_found in let map = is_map in rw (newest, found, map) refl

-- so does the board after the programs of these bytes, and the root with these limits is its newest
pub record Formed (shape : Shape) (flash : Flash) (limits : List ℕ) : Type 0 where
  pub holds : Holds shape flash empty
  pub newest : newest_root shape (page_at flash) ≡ Some (0, first_with limits)

pub programs_form : (board new : BoardState) (shape : Shape) (limits bytes : List ℕ) → IsShape shape → IsReady board shape → ((q : ℕ) → q < page_count shape → page_at board.pages q ≡ erased)
    → bytes ≡ root_bytes shape (first_with limits) → is_root shape (first_with limits) ≡ true → new ≡ after_programs board (programs_of_pair 0 bytes) → Formed shape new.pages limits
programs_form board new shape limits bytes is_shape ready are_erased spelled grammar is =
    subst (λ (s : BoardState). Formed shape s.pages limits) (sym is)
    (subst (λ x. Formed shape (slice_set (slice_set board.pages 0 (whole x)) 1 (whole x)) limits) (sym spelled) (record {
      holds = holds_nothing shape board.pages is_shape ready.flash.size are_erased limits grammar;
      newest = is_top shape board.pages is_shape ready.flash.size are_erased limits grammar;
    }))
