-- The blocks of the newest epoch of a root, and that a root which is found keeps to its grammar.
use Rattle.std.proofs.Common.{◌≡◌, ◌≢◌, ℕ, ◌<◌, arith, Bool, ◌&&◌, T, ◌++◌, length, nat_le, nat_lt, slice_index, Some}
use Rattle.std.{specs.List.list_all, specs.List.concat, proofs.lemmas.Bool.ltb-true}
use Rattle.pk_base.{specs.Shape.Shape, specs.Page.Page, proofs.Logic.is_true, proofs.Logic.right_part}
use Rattle.pk_rootfmt.{specs.Root.Root, specs.Root.named, specs.Root.is_root, specs.Root.differ, specs.Newest.newest_root, proofs.PageLemmas.root_parts}
use Rattle.pk_model.proofs.Roots.{newest_sound}
use Rattle.pk_model.proofs.Commits.{all_at, all_front, root_valid, blocks_of_root, differ_front, injective}
use Rattle.pk_base.proofs.Logic.{of_true}

-- they are blocks of the flash
pub newest_exist : (shape : Shape) (root : Root) → T (is_root shape root) → (n : ℕ) → n < 2 → slice_index root.newest n < shape.blocks
newest_exist shape root is n small =
    let in_flash : ℕ → Bool = λ b. nat_le 2 b && nat_lt b shape.blocks in
    let two : length root.newest ≡ 2 = (blocks_of_root shape root is).two in
    let every : T (list_all in_flash (named root)) = of_true _ (root_parts shape root (is_true _ is)).blocks in
    let newest : T (list_all in_flash root.newest) = all_front in_flash root.newest root.older (all_front in_flash (root.newest ++ root.older) (concat root.runs) every) in
    ltb-true (slice_index root.newest n) shape.blocks
    (is_true (nat_lt (slice_index root.newest n) shape.blocks) (right_part (nat_le 2 (slice_index root.newest n)) (nat_lt (slice_index root.newest n) shape.blocks)
    (all_at in_flash root.newest n newest (omega (arith, small, two)))))

-- two different ones
pub newest_differ : (shape : Shape) (root : Root) → T (is_root shape root) → slice_index root.newest 0 ≢ slice_index root.newest 1
newest_differ shape root is same =
    let blocks = blocks_of_root shape root is in
    let two : length root.newest ≡ 2 = blocks.two in
    let distinct : T (differ root.newest) = differ_front root.newest root.older (differ_front (root.newest ++ root.older) (concat root.runs) blocks.different) in
    let clash : 0 ≡ 1 = injective root.newest 0 1 distinct (omega (arith, two)) (omega (arith, two)) same in
    omega (arith, clash)

pub valid_root : (shape : Shape) (at : ℕ → Page) (top : ℕ × Root) → newest_root shape at ≡ Some top → T (is_root shape top.1)
valid_root shape at top is_top = root_valid shape (at top.0) top.1 (newest_sound shape at top is_top).there
