-- The limits of a drive on its board.
use Rattle.std.proofs.Common.{◌≡◌, ◌≤◌, ◌-◌, List, ℕ, [], ◌∷◌, length, ◌&&◌, nat_le, T, Ok, sym, ap, subst, ◌∙◌, arith, leb→le}
use Rattle.pk_base.{specs.Shape.Shape, specs.Shape.limit, specs.declared.sizes.TheConstants.MOST_SPACES, proofs.Logic.left_part, proofs.Logic.right_part, specs.Page.Flash, specs.Page.page_at}
use Rattle.pk_base.{specs.Entry.Entry, specs.Map.Map, specs.Refusal.some_or, specs.Refusal.not_formatted}
use Rattle.pk_nand.specs.BoardState.{BoardState, shape_of, shape_or_none}
use Rattle.pk_rootfmt.{specs.Root.has_limits_room, specs.Root.fit_in, specs.Root.are_limits, specs.Root.limits_of, specs.Root.is_laid_out, specs.Newest.newest_root}
use Rattle.pk_model.{specs.Reading.reading, specs.Reading.reading_of, specs.RootLimits.root_limits, specs.Spaces.Terms, specs.Spaces.limits_at, specs.Spaces.limit_of, proofs.Commits.root_valid}
use Rattle.pk_model.{proofs.Roots.newest_sound, proofs.RootLimits.limits_under, proofs.StrangePages.bind_ok, proofs.StrangePages.some_ok}
use Rattle.pk_call.{specs.Sight.Sight, specs.Drive.HoldsMap}

some_of : (shape : Shape) (limits : List ℕ) → 1 ≤ length (limits_of shape limits)
some_of shape [] = omega arith
some_of shape (l ∷ ls) = omega arith

-- a flash that is read has at least one
pub limits_some : (shape : Shape) (flash : Flash) (extra : List Entry) (m : Map) → reading shape flash extra ≡ Ok m → 1 ≤ length (limits_at shape flash)
unfolding reading_of root_limits
limits_some shape flash extra m reads =
    let top = bind_ok (some_or (newest_root shape (page_at flash)) not_formatted) _ m reads in
    let is = some_ok (newest_root shape (page_at flash)) not_formatted top.0 top.1 in
    subst (λ (limits : List ℕ). 1 ≤ length limits) (sym (limits_under shape flash top.0 is)) (some_of shape top.0.1.limits)

-- those of a board are those of the drive on it
abbrev pub limits_on : BoardState → List ℕ
limits_on board = limits_at (shape_of board) board.pages

pub limits_held : (shape : Shape) (terms : Terms) (board : BoardState) (drive : Sight) (m : Map) → HoldsMap shape terms board drive m → limits_on board ≡ terms.limits
limits_held shape terms board drive m stands = ap (λ s. limits_at (shape_or_none s) board.pages) stands.shape_is ∙ stands.limits_is

most_of : (shape : Shape) (limits : List ℕ) → T (are_limits shape limits) → limit_of (limits_of shape limits) 1 ≤ limit shape
most_of shape [] h = omega arith
most_of shape (l ∷ ls) h =
    let fit = right_part (has_limits_room shape && nat_le (length (l ∷ ls)) MOST_SPACES) (fit_in (limit shape) (l ∷ ls)) h in
    let both = left_part (nat_le 1 l && nat_le l (limit shape)) (fit_in (limit shape - l) ls) fit in
    leb→le l (limit shape) (right_part (nat_le 1 l) (nat_le l (limit shape)) both)

-- the limit of the first namespace is at most that of the shape
pub first_most : (shape : Shape) (flash : Flash) (extra : List Entry) (m : Map) → reading shape flash extra ≡ Ok m → limit_of (limits_at shape flash) 1 ≤ limit shape
unfolding reading_of root_limits
first_most shape flash extra m reads =
    let top = bind_ok (some_or (newest_root shape (page_at flash)) not_formatted) _ m reads in
    let is = some_ok (newest_root shape (page_at flash)) not_formatted top.0 top.1 in
    let valid = root_valid shape (page_at flash top.0.0) top.0.1 (newest_sound shape (page_at flash) top.0 is).there in
    subst (λ (limits : List ℕ). limit_of limits 1 ≤ limit shape) (sym (limits_under shape flash top.0 is))
    (most_of shape top.0.1.limits (right_part (is_laid_out shape top.0.1) (are_limits shape top.0.1.limits) valid))
