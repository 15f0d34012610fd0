-- The limits of a drive's namespaces are those on its flash; what each namespace reports.
use Rattle.std.proofs.Common.{◌≡◌, ℕ, zero, suc, ◌+◌, ◌-◌, ◌<◌, ◌≤◌, refl, sym, ap, subst, ◌∙◌, arith, T, ◌&&◌, nat_le, leb→le, List, [], ◌∷◌, length, take, map, min, sum, Option, Some}
use Rattle.std.{specs.Prelude.slice_index, specs.Prelude.slice_index_or, proofs.lemmas.List.Sums.sum_by-cons}
use Rattle.pk_base.{specs.Shape.Shape, specs.Shape.limit, specs.Page.Flash, specs.Page.page_at, specs.Map.Map, specs.declared.sizes.TheConstants.MOST_SPACES}
use Rattle.pk_base.proofs.Logic.{left_part, right_part}
use Rattle.pk_nand.specs.BoardState.{BoardState}
use Rattle.pk_rootfmt.specs.Root.{Root, is_root, is_laid_out, are_limits, has_limits_room, fit_in, limits_of as all_limits}
use Rattle.pk_rootfmt.specs.Held.{Held}
use Rattle.pk_space.specs.Uses.{Use, space_live, space_keys}
use Rattle.pk_model.{specs.Found.Found, specs.Growth.Reaches, specs.RootLimits.root_limits, specs.Spaces.limit_of, specs.Spaces.limits_at, proofs.Commits.root_valid, proofs.Growing.reached_limits}
use Rattle.pk_model.{proofs.RootLimits.limits_under, proofs.Roots.newest_sound}
use Rattle.pk_call.specs.Sight.{InSpace, in_space_at, live_of_all}
use Rattle.pk_parts.{specs.Parts.Parts, specs.Parts.drive_limits, specs.Parts.reported_from, specs.Parts.spaces_of, specs.Parts.settled_parts, specs.Moves.StandsBetween}
use Rattle.pk_parts.specs.Agreeing.{DriveOnFlashWith, DriveOnFlash}

-- ---- the limits on the flash

pub limits_with : (d : Parts) (shape : Shape) (flash : Flash) (top : ℕ × Root) (found : Found) (without all : Map)
    → DriveOnFlashWith d shape flash top found without all → limits_at shape flash ≡ drive_limits d
limits_with d shape flash top found without all a =
    limits_under shape flash top a.committed.is_top ∙ (λ i. root_limits (sym a.shape_is i) (sym a.index.logs.root_is i))

pub limits_between : (d : Parts) (shape : Shape) (flash : Flash) (m : Map) → StandsBetween d shape flash m → limits_at shape flash ≡ drive_limits d
limits_between d shape flash m s = limits_with (settled_parts d) shape flash s.top s.found s.without m s.with

pub limits_on : (d : Parts) (told : Option Shape) (flash : Flash) (a : DriveOnFlash d told flash) → limits_at d.log.shape flash ≡ drive_limits d
limits_on d told flash a = ap (λ (s : Shape). limits_at s flash) a.with.shape_is ∙ limits_with (settled_parts d) a.shape flash a.top a.found a.without a.all a.with

-- they are the same after a call
pub limits_kept : (d e : Parts) (shape : Shape) (old new : BoardState) (P : Flash → List ℕ → Type 0) → old.shape ≡ Some shape → limits_at shape old.pages ≡ drive_limits d
    → limits_at shape new.pages ≡ drive_limits e → Reaches shape old new P → drive_limits e ≡ drive_limits d
limits_kept d e shape old new P told before after reached = sym after ∙ (reached_limits shape old new P told reached ∙ before)

-- those of a root that memory holds
pub held_limits : (held : Held) (shape : Shape) (root : Root) → held ≡ record { shape = shape; root = root } → all_limits held.shape held.root.limits ≡ root_limits shape root
unfolding root_limits
held_limits held shape root is = ap (λ (h : Held). all_limits h.shape h.root.limits) is

-- ---- at least one, and at most eight

few_of : (shape : Shape) (limits : List ℕ) → T (are_limits shape limits) → length (all_limits shape limits) ≤ MOST_SPACES
few_of shape [] is = omega arith
few_of shape (l ∷ ls) is =
    leb→le (length (l ∷ ls)) MOST_SPACES
    (right_part (has_limits_room shape) (nat_le (length (l ∷ ls)) MOST_SPACES) (left_part (has_limits_room shape && nat_le (length (l ∷ ls)) MOST_SPACES) (fit_in (limit shape) (l ∷ ls)) is))

-- together no more than the limit of the shape
sum_fits : (left : ℕ) (ls : List ℕ) → T (fit_in left ls) → sum ls ≤ left
sum_fits left [] fit = omega arith
sum_fits left (l ∷ ls) fit =
    let first = left_part (nat_le 1 l && nat_le l left) (fit_in (left - l) ls) fit in
    let less : l ≤ left = leb→le l left (right_part (nat_le 1 l) (nat_le l left) first) in
    let rest = sum_fits (left - l) ls (right_part (nat_le 1 l && nat_le l left) (fit_in (left - l) ls) fit) in
    omega (arith, less, rest, sum_by-cons (λ (x : ℕ). x) l ls)

sum_of : (shape : Shape) (limits : List ℕ) → T (are_limits shape limits) → sum (all_limits shape limits) ≤ limit shape
sum_of shape [] is = let one = sum_by-cons (λ (x : ℕ). x) (limit shape) [] in omega (arith, one)
sum_of shape (l ∷ ls) is = sum_fits (limit shape) (l ∷ ls) (right_part (has_limits_room shape && nat_le (length (l ∷ ls)) MOST_SPACES) (fit_in (limit shape) (l ∷ ls)) is)

-- both of those of a root
both_under : (shape : Shape) (root : Root) → T (is_root shape root) → (length (root_limits shape root) ≤ MOST_SPACES) × (sum (root_limits shape root) ≤ limit shape)
unfolding root_limits
both_under shape root is = let are = right_part (is_laid_out shape root) (are_limits shape root.limits) is in (few_of shape root.limits are, sum_of shape root.limits are)

-- of a drive
module _ (d : Parts) (shape : Shape) (flash : Flash) (top : ℕ × Root) (found : Found) (without all : Map) (a : DriveOnFlashWith d shape flash top found without all) where
  valid : T (is_root shape top.1)
  valid = root_valid shape (page_at flash top.0) top.1 (newest_sound shape (page_at flash) top a.committed.is_top).there

  same : root_limits shape top.1 ≡ drive_limits d
  same = λ i. root_limits (sym a.shape_is i) (sym a.index.logs.root_is i)

  pub few_with : length (drive_limits d) ≤ MOST_SPACES
  few_with = subst (λ (limits : List ℕ). length limits ≤ MOST_SPACES) same (both_under shape top.1 valid).0

  pub sum_with : sum (drive_limits d) ≤ limit shape
  sum_with = subst (λ (limits : List ℕ). sum limits ≤ limit shape) same (both_under shape top.1 valid).1

pub limits_few : (d : Parts) (told : Option Shape) (flash : Flash) (a : DriveOnFlash d told flash) → length (drive_limits d) ≤ MOST_SPACES
limits_few d told flash a = few_with (settled_parts d) a.shape flash a.top a.found a.without a.all a.with

pub limits_sum : (d : Parts) (told : Option Shape) (flash : Flash) (a : DriveOnFlash d told flash) → sum (drive_limits d) ≤ limit d.log.shape
limits_sum d told flash a = subst (λ (s : Shape). sum (drive_limits d) ≤ limit s) (sym a.with.shape_is) (sum_with (settled_parts d) a.shape flash a.top a.found a.without a.all a.with)

-- ---- what each namespace reports

pub reported_length : (u : Use) (space : ℕ) (limits : List ℕ) → length (reported_from u space limits) ≡ length limits
reported_length u space [] = refl
reported_length u space (most ∷ limits) = ap suc (reported_length u (space + 1) limits)

-- what it says of a namespace
abbrev pub report_in : Use → List ℕ → ℕ → InSpace
report_in u limits space = record { live = space_live u space; limit = limit_of limits space; keys = space_keys u space }

-- of a namespace that the drive does not have
abbrev nothing_reported : InSpace
nothing_reported = record { live = 0; limit = 0; keys = 0 }

reported_at : (u : Use) (first i : ℕ) (limits : List ℕ) → i < length limits
    → slice_index_or (reported_from u first limits) i nothing_reported ≡ record { live = space_live u (first + i); limit = slice_index limits i; keys = space_keys u (first + i) }
reported_at u first i [] less = absurd (omega (arith, less))
reported_at u first zero (most ∷ limits) less =
    let same : first ≡ first + 0 = omega arith in
    ap (λ (n : ℕ). record { live = space_live u n; limit = most; keys = space_keys u n }) same
reported_at u first (suc i) (most ∷ limits) less =
    let same : first + 1 + i ≡ first + suc i = omega arith in
    reported_at u (first + 1) i limits (omega (arith, less)) ∙ ap (λ (n : ℕ). record { live = space_live u n; limit = slice_index limits i; keys = space_keys u n }) same

pub reported_here : (d : Parts) (space : ℕ) → 1 ≤ space → space ≤ length (drive_limits d) → in_space_at (spaces_of d) space ≡ report_in d.spaces (drive_limits d) space
reported_here d space some most =
    let again : 1 + (space - 1) ≡ space = omega (arith, some) in
    reported_at d.spaces 1 (space - 1) (drive_limits d) (omega (arith, some, most))
    ∙ ap (λ (n : ℕ). record { live = space_live d.spaces n; limit = slice_index (drive_limits d) (space - 1); keys = space_keys d.spaces n }) again

-- ---- the live pages of the first namespaces

pub reported_more : (u : Use) (first i : ℕ) (limits : List ℕ) → i < length limits
    → live_of_all (take (i + 1) (reported_from u first limits)) ≡ live_of_all (take i (reported_from u first limits)) + space_live u (first + i)
reported_more u first i [] less = absurd (omega (arith, less))
reported_more u first zero (most ∷ limits) less =
    let one = sum_by-cons (λ (x : ℕ). x) (space_live u first) [] in
    let place : first ≡ first + 0 = omega arith in
    let same = ap (space_live u) place in
    omega (arith, one, same)
reported_more u first (suc i) (most ∷ limits) less =
    let rest = reported_more u (first + 1) i limits (omega (arith, less)) in
    let later : List InSpace = reported_from u (first + 1) limits in
    let size : suc i + 1 ≡ suc (i + 1) = omega arith in
    let place : first + 1 + i ≡ first + suc i = omega arith in
    let same = ap (space_live u) place in
    let longer = sum_by-cons (λ (x : ℕ). x) (space_live u first) (map (λ (s : InSpace). s.live) (take (i + 1) later)) in
    let shorter = sum_by-cons (λ (x : ℕ). x) (space_live u first) (map (λ (s : InSpace). s.live) (take i later)) in
    ap (λ (n : ℕ). live_of_all (take n (reported_from u first (most ∷ limits)))) size ∙ omega (arith, rest, same, longer, shorter)

-- as many as a u32 holds
pub capped_more : (total live n m : ℕ) → total ≡ min n 4294967295 → m ≡ n + live → min (total + live) 4294967295 ≡ min m 4294967295
capped_more total live n m is more = omega (arith, is, more)
