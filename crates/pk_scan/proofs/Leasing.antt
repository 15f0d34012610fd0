-- Frames that are leased one after another.
use Rattle.std.proofs.Common.{◌≡◌, ◌≢◌, ℕ, suc, ◌+◌, ◌≤◌, Bool, true, false, not, cond, List, [], ◌∷◌, ◌++◌, length, replicate, refl, ap, sym, subst, ◌∙◌, arith, Option, Some, None}
use Rattle.std.proofs.Common.{is_some, get_or-set_other, length-set, length-append}
use Rattle.std.proofs.lemmas.Option.{slice_get_within, get_or_from_slice_get}
use Rattle.std.{specs.Prelude.slice_get, proofs.lemmas.Bool.lt-leb, proofs.lemmas.List.length-replicate, proofs.lemmas.List.Sums.sum_by-set}
use Rattle.pk_base.specs.Shape.{Shape, pinned}
use Rattle.pk_pin.specs.Frames.{Frames, leased, filled, times, AreLeases, KeepsPage}
use Rattle.pk_pin.proofs.Leases.{times-append, leases_none, leases_taken}
use Rattle.pk_run.{specs.Kept.Kept, proofs.Standing.RunOnFlash-elsewhere}
use Rattle.pk_level.{specs.Levels.Levels, specs.Arenas.HasArena, specs.Arenas.AreBareAbove, specs.Arenas.IsPinnedIf, specs.Arenas.last_level, specs.Arenas.leases_of, specs.Arenas.page_counts}
use Rattle.pk_adapt.proofs.Fitting.{adapted_least}
use Rattle.pk_scan.{specs.Runs.LeasedMore, specs.Runs.RunsStand, specs.Runs.listed, specs.OpeningParts.HaveFrames}
use Rattle.pk_pool.proofs.States.{get-set_other}

pub leased_none : (a : Frames) → LeasedMore a a []
leased_none a = record { page = refl; size = refl; kept = λ i is. (is, refl); free = omega arith; leases = λ ls all. all }

no_clash : {A : Type 0} → Some false ≡ Some true → A
no_clash e = cc

-- a free frame was leased and filled
pub leased_one : (a : Frames) (l : ℕ) (bytes : List ℕ) → slice_get a.used l ≡ Some false → LeasedMore a (filled (leased a l) l bytes) (l ∷ [])
leased_one a l bytes free = record {
  page = refl;
  size = length-set a.used l true;
  kept = λ i is.
      let other : i ≢ l = λ e. no_clash (sym free ∙ ap (slice_get a.used) (sym e) ∙ is) in
      (get-set_other a.used l i true other ∙ is, get_or-set_other a.frames l i bytes [] other);
  free =
      let was = get_or_from_slice_get a.used l false true free in
      let change = rw was at (sum_by-set (λ x. cond (not x) 1 0) a.used l true true (slice_get_within a.used l false free)) in
      omega (arith, change);
  leases = λ ls all. leases_taken a ls l all free;
}

pub leased_more : (a b c : Frames) (xs ys : List ℕ) → LeasedMore a b xs → LeasedMore b c ys → LeasedMore a c (xs ++ ys)
leased_more a b c xs ys m n = record {
  page = n.page ∙ m.page;
  size = n.size ∙ m.size;
  kept = λ i is. let was = m.kept i is in let now = n.kept i was.0 in (now.0, now.1 ∙ was.1);
  free = let e = length-append xs ys in omega (arith, e, m.free, n.free);
  leases = λ ls all i.
      let now = n.leases (xs ++ ls) (m.leases ls all) i in
      let left : times i ((xs ++ ys) ++ ls) ≡ times i xs + times i ys + times i ls = times-append i (xs ++ ys) ls ∙ ap (λ k. k + times i ls) (times-append i xs ys) in
      let right : times i (ys ++ (xs ++ ls)) ≡ times i ys + (times i xs + times i ls) = times-append i ys (xs ++ ls) ∙ ap (λ k. times i ys + k) (times-append i xs ls) in
      left ∙ (let e : times i xs + times i ys + times i ls ≡ times i ys + (times i xs + times i ls) = omega arith in e) ∙ sym right ∙ now;
}

pub runs_stand : (a b : Frames) (more : List ℕ) → LeasedMore a b more → RunsStand a b
runs_stand a b more m r flash es s = RunOnFlash-elsewhere r flash flash a b es (λ j h. refl) (λ j lease got is. m.kept lease is) s

-- the frame of a page that is kept is a free one more
pub kept_more : (pins : Bool) (old new : Frames) (bytes : List ℕ) (lease : Option ℕ) → KeepsPage pins old new bytes lease → LeasedMore old new (listed lease)
kept_more pins old new bytes None (unwanted, same) = subst (λ (a : Frames). LeasedMore old a []) (sym same) (leased_none old)
kept_more pins old new bytes (Some lease) (wanted, free, is_filled, leased, holds) = subst (λ (a : Frames). LeasedMore old a (lease ∷ [])) (sym is_filled) (leased_one old lease bytes free)

-- and there is one if it is wanted
pub kept_wanted : (pins : Bool) (old new : Frames) (bytes : List ℕ) (lease : Option ℕ) → KeepsPage pins old new bytes lease → is_some lease ≡ pins
kept_wanted pins old new bytes None (unwanted, same) = sym unwanted
kept_wanted pins old new bytes (Some lease) keeps = sym keeps.0

-- ---- the arena of an opening

-- no run after the pinned levels has frames
pub bare_of : (pinned last level : ℕ) (rs : List Kept) (counts : List ℕ) → pinned ≤ last → HaveFrames pinned level rs counts → AreBareAbove last level rs
bare_of pinned last level [] [] low have = tt
bare_of pinned last level (r ∷ rs) (count ∷ counts) low have = (
  λ above. subst (λ (b : Bool). IsPinnedIf b r) (lt-leb level pinned (omega (arith, above, low))) have.1,
  subst (λ (n : ℕ). AreBareAbove last n rs) (let e : level + 1 ≡ suc level = omega arith in e) (bare_of pinned last (level + 1) rs counts low have.2),
)
bare_of pinned last level _ _ low have = absurd have

-- frames of an arena that was free were leased for the runs, and no others
pub arena_opened : (shape : Shape) (frames : ℕ) (free arena : Frames) (levels : Levels) (counts : List ℕ) → HaveFrames levels.pinned 1 levels.runs counts
    → levels.shape ≡ shape → levels.pinned ≡ pinned shape frames
    → free.page_bytes ≡ shape.page_bytes → free.used ≡ replicate frames false → LeasedMore free arena (leases_of levels.runs) → HasArena shape frames levels arena []
arena_opened shape frames free arena levels counts have same pins page unused more = record {
  leases = record {
    page_bytes_is = more.page ∙ page;
    size = more.size ∙ ap (λ (us : List Bool). length us) unused ∙ length-replicate frames false;
    pinned_is = pins;
    only_these = more.leases [] none;
  };
  bare =
      let here : levels.pinned ≡ pinned levels.shape frames = pins ∙ ap (λ (s : Shape). pinned s frames) (sym same) in
      let least = adapted_least levels.shape frames (page_counts levels.runs) in
      bare_of levels.pinned (last_level levels frames) 1 levels.runs counts (omega (arith, here, least)) have;
}
  where
    none : AreLeases free []
    none = subst (λ (us : List Bool). AreLeases (record free { used = us }) []) (sym unused) (leases_none free.page_bytes frames free.frames)
