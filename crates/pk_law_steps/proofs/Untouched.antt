-- What is not read may change.
use Rattle.std.proofs.Common.{◌≡◌, ◌⊎◌, inl, inr, ℕ, zero, suc, ◌+◌, ◌-◌, ◌/◌, ◌<◌, ◌≤◌, refl, sym, subst, ◌∙◌, arith, true, false, T, List, [], ◌∷◌, ◌++◌, length, drop, nat_le, nat_eq, ◌==◌, Bool}
use Rattle.std.proofs.Common.{Ok, leb→le, leb-false, eq-or-lt_of_le, div-lt_iff_lt-mul}
use Rattle.std.{specs.List.list_all, specs.List.starts_with, specs.List.concat, specs.FinMap.from_entries}
use Rattle.pk_base.{specs.Key.Key, specs.Shape.Shape, specs.Shape.charge, specs.Shape.buffer, specs.Entry.Entry, specs.Entry.Place, specs.Firsts.firsts, specs.Map.Map}
use Rattle.pk_base.{specs.Page.Page, specs.Page.Flash, specs.Page.page_at, specs.Page.erased, specs.Page.whole, specs.Page.torn, specs.Page.page_in, proofs.ShapeLemmas.block_pages_positive}
use Rattle.pk_base.{specs.Refusal.not_formatted, specs.Refusal.ensure, specs.Refusal.some_or, proofs.Logic.passed, proofs.Logic.ok_same, proofs.Logic.left_part, proofs.Logic.right_part}
use Rattle.pk_segfmt.specs.Value.{head_bytes, value_page, value_from, value_at}
use Rattle.pk_rootfmt.{specs.Root.Root, specs.Root.named, specs.Newest.newest_root}
use Rattle.pk_model.{specs.RootLimits.root_limits, specs.RootLimits.root_spaces, specs.Found.Found, specs.Found.found_under, specs.Found.entries_in_order, specs.Values.values_of}
use Rattle.pk_model.{specs.Reading.reading_of, specs.Reading.map_under, specs.Reading.may_add, specs.Laws.AnyByRecursion, specs.Laws.IsPageOf, specs.Laws.IsRead, specs.Laws.IsWholePage}
use Rattle.pk_model.proofs.SamePages.{newest_root_same, found_same, map_under_same, agrees, agree_runs, any_front, any_back, any_in_concat}
use Rattle.pk_model.{proofs.StrangePages.bind_ok, proofs.StrangePages.some_ok, proofs.Lookups.values_step}
use Rattle.pk_law_steps.specs.Under.{IsUnder, IsValuePage, places}
use Rattle.pk_law_steps.specs.Reads.{ReadsUnder, UnderReads, Same, ProgramsUnread, Erases}
use Rattle.pk_space.specs.Entries.{in_spaces}

pub reads_under : ReadsUnder
unfolding reading_of
reads_under shape flash extra m reads =
    let top = bind_ok (some_or (newest_root shape (page_at flash)) not_formatted) _ m reads in
    let found = bind_ok (found_under shape (page_at flash) top.0.1) _ m top.2 in
    (top.0, found.0, record { is_top = some_ok _ not_formatted top.0 top.1; is_found = found.1; is_map = found.2 })

pub under_reads : UnderReads
unfolding reading_of
under_reads shape flash extra top found m under = let a = under.is_top in let b = under.is_found in rw (a, b) under.is_map

pub same : Same
same shape flash cut extra top found m is_shape under unchanged =
    let at = page_at flash in
    let at' = page_at cut in
    let root = top.1 in
    let every = agrees shape at at' extra top.0 root found is_shape unchanged in
    record {
      is_top = newest_root_same shape at at' (λ k low. unchanged k (inl low)) ∙ under.is_top;
      is_found = found_same shape at at' is_shape root
          (λ j low. every root.newest (λ P is. any_front P (root.newest ++ root.older) (concat root.runs) (any_front P root.newest root.older is)) j)
          (λ j low. every root.older (λ P is. any_front P (root.newest ++ root.older) (concat root.runs) (any_back P root.newest root.older is)) j)
          (agree_runs shape at at' root.counts root.runs (λ blocks among. every blocks (λ P is. any_back P (root.newest ++ root.older) (concat root.runs) (any_in_concat P blocks root.runs among is))))
          ∙ under.is_found;
      is_map = map_under_same shape at at' root found extra (λ k is. unchanged k (inr (inr is))) ∙ under.is_map;
    }

-- ---- the pages of values are whole

module _ (shape : Shape) (at : ℕ → Page) where
  value_from_whole : (page : ℕ) (front : List ℕ) (left n : ℕ) (bytes : List ℕ) → value_from shape at page front left n ≡ Ok bytes → (k : ℕ) → page ≤ k → k < page + n → IsWholePage (at k)
  value_from_whole page front left zero bytes ok k low high = absurd (omega (arith, low, high))
  value_from_whole page front left (suc n) bytes ok k low high =
      elim (at page) as (λ p. at page ≡ p → value_page page front left p (λ b. value_from shape at (page + 1) [] (left - shape.page_bytes) n) ≡ Ok bytes → IsWholePage (at k)) [
        | erased ↦ λ e f. cc
        | torn ↦ λ e f. cc
        | whole b ↦ λ e f.
            let first = bind_ok (ensure (starts_with nat_eq b front) page) _ bytes f in
            let second = bind_ok (ensure (list_all (λ x. x == 0) (drop left b)) page) _ bytes first.2 in
            let third = bind_ok (value_from shape at (page + 1) [] (left - shape.page_bytes) n) _ bytes second.2 in
            elim (eq-or-lt_of_le low) [
              | inl is ↦ subst (λ x. IsWholePage (at x)) is (subst IsWholePage (sym e) tt)
              | inr above ↦ value_from_whole (page + 1) [] (left - shape.page_bytes) n third.0 third.1 k (omega (arith, above)) (omega (arith, high))
            ]
      ] refl ok

  value_at_whole : (key : Key) (place : Place) (v : List ℕ) → value_at shape at key place ≡ Ok v → (k : ℕ) → IsPageOf shape k place → IsWholePage (at k)
  unfolding value_at
  value_at_whole key place v ok k is =
      let bytes = bind_ok (value_from shape at place.page (head_bytes key place.len) (32 + place.len) (charge shape place.len)) _ v ok in
      value_from_whole place.page (head_bytes key place.len) (32 + place.len) (charge shape place.len) bytes.0 bytes.1 k is.0 is.1

  values_whole : (limits blocks : List ℕ) (taken es : List (Key × Place)) (vs : List (Key × List ℕ)) → values_of shape at limits blocks taken es ≡ Ok vs → (k : ℕ) → IsValuePage shape es k → IsWholePage (at k)
  values_whole limits blocks taken [] vs ok k is = absurd is
  values_whole limits blocks taken (e ∷ es) vs ok k (inl here) = let step = values_step shape at limits blocks taken e es vs ok in value_at_whole e.0 e.1 step.value step.read k here
  values_whole limits blocks taken (e ∷ es) vs ok k (inr there) = let step = values_step shape at limits blocks taken e es vs ok in values_whole limits blocks
      (taken ++ e ∷ []) es step.others step.rest k there

-- the values that make the map of a flash
pub record Values (shape : Shape) (flash : Flash) (extra : List Entry) (root : Root) (found : Found) (m : Map) : Type 0 where
  pub values : List (Key × List ℕ)
  pub room : T (nat_le (length (firsts (found.newest ++ extra))) (buffer shape))
  pub spaced : T (in_spaces (root_spaces shape root) extra)
  pub read : values_of shape (page_at flash) (root_limits shape root) (named root) [] (places found extra) ≡ Ok values
  pub whole_map : from_entries values ≡ m

pub values_under : (shape : Shape) (flash : Flash) (extra : List Entry) (root : Root) (found : Found) (m : Map)
    → map_under shape (page_at flash) root found extra ≡ Ok m → Values shape flash extra root found m
unfolding map_under
values_under shape flash extra root found m ok =
    let tested = bind_ok (ensure (may_add shape root found extra) (page_in shape root.newest 0)) _ m ok in
    let values = bind_ok (values_of shape (page_at flash) (root_limits shape root) (named root) [] (places found extra)) _ m tested.2 in
    let few : Bool = nat_le (length (firsts (found.newest ++ extra))) (buffer shape) in
    let tests : T (may_add shape root found extra) = passed _ _ tested.0 tested.1 in
    record {
      values = values.0;
      room = left_part few (in_spaces (root_spaces shape root) extra) tests;
      spaced = right_part few (in_spaces (root_spaces shape root) extra) tests;
      read = values.1;
      whole_map = ok_same _ _ values.2;
    }

pub value_page_whole : (shape : Shape) (flash : Flash) (extra : List Entry) (top : ℕ × Root) (found : Found) (m : Map)
    → IsUnder shape flash extra top found m → (k : ℕ) → IsValuePage shape (places found extra) k → IsWholePage (page_at flash k)
value_page_whole shape flash extra top found m under k is =
    let values = values_under shape flash extra top.1 found m under.is_map in
    values_whole shape (page_at flash) (root_limits shape top.1) (named top.1) [] (places found extra) values.values values.read k is

-- ---- erased pages

pub not_erased : (p : Page) → IsWholePage p → p ≡ erased → ⊥
not_erased p is e = subst IsWholePage e is

pub in_or_out : (first count k : ℕ) → (k < first) ⊎ ((first + count ≤ k) ⊎ ((first ≤ k) × (k < first + count)))
in_or_out first count k =
    elim (nat_le first k) as (λ b. nat_le first k ≡ b → (k < first) ⊎ ((first + count ≤ k) ⊎ ((first ≤ k) × (k < first + count)))) [
      | false ↦ λ e. inl (below first k e)
      | true ↦ λ e. elim (nat_le (first + count) k) as (λ b. nat_le (first + count) k ≡ b → (k < first) ⊎ ((first + count ≤ k) ⊎ ((first ≤ k) × (k < first + count)))) [
        | true ↦ λ f. inr (inl (leb→le (first + count) k (subst T (sym f) tt)))
        | false ↦ λ f. inr (inr (leb→le first k (subst T (sym e) tt), below (first + count) k f))
      ] refl
    ] refl
  where
    below : (a b : ℕ) → nat_le a b ≡ false → b < a
    below a b e = leb-false a b e

pub programs : ProgramsUnread
programs shape flash cut extra top found m first count is_shape under behind are_erased unnamed outside =
    same shape flash cut extra top found m is_shape under (λ k is. elim (in_or_out first count k) [
      | inl low ↦ outside.below k low
      | inr (inl high) ↦ outside.above k high
      | inr (inr within) ↦ absurd (unread k within.0 within.1 is)
    ])
  where
    unread : (k : ℕ) → first ≤ k → k < first + count → IsRead shape top.1 (entries_in_order found extra) k → ⊥
    unread k low high (inl small) = omega (arith, behind, low, small)
    unread k low high (inr (inl is)) = unnamed k low high is
    unread k low high (inr (inr is)) = not_erased _ (value_page_whole shape flash extra top found m under k is) (are_erased k low high)

pub erases : Erases
erases shape flash cut extra top found m block is_shape under behind unnamed no_value outside =
    same shape flash cut extra top found m is_shape under (λ k is. outside k (λ here. unread k here is))
  where
    unread : (k : ℕ) → k / shape.block_pages ≡ block → IsRead shape top.1 (entries_in_order found extra) k → ⊥
    unread k here (inl small) = let low : k / shape.block_pages < 2 = (div-lt_iff_lt-mul (block_pages_positive shape is_shape)).1 small in omega (arith, low, here, behind)
    unread k here (inr (inl is)) = unnamed (subst (λ x. AnyByRecursion (λ b. x ≡ b) (named top.1)) here is)
    unread k here (inr (inr is)) = no_value k here is
