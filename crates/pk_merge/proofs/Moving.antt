-- What a block that is taken, and a page that is programmed, leave of the runs that are merged.
use Rattle.std.proofs.Common.{◌≡◌, ◌≢◌, inl, inr, ℕ, suc, ◌+◌, ◌-◌, ◌*◌, ◌/◌, ◌%◌, ◌<◌, ◌≤◌, refl, sym, ap, subst, ◌∙◌, arith, List, [], ◌∷◌, ◌++◌, length, slice_get, set, Some, length-append, mod-lt}
use Rattle.std.proofs.Common.{div-add-mod'}
use Rattle.std.{specs.Prelude.⊤, specs.Prelude.slice_index, proofs.Math.Nat.suc-mul, proofs.lemmas.Bool.cases_lt, proofs.lemmas.List.get_or_push}
use Rattle.pk_base.{specs.Shape.Shape, specs.Shape.IsShape, specs.Entry.Entry, specs.Page.Flash, specs.Page.page_at, specs.Page.page_in, specs.Page.whole, specs.Page.erased, proofs.BlockLemmas.apart}
use Rattle.pk_base.specs.Mark.{after_all, all_posted}
use Rattle.pk_nand.{specs.BoardState.BoardState, specs.BoardState.shape_of, specs.Calls.after_program, specs.Operations.IsErasedBlock, proofs.CutLemmas.cut_end, proofs.Leaving.page_at-slice_set}
use Rattle.pk_pin.specs.Frames.{Frames}
use Rattle.pk_plan.specs.declared.owner.Owner.TheVariants.{Meta}
use Rattle.pk_pool.specs.declared.state.BlockState.TheVariants.{Owned}
use Rattle.pk_pool.{specs.Blocks.Blocks, specs.Blocks.IsSpare, specs.Taking.ReachesIn, specs.Taking.SameButBlock}
use Rattle.pk_run.{specs.Kept.Kept, specs.Kept.RunOnFlash, specs.Kept.page_of, specs.Laws.SamePages, proofs.Standing.RunOnFlash-elsewhere, proofs.Standing.from_more, proofs.Standing.same_place}
use Rattle.pk_merge.{specs.declared.source.Source.Source, specs.declared.source.Source.TheVariants.Frozen, specs.declared.source.Source.TheVariants.Run, specs.Merging.Merger, specs.Merging.StandsIn}
use Rattle.pk_merge.{specs.Cursors.Cursor, specs.Cursors.Follows, specs.Cursors.own_page, specs.Sources.Has, specs.Sources.FollowsIn, specs.Sources.IsOf, specs.Sources.blocks_in}
use Rattle.pk_merge.specs.Outputs.{AreMeta, BlocksApart, IsOutput, OthersStand, next_bytes}
use Rattle.pk_merge.proofs.Places.{block_there, block_of_page, page_of_place, other_page}

-- a run's pages are the same, and it is as before
abbrev pub Moves : Kept → Flash → Flash → Frames → Frames → Type 0
Moves r old new before after = SamePages r old new × ((es : List Entry) → RunOnFlash r old before es → RunOnFlash r new after es)

abbrev pub MovesIn : {X : Type 0} → Source X → Flash → Flash → Frames → Frames → Type 0
MovesIn (Frozen b) old new before after = ⊤
MovesIn (Run r) old new before after = Moves r.now old new before after

-- a cursor follows it as before
pub Follows-moved : (r : Kept) (old new : Flash) (c : Cursor) → SamePages r old new → Follows old r c → Follows new r c
Follows-moved r old new c same f = record {
  same_shape = f.same_shape;
  within = f.within;
  pages = f.pages;
  behind = f.behind;
  holds = λ e. let most = f.pages in same (own_page c) (omega (arith, e, most)) ∙ f.holds e;
}

has_moved : {X : Type 0} (source : Source X) (old new : Flash) (before after : Frames) (es : List Entry) → MovesIn source old new before after → Has source old before es → Has source new after es
has_moved (Frozen b) old new before after es moves has = has
has_moved (Run r) old new before after es moves has = moves.1 es has

follows_moved : {X : Type 0} (source : Source X) (old new : Flash) (before after : Frames) (c : Cursor) → MovesIn source old new before after → FollowsIn source old c → FollowsIn source new c
follows_moved (Frozen b) old new before after c moves f = f
follows_moved (Run r) old new before after c moves f = Follows-moved r.now old new c moves.0 f

pub stands_moved : {X : Type 0} (source : Source X) (target : Kept) (old new : Flash) (before after : Frames) (es fs : List Entry) (m : Merger)
    → MovesIn source old new before after → Moves target old new before after
    → StandsIn source target old before es fs m → StandsIn source target new after es fs m
stands_moved source target old new before after es fs m sources targets s =
    search (
      has_moved source old new before after es sources s.has,
      targets.1 fs s.stands,
      follows_moved source old new before after m.source sources s.source_at,
      Follows-moved target old new m.target targets.0 s.target_at,
    )

-- ---- blocks for meta pages

-- no page of them differs
abbrev pub SameMeta : Blocks → Flash → Flash → Type 0
SameMeta pool old new = (b k : ℕ) → slice_get pool.states b ≡ Some (Owned Meta) → k / pool.shape.block_pages ≡ b → page_at new k ≡ page_at old k

module _ (pool : Blocks) (old new : Flash) (same : SameMeta pool old new) where
  pub pages_same : (r : Kept) → IsShape r.shape → pool.shape ≡ r.shape → AreMeta pool r.blocks → (j : ℕ)
      → j < length r.blocks * r.shape.block_pages → page_at new (page_of r j) ≡ page_at old (page_of r j)
  pages_same r is shape meta j inside =
      let least : 8 ≤ r.shape.block_pages = is.block_least in
      let some : 0 < r.shape.block_pages = omega arith in
      let b : ℕ = slice_index r.blocks (j / r.shape.block_pages) in
      let own = meta (j / r.shape.block_pages) b (block_there r.shape some r.blocks j inside) in
      same b (page_of r j) own (ap (λ (s : Shape). page_of r j / s.block_pages) shape ∙ block_of_page r.shape some r.blocks j)

  pub moves : (r : Kept) (arena : Frames) (any : List Entry) → RunOnFlash r old arena any → IsShape r.shape → pool.shape ≡ r.shape → AreMeta pool r.blocks → Moves r old new arena arena
  moves r arena any st is shape meta =
      let pages : SamePages r old new = λ j h. pages_same r is shape meta j (let within = st.within in omega (arith, h, within)) in
      (pages, λ es s. RunOnFlash-elsewhere r old new arena arena es pages (λ j lease got is_leased. (is_leased, refl)) s)

  pub source_moves : {X : Type 0} (source : Source X) (arena : Frames) (es : List Entry) → Has source old arena es
      → IsShape pool.shape → IsOf pool.shape source → AreMeta pool (blocks_in source) → MovesIn source old new arena arena
  source_moves (Frozen x) arena es has is of meta = tt
  source_moves (Run r) arena es has is of meta = moves r.now arena es has (subst IsShape (sym of) is) (sym of) meta

-- ---- a block that is taken

pub same_but : (shape : Shape) (b : ℕ) (old new : BoardState) → ReachesIn shape b old new → SameButBlock shape b old.pages new.pages
same_but shape b old new r = subst (λ (f : Flash). SameButBlock shape b old.pages f) (sym r.1.stands)
    (r.1.cuts (after_all (shape_of old) r.0 old.pages) (all_posted r.0) (cut_end (shape_of old) old.pages r.0))

pub spare_is_none : (pool : Blocks) (b c : ℕ) → IsSpare pool b → slice_get pool.states c ≡ Some (Owned Meta) → c ≢ b
spare_is_none pool b c spare own e = elim spare [
  | inl free ↦ let no = sym free ∙ ap (slice_get pool.states) (sym e) ∙ own in cc
  | inr ready ↦ let no = sym ready ∙ ap (slice_get pool.states) (sym e) ∙ own in cc
]

-- a spare block is none of the blocks
pub spare_apart : (pool : Blocks) (blocks : List ℕ) (b i : ℕ) → IsSpare pool b → AreMeta pool blocks → slice_get blocks i ≡ Some b → ⊥
spare_apart pool blocks b i spare meta got = spare_is_none pool b b spare (meta i b got) refl

-- no page differs of another block
pub same_meta : (pool : Blocks) (b : ℕ) (old new : Flash) → IsShape pool.shape → IsSpare pool b → SameButBlock pool.shape b old new → SameMeta pool old new
same_meta pool b old new is spare same c k own at =
    let n : ℕ = pool.shape.block_pages in
    let least : 8 ≤ n = is.block_least in
    let ne = spare_is_none pool b c spare own in
    let place : c * n + k % n ≡ k = ap (λ (q : ℕ). q * n + k % n) (sym at) ∙ div-add-mod' k n in
    let some : 0 < n = omega (arith, least) in
    let low = mod-lt k some in
    elim (cases_lt c b) [
      | inl below ↦ same.below k (let e = apart c b n below in omega (arith, e, low, place))
      | inr above ↦ same.above k (let e = apart b c n (omega (arith, above, ne)) in omega (arith, e, place))
    ]

-- the output with a block that was taken
pub output_with : (pool : Blocks) (out : Kept) (b : ℕ) (old new : Flash) → IsShape out.shape → pool.shape ≡ out.shape
    → IsSpare pool b → b < pool.shape.blocks → SameButBlock pool.shape b old new → IsErasedBlock pool.shape new b
    → AreMeta pool out.blocks → length out.firsts ≤ length out.blocks * out.shape.block_pages → IsOutput out old → IsOutput (record out { blocks = out.blocks ++ b ∷ [] }) new
output_with pool out b old new is shape spare exists same erased_all meta within o = record {
  different = λ i j c got had. elim (from_more out.blocks b i c got) [
    | inl here ↦ elim (from_more out.blocks b j c had) [
      | inl there ↦ o.different i j c here there
      | inr last ↦ absurd (spare_apart pool out.blocks b i spare meta (here ∙ ap (λ (x : ℕ). Some x) last.1))
    ]
    | inr last ↦ elim (from_more out.blocks b j c had) [
      | inl there ↦ absurd (spare_apart pool out.blocks b j spare meta (there ∙ ap (λ (x : ℕ). Some x) last.1))
      | inr other ↦ last.0 ∙ sym other.0
    ]
  ];
  exist = λ i c got. elim (from_more out.blocks b i c got) [
    | inl here ↦ o.exist i c here
    | inr last ↦ rw (last.1, ← shape) exists
  ];
  unused = λ j past small. elim (cases_lt j (length out.blocks * n)) [
    | inl before ↦ ap (page_at new) (same_place out.shape out.blocks b j is before)
        ∙ pages_same pool old new (same_meta pool b old new (subst IsShape (sym shape) is) spare same) out is shape meta j before ∙ o.unused j past before
    | inr behind ↦ last_erased j behind small
  ];
}
  where
    n : ℕ
    n = out.shape.block_pages

    some : 0 < out.shape.block_pages
    some = let least : 8 ≤ out.shape.block_pages = is.block_least in omega arith

    last_erased : (j : ℕ) → length out.blocks * out.shape.block_pages ≤ j
        → j < length (out.blocks ++ b ∷ []) * out.shape.block_pages → page_at new (page_in out.shape (out.blocks ++ b ∷ []) j) ≡ erased
    last_erased j behind small =
        let long : length (out.blocks ++ b ∷ []) ≡ suc (length out.blocks) = let e = length-append out.blocks (b ∷ []) in omega (arith, e) in
        let all : length (out.blocks ++ b ∷ []) * out.shape.block_pages ≡ suc (length out.blocks) * out.shape.block_pages = ap (λ (k : ℕ). k * out.shape.block_pages) long in
        let r : ℕ = j - length out.blocks * out.shape.block_pages in
        let less : r < out.shape.block_pages = omega (arith, behind, small, all, suc-mul (length out.blocks) out.shape.block_pages) in
        let here : length out.blocks * out.shape.block_pages + r ≡ j = omega (arith, behind) in
        let page : page_in out.shape (out.blocks ++ b ∷ []) j ≡ b * out.shape.block_pages + r =
        ap (page_in out.shape (out.blocks ++ b ∷ [])) (sym here) ∙ page_of_place out.shape some (out.blocks ++ b ∷ []) (length out.blocks) r less
        ∙ ap (λ (k : ℕ). k * out.shape.block_pages + r) (get_or_push out.blocks b 0 (length out.blocks) refl) in
        let e = subst (λ (x : Shape). IsErasedBlock x new b) shape erased_all in
        e (page_in out.shape (out.blocks ++ b ∷ []) j) (omega (arith, page)) (omega (arith, page, less))

-- ---- a page that is programmed

module _ (out : Kept) (more : List Entry) (old new : BoardState) (before after : Frames) (is : IsShape out.shape) (inside : length out.firsts < length out.blocks * out.shape.block_pages)
    (program : new ≡ after_program old (page_of out (length out.firsts)) (next_bytes out more)) (others : OthersStand out old.pages before new.pages after) where
  pub moves_by_program : (r : Kept) (any : List Entry) → RunOnFlash r old.pages before any → r.shape ≡ out.shape → BlocksApart r.blocks out.blocks → Moves r old.pages new.pages before after
  moves_by_program r any st shape apart_from =
      let some : 0 < out.shape.block_pages = let least : 8 ≤ out.shape.block_pages = is.block_least in omega arith in
      let pages : new.pages ≡ set old.pages (page_of out (length out.firsts)) (whole (next_bytes out more)) = ap (λ (b : BoardState). b.pages) program in (
        λ j h.
            ap (λ (f : Flash). page_at f (page_of r j)) pages
            ∙ page_at-slice_set old.pages (page_of out (length out.firsts)) (page_of r j) (whole (next_bytes out more)) (λ e.
            other_page out.shape some out.blocks r.blocks (length out.firsts) j apart_from inside
            (subst (λ (s : Shape). j < length r.blocks * s.block_pages) shape (let within = st.within in omega (arith, h, within)))
            (ap (λ (s : Shape). page_in s r.blocks j) (sym shape) ∙ e)),
        λ es s. others r es apart_from shape s,
      )

  pub source_by_program : {X : Type 0} (source : Source X) (es : List Entry) → Has source old.pages before es
      → IsOf out.shape source → BlocksApart (blocks_in source) out.blocks → MovesIn source old.pages new.pages before after
  source_by_program (Frozen x) es has of apart_from = tt
  source_by_program (Run r) es has of apart_from = moves_by_program r.now es has of apart_from
