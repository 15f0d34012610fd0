-- The reclaim of a drive is unchanged, whatever others do.
use Rattle.std.proofs.Common.{◌≡◌, ◌⊎◌, inl, inr, ℕ, zero, suc, ◌+◌, ◌-◌, ◌*◌, ◌/◌, ◌<◌, ◌≤◌, sym, subst, ◌∙◌, refl, arith, true, false, List, [], ◌∷◌, Option, Some, None}
use Rattle.std.{specs.Prelude.Bool, specs.Prelude.slice_index, specs.Prelude.slice_set, specs.Prelude.MatchOption, specs.Prelude.IfSome, specs.FinMap.Entries.put, proofs.lemmas.List.get_or-set_other}
use Rattle.pk_base.{specs.Key.Key, specs.Key.key_cmp, specs.Shape.Shape, specs.Shape.charge, specs.Shape.dense, specs.Page.Flash, specs.Page.page_at, specs.Entry.Place}
use Rattle.pk_plan.specs.declared.owner.Owner.TheVariants.{Values as for_values}
use Rattle.pk_pool.{specs.Blocks.Blocks, specs.Blocks.used_by, proofs.Fitting.block_of}
use Rattle.pk_live.{specs.Values.Values, specs.Values.IsClosed, specs.declared.open_block.OpenBlock.OpenBlock}
use Rattle.pk_model.specs.Laws.{IsPageOf}
use Rattle.pk_values.{specs.declared.span.Span.Span, specs.State.ValuesState, specs.Placed.HoldsValues, specs.Placed.IsNotOpen, specs.Placed.IsOpenIn, specs.Placed.ValuesOnFlash, specs.Placed.without}
use Rattle.pk_values.specs.Entries.{IsInOpen, heads_without}
use Rattle.pk_gc.{specs.declared.course.Course.Course, specs.declared.course.Phase.Phase, specs.State.JobState, specs.State.live_from, specs.State.live_unseen, specs.State.unseen}
use Rattle.pk_gc.specs.declared.course.Phase.TheVariants.{Idle, Copies, Commits, GivesBack}
use Rattle.pk_gc.proofs.Keeping.{runs_elsewhere, runs_stored, runs_deleted}
use Rattle.pk_gc.{specs.Running.IsSparse, specs.Stepping.runs_in, specs.Standing.held_blocks, specs.Standing.ReclaimStands, specs.Standing.ReclaimOnFlash}
use Rattle.pk_law_work.{specs.Rest.steps_of, specs.Rest.whole_reclaim, specs.Jobs.reclaim_rest}
use Rattle.pk_parts.specs.Parts.{reclaim_left}

-- ---- none runs

pub runs_or_rests : (p : Phase) → (runs_in p ≡ true) ⊎ (runs_in p ≡ false)
runs_or_rests Idle = inr refl
runs_or_rests p = inl refl

pub holds_none : (p : Phase) → runs_in p ≡ false → held_blocks p ≡ []
holds_none Idle rests = refl
holds_none p rests = absurd cc

rests_so : (p : Phase) (shape : Shape) (job : JobState) (live : Values) (flash : Flash) (es : List (Key × Place)) → runs_in p ≡ false → ReclaimStands p shape job live flash es
rests_so Idle shape job live flash es rests = tt
rests_so p shape job live flash es rests = absurd cc

pub reclaim_rests : (shape : Shape) (job : JobState) (live : Values) (pool : Blocks) (flash : Flash) (es : List (Key × Place)) → job.shape ≡ shape → runs_in job.phase ≡ false
    → ReclaimOnFlash shape job live pool flash es
reclaim_rests shape job live pool flash es is rests = record {
  shape_is = is;
  stands = rests_so job.phase shape job live flash es rests;
  full = λ runs. absurd cc;
}

-- ---- other pages differ

-- no page differs of a block for values but the open one
abbrev pub SameButOpen : Shape → Blocks → Option OpenBlock → Flash → Flash → Type 0
SameButOpen shape pool taking old new = (k : ℕ) → HoldsValues pool (k / shape.block_pages) → IsNotOpen taking (k / shape.block_pages) → page_at new k ≡ page_at old k

-- the victim and the output are such blocks
of_copy : (shape : Shape) (c : Course) (d : ValuesState) (pool : Blocks) (flash : Flash) (es : List (Key × Place)) (b : ℕ)
    → IsClosed d.live c.victim → ValuesOnFlash shape d pool (c.output ∷ []) flash es
    → (b ≡ c.victim) ⊎ (b ≡ c.output) → HoldsValues pool b × IsNotOpen d.open_block b
of_copy shape c d pool flash es b closed placed (inl is) =
    let told = placed.closed_owned c.victim closed in
    subst (λ x. HoldsValues pool x × IsNotOpen d.open_block x) (sym is) (told.0, told.1)
of_copy shape c d pool flash es b closed placed (inr is) =
    subst (λ x. HoldsValues pool x × IsNotOpen d.open_block x) (sym is) (placed.outputs_are.owned c.output (inl refl), placed.outputs_are.not_open c.output (inl refl))

stands_elsewhere : (p : Phase) (shape : Shape) (job : JobState) (d : ValuesState) (pool : Blocks) (old new : Flash) (es : List (Key × Place)) → ReclaimStands p shape job d.live old es
    → ValuesOnFlash shape d pool (held_blocks p) old es → SameButOpen shape pool d.open_block old new → ReclaimStands p shape job d.live new es
stands_elsewhere (Copies c) shape job d pool old new es was placed same =
    search (runs_elsewhere shape c job.moves job.page old new es was.runs (λ k here. let of = of_copy shape c d pool old es (k / shape.block_pages) was.closed placed here in same k of.0 of.1))
stands_elsewhere p shape job d pool old new es was placed same = tt

pub reclaim_elsewhere : (shape : Shape) (job : JobState) (d : ValuesState) (pool pool' : Blocks) (old new : Flash) (es : List (Key × Place)) → ReclaimOnFlash shape job d.live pool old es
    → ValuesOnFlash shape d pool (held_blocks job.phase) old es → used_by for_values pool'.states ≡ used_by for_values pool.states → SameButOpen shape pool d.open_block old new
    → ReclaimOnFlash shape job d.live pool' new es
reclaim_elsewhere shape job d pool pool' old new es was placed as_many same = record {
  shape_is = was.shape_is;
  stands = stands_elsewhere job.phase shape job d pool old new es was.stands placed same;
  full = λ runs. as_many ∙ was.full runs;
}

-- ---- a key gets a value in the open block, or has one no more

live_fewer : (heads fewer : List ℕ) (page n : ℕ) → ((k : ℕ) → page ≤ k → k < page + n → slice_index fewer k ≤ slice_index heads k) → live_from fewer page n ≤ live_from heads page n
live_fewer heads fewer page zero less = omega arith
live_fewer heads fewer page (suc n) less =
    let here = less page (omega arith) (omega arith) in
    let rest = live_fewer heads fewer (page + 1) n (λ k low high. less k (omega (arith, low)) (omega (arith, high))) in
    omega (arith, here, rest)

-- it is as sparse if no more is live in the victim
fewer_in_victim : (shape : Shape) (c : Course) (heads fewer : List ℕ)
    → ((k : ℕ) → k / shape.block_pages ≡ c.victim → slice_index fewer k ≤ slice_index heads k) → IsSparse shape c heads → IsSparse shape c fewer
fewer_in_victim shape c heads fewer less sparse =
    let live = live_fewer heads fewer (unseen shape c) (c.victim * shape.block_pages + shape.block_pages - unseen shape c)
    (λ k low high. less k (block_of shape.block_pages k c.victim (omega (arith, low)) (omega (arith, low, high)))) in
    omega (arith, sparse, live)

-- a page of the open block
page_in_open : (shape : Shape) (pool : Blocks) (flash : Flash) (o : OpenBlock) (page count k : ℕ) → IsOpenIn shape pool flash o
    → (o.block * shape.block_pages ≤ page) × (page + count ≤ o.block * shape.block_pages + o.used) → page ≤ k → k < page + count → k / shape.block_pages ≡ o.block
page_in_open shape pool flash o page count k is inside low high = let most = is.within in block_of shape.block_pages k o.block (omega (arith, inside.0, low)) (omega (arith, inside.1, high, most))

pub not_of_open : (shape : Shape) (d : ValuesState) (pool : Blocks) (outputs : List ℕ) (flash : Flash) (es : List (Key × Place)) (page count k : ℕ)
    → ValuesOnFlash shape d pool outputs flash es → IsInOpen shape d page count
    → page ≤ k → k < page + count → IsNotOpen d.open_block (k / shape.block_pages) → ⊥
not_of_open shape d pool outputs flash es page count k placed = by d.open_block placed.open_is
  where
    by : (o : Option OpenBlock) → MatchOption o (Unit {0}) (λ x. IsOpenIn shape pool flash x)
        → MatchOption o ⊥ (λ x. (x.block * shape.block_pages ≤ page) × (page + count ≤ x.block * shape.block_pages + x.used))
        → page ≤ k → k < page + count → IsNotOpen o (k / shape.block_pages) → ⊥
    by None is inside low high other = inside
    by (Some o) is inside low high other = other (page_in_open shape pool flash o page count k is inside low high)

stands_stored : (p : Phase) (shape : Shape) (job : JobState) (d : ValuesState) (pool : Blocks) (flash : Flash) (es : List (Key × Place)) (key : Key) (place : Place) (heads : List ℕ)
    → ReclaimStands p shape job d.live flash es
    → ValuesOnFlash shape d pool (held_blocks p) flash es → IsInOpen shape d place.page (charge shape place.len) → 0 < charge shape place.len
    → ((k : ℕ) → (k ≡ place.page → ⊥) → slice_index heads k ≤ slice_index d.live.heads k)
    → ReclaimStands p shape job (record d.live { heads = heads }) flash (put key_cmp key place es)
stands_stored (Copies c) shape job d pool flash es key place heads was placed inside some fewer =
    let other : (k : ℕ) → IsPageOf shape k place → (k / shape.block_pages ≡ c.victim) ⊎ (k / shape.block_pages ≡ c.output) → ⊥ = λ k page_of here.
    not_of_open shape d pool (c.output ∷ []) flash es place.page (charge shape place.len) k placed inside page_of.0 page_of.1
    (of_copy shape c d pool flash es (k / shape.block_pages) was.closed placed here).1 in
    let sparse = fewer_in_victim shape c d.live.heads heads (λ k in_victim. fewer k (λ e. other k (omega (arith, e), omega (arith, e, some)) (inl in_victim))) was.sparse in
    search (runs_stored shape c job.moves job.page flash es key place was.runs other, sparse)
stands_stored p shape job d pool flash es key place heads was placed inside some fewer = tt

pub reclaim_stored : (shape : Shape) (job : JobState) (d : ValuesState) (pool : Blocks) (flash : Flash) (es : List (Key × Place)) (key : Key) (place : Place) (heads : List ℕ)
    → ReclaimOnFlash shape job d.live pool flash es
    → ValuesOnFlash shape d pool (held_blocks job.phase) flash es → IsInOpen shape d place.page (charge shape place.len) → 0 < charge shape place.len
    → ((k : ℕ) → (k ≡ place.page → ⊥) → slice_index heads k ≤ slice_index d.live.heads k)
    → ReclaimOnFlash shape job (record d.live { heads = heads }) pool flash (put key_cmp key place es)
reclaim_stored shape job d pool flash es key place heads was placed inside some fewer =
    search (stands_stored job.phase shape job d pool flash es key place heads was.stands placed inside some fewer)

stands_gone : (p : Phase) (shape : Shape) (job : JobState) (live : Values) (flash : Flash) (es : List (Key × Place)) (key : Key) (heads : List ℕ) → ReclaimStands p shape job live flash es
    → ((k : ℕ) → slice_index heads k ≤ slice_index live.heads k) → ReclaimStands p shape job (record live { heads = heads }) flash (without key es)
stands_gone (Copies c) shape job live flash es key heads was fewer =
    search (runs_deleted shape c job.moves job.page flash es key was.runs, fewer_in_victim shape c live.heads heads (λ k in_victim. fewer k) was.sparse)
stands_gone p shape job live flash es key heads was fewer = tt

pub reclaim_gone : (shape : Shape) (job : JobState) (live : Values) (pool : Blocks) (flash : Flash) (es : List (Key × Place)) (key : Key) (heads : List ℕ) → ReclaimOnFlash shape job live pool flash es
    → ((k : ℕ) → slice_index heads k ≤ slice_index live.heads k) → ReclaimOnFlash shape job (record live { heads = heads }) pool flash (without key es)
reclaim_gone shape job live pool flash es key heads was fewer = search (stands_gone job.phase shape job live flash es key heads was.stands fewer)

-- ---- the heads

-- one of them is 0 now
pub zero_fewer : (xs : List ℕ) (i j : ℕ) → slice_index (slice_set xs i 0) j ≤ slice_index xs j
zero_fewer (x ∷ xs) zero zero = omega arith
zero_fewer (x ∷ xs) (suc i) (suc j) = zero_fewer xs i j
zero_fewer xs i j = omega arith

without_fewer : (o : Option Span) (heads : List ℕ) (k : ℕ) → slice_index (heads_without o heads) k ≤ slice_index heads k
without_fewer None heads k = omega arith
without_fewer (Some span) heads k = zero_fewer heads span.page k

-- after a change of one value all heads but its own are gone
pub replaced_fewer : (o : Option Span) (heads : List ℕ) (page count k : ℕ) → (k ≡ page → ⊥) → slice_index (slice_set (heads_without o heads) page count) k ≤ slice_index heads k
replaced_fewer o heads page count k other =
    let same = get_or-set_other (heads_without o heads) page k count 0 other in
    let less = without_fewer o heads k in
    omega (arith, same, less)

-- ---- what remains of it

reclaim_most : (pages most : ℕ) (held : Bool) → pages ≤ most → steps_of (reclaim_rest pages held 3) ≤ most + most + 2 * 1 + 8
reclaim_most pages most true few = omega (arith, few)
reclaim_most pages most false few = omega (arith, few)

-- a reclaim has no more left than the whole of one
pub reclaim_within : (p : Phase) (shape : Shape) (due : Bool) (job : JobState) (live : Values) (flash : Flash) (es : List (Key × Place)) → ReclaimStands p shape job live flash es
    → IfSome (reclaim_left shape live.heads due p) (λ left. left ≤ whole_reclaim shape)
reclaim_within Idle shape false job live flash es stands = tt
reclaim_within (Copies c) shape due job live flash es stands =
    let few = stands.sparse in
    reclaim_most (c.left + live_unseen shape live.heads c) (dense shape) c.held (omega (arith, few))
reclaim_within (Commits victim) shape false job live flash es stands = omega arith
reclaim_within (GivesBack victim) shape false job live flash es stands = omega arith
reclaim_within p shape due job live flash es stands = omega arith
