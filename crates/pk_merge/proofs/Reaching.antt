-- Wherever a step is cut, no page differs that another may read; and after a read that failed the merge runs as before.
use Rattle.std.proofs.Common.{◌≡◌, ◌≢◌, inl, inr, ◌+◌, ◌-◌, ◌*◌, ◌/◌, ◌%◌, ◌<◌, ◌≤◌, ℕ, refl, sym, ap, subst, ◌∙◌, arith, Bool, List, length, slice_get, Option, Some, None}
use Rattle.std.{specs.Prelude.slice_index, proofs.lemmas.Nat.mod-mul-add}
use Rattle.pk_base.{specs.Shape.Shape, specs.Shape.IsShape, specs.Entry.Entry, specs.Page.Flash}
use Rattle.pk_nand.{specs.BoardState.BoardState, specs.Crash.Reached, specs.Crash.Went, specs.Pairs.first_of_pair, specs.Pairs.SameOutsidePair, specs.declared.types.Fault.TheVariants.Stopped}
use Rattle.pk_pin.specs.Frames.{Frames}
use Rattle.pk_pool.{specs.Blocks.Blocks, specs.Taking.ReachesIn, specs.Taking.WentIn, specs.Taking.SameButBlock}
use Rattle.pk_run.specs.Kept.{Kept, page_of, after_look}
use Rattle.pk_merge.{specs.declared.source.Source.Source, specs.declared.source.Source.TheVariants.Frozen, specs.declared.source.Source.TheVariants.Run, specs.declared.next.Next.Next}
use Rattle.pk_merge.specs.declared.next.Next.TheVariants.{LoadSource, LoadTarget, TakeBlock, Program}
use Rattle.pk_merge.{specs.Cursors.Cursor, specs.Cursors.Follows, specs.Cursors.own_page, specs.Sources.FollowsIn, specs.Sources.after_look_at, specs.Merging.Merger, specs.Merging.Tells}
use Rattle.pk_merge.{specs.Running.Running, specs.Steps.Acts, specs.Steps.Fails, specs.Steps.FailsToRead, specs.Elsewhere.IsLook, specs.Elsewhere.StepReaches, specs.Elsewhere.StepWent}
use Rattle.pk_merge.{proofs.Places.block_there, proofs.Places.rest, proofs.Stepping.looked_on}

-- ---- other pages

look_is : (lease : Option ℕ) (b : BoardState) → IsLook b (after_look lease b)
look_is None b = inr refl
look_is (Some l) b = inl refl

look_is_in : {X : Type 0} (source : Source X) (c : Cursor) (b : BoardState) → IsLook b (after_look_at source c b)
look_is_in (Frozen x) c b = inl refl
look_is_in (Run r) c b = look_is (slice_get r.now.leases (own_page c)) b

looked : (a b c : BoardState) → c ≡ b → IsLook a b → IsLook a c
looked a b c e l = subst (IsLook a) (sym e) l

-- the pair of a page of a block is within it
pair_within : (shape : Shape) (b p : ℕ) → IsShape shape → b * shape.block_pages ≤ p → p < b * shape.block_pages + shape.block_pages
    → (b * shape.block_pages ≤ first_of_pair shape p) × (first_of_pair shape p + 2 ≤ b * shape.block_pages + shape.block_pages)
pair_within shape b p is low high =
    let n : ℕ = shape.block_pages in
    let eights : n % 8 ≡ 0 = is.eights in
    let d : ℕ = p - b * n in
    let e : b * n + d ≡ p = omega (arith, low) in
    let less : d < n = omega (arith, low, high) in
    let rest : p % n ≡ d = ap (λ (k : ℕ). k % n) (sym e) ∙ mod-mul-add b n d less in
    (omega (arith, rest, low), omega (arith, rest, low, less, eights))

widened : (shape : Shape) (b p : ℕ) (old new : Flash) → IsShape shape → b * shape.block_pages ≤ p
    → p < b * shape.block_pages + shape.block_pages → SameOutsidePair shape p old new → SameButBlock shape b old new
widened shape b p old new is low high s =
    let ends = pair_within shape b p is low high in
    record {
      size = s.size;
      below = λ k h. s.below k (omega (arith, h, ends.0));
      above = λ k h. s.above k (omega (arith, h, ends.1));
    }

reached_wider : (shape : Shape) (b p : ℕ) (old new : BoardState) → IsShape shape → b * shape.block_pages ≤ p
    → p < b * shape.block_pages + shape.block_pages → Reached old new (λ flash _. SameOutsidePair shape p old.pages flash) → ReachesIn shape b old new
reached_wider shape b p old new is low high (marks, r) =
    (marks, record { trail = r.trail; posted = r.posted; same_shape = r.same_shape; cuts = λ f q cut. widened shape b p old.pages f is low high (r.cuts f q cut); stands = r.stands })

went_wider : (shape : Shape) (b p : ℕ) (old new : BoardState) → IsShape shape → b * shape.block_pages ≤ p
    → p < b * shape.block_pages + shape.block_pages → Went old new (λ flash _. SameOutsidePair shape p old.pages flash) → WentIn shape b old new
went_wider shape b p old new is low high (marks, r) =
    (marks, record { trail = r.trail; posted = r.posted; same_shape = r.same_shape; cuts = λ f q cut. widened shape b p old.pages f is low high (r.cuts f q cut); stands = r.stands })

module _ {X : Type 0} (source : Source X) (target : Kept) (pins : Bool) (out : Kept) (m : Merger) (pool : Blocks) (old : BoardState) (before : Frames) (es fs : List Entry) (is : IsShape out.shape)
    (r : Running source target pins out m pool old.pages before es fs) where
  abbrev n : ℕ
  n = out.shape.block_pages

  abbrev b : ℕ
  b = slice_index out.blocks (length out.firsts / n)

  some : 0 < out.shape.block_pages
  some = let least : 8 ≤ out.shape.block_pages = is.block_least in omega arith

  place : length out.firsts ≢ length out.blocks * out.shape.block_pages → length out.firsts < length out.blocks * out.shape.block_pages
  place ne = let within = r.merging.stands.within in omega (arith, within, ne)

  low : b * out.shape.block_pages ≤ page_of out (length out.firsts)
  low = omega arith

  high : page_of out (length out.firsts) < b * out.shape.block_pages + out.shape.block_pages
  high = let e = rest out.shape some out.blocks (length out.firsts) in omega (arith, e)

  pub acts_reach : (next : Next) (out' : Kept) (m' : Merger) (pool' : Blocks) (new : BoardState) (after : Frames)
      → Tells source target out m next → Acts source target pins out m pool old before next out' m' pool' new after → StepReaches pool out old new
  acts_reach LoadSource out' m' pool' new after t (l, o, p, a) = inl (looked old (after_look_at source m.source old) new l.board (look_is_in source m.source old))
  acts_reach LoadTarget out' m' pool' new after t (l, o, p, a) =
      let lease = slice_get target.leases (own_page m.target) in inl (looked old (after_look lease old) new l.board (look_is lease old))
  acts_reach TakeBlock out' m' pool' new after t (k, e, a, fits) = inr (k.block, inl k.spare, subst (λ (s : Shape). ReachesIn s k.block old new) r.shapes.of_pool k.cuts)
  acts_reach Program out' m' pool' new after t (k, e, p) =
      inr (
        b,
        inr (length out.firsts / n, block_there out.shape some out.blocks (length out.firsts) (place t.1)),
        reached_wider out.shape b (page_of out (length out.firsts)) old new is low high k.cuts,
      )
  acts_reach next out' m' pool' new after t none = inl (inl none.0)

  pub stops_in : (m' : Merger) (new : BoardState) → Fails source target out m pool old Stopped m' new → StepWent pool out old new
  stops_in m' new (inl erase) = (erase.block, inl (inl erase.lowest.here), subst (λ (s : Shape). WentIn s erase.block old new) r.shapes.of_pool erase.cuts)
  stops_in m' new (inr program) = (
    b,
    inr (length out.firsts / n, block_there out.shape some out.blocks (length out.firsts) program.place),
    went_wider out.shape b (page_of out (length out.firsts)) old new is low high program.cuts,
  )

  -- after a read that failed the merge runs as before
  pub reads_again : (m' : Merger) (new : BoardState) → FailsToRead source target m old m' new → Running source target pins out m' pool new.pages before es fs
  reads_again m' new f =
      subst (λ (x : Flash). Running source target pins out m' pool x before es fs) (sym f.same)
      (subst (λ (x : Merger). Running source target pins out x pool old.pages before es fs) (sym f.merger)
      (looked_on source target pins out m pool old.pages before es fs r m.source.loaded m.target.loaded m'.source.bytes m'.target.bytes
      (subst (FollowsIn source old.pages) (ap (λ (x : Merger). x.source) f.merger) f.follows_source)
      (subst (Follows old.pages target) (ap (λ (x : Merger). x.target) f.merger) f.follows_target)))
