-- What the calls of a board with a log keep.
use Rattle.std.proofs.Common.{◌≡◌, ◌⊎◌, ℕ, ◌-◌, ◌≤◌, List, replicate, [], ◌∷◌, ◌++◌, length, sym, refl, ◌∙◌, ap, subst, inl, inr, arith, append_assoc, length-append}
use Rattle.std.{proofs.lemmas.List.append-nil, proofs.lemmas.List.length-replicate}
use Rattle.pk_base.specs.Fields.{padded}
use Rattle.pk_file.{specs.declared.trimmed.Trimmed.Trimmed, specs.Trims.bytes_in}
use Rattle.sqlite_disk.specs.declared.Disk.{Ghosts}
use Rattle.pk_base.{specs.Shape.Shape, specs.Page.Flash, specs.Page.page_at, specs.Page.whole}
use Rattle.pk_file.{specs.declared.slot.Slot.Slot, specs.Slots.pages_of, specs.Slots.AllFit}
use Rattle.pk_base.specs.Mark.{Mark, after, after_all}
use Rattle.pk_nand.proofs.CutLemmas.{after_all-append}
use Rattle.pk_redo.{specs.Image.ReadAs, specs.Kept.KeepsPages, specs.Kept.StillKeeps, proofs.Keeping.still_read}
use Rattle.pk_redo.{specs.declared.redo_log.RedoLog.RedoLog, specs.declared.redo_log.LogState.TheVariants.Ready, specs.declared.redo_log.LogState.TheVariants.Ended}
use Rattle.pk_file.specs.Logged.{AfterPrefix, ReadsPrefix, KeepsTrail, StillKeepsTrail}

-- ---- a page by its front

-- the bytes of a page are its front, and zeros up to its size
pub front_padded : (kept : Trimmed) (bytes : List ℕ) (size : ℕ) → bytes_in kept ≡ bytes → length bytes ≡ size → padded size kept.front.items ≡ bytes
front_padded kept bytes size is full =
    let front : List ℕ = kept.front.items in
    let tail : List ℕ = replicate kept.zeros 0 in
    let n : size - length front ≡ kept.zeros = omega (arith, full, ap (λ (l : List ℕ). length l) is, length-append front tail, length-replicate {A = ℕ} kept.zeros 0) in
    ap (λ (k : ℕ). front ++ replicate k 0) n ∙ is

-- the bytes of a slot that are kept
pub front_short : (shape : Shape) (slots : List Slot) (page : ℕ) (kept : Trimmed) → AllFit shape slots
    → page_at (pages_of slots) page ≡ whole (bytes_in kept) → length kept.front.items ≤ shape.page_bytes
front_short shape slots page kept fit is = let full = (fit page (bytes_in kept) is).0 in omega (arith, full, length-append kept.front.items (replicate kept.zeros 0))

pub front_is : (shape : Shape) (slots : List Slot) (page : ℕ) (kept : Trimmed) → AllFit shape slots → page_at (pages_of slots) page ≡ whole (bytes_in kept)
    → (own : List ℕ) → page_at (pages_of slots) page ≡ whole own → own ≡ padded shape.page_bytes kept.front.items
front_is shape slots page kept fit is own owns =
    let same : own ≡ bytes_in kept = cc in
    same ∙ sym (front_padded kept (bytes_in kept) shape.page_bytes refl (fit page (bytes_in kept) is).0)

-- ---- the first steps of a trail

pub all_of : (shape : Shape) (start : Flash) (trail : List Mark) (least : ℕ) (flash : Flash) → after_all shape trail start ≡ flash → least ≤ length trail → AfterPrefix shape start trail least flash
all_of shape start trail least flash e some = record { first = trail; later = []; in_order = append-nil trail; enough = some; gives = e }

pub prefix_more : (shape : Shape) (start : Flash) (trail : List Mark) (least : ℕ) (flash : Flash) (mark : Mark)
    → AfterPrefix shape start trail least flash → AfterPrefix shape start (trail ++ mark ∷ []) least flash
prefix_more shape start trail least flash mark p = record {
  first = p.first;
  later = p.later ++ mark ∷ [];
  in_order = sym (append_assoc p.first p.later (mark ∷ [])) ∙ ap (λ (l : List Mark). l ++ mark ∷ []) p.in_order;
  enough = p.enough;
  gives = p.gives;
}

pub prefix_short : (shape : Shape) (start : Flash) (trail : List Mark) (least : ℕ) (flash : Flash) → AfterPrefix shape start trail least flash → least ≤ length trail
prefix_short shape start trail least flash p = omega (arith, p.enough, ap (λ (l : List Mark). length l) p.in_order, length-append p.first p.later)

-- one more step
pub after_more : (shape : Shape) (start : Flash) (trail : List Mark) (mark : Mark) (pages : Flash)
    → after_all shape trail start ≡ pages → after_all shape (trail ++ mark ∷ []) start ≡ after shape mark pages
after_more shape start trail mark pages e = after_all-append shape start trail (mark ∷ []) ∙ ap (λ (f : Flash). after shape mark f) e

module _ {D : Type 0} (g : Ghosts D) (shape : Shape) (start : Flash) (trail : List Mark) (least : ℕ) where
  -- ---- what is read

  pub reads_prefix : (redo : RedoLog D g) (kept pages : Flash) → redo.shape ≡ shape → AfterPrefix shape start trail least kept
      → after_all shape trail start ≡ pages → StillKeeps g redo kept pages → ReadsPrefix g redo shape start trail least
  reads_prefix redo kept pages same p e still l i may_l may_i =
      elim (still_read g redo kept pages still l i may_l may_i) [
        | inl one ↦ (kept, subst (λ (s : Shape). ReadAs s l i kept) same one, p)
        | inr all ↦ (pages, subst (λ (s : Shape). ReadAs s l i pages) same all, all_of shape start trail least pages e (prefix_short shape start trail least kept p))
      ]

  pub reads_kept : (redo : RedoLog D g) (pages : Flash) → KeepsTrail g redo shape start trail least pages → ReadsPrefix g redo shape start trail least
  reads_kept redo pages k = reads_prefix redo k.kept pages k.same_shape k.is_prefix k.are_after (inl k.keeps)

  pub reads_more : (redo : RedoLog D g) (mark : Mark) → ReadsPrefix g redo shape start trail least → ReadsPrefix g redo shape start (trail ++ mark ∷ []) least
  reads_more redo mark reads l i may_l may_i =
      let it = reads l i may_l may_i in
      (it.0, it.1, prefix_more shape start trail least it.0 mark it.2)

  -- ---- what is kept

  -- after a call that was answered with Ok
  pub keeps_on : (redo : RedoLog D g) (kept pages : Flash) → redo.shape ≡ shape → redo.state ≡ Ready → AfterPrefix shape start trail least kept
      → after_all shape trail start ≡ pages → StillKeeps g redo kept pages → KeepsTrail g redo shape start trail least pages
  keeps_on redo kept pages same ready p e still = elim still [
    | inl k ↦ record { kept = kept; is_prefix = p; keeps = k; are_after = e; same_shape = same }
    | inr (inl k) ↦ record { kept = pages; is_prefix = all_of shape start trail least pages e (prefix_short shape start trail least kept p); keeps = k; are_after = e; same_shape = same }
    | inr (inr ended) ↦ let last : redo.state ≡ Ended = ended.0 in cc
  ]

  -- after a step
  pub keeps_more : (old new : RedoLog D g) (mark : Mark) (before later : Flash) → new.shape ≡ shape → KeepsTrail g old shape start trail least before
      → ((kept : Flash) → KeepsPages g old kept before → KeepsPages g new kept (after shape mark before)) → later ≡ after shape mark before
      → KeepsTrail g new shape start (trail ++ mark ∷ []) least later
  keeps_more old new mark before later same k step e = record {
    kept = k.kept;
    is_prefix = prefix_more shape start trail least k.kept mark k.is_prefix;
    keeps = subst (λ (f : Flash). KeepsPages g new k.kept f) (sym e) (step k.kept k.keeps);
    are_after = after_more shape start trail mark before k.are_after ∙ sym e;
    same_shape = same;
  }

  -- after a barrier
  pub keeps_all : (old new : RedoLog D g) (pages : Flash) → new.shape ≡ shape → KeepsTrail g old shape start trail least pages
      → KeepsPages g new pages pages → KeepsTrail g new shape start trail (length trail) pages
  keeps_all old new pages same k all = record {
    kept = pages;
    is_prefix = all_of shape start trail (length trail) pages k.are_after (omega arith);
    keeps = all;
    are_after = k.are_after;
    same_shape = same;
  }

  -- what is read in either case
  pub reads_still : (redo : RedoLog D g) (pages : Flash) → StillKeepsTrail g redo shape start trail least pages → ReadsPrefix g redo shape start trail least
  reads_still redo pages still = elim still [ inl k ↦ reads_kept redo pages k | inr ended ↦ ended.1 ]

  -- ---- calls

  module _ (old new : RedoLog D g) (pages : Flash) (same : new.shape ≡ old.shape) (k : KeepsTrail g old shape start trail least pages)
      (still : (kept : Flash) → KeepsPages g old kept pages → StillKeeps g new kept pages) where
    -- whatever the call answered
    pub call_reads : ReadsPrefix g new shape start trail least
    call_reads = reads_prefix new k.kept pages (same ∙ k.same_shape) k.is_prefix k.are_after (still k.kept k.keeps)

    pub call_keeps : StillKeepsTrail g new shape start trail least pages
    call_keeps = elim (still k.kept k.keeps) [
      | inl kept ↦ inl (record { kept = k.kept; is_prefix = k.is_prefix; keeps = kept; are_after = k.are_after; same_shape = same ∙ k.same_shape })
      | inr (inl all) ↦
          let some = prefix_short shape start trail least k.kept k.is_prefix in
          inl (record { kept = pages; is_prefix = all_of shape start trail least pages k.are_after some; keeps = all; are_after = k.are_after; same_shape = same ∙ k.same_shape })
      | inr (inr ended) ↦ inr (ended.0, call_reads)
    ]

    -- it was answered with Ok
    pub call_kept : new.state ≡ Ready → KeepsTrail g new shape start trail least pages
    call_kept ready = keeps_on new k.kept pages (same ∙ k.same_shape) ready k.is_prefix k.are_after (still k.kept k.keeps)
