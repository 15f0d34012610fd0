-- After a merge no spare block is read.
use Rattle.std.proofs.Common.{◌≡◌, ◌⊎◌, inl, inr, ℕ, List, [], ◌++◌, Bool, true, false, ◌==◌, if◌then◌else◌, subst}
use Rattle.std.specs.List.{concat}
use Rattle.pk_rootfmt.specs.Root.{Root, named}
use Rattle.pk_model.{specs.Tree.blocks_after, proofs.SamePages.any_front, proofs.SamePages.any_back}
use Rattle.pk_law_steps.{specs.Under.IsValuePage, proofs.Places.In, proofs.Places.in_append, specs.Merging.merged_root, proofs.Merging.in_after, proofs.Following.merged_next, proofs.Freeing.freed}
use Rattle.pk_compact.{specs.Laws.ApartMerged, proofs.Apart.spare_back}

-- a block that the root of a merge names was taken, or was named before
either : (root : Root) (level count : ℕ) (taken : List ℕ) (b : ℕ) → In b (named (merged_root root level count taken)) → In b taken ⊎ In b (named root)
either root level count taken b among =
    let then_older = if level == 1 then [] else root.older in
    elim (in_append b (root.newest ++ then_older) (concat (blocks_after level taken root.runs)) among) [
      | inl front ↦ inr (any_front (λ c. b ≡ c) (root.newest ++ root.older) (concat root.runs) (elim (in_append b root.newest then_older front) [
        | inl newest ↦ any_front (λ c. b ≡ c) root.newest root.older newest
        | inr older ↦ any_back (λ c. b ≡ c) root.newest root.older (older_in (level == 1) older)
      ]))
      | inr run ↦ elim (in_after b level taken root.runs run) [ inl fresh ↦ inl fresh | inr former ↦ inr (any_back (λ c. b ≡ c) (root.newest ++ root.older) (concat root.runs) former) ]
    ]
  where
    older_in : (one : Bool) → In b (if one then [] else root.older) → In b root.older
    older_in true is = absurd is
    older_in false is = is

pub apart_merged : ApartMerged
apart_merged shape flash pool top found m level count taken gone is_shape under is apart not_spare among_freed =
    let next = merged_next shape flash [] top found m level count taken is_shape under is in
    record {
      unnamed = λ b spare named_now. elim (spare_back gone pool b spare) [
        | inl given ↦ (freed shape flash [] top found m level count taken b is_shape under is (among_freed b given)).0 named_now
        | inr still ↦ elim (either top.1 level count taken b named_now) [ inl fresh ↦ not_spare b fresh still | inr former ↦ apart.unnamed b still former ]
      ];
      no_value = λ b k spare here value. elim (spare_back gone pool b spare) [
        | inl given ↦ (freed shape flash [] top found m level count taken b is_shape under is (among_freed b given)).1 k here value
        | inr still ↦ apart.no_value b k still here (subst (λ es. IsValuePage shape es k) next.same_places value)
      ];
    }
