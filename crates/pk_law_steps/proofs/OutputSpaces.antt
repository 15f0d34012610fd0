-- The output of a merge is of namespaces of the drive.
use Rattle.std.proofs.Common.{◌≡◌, ℕ, zero, suc, ◌-◌, Bool, true, false, ◌==◌, T, List, [], ◌∷◌, ◌++◌, reverse, filter, cond, Ok, is_some, if◌then◌else◌}
use Rattle.std.{specs.Prelude.slice_index_or, specs.List.AllByRecursion}
use Rattle.pk_base.{specs.Shape.Shape, specs.Page.Page, specs.Entry.Entry}
use Rattle.pk_space.specs.Entries.{in_spaces}
use Rattle.pk_meta.specs.Over.{over, kept_at}
use Rattle.pk_rootfmt.specs.Root.{Root}
use Rattle.pk_model.{specs.RootLimits.root_spaces, specs.Found.Found, specs.Found.found_under, specs.Tree.run_at}
use Rattle.pk_model.proofs.Entries.{AllFound, IsInSpaces, all_append, all_reverse, all_firsts, all_in_spaces, found_in_spaces}
use Rattle.pk_law_steps.specs.Merging.{source_of, output_of}

module _ (P : Entry → Type 0) where
  all_filtered : (p : Entry → Bool) (es : List Entry) → AllByRecursion P es → AllByRecursion P (filter p es)
  all_filtered p [] all = tt
  all_filtered p (e ∷ es) all = elim (p e) as (λ b. AllByRecursion P (cond b (e ∷ filter p es) (filter p es))) [ true ↦ (all.0, all_filtered p es all.1) | false ↦ all_filtered p es all.1 ]

  all_at_index : (ess : List (List Entry)) (i : ℕ) → AllByRecursion (AllByRecursion P) ess → AllByRecursion P (slice_index_or ess i [])
  all_at_index [] i all = tt
  all_at_index (es ∷ ess) zero all = all.0
  all_at_index (es ∷ ess) (suc i) all = all_at_index ess i all.1

  all_kept : (level : ℕ) (es : List Entry) → AllByRecursion P es → AllByRecursion P (kept_at level es)
  all_kept level es all = elim (level == 4) as (λ b. AllByRecursion P (if b then filter (λ e. is_some e.1) es else es)) [ true ↦ all_filtered (λ e. is_some e.1) es all | false ↦ all ]

  all_source : (level : ℕ) (found : Found) → AllFound P found → AllByRecursion P (source_of level found)
  all_source level found all = elim (level == 1) as (λ b. AllByRecursion P (if b then reverse found.older else run_at found.runs (level - 1))) [
    | true ↦ all_reverse P found.older all.older
    | false ↦ all_at_index found.runs (level - 1 - 1) all.runs
  ]

  all_output : (level : ℕ) (found : Found) → AllFound P found → AllByRecursion P (output_of level found)
  all_output level found all =
      all_kept level (over (source_of level found) (run_at found.runs level))
      (all_firsts P (source_of level found ++ run_at found.runs level)
      (all_append P (source_of level found) (run_at found.runs level) (all_source level found all) (all_at_index found.runs (level - 1) all.runs)))

pub output_in_spaces : (shape : Shape) (at : ℕ → Page) (root : Root) (found : Found) (level : ℕ) → found_under shape at root ≡ Ok found → T (in_spaces (root_spaces shape root) (output_of level found))
output_in_spaces shape at root found level is =
    all_in_spaces (root_spaces shape root) (output_of level found) (all_output (IsInSpaces (root_spaces shape root)) level found (found_in_spaces shape at root found is))
