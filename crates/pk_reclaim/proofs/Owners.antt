-- A block that is for values changes its state, and the journal and runs keep theirs.
use Rattle.std.proofs.Common.{◌≡◌, inl, inr, ℕ, ◌*◌, ◌/◌, ◌<◌, refl, sym, ap, subst, ◌∙◌, arith, Bool, true, false, cond, Some}
use Rattle.std.{specs.Prelude.slice_get, proofs.lemmas.Option.same_Some, proofs.lemmas.Bool.cases_eq}
use Rattle.pk_base.{specs.Shape.Shape, specs.Page.Flash, specs.Page.page_at}
use Rattle.pk_plan.specs.declared.owner.Owner.{Owner}
use Rattle.pk_plan.specs.declared.owner.Owner.TheVariants.{Journal, Meta, Values as for_values}
use Rattle.pk_rootfmt.specs.Root.{Root}
use Rattle.pk_pool.{specs.declared.state.BlockState.BlockState, proofs.Leaving.freed_same, proofs.Leaving.freed_set, proofs.Leaving.none_leaves, proofs.Sharing.count-set, proofs.States.get-set_other}
use Rattle.pk_pool.specs.declared.state.BlockState.TheVariants.{Free, Ready, Owned}
use Rattle.pk_pool.specs.Blocks.{Blocks, IsSpare, NoneLeaves, freed_state, is_owned_by, used_by, with_state}
use Rattle.pk_model.specs.Laws.{AnyByRecursion}
use Rattle.pk_values.specs.Placed.{HoldsValues}
use Rattle.pk_reclaim.{specs.Steps.KeepsOthers, proofs.Quiet.NamesOwned, proofs.Quiet.IsAside}

-- the blocks of the journal and of runs are the same ones, and if no block leaves, none does
pub record SameOwners (pool pool' : Blocks) : Type 0 where
  pub shape_is : pool'.shape ≡ pool.shape
  pub journal : (b : ℕ) → slice_get pool.states b ≡ Some (Owned Journal) → slice_get pool'.states b ≡ Some (Owned Journal)
  pub journal_used : used_by Journal pool'.states ≡ used_by Journal pool.states
  pub meta : (b : ℕ) → slice_get pool.states b ≡ Some (Owned Meta) → slice_get pool'.states b ≡ Some (Owned Meta)
  pub meta_used : used_by Meta pool'.states ≡ used_by Meta pool.states
  pub none_leaves : NoneLeaves pool → NoneLeaves pool'

pub owners_same : (pool : Blocks) → SameOwners pool pool
owners_same pool = record { shape_is = refl; journal = λ b is. is; journal_used = refl; meta = λ b is. is; meta_used = refl; none_leaves = λ none. none }

-- the state is none of the owner's
abbrev IsNone : Owner → BlockState → Type 0
IsNone o s = is_owned_by o s ≡ false

other_owner : (o : Owner) (s : BlockState) → IsNone o s → is_owned_by o (Owned o) ≡ true → s ≡ Owned o → ⊥
other_owner o s none own same = let both : is_owned_by o s ≡ true = ap (is_owned_by o) same ∙ own in cc

module _ (pool : Blocks) (b : ℕ) (s t : BlockState) (here : slice_get pool.states b ≡ Some s) where
  abbrev then : Blocks
  then = with_state pool b t

  keeps : (o : Owner) → is_owned_by o (Owned o) ≡ true → IsNone o s → (c : ℕ) → slice_get pool.states c ≡ Some (Owned o) → slice_get then.states c ≡ Some (Owned o)
  keeps o own none c is = elim (cases_eq c b) [
    | inl same ↦ absurd (other_owner o s none own (same_Some s (Owned o) (sym here ∙ ap (λ (x : ℕ). slice_get pool.states x) (sym same) ∙ is)))
    | inr other ↦ get-set_other pool.states b c t other ∙ is
  ]

  counts : (o : Owner) → IsNone o s → IsNone o t → used_by o then.states ≡ used_by o pool.states
  counts o was now =
      let all = count-set (is_owned_by o) pool.states b s t here in
      let before : ◌≡◌ {A = ℕ} (cond (is_owned_by o s) 1 0) 0 = ap (λ (x : Bool). cond x 1 0) was in
      let behind : ◌≡◌ {A = ℕ} (cond (is_owned_by o t) 1 0) 0 = ap (λ (x : Bool). cond x 1 0) now in
      omega (arith, all, before, behind)

  none_leaves_then : freed_state t ≡ t → NoneLeaves pool → NoneLeaves then
  none_leaves_then same none = subst NoneLeaves (freed_set pool b t ∙ (λ i. with_state (freed_same pool none i) b (same i))) (none_leaves then)

  owners_set : IsNone Journal s → IsNone Meta s → IsNone Journal t → IsNone Meta t → freed_state t ≡ t → SameOwners pool then
  owners_set j m j' m' stays = record {
    shape_is = refl;
    journal = keeps Journal refl j;
    journal_used = counts Journal j j';
    meta = keeps Meta refl m;
    meta_used = counts Meta m m';
    none_leaves = none_leaves_then stays;
  }

-- a spare block is taken for values, or one of values freed
pub owners_taken : (pool : Blocks) (b : ℕ) → IsSpare pool b → SameOwners pool (with_state pool b (Owned for_values))
owners_taken pool b (inl free) = owners_set pool b Free (Owned for_values) free refl refl refl refl refl
owners_taken pool b (inr ready) = owners_set pool b Ready (Owned for_values) ready refl refl refl refl refl

pub owners_given : (pool : Blocks) (b : ℕ) → HoldsValues pool b → SameOwners pool (with_state pool b Free)
owners_given pool b held = owners_set pool b (Owned for_values) Free held refl refl refl refl refl

-- ---- blocks aside

pub spare_aside : (pool : Blocks) (b : ℕ) → IsSpare pool b → IsAside pool b
spare_aside pool b (inl free) = record { no_journal = λ is. cc; no_meta = λ is. cc }
spare_aside pool b (inr ready) = record { no_journal = λ is. cc; no_meta = λ is. cc }

pub held_aside : (pool : Blocks) (b : ℕ) → HoldsValues pool b → IsAside pool b
held_aside pool b held = record { no_journal = λ is. cc; no_meta = λ is. cc }

-- ---- the root names the same owners

pub names_stay : (pool pool' : Blocks) (root : Root) → SameOwners pool pool' → NamesOwned pool root → NamesOwned pool' root
names_stay pool pool' root same names = record { journal = λ b is. same.journal b (names.journal b is); runs = λ b is. same.meta b (names.runs b is) }

-- if neither a root page nor one of theirs differs
pub others_kept : (shape : Shape) (root : Root) (pool : Blocks) (old : Flash) (pool' : Blocks) (new : Flash) → SameOwners pool pool'
    → ((k : ℕ) → k < 2 * shape.block_pages → page_at new k ≡ page_at old k)
    → ((k : ℕ) → slice_get pool.states (k / shape.block_pages) ≡ Some (Owned Meta) → page_at new k ≡ page_at old k)
    → ((k : ℕ) → slice_get pool.states (k / shape.block_pages) ≡ Some (Owned Journal) → (AnyByRecursion (λ b. k / shape.block_pages ≡ b) root.newest → ⊥) → page_at new k ≡ page_at old k)
    → KeepsOthers shape root pool old pool' new
others_kept shape root pool old pool' new same low meta journal = record {
  shape_is = same.shape_is;
  journal = same.journal;
  journal_used = same.journal_used;
  meta = same.meta;
  meta_used = same.meta_used;
  low = low;
  meta_pages = meta;
  journal_pages = journal;
}
