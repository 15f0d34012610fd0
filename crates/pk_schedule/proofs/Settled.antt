-- An index that is whole is unchanged, and what a step of one leaves.
use Rattle.std.proofs.Common.{◌≡◌, inl, ℕ, ◌-◌, refl, sym, ap, subst, ◌∙◌, arith, ◌||◌, ◌==◌, [], length, nat_le, Ok}
use Rattle.pk_base.{specs.Shape.Shape, specs.Map.Map, specs.Page.Page, specs.Page.Flash, specs.Page.page_in, specs.Refusal.ensure, proofs.Logic.ok_same}
use Rattle.pk_rootfmt.specs.Root.{Root}
use Rattle.pk_jrnfmt.specs.Epoch.{epoch}
use Rattle.pk_pool.{specs.declared.state.BlockState.BlockState, specs.Blocks.Blocks, specs.Blocks.NoneLeaves, specs.Blocks.with_state, specs.Blocks.freed, specs.Blocks.freed_state}
use Rattle.pk_pool.proofs.Leaving.{freed_same, freed_set, none_leaves}
use Rattle.pk_nand.specs.BoardState.{BoardState}
use Rattle.pk_model.{specs.Found.Found, specs.Found.found_under, specs.Growth.Reaches, specs.Crashes.CrashFinds, specs.Crashes.background, proofs.StrangePages.bind_ok, specs.RootLimits.root_spaces}
use Rattle.pk_schedule.{specs.Index.Index, specs.Index.IndexOnFlash, specs.Index.IsSettled, specs.Index.settled, specs.Steps.KeepsValues, specs.Steps.MayWork, specs.Steps.IndexMoves}
use Rattle.pk_law_steps.{specs.Under.IsUnder, proofs.FrozenNext.no_blocks, proofs.FourRuns.pieces_of}

-- no block leaves, also if one has another owner or is erased
pub none_leaves_set : (p : Blocks) (b : ℕ) (s : BlockState) → freed_state s ≡ s → NoneLeaves p → NoneLeaves (with_state p b s)
none_leaves_set p b s same none =
    subst NoneLeaves (freed_set p b s ∙ (λ i. with_state (freed_same p none i) b (same i))) (none_leaves (with_state p b s))

pub settled_same : (x : Index) → IsSettled x → settled x ≡ x
settled_same x is = λ i. record x { pool = freed_same x.pool is.none_leaves i }

pub stands_settled : (x : Index) (frames : ℕ) (flash : Flash) (top : ℕ × Root) (found : Found) → IsSettled x → IndexOnFlash x frames flash top found → IndexOnFlash (settled x) frames flash top found
stands_settled x frames flash top found is stands = subst (λ (y : Index). IndexOnFlash y frames flash top found) (sym (settled_same x is)) stands

pub values_settled : (x : Index) (shape : Shape) (pool : Blocks) (old new : Flash) → IsSettled x → KeepsValues shape pool old x.pool new → KeepsValues shape pool old (freed x.pool) new
values_settled x shape pool old new is keeps = subst (λ (p : Blocks). KeepsValues shape pool old p new) (sym (freed_same x.pool is.none_leaves)) keeps

-- a step that leaves the index whole, under the same root
pub whole_moves : (x : Index) (frames : ℕ) (old : BoardState) (top : ℕ × Root) (found : Found) (m : Map) → MayWork x frames old.pages top found m → (x' : Index) (new : BoardState) → IsSettled x'
    → IndexOnFlash x' frames new.pages top found → x'.log.shape ≡ x.log.shape → x'.log.root ≡ x.log.root → x'.log.pending ≡ [] → IsUnder x.log.shape new.pages [] top found m
    → KeepsValues x.log.shape x.pool old.pages x'.pool new.pages → Reaches x.log.shape old new (CrashFinds x.log.shape background old.pages m) → IndexMoves x frames old found m x' new
whole_moves x frames old top found m may x' new settles stands same_shape same_root none_pending under values cuts = record {
  then_top = top;
  then_found = found;
  stands = stands_settled x' frames new.pages top found settles stands;
  ends = inl settles;
  same_shape = same_shape;
  none_pending = none_pending;
  under = under;
  same_places = refl;
  values = values_settled x' x.log.shape x.pool old.pages new.pages settles values;
  begins = inl same_root;
  numbers = (let same = ap (λ (r : Root). r.number) same_root in omega (arith, same));
  grows = inl (under.is_top ∙ sym may.under.is_top);
  cuts = cuts;
}

-- ---- the older epoch, which has no entries if it is not named

pub older_read : (shape : Shape) (at : ℕ → Page) (root : Root) (found : Found) → found_under shape at root ≡ Ok found → epoch shape (root_spaces shape root) at (root.epoch - 1) root.older ≡ Ok found.older
older_read shape at root found is =
    let read = bind_ok _ _ found.older (pieces_of shape at root found is).older in
    let tested = bind_ok (ensure (length root.older == 0 || nat_le 1 (length read.0)) (page_in shape root.older 0)) _ found.older read.2 in
    read.1 ∙ tested.2

pub none_there : (shape : Shape) (at : ℕ → Page) (root : Root) (found : Found) → found_under shape at root ≡ Ok found → root.older ≡ [] → found.older ≡ []
none_there shape at root found is none = ok_same found.older []
    (sym (older_read shape at root found is) ∙ ap (epoch shape (root_spaces shape root) at (root.epoch - 1)) none ∙ no_blocks shape (root_spaces shape root) at (root.epoch - 1))
