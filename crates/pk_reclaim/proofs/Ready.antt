-- A step can be made if the space of a drive matches a flash.
use Rattle.std.proofs.Common.{◌≡◌, inl, inr, ℕ, ◌+◌, ◌-◌, ◌*◌, ◌<◌, refl, sym, ap, subst, ◌∙◌, arith, true, false, T, List, [], ◌∷◌, ◌++◌, length, reverse, Option, Some, None}
use Rattle.std.{specs.Prelude.MatchOption, specs.FinMap.Entries.is_sorted, proofs.lemmas.List.FromFn.length-map-range_with_len}
use Rattle.pk_base.{specs.Key.Key, specs.Key.key_cmp, specs.Shape.Shape, specs.Shape.page_count, specs.Shape.data_blocks, specs.Page.Flash, specs.Page.IsFlash, specs.Entry.Entry, specs.Entry.Place}
use Rattle.pk_base.{specs.Map.Map, proofs.KeyLemmas.firsts_sorted}
use Rattle.pk_plan.specs.declared.owner.Owner.TheVariants.{Values as for_values}
use Rattle.pk_buf.specs.Table.{Table}
use Rattle.pk_pool.specs.Blocks.{Blocks, used_by}
use Rattle.pk_rootfmt.specs.Root.{Root}
use Rattle.pk_model.specs.Found.{Found}
use Rattle.pk_law_steps.specs.Under.{places}
use Rattle.pk_live.{specs.Lives.head_of, specs.declared.open_block.OpenBlock.OpenBlock}
use Rattle.pk_gc.{specs.declared.course.Course.Course, specs.declared.course.Phase.Phase, specs.declared.moves.Move.Move, specs.State.JobState, specs.State.source, specs.Copied.IsCopied}
use Rattle.pk_gc.specs.declared.course.Phase.TheVariants.{Idle, Copies, Commits, GivesBack}
use Rattle.pk_gc.{specs.Victims.IsFull, specs.Victims.HoldsValues, specs.Victims.AreDead, specs.Going.AreHeld, specs.Ending.CanGive, proofs.Going.next_is_value, proofs.Ending.gives_up}
use Rattle.pk_gc.specs.Stepping.{Hands, CanStep, CanGoOn}
use Rattle.pk_values.{specs.State.ValuesState, specs.Placed.IsOpenIn}
use Rattle.pk_reclaim.{specs.Hands.hands_of, specs.Space.ReclaimParts, specs.Space.SpaceOnFlash, specs.Space.MayReclaim, specs.Space.IsTurn, specs.Space.reclaim_parts}
use Rattle.pk_reclaim.proofs.Known.{keys_known, rising_known, values_known, live_few, heads_known, apart_known}
use Rattle.pk_log.specs.State.{LogState}

-- ---- the open block

open_held : (shape : Shape) (pool : Blocks) (flash : Flash) (o : Option OpenBlock)
    → MatchOption o (Unit {0}) (λ x. IsOpenIn shape pool flash x) → MatchOption o (Unit {0}) (λ x. HoldsValues pool x.block)
open_held shape pool flash None is = tt
open_held shape pool flash (Some o) is = is.owned

open_below : (shape : Shape) (pool : Blocks) (flash : Flash) (n : ℕ) (o : Option OpenBlock) → n ≡ shape.blocks
    → MatchOption o (Unit {0}) (λ x. IsOpenIn shape pool flash x) → MatchOption o (Unit {0}) (λ x. x.block < n)
open_below shape pool flash n None size is = tt
open_below shape pool flash n (Some o) size is = let exists = is.exists in omega (arith, exists, size)

-- ---- a space, in a phase of its reclaim

abbrev pub job_in : LogState → List Move → List Entry → List ℕ → Phase → JobState
job_in log moves entries page phase = record { shape = log.shape; phase = phase; moves = moves; entries = entries; page = page }

abbrev pub space_in : LogState → ValuesState → Blocks → List Move → List Entry → List ℕ → Phase → ReclaimParts
space_in log values pool moves entries page phase = reclaim_parts log values pool (job_in log moves entries page phase)

module _ (log : LogState) (values : ValuesState) (pool : Blocks) (moves : List Move) (entries : List Entry) (page : List ℕ) (flash : Flash) (top : ℕ × Root) (found : Found) (m : Map) where
  abbrev job : Phase → JobState
  job phase = job_in log moves entries page phase

  abbrev there : Phase → ReclaimParts
  there phase = space_in log values pool moves entries page phase

  abbrev pub hands : Hands
  hands = hands_of values pool log.active log.epoch

  abbrev pub es : List (Key × Place)
  es = places found []

  no_turn : true ≡ false → ⊥
  no_turn e = cc

  pub used_is : IsTurn (there Idle) → used_by for_values pool.states ≡ data_blocks log.shape - 1
  used_is (inl runs) = absurd (no_turn (sym runs))
  used_is (inr is) = is

  is_full : MayReclaim (there Idle) flash top found m → IsFull log.shape values.live values.open_block pool
  is_full may =
      let placed = may.stands.placed in
      record {
        is_shape = placed.is_shape;
        block_pages_is = placed.block_pages_is;
        closed_size = placed.closed_size ∙ sym placed.size;
        full = used_is may.turn;
        none_leaves = may.stands.none_leaves;
        within = live_few log.shape flash top found m may.stands.under values pool [] placed;
        closed = λ b held other. placed.owned_closed b held other (λ none. none);
        closed_owned = λ b closed. (placed.closed_owned b closed).0;
        open_owned = open_held log.shape pool flash values.open_block placed.open_is;
      }

  module _ (c : Course) (stands : SpaceOnFlash (there (Copies c)) flash top found m) where
    pub are_held : IsFlash log.shape flash → AreHeld log.shape flash es values.live.heads
    are_held is_flash = record {
      is_flash = is_flash;
      rising = rising_known found;
      are_keys = keys_known log.shape flash top.1 found stands.under.is_found;
      are_places = stands.placed.places;
      apart = apart_known log.shape es stands.placed.apart;
      heads_are = heads_known log.shape values pool (c.output ∷ []) flash es stands.placed;
      read = values_known log.shape flash top found m stands.under;
    }

    -- if no value remains to be copied
    module _ (whole : c.left ≡ 0) (dead : AreDead values.live.heads (source log.shape c) (c.victim * log.shape.block_pages + log.shape.block_pages)) where
      pub is_copied : IsCopied log.shape c moves page values.live.heads flash es
      is_copied = record {
        runs = stands.reclaim.stands.runs;
        whole = whole;
        rising = rising_known found;
        are_places = stands.placed.places;
        heads_are = heads_known log.shape values pool (c.output ∷ []) flash es stands.placed;
        none_unseen = dead;
      }

      pub can_give : CanGive log.shape c (job (Copies c)) hands flash es
      can_give = record {
        copied = is_copied;
        values_apart = apart_known log.shape es stands.placed.apart;
        block_pages_is = stands.placed.block_pages_is;
        heads_size = ap length stands.placed.heads_are ∙ length-map-range_with_len (head_of log.shape es) 0 (page_count log.shape);
        table_rising = subst (λ (t : Table). T (is_sorted key_cmp t.entries)) (sym stands.logs.active_is) (firsts_sorted (reverse (found.newest ++ log.pending)));
        closed = stands.reclaim.stands.closed;
        owned = (stands.placed.closed_owned c.victim stands.reclaim.stands.closed).0;
        open_exists = open_below log.shape pool flash (length values.live.closed) values.open_block stands.placed.closed_size stands.placed.open_is;
      }

    can_go_on : IsFlash log.shape flash → CanGoOn c (job (Copies c)) hands flash
    can_go_on is_flash = record {
      es = es;
      runs = stands.reclaim.stands.runs;
      no_half = stands.half;
      next = λ whole at low high live dead. next_is_value log.shape c moves page values.live.heads flash es at stands.reclaim.stands.runs
          (are_held is_flash) stands.reclaim.stands.sparse whole low high live dead;
      end = λ whole dead. gives_up log.shape c (job (Copies c)) hands flash es (can_give whole dead);
    }

  pub can_step_in : (phase : Phase) → IsFlash log.shape flash → MayReclaim (there phase) flash top found m → CanStep (job phase) hands flash
  can_step_in Idle is_flash may = is_full may
  can_step_in (Copies c) is_flash may = can_go_on c may.stands is_flash
  can_step_in (Commits victim) is_flash may = (may.stands.half.former, may.stands.half.can)
  can_step_in (GivesBack victim) is_flash may = (for_values, may.stands.placed.outputs_are.owned victim (inl refl))
