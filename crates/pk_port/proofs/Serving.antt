-- What a command that was served leaves of a drive on its board, and what it reports to a host.
use Rattle.std.proofs.Common.{◌≡◌, ◌≢◌, inl, inr, ℕ, ◌+◌, ◌≤◌, ◌<◌, ◌^◌, refl, sym, ap, subst, ◌∙◌, arith, List, [], length, take, Bool, true, false, ◌==◌, nat_le, Option, Some}
use Rattle.std.{proofs.lemmas.Bool.eqb-true, proofs.lemmas.Bool.eqb-false, proofs.lemmas.Bool.Decides.nat_tests, proofs.lemmas.List.length-take-le}
use Rattle.pk_base.{specs.Shape.Shape, specs.Page.Flash, specs.Map.Map}
use Rattle.pk_nvme.{specs.Command.Command, specs.Reply.Reply}
use Rattle.pk_nand.{specs.BoardState.BoardState, specs.BoardState.shape_of, specs.BoardState.shape_or_none, specs.Calls.Rose, specs.Effects.OnlyFlash, specs.Effects.OnlyReading}
use Rattle.pk_call.{specs.Calling.only_looks, specs.Drive.HoldsMap, specs.Sight.Sight, specs.Exec.most_installs, specs.Exec.IsValue, specs.Meter.reads_after}
use Rattle.pk_model.{specs.Reading.reading, specs.Reading.Holds, specs.Spaces.Terms, specs.Spaces.limits_at, specs.Spaces.limit_of, specs.Spaces.in_space}
use Rattle.pk_model.{specs.Wear.root_number, specs.Wear.roots, specs.Wear.is_worn, proofs.Growing.went_limits}
use Rattle.pk_serve.{specs.Port.StepCut, specs.Port.Submitted, specs.Port.Submits, specs.Port.SubmitStops, proofs.Limiting.limits_some, proofs.Limiting.limits_held}
use Rattle.pk_host.{specs.Good.IsGoodMap, specs.Good.IsHanded, specs.Port.IsWithin, specs.Port.PortSteps, specs.Port.Replies, specs.Port.room_of, proofs.LeftLemmas.good_left}
use Rattle.pk_host.proofs.DataLemmas.{data_fit}
use Rattle.pk_port.{specs.Ready.Ready, specs.Ready.Fits, specs.Steps.mount, specs.Steps.seen, specs.Steps.Serves, specs.Steps.Fails, specs.declared.halt.Halt.TheVariants.Stopped}
use Rattle.pk_port.{proofs.Isolating.first_step, proofs.Isolating.others_left, proofs.Stepping.part_of, proofs.Stepping.part_held}

-- what is passed, of a board of this shape
pub value_on : (shape : Shape) (board : BoardState) (opcode size : ℕ) (handed value : List ℕ)
    → board.shape ≡ Some shape → IsValue shape opcode size handed value → IsValue (shape_of board) opcode size handed value
value_on shape board opcode size handed value has h = subst (λ (s : Shape). IsValue s opcode size handed value) (sym (ap shape_or_none has)) h

-- what a drive says of its roots is said of the board that it agrees with
pub unworn_on : (agrees : Option Shape → Flash → Type 0) (shape : Shape) (board : BoardState) (worn : Bool) → board.shape ≡ Some shape → agrees board.shape board.pages
    → ((s : Shape) (f : Flash) → agrees (Some s) f → worn ≡ nat_le 9223372036854775808 (root_number s f)) → worn ≡ false → is_worn board ≡ false
unworn_on agrees shape board worn has agreed says not_worn =
    ap (λ o. nat_le 9223372036854775808 (root_number (shape_or_none o) board.pages)) has ∙ (sym (says shape board.pages (rw has at agreed)) ∙ not_worn)

-- the limits of a drive on a board of this shape
pub mounted_limits : (shape : Shape) (board : BoardState) (drive : Sight) → board.shape ≡ Some shape → limits_at shape board.pages ≡ (mount board drive).terms.limits
mounted_limits shape board drive has = sym (ap (λ s. limits_at (shape_or_none s) board.pages) has)

-- the frames and the limits of a drive on its board
pub mounted_terms : (shape : Shape) (terms : Terms) (board : BoardState) (drive : Sight) (m : Map) → HoldsMap shape terms board drive m → (mount board drive).terms ≡ terms
mounted_terms shape terms board drive m stands = λ k. record { frames = stands.frames_is k; limits = limits_held shape terms board drive m stands k }

module _ (agrees : Option Shape → Flash → Type 0) (shape : Shape) (old : BoardState) (d : Sight) (ready : Ready agrees shape old d) where
  -- the flash holds the map
  pub ready_holds : Holds shape old.pages ready.map
  ready_holds = rw ready.none at ready.stands.map_is

  -- it has at least one namespace
  pub some_limit : 1 ≤ length (mount old d).terms.limits
  some_limit = subst (λ (limits : List ℕ). 1 ≤ length limits) (mounted_limits shape old d ready.stands.shape_is) (limits_some shape old.pages [] ready.map ready_holds)

  abbrev first_limit : ℕ
  first_limit = limit_of (mount old d).terms.limits 1

  module _ (new : BoardState) (e : Sight) (c : Command) where
    -- ---- a command that was served

    module _ (rep : Reply) (reads : ℕ) (submits : Submits old new d e c rep reads) where
      abbrev done : Submitted shape (mount old d).terms old new d e ready.map c rep reads
      done = submits shape (mount old d).terms ready.map ready.stands ready.none

      -- the frames and the limits are the same
      same_terms : (mount new e).terms ≡ (mount old d).terms
      same_terms = mounted_terms shape (mount old d).terms new e done.left done.stands

      good_first : IsHanded c → c.namespace ≡ 1 → IsGoodMap shape first_limit (in_space 1 done.left)
      good_first handed first = elim (first_step shape (mount old d).terms some_limit c first ready.map rep done.left done.stepped) [
        | inl answer ↦ subst (λ (m : Map). IsGoodMap shape first_limit m) (sym answer.leaves) (good_left shape first_limit (in_space 1 ready.map) c ready.good handed)
        | inr fault ↦ subst (λ (m : Map). IsGoodMap shape first_limit m) (sym fault.leaves) ready.good
      ]

      good_other : c.namespace ≢ 1 → IsGoodMap shape first_limit (in_space 1 done.left)
      good_other other = subst (λ (m : Map). IsGoodMap shape first_limit m) (sym (others_left shape (mount old d).terms c other ready.map rep done.left done.stepped)) ready.good

      good_now : IsHanded c → IsGoodMap shape first_limit (in_space 1 done.left)
      good_now handed = elim (c.namespace == 1) as (λ b. (c.namespace == 1) ≡ b → IsGoodMap shape first_limit (in_space 1 done.left)) [
        | true ↦ λ is. good_first handed (eqb-true c.namespace 1 is)
        | false ↦ λ other. good_other (eqb-false c.namespace 1 other)
      ] refl

      -- the drive is ready again
      pub fits_again : (agrees' : Option Shape → Flash → Type 0) → IsHanded c → agrees' new.shape new.pages → e.pending ≡ [] → Fits agrees' shape new e
      fits_again agrees' handed agreed none = record {
        shape_is = done.stands.shape_is;
        ready = λ going. record {
          agreed = agreed;
          none = none;
          map = done.left;
          stands = subst (λ (t : Terms). HoldsMap shape t new e done.left) (sym same_terms) done.stands;
          good = subst (λ (t : Terms). IsGoodMap shape (limit_of t.limits 1) (in_space 1 done.left)) (sym same_terms) (good_now handed);
        };
      }

      pub serves_so : d.stopped ≡ false → e.stopped ≡ false → is_worn old ≡ false → OnlyFlash old new → (only_looks c.opcode ≡ true → OnlyReading old new)
          → old.read_faults ≤ new.read_faults → (rep.status ≡ 0x88 → Rose old.read_faults new.read_faults) → (rep.status ≢ 0x88 → new.read_faults ≡ old.read_faults) → new.stop_faults ≡ old.stop_faults
          → new.reads ≡ reads_after old.reads reads → roots new ≤ roots old + most_installs c.opcode c.size
          → Serves shape (mount old d) (mount new e) c (record { command = c; reply = rep; reads = reads })
      serves_so going goes_on unworn rest looks up unread sound no_stop read few = record {
        runs = record { going = going; unworn = unworn };
        is = refl;
        map = ready.map;
        held = ready_holds;
        its_limits = mounted_limits shape old d ready.stands.shape_is;
        left = done.left;
        step = (done.stepped, done.bounded);
        holds = done.holds;
        reached = done.reached;
        metered = record { reads = read; failed = unread; sound = sound; unworn = (let h : nat_le 9223372036854775808 (roots old) ≡ false = unworn in grind (arith, nat_tests)); installs = few };
        up = up;
        no_stop = no_stop;
        looks = looks;
        rest = rest;
        new_is = λ k. record { board = new; stopped = (goes_on ∙ sym going) k; terms = same_terms k };
      }

      within : (before : ℕ) → IsWithin (seen shape (mount old d) before) (in_space 1 ready.map)
      within before = record { sized = ready.good.sized; alone = ready.good.alone; few = ready.good.few }

      pub replies_so : rep.status < 256 → rep.result < 2 ^ 32 → (rep.status ≡ 0x88 → Rose old.read_faults new.read_faults)
          → c.namespace ≡ 1 → (before behind : ℕ) → Replies (seen shape (mount old d) before) (seen shape (mount new e) behind) c rep
      replies_so small field unread first before behind = record {
        status_size = small;
        result_size = field;
        answers = λ m told.
            let same = part_held (reading shape old.pages []) ready.map m ready_holds told in
            subst (λ (x : Map). PortSteps (seen shape (mount old d) before) (seen shape (mount new e) behind) c rep x) same (record {
              within = within before;
              frames = d.counts.frames;
              frames_is = refl;
              left = in_space 1 done.left;
              stepped = first_step shape (mount old d).terms some_limit c first ready.map rep done.left done.stepped;
              told = ap part_of done.holds;
            });
        unread = unread;
      }

      -- the data have room in the buffer that was asked for
      pub data_so : length rep.data_bytes ≤ room_of c
      data_so = elim done.stepped [
        | inl answer ↦ subst (λ (a : Reply). length a.data_bytes ≤ room_of c) (sym answer.replied) (data_fit shape (mount old d).terms ready.map answer.own answer.eleven c)
        | inr fault ↦ subst (λ (a : Reply). length a.data_bytes ≤ room_of c) (sym fault.replied) (omega arith)
      ]

    -- ---- a command that stopped the drive

    pub fails_so : SubmitStops old new d c → d.stopped ≡ false → e.stopped ≡ true → is_worn old ≡ false → OnlyFlash old new → (only_looks c.opcode ≡ true → OnlyReading old new)
        → old.read_faults ≤ new.read_faults → Rose old.stop_faults new.stop_faults → Fails shape (mount old d) (mount new e) c Stopped
    fails_so stops going stopped unworn rest looks up stop =
        let went_now = stops shape (mount old d).terms ready.map ready.stands ready.none in inl (
          refl,
          record {
            runs = record { going = going; unworn = unworn };
            map = ready.map;
            held = ready_holds;
            its_limits = mounted_limits shape old d ready.stands.shape_is;
            went = went_now;
            stopped = stopped;
            same_limits =
                sym (mounted_limits shape new e (ap (λ b. b.shape) rest ∙ ready.stands.shape_is))
                ∙ went_limits shape old new (StepCut shape (mount old d).terms.limits ready.map c) ready.stands.shape_is went_now
                ∙ mounted_limits shape old d ready.stands.shape_is;
            stop = stop;
            up = up;
            looks = looks;
            rest = rest;
          },
        )

-- data at the start of a buffer, n bytes
pub front_few : (len : ℕ) (into : List ℕ) (most : ℕ) → len ≤ length into → length (take len into) ≤ most → len ≤ most
front_few len into most fits few = omega (arith, length-take-le len into fits, few)
