-- A command after the lookup of its key.
use Rattle.std.proofs.Common.{◌≡◌, ◌≢◌, ℕ, ◌-◌, ◌≤◌, refl, sym, ap, subst, arith, false, List, [], Option, Some, Result, Ok, Err}
use Rattle.std.specs.Prelude.{OnOk}
use Rattle.pk_base.{specs.Entry.Place, specs.Key.Key, specs.Page.Flash, specs.Shape.charge}
use Rattle.pk_nvme.{specs.Command.Command, specs.Command.key, specs.Opcode.op_of, specs.declared.opcode.Opcode.TheVariants.Retrieve, specs.Seen.command_of, specs.declared.request.Request.Request}
use Rattle.pk_nand.{specs.declared.types.Fault.Fault, specs.BoardState.BoardState}
use Rattle.pk_call.specs.declared.types.Outcome.{Outcome}
use Rattle.pk_parts.{specs.Parts.Parts, specs.Parts.is_half, specs.Parts.most_looks, specs.Agreeing.DriveOnFlash, specs.Quiet.ReadsOnly, specs.Quiet.ReadsFailing, specs.Quiet.Looks}
use Rattle.pk_parts.{specs.Staying.Stays, specs.Staying.StaysOrOpens, specs.Staying.IsNoted, proofs.Staying.stays_opens, proofs.Staying.stays_same}
use Rattle.pk_background.specs.Emptying.{OnRunning}
use Rattle.pk_core.{specs.Done.Executes, specs.Serving.IsServable, specs.Serving.IsCounted, specs.Serving.outcome_for, specs.Programming.ReadsNone, proofs.Came.came_running, proofs.Came.came_served}
use Rattle.pk_core.{specs.LookedUp.IsLookedUp, specs.LookedUp.StoresOver, specs.LookedUp.DeletesAt, proofs.Executing.same_but_walk}
use Rattle.pk_core.{specs.Quiet.OnlyLooks, proofs.Served.does_behind, proofs.Sights.only_reads, proofs.Sights.only_failing, proofs.Callings.few_looked, proofs.Callings.few_failed}
use Rattle.pk_changes.specs.Programming.{PutsQuietly, TakesQuietly, ReadsQuietly}

-- the lookup did not change the drive
pub looked_up : {d : Parts} {old mid : BoardState} {r : Request} {k : Key} {p : Option Place} {before : ℕ} → IsServable d old r → k ≡ key (command_of r []) → before ≡ old.reads
    → Looks d old.pages k p → ReadsOnly old mid (most_looks d) → IsLookedUp d mid r k p before
looked_up {d} {old} {mid} {r} {k} {p} s named is looks made =
    let n : ℕ = mid.reads in
    let here : IsServable d (record old { reads = n }) r =
    record { agrees = s.agrees; runs = s.runs; unworn = s.unworn; passed = s.passed; few_spaces = s.few_spaces; few = s.few; counted = made.few } in
    record {
      servable = subst (λ (b : BoardState). IsServable d b r) (sym made.board) here;
      named = named;
      looks = subst (λ (f : Flash). Looks d f k p) (sym (ap (λ (b : BoardState). b.pages) made.board)) looks;
      since = record { up = (let up = made.up in omega (arith, is, up)); few = (let within = made.within in omega (arith, is, within)) };
    }

-- one that is refused
module _ {d : Parts} {board : BoardState} {k : Key} {o : Outcome} (refused : o.status ≢ 0) where
  pub stores_none : {count : ℕ} → StoresOver d d board board k count o
  stores_none {count} = record {
    half = λ _ none. none;
    finishes = λ zero. absurd (refused zero);
    opens = λ _. stays_opens d d count (stays_same d d refl);
    noted = λ zero. absurd (refused zero);
    programs = λ zero. absurd (refused zero);
    quiet = λ zero. absurd (refused zero);
  }

  pub deletes_none : DeletesAt d d board board k o
  deletes_none = record {
    half = λ _ none. none;
    finishes = λ zero. absurd (refused zero);
    moves = λ _. stays_same d d refl;
    programs = λ zero. absurd (refused zero);
    quiet = λ zero. absurd (refused zero);
  }

-- what holds of a drive that was not stopped holds of one that was served
ok_of : (P : Type 0) (r : Result Unit Fault) → OnRunning P r → OnOk r P
ok_of P (Ok u) is = is
ok_of P (Err e) is = tt

-- one with this result makes no pair half made
module _ (e : Parts) (r : Result Unit Fault) (o : Outcome) (reads : ℕ) (told : o ≡ outcome_for r reads) where
  half_none : OnRunning (is_half e ≡ false) r → o.stopped ≡ false → is_half e ≡ false
  half_none none runs = came_running (λ x. is_half x ≡ false) r e o reads told none runs

  made_whole : OnRunning (is_half e ≡ false) r → o.status ≡ 0 → is_half e ≡ false
  made_whole none zero = came_served (λ x. is_half x ≡ false) r e o reads told (ok_of (is_half e ≡ false) r none) zero

module _ {d e : Parts} {old new : BoardState} {k : Key} (r : Result Unit Fault) {o : Outcome} (reads : ℕ) (told : o ≡ outcome_for r reads) where
  pub stores_came : {len size : ℕ} → len ≡ size → OnRunning (is_half e ≡ false) r → OnRunning (StaysOrOpens d e (charge d.log.shape len)) r → OnOk r (IsNoted e k)
      → (is_half d ≡ false → OnOk r (PutsQuietly d k (charge d.log.shape len) old new))
      → (is_half d ≡ false → OnOk r (ReadsNone d k (charge d.log.shape len) old new)) → StoresOver d e old new k (charge d.log.shape size) o
  stores_came {len} sized none opens noted programs quiet =
      let count = charge d.log.shape len in
      subst (λ (n : ℕ). StoresOver d e old new k (charge d.log.shape n) o) sized (record {
        half = λ runs _. half_none e r o reads told none runs;
        finishes = made_whole e r o reads told none;
        opens = λ runs. came_running (λ x. StaysOrOpens d x count) r e o reads told opens runs;
        noted = λ zero. came_served (λ x. IsNoted x k) r e o reads told noted zero;
        programs = λ zero whole. came_served (λ x. PutsQuietly d k count old new) r e o reads told (programs whole) zero;
        quiet = λ zero whole. came_served (λ x. ReadsNone d k count old new) r e o reads told (quiet whole) zero;
      })

  pub deletes_came : OnRunning (is_half e ≡ false) r → OnRunning (Stays d e) r → (is_half d ≡ false → OnOk r (TakesQuietly d k old new))
      → (is_half d ≡ false → OnOk r (ReadsQuietly d k old new)) → DeletesAt d e old new k o
  deletes_came none moves programs quiet = record {
    half = λ runs _. half_none e r o reads told none runs;
    finishes = made_whole e r o reads told none;
    moves = λ runs. came_running (λ x. Stays d x) r e o reads told moves runs;
    programs = λ zero whole. came_served (λ x. TakesQuietly d k old new) r e o reads told (programs whole) zero;
    quiet = λ zero whole. came_served (λ x. ReadsQuietly d k old new) r e o reads told (quiet whole) zero;
  }

-- ---- the whole command

-- after a lookup it comes to what it comes to from there
pub executes_behind : {d f : Parts} {old mid new : BoardState} {most : ℕ} {c : Command} {into : List ℕ} {o : Outcome}
    → ReadsOnly old mid most → (op_of c.opcode ≡ Some Retrieve → ⊥) → IsCounted mid new
    → o.reads ≡ new.reads - old.reads → Executes d f mid new c o into (new.reads - mid.reads) → Executes d f old new c o into o.reads
executes_behind {d} {f} {into = into} {o = o} made other count told did = record { stops = did.stops; agrees = did.agrees; does = does_behind d f into o made other count told did.does }

-- it changed nothing
module _ {d e : Parts} {old new : BoardState} {most : ℕ} (same : e ≡ d) (a : DriveOnFlash d old.shape old.pages) (less : most ≤ 68) where
  pub only_looked : ReadsOnly old new most → OnlyLooks d e old new
  only_looked made = record { same = same_but_walk d e same; rest = only_reads old new most made; few = few_looked d old new a most less made }

  pub only_unread : ReadsFailing old new most → OnlyLooks d e old new
  only_unread made = record { same = same_but_walk d e same; rest = only_failing old new most made; few = few_failed d old new a most less made }
