-- What a command leaves of epochs and blocks, by its opcode.
use Rattle.std.proofs.Common.{◌≡◌, inl, refl, ℕ, ◌≤◌, ap, ◌∙◌, ◌==◌, sym, subst, arith, List, true, false}
use Rattle.pk_base.specs.Shape.{charge, most_calls}
use Rattle.pk_nvme.{specs.Command.key, specs.Seen.command_of, specs.declared.request.Request.Request}
use Rattle.pk_nand.specs.BoardState.{BoardState}
use Rattle.pk_call.{specs.Calling.FewCalls, specs.Calling.only_looks, specs.Settling.may_raise, specs.declared.types.Outcome.Outcome}
use Rattle.pk_parts.{specs.Parts.Parts, specs.Parts.sight_of, specs.Parts.is_half, specs.Staying.Stays, specs.Staying.StaysOrOpens, specs.Staying.StaysOrFrees, specs.Staying.IsNoted}
use Rattle.pk_parts.proofs.Staying.{stays_frees}
use Rattle.pk_core.{specs.Programming.QuietStore, specs.Programming.QuietDelete, specs.Performing.Performs, specs.Stepping.Lessens, specs.Quiet.OnlyLooks, proofs.Callings.few_for_looks}
use Rattle.pk_core.{proofs.Callings.few_for_tick, proofs.Sights.apart, proofs.Sights.looks_raises}
use Rattle.pk_background.proofs.Callings.{few_within, few_none}

-- nothing that is seen of it changed
stays_walked : (d e : Parts) → e ≡ record d { walk = e.walk } → Stays d e
stays_walked d e same = subst (λ (x : Parts). Stays d x) (sym same) (record { fresh = record { stays = λ h. h; begun = inl refl }; blocks = record { used = refl; open_same = refl } })

-- nothing was done
pub looks_none : {d : Parts} {board : BoardState} → OnlyLooks d d board board
looks_none = record { same = refl; rest = refl; few = few_within 0 _ _ _ (omega arith) (few_none _) }

module _ {d e : Parts} {old new : BoardState} {r : Request} {v : List ℕ} {o : Outcome} where
  pub performs_looking : (number : ℕ) → only_looks number ≡ true → (number == 0xC0) ≡ false → r.opcode ≡ number → OnlyLooks d e old new → Performs d e old new r v o
  performs_looking number looks other is by =
      let only : only_looks r.opcode ≡ true = ap only_looks is ∙ looks in
      let stays = stays_walked d e by.same in
      record {
        half = λ _ _ none. subst (λ (x : Parts). is_half x ≡ false) (sym by.same) none;
        finishes = λ raises. absurd (looks_raises r only raises);
        fresh = λ _. stays.fresh;
        opens = λ is. absurd (apart only_looks 0x01 false refl r.opcode is only);
        no_more = λ _ _. (stays_frees d e stays).no_more;
        moves = λ _ _ _. stays;
        noted = λ is. absurd (apart only_looks 0x01 false refl r.opcode is only);
        quiet_store = λ is. absurd (apart only_looks 0x01 false refl r.opcode is only);
        quiet_delete = λ is. absurd (apart only_looks 0x10 false refl r.opcode is only);
        calls = few_for_looks d.log.shape r.opcode number r.size other old new is by.few;
        looks = λ _. (ap sight_of by.same, by.rest);
        no_more_work = λ _ _. (let is = ap (λ (x : Parts). (sight_of x).work) by.same in omega (arith, is));
        lessens = λ tick. absurd (apart only_looks 0xC0 false refl r.opcode tick only);
      }

  pub performs_store : r.opcode ≡ 0x01 → (o.stopped ≡ false → is_half d ≡ false → is_half e ≡ false) → (o.status ≡ 0 → is_half e ≡ false)
      → (o.stopped ≡ false → StaysOrOpens d e (charge d.log.shape r.size)) → (o.status ≡ 0 → IsNoted e (key (command_of r v)))
      → QuietStore d old new r v o → FewCalls (most_calls d.log.shape) old new → Performs d e old new r v o
  performs_store is half finishes opens noted quiet calls = record {
    half = λ runs _ none. half runs none;
    finishes = λ _. finishes;
    fresh = λ runs. (opens runs).fresh;
    opens = λ _. opens;
    no_more = λ other. absurd (other is);
    moves = λ other. absurd (other is);
    noted = λ _. noted;
    quiet_store = λ _. quiet;
    quiet_delete = λ delete. absurd (omega (arith, delete, is));
    calls = few_for_looks d.log.shape r.opcode 0x01 r.size refl old new is calls;
    looks = λ only. absurd (apart only_looks 0x01 false refl r.opcode is only);
    no_more_work = λ none. absurd (apart may_raise 0x01 true refl r.opcode is none);
    lessens = λ tick. absurd (omega (arith, is, tick));
  }

  pub performs_delete : r.opcode ≡ 0x10 → (o.stopped ≡ false → is_half d ≡ false → is_half e ≡ false) → (o.status ≡ 0 → is_half e ≡ false)
      → (o.stopped ≡ false → Stays d e) → QuietDelete d old new r o → FewCalls (most_calls d.log.shape) old new → Performs d e old new r v o
  performs_delete is half finishes moves quiet calls = record {
    half = λ runs _ none. half runs none;
    finishes = λ _. finishes;
    fresh = λ runs. (moves runs).fresh;
    opens = λ store. absurd (omega (arith, is, store));
    no_more = λ _ runs. (stays_frees d e (moves runs)).no_more;
    moves = λ _ _ runs. moves runs;
    noted = λ store. absurd (omega (arith, is, store));
    quiet_store = λ store. absurd (omega (arith, is, store));
    quiet_delete = λ _. quiet;
    calls = few_for_looks d.log.shape r.opcode 0x10 r.size refl old new is calls;
    looks = λ only. absurd (apart only_looks 0x10 false refl r.opcode is only);
    no_more_work = λ none. absurd (apart may_raise 0x10 true refl r.opcode is none);
    lessens = λ tick. absurd (omega (arith, is, tick));
  }

  pub performs_tick : r.opcode ≡ 0xC0 → (o.stopped ≡ false → StaysOrFrees d e) → FewCalls r.size old new
      → (o.stopped ≡ false → (sight_of e).work ≤ (sight_of d).work) → (o.status ≡ 0 → Lessens d e r.size)
      → Performs d e old new r v o
  performs_tick is moves calls no_more lessens = record {
    half = λ _ no_tick. absurd (no_tick is);
    finishes = λ raises. absurd (apart may_raise 0xC0 false refl r.opcode is raises);
    fresh = λ runs. (moves runs).fresh;
    opens = λ store. absurd (omega (arith, is, store));
    no_more = λ _ runs. (moves runs).no_more;
    moves = λ _ no_tick. absurd (no_tick is);
    noted = λ store. absurd (omega (arith, is, store));
    quiet_store = λ store. absurd (omega (arith, is, store));
    quiet_delete = λ delete. absurd (omega (arith, is, delete));
    calls = few_for_tick d.log.shape r.opcode r.size is old new calls;
    looks = λ only. absurd (apart only_looks 0xC0 false refl r.opcode is only);
    no_more_work = λ _. no_more;
    lessens = λ _. lessens;
  }
