-- A List meets the contract of a drive.
use Rattle.std.proofs.Common.{◌≡◌, inl, inr, ℕ, ◌-◌, min, refl, sym, ap, subst, ◌∙◌, Bool, List, [], ◌∷◌, take}
use Rattle.pk_base.{specs.Shape.most_calls, specs.Entry.Entry, specs.Map.keys_from}
use Rattle.pk_nvme.{specs.declared.request.Request.Request, specs.Seen.command_of, specs.Command.Command, specs.Command.key, specs.Opcode.op_of}
use Rattle.pk_nvme.specs.declared.opcode.Opcode.TheVariants.{List as ListKeys}
use Rattle.pk_nand.specs.BoardState.{BoardState}
use Rattle.pk_level.specs.Levels.{RunsOnFlash}
use Rattle.pk_model.{specs.Answer.fitting, specs.Answer.list_bytes, specs.Run.Step, specs.Spaces.in_space}
use Rattle.pk_call.{specs.Seen.reply_of, specs.declared.types.Outcome.Outcome, specs.Calling.FewCalls}
use Rattle.pk_parts.{specs.Parts.Parts, specs.Parts.sight_of, specs.Parts.settled_parts, specs.Parts.terms_of, proofs.Unchanging.for_its_map, proofs.Unchanging.own, proofs.Unchanging.held_own}
use Rattle.pk_core.{specs.Done.Does, specs.Done.Executes, specs.Quiet.OnlyLooks, specs.Quiet.eleven, specs.Serving.IsServable, proofs.Callings.few_of_shape, proofs.Executing.executes_walked}
use Rattle.pk_core.{specs.Listed.first_listed, specs.Listed.ListsInto, specs.Listed.own_keys, proofs.Replies.keys_own, proofs.Replies.keys_listed}
use Rattle.pk_core.proofs.Unchanging.{ReadsWithin, does_still, not_read, ok_sound, served}
use Rattle.pk_parts.specs.Keys.{keys_there}

-- the bytes of a List on these runs
abbrev bytes_on : Parts → Request → List (List Entry) → List ℕ
bytes_on d r ess = list_bytes (fitting (min r.size 65536 - 4) (own_keys r.namespace (keys_there (first_listed (command_of r [])) (d.log.active.entries ∷ d.log.frozen.entries ∷ ess))))

module _ (d : Parts) (old new : BoardState) (r : Request) (o : Outcome) (into : List ℕ) (s : IsServable d old r) (is : r.opcode ≡ 0x06)
    (lists : (ess : List (List Entry)) → RunsOnFlash old.pages d.arena d.levels.runs ess → ListsInto old new o into (bytes_on d r ess)) where
  abbrev c : Command
  c = command_of r []

  abbrev l : ListsInto old new o into (bytes_on d r s.agrees.found.runs)
  l = lists s.agrees.found.runs s.agrees.with.index.stand

  bytes_are : bytes_on d r s.agrees.found.runs ≡ list_bytes (fitting (min c.size 65536 - 4) (keys_from (key c) (in_space c.namespace s.agrees.all)))
  bytes_are = ap (λ ks. list_bytes (fitting (min r.size 65536 - 4) ks))
      (ap (own_keys r.namespace) (keys_listed (settled_parts d) d.log.shape old.pages s.agrees.top s.agrees.found s.agrees.without s.agrees.all (first_listed c) (own d old s.agrees))
      ∙ keys_own d.log.shape s.agrees.all c.namespace (take c.key_len c.key_bytes) (held_own d old s.agrees).is_map)

  stepped : Step d.log.shape (terms_of d) s.agrees.all c (reply_of o into) s.agrees.all
  stepped = elim l.answered [
    | inl read ↦ served d.log.shape (terms_of d) s.agrees.all c s.passed ListKeys eleven (reply_of o into) s.agrees.all refl (ap op_of is) refl refl
        (λ i. record { status = read.0 i; result = l.result_is i; data_bytes = (read.1 ∙ bytes_are) i })
    | inr unread ↦ inr (record { not_early = s.passed; replied = λ i. record { status = unread.0 i; result = l.result_is i; data_bytes = take (unread.1 i) into }; leaves = refl })
  ]

  list_does : Does old new (sight_of d) (sight_of d) c (reply_of o into) o.reads o.stopped
  list_does =
      let other = not_read ListKeys r.opcode (ap op_of is) (λ e. cc) in
      subst (λ (b : Bool). Does old new (sight_of d) (sight_of d) c (reply_of o into) o.reads b) (sym l.runs)
      (does_still old new (sight_of d) c (reply_of o into) o.reads l.board_is l.reads l.up l.flash_up
      (λ status. elim l.answered [ inl read ↦ absurd (ok_sound (sym read.0 ∙ status)) | inr unread ↦ unread.2 ])
      (λ sound. elim l.answered [ inl read ↦ read.2 | inr unread ↦ absurd (sound unread.0) ])
      (for_its_map d old s.agrees (λ x t m. Step x t m c (reply_of o into) m × ReadsWithin x t (sight_of d) m c o.reads) (stepped, (λ e. absurd (other e), λ e. absurd (other e)))))

  pub list_executes : (e : Parts) → e ≡ record d { walk = e.walk } → Executes d e old new c o into o.reads
  list_executes e same = executes_walked d e old new r c o into o.reads s same (ap (λ (b : BoardState). b.pages) l.board_is) l.runs list_does

  pub list_only : (e : Parts) → e ≡ record d { walk = e.walk } → FewCalls (most_calls d.levels.shape) old new → OnlyLooks d e old new
  list_only e same few = record { same = same; rest = l.board_is; few = few_of_shape d old new s.agrees few }
