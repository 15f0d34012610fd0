-- A command is taken, entry and value.
use Rattle.std.proofs.Common.{◌≡◌, ◌≢◌, ℕ, List, [], ◌++◌, length, sym, ◌∙◌, ap, subst, arith, length-append, ◌==◌, if◌then◌else◌, Bool, Option, Some, nat_le, inl}
use Rattle.pk_base.{specs.Shape.Shape, specs.Page.Flash, specs.Map.Map}
use Rattle.pk_nvme.{specs.Command.Command, specs.Command.command, specs.Seen.command_of as command_seen, specs.declared.request.Request.Request}
use Rattle.pk_nand.{specs.BoardState.BoardState, specs.BoardState.shape_or_none, specs.Calls.Rose, specs.Calls.put_back}
use Rattle.pk_model.{specs.Wear.root_number, specs.Wear.is_worn, specs.Script.value_follows as value_bytes, specs.Run.Exchange, specs.Spaces.Terms}
use Rattle.pk_call.{specs.Sight.Sight, specs.Exec.IsValue}
use Rattle.pk_serve.{specs.Serving.Serving, specs.Serving.CommandServed, specs.Serving.CommandStops, specs.declared.end.End.End, specs.Ends.IsFault, proofs.Serves.Serving-inputs}
use Rattle.pk_serve.specs.Input.{TookFailed, Entered, Valued, NoValue, InputAdvances, InputFails, BreaksOff, FailsAt, NoEntry, Quits}
use Rattle.pk_serve.{proofs.Scripts.taken-append, proofs.Scripts.Spells-one, proofs.Scripts.IsPart-value, proofs.Entering.input_too, proofs.Entering.failed_too, proofs.Entering.both_too}

-- the bytes of the value, by the entry and by the request
value_size : (entry : List ℕ) (r : Request) → ((v : List ℕ) → command_seen r v ≡ command entry v) → value_bytes entry ≡ (if r.opcode == 0x01 then r.size else 0)
value_size entry r parsed =
    let opcode : r.opcode ≡ (command entry []).opcode = ap (λ (c : Command). c.opcode) (parsed []) in
    let size : r.size ≡ (command entry []).size = ap (λ (c : Command). c.size) (parsed []) in
    sym (λ k. if opcode k == 0x01 then size k else 0)

module _ (a m b : BoardState) (before : Sight) (same : m ≡ record a { input = m.input }) where
  serving_too : (shape : Shape) (terms : Terms) (start : Map) (s : BoardState) (held : List ℕ) (all : List Exchange) (map : Map)
      → Serving shape terms start s a before held all map → Serving shape terms start s m before held all map
  serving_too shape terms start s held all map w =
      subst (λ x. Serving shape terms start s x before held all map) (sym same) (Serving-inputs shape terms start s a before held all map w m.input a.in_faults)

  serves_too : (after : Sight) (held now_held : List ℕ) (taken : ℕ) (c : Command) → CommandServed m b before after held now_held taken c → CommandServed a b before after held now_held taken c
  serves_too after held now_held taken c h shape terms start s all map size w = h shape terms start s all map size (serving_too shape terms start s held all map w)

  stops_too : (held : List ℕ) (taken : ℕ) (end : End) (c : Command) → CommandStops m b before held taken end c → CommandStops a b before held taken end c
  stops_too held taken end c h shape terms start s all map size w = h shape terms start s all map size (serving_too shape terms start s held all map w)

module _ (a m n : BoardState) (entry : List ℕ) (entered : Entered a m entry) (size : length entry ≡ 64) (r : Request) (parsed : (v : List ℕ) → command_seen r v ≡ command entry v) where
  module _ (shape : Shape) (handed : List ℕ) (valued : Valued m n shape r.opcode r.size handed) (b : BoardState) (before : Sight) (held : List ℕ) (taken : ℕ) (same : b.input ≡ n.input) where
    taken_all : a.input ≡ put_back (entry ++ valued.value) b.input
    taken_all = taken-append a.input m.input n.input entry valued.value entered.input valued.input ∙ ap (put_back (entry ++ valued.value)) (sym same)

    pub InputAdvances-one : (after : Sight) (now_held : List ℕ)
        → ((v : List ℕ) → IsValue shape r.opcode r.size handed v → CommandServed n b before after held now_held taken (command_seen r v)) → InputAdvances a b before after held now_held taken
    InputAdvances-one after now_held serves = record {
      bytes = entry ++ valued.value;
      c = command_seen r valued.value;
      input = taken_all;
      spells = Spells-one entry valued.value (command_seen r valued.value) size (valued.whole ∙ sym (value_size entry r parsed)) (parsed valued.value);
      serves = serves_too a n b before (input_too a m n entered.rest valued.rest) after held now_held taken (command_seen r valued.value) (serves valued.value valued.is_value);
    }

    pub InputFails-one : (end : End) → IsFault end
        → ((v : List ℕ) → IsValue shape r.opcode r.size handed v → CommandStops n b before held taken end (command_seen r v)) → InputFails a b before held taken end
    InputFails-one end fault stops = record {
      bytes = entry ++ valued.value;
      c = command_seen r valued.value;
      input = taken_all;
      spells = Spells-one entry valued.value (command_seen r valued.value) size (valued.whole ∙ sym (value_size entry r parsed)) (parsed valued.value);
      fault = fault;
      stops = stops_too a n b before (input_too a m n entered.rest valued.rest) held taken end (command_seen r valued.value) (stops valued.value valued.is_value);
    }

  some_entry : (more : List ℕ) → entry ++ more ≢ []
  some_entry more e = absurd (omega (arith, ap (λ l. length l) e, length-append entry more, size))

  pub BreaksOff-value : NoValue m n r.opcode r.size → BreaksOff a n
  BreaksOff-value h = record {
    part = entry ++ h.bytes;
    left = record {
      input = taken-append a.input m.input n.input entry h.bytes entered.input h.input;
      is_part = IsPart-value entry h.bytes size (omega (arith, h.few, value_size entry r parsed));
      rest = both_too a n (input_too a m n entered.rest h.rest);
    };
    some = some_entry h.bytes;
    same = ap (λ s. s.in_faults) (input_too a m n entered.rest h.rest);
    at_end = h.at_end;
  }

  pub FailsAt-value : TookFailed m n (if r.opcode == 0x01 then r.size else 0) → FailsAt a n
  FailsAt-value h = record {
    part = entry ++ h.bytes;
    left = record {
      input = taken-append a.input m.input n.input entry h.bytes entered.input h.input;
      is_part = IsPart-value entry h.bytes size (omega (arith, h.few, value_size entry r parsed));
      rest = failed_too a m n entered.rest h.rest;
    };
    rose = subst (λ k. Rose k n.in_faults) (ap (λ s. s.in_faults) entered.rest) h.rose;
  }

-- a drive that reports of its flash whether it is worn
pub worn_is : (agrees : Option Shape → Flash → Type 0) (board : BoardState) (shape : Shape) (worn : Bool) → board.shape ≡ Some shape → agrees board.shape board.pages
    → ((s : Shape) (f : Flash) → agrees (Some s) f → worn ≡ nat_le 9223372036854775808 (root_number s f)) → worn ≡ is_worn board
worn_is agrees board shape worn has ok told =
    told shape board.pages (rw has at ok) ∙ ap (λ s. nat_le 9223372036854775808 (root_number (shape_or_none s) board.pages)) (sym has)

-- no entry was taken
pub Quits-entry : (a b : BoardState) (drive : Sight) (held : List ℕ) (taken : ℕ) (end : End) (worn : Bool) → worn ≡ is_worn a → NoEntry a b worn end → Quits a b drive held taken end
Quits-entry a b drive held taken end worn is n =
    inl (rw is at n)
