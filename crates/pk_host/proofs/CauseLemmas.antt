-- Why a call that asks or lists has no answer.
use Rattle.std.proofs.Common.{◌≡◌, inl, inr, ℕ, ◌≤◌, ◌==◌, List, [], length, Bool, true, false, if◌then◌else◌, nat_lt, Option, Some, None, Result, Ok, Err, IfErr, refl, sym, ap, subst, ◌∙◌, arith}
use Rattle.pk_base.specs.Key.{Key, IsKey, bytes_of}
use Rattle.pk_nvme.{specs.Command.Command, specs.Reply.Reply, specs.declared.opcode.Opcode.TheVariants.Retrieve, specs.declared.opcode.Opcode.TheVariants.List as ListKeys}
use Rattle.pk_nvme.specs.declared.status.TheConstants.{KEY_DOES_NOT_EXIST}
use Rattle.pk_nand.specs.Calls.{Rose}
use Rattle.pk_host.{specs.declared.types.HostError.HostError, specs.Port.PortState, specs.Port.Took, specs.Calls.retrieve_of, specs.Listing.listed_by}
use Rattle.pk_host.specs.declared.types.HostError.TheVariants.{Refused, Port, Memory}
use Rattle.pk_host.specs.Outcomes.{Gives, IsCause, Leaves, list_of, retrieved}
use Rattle.pk_host.proofs.CommandLemmas.{only_fault, keyed_fault, list_by, retrieve_by}

err_same : {X : Type 0} (e f : HostError) → ◌≡◌ {A = Result X HostError} (Err e) (Err f) → e ≡ f
err_same e f h = cc

pub list_cause : (old new : PortState) (from : Key) (page : List Key) (e : HostError) → length (bytes_of from) ≤ 16
    → Gives old new (list_of from) (listed_by page) (Err e) → IsCause old new (listed_by []) e
list_cause old new from page e short (inr fault) = subst (IsCause old new (listed_by [])) (sym (err_same e Port fault.0)) fault.1
list_cause old new from page e short (inl (a, x, is)) =
    elim (a.status == 0) as (λ b. (a.status == 0) ≡ b
    → ◌≡◌ {A = Result Bool HostError} (Err e) (if b then Ok (nat_lt 0 (length page)) else Err (Refused a.status)) → IsCause old new (listed_by []) e) [
      | true ↦ λ z h. absurd (let clash : ◌≡◌ {A = Result Bool HostError} (Err e) (Ok (nat_lt 0 (length page))) = h in cc)
      | false ↦ λ z h. subst (IsCause old new (listed_by [])) (sym (err_same e (Refused a.status) h)) (record {
        reply = a;
        refused = ap (λ b. if b then Ok false else Err (Refused a.status)) z;
        unread = x.unread;
        told = λ m told.
            let s = x.answers m told in only_fault old.shape old.limit s.frames m
            (list_of from) ListKeys refl s.within.alone a s.left refl (list_by old.shape old.limit m from short) (λ own. refl) z s.stepped;
      })
    ] refl is

pub retrieve_cause : (old new : PortState) (k : Key) (size : ℕ) (e : HostError) → IsKey k → Gives old new (retrieve_of k size) retrieved (Err e) → IsCause old new retrieved e
retrieve_cause old new k size e key (inr fault) = subst (IsCause old new retrieved) (sym (err_same e Port fault.0)) fault.1
retrieve_cause old new k size e key (inl (a, x, is)) =
    elim (a.status == 0) as (λ b. (a.status == 0) ≡ b
    → ◌≡◌ {A = Result (Option ℕ) HostError} (Err e) (if b then Ok (Some a.result) else if a.status == KEY_DOES_NOT_EXIST then Ok None else Err (Refused a.status)) → IsCause old new retrieved e) [
      | true ↦ λ z h. absurd (let clash : ◌≡◌ {A = Result (Option ℕ) HostError} (Err e) (Ok (Some a.result)) = h in cc)
      | false ↦ λ z g. elim (a.status == KEY_DOES_NOT_EXIST) as (λ b. (a.status == KEY_DOES_NOT_EXIST) ≡ b
          → ◌≡◌ {A = Result (Option ℕ) HostError} (Err e) (if b then Ok None else Err (Refused a.status)) → IsCause old new retrieved e) [
            | true ↦ λ y h. absurd (let clash : ◌≡◌ {A = Result (Option ℕ) HostError} (Err e) (Ok None) = h in cc)
            | false ↦ λ y h. subst (IsCause old new retrieved) (sym (err_same e (Refused a.status) h)) (record {
              reply = a;
              refused = ap (λ b. if b then Ok (Some a.result) else if a.status == KEY_DOES_NOT_EXIST then Ok None else Err (Refused a.status)) z
                  ∙ ap (λ b. if b then Ok None else Err (Refused a.status)) y;
              unread = x.unread;
              told = λ m told.
                  let s = x.answers m told in keyed_fault old.shape old.limit s.frames m
                  (retrieve_of k size) Retrieve refl s.within.alone a s.left refl (retrieve_by old.shape old.limit m k key s.within.alone size) (λ own. refl) z y s.stepped;
            })
          ] refl g
    ] refl is

pub list_causes : (old new : PortState) (from : Key) (page : List Key) (r : Result Bool HostError) → length (bytes_of from) ≤ 16
    → Gives old new (list_of from) (listed_by page) r → IfErr r (λ e. IsCause old new (listed_by []) e)
list_causes old new from page (Ok b) short h = tt
list_causes old new from page (Err e) short h = list_cause old new from page e short h

rose_before : (a b c : ℕ) → a ≤ b → Rose b c → Rose a c
rose_before a b c h k = omega (arith, h, k)

-- a cause in a later call is one of both
pub caused_later : {X : Type 0} (start old new : PortState) (cs : List Command) (of : Reply → Result X HostError) (e : HostError) → Took start old cs → Leaves start old (λ m. m)
    → IsCause old new of e → IsCause start new of e
caused_later start old new cs of (Refused status) t l h = record {
  reply = h.reply;
  refused = h.refused;
  unread = λ z. rose_before start.read_faults old.read_faults new.read_faults t.read_faults (h.unread z);
  told = λ m told. h.told m (l m told);
}
caused_later start old new cs of Port t l h = rose_before start.port_faults old.port_faults new.port_faults t.port_faults h
caused_later start old new cs of Memory t l h = tt

pub later_causes : {X Y : Type 0} (start old new : PortState) (cs : List Command) (of : Reply → Result Y HostError) (r : Result X HostError) → Took start old cs → Leaves start old (λ m. m)
    → IfErr r (λ e. IsCause old new of e) → IfErr r (λ e. IsCause start new of e)
later_causes start old new cs of (Ok x) t l h = tt
later_causes start old new cs of (Err e) t l h = caused_later start old new cs of e t l h
