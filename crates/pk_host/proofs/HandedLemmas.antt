-- What is passed with a command, and the room that it needs.
use Rattle.std.proofs.Common.{◌≡◌, ℕ, ◌<◌, ◌^◌, sym, ap, subst, ◌∙◌, arith, List, length, Option, Some}
use Rattle.pk_base.{specs.Fields.AreBytes, specs.Key.bytes_of, specs.declared.sizes.TheConstants.KEY_BYTES}
use Rattle.pk_nvme.{specs.declared.opcode.Opcode.Opcode, specs.declared.request.Request.Request, specs.Seen.command_of, specs.Command.Command, specs.Command.IsWhole, specs.Command.key}
use Rattle.pk_nvme.specs.declared.opcode.Opcode.TheVariants.{Retrieve, List as ListKeys}
use Rattle.pk_model.proofs.HeldMap.{bytes-take}
use Rattle.pk_host.{specs.Good.IsHanded, specs.Port.room_for}

-- what a command needs of the buffer is below 2^32 bytes
pub room_small : (size : ℕ) (o : Option Opcode) → size < 2 ^ 32 → room_for size o < 2 ^ 32
room_small size (Some Retrieve) h = h
room_small size (Some ListKeys) h = h
room_small size _ h = omega arith

-- a request's place of 16 bytes, and a value
pub handed_so : (r : Request) (c : Command) (value : List ℕ) → command_of r value ≡ c → length r.key ≡ KEY_BYTES → AreBytes r.key → AreBytes value → IsWhole c → IsHanded c
handed_so r c value e size keys bytes whole = record {
  place_size = ap (λ (x : Command). length x.key_bytes) (sym e) ∙ size;
  key_bytes = subst (λ (x : Command). AreBytes (bytes_of (key x))) e (bytes-take r.key_len r.key keys);
  value_bytes = subst (λ (x : Command). AreBytes x.value) e bytes;
  whole = whole;
}
