-- What a named line asks for, and the entry that it gives.
use Rattle.std.specs.Prelude.{ℕ, ◌%◌, ◌^◌, List, [], length}
use Rattle.pk_nvme.{specs.declared.limits.TheConstants.NAMESPACE, specs.Command.key_or_none, specs.Seen.entry_of}
use Rattle.pk_nvme.specs.declared.opcode.TheConstants.{FLUSH, STORE, RETRIEVE, LIST, DELETE, EXIST, TICK, REPORT}
use Rattle.pk_base.{specs.declared.sizes.TheConstants.KEY_BYTES, specs.Fields.padded, specs.Key.bytes_of}
use Rattle.pk_asm.specs.declared.form.Form.{Form}
use Rattle.pk_asm.specs.declared.form.Form.TheVariants.{Store, Retrieve, Delete, Exist, ListFrom, Flush, Report, Tick}

-- the entry of this number, in namespace 1, with these fields and zeros everywhere else
unfoldable pub entry_with : ℕ → ℕ → List ℕ → ℕ → ℕ → List ℕ
entry_with number opcode key size options =
    entry_of (record { opcode = opcode; cid = number % 2 ^ 16; namespace = NAMESPACE; key_len = length key; key = padded KEY_BYTES key; size = size; options = options })

-- the entry of this number that a form gives; a field that it does not name is 0
abbrev pub form_entry : ℕ → Form → List ℕ
form_entry number (Store key size options) = entry_with number STORE (bytes_of key) size options
form_entry number (Retrieve key size) = entry_with number RETRIEVE (bytes_of key) size 0
form_entry number (Delete key) = entry_with number DELETE (bytes_of key) 0 0
form_entry number (Exist key) = entry_with number EXIST (bytes_of key) 0 0
form_entry number (ListFrom from size) = entry_with number LIST (bytes_of (key_or_none from)) size 0
form_entry number Flush = entry_with number FLUSH [] 0 0
form_entry number Report = entry_with number REPORT [] 0 0
form_entry number (Tick steps) = entry_with number TICK [] steps 0
