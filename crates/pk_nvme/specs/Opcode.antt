-- Opcodes: which command a number means.
use Rattle.std.specs.Prelude.{ℕ, ◌==◌, if◌then◌else◌, Option, Some, None}
use Rattle.pk_nvme.specs.declared.opcode.TheConstants.{FLUSH, STORE, RETRIEVE, LIST, DELETE, EXIST, TICK, REPORT}
use Rattle.pk_nvme.specs.declared.opcode.Opcode.{Opcode}
use Rattle.pk_nvme.specs.declared.opcode.Opcode.TheVariants.{Flush, Store, Retrieve, List, Delete, Exist, Tick, Report}

-- the command with this number, if there is one
abbrev pub op_of : ℕ → Option Opcode
op_of number =
    if number == FLUSH then Some Flush else
    if number == STORE then Some Store else
    if number == RETRIEVE then Some Retrieve else
    if number == LIST then Some List else
    if number == DELETE then Some Delete else
    if number == EXIST then Some Exist else
    if number == TICK then Some Tick else
    if number == REPORT then Some Report else None
