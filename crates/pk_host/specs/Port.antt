-- Ports: what a host sees of a drive that it hands one command after another.
use Rattle.std.specs.Prelude.{◌≡◌, ◌⊎◌, ℕ, ◌≤◌, ◌<◌, ◌^◌, List, [], ◌∷◌, length, take, Option, Some, None}
use Rattle.std.specs.Option.{IfSome}
use Rattle.pk_base.{specs.Shape.Shape, specs.Map.Map, specs.Map.IsMap, specs.Map.live}
use Rattle.pk_nvme.{specs.declared.sizes.TheConstants.REPORT_BYTES, specs.declared.limits.TheConstants.NAMESPACE, specs.declared.opcode.Opcode.Opcode, specs.Opcode.op_of, specs.Command.Command}
use Rattle.pk_nvme.specs.declared.opcode.Opcode.TheVariants.{Retrieve, List as ListKeys, Report}
use Rattle.pk_nvme.{specs.declared.status.TheConstants.UNRECOVERED_ERROR, specs.Reply.Reply, specs.Reply.completion}
use Rattle.pk_nand.specs.Calls.{Rose}
use Rattle.pk_model.{specs.Answer.map_after, specs.Run.Step, specs.Spaces.one_space, specs.Spaces.in_space}
use Rattle.pk_host.specs.declared.types.Completed.{Completed}

-- the map of the namespace in which commands are passed, if it is known; the shape of the drive, the namespace's limit of live pages and the page
-- frames, if their number is known; and the counts of failed calls and failed reads
pub record PortState : Type 0 where
  pub map : Option Map
  pub shape : Shape
  pub limit : ℕ
  pub frames : Option ℕ
  pub port_faults : ℕ
  pub read_faults : ℕ

-- a map of the drive's shape, of this namespace alone, and its values are within the limit
pub record IsWithin (p : PortState) (m : Map) : Type 0 where
  pub sized : IsMap p.shape m
  pub alone : in_space NAMESPACE m ≡ m
  pub few : live p.shape m ≤ p.limit

-- ---- one command

-- the bytes of the buffer that a command needs: for a prefix, for keys, for sixteen numbers
abbrev pub room_for : ℕ → Option Opcode → ℕ
room_for size (Some Retrieve) = size
room_for size (Some ListKeys) = size
room_for size (Some Report) = REPORT_BYTES
room_for size _ = 0

abbrev pub room_of : Command → ℕ
room_of c = room_for c.size (op_of c.opcode)

-- from this map on: the reply is that of the definition, and so is the map afterwards
pub record PortSteps (old new : PortState) (c : Command) (a : Reply) (m : Map) : Type 0 where
  pub within : IsWithin old m
  pub frames : ℕ
  pub frames_is : IfSome old.frames (λ f. frames ≡ f)
  pub left : Map
  pub stepped : Step old.shape (one_space frames old.limit) m c a left
  pub told : new.map ≡ Some left

-- the command was answered so
pub record Replies (old new : PortState) (c : Command) (a : Reply) : Type 0 where
  pub status_size : a.status < 256
  pub result_size : a.result < 2 ^ 32
  pub answers : (m : Map) → old.map ≡ Some m → PortSteps old new c a m
  pub unread : a.status ≡ UNRECOVERED_ERROR → Rose old.read_faults new.read_faults

-- the completion entry of that answer after some number of entries, and its data at the start of the buffer
pub record Completes (old new : PortState) (c : Command) (done : Completed) (into : List ℕ) : Type 0 where
  pub head : ℕ
  pub reply : Reply
  pub entry : done.entry ≡ completion c.cid head reply.status reply.result
  pub fits : done.data_len ≤ length into
  pub front : reply.data_bytes ≡ take done.data_len into
  pub replies : Replies old new c reply

-- ---- commands one after another

-- the map after some of these commands, in their order
abbrev pub LeftBySome : Shape → ℕ → Map → List Command → Map → Type 0
LeftBySome shape most m [] m' = m' ≡ m
LeftBySome shape most m (c ∷ cs) m' = LeftBySome shape most m cs m' ⊎ LeftBySome shape most (map_after shape (most ∷ []) m c) cs m'

-- what is unchanged, and what may have changed, if these commands took a port to another
pub record Took (old new : PortState) (cs : List Command) : Type 0 where
  pub shape : new.shape ≡ old.shape
  pub limit : new.limit ≡ old.limit
  pub port_faults : old.port_faults ≤ new.port_faults
  pub read_faults : old.read_faults ≤ new.read_faults
  pub untold : old.map ≡ None → new.map ≡ None
  pub told : (m : Map) → old.map ≡ Some m → (m' : Map) × (new.map ≡ Some m') × LeftBySome old.shape old.limit m cs m'
