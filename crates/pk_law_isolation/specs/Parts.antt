-- The maps of a drive's namespaces as a list, and what a command is answered on that list.
use Rattle.std.specs.Prelude.{◌≡◌, ℕ, zero, suc, ◌+◌, ◌-◌, ◌<◌, List, [], ◌∷◌, length, slice_index_or, slice_set, Bool, true, false, ◌==◌, if◌then◌else◌, Option, Some, None}
use Rattle.std.specs.FinMap.{empty}
use Rattle.pk_base.{specs.Shape.Shape, specs.Map.Map}
use Rattle.pk_nvme.{specs.declared.limits.TheConstants.ALL_NAMESPACES, specs.declared.opcode.Opcode.Opcode, specs.Opcode.op_of, specs.Command.Command, specs.Reply.Reply, specs.Reply.refusal}
use Rattle.pk_nvme.specs.declared.status.TheConstants.{INVALID_COMMAND_OPCODE, INVALID_NAMESPACE_OR_FORMAT}
use Rattle.pk_model.{specs.Spaces.Terms, specs.Answer.is_namespace, specs.Answer.Answer}
use Rattle.pk_law_isolation.specs.Isolation.{map_alone, terms_alone, command_alone}

-- the maps of n namespaces from this one on, each as the map of a drive that has it alone
abbrev pub space_maps_from : ℕ → ℕ → Map → List Map
space_maps_from space zero m = []
space_maps_from space (suc n) m = map_alone space m ∷ space_maps_from (space + 1) n m

-- the maps of all of a drive's namespaces
abbrev pub space_maps : Terms → Map → List Map
space_maps terms m = space_maps_from 1 (length terms.limits) m

-- the namespace in which a command is answered: the first if it names all of them
abbrev pub answering_space : Command → ℕ
answering_space c = if c.namespace == ALL_NAMESPACES then 1 else c.namespace

-- It is answered by the map of its namespace and that namespace's limit, as a drive answers that has the namespace alone; the other maps are unchanged.
pub record AnsweredIn (shape : Shape) (terms : Terms) (ms : List Map) (c : Command) (a : Reply) (ms' : List Map) : Type 0 where
  pub left : Map
  pub answer : Answer shape (terms_alone terms (answering_space c)) (slice_index_or ms (answering_space c - 1) empty) (command_alone c) a left
  pub others : ms' ≡ slice_set ms (answering_space c - 1) left

-- a status alone, and the maps are unchanged
abbrev pub IsRefused : ℕ → List Map → Reply → List Map → Type 0
IsRefused status ms a ms' = (a ≡ refusal status) × (ms' ≡ ms)

-- by whether the command may name its namespace on this drive
abbrev pub AnsweredIf : Shape → Terms → List Map → Command → Reply → List Map → Bool → Type 0
AnsweredIf shape terms ms c a ms' true = AnsweredIn shape terms ms c a ms'
AnsweredIf shape terms ms c a ms' false = IsRefused INVALID_NAMESPACE_OR_FORMAT ms a ms'

-- no command has the opcode; or the command may not name its namespace; or it is answered in its namespace
abbrev pub AnswerBy : Shape → Terms → List Map → Command → Reply → List Map → Option Opcode → Type 0
AnswerBy shape terms ms c a ms' None = IsRefused INVALID_COMMAND_OPCODE ms a ms'
AnswerBy shape terms ms c a ms' (Some op) =
    AnsweredIf shape terms ms c a ms' (is_namespace (length terms.limits) op c.namespace)

-- what a command is answered on a list of maps, and which list it leaves
abbrev pub AnswerIn : Shape → Terms → List Map → Command → Reply → List Map → Type 0
AnswerIn shape terms ms c a ms' = AnswerBy shape terms ms c a ms' (op_of c.opcode)

-- what is answered on the map is what is answered on the list of its parts
abbrev pub AnsweredInParts : Type 0
AnsweredInParts =
    (shape : Shape) (terms : Terms) (m m' : Map) (c : Command) (a : Reply) → length terms.limits < ALL_NAMESPACES → Answer shape terms m c a m' → AnswerIn shape terms (space_maps terms m) c a (space_maps terms m')
