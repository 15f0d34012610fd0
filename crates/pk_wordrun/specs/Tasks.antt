-- The words that ask a drive: what each says of the map that it finds, and which map it leaves.
use Rattle.std.specs.Prelude.{◌≡◌, ℕ, List, [], ◌∷◌, ◌++◌, Option, Bool, true, false}
use Rattle.pk_base.{specs.Key.Key, specs.Shape.Shape, specs.Page.Flash, specs.Map.Map}
use Rattle.pk_nand.specs.Calls.{Rose}
use Rattle.pk_call.specs.Meter.{Meter}
use Rattle.pk_model.{specs.Reading.Holds, specs.Run.Exchange, specs.Spaces.Terms, specs.Spaces.limit_of, specs.Spaces.limits_at, specs.Spaces.in_space}
use Rattle.pk_gen.specs.Workload.{workload}
use Rattle.pk_port.specs.Asking.{KeptWord}
use Rattle.pk_words.specs.Question.{Question, put, get, delete, has, stat, command_of, QuestionAnswers}
use Rattle.pk_words.specs.Says.{SaysKeys}
use Rattle.pk_wordrun.specs.Summary.{SaysSummary}
use Rattle.pk_nvme.specs.declared.limits.TheConstants.{NAMESPACE}

-- a question, a list of the keys from one on, or a workload from a start, of n commands
pub data Task : Type 0 where
  answer : Question → Task
  list : Option Key → Task
  generate : ℕ → ℕ → Task

-- the questions that only ask
abbrev pub only_asked : Question → Bool
only_asked (put key value) = false
only_asked (get key) = true
only_asked (delete key) = false
only_asked (has key) = true
only_asked stat = true

-- the words that only ask
abbrev pub only_asks : Task → Bool
only_asks (answer q) = only_asked q
only_asks (list from) = true
only_asks (generate begin count) = false

-- What a word says of the first namespace, from map to map, on a drive with these frames and limits, if its commands were answered so and the count
-- of failed reads went from one number to another: that a read failed is said only if it rose.
abbrev pub SaysTask : Task → ℕ → ℕ → Shape → Terms → Map → List Exchange → List ℕ → Map → Type 0
SaysTask (answer q) before behind shape terms m all text m' =
    QuestionAnswers q (Rose before behind) shape (limit_of terms.limits NAMESPACE) terms.frames (in_space NAMESPACE m) text (in_space NAMESPACE m')
SaysTask (list from) before behind shape terms m all text m' =
    SaysKeys from (Rose before behind) shape (limit_of terms.limits NAMESPACE) terms.frames (in_space NAMESPACE m) text (in_space NAMESPACE m')
SaysTask (generate begin count) before behind shape terms m all text m' = SaysSummary shape all text (in_space NAMESPACE m')

-- The map and the limits are unchanged, and what was posted begins a text of the list.
pub record KeptList (from : Option Key) (before behind : ℕ) (shape : Shape) (terms : Terms) (start : Map) (flash : Flash) (posted : List ℕ) : Type 0 where
  pub held : Holds shape flash start
  pub same_limits : limits_at shape flash ≡ terms.limits
  pub text : List ℕ
  pub says : SaysKeys from (Rose before behind) shape (limit_of terms.limits NAMESPACE) terms.frames (in_space NAMESPACE start) text (in_space NAMESPACE start)
  pub unposted : List ℕ
  pub front : posted ++ unposted ≡ text

-- What every cut of a word keeps: the map after a prefix of the word's commands; and if a byte was posted, the map after all of them, and
-- what was posted begins a text that is said of their answers and both maps. A list changes no map.
abbrev pub KeptTask : Task → Meter → Meter → Shape → Terms → Map → Flash → List ℕ → Type 0
KeptTask (answer q) from to shape terms start flash posted =
    KeptWord (SaysTask (answer q) from.read_faults to.read_faults shape terms start) shape terms start (command_of shape q ∷ []) from to flash posted
KeptTask (list key) from to shape terms start flash posted = KeptList key from.read_faults to.read_faults shape terms start flash posted
KeptTask (generate begin count) from to shape terms start flash posted =
    KeptWord (SaysTask (generate begin count) from.read_faults to.read_faults shape terms start) shape terms start (workload begin count) from to flash posted
