-- What a drive does in one namespace is what a drive does that has this namespace alone.
use Rattle.std.specs.Prelude.{◌≡◌, ℕ, ◌≤◌, List, [], ◌∷◌, length, take, ◌==◌, if◌then◌else◌, Option, Some}
use Rattle.std.specs.FinMap.{entries, from_sorted}
use Rattle.pk_base.{specs.Key.Key, specs.Key.bytes_of, specs.Shape.Shape, specs.Map.Map}
use Rattle.pk_nvme.{specs.declared.opcode.Opcode.Opcode, specs.declared.opcode.Opcode.TheVariants.Report, specs.Opcode.op_of, specs.Command.Command, specs.Reply.Reply}
use Rattle.pk_model.{specs.Spaces.Terms, specs.Spaces.one_space, specs.Spaces.limit_of, specs.Spaces.in_space, specs.Run.Run, specs.Run.Exchange, specs.Run.commands, specs.Run.faults}

-- ---- one namespace of a map as the map of a drive that has it alone

-- the key of namespace 1 with these bytes
abbrev pub key_in_first : Key → Key
key_in_first k = 1 ∷ bytes_of k

-- entries with namespace 1 in place of their own
abbrev pub entries_moved : List (Key × List ℕ) → List (Key × List ℕ)
entries_moved [] = []
entries_moved (e ∷ es) = (key_in_first e.0, e.1) ∷ entries_moved es

-- the map of a drive that has this namespace alone
abbrev pub map_alone : ℕ → Map → Map
map_alone space m = from_sorted (entries_moved (entries (in_space space m)))

-- what that drive has: as many frames, and one namespace with the same limit
abbrev pub terms_alone : Terms → ℕ → Terms
terms_alone terms space = one_space terms.frames (limit_of terms.limits space)

-- ---- the commands of one namespace

-- the command with namespace 1 in place of its own
abbrev pub command_alone : Command → Command
command_alone c = record c { namespace = 1 }

-- those of these commands that are in the namespace, with namespace 1 in its place
abbrev pub commands_of_space : ℕ → List Command → List Command
commands_of_space space [] = []
commands_of_space space (c ∷ cs) = if c.namespace == space then command_alone c ∷ commands_of_space space cs else commands_of_space space cs

-- the same with their replies
abbrev pub exchanges_in : ℕ → List Exchange → List Exchange
exchanges_in space [] = []
exchanges_in space (x ∷ xs) =
    if x.command.namespace == space
    then record x { command = command_alone x.command } ∷ exchanges_in space xs
    else exchanges_in space xs

-- ---- replies, but for the numbers of the drive's own

-- of the data of a Report the first five numbers
abbrev pub told_reply : Option Opcode → Reply → Reply
told_reply (Some Report) a = record a { data_bytes = take 20 a.data_bytes }
told_reply _ a = a

abbrev pub told_replies : List Exchange → List Reply
told_replies [] = []
told_replies (x ∷ xs) = told_reply (op_of x.command.opcode) x.reply ∷ told_replies xs

-- ---- laws

-- Whatever is done in the other namespaces, the commands of one namespace are a run of a drive that has it alone, with the very same replies.
abbrev pub Isolated : Type 0
Isolated =
    (shape : Shape) (terms : Terms) (space : ℕ) (m m' : Map) (xs : List Exchange) → 1 ≤ space → space ≤ length terms.limits → Run shape terms m xs m'
    → Run shape (terms_alone terms space) (map_alone space m) (exchanges_in space xs) (map_alone space m') × (commands (exchanges_in space xs) ≡ commands_of_space space (commands xs))

-- two runs of the same commands from the same map without read errors
abbrev pub Fixed : Type 0
Fixed =
    (shape : Shape) (terms : Terms) (m m' m'' : Map) (xs ys : List Exchange) → Run shape terms m xs m' → Run shape terms m ys m'' → commands xs ≡ commands ys
    → faults xs ≡ 0 → faults ys ≡ 0 → (told_replies xs ≡ told_replies ys) × (m' ≡ m'')

-- So, without read errors, the replies to the commands of a namespace are those of every run of a drive that has it alone, whatever is done in the
-- other namespaces.
abbrev pub SameReplies : Type 0
SameReplies =
    (shape : Shape) (terms : Terms) (space : ℕ) (m m' left : Map) (xs ys : List Exchange) → 1 ≤ space → space ≤ length terms.limits
    → Run shape terms m xs m' → faults xs ≡ 0 → Run shape (terms_alone terms space) (map_alone space m) ys left → commands ys ≡ commands_of_space space (commands xs) → faults ys ≡ 0
    → told_replies (exchanges_in space xs) ≡ told_replies ys
