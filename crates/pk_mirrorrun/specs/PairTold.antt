-- What a word of a pair did to both boards, from the opened drives on.
use Rattle.std.specs.Prelude.{◌≡◌, ◌≢◌, ◌⊎◌, ℕ, ◌+◌, ◌*◌, ◌≤◌, List, [], ◌∷◌, ◌++◌, Option, Some, None, true, false}
use Rattle.std.specs.FinMap.{len}
use Rattle.pk_base.{specs.Shape.Shape, specs.Page.Flash, specs.Map.Map}
use Rattle.pk_nand.{specs.BoardState.BoardState, specs.Calls.Rose, specs.Calls.longer, specs.Operations.after_post, specs.Operations.PostFailed}
use Rattle.pk_nvme.{specs.Command.Command, specs.declared.limits.TheConstants.NAMESPACE}
use Rattle.pk_model.{specs.Growth.Goes, specs.Spaces.limits_at, specs.Spaces.limit_of, specs.Spaces.in_space, specs.Reading.Holds, specs.Run.Exchange}
use Rattle.pk_model.specs.Wear.{is_worn, roots}
use Rattle.pk_call.specs.Sight.{Sight}
use Rattle.pk_port.{specs.Steps.Mounted, specs.Steps.Standing, specs.Steps.Serves, specs.Steps.Chain, specs.Steps.seen, specs.declared.halt.Halt.Halt}
use Rattle.pk_words.specs.Lines.{failed_line}
use Rattle.pk_wordrun.{specs.Ends.end_of, specs.Told.KeepsInput, specs.declared.end.WordEnd.WordEnd}
use Rattle.pk_wordrun.specs.declared.end.WordEnd.TheVariants.{Done, Output, Flash as FlashFailed, Worn}
use Rattle.pk_mirror.specs.Causes.{NotEmpty}
use Rattle.pk_mirrorwords.{specs.PairTasks.PairTask, specs.PairTasks.map_left, specs.PairTasks.text_of, specs.PairAnswers.AreOfWord, specs.PairAnswers.AreOfSecond, specs.PairAnswers.AreWholeOfSecond, specs.PairAnswers.AsksAllOfSecond}

-- a read of either drive failed
abbrev pub EitherUnread : BoardState → BoardState → BoardState → BoardState → Type 0
EitherUnread a b c d = Rose a.read_faults b.read_faults ⊎ Rose c.read_faults d.read_faults

-- what a word says, on a drive with these limits: it asks the first namespace
abbrev pub text_by : Shape → List ℕ → PairTask → Map → List ℕ
text_by shape limits task m = text_of shape (limit_of limits NAMESPACE) task (in_space NAMESPACE m)

-- all namespaces but the first are the same
abbrev pub KeepsOtherSpaces : Map → Map → Type 0
KeepsOtherSpaces old new = (space : ℕ) → space ≢ NAMESPACE → in_space space new ≡ in_space space old

-- the flash holds a map of which the first namespace is this part, and the others are those of another map
abbrev pub HoldsPart : Shape → Flash → Map → Map → Type 0
HoldsPart shape flash part other = (m : Map) × Holds shape flash m × (in_space NAMESPACE m ≡ part) × KeepsOtherSpaces other m

-- the limit of the first namespace of a flash
abbrev pub first_limit : Shape → Flash → ℕ
first_limit shape flash = limit_of (limits_at shape flash) NAMESPACE

-- commands of this kind, one after another, took a port to another
abbrev pub Walk : Shape → (List Command → Type 0) → Standing → Standing → Type 0
Walk shape Are p q = (cs : List Command) × Are cs × Chain shape p cs q

-- At least one command took each of two ports to another, and the second was asked for all that differed.
pub record BothWalked (task : PairTask) (shape : Shape) (p p' q q' : Standing) : Type 0 where
  pub first : Walk shape NotEmpty p p'
  pub second : Walk shape NotEmpty q q'
  pub whole : Walk shape (AsksAllOfSecond task (seen shape p.on p.faults) (seen shape q.on q.faults)) q q'

-- how a word ends when a drive halted, the first or else the second
abbrev pub end_by : Option Halt → Option Halt → Option WordEnd
end_by None None = None
end_by None (Some halt) = Some (end_of halt)
end_by (Some halt) second = Some (end_of halt)

-- the board posted this text, or its output failed
abbrev pub PostsText : BoardState → BoardState → List ℕ → WordEnd → Type 0
PostsText old new text Done = new ≡ after_post old text
PostsText old new text Output = PostFailed old new text
PostsText old new text FlashFailed = ⊥
PostsText old new text Worn = ⊥

-- a drive that is not stopped, on a board of this shape that holds a map
pub record IsServing (shape : Shape) (board : BoardState) (drive : Sight) : Type 0 where
  pub shape_is : board.shape ≡ Some shape
  pub runs : drive.stopped ≡ false
  pub map : Map
  pub holds : Holds shape board.pages map

-- ---- at every cut

-- The first drive holds its map or the one after the word, within these limits. What was posted begins the text of the word, and the drive holds
-- the map after it if a byte was posted; or it begins the line that says that a read failed, and one did.
pub record KeptFirst (task : PairTask) (failed : Type 0) (shape : Shape) (limits : List ℕ) (m : Map) (flash : Flash) (posted : List ℕ) : Type 0 where
  pub held : Holds shape flash m ⊎ Holds shape flash (map_left shape limits task m)
  pub same_limits : limits_at shape flash ≡ limits
  pub said :
      (posted ≡ [])
      ⊎ ((Holds shape flash (map_left shape limits task m) × ((rest : List ℕ) × (posted ++ rest ≡ text_by shape limits task m)))
      ⊎ (failed × ((rest : List ℕ) × (posted ++ rest ≡ failed_line))))

-- The second, which held m, holds a map that differs from it in the first namespace alone, within these limits, and nothing is posted on it.
pub record KeptSecond (shape : Shape) (limits : List ℕ) (m : Map) (flash : Flash) (posted : List ℕ) : Type 0 where
  pub map : Map
  pub held : Holds shape flash map
  pub others : KeepsOtherSpaces m map
  pub same_limits : limits_at shape flash ≡ limits
  pub silent : posted ≡ []

-- ---- the commands that began

-- These commands were served one after another, and nothing else was done: each began on a drive that was neither stopped nor worn.
abbrev pub EachServed : Shape → Mounted → List Command → Mounted → Type 0
EachServed shape old [] new = new ≡ old
EachServed shape old (c ∷ cs) new = (mid : Mounted) × (x : Exchange) × Serves shape old mid c x × EachServed shape mid cs new

-- From one state of a board to a later one commands of this kind were served, and none of them began on a worn drive.
pub record ServedUnworn (Are : List Command → Type 0) (shape : Shape) (a b : BoardState) : Type 0 where
  pub asked : List Command
  pub are : Are asked
  pub before : Mounted
  pub behind : Mounted
  pub before_is : before.board ≡ a
  pub behind_is : behind.board ≡ b
  pub served : EachServed shape before asked behind

-- the same board but for what was posted
abbrev pub OnlyPosts : BoardState → BoardState → Type 0
OnlyPosts old new = new ≡ record old { trail = new.trail; posted = new.posted; out_faults = new.out_faults }

-- the commands of a word on the second drive, or the first of them, if the drives held these maps: it asks for their first namespaces
abbrev pub OnSecond : PairTask → Map → Map → List Command → Type 0
OnSecond task m other = AreOfSecond task (in_space NAMESPACE m) (in_space NAMESPACE other)

-- those of a word that was done: the resync before it deleted and stored exactly what differed
abbrev pub WholeOnSecond : PairTask → Map → Map → List Command → Type 0
WholeOnSecond task m other = AreWholeOfSecond task (in_space NAMESPACE m) (in_space NAMESPACE other)

-- All commands of a word were served, and none began on a worn drive: on the first board from a on, before its posts, and on the second from c to d.
-- The first held the map m and the second other.
pub record BothServed (task : PairTask) (shape : Shape) (m other : Map) (a b c d : BoardState) : Type 0 where
  pub unposted : BoardState
  pub first : ServedUnworn (AreOfWord task) shape a unposted
  pub posts : OnlyPosts unposted b
  pub second : ServedUnworn (OnSecond task m other) shape c d

-- these commands and at least one more are of this kind: of a word that changes the maps, the command that does comes last, so it was not asked
abbrev pub SomeRemain : (List Command → Type 0) → List Command → Type 0
SomeRemain Are cs = (next : Command) × (more : List Command) × Are (cs ++ next ∷ more)

-- The drive is worn, and a command remains. No command began on it then, unless a program or an erase failed.
pub record WornBefore (Are : List Command → Type 0) (shape : Shape) (a b : BoardState) : Type 0 where
  pub worn : is_worn b ≡ true
  pub served : ServedUnworn (SomeRemain Are) shape a b ⊎ Rose a.stop_faults b.stop_faults

-- ---- ends

-- The text is the definition's, and both drives hold the map after the word: the second has its first namespace, and keeps its others. The second
-- was asked to delete and store exactly what differed, and then for the word. Neither drive was worn when the word began.
pub record PairAnswered (task : PairTask) (shape : Shape) (m other : Map) (a b c d : BoardState) (text : List ℕ) : Type 0 where
  pub text_is : text ≡ text_by shape (limits_at shape a.pages) task m
  pub first_holds : Holds shape b.pages (map_left shape (limits_at shape a.pages) task m)
  pub second_holds : HoldsPart shape d.pages (in_space NAMESPACE (map_left shape (limits_at shape a.pages) task m)) other
  pub whole : ServedUnworn (WholeOnSecond task m other) shape c d
  pub first_unworn : is_worn a ≡ false
  pub second_unworn : is_worn c ≡ false

-- The word is done: its text was posted on the first board, and both drives hold the map after it; or a read failed, and the text says that. Either
-- way no command began on a worn drive.
pub record PairFinished (task : PairTask) (shape : Shape) (m other : Map) (a b c d : BoardState) : Type 0 where
  pub text : List ℕ
  pub posted : b.posted ≡ longer a.posted text
  pub says : PairAnswered task shape m other a b c d text ⊎ (EitherUnread a b c d × (text ≡ failed_line))
  pub no_output : b.out_faults ≡ a.out_faults
  pub first_sound : b.stop_faults ≡ a.stop_faults
  pub second_sound : d.stop_faults ≡ c.stop_faults
  pub began : BothServed task shape m other a b c d

-- A drive is worn, a command for it remains, and nothing was posted.
pub record PairWorn (task : PairTask) (shape : Shape) (m other : Map) (a b c d : BoardState) : Type 0 where
  pub worn : WornBefore (AreOfWord task) shape a b ⊎ WornBefore (OnSecond task m other) shape c d
  pub silent : b.posted ≡ a.posted

-- how it ended, and why: the first board from a to b, the second from c to d
abbrev pub PairEnds : PairTask → Shape → Map → Map → BoardState → BoardState → BoardState → BoardState → WordEnd → Type 0
PairEnds task shape m other a b c d Done = PairFinished task shape m other a b c d
PairEnds task shape m other a b c d Output = Rose a.out_faults b.out_faults × BothServed task shape m other a b c d
PairEnds task shape m other a b c d FlashFailed = Rose a.stop_faults b.stop_faults ⊎ Rose c.stop_faults d.stop_faults
PairEnds task shape m other a b c d Worn = PairWorn task shape m other a b c d

-- most roots that the commands of a word install on a drive, each at most ten: a Delete of each key of the second, a Store of each of the first, and the
-- word's own command, in the first namespace
abbrev pub most_pair_roots : Map → Map → ℕ
most_pair_roots m other = 10 * (len (in_space NAMESPACE m) + len (in_space NAMESPACE other) + 1)

-- If the numbers of roots are used up, the word installed no more than these, or a program or an erase had failed.
abbrev pub UsedRoots : Map → Map → BoardState → BoardState → Type 0
UsedRoots m other a b = Rose a.stop_faults b.stop_faults ⊎ (roots b ≤ roots a + most_pair_roots m other)

-- A word on two drives of this shape, of which the first held this map and the second that one. Wherever either was cut it was kept, and the word
-- ended so.
pub record PairTold (task : PairTask) (shape : Shape) (m other : Map) (a b c d : BoardState) (end : WordEnd) : Type 0 where
  pub first_kept : Goes shape a b (KeptFirst task (EitherUnread a b c d) shape (limits_at shape a.pages) m)
  pub second_kept : Goes shape c d (KeptSecond shape (limits_at shape c.pages) other)
  pub ends : PairEnds task shape m other a b c d end
  pub first_used : UsedRoots m other a b
  pub second_used : UsedRoots m other c d
  pub first_input : KeepsInput a b
  pub second_input : KeepsInput c d
