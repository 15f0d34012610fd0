-- Steps of a run: bytes that are taken from the input, and what is posted for them.
use Rattle.std.specs.Prelude.{◌≡◌, ◌<◌, ℕ, ◌==◌, List, [], ◌∷◌, ◌++◌, length, Option, Some, None, Bool, true, false}
use Rattle.std.specs.List.{AllByRecursion}
use Rattle.pk_nvme.specs.declared.sizes.TheConstants.{RECORD_HEAD_BYTES}
use Rattle.pk_asm.{specs.declared.sizes.TheConstants.MOST_LINE_BYTES, specs.Line.entry, specs.Line.says}
use Rattle.pk_nand.{specs.BoardState.BoardState, specs.Calls.Rose, specs.Calls.put_back, specs.Calls.AtEnd, specs.Operations.PostFailed}
use Rattle.pk_text.{specs.Written.Written, specs.Written.before, specs.Assembled.line_given, specs.Turns.Touched, specs.declared.end.TextEnd.TextEnd}
use Rattle.pk_text.specs.declared.end.TextEnd.TheVariants.{Done, Truncated, Input, Output, TooMany, BadLine}

-- the input from here on, if it is recorded: bytes that were fetched and not used, and what the board has left
abbrev pub ahead : List ℕ → BoardState → Option (List ℕ)
ahead pending board = put_back pending board.input

-- the same, without a fault of the host
pub record Moved (old new : BoardState) (out : List ℕ) : Type 0 where
  pub touched : Touched old new out
  pub in_same : new.in_faults ≡ old.in_faults
  pub out_same : new.out_faults ≡ old.out_faults

-- a run that was to turn what is ahead by f took bytes and posted what they give, and is to turn the rest by g
pub record TextAdvances (f g : List ℕ → Written) (from to : Option (List ℕ)) (old new : BoardState) : Type 0 where
  pub bytes : List ℕ
  pub out : List ℕ
  pub came : from ≡ put_back bytes to
  pub spells : (rest : List ℕ) → f (bytes ++ rest) ≡ before out (g rest)
  pub moved : Moved old new out

-- ---- the feed

-- these bytes were taken
pub record Fed (pending pending' : List ℕ) (old new : BoardState) (bytes : List ℕ) : Type 0 where
  pub came : ahead pending old ≡ put_back bytes (ahead pending' new)
  pub moved : Moved old new []

-- there is none ahead
pub record IsOver (pending : List ℕ) (board : BoardState) : Type 0 where
  pub none : pending ≡ []
  pub at_end : AtEnd board.input

-- the input failed
pub record FeedFailed (old new : BoardState) : Type 0 where
  pub touched : Touched old new []
  pub rose : Rose old.in_faults new.in_faults
  pub out_same : new.out_faults ≡ old.out_faults

-- there are bytes ahead, or none
abbrev pub Filled : List ℕ → List ℕ → BoardState → BoardState → Bool → Type 0
Filled pending pending' old new true = Fed pending pending' old new [] × (0 < length pending')
Filled pending pending' old new false = Fed pending pending' old new [] × IsOver pending' new

-- a byte was taken, or there is none
abbrev pub Nexted : List ℕ → List ℕ → BoardState → BoardState → Option ℕ → Type 0
Nexted pending pending' old new None = Fed pending pending' old new [] × IsOver pending' new
Nexted pending pending' old new (Some byte) = Fed pending pending' old new (byte ∷ [])

-- how a run ends that is to take no more
abbrev pub TextStops : List ℕ → List ℕ → BoardState → BoardState → TextEnd → Type 0
TextStops pending pending' old new Done = Fed pending pending' old new [] × IsOver pending' new
TextStops pending pending' old new Truncated = ⊥
TextStops pending pending' old new Input = FeedFailed old new
TextStops pending pending' old new Output = ⊥
TextStops pending pending' old new TooMany = (byte : ℕ) × Fed pending pending' old new (byte ∷ [])
TextStops pending pending' old new BadLine = ⊥

-- ---- lines

-- no byte is a line feed
abbrev pub IsLine : List ℕ → Type 0
IsLine line = AllByRecursion (λ byte. (byte == 10) ≡ false) line

-- a line was taken: with its line feed, or it is the last one
abbrev pub LineTaken : List ℕ → List ℕ → BoardState → BoardState → List ℕ → Bool → Type 0
LineTaken pending pending' old new line true = IsLine line × Fed pending pending' old new (line ++ 10 ∷ [])
LineTaken pending pending' old new line false = IsLine line × Fed pending pending' old new line × (0 < length line) × IsOver pending' new

-- none was taken: there is none, or it is too long, or the input failed
abbrev pub NoLine : List ℕ → List ℕ → BoardState → BoardState → List ℕ → TextEnd → Type 0
NoLine pending pending' old new line Done = Fed pending pending' old new [] × IsOver pending' new
NoLine pending pending' old new line Truncated = ⊥
NoLine pending pending' old new line Input = FeedFailed old new
NoLine pending pending' old new line Output = ⊥
NoLine pending pending' old new line TooMany = ⊥
NoLine pending pending' old new line BadLine = IsLine line × Fed pending pending' old new line × (MOST_LINE_BYTES < length line)

-- what a line gives was posted, and the next entry has this number
pub record LineGives (number : ℕ) (line : List ℕ) (next : ℕ) (old new : BoardState) : Type 0 where
  pub out : List ℕ
  pub spells : (more : ℕ → Written) → line_given (says number line) number more ≡ before out (more next)
  pub input : new.input ≡ old.input
  pub moved : Moved old new out

-- it was not, since the line is outside the grammar or the output failed
abbrev pub GivesNot : ℕ → List ℕ → BoardState → BoardState → TextEnd → Type 0
GivesNot number line old new Done = ⊥
GivesNot number line old new Truncated = ⊥
GivesNot number line old new Input = ⊥
GivesNot number line old new Output = (e : List ℕ) × (bytes : List ℕ) × (says number line ≡ Some (entry e bytes)) × PostFailed old new (e ++ bytes)
GivesNot number line old new TooMany = ⊥
GivesNot number line old new BadLine = (says number line ≡ None) × (new ≡ old)

-- ---- records

-- the head of a record was taken, or a part of it with which the input ends
abbrev pub HeadTaken : List ℕ → List ℕ → BoardState → BoardState → List ℕ → Bool → Type 0
HeadTaken pending pending' old new head true = Fed pending pending' old new head × (length head ≡ RECORD_HEAD_BYTES)
HeadTaken pending pending' old new head false = Fed pending pending' old new head × (length head < RECORD_HEAD_BYTES) × IsOver pending' new
