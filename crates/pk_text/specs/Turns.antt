-- What a run over the input of a board does to the board.
use Rattle.std.specs.Prelude.{◌≡◌, ℕ, List, ◌++◌, Option, IfSome}
use Rattle.pk_nand.{specs.BoardState.BoardState, specs.Calls.Rose, specs.Calls.longer, specs.Calls.put_back, specs.Calls.AtEnd, specs.Resting.RestsFlash}
use Rattle.pk_text.{specs.Written.Written, specs.declared.end.TextEnd.TextEnd}
use Rattle.pk_text.specs.declared.end.TextEnd.TheVariants.{Done, Truncated, Input, Output, TooMany, BadLine}

-- Bytes of the input were taken and these bytes posted, with the pages unchanged at every cut. Of the rest only the trail and the counts of host
-- faults may differ.
pub record Touched (old new : BoardState) (out : List ℕ) : Type 0 where
  pub taken : List ℕ
  pub left : old.input ≡ put_back taken new.input
  pub posted : new.posted ≡ longer old.posted out
  pub rests : RestsFlash old new
  pub rest : new ≡ record old { input = new.input; posted = new.posted; trail = new.trail; in_faults = new.in_faults; out_faults = new.out_faults }

-- the bytes are a prefix of the whole
abbrev pub IsTextPrefix : List ℕ → List ℕ → Type 0
IsTextPrefix out whole = (more : List ℕ) × (out ++ more ≡ whole)

-- all was posted, and the run ended as the input says, without a fault of the host
pub record IsAll (old new : BoardState) (w : Written) (out : List ℕ) (end : TextEnd) : Type 0 where
  pub end_is : w.end ≡ end
  pub all : out ≡ w.bytes
  pub in_same : new.in_faults ≡ old.in_faults
  pub out_same : new.out_faults ≡ old.out_faults

-- the input failed, after a prefix of what is posted
pub record InputFailed (old new : BoardState) (w : Written) (out : List ℕ) : Type 0 where
  pub rose : Rose old.in_faults new.in_faults
  pub out_same : new.out_faults ≡ old.out_faults
  pub front : IsTextPrefix out w.bytes

-- the output failed, after a prefix of what is posted
pub record OutputFailed (old new : BoardState) (w : Written) (out : List ℕ) : Type 0 where
  pub rose : Rose old.out_faults new.out_faults
  pub in_same : new.in_faults ≡ old.in_faults
  pub front : IsTextPrefix out w.bytes

-- how a run ends that is to post this and posted these bytes
abbrev pub TextEnds : BoardState → BoardState → Written → List ℕ → TextEnd → Type 0
TextEnds old new w out Done = IsAll old new w out Done × AtEnd new.input
TextEnds old new w out Truncated = IsAll old new w out Truncated × AtEnd new.input
TextEnds old new w out Input = InputFailed old new w out
TextEnds old new w out Output = OutputFailed old new w out
TextEnds old new w out TooMany = IsAll old new w out TooMany
TextEnds old new w out BadLine = IsAll old new w out BadLine

-- A run turns an input into what this function says of it. The input is the one that is ahead, if that is recorded.
pub record TurnsFrom (turn : List ℕ → Written) (ahead : Option (List ℕ)) (old new : BoardState) (end : TextEnd) : Type 0 where
  pub input : List ℕ
  pub told : IfSome ahead (λ bytes. bytes ≡ input)
  pub out : List ℕ
  pub touched : Touched old new out
  pub ends : TextEnds old new (turn input) out end

-- the input is that of the board
abbrev pub Turns : (List ℕ → Written) → BoardState → BoardState → TextEnd → Type 0
Turns turn old new end = TurnsFrom turn old.input old new end
