-- Values on a board, and the board while one is written.
use Rattle.std.specs.Prelude.{◌≡◌, ℕ, zero, suc, ◌+◌, ◌-◌, ◌*◌, ◌<◌, ◌≤◌, List, ◌++◌, length, take, drop, min}
use Rattle.pk_base.{specs.declared.sizes.TheConstants.HEAD_BYTES, specs.Key.Key, specs.Shape.Shape, specs.Shape.charge, specs.Page.Flash, specs.Page.page_at, specs.Page.whole}
use Rattle.pk_nand.{specs.BoardState.BoardState, specs.Calls.Rose, specs.Calls.after_program, specs.Calls.ProgramFailed}
use Rattle.pk_segfmt.{specs.Head.IsHead, specs.Value.head_bytes, specs.Stored.page_of, specs.Stored.IsStored}

-- from this page on are the pages of a value of at least n bytes
pub record IsFront (shape : Shape) (flash : Flash) (page n : ℕ) (key : Key) (value : List ℕ) : Type 0 where
  pub is_head : IsHead shape key (length value)
  pub long : n ≤ length value
  pub stored : IsStored shape (page_at flash) key page value

-- page i of a value, of these bytes, brings its piece of the value's prefix after the pieces before
abbrev pub BringsPiece : Shape → ℕ → List ℕ → List ℕ → List ℕ → Type 0
BringsPiece shape i bytes old new =
    let at : ℕ = i * shape.page_bytes - HEAD_BYTES in
    take (min (length old) ((i + 1) * shape.page_bytes - HEAD_BYTES)) new
    ≡ take at old ++ take (length old - at) (drop (HEAD_BYTES - i * shape.page_bytes) bytes)

-- the page is a whole one and begins with this head
pub record HasHead (shape : Shape) (flash : Flash) (page : ℕ) (key : Key) (len : ℕ) : Type 0 where
  pub is_head : IsHead shape key len
  pub bytes : List ℕ
  pub here : page_at flash page ≡ whole bytes
  pub front : take HEAD_BYTES bytes ≡ head_bytes key len

module _ (shape : Shape) (key : Key) (page : ℕ) (value : List ℕ) where
  -- the board after the programs of the first k pages of a value
  abbrev pub written : ℕ → BoardState → BoardState
  written zero old = old
  written (suc k) old = after_program (written k old) (page + k) (page_of shape key value k)

  -- a program of one of its pages failed, after those of all pages before it
  pub record WriteFailed (old new : BoardState) : Type 0 where
    pub made : ℕ
    pub within : made < charge shape (length value)
    pub failed : ProgramFailed (written made old) new (page + made) (page_of shape key value made)
    pub flash : Rose old.flash_faults new.flash_faults
    pub stop : Rose old.stop_faults new.stop_faults
    pub read : new.read_faults ≡ old.read_faults
