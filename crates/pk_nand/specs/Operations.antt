-- What a read, an erase, a fetch and a post do to the state of a board.
use Rattle.std.specs.Prelude.{◌≡◌, ◌≢◌, ◌<◌, ◌≤◌, ◌+◌, ◌-◌, ◌*◌, ◌/◌, ◌%◌, ◌⊎◌, ℕ, List, [], ◌∷◌, ◌++◌, length, take, Option, None, Some, IfSome, IsSomeAnd}
use Rattle.pk_base.{specs.Shape.Shape, specs.Page.Page, specs.Page.Flash, specs.Page.page_at, specs.Page.erased, specs.Page.whole, specs.Page.torn}
use Rattle.pk_base.specs.Mark.{Mark, erase, post, after}
use Rattle.pk_nand.{specs.BoardState.BoardState, specs.BoardState.shape_of, specs.Calls.LeftBy, specs.Calls.Rose, specs.Calls.counted, specs.Calls.longer}

-- the page is Erased
abbrev pub IsErased : Flash → ℕ → Type 0
IsErased flash at = page_at flash at ≡ erased

-- every page of the block is Erased
abbrev pub IsErasedBlock : Shape → Flash → ℕ → Type 0
IsErasedBlock shape flash b = (k : ℕ) → b * shape.block_pages ≤ k → k < b * shape.block_pages + shape.block_pages → page_at flash k ≡ erased

-- what a read of a page leaves in a buffer
abbrev pub filled : Page → List ℕ → List ℕ
filled erased old = old
filled (whole bytes) old = bytes
filled torn old = old

-- The pages of the block before this one are not Erased, it and those after it are.
pub record InOrder (shape : Shape) (flash : Flash) (at : ℕ) : Type 0 where
  pub before : (k : ℕ) → at - at % shape.block_pages ≤ k → k < at → page_at flash k ≢ erased
  pub behind : (k : ℕ) → at ≤ k → k < at - at % shape.block_pages + shape.block_pages → page_at flash k ≡ erased

abbrev pub after_read : BoardState → BoardState
after_read old = record old { reads = counted old.reads }

pub record ReadFailed (old new : BoardState) (at : ℕ) : Type 0 where
  pub flash : Rose old.flash_faults new.flash_faults
  pub read : Rose old.read_faults new.read_faults
  pub rest : new ≡ record old { reads = counted old.reads; flash_faults = new.flash_faults; read_faults = new.read_faults; failed_at = Some (at / (shape_of old).block_pages) }

abbrev pub after_erase : BoardState → ℕ → BoardState
after_erase old block = record old {
  pages = after (shape_of old) (erase block) old.pages;
  trail = longer old.trail (erase block ∷ []);
  erases = counted old.erases;
}

pub record EraseFailed (old new : BoardState) (block : ℕ) : Type 0 where
  pub flash : Rose old.flash_faults new.flash_faults
  pub stop : Rose old.stop_faults new.stop_faults
  pub left : LeftBy (erase block) old new
  pub rest : new ≡ record old { pages = new.pages; trail = new.trail; erases = counted old.erases; flash_faults = new.flash_faults; stop_faults = new.stop_faults; failed_at = Some block }

-- n bytes of the input were taken, and are at the start of a buffer
abbrev pub Takes : Option (List ℕ) → Option (List ℕ) → ℕ → List ℕ → Type 0
Takes None new n into = new ≡ None
Takes (Some bytes) new n into = IsSomeAnd new (λ left. bytes ≡ take n into ++ left)

pub record Fetched (old new : BoardState) (n : ℕ) (into : List ℕ) : Type 0 where
  pub within : n ≤ length into
  pub bytes : Takes old.input new.input n into
  -- no byte only at the end of the input
  pub none : n ≡ 0 → 0 < length into → IfSome old.input (λ bytes. bytes ≡ [])
  pub rest : new ≡ record old { input = new.input }

pub record FetchFailed (old new : BoardState) : Type 0 where
  pub faults : Rose old.in_faults new.in_faults
  pub rest : new ≡ record old { in_faults = new.in_faults }

abbrev pub after_post : BoardState → List ℕ → BoardState
after_post old bytes = record old { trail = longer old.trail (post bytes ∷ []); posted = longer old.posted bytes }

-- a prefix of the bytes was sent, and the trail has it; or none, and it may lack it
pub record PostLeft (bytes : List ℕ) (posted posted' : Option (List ℕ)) (trail trail' : Option (List Mark)) : Type 0 where
  pub out : List ℕ
  pub unposted : List ℕ
  pub front : out ++ unposted ≡ bytes
  pub posted_is : posted' ≡ longer posted out
  pub trail_is : (trail' ≡ longer trail (post out ∷ [])) ⊎ ((out ≡ []) × (trail' ≡ trail))

-- A prefix of this length was sent, and the trail has it; or nothing, and it may lack it.
pub record SentFront (bytes : List ℕ) (given : ℕ) (posted posted' : Option (List ℕ)) (trail trail' : Option (List Mark)) : Type 0 where
  pub within : given ≤ length bytes
  pub posted_is : posted' ≡ longer posted (take given bytes)
  pub trail_is : (trail' ≡ longer trail (post (take given bytes) ∷ [])) ⊎ ((given ≡ 0) × (trail' ≡ trail))

pub record PostFailed (old new : BoardState) (bytes : List ℕ) : Type 0 where
  pub faults : Rose old.out_faults new.out_faults
  pub left : PostLeft bytes old.posted new.posted old.trail new.trail
  pub rest : new ≡ record old { trail = new.trail; posted = new.posted; out_faults = new.out_faults }
