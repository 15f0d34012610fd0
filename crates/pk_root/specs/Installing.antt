-- Installs of roots: what is next, when it can be done, and what it does to a board.
use Rattle.std.specs.Prelude.{◌≡◌, ◌≢◌, ◌⊎◌, ℕ, ◌+◌, ◌-◌, ◌*◌, ◌/◌, ◌%◌, ◌<◌, ◌≤◌, nat_lt, if◌then◌else◌, Bool, true, false, length, slice_set, Some}
use Rattle.pk_base.{specs.Shape.Shape, specs.Shape.root_pages, specs.Page.Flash, specs.Page.page_at, specs.Page.erased, specs.Page.whole, specs.Page.SameBehind}
use Rattle.pk_nand.{specs.BoardState.BoardState, specs.Calls.after_program, specs.Calls.ProgramFailed, specs.Operations.InOrder, specs.Operations.after_erase, specs.Operations.EraseFailed}
use Rattle.pk_nand.specs.Crash.{Reached, Went}
use Rattle.pk_rootfmt.{specs.Root.Root, specs.Root.root_bytes, specs.Newest.newest_root}
use Rattle.pk_root.{specs.declared.next.Next.Next, specs.declared.next.Next.TheVariants.Erase, specs.declared.next.Next.TheVariants.Program, specs.declared.next.Next.TheVariants.Again}
use Rattle.pk_model.specs.Laws.{IsInstall}

-- whether an erase is next, and not a program
abbrev pub erases_next : Next → Bool
erases_next (Erase beside) = true
erases_next (Program page) = false
erases_next (Again page) = false

-- whether the second program of a root is next: its pair is half made
abbrev pub repeats_next : Next → Bool
repeats_next (Erase beside) = false
repeats_next (Program page) = false
repeats_next (Again page) = true

-- whether the first program of a root is next
abbrev pub programs_next : Next → Bool
programs_next (Erase beside) = false
programs_next (Program page) = true
programs_next (Again page) = false

-- of blocks 0 and 1 the one that does not have this page
abbrev pub other_block : Shape → ℕ → ℕ
other_block shape page = 1 - page / shape.block_pages

-- after a root in the pair of this first page comes the next pair of its block; if it is the last one, the other block is erased
abbrev pub next_behind : Shape → ℕ → Next
next_behind shape page = if nat_lt (page % shape.block_pages + 2) shape.block_pages then Program (page + 2) else Erase page

-- the root that is installed has a greater number than the newest one, or, for its second program, it is the newest one
abbrev pub IsForStep : Next → Root → Root → Type 0
IsForStep (Erase beside) newest root = newest.number < root.number
IsForStep (Program page) newest root = newest.number < root.number
IsForStep (Again page) newest root = newest ≡ root

-- ---- what can be done

-- the root block without this page may be erased: the newest root is not in it
pub record MayErase (shape : Shape) (beside newest : ℕ) : Type 0 where
  pub in_root_blocks : beside < root_pages shape
  pub elsewhere : newest / shape.block_pages ≢ other_block shape beside

-- this pair of the root blocks may be programmed: its pages are the first Erased ones of their block
pub record MayProgram (shape : Shape) (page : ℕ) (flash : Flash) : Type 0 where
  pub in_root_blocks : page + 1 < root_pages shape
  pub even : page % shape.block_pages % 2 ≡ 0
  pub order : InOrder shape flash page

-- the flash before the first program of the pair of this page
abbrev pub before_pair : Flash → ℕ → Flash
before_pair flash page = slice_set flash page erased

-- The pair of this page has the newest root in its first page, and not yet in its second; before, another root was the newest one.
pub record MayRepeat (shape : Shape) (page : ℕ) (top : ℕ × Root) (flash : Flash) : Type 0 where
  pub at_first : top.0 ≡ page
  pub here : page_at flash page ≡ whole (root_bytes shape top.1)
  pub order : InOrder shape flash (page + 1)
  pub former : ℕ × Root
  pub install : IsInstall shape (before_pair flash page) former page (root_bytes shape top.1) top.1

-- what is next can be done if this is the newest root, with its page
abbrev pub IsPossible : Shape → Next → ℕ × Root → Flash → Type 0
IsPossible shape (Erase beside) top flash = MayErase shape beside top.0
IsPossible shape (Program page) top flash = MayProgram shape page flash
IsPossible shape (Again page) top flash = MayRepeat shape page top flash

-- this is the newest root of the flash and its page, and what is next can be done
pub record InstallerOnFlash (shape : Shape) (next : Next) (top : ℕ × Root) (flash : Flash) : Type 0 where
  pub newest : newest_root shape (page_at flash) ≡ Some top
  pub possible : IsPossible shape next top flash

-- ---- cuts

-- the newest root is the former
pub record KeepsRoot (shape : Shape) (old cut : Flash) : Type 0 where
  pub newest : newest_root shape (page_at cut) ≡ newest_root shape (page_at old)
  pub behind : SameBehind shape old cut
  pub size : length cut ≡ length old

-- the newest root is the former, or this one in one of the pages of this pair
pub record MayInstall (shape : Shape) (page : ℕ) (root : Root) (old cut : Flash) : Type 0 where
  pub newest : (newest_root shape (page_at cut) ≡ newest_root shape (page_at old)) ⊎ ((newest_root shape (page_at cut) ≡ Some (page, root)) ⊎ (newest_root shape (page_at cut) ≡ Some (page + 1, root)))
  pub behind : SameBehind shape old cut
  pub size : length cut ≡ length old

-- ---- steps

-- the root was programmed in the first page of the pair that was next, by the one call, and is the newest one now
pub record Installs (shape : Shape) (root : Root) (next : Next) (old : BoardState) (next' : Next) (new : BoardState) : Type 0 where
  pub page : ℕ
  pub was : next ≡ Program page
  pub program : new ≡ after_program old page (root_bytes shape root)
  pub then_next : next' ≡ Again page
  pub fits : InstallerOnFlash shape next' (page, root) new.pages
  pub cuts : Reached old new (λ cut _. MayInstall shape page root old.pages cut)

-- The root was programmed in the second page of its pair as well, by the one call, and is the newest one still. The cuts are seen from the
-- flash before the first program.
pub record Repeats (shape : Shape) (root : Root) (next : Next) (old : BoardState) (next' : Next) (new : BoardState) : Type 0 where
  pub page : ℕ
  pub was : next ≡ Again page
  pub program : new ≡ after_program old (page + 1) (root_bytes shape root)
  pub then_next : next' ≡ next_behind shape page
  pub fits : InstallerOnFlash shape next' (page, root) new.pages
  pub cuts : Reached old new (λ cut _. MayInstall shape page root (before_pair old.pages page) cut)

-- the root block that was next was erased, by the one call, and its first pair is next now
pub record ErasesOther (shape : Shape) (next : Next) (old : BoardState) (next' : Next) (new : BoardState) : Type 0 where
  pub beside : ℕ
  pub was : next ≡ Erase beside
  pub erase : new ≡ after_erase old (other_block shape beside)
  pub then_next : next' ≡ Program (other_block shape beside * shape.block_pages)
  pub fits : (top : ℕ × Root) → InstallerOnFlash shape next top old.pages → InstallerOnFlash shape next' top new.pages
  pub cuts : Reached old new (λ cut _. KeepsRoot shape old.pages cut)

-- the one call, the first program of the pair that was next, failed
pub record FailsToInstall (shape : Shape) (root : Root) (next : Next) (old new : BoardState) : Type 0 where
  pub page : ℕ
  pub was : next ≡ Program page
  pub failed : ProgramFailed old new page (root_bytes shape root)
  pub cuts : Went old new (λ cut _. MayInstall shape page root old.pages cut)

-- the one call, the second program of the pair, failed
pub record FailsToRepeat (shape : Shape) (root : Root) (next : Next) (old new : BoardState) : Type 0 where
  pub page : ℕ
  pub was : next ≡ Again page
  pub failed : ProgramFailed old new (page + 1) (root_bytes shape root)
  pub cuts : Went old new (λ cut _. MayInstall shape page root (before_pair old.pages page) cut)

-- the one call, the erase that was next, failed
pub record FailsToErase (shape : Shape) (next : Next) (old new : BoardState) : Type 0 where
  pub beside : ℕ
  pub was : next ≡ Erase beside
  pub failed : EraseFailed old new (other_block shape beside)
  pub cuts : Went old new (λ cut _. KeepsRoot shape old.pages cut)
