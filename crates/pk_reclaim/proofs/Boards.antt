-- What the one call of a step does to a board apart from its pages.
use Rattle.std.proofs.Common.{◌≡◌, inl, inr, ℕ, ◌+◌, ◌*◌, ◌/◌, ◌%◌, ◌<◌, ◌≤◌, refl, sym, ap, subst, ◌∙◌, arith, List, [], div-lt_iff_lt-mul}
use Rattle.std.proofs.Math.Nat.{mul-mod_left}
use Rattle.pk_base.{specs.Shape.Shape, specs.Page.Flash, specs.Page.page_at, specs.Mark.Mark, specs.Mark.program, specs.Mark.erase}
use Rattle.pk_nand.{specs.BoardState.BoardState, specs.BoardState.shape_of, specs.BoardState.shape_or_none, specs.Cut.Interrupted, specs.Cut.Touches, proofs.Touching.untouched}
use Rattle.pk_nand.{specs.Calls.IsReady, specs.Calls.after_program, specs.Calls.LeftBy, specs.Calls.ProgramFailed, proofs.Effects.stops_erase, proofs.Effects.stops_program}
use Rattle.pk_nand.specs.Operations.{after_read, after_erase, ReadFailed, EraseFailed}
use Rattle.pk_nand.specs.Effects.{AtMostOneCall, NoFault, OnlyFlash, OnlyReading, made_no_call, made_read, made_program, made_erase}
use Rattle.pk_rootfmt.specs.Newest.{newest_root}
use Rattle.pk_model.{proofs.SamePages.newest_root_same, specs.Growth.Grows, specs.Wear.root_number, specs.Wear.roots}

-- ---- one call that did not fail

-- at most one call was made, and it did not fail
pub record Sound (old new : BoardState) : Type 0 where
  pub fault : NoFault old new
  pub calls : AtMostOneCall old new
  pub rest : OnlyFlash old new

pub sound_none : (old new : BoardState) → new ≡ old → Sound old new
sound_none old new same = let T : BoardState → Type 0 = λ b. Sound old b in subst T (sym same) (record { fault = (refl, refl, refl, refl); calls = made_no_call (refl, refl, refl); rest = refl })

pub sound_read : (old new : BoardState) → new ≡ after_read old → Sound old new
sound_read old new made = let T : BoardState → Type 0 = λ b. Sound old b in subst T (sym made) (record { fault = (refl, refl, refl, refl); calls = made_read (refl, refl, refl); rest = refl })

pub sound_program : (old new : BoardState) (at : ℕ) (bytes : List ℕ) → new ≡ after_program old at bytes → Sound old new
sound_program old new at bytes made = let T : BoardState
    → Type 0 = λ b. Sound old b in subst T (sym made) (record { fault = (refl, refl, refl, refl); calls = made_program (refl, refl, refl); rest = refl })

pub sound_erase : (old new : BoardState) (block : ℕ) → new ≡ after_erase old block → Sound old new
sound_erase old new block made = let T : BoardState
    → Type 0 = λ b. Sound old b in subst T (sym made) (record { fault = (refl, refl, refl, refl); calls = made_erase (refl, refl, refl); rest = refl })

-- ---- one that failed

pub record Failed (old new : BoardState) : Type 0 where
  pub calls : AtMostOneCall old new
  pub rest : OnlyFlash old new

pub failed_read : (old new : BoardState) (at : ℕ) → ReadFailed old new at → Failed old new
failed_read old new at f =
    let T : BoardState → Type 0 = λ b. OnlyFlash old b in
    record { calls = made_read (ap (λ (b : BoardState). b.reads) f.rest, ap (λ (b : BoardState). b.programs) f.rest, ap (λ (b : BoardState). b.erases) f.rest); rest = subst T (sym f.rest) refl }

pub failed_program : (old new : BoardState) (at : ℕ) (bytes : List ℕ) → ProgramFailed old new at bytes → Failed old new
failed_program old new at bytes f =
    record {
      calls = made_program (ap (λ (b : BoardState). b.reads) f.rest, ap (λ (b : BoardState). b.programs) f.rest, ap (λ (b : BoardState). b.erases) f.rest);
      rest = (stops_program old new at bytes f).rest;
    }

pub failed_erase : (old new : BoardState) (block : ℕ) → EraseFailed old new block → Failed old new
failed_erase old new block f =
    record {
      calls = made_erase (ap (λ (b : BoardState). b.reads) f.rest, ap (λ (b : BoardState). b.programs) f.rest, ap (λ (b : BoardState). b.erases) f.rest);
      rest = (stops_erase old new block f).rest;
    }

pub only_read : (old new : BoardState) (at : ℕ) → ReadFailed old new at → OnlyReading old new
only_read old new at f = let T : BoardState → Type 0 = λ b. OnlyReading old b in subst T (sym f.rest) refl

-- ---- the roots

-- no page of the root blocks differs
abbrev pub SameLow : Shape → Flash → Flash → Type 0
SameLow shape old new = (k : ℕ) → k < 2 * shape.block_pages → page_at new k ≡ page_at old k

pub record SameRoots (shape : Shape) (old new : BoardState) : Type 0 where
  pub grows : Grows shape old.pages new.pages
  pub same : roots new ≡ roots old

number_same : (shape : Shape) (old new : Flash) → newest_root shape (page_at new) ≡ newest_root shape (page_at old) → root_number shape new ≡ root_number shape old
unfolding root_number
number_same shape old new same = rw same refl

pub roots_stay : (shape : Shape) (old new : BoardState) → IsReady old shape → new.shape ≡ old.shape
    → newest_root shape (page_at new.pages) ≡ newest_root shape (page_at old.pages) → SameRoots shape old new
roots_stay shape old new ready told same = record {
  grows = inl same;
  same =
      let of_old : shape_of old ≡ shape = ap shape_or_none ready.shape_is in
      let of_new : shape_of new ≡ shape = ap shape_or_none (told ∙ ready.shape_is) in
      ap (λ (s : Shape). root_number s new.pages) of_new ∙ number_same shape old.pages new.pages same ∙ ap (λ (s : Shape). root_number s old.pages) (sym of_old);
}

pub roots_low : (shape : Shape) (old new : BoardState) → IsReady old shape → new.shape ≡ old.shape → SameLow shape old.pages new.pages → SameRoots shape old new
roots_low shape old new ready told same = roots_stay shape old new ready told (newest_root_same shape (page_at old.pages) (page_at new.pages) same)

-- a mark that was interrupted, and touches none of their pages
low_left : (shape : Shape) (mark : Mark) (old new : BoardState) → ((k : ℕ) → k < 2 * shape.block_pages → Touches shape mark k → ⊥)
    → shape_of old ≡ shape → LeftBy mark old new → SameLow shape old.pages new.pages
low_left shape mark old new apart told (inl marked) k low = untouched shape mark k _ _ (apart k low) ((subst (λ (s : Shape). Interrupted s mark old.pages new.pages []) told marked.0).pages k)
low_left shape mark old new apart told (inr none) k low = ap (λ (f : Flash). page_at f k) none.0

-- nor does the first page after them share a pair with one of them
no_partner : (n at k : ℕ) → k < 2 * n → 2 * n ≤ at → (at ≡ k + 1) × (at % n % 2 ≡ 1) → ⊥
no_partner n at k low high is =
    let here : at ≡ 2 * n = let next = is.0 in omega (arith, low, high, next) in
    let none : at % n ≡ 0 = ap (λ (x : ℕ). x % n) here ∙ mul-mod_left 2 n in
    let odd = is.1 in
    omega (arith, none, odd)

pub program_low : (shape : Shape) (old new : BoardState) (at : ℕ) (bytes : List ℕ) → IsReady old shape → 2 * shape.block_pages ≤ at → ProgramFailed old new at bytes → SameRoots shape old new
program_low shape old new at bytes ready high failed =
    roots_low shape old new ready (ap (λ (b : BoardState). b.shape) failed.rest)
    (low_left shape (program at bytes) old new (λ k low is. elim is [ inl same ↦ omega (arith, low, high, same) | inr partner ↦ no_partner shape.block_pages at k low high partner ])
    (ap shape_or_none ready.shape_is) failed.left)

pub erase_low : (shape : Shape) (old new : BoardState) (block : ℕ) → IsReady old shape → 0 < shape.block_pages → 2 ≤ block → EraseFailed old new block → SameRoots shape old new
erase_low shape old new block ready some behind failed =
    roots_low shape old new ready (ap (λ (b : BoardState). b.shape) failed.rest)
    (low_left shape (erase block) old new (λ k low is. let less : k / shape.block_pages < 2 = (div-lt_iff_lt-mul some).1 low in omega (arith, less, behind, is))
    (ap shape_or_none ready.shape_is) failed.left)
