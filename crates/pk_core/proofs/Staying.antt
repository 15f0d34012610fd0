-- What of a drive is unchanged, as the contract of a drive sees it.
use Rattle.std.proofs.Common.{◌≡◌, ◌⊎◌, inl, inr, ℕ, sym, ap, subst, ◌∙◌, arith, Some}
use Rattle.pk_base.{specs.Page.page_at, proofs.Logic.some_same}
use Rattle.pk_rootfmt.{specs.Root.Root, specs.Newest.newest_root}
use Rattle.pk_nand.{specs.BoardState.BoardState, specs.BoardState.shape_of, specs.BoardState.shape_or_none, specs.Effects.OnlyFlash}
use Rattle.pk_call.specs.Moving.{KeepsFresh, BlocksGrow}
use Rattle.pk_parts.{specs.Parts.Parts, specs.Parts.sight_of, specs.Agreeing.DriveOnFlash, proofs.Staying.fresh_then}
use Rattle.pk_parts.specs.Staying.{StaysFresh, SameUse, OpensOne, MakesRoom, StaysOrFrees}

-- ---- background steps

pub frees_then : (a b c : Parts) → StaysOrFrees a b → StaysOrFrees b c → StaysOrFrees a c
frees_then a b c first second = record {
  fresh = fresh_then a b c first.fresh second.fresh;
  no_more = (let one = first.no_more in let two = second.no_more in omega (arith, one, two));
}

-- ---- what is seen of it

-- the epoch of the newest root
epoch_is : (d : Parts) (board : BoardState) (a : DriveOnFlash d board.shape board.pages) (top : ℕ × Root)
    → newest_root (shape_or_none board.shape) (page_at board.pages) ≡ Some top → d.log.root.epoch ≡ top.1.epoch
epoch_is d board a top is =
    let told : newest_root a.shape (page_at board.pages) ≡ Some top = subst (λ o. newest_root (shape_or_none o) (page_at board.pages) ≡ Some top) a.told_is is in
    let same : a.top ≡ top = some_same a.top top (sym a.with.committed.is_top ∙ told) in
    ap (λ (r : Root). r.epoch) a.with.index.logs.root_is ∙ ap (λ (t : ℕ × Root). t.1.epoch) same

pub keeps_fresh : (d e : Parts) (old new : BoardState) → DriveOnFlash d old.shape old.pages → DriveOnFlash e new.shape new.pages
    → OnlyFlash old new → StaysFresh d e → KeepsFresh (shape_of old) old.pages new.pages (sight_of d) (sight_of e)
keeps_fresh d e old new a b rest s = record {
  stays = s.stays;
  begun = λ top top' was is.
      let same_shape : new.shape ≡ old.shape = ap (λ (x : BoardState). x.shape) rest in
      let here : newest_root (shape_or_none new.shape) (page_at new.pages) ≡ Some top' = subst (λ o. newest_root (shape_or_none o) (page_at new.pages) ≡ Some top') (sym same_shape) is in
      let before = epoch_is d old a top was in
      let after = epoch_is e new b top' here in
      elim s.begun [ inl same ↦ inl (sym after ∙ (same ∙ before)) | inr began ↦ inr began ];
}

pub blocks_stay : (d e : Parts) (opcode : ℕ) → SameUse d e → BlocksGrow opcode (sight_of d) (sight_of e)
blocks_stay d e opcode same = inl (let used = same.used in omega (arith, used))

pub blocks_grow : (d e : Parts) (opcode count : ℕ) → opcode ≡ 0x01 → SameUse d e ⊎ (OpensOne d e count ⊎ MakesRoom d e count) → BlocksGrow opcode (sight_of d) (sight_of e)
blocks_grow d e opcode count is (inl same) = blocks_stay d e opcode same
blocks_grow d e opcode count is (inr (inl one)) = inr (is, one.used, one.other)
blocks_grow d e opcode count is (inr (inr room)) = inl room.no_more
