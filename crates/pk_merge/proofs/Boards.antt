-- What a step does to a board apart from its pages.
use Rattle.std.proofs.Common.{◌≡◌, ◌⊎◌, inl, inr, ℕ, List, slice_get, Option, Some, None, refl, sym, subst, Bool}
use Rattle.pk_base.specs.Entry.{Entry}
use Rattle.pk_nand.{specs.BoardState.BoardState, specs.Calls.Rose, specs.Calls.ProgramFailed, specs.Calls.after_program, specs.declared.types.Fault.Fault}
use Rattle.pk_nand.{specs.Operations.ReadFailed, specs.Operations.EraseFailed, specs.Operations.after_read, specs.Operations.after_erase, proofs.Effects.stops_erase, proofs.Effects.stops_program}
use Rattle.pk_nand.specs.Effects.{AtMostOneCall, NoFault, OnlyFlash, OnlyReading, Stops, made_no_call, made_read, made_program, made_erase}
use Rattle.pk_nand.specs.declared.types.Fault.TheVariants.{Reading, Stopped}
use Rattle.pk_pin.specs.Frames.{Frames}
use Rattle.pk_pool.{specs.Blocks.Blocks, specs.Taking.TakesReady, specs.Taking.ErasesFree, specs.Taking.FailsToErase}
use Rattle.pk_run.specs.Kept.{Kept, after_look, page_of}
use Rattle.pk_merge.{specs.declared.source.Source.Source, specs.declared.source.Source.TheVariants.Frozen, specs.declared.source.Source.TheVariants.Run, specs.declared.next.Next.Next}
use Rattle.pk_merge.specs.declared.next.Next.TheVariants.{LoadSource, LoadTarget, TakeBlock, Program}
use Rattle.pk_merge.{specs.Cursors.Cursor, specs.Cursors.own_page, specs.Sources.LookFails, specs.Sources.after_look_at, specs.Merging.Merger, specs.Outputs.FailsToProgram}
use Rattle.pk_merge.specs.Steps.{Acts, Fails, FailsToRead}

-- one call at most was made, none failed, and nothing but the flash and the counts differs
pub record Called (old new : BoardState) : Type 0 where
  pub calls : AtMostOneCall old new
  pub sound : NoFault old new
  pub rest : OnlyFlash old new

called : (old to new : BoardState) → Called old to → new ≡ to → Called old new
called old to new c e = subst (λ (b : BoardState). Called old b) (sym e) c

nothing : (old : BoardState) → Called old old
nothing old = record { calls = made_no_call (refl, refl, refl); sound = (refl, refl, refl, refl); rest = refl }

reads : (old : BoardState) → Called old (after_read old)
reads old = record { calls = made_read (refl, refl, refl); sound = (refl, refl, refl, refl); rest = refl }

programs : (old : BoardState) (page : ℕ) (bytes : List ℕ) → Called old (after_program old page bytes)
programs old page bytes = record { calls = made_program (refl, refl, refl); sound = (refl, refl, refl, refl); rest = refl }

erases : (old : BoardState) (block : ℕ) → Called old (after_erase old block)
erases old block = record { calls = made_erase (refl, refl, refl); sound = (refl, refl, refl, refl); rest = refl }

looks : (lease : Option ℕ) (old : BoardState) → Called old (after_look lease old)
looks None old = reads old
looks (Some l) old = nothing old

looks_at : {X : Type 0} (source : Source X) (c : Cursor) (old : BoardState) → Called old (after_look_at source c old)
looks_at (Frozen b) c old = nothing old
looks_at (Run r) c old = looks (slice_get r.now.leases (own_page c)) old

takes : (pool : Blocks) (old : BoardState) (b : ℕ) (new : BoardState) → TakesReady pool old b new ⊎ ErasesFree pool old b new → Called old new
takes pool old b new (inl ready) = called old old new (nothing old) ready.same
takes pool old b new (inr free) = called old (after_erase old b) new (erases old b) free.erase

-- each action
pub acts_call : {X : Type 0} (source : Source X) (target : Kept) (pins : Bool) (out : Kept) (m : Merger) (pool : Blocks)
    (old : BoardState) (before : Frames) (next : Next) (out' : Kept) (m' : Merger) (pool' : Blocks) (new : BoardState) (after : Frames)
    → Acts source target pins out m pool old before next out' m' pool' new after → Called old new
acts_call source target pins out m pool old before LoadSource out' m' pool' new after (l, o, p, a) = called old (after_look_at source m.source old) new (looks_at source m.source old) l.board
acts_call source target pins out m pool old before LoadTarget out' m' pool' new after (l, o, p, a) = called old
    (after_look (slice_get target.leases (own_page m.target)) old) new (looks (slice_get target.leases (own_page m.target)) old) l.board
acts_call source target pins out m pool old before TakeBlock out' m' pool' new after (k, e, a, fits) = takes pool old k.block new k.choice
acts_call source target pins out m pool old before Program out' m' pool' new after (k, e, p) = called old _ new (programs old _ _) k.program
acts_call source target pins out m pool old before next out' m' pool' new after none = called old old new (nothing old) none.0

-- ---- a call that failed

-- one call was made, and nothing but the flash and the counts differs
pub record Failed (old new : BoardState) : Type 0 where
  pub calls : AtMostOneCall old new
  pub rest : OnlyFlash old new

-- a read that failed, of whichever page
pub record ReadFails (old new : BoardState) : Type 0 where
  pub read : Rose old.read_faults new.read_faults
  pub flash : Rose old.flash_faults new.flash_faults
  pub only : OnlyReading old new

read_fails : (old new : BoardState) (at : ℕ) → ReadFailed old new at → ReadFails old new
read_fails old new at f = search (subst (λ (b : BoardState). OnlyReading old b) (sym f.rest) refl)

look_fails : {X : Type 0} (source : Source X) (m : Merger) (old new : BoardState) → LookFails source m.source old new → ReadFails old new
look_fails (Frozen b) m old new f = absurd f
look_fails (Run r) m old new f = read_fails old new (page_of r.now (own_page m.source)) f

read_failed : (old new : BoardState) (at : ℕ) → ReadFailed old new at → Failed old new
read_failed old new at f = subst (λ (b : BoardState). Failed old b) (sym f.rest) (record { calls = made_read (refl, refl, refl); rest = refl })

look_failed : {X : Type 0} (source : Source X) (m : Merger) (old new : BoardState) → LookFails source m.source old new → Failed old new
look_failed (Frozen b) m old new f = absurd f
look_failed (Run r) m old new f = read_failed old new (page_of r.now (own_page m.source)) f

program_failed : (old new : BoardState) (at : ℕ) (bytes : List ℕ) → ProgramFailed old new at bytes → Failed old new
program_failed old new at bytes f = subst (λ (b : BoardState). Failed old b) (sym f.rest) (record { calls = made_program (refl, refl, refl); rest = refl })

erase_failed : (old new : BoardState) (block : ℕ) → EraseFailed old new block → Failed old new
erase_failed old new block f = subst (λ (b : BoardState). Failed old b) (sym f.rest) (record { calls = made_erase (refl, refl, refl); rest = refl })

module _ {X : Type 0} (source : Source X) (target out : Kept) (m : Merger) (pool : Blocks) (old : BoardState) (m' : Merger) (new : BoardState) where
  pub fails_call : (fault : Fault) → Fails source target out m pool old fault m' new → Failed old new
  fails_call Reading f = elim f.read [ inl look ↦ look_failed source m old new look | inr read ↦ read_failed old new _ read ]
  fails_call Stopped (inl erase) = erase_failed old new erase.block erase.failed
  fails_call Stopped (inr program) = program_failed old new _ _ program.failed

pub fails_reading : {X : Type 0} (source : Source X) (target : Kept) (m : Merger) (old : BoardState) (m' : Merger) (new : BoardState) → FailsToRead source target m old m' new → ReadFails old new
fails_reading source target m old m' new f = elim f.read [ inl look ↦ look_fails source m old new look | inr read ↦ read_fails old new _ read ]

pub fails_stopped : (pool : Blocks) (out : Kept) (more : List Entry) (old new : BoardState) → FailsToErase pool old new ⊎ FailsToProgram out more old new → Stops old new
fails_stopped pool out more old new (inl erase) = stops_erase old new erase.block erase.failed
fails_stopped pool out more old new (inr program) = stops_program old new _ _ program.failed
