-- What a step leaves besides: how many spares it takes, and that the board has a table after a step that fails.
use Rattle.std.proofs.Common.{◌≡◌, ℕ, suc, ◌+◌, ◌<◌, ◌≤◌, Bool, true, false, List, length, sym, subst, arith}
use Rattle.std.specs.Prelude.{Result, Ok, Err, IsErr, IfOk, Vec, Option, None}
use Rattle.std.specs.declared.alloc.Global.{Global}
use Rattle.pk_base.specs.Page.{Flash, IsPage}
use Rattle.pk_nand.{specs.BoardState.BoardState, specs.Calls.IsReady, specs.Calls.Rose, specs.Calls.ProgramFailed, specs.Operations.EraseFailed, specs.Effects.OnlyFlash}
use Rattle.pk_nand.{proofs.Effects.stops_erase, proofs.Effects.stops_program, specs.declared.types.NandFault.NandFault}
use Rattle.pk_remap.{specs.declared.relocation.Relocation.Relocation as InMemory, specs.Table.table_bytes, specs.Places.inner_shape, proofs.Cutting.OneOfTables}
use Rattle.pk_remap.specs.declared.phase.Phase.TheVariants.{EraseSpare, Read, EraseTable, First, Second}
use Rattle.pk_remap.{proofs.Stepping.ready_same, proofs.Counting.counted_done, proofs.Counting.counted_failed, proofs.Counting.has_table}
use Rattle.pk_remap.{specs.Relocating.next_table, specs.Relocating.IsTop, specs.Stepping.IsOtherTable, specs.Stepping.SpareFailed, proofs.Turning.next_pair, proofs.Turning.erased_pair}
use Rattle.pk_remap.{specs.Counting.SparesCounted, specs.Counting.HasTable, specs.Counting.StepCounts, proofs.Stepping.table_erase_top, proofs.Stepping.first_left, proofs.Stepping.second_left}
use Rattle.pk_remap.{specs.Running.relocation_of, specs.Running.RelocationRuns, specs.Running.IsTableHalf, proofs.Running.half_erased, proofs.Running.stands_in, proofs.Running.n_some}

module _ (r : InMemory) (before : Flash) (old : BoardState) (runs : RelocationRuns r before old) where
  used_most : length (relocation_of r).table.serves ≤ r.taken
  used_most = runs.goes_on.serving.used

  -- ---- in the spare

  -- a call that is done: only the flash differs, and no spare is taken
  pub step_done : (r' : InMemory) (new : BoardState) → OnlyFlash old new → new.stop_faults ≡ old.stop_faults → r'.taken ≡ r.taken → StepCounts r old (Ok false) r' new
  step_done r' new rest same taken = counted_done r r' old new rest 0 same (omega (arith, taken))

  -- it fails, and the next spare is taken, if there is one
  pub step_next : (result : Result Bool NandFault) (new : BoardState) → OnlyFlash old new → SpareFailed (relocation_of r) before old new
      → IfOk result (λ done. (done ≡ false) × (r.taken + 1 < r.spares)) → StepCounts r old result (record r { taken = r.taken + 1; phase = EraseSpare }) new
  step_next (Ok false) new rest failed ok = counted_failed r (record r { taken = r.taken + 1; phase = EraseSpare }) old new rest 0 failed.stop (omega arith)
  step_next (Ok true) new rest failed ok = let e = ok.0 in cc
  step_next (Err e) new rest failed ok = (
    counted_failed r (record r { taken = r.taken + 1; phase = EraseSpare }) old new rest 0 failed.stop (omega arith),
    has_table (record r { taken = r.taken + 1; phase = EraseSpare }) new r.top (relocation_of r).table failed.ready failed.top
        (let used = used_most in omega (arith, used)),
  )

  -- a read that fails, or finds a page that is Torn
  pub step_read : (copy : Vec ℕ Global) (k : ℕ) → r.phase ≡ Read k → (new : BoardState) → OnlyFlash old new → new.stop_faults ≡ old.stop_faults → new.shape ≡ old.shape
      → new.pages ≡ old.pages → SparesCounted 0 r old (record r { copy = copy }) new × HasTable (record r { copy = copy }) new
  step_read copy k phase new rest same shape pages =
      let ready = ready_same old new (inner_shape r.shape r.spares) runs.goes_on.ready shape pages in (
        counted_done r (record r { copy = copy }) old new rest 0 same (omega arith),
        has_table (record r { copy = copy }) new r.top (relocation_of r).table ready (subst (IsTop (relocation_of r)) (sym pages) (stands_in r before old runs (Read k) phase).0) used_most,
      )

  -- ---- in a table block: a call fails, and the spare is taken

  failed_step : (result : Result Bool NandFault) (copy : Vec ℕ Global) (next : Option ℕ) (new : BoardState) → IsErr result → OnlyFlash old new → Rose old.stop_faults new.stop_faults
      → HasTable (record r { copy = copy; next = next; taken = r.taken + 1 }) new → StepCounts r old result (record r { copy = copy; next = next; taken = r.taken + 1 }) new
  failed_step (Ok done) copy next new fails rest rose table = let e : false ≡ true = fails in cc
  failed_step (Err e) copy next new fails rest rose table = (counted_failed r (record r { copy = copy; next = next; taken = r.taken + 1 }) old new rest 0 rose (omega arith), table)

  one_left : (copy : Vec ℕ Global) (next : Option ℕ) (new : BoardState) → IsReady new (inner_shape r.shape r.spares) × OneOfTables (relocation_of r) new.pages
      → HasTable (record r { copy = copy; next = next; taken = r.taken + 1 }) new
  one_left copy next new left = has_table (record r { copy = copy; next = next; taken = r.taken + 1 }) new left.1.0 left.1.1 left.0 left.1.2 left.1.3

  pub erase_stops : r.phase ≡ EraseTable → (other : ℕ) → IsOtherTable (relocation_of r) other → (result : Result Bool NandFault) → IsErr result
      → (new : BoardState) → EraseFailed old new other → StepCounts r old result (record r { next = None; taken = r.taken + 1 }) new
  erase_stops phase other is_other result fails new failed =
      let own = table_erase_top (relocation_of r) before old runs.goes_on (stands_in r before old runs EraseTable phase).0 other is_other new failed in
      let stops = stops_erase old new other failed in
      failed_step result r.copy None new fails stops.rest stops.stop
      (has_table (record r { next = None; taken = r.taken + 1 }) new r.top (relocation_of r).table own.0 own.1 (let used = used_most in omega (arith, used)))

  pub first_stops : (pair : ℕ) → r.phase ≡ First pair → (result : Result Bool NandFault) → IsErr result → (new : BoardState) (bytes : List ℕ) → IsPage r.shape bytes
      → bytes ≡ table_bytes r.shape r.spares (next_table (relocation_of r)) → ProgramFailed old new pair bytes → (copy : Vec ℕ Global)
      → StepCounts r old result (record r { copy = copy; next = None; taken = r.taken + 1 }) new
  first_stops pair phase result fails new bytes page same failed copy =
      let s = stands_in r before old runs (First pair) phase in
      let is_pair = next_pair (relocation_of r) (n_some r before old runs) old.pages pair s.0 s.1 in
      let two = erased_pair r.shape r.spares r.top (n_some r before old runs) old.pages pair s.1 in
      let T : List ℕ → Type 0 = λ b. ProgramFailed old new pair b in
      let stops = stops_program old new pair bytes failed in
      failed_step result copy None new fails stops.rest stops.stop
      (one_left copy None new
      (first_left (relocation_of r) before pair old new runs.goes_on (subst (IsPage r.shape) same page) is_pair s.2 two.0 two.1 (subst T same failed)))

  pub second_stops : (pair : ℕ) → r.phase ≡ Second pair → (result : Result Bool NandFault) → IsErr result → (new : BoardState) (bytes : List ℕ) → IsPage r.shape bytes
      → bytes ≡ table_bytes r.shape r.spares (next_table (relocation_of r)) → ProgramFailed old new (suc pair) bytes → (copy : Vec ℕ Global)
      → StepCounts r old result (record r { copy = copy; taken = r.taken + 1 }) new
  second_stops pair phase result fails new bytes page same failed copy =
      let half : IsTableHalf (relocation_of r) before old.pages pair = stands_in r before old runs (Second pair) phase in
      let T : List ℕ → Type 0 = λ b. ProgramFailed old new (suc pair) b in
      let stops = stops_program old new (suc pair) bytes failed in
      failed_step result copy r.next new fails stops.rest stops.stop
      (one_left copy r.next new
      (second_left (relocation_of r) before pair old new runs.goes_on (subst (IsPage r.shape) same page) half.pair half.full half.first
      (half_erased r before old runs pair half) (subst T same failed)))
