-- A change of the map that waits for nothing reads nothing.
use Rattle.std.{proofs.Common.◌≡◌, proofs.Common.ap, proofs.Common.◌∙◌, proofs.Common.false, proofs.Common.Result, proofs.Common.Ok, proofs.Common.Err, specs.Prelude.OnOk}
use Rattle.pk_base.specs.Key.{Key}
use Rattle.pk_nand.{specs.declared.types.Fault.Fault, specs.BoardState.BoardState, specs.Effects.Works}
use Rattle.pk_log.specs.State.{needs_freeze}
use Rattle.pk_parts.specs.Parts.{Parts}
use Rattle.pk_changes.specs.Programming.{ReadsQuietly}

-- if no freeze is needed, what makes room does nothing, and what follows it reads nothing
pub put_reads_none : (r : Result Unit Fault) (a b : Parts) (s0 s1 s2 : BoardState) (k : Key)
    → (needs_freeze a.log k ≡ false → (b ≡ a) × (s1 ≡ s0)) → OnOk r (Works s1 s2) → OnOk r (ReadsQuietly a k s0 s2)
put_reads_none (Ok x) a b s0 s1 s2 k idle works = λ none. works.reads ∙ ap (λ (s : BoardState). s.reads) (idle none).1
put_reads_none (Err e) a b s0 s1 s2 k idle works = tt
