-- Two sources of merges that show the same.
use Rattle.std.specs.Prelude.{◌≡◌}
use Rattle.pk_merge.{specs.declared.source.Source.Source, specs.declared.source.Source.TheVariants.Frozen, specs.declared.source.Source.TheVariants.Run}

-- the same buffer, or the same run
abbrev pub ShowsSame : {X Y : Type 0} → Source X → Source Y → Type 0
ShowsSame (Frozen b) (Frozen c) = c.now ≡ b.now
ShowsSame (Frozen b) (Run r) = ⊥
ShowsSame (Run r) (Frozen b) = ⊥
ShowsSame (Run r) (Run q) = q.now ≡ r.now
