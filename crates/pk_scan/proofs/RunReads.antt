-- How many pages of the runs are read: each once for the first keys, and once more in a walk if it has no frame.
use Rattle.std.proofs.Common.{◌≡◌, ℕ, ◌+◌, ◌*◌, Bool, true, false, List, [], ◌∷◌, length, refl, sym, ap, ◌∙◌, arith}
use Rattle.std.specs.Prelude.{nat_le, if◌then◌else◌}
use Rattle.pk_base.{specs.Shape.Shape, specs.Shape.run_pages, specs.Entry.Entry, specs.Page.Flash}
use Rattle.pk_pin.specs.Frames.{Frames}
use Rattle.pk_run.specs.Kept.{Kept}
use Rattle.pk_level.{specs.Levels.RunsOnFlash, specs.Arenas.IsPinnedIf}
use Rattle.pk_walk.specs.Walking.{read_of, most_read}
use Rattle.pk_scan.{specs.OpeningParts.HaveBlocks, specs.OpeningParts.HaveFrames, specs.Reads.pages_of_runs, specs.Reads.run_reads}

none_pinned : (leases : List ℕ) (pages : ℕ) → length leases ≡ pages → read_of leases pages ≡ 0
none_pinned leases pages same = omega (arith, same)

-- the pages of a run, and those that are read again
once_more : (b : Bool) (r : Kept) (pages : ℕ) → IsPinnedIf b r → length r.firsts ≡ pages → pages + read_of r.leases (length r.firsts) ≡ (if b then 1 else 2) * pages
once_more true r pages pinned same = let none = none_pinned r.leases (length r.firsts) pinned in omega (arith, none)
once_more false r pages none same = let empty : length r.leases ≡ 0 = ap (λ (ls : List ℕ). length ls) none in omega (arith, empty, same)

-- both together
pub run_reads_are : (shape : Shape) (flash : Flash) (arena : Frames) (pinned level : ℕ) (rs : List Kept) (ess : List (List Entry)) (bss : List (List ℕ)) (counts : List ℕ)
    → RunsOnFlash flash arena rs ess → HaveBlocks shape rs bss → HaveFrames pinned level rs counts → pages_of_runs shape counts + most_read rs ≡ run_reads shape pinned level counts
run_reads_are shape flash arena pinned level [] ess bss [] s blocks frames = refl
run_reads_are shape flash arena pinned level [] ess bss (count ∷ counts) s blocks frames = absurd frames
run_reads_are shape flash arena pinned level (r ∷ rs) ess bss [] s blocks frames = absurd frames
run_reads_are shape flash arena pinned level (r ∷ rs) [] bss (count ∷ counts) s blocks frames = absurd s
run_reads_are shape flash arena pinned level (r ∷ rs) (es ∷ ess) [] (count ∷ counts) s blocks frames = absurd blocks
run_reads_are shape flash arena pinned level (r ∷ rs) (es ∷ ess) (bs ∷ bss) (count ∷ counts) s blocks frames =
    let pages : length r.firsts ≡ run_pages shape count = s.0.pages ∙ (λ i. run_pages (blocks.0 i) (frames.0 i)) in
    let own = once_more (nat_le level pinned) r (run_pages shape count) frames.1 pages in
    let rest = run_reads_are shape flash arena pinned (level + 1) rs ess bss counts s.1 blocks.2 frames.2 in
    omega (arith, own, rest)
