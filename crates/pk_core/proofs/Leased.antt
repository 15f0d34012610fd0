-- How many frames are leased: at least one for each page of the pinned levels, and at most one for each page of the levels that may have some.
use Rattle.std.proofs.Common.{◌≡◌, ℕ, zero, suc, ◌+◌, ◌-◌, ◌≤◌, List, [], ◌∷◌, ◌++◌, length, map, take, sum, ap, sym, subst, ◌∙◌, arith, length-append}
use Rattle.std.proofs.lemmas.List.Sums.{sum_by-cons}
use Rattle.pk_base.{specs.Shape.Shape, specs.Shape.run_pages, specs.Shape.pinned, specs.Page.Flash, specs.Map.Map, specs.Entry.Entry}
use Rattle.pk_adapt.specs.Adapted.{adapted}
use Rattle.pk_rootfmt.specs.Root.{Root}
use Rattle.pk_pin.{specs.Frames.Frames, specs.Frames.leased_frames, proofs.Leases.leases_counted}
use Rattle.pk_run.specs.Kept.{Kept}
use Rattle.pk_level.{specs.Levels.IsLevels, specs.Levels.AreOfLevels, specs.Levels.RunsOnFlash, specs.Arenas.AreBareAbove, specs.Arenas.last_level, specs.Arenas.leases_of}
use Rattle.pk_model.specs.Found.{Found}
use Rattle.pk_law_steps.specs.Under.{IsUnder}
use Rattle.pk_scan.specs.Opened.{HaveBlocks}
use Rattle.pk_schedule.{specs.Index.merging, specs.Index.output, proofs.Keeping.idle_leases, proofs.OutputFrames.most_output, proofs.OutputFrames.output_most}
use Rattle.pk_parts.{specs.Parts.Parts, specs.Parts.frames_of, specs.Parts.index_of, specs.Agreeing.DriveOnFlashWith, proofs.Holding.entries_of, proofs.Holding.pages_are}

module _ (shape : Shape) (flash : Flash) (arena : Frames) where
  -- this many levels are pinned after this one, itself included
  least : (pins level left : ℕ) (rs : List Kept) (bss : List (List ℕ)) (ess : List (List Entry)) (of_shape : Shape) → left ≡ suc pins - level → AreOfLevels of_shape pins level rs
      → HaveBlocks shape rs bss → RunsOnFlash flash arena rs ess → sum (map (run_pages shape) (take left (entries_of rs))) ≤ length (leases_of rs)
  least pins level zero rs bss ess of_shape so are have stand = omega arith
  least pins level (suc left) [] bss ess of_shape so are have stand = omega arith
  least pins level (suc left) (r ∷ rs) [] ess of_shape so are have stand = absurd have
  least pins level (suc left) (r ∷ rs) (bs ∷ bss) [] of_shape so are have stand = absurd stand
  least pins level (suc left) (r ∷ rs) (bs ∷ bss) (es ∷ ess) of_shape so are have stand =
      let all : length r.leases ≡ length r.firsts = are.0.frames (omega (arith, so)) in
      let one : length r.leases ≡ run_pages shape r.count = all ∙ stand.0.pages ∙ ap (λ (s : Shape). run_pages s r.count) have.0 in
      let others = least pins (suc level) left rs bss ess of_shape (omega (arith, so)) are.1 have.2 stand.1 in
      let both = length-append r.leases (leases_of rs) in
      let whole : sum (map (run_pages shape) (take (suc left) (entries_of (r ∷ rs)))) ≡ run_pages shape r.count + sum (map (run_pages shape) (take left (entries_of rs))) =
      sum_by-cons (λ (x : ℕ). x) (run_pages shape r.count) (map (run_pages shape) (take left (entries_of rs))) in
      omega (arith, one, others, both, whole)

  -- this many levels may have frames after this one, itself included
  most : (last level left : ℕ) (rs : List Kept) (bss : List (List ℕ)) (ess : List (List Entry)) → left ≡ suc last - level → AreBareAbove last level rs
      → HaveBlocks shape rs bss → RunsOnFlash flash arena rs ess → length (leases_of rs) ≤ sum (map (run_pages shape) (take left (entries_of rs)))
  most last level left [] bss ess so bare have stand = omega arith
  most last level left (r ∷ rs) [] ess so bare have stand = absurd have
  most last level left (r ∷ rs) (bs ∷ bss) [] so bare have stand = absurd stand
  most last level zero (r ∷ rs) (bs ∷ bss) (es ∷ ess) so bare have stand =
      let none : length r.leases ≡ 0 = ap (λ (ls : List ℕ). length ls) (bare.0 (omega (arith, so))) in
      let others = most last (suc level) zero rs bss ess (omega (arith, so)) bare.1 have.2 stand.1 in
      let both = length-append r.leases (leases_of rs) in
      omega (arith, none, others, both)
  most last level (suc left) (r ∷ rs) (bs ∷ bss) (es ∷ ess) so bare have stand =
      let few = stand.0.leased in
      let one : length r.firsts ≡ run_pages shape r.count = stand.0.pages ∙ ap (λ (s : Shape). run_pages s r.count) have.0 in
      let others = most last (suc level) left rs bss ess (omega (arith, so)) bare.1 have.2 stand.1 in
      let both = length-append r.leases (leases_of rs) in
      let whole : sum (map (run_pages shape) (take (suc left) (entries_of (r ∷ rs)))) ≡ run_pages shape r.count + sum (map (run_pages shape) (take left (entries_of rs))) =
      sum_by-cons (λ (x : ℕ). x) (run_pages shape r.count) (map (run_pages shape) (take left (entries_of rs))) in
      omega (arith, few, one, others, both, whole)

module _ (d : Parts) (shape : Shape) (flash : Flash) (top : ℕ × Root) (found : Found) (without all : Map) (agrees : DriveOnFlashWith d shape flash top found without all) where
  counted : length (leases_of d.levels.runs ++ (output d.schedule).leases) ≡ leased_frames d.arena
  counted = leases_counted d.arena (leases_of d.levels.runs ++ (output d.schedule).leases) agrees.index.arena_is.leases.only_these

  -- each page of the pinned levels has a frame
  pub leased_least : IsLevels d.levels → sum (map (run_pages shape) (take (pinned shape (frames_of d)) (entries_of d.levels.runs))) ≤ leased_frames d.arena
  leased_least known =
      let x = agrees.index in
      let P : Shape → ℕ → Type 0 = λ s n. sum (map (run_pages s) (take n (entries_of d.levels.runs))) ≤ leased_frames d.arena in
      let own = least d.log.shape flash d.arena d.levels.pinned 1 d.levels.pinned d.levels.runs top.1.runs found.runs d.levels.shape (omega arith) known.each x.run_blocks x.stand in
      let both = length-append (leases_of d.levels.runs) (output d.schedule).leases in
      let all = counted in
      let here : P d.log.shape d.levels.pinned = omega (arith, own, both, all) in
      subst (λ (s : Shape). P s (pinned s (frames_of d))) agrees.shape_is (subst (P d.log.shape) x.levels_pinned here)

  -- and no page more has one, if no merge runs and no level after the pinned ones has frames
  pub leased_pinned : IsLevels d.levels → AreBareAbove d.levels.pinned 1 d.levels.runs → merging d.schedule.phase ≡ 0
      → leased_frames d.arena ≡ sum (map (run_pages shape) (take (pinned shape (frames_of d)) (entries_of d.levels.runs)))
  leased_pinned known bare none =
      let x = agrees.index in
      let P : Shape → ℕ → Type 0 = λ s n. leased_frames d.arena ≤ sum (map (run_pages s) (take n (entries_of d.levels.runs))) in
      let own = most d.log.shape flash d.arena d.levels.pinned 1 d.levels.pinned d.levels.runs top.1.runs found.runs (omega arith) bare x.run_blocks x.stand in
      let both = length-append (leases_of d.levels.runs) (output d.schedule).leases in
      let no_output : length (output d.schedule).leases ≡ 0 = ap (λ (ls : List ℕ). length ls) (idle_leases (index_of d) (frames_of d) flash top found x none) in
      let all = counted in
      let here : P d.log.shape d.levels.pinned = omega (arith, own, both, all, no_output) in
      let few : leased_frames d.arena ≤ sum (map (run_pages shape) (take (pinned shape (frames_of d)) (entries_of d.levels.runs))) =
      subst (λ (s : Shape). P s (pinned s (frames_of d))) agrees.shape_is (subst (P d.log.shape) x.levels_pinned here) in
      let some = leased_least known in
      omega (arith, few, some)

  -- besides, only pages of other levels that may have frames have some, and pages of a merge's output
  pub leased_most :
      leased_frames d.arena
      ≤ sum (map (run_pages shape) (take (adapted shape (frames_of d) (map (run_pages shape) (entries_of d.levels.runs))) (entries_of d.levels.runs)))
      + most_output shape (frames_of d) (merging d.schedule.phase)
  leased_most =
      let x = agrees.index in
      let P : Shape → ℕ → Type 0 = λ s n. leased_frames d.arena ≤ sum (map (run_pages s) (take n (entries_of d.levels.runs))) + most_output s (frames_of d) (merging d.schedule.phase) in
      let last : ℕ = last_level d.levels (frames_of d) in
      let few = output_most (index_of d) (frames_of d) flash top found without x (subst (λ (s : Shape). IsUnder s flash [] top found without) (sym agrees.shape_is) agrees.committed) in
      let own = most d.log.shape flash d.arena last 1 last d.levels.runs top.1.runs found.runs (omega arith) x.arena_is.bare x.run_blocks x.stand in
      let both = length-append (leases_of d.levels.runs) (output d.schedule).leases in
      let all = counted in
      let here : P d.log.shape last = omega (arith, own, both, all, few) in
      let lasts : last ≡ adapted d.log.shape (frames_of d) (map (run_pages d.log.shape) (entries_of d.levels.runs)) = λ i.
      adapted (x.levels_shape i) (frames_of d) (pages_are d.log.shape flash d.arena d.levels.runs top.1.runs found.runs x.run_blocks x.stand i) in
      subst (λ (s : Shape). P s (adapted s (frames_of d) (map (run_pages s) (entries_of d.levels.runs)))) agrees.shape_is (subst (P d.log.shape) lasts here)
