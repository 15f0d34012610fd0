-- How many frames the output of a merge may have.
use Rattle.std.proofs.Common.{◌≡◌, inl, inr, ℕ, ◌<◌, ◌≤◌, Bool, true, false, ◌==◌, ◌||◌, if◌then◌else◌, nat_le, nat_lt, List, [], ◌++◌, length, map, refl, ap, subst, ◌∙◌, arith}
use Rattle.std.proofs.Common.{length-append, le_trans}
use Rattle.std.{proofs.lemmas.Bool.cases_lt, proofs.lemmas.Bool.Decides.nat_tests}
use Rattle.pk_base.{specs.Shape.Shape, specs.Shape.IsShape, specs.Shape.cap, specs.Shape.pinned, specs.Shape.run_pages, specs.Merge.room, specs.Page.Flash, specs.Map.Map}
use Rattle.pk_base.{specs.Entry.Entry, specs.Firsts.firsts}
use Rattle.pk_rootfmt.specs.Root.{Root}
use Rattle.pk_pin.specs.Frames.{Frames}
use Rattle.pk_model.specs.Found.{Found}
use Rattle.pk_run.specs.Kept.{Kept, RunOnFlash}
use Rattle.pk_level.specs.Arenas.{IsPinnedIf}
use Rattle.pk_merge.specs.Jobs.{pins}
use Rattle.pk_law_work.proofs.Paging.{few_pages}
use Rattle.pk_law_steps.{specs.Under.IsUnder, specs.Merging.output_of as whole_output, proofs.FourRuns.next_is_level, proofs.Outputs.output_fits}
use Rattle.pk_schedule.{specs.declared.phase.Phase.Phase, specs.declared.phase.Phase.TheVariants.Idle, specs.declared.phase.Phase.TheVariants.Running, specs.declared.phase.Phase.TheVariants.Ready}
use Rattle.pk_schedule.{specs.Index.Index, specs.Index.IndexOnFlash, specs.Index.MergesInto, specs.Index.MergeStands, specs.Index.merging, specs.Index.output, proofs.Keeping.idle_leases}

-- a merge into a pinned level has frames for the pages of its output
abbrev pub most_output : Shape → ℕ → ℕ → ℕ
most_output shape frames level = if level == 0 || nat_lt (pinned shape frames) level then 0 else cap shape level

zero_false : (n : ℕ) → 1 ≤ n → (n == 0) ≡ false
zero_false n some = grind (arith, nat_tests)

lt_false : (x y : ℕ) → y ≤ x → nat_lt x y ≡ false
lt_false x y h = grind (arith, nat_tests)

gt_false : (x y : ℕ) → y < x → nat_le x y ≡ false
gt_false x y h = grind (arith, nat_tests)

le_true : (x y : ℕ) → x ≤ y → nat_le x y ≡ true
le_true x y h = grind (arith, nat_tests)

leases_few : (shape : Shape) (frames level : ℕ) (out : Kept) → 1 ≤ level → IsPinnedIf (nat_le level (pinned shape frames)) out → length out.firsts ≤ cap shape level
    → length out.leases ≤ most_output shape frames level
leases_few shape frames level out some pins few = elim (cases_lt (pinned shape frames) level) [
  | inl above ↦
      let bare : out.leases ≡ [] = subst (λ (b : Bool). IsPinnedIf b out) (gt_false level (pinned shape frames) above) pins in
      let none : length out.leases ≡ 0 = ap (λ (ls : List ℕ). length ls) bare in
      omega (arith, none)
  | inr within ↦
      let all : length out.leases ≡ length out.firsts = subst (λ (b : Bool). IsPinnedIf b out) (le_true level (pinned shape frames) within) pins in
      rw (zero_false level some, lt_false (pinned shape frames) level within) (omega (arith, all, few))
]

front_few : (xs ys zs : List Entry) → xs ≡ ys ++ zs → length ys ≤ length xs
front_few xs ys zs is = let all = ap (λ (es : List Entry). length es) is in let parts = length-append ys zs in omega (arith, all, parts)

pages_few : (shape : Shape) (level : ℕ) (out : Kept) (flash : Flash) (arena : Frames) (es : List Entry) → IsShape shape → out.shape ≡ shape → RunOnFlash out flash arena es
    → length es ≤ room shape level → length out.firsts ≤ cap shape level
pages_few shape level out flash arena es is same stands few =
    let many = stands.many in
    let pages : length out.firsts ≡ run_pages shape out.count = stands.pages ∙ ap (λ (s : Shape). run_pages s out.count) same in
    let most = few_pages shape level out.count is (omega (arith, many, few)) in
    omega (arith, pages, most)

module _ (x : Index) (frames : ℕ) (flash : Flash) (top : ℕ × Root) (found : Found) (m : Map) (stands : IndexOnFlash x frames flash top found)
    (under : IsUnder x.log.shape flash [] top found m) where
  abbrev out : Kept
  out = output x.schedule

  least : (level : ℕ) → MergesInto x top.1 found level → 1 ≤ level
  least level into = omega (arith, next_is_level x.log.shape (length (firsts found.older)) (map length found.runs) level into.due)

  pins_are : (level : ℕ) → MergesInto x top.1 found level → IsPinnedIf (pins x.schedule.job) out → IsPinnedIf (nat_le level (pinned x.log.shape frames)) out
  pins_are level into has =
      let target = into.target in
      let pinned_is = stands.pins_are in
      subst (λ (b : Bool). IsPinnedIf b out) (λ i. nat_le (target i) (pinned_is i)) has

  by_phase : (p : Phase) → x.schedule.phase ≡ p → MergeStands p x flash top.1 found → length out.leases ≤ most_output x.log.shape frames (merging p)
  by_phase Idle is merge =
      let none : length out.leases ≡ 0 = ap (λ (ls : List ℕ). length ls) (idle_leases x frames flash top found stands (ap merging is)) in
      omega (arith, none)
  by_phase (Running level) is merge =
      let into = merge.into in
      let runs = merge.runs.running in
      let few : length runs.merging.entries ≤ room out.shape out.level = le_trans (front_few _ _ _ runs.merging.makes) runs.lists.few in
      let here : length runs.merging.entries ≤ room x.log.shape level =
      subst (λ (n : ℕ). length runs.merging.entries ≤ room x.log.shape n) into.output_level (subst (λ (s : Shape). length runs.merging.entries ≤ room s out.level) into.output_shape few) in
      leases_few x.log.shape frames level out (least level into) (pins_are level into runs.frames.pinned)
      (pages_few x.log.shape level out flash x.arena runs.merging.entries stands.logs.is_shape into.output_shape runs.merging.stands here)
  by_phase (Ready level) is merge =
      let into = merge.into in
      let fits = output_fits x.log.shape flash [] top found m level stands.logs.is_shape under into.due in
      leases_few x.log.shape frames level out (least level into) (pins_are level into merge.whole.pinned)
      (pages_few x.log.shape level out flash x.arena (whole_output level found) stands.logs.is_shape into.output_shape merge.whole.stands fits)

  -- the output has frames if its level is pinned, and then no more than this level has pages
  pub output_most : length out.leases ≤ most_output x.log.shape frames (merging x.schedule.phase)
  output_most = by_phase x.schedule.phase refl stands.merge
