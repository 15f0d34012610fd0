use Rattle.std.proofs.Common.{◌≡◌, inl, inr, ℕ, None, sym, ap, subst, ◌∙◌, Option}
use Rattle.std.specs.Prelude.{Result}
use Rattle.pk_base.specs.Shape.{Shape}
use Rattle.pk_nand.{specs.BoardState.BoardState, specs.declared.types.LoadFault.LoadFault}
use Rattle.pk_remap.{specs.Remapped.remap_board, specs.Remapped.is_open, specs.Loading.HoldsOuter, specs.Loading.OpensOuter, specs.Loading.shown_over, specs.Loading.loaded_remap}
use Rattle.pk_remap.proofs.Showing.{same_pages, same_trail}
use Rattle.pk_top.specs.Loads.{LoadRefused}
use Rattle.pk_top.proofs.SparedRuns.{runs_from, runs_loaded, runs_refused, reason_of, shut_image, opens_not_bad, not_loaded_outer}
use Rattle.pk_top.proofs.spared.run_loaded.Goals as goal

pub returns-in-Ok : goal.returns-in-Ok
returns-in-Ok g c =
    let remap = c.args.remap.now in
    let inner : BoardState = g.B.Nand.state remap.inner in
    let old : BoardState = remap_board remap.image remap.work remap.log remap.counts inner in
    let there = c.load.new.self in
    let mid : BoardState = remap_board there.image there.work there.log there.counts (g.B.Nand.state there.inner) in
    let none : old.shape ≡ None = ap (λ (s : BoardState). s.shape) c.requires.fresh in
    record {
      runs = runs_loaded _ c.args.spares c.requires.fits old _ _ none mid _ c.in-Ok.ensures.ok c.run.ensures.runs;
      opened = λ shape held.
          let T : ℕ → Type 0 = λ n. HoldsOuter n shape inner in
          let O : Result (Option Shape) LoadFault → Type 0 = λ r. OpensOuter remap.work.spares shape inner old r mid in
          let own = subst O c.in-Ok.is (c.load.ensures.opens (shut_image (is_open remap.image) remap.work.shape none) shape (subst T (sym c.requires.spares) held)) in
          let same : mid ≡ loaded_remap c.args.log c.args.spares shape inner = own.1 ∙ (λ i. shown_over (c.requires.spares i) shape inner (c.requires.fresh i)) in
          inl (runs_from _ _ mid _ _ same c.run.ensures.runs);
    }

pub returns-in-Err : goal.returns-in-Err
returns-in-Err g c =
    let remap = c.args.remap.now in
    let inner : BoardState = g.B.Nand.state remap.inner in
    let old : BoardState = remap_board remap.image remap.work remap.log remap.counts inner in
    let there = c.load.new.self in
    let below : BoardState = g.B.Nand.state there.inner in
    let mid : BoardState = remap_board there.image there.work there.log there.counts below in
    let none : old.shape ≡ None = ap (λ (s : BoardState). s.shape) c.requires.fresh in
    let shut = shut_image (is_open remap.image) remap.work.shape none in
    let status : ℕ = c.of_load_fault.result.0 in
    let refused : LoadRefused old mid status = record {
      fault = c.in-Err.fault;
      tells = c.of_load_fault.ensures;
      reason = reason_of _ c.args.spares c.requires.fits old mid status none c.load.result c.in-Err.fault c.in-Err.is c.load.ensures.fault c.load.ensures.no_fault c.load.ensures.bad;
      failed = c.in-Err.ensures.err;
    } in
    record {
      runs = runs_refused _ c.args.spares c.requires.fits old mid status none refused;
      opened = λ shape held.
          let T : ℕ → Type 0 = λ n. HoldsOuter n shape inner in
          let O : Result (Option Shape) LoadFault → Type 0 = λ r. OpensOuter remap.work.spares shape inner old r mid in
          let own = subst O c.in-Err.is (c.load.ensures.opens shut shape (subst T (sym c.requires.spares) held)) in
          let loads = c.load.ensures.reads shut in
          inr (not_loaded_outer c.args.log inner old mid below status c.requires.fresh refused (opens_not_bad remap.work.spares shape inner old mid c.in-Err.fault own)
          (same_pages c.args.spares shape inner below held c.load.result loads) (same_trail inner below c.load.result loads));
    }
