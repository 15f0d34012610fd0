-- Commands that ended.
use Rattle.std.proofs.Common.{◌≡◌, inl, inr, ℕ, refl, sym, ap, subst, ◌∙◌, Bool, true, false, List, [], ◌<◌, length, Option}
use Rattle.pk_base.{specs.Shape.Shape, specs.Shape.page_entries, specs.Page.Flash, proofs.ShapeLemmas.entries_some}
use Rattle.pk_nvme.{specs.Command.Command, specs.declared.request.Request.Request}
use Rattle.pk_nand.specs.BoardState.{BoardState}
use Rattle.pk_walk.specs.Walking.{Walk}
use Rattle.pk_call.{specs.Seen.reply_of, specs.declared.types.Outcome.Outcome}
use Rattle.pk_parts.{specs.Parts.Parts, specs.Parts.sight_of, specs.Agreeing.DriveOnFlash}
use Rattle.pk_core.{specs.Agreeing.DriveOnFlashBetween, specs.Done.Does, specs.Done.Executes, specs.Serving.IsServable}

-- one that did not change the drive and the pages of its board
pub executes_quiet : (d e : Parts) (old new : BoardState) (r : Request) (c : Command) (o : Outcome) (into : List ℕ) (reads : ℕ) → IsServable d old r → e ≡ d → new.pages ≡ old.pages → o.stopped ≡ false
    → Does old new (sight_of d) (sight_of e) c (reply_of o into) reads o.stopped → Executes d e old new c o into reads
executes_quiet d e old new r c o into reads servable same pages runs does = record {
  stops = ap (λ (x : Parts). x.stopped) same ∙ (servable.runs ∙ sym runs);
  agrees = λ _.
      let shape = ap (λ (b : BoardState). b.shape) does.rest in
      let there : DriveOnFlash d new.shape new.pages = subst (λ (f : Flash). DriveOnFlash d new.shape f)
      (sym pages) (subst (λ (s : Option Shape). DriveOnFlash d s old.pages) (sym shape) servable.agrees) in
      let between : DriveOnFlashBetween d new.shape new.pages = (there, servable.few) in
      subst (λ (x : Parts). DriveOnFlashBetween x new.shape new.pages) (sym same) between;
  does = does;
}

-- the walk of a List is no part of what a drive keeps on its flash
walked_agrees : (d : Parts) (w : Walk) (told : Option Shape) (flash : Flash) → DriveOnFlash d told flash → DriveOnFlash (record d { walk = w }) told flash
walked_agrees d w told flash a = record {
  shape = a.shape;
  top = a.top;
  found = a.found;
  without = a.without;
  all = a.all;
  told_is = a.told_is;
  with = record {
    shape_is = a.with.shape_is;
    is_flash = a.with.is_flash;
    index = a.with.index;
    committed = a.with.committed;
    pending = a.with.pending;
    placed = a.with.placed;
    former = a.with.former;
    former_read = a.with.former_read;
    reclaim = a.with.reclaim;
    uses = a.with.uses;
  };
  course = elim a.course [
    | inl is ↦ inl (record { settles = is.settles; moves = is.moves; epoch = is.epoch })
    | inr half ↦ inr (elim half [
      | inl is ↦ inl (record { index = is.index; moves = is.moves; epoch = is.epoch; none_pending = is.none_pending })
      | inr is ↦ inr (record { settles = is.settles; victim = is.victim; phase = is.phase; half = is.half; none_pending = is.none_pending })
    ])
  ];
}

pub same_but_walk : (d e : Parts) → e ≡ d → e ≡ record d { walk = e.walk }
same_but_walk d e same = subst (λ (x : Parts). x ≡ record d { walk = x.walk }) (sym same) refl

-- one that changed nothing of the drive but the walk of a List
pub executes_walked : (d e : Parts) (old new : BoardState) (r : Request) (c : Command) (o : Outcome) (into : List ℕ) (reads : ℕ)
    → IsServable d old r → e ≡ record d { walk = e.walk } → new.pages ≡ old.pages → o.stopped ≡ false
    → Does old new (sight_of d) (sight_of d) c (reply_of o into) reads o.stopped → Executes d e old new c o into reads
executes_walked d e old new r c o into reads servable same pages runs does =
    let quiet = executes_quiet d d old new r c o into reads servable refl pages runs does in
    subst (λ (x : Parts). Executes d x old new c o into reads) (sym same)
    (record { stops = quiet.stops; agrees = λ is. (walked_agrees d e.walk new.shape new.pages (quiet.agrees is).0, (quiet.agrees is).1); does = does })

-- what is both stopped and not
pub never : {b : Bool} → b ≡ true → b ≡ false → ⊥
never is not = let e : true ≡ false = sym is ∙ not in cc

-- if nothing is pending, fewer entries are than a page of the journal takes
pub none_between : (d : Parts) (told : Option Shape) (flash : Flash) → DriveOnFlash d told flash → d.log.pending ≡ [] → DriveOnFlashBetween d told flash
none_between d told flash agrees none = (
  agrees,
  subst (λ (n : ℕ). n < page_entries d.log.shape) (sym (ap length none)) (entries_some d.log.shape agrees.with.index.logs.is_shape),
)
