-- What a load of a page asks of a merge, and what it leaves of it.
use Rattle.std.proofs.Common.{◌≡◌, ◌<◌, true, false, sym, ap, subst, List}
use Rattle.pk_base.{specs.Shape.Shape, specs.Entry.Entry}
use Rattle.pk_nand.{specs.BoardState.BoardState, specs.Calls.IsReady}
use Rattle.pk_pin.specs.Frames.{Frames}
use Rattle.pk_run.specs.Kept.{Kept}
use Rattle.pk_merge.{specs.declared.source.Source.Source, specs.declared.source.Source.TheVariants.Frozen, specs.declared.source.Source.TheVariants.Run, specs.Cursors.Cursor, specs.Cursors.Loads}
use Rattle.pk_merge.specs.Sources.{count_of, Has, FollowsIn, IsOf, wants_page_in, MayLoadIn, LoadsIn}
use Rattle.pk_merge.{specs.Merging.Merger, specs.Steps.LoadsSource, specs.Steps.LoadsTarget}

-- the page at a cursor in the source may be loaded, if it wants one
pub may_load_in : {X : Type 0} (source : Source X) (c : Cursor) (shape : Shape) (board : BoardState)
    (arena : Frames) (es : List Entry) → IsReady board shape → IsOf shape source
    → Has source board.pages arena es → FollowsIn source board.pages c → c.place < count_of source
    → wants_page_in source c ≡ true → MayLoadIn source c board arena
may_load_in (Frozen b) c shape board arena es ready of has follows exists wants = absurd (let no : false ≡ true = wants in cc)
may_load_in (Run r) c shape board arena es ready of has follows exists wants = record {
  ready = subst (IsReady board) (sym of) ready;
  entries = es;
  stands = has;
  follows = follows;
  exists = exists;
  wants = wants;
}

-- if it is loaded, the merge has loaded the page of its source
pub loads_in : {X : Type 0} (source : Source X) (m : Merger) (old : BoardState) (c : Cursor)
    (new : BoardState) → LoadsIn source m.source old c new
    → LoadsSource source m old (record m { source = c }) new
loads_in (Frozen b) m old c new l = absurd l
loads_in (Run r) m old c new l = search (ap (λ (x : Cursor). record m { source = x }) l.cursor)

-- and so that of its target
pub loads_of : (target : Kept) (m : Merger) (old : BoardState) (c : Cursor) (new : BoardState)
    → Loads target m.target old c new → LoadsTarget target m old (record m { target = c }) new
loads_of target m old c new l = search (ap (λ (x : Cursor). record m { target = x }) l.cursor)
