-- A drive that agrees with its board represents one map.
use Rattle.std.proofs.Common.{◌≡◌, ℕ, sym, ap, subst, ◌∙◌, Option, Some, Ok}
use Rattle.pk_base.{specs.Shape.Shape, specs.Page.Flash, specs.Page.page_at, specs.Map.Map, proofs.Logic.some_same, proofs.Logic.ok_same}
use Rattle.pk_rootfmt.specs.Root.{Root}
use Rattle.pk_model.{specs.Found.Found, specs.Found.found_under, specs.Reading.reading}
use Rattle.pk_law_steps.proofs.Untouched.{under_reads}
use Rattle.pk_parts.{specs.Parts.Parts, specs.Parts.settled_parts, specs.Agreeing.DriveOnFlashWith, specs.Agreeing.DriveOnFlash, specs.Moves.StandsFor, specs.Moves.StandsBetween}
use Rattle.pk_parts.proofs.Halves.{between}

-- what the drive's map reads as
pub reads_as : (d : Parts) (shape : Shape) (flash : Flash) (m : Map) → StandsFor d shape flash m → reading shape flash d.log.pending ≡ Ok m
reads_as d shape flash m is = under_reads shape flash d.log.pending is.top is.found m is.with.pending

pub reads_between : (d : Parts) (shape : Shape) (flash : Flash) (m : Map) → StandsBetween d shape flash m → reading shape flash d.log.pending ≡ Ok m
reads_between d shape flash m is = under_reads shape flash d.log.pending is.top is.found m is.with.pending

pub agrees_between : (d : Parts) (told : Option Shape) (shape : Shape) (flash : Flash) (m : Map) → told ≡ Some shape → StandsBetween d shape flash m → DriveOnFlash d told flash
agrees_between d told shape flash m is stands = record {
  shape = shape;
  top = stands.top;
  found = stands.found;
  without = stands.without;
  all = m;
  told_is = is;
  with = stands.with;
  course = stands.course;
}

pub agrees_so : (d : Parts) (told : Option Shape) (shape : Shape) (flash : Flash) (m : Map) → told ≡ Some shape → StandsFor d shape flash m → DriveOnFlash d told flash
agrees_so d told shape flash m is stands = agrees_between d told shape flash m is (between d shape flash m stands)

-- the drive represents its map
pub stands_between : (d : Parts) (told : Option Shape) (flash : Flash) (a : DriveOnFlash d told flash) → StandsBetween d d.log.shape flash a.all
stands_between d told flash a =
    subst (λ (s : Shape). StandsBetween d s flash a.all) (sym a.with.shape_is) (record { top = a.top; found = a.found; without = a.without; with = a.with; course = a.course })

-- a drive agrees with one flash for one root, and for what is found under it
pub found_once : (a b : Parts) (shape : Shape) (flash : Flash) (top top' : ℕ × Root) (found found' : Found) (w m w' m' : Map)
    → DriveOnFlashWith a shape flash top found w m → DriveOnFlashWith b shape flash top' found' w' m' → found' ≡ found
found_once a b shape flash top top' found found' w m w' m' one other =
    let same_top : top' ≡ top = some_same top' top (sym other.committed.is_top ∙ one.committed.is_top) in
    ok_same found' found (sym other.committed.is_found ∙ (ap (λ (t : ℕ × Root). found_under shape (page_at flash) t.1) same_top ∙ one.committed.is_found))

-- so the map that it represents was found once
pub same_found : (d : Parts) (shape : Shape) (flash : Flash) (m : Map) (one other : StandsFor d shape flash m) → other.found ≡ one.found
same_found d shape flash m one other = found_once d d shape flash one.top other.top one.found other.found one.without m other.without m one.with other.with

-- by whatever drive, with whatever blocks
pub found_between : (a b : Parts) (shape : Shape) (flash : Flash) (m m' : Map) (one : StandsBetween a shape flash m) (other : StandsBetween b shape flash m') → other.found ≡ one.found
found_between a b shape flash m m' one other = found_once (settled_parts a) (settled_parts b) shape flash one.top other.top one.found other.found one.without m other.without m' one.with other.with
