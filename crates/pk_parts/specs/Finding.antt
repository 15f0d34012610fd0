-- Where the value of a key is.
use Rattle.std.specs.Prelude.{◌≡◌, ℕ, List, Option, Some, None, Result, Ok, Err}
use Rattle.std.{specs.FinMap.get, specs.FinMap.Entries.find}
use Rattle.pk_base.{specs.Key.Key, specs.Key.key_cmp, specs.Shape.Shape, specs.Page.Flash, specs.Page.page_at, specs.Entry.Entry, specs.Entry.Place, specs.Map.Map}
use Rattle.pk_base.{specs.declared.entry.Entry.Entry as RustEntry, specs.declared.entry.Entry.TheVariants.Put, specs.declared.entry.Entry.TheVariants.Gone}
use Rattle.pk_segfmt.specs.Value.{value_at}
use Rattle.pk_nand.specs.declared.types.Fault.{Fault}
use Rattle.pk_model.specs.Found.{Found}
use Rattle.pk_law_steps.specs.Under.{places}

-- the place that an entry names
abbrev pub named_by : Option RustEntry → Option Place
named_by None = None
named_by (Some (Put key page len)) = Some (record { page = page; len = len })
named_by (Some (Gone key)) = None

-- the same of an entry that was searched for
abbrev pub named_by_found : Result (Option RustEntry) Fault → Result (Option Place) Fault
named_by_found (Ok e) = Ok (named_by e)
named_by_found (Err f) = Err f

-- the map has no value of the key, or the one that is at this place
abbrev pub IsThere : Shape → Flash → Map → Key → Option Place → Type 0
IsThere shape flash m key None = get m key ≡ None
IsThere shape flash m key (Some p) = (v : List ℕ) × (value_at shape (page_at flash) key p ≡ Ok v) × (get m key ≡ Some v)

-- what a search for a key says of the places of the values that are there, and of the map
pub record IsPlaceIn (shape : Shape) (flash : Flash) (found : Found) (pending : List Entry) (m : Map) (key : Key) (answer : Option Place) : Type 0 where
  pub placed : find key_cmp key (places found pending) ≡ answer
  pub there : IsThere shape flash m key answer
