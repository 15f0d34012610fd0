-- A list of keys that is said page by page.
use Rattle.std.specs.Prelude.{◌≡◌, ℕ, ◌*◌, ◌≤◌, ◌<◌, List, ◌++◌, length, Option, Some, None, true}
use Rattle.std.specs.FinMap.{keys}
use Rattle.pk_base.{specs.Key.Key, specs.Map.Map}
use Rattle.pk_nvme.specs.declared.status.TheConstants.{UNRECOVERED_ERROR}
use Rattle.pk_host.{specs.Port.PortState, specs.Listing.above}
use Rattle.pk_words.{specs.Lines.key_lines, specs.declared.sizes.TheConstants.LINE_BYTES}
use Rattle.pk_mirror.{specs.Pair.Mirrored, specs.Ranks.IsText, specs.Ranks.keys_left, specs.declared.error.MirrorError.MirrorError}
use Rattle.pk_mirror.specs.declared.error.MirrorError.TheVariants.{Refused, Port, Split}
use Rattle.pk_mirrorwords.specs.PairAnswers.{PairUnread, PairFault}

-- the keys after this one, or all of them
abbrev pub keys_after : Option Key → Map → List Key
keys_after None m = keys m
keys_after (Some key) m = above key (keys m)

-- The text has a line for each key up to this one, and no more bytes than that many lines have.
pub record IsListed (first : PortState) (last : Option Key) (text : List ℕ) : Type 0 where
  pub lines : (m : Map) → first.map ≡ Some m → (front : List Key) × (keys m ≡ front ++ keys_after last m) × (text ≡ key_lines front) × (length text ≤ LINE_BYTES * length front)

-- Either all keys are listed, or those up to a later one.
abbrev pub ListGoesOn : PortState → Option Key → Option Key → List ℕ → List ℕ → Type 0
ListGoesOn first last None old new = (m : Map) → first.map ≡ Some m → new ≡ key_lines (keys m)
ListGoesOn first last (Some next) old new = IsListed first (Some next) new × IsText next × (keys_left (Some next) < keys_left last)

-- why a page has no answer
abbrev pub PageFails : Mirrored → PortState → PortState → PortState → PortState → MirrorError → Type 0
PageFails mirror first first' second second' (Refused side status) = PairUnread first first' second second' × (status ≡ UNRECOVERED_ERROR)
PageFails mirror first first' second second' (Port side) = PairFault first first' second second'
PageFails mirror first first' second second' Split = mirror.split ≡ true
