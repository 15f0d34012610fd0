-- The first wrong field of a root page.
use Rattle.std.specs.Prelude.{ℕ, zero, suc, if◌then◌else◌, ◌+◌, ◌-◌, ◌*◌, List, [], ◌∷◌, ◌++◌, drop, Bool, ◌&&◌, ◌||◌, not, ◌==◌, nat_le, nat_lt, Option, None}
use Rattle.std.specs.List.{list_any}
use Rattle.pk_base.{specs.Fields.u16_at, specs.Fields.u32_at, specs.Fields.zeros, specs.FieldFaults.u64_at, specs.FieldFaults.unlike, specs.FieldFaults.unless, specs.FieldFaults.first_fault}
use Rattle.pk_base.specs.declared.sizes.TheConstants.{ROOT_BLOCKS, EPOCH_BLOCKS, MOST_SPACES}
use Rattle.pk_base.specs.Shape.{Shape, page_entries, cap, run_blocks, limit}
use Rattle.pk_rootfmt.specs.declared.layout.TheConstants.{VERSION, LIMITS_VERSION, LIST_FROM}
use Rattle.pk_rootfmt.specs.Root.{u16s_at, u32s_at, has_limits, has_limits_room, list_from}

-- PINKROOT
abbrev pub root_magic : List ℕ
root_magic = 80 ∷ 73 ∷ 78 ∷ 75 ∷ 82 ∷ 79 ∷ 79 ∷ 84 ∷ []

-- a block after the root blocks that none of the blocks before is
abbrev pub is_other_block : Shape → List ℕ → ℕ → Bool
is_other_block shape before block = nat_le ROOT_BLOCKS block && nat_lt block shape.blocks && not (list_any (λ other. block == other) before)

-- the first wrong one of these block numbers, which begin at a place after other ones
abbrev pub blocks_fault : Shape → ℕ → List ℕ → List ℕ → Option ℕ
blocks_fault shape at before [] = None
blocks_fault shape at before (b ∷ bs) = first_fault (unless at (is_other_block shape before b) ∷ blocks_fault shape (at + 2) (before ++ b ∷ []) bs ∷ [])

-- one of the two versions; that with limits only if a page has room for limits
abbrev pub is_version : Shape → ℕ → Bool
is_version shape version = version == VERSION || (version == LIMITS_VERSION && has_limits_room shape)

-- one to eight namespaces if the page has limits, otherwise zero
abbrev pub is_space_count : ℕ → ℕ → Bool
is_space_count version count = if version == LIMITS_VERSION then nat_le 1 count && nat_le count MOST_SPACES else count == 0

-- the first wrong one of these numbers: the first n are limits that together are at most `left` pages, and the others are zero
abbrev pub limits_fault : ℕ → ℕ → ℕ → List ℕ → Option ℕ
limits_fault at left n [] = None
limits_fault at left zero (x ∷ xs) = first_fault (unless at (x == 0) ∷ limits_fault (at + 4) left zero xs ∷ [])
limits_fault at left (suc n) (x ∷ xs) = first_fault (unless at (nat_le 1 x && nat_le x left) ∷ limits_fault (at + 4) (left - x) n xs ∷ [])

-- an older epoch has the number before, so the newest is at least 2 if there is one
abbrev pub is_epoch : ℕ → ℕ → ℕ → Bool
is_epoch journal number epoch = nat_le 1 epoch && nat_le epoch number && (journal == EPOCH_BLOCKS || nat_le 2 epoch)

-- the entries of the run of this level
abbrev pub is_run_count : Shape → ℕ → ℕ → Bool
is_run_count shape level entries = nat_le entries (cap shape level * page_entries shape)

module _ (shape : Shape) (page : List ℕ) where
  -- the fields before the numbers in order, each with its place
  abbrev pub shape_checks : List (Option ℕ)
  shape_checks =
      unlike 0 root_magic page ∷ unless 8 (is_version shape (u16_at page 8)) ∷ unless 10 (u16_at page 10 == shape.block_pages) ∷ unless 12 (u32_at page 12 == shape.page_bytes)
      ∷ unless 16 (u16_at page 16 == shape.blocks) ∷ unless 18 (u16_at page 18 == EPOCH_BLOCKS || u16_at page 18 == 2 * EPOCH_BLOCKS) ∷ unless 20 (is_space_count (u16_at page 8) (u32_at page 20)) ∷ []

  -- the numbers of the root, of its newest epoch and of the entries of its runs
  abbrev pub number_checks : List (Option ℕ)
  number_checks =
      unless 24 (nat_le 1 (u64_at page 24)) ∷ unless 32 (is_epoch (u16_at page 18) (u64_at page 24) (u64_at page 32))
      ∷ unless 40 (is_run_count shape 1 (u32_at page 40)) ∷ unless 44 (is_run_count shape 2 (u32_at page 44)) ∷ unless 48 (is_run_count shape 3 (u32_at page 48))
      ∷ unless 52 (is_run_count shape 4 (u32_at page 52)) ∷ unlike 56 (zeros 8) page ∷ []

  -- the limits, if the page has limits
  unfoldable pub space_fault : Option ℕ
  space_fault = if has_limits page then limits_fault LIST_FROM (limit shape) (u32_at page 20) (u32s_at MOST_SPACES (drop LIST_FROM page)) else None

  -- as many blocks as these fields name
  unfoldable pub listed : ℕ
  listed =
      u16_at page 18 + (run_blocks shape (u32_at page 40) + (run_blocks shape (u32_at page 44) + (run_blocks shape (u32_at page 48) + run_blocks shape (u32_at page 52))))

  -- the blocks, and the zeros after them
  abbrev pub list_checks : List (Option ℕ)
  list_checks =
      blocks_fault shape (list_from page) [] (u16s_at listed (drop (list_from page) page))
      ∷ unlike (list_from page + 2 * listed) (zeros (shape.page_bytes - (list_from page + 2 * listed))) page ∷ []

  unfoldable pub shape_fault : Option ℕ
  shape_fault = first_fault shape_checks

  unfoldable pub number_fault : Option ℕ
  number_fault = first_fault number_checks

  unfoldable pub list_fault : Option ℕ
  list_fault = first_fault list_checks

  -- the first byte of the first wrong field of a page
  abbrev pub root_fault : Option ℕ
  root_fault = first_fault (shape_fault ∷ number_fault ∷ space_fault ∷ list_fault ∷ [])
