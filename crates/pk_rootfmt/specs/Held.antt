-- The value of a root that is held in memory, and the laws of its page.
use Rattle.std.specs.Prelude.{◌≡◌, ℕ, ◌+◌, ◌*◌, ◌≤◌, ◌==◌, ◌||◌, List, [], ◌∷◌, length, true, Option, Some, None}
use Rattle.pk_base.specs.Shape.{Shape, IsShape, meta_blocks}
use Rattle.pk_base.specs.declared.sizes.TheConstants.{ROOT_BLOCKS, EPOCH_BLOCKS, MOST_SPACES}
use Rattle.pk_rootfmt.specs.Root.{Root, root_bytes, root_page, is_root}

-- a root of a flash of this shape
pub record Held : Type 0 where
  pub shape : Shape
  pub root : Root

-- no root: the number 0, no blocks and no limits
abbrev pub none : Root
none = record { number = 0; epoch = 0; newest = []; older = []; counts = 0 ∷ 0 ∷ 0 ∷ 0 ∷ []; runs = [] ∷ [] ∷ [] ∷ [] ∷ []; limits = [] }

-- the first root of a flash without limits: epoch 1 in the two blocks after the root blocks, and empty runs
abbrev pub first : Root
first = record { number = 1; epoch = 1; newest = ROOT_BLOCKS ∷ (ROOT_BLOCKS + 1) ∷ []; older = []; counts = 0 ∷ 0 ∷ 0 ∷ 0 ∷ []; runs = [] ∷ [] ∷ [] ∷ [] ∷ []; limits = [] }

-- the first root of a flash with these limits
abbrev pub first_with : List ℕ → Root
first_with limits = record first { limits = limits }

-- the sum of the sizes of runs
abbrev pub total : List ℕ → ℕ
total [] = 0
total (n ∷ ns) = n + total ns

-- the blocks of an epoch, or zeros if there are none
abbrev pub two_of : List ℕ → List ℕ
two_of [] = 0 ∷ 0 ∷ []
two_of (b ∷ bs) = b ∷ bs

-- the blocks of the older epoch, if there is one
abbrev pub older_of : List ℕ → Option (List ℕ)
older_of [] = None
older_of (b ∷ bs) = Some (b ∷ bs)

abbrev pub blocks_or_none : Option (List ℕ) → List ℕ
blocks_or_none None = []
blocks_or_none (Some bs) = bs

-- what a root in memory keeps: room for the blocks of all runs and of two epochs, and for eight limits
pub record HasRoom (shape : Shape) (journal spaces : ℕ) (epochs counts sizes blocks limits : List ℕ) : Type 0 where
  pub epochs_room : length epochs ≡ 2 * EPOCH_BLOCKS
  pub epochs_fit : (journal == 0 || journal == EPOCH_BLOCKS || journal == 2 * EPOCH_BLOCKS) ≡ true
  pub four_counts : length counts ≡ 4
  pub four : length sizes ≡ 4
  pub room : length blocks ≡ meta_blocks shape + 2 * EPOCH_BLOCKS
  pub fits : total sizes ≤ meta_blocks shape
  pub limits_room : length limits ≡ MOST_SPACES
  pub limits_fit : spaces ≤ MOST_SPACES

-- the page of a root is read as the root
abbrev pub RootReadsBack : Type 0
RootReadsBack = (shape : Shape) (root : Root) → IsShape shape → is_root shape root ≡ true → root_page shape (root_bytes shape root) ≡ Some root
