-- The words that ask for a run over a flash with spare blocks.
use Rattle.std.specs.Prelude.{ℕ, Bool, true, false, ◌&&◌, nat_le, is_ok, if◌then◌else◌, List, [], ◌∷◌, Option, Some, None, option_and_then, codes, bytes_eq}
use Rattle.pk_base.specs.Shape.{Shape, checked}
use Rattle.pk_nvme.specs.Text.{number_of}
use Rattle.pk_remap.{specs.Places.inner_shape, specs.declared.layout.TheConstants.MOST_SPARES}
use Rattle.pk_top.specs.Words.{Word, make, serve, ask, assemble, show, word_of}

-- The word may be obeyed over a flash with this many spare blocks: it needs a drive, and with the spare blocks the shape of a drive that
-- it makes is still allowed.
abbrev pub fits_spares : ℕ → Word → Bool
fits_spares spares (make shape limits) = is_ok (checked (inner_shape shape spares))
fits_spares spares (serve frames) = true
fits_spares spares (ask task) = true
fits_spares spares assemble = false
fits_spares spares show = false

abbrev pub fits_spares_if : ℕ → Option Word → Bool
fits_spares_if spares None = false
fits_spares_if spares (Some word) = fits_spares spares word

-- a number of spare blocks, and the words to obey over them
pub record SparedForm : Type 0 where
  pub spares : ℕ
  pub rest : List (List ℕ)

abbrev pub spared_with : List (List ℕ) → ℕ → Option SparedForm
spared_with rest spares =
    if nat_le 1 spares && nat_le spares MOST_SPARES && fits_spares_if spares (word_of rest) then Some (record { spares = spares; rest = rest }) else None

-- what words of the form `spared S WORDS..` ask for; nothing if they are refused
abbrev pub spared_form : List (List ℕ) → Option SparedForm
spared_form (name ∷ number ∷ rest) = if bytes_eq name (codes "spared") then option_and_then (spared_with rest) (number_of number) else None
spared_form _ = None
