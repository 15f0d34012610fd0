-- A log matches a flash that was just formatted.
use Rattle.std.proofs.Common.{◌≡◌, ℕ, zero, suc, ◌<◌, ◌≤◌, [], ◌∷◌, replicate, Ok, refl, ◌∙◌, arith}
use Rattle.pk_base.{specs.Shape.IsShape, specs.Page.Flash, specs.Page.page_at, specs.Page.erased, specs.Page.whole}
use Rattle.pk_nand.proofs.Leaving.{page_at-slice_set}
use Rattle.pk_jrnfmt.specs.Epoch.{epoch}
use Rattle.pk_meta.specs.Run.{run}
use Rattle.pk_rootfmt.{specs.Root.root_bytes, specs.Held.first}
use Rattle.pk_buf.specs.Table.{no_entries}
use Rattle.pk_jrn.specs.Epochs.{JournalEpoch, started, AreErased, EpochOnFlash}
use Rattle.pk_model.specs.Found.{Found, found_under, runs_from}
use Rattle.pk_compact.proofs.Examples.{small, made, made_newest}
use Rattle.pk_log.{specs.Logs.LogOnFlash, specs.Logs.Opens, specs.State.opened, proofs.Standing.opens}

abbrev nothing : Found
nothing = record { newest = []; older = []; runs = [] ∷ [] ∷ [] ∷ [] ∷ [] }

nothing_found : found_under small (page_at made) first ≡ Ok nothing
unfolding found_under epoch runs_from run
nothing_found = refl

erased_at : (n k : ℕ) → k < n → page_at (replicate n erased) k ≡ erased
erased_at zero k low = absurd (omega (arith, low))
erased_at (suc n) zero low = refl
erased_at (suc n) (suc k) low = erased_at n k (omega (arith, low))

behind_root : (k : ℕ) → 16 ≤ k → k < 1024 → page_at made k ≡ erased
behind_root k low high = page_at-slice_set (replicate 1024 erased) 0 k (whole (root_bytes small first)) (λ is. omega (arith, low, is)) ∙ erased_at 1024 k high

epoch_erased : AreErased small made (2 ∷ 3 ∷ [])
epoch_erased (suc (suc n)) small_n k low high = absurd (omega (arith, small_n))
epoch_erased _ small_n k low high = behind_root k (omega (arith, low)) (omega (arith, high))

abbrev first_epoch : JournalEpoch
first_epoch = started small 1 (2 ∷ 3 ∷ [])

-- what `Log::new` and the calls after it require exists
pub made_opens : ((flash : Flash) → AreErased small flash (2 ∷ 3 ∷ []) → EpochOnFlash first_epoch flash)
    → Opens (record { shape = small; root = first }) 0 first_epoch (no_entries small) (no_entries small) made nothing
made_opens fits = search (made_newest, nothing_found, fits made epoch_erased)

pub made_logs : IsShape small → ((flash : Flash) → AreErased small flash (2 ∷ 3 ∷ []) → EpochOnFlash first_epoch flash)
    → LogOnFlash (opened (record { shape = small; root = first }) 0 first_epoch (no_entries small) (no_entries small)) made (0, first) nothing
made_logs is_shape fits = opens (record { shape = small; root = first }) 0 first_epoch (no_entries small) (no_entries small) made nothing is_shape (made_opens fits)
