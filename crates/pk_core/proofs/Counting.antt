-- The numbers of a Report, and those of the map.
use Rattle.std.proofs.Common.{◌≡◌, ℕ, ◌+◌, ◌*◌, ◌<◌, ◌≤◌, refl, sym, ap, subst, ◌∙◌, arith, List, [], ◌∷◌, ◌++◌, length, take, get_or, false, Some, None, Ok, map, suc}
use Rattle.std.{specs.List.flat_map, specs.List.AllByRecursion, proofs.lemmas.List.flat_map_more, proofs.lemmas.List.take_more, specs.FinMap.entries, proofs.lemmas.List.Sums.sum_by-cons}
use Rattle.pk_base.{specs.Fields.u32, specs.Shape.Shape, specs.Shape.pinned, specs.Page.Flash, specs.Page.page_at, specs.Map.Map, specs.Map.live, specs.Map.pages_in, proofs.Logic.some_same}
use Rattle.pk_base.specs.Key.{Key}
use Rattle.pk_model.{specs.Laws.IsHeldMap, specs.Laws.IsStorable, specs.Answer.early, specs.Answer.success, specs.Found.Found, specs.Reading.reading, proofs.HeldMap.map_held}
use Rattle.pk_model.{specs.Wear.root_number, specs.Wear.number_of, specs.Spaces.Terms, specs.Spaces.AreInSpaces, specs.Spaces.in_space, specs.Spaces.limits_at, specs.Spaces.terms_at}
use Rattle.pk_model.proofs.SpaceLemmas.{entries_in}
use Rattle.pk_nand.specs.BoardState.{BoardState}
use Rattle.pk_nvme.{specs.Seen.command_of, specs.Opcode.op_of, specs.declared.request.Request.Request}
use Rattle.pk_nvme.specs.declared.opcode.Opcode.TheVariants.{Flush}
use Rattle.pk_rootfmt.{specs.Root.Root, specs.Newest.newest_root}
use Rattle.pk_law_steps.proofs.Untouched.{under_reads}
use Rattle.pk_call.{specs.Sight.InSpace, specs.Sight.in_space_at, specs.Sight.live_of_all, specs.Drive.CountsMap, specs.Exec.report_of, specs.Seen.reply_of, specs.declared.types.Outcome.Outcome}
use Rattle.pk_parts.specs.Parts.{Parts, sight_of, counts_of, spaces_of, frames_of, terms_of, settled_parts, drive_limits, reported_from}
use Rattle.pk_parts.{proofs.Unchanging.own, proofs.Unchanging.same_ok, proofs.OwnLimits.few_with, proofs.OwnLimits.limits_on, proofs.OwnLimits.limits_with, proofs.OwnLimits.reported_here}
use Rattle.pk_parts.{specs.Agreeing.DriveOnFlashWith, specs.Agreeing.DriveOnFlash, proofs.Using.use_of_part}
use Rattle.pk_core.{specs.Done.Does, specs.Quiet.DoneWithout, specs.Quiet.DoneFor, specs.Quiet.eleven}
use Rattle.pk_core.proofs.Unchanging.{same_early, does_none, served, report_step, ok_sound}
use Rattle.pk_space.specs.Uses.{Use, space_live}
use Rattle.pk_law_isolation.proofs.Sums.{all_parts, space_pages, space_pages_sum}
use Rattle.pk_scan.proofs.ValuesHeld.{limit_few}

pub numbers_more : (xs into new : List ℕ) (i d : ℕ) → i < length xs → take (4 * i + 4) new ≡ take (4 * i) into ++ u32 (get_or xs i d) → take (4 * i) into ≡ flat_map u32 (take i xs)
    → take (4 * (i + 1)) new ≡ flat_map u32 (take (i + 1) xs)
numbers_more xs into new i d less front before =
    let size : 4 * (i + 1) ≡ 4 * i + 4 = omega arith in
    let x : ℕ = get_or xs i d in
    ap (λ (n : ℕ). take n new) size ∙ front ∙ ap (λ (r : List ℕ). r ++ u32 x) before ∙ flat_map_more u32 [] (take i xs) x ∙ ap (λ (r : List ℕ). flat_map u32 r) (sym (take_more xs i d less))

-- ---- the map

module _ (d : Parts) (shape : Shape) (flash : Flash) (top : ℕ × Root) (found : Found) (without all : Map) (a : DriveOnFlashWith d shape flash top found without all) where
  -- its map may be a drive's
  held_with : IsHeldMap shape (limits_at shape flash) all
  held_with =
      let storable = subst (λ (s : Shape). AllByRecursion (IsStorable s) d.log.pending) a.shape_is a.index.logs.pending_are in
      map_held shape flash d.log.pending all a.placed.is_shape a.is_flash storable (under_reads shape flash d.log.pending top found all a.pending)

  -- each of its keys is of a namespace of the drive
  in_drive : AreInSpaces (length (drive_limits d)) all
  in_drive = subst (λ (limits : List ℕ). AreInSpaces (length limits) all) (limits_with d shape flash top found without all a) held_with.in_spaces

  counts_map : (space : ℕ) → 1 ≤ space → space ≤ length (drive_limits d) → CountsMap shape (terms_of d) space all (in_space_at (spaces_of d) space) (counts_of d)
  counts_map space some most =
      let few = few_with d shape flash top found without all a in
      let used = use_of_part shape flash d.log.pending top found all d.spaces a.placed.is_shape a.is_flash a.pending a.uses space (some, omega (arith, most, few)) in
      subst (λ (here : InSpace). CountsMap shape (terms_of d) space all here (counts_of d)) (sym (reported_here d space some most)) (record {
        live_is = used.0;
        limit_is = refl;
        keys_is = used.1;
        pinned_is = a.index.levels_pinned ∙ ap (λ s. pinned s (frames_of d)) a.shape_is;
        frames_is = refl;
        in_spaces = in_drive;
      })

-- they are the same as if the blocks that leave were free
counts_settled : (d : Parts) (shape : Shape) (terms : Terms) (space : ℕ) (m : Map)
    → CountsMap shape terms space m (in_space_at (spaces_of (settled_parts d)) space) (counts_of (settled_parts d)) → CountsMap shape terms space m (in_space_at (spaces_of d) space) (counts_of d)
counts_settled d shape terms space m c = record { live_is = c.live_is; limit_is = c.limit_is; keys_is = c.keys_is; pinned_is = c.pinned_is; frames_is = c.frames_is; in_spaces = c.in_spaces }

-- on the drive's own shape
pub counts_own : (d : Parts) (board : BoardState) (a : DriveOnFlash d board.shape board.pages) (space : ℕ) → 1 ≤ space → space ≤ length (drive_limits d)
    → CountsMap d.log.shape (terms_of d) space a.all (in_space_at (spaces_of d) space) (counts_of d)
counts_own d board a space some most =
    counts_settled d d.log.shape (terms_of d) space a.all (counts_map (settled_parts d) d.log.shape board.pages a.top a.found a.without a.all (own d board a) space some most)

-- so are the live pages of its key's namespace
pub live_own : (d : Parts) (board : BoardState) (a : DriveOnFlash d board.shape board.pages) (space : ℕ) → 1 ≤ space → space ≤ length (drive_limits d)
    → space_live d.spaces space ≡ live d.log.shape (in_space space a.all)
live_own d board a space some most = sym (ap (λ (here : InSpace). here.live) (reported_here d space some most)) ∙ (counts_own d board a space some most).live_is

-- ---- the live pages of all namespaces

reported_live : (shape : Shape) (u : Use) (from : ℕ) (limits : List ℕ) (es : List (Key × List ℕ)) → ((i : ℕ) → i < length limits → space_live u (from + i) ≡ space_pages shape (from + i) es)
    → live_of_all (reported_from u from limits) ≡ space_pages_sum shape from (length limits) es
reported_live shape u from [] es each = refl
reported_live shape u from (most ∷ limits) es each =
    let Is : ℕ → Type 0 = λ n. space_live u n ≡ space_pages shape n es in
    let none : from + 0 ≡ from = omega arith in
    let first : Is from = subst Is none (each 0 (omega arith)) in
    let rest = reported_live shape u (from + 1) limits es (λ i less. let later : from + suc i ≡ from + 1 + i = omega arith in subst Is later (each (suc i) (omega (arith, less)))) in
    let all = sum_by-cons (λ (x : ℕ). x) (space_live u from) (map (λ (s : InSpace). s.live) (reported_from u (from + 1) limits)) in
    omega (arith, first, rest, all)

live_with : (d : Parts) (shape : Shape) (flash : Flash) (top : ℕ × Root) (found : Found) (without all : Map)
    → DriveOnFlashWith d shape flash top found without all → live_of_all (spaces_of d) ≡ live shape all
live_with d shape flash top found without all a =
    let few = few_with d shape flash top found without all a in
    reported_live shape d.spaces 1 (drive_limits d) (entries all) (λ i less.
    (use_of_part shape flash d.log.pending top found all d.spaces a.placed.is_shape a.is_flash a.pending a.uses (1 + i) (omega arith, omega (arith, less, few))).0
    ∙ ap (pages_in shape) (entries_in (1 + i) all))
    ∙ sym (all_parts shape (length (drive_limits d)) (entries all) (in_drive d shape flash top found without all a))

-- ---- the map that is read

module _ (d : Parts) (shape : Shape) (flash : Flash) (m : Map) (a : DriveOnFlash d (Some shape) flash) (read : reading shape flash d.log.pending ≡ Ok m) where
  same_shape : a.shape ≡ shape
  same_shape = sym (some_same shape a.shape a.told_is)

  -- what holds of the drive's map holds of the one that is read
  at_read : (P : Shape → Map → Type 0) → P a.shape a.all → P shape m
  at_read P here =
      let held = under_reads a.shape flash d.log.pending a.top a.found a.all a.with.pending in
      let same = same_ok a.all m (sym (subst (λ s. reading s flash d.log.pending ≡ Ok a.all) same_shape held) ∙ read) in
      subst (P shape) same (subst (λ s. P s a.all) same_shape here)

  pub agrees_counts : (space : ℕ) → 1 ≤ space → space ≤ length (drive_limits d) → CountsMap shape (terms_at shape flash (frames_of d)) space m (in_space_at (spaces_of d) space) (counts_of d)
  agrees_counts space some most =
      let limits : limits_at shape flash ≡ drive_limits d = ap (λ (s : Shape). limits_at s flash) (sym (a.with.shape_is ∙ same_shape)) ∙ limits_on d (Some shape) flash a in
      subst (λ (ls : List ℕ). CountsMap shape (record { frames = frames_of d; limits = ls }) space m (in_space_at (spaces_of d) space) (counts_of d)) (sym limits)
      (at_read (λ s x. CountsMap s (terms_of d) space x (in_space_at (spaces_of d) space) (counts_of d))
      (counts_settled d a.shape (terms_of d) space a.all (counts_map (settled_parts d) a.shape flash a.top a.found a.without a.all a.with space some most)))

  -- the live pages of all namespaces are those of the map
  pub agrees_live : live_of_all (spaces_of d) ≡ live shape m
  agrees_live = at_read (λ s x. live_of_all (spaces_of d) ≡ live s x) (live_with (settled_parts d) a.shape flash a.top a.found a.without a.all a.with)

  -- a u32 holds them
  pub agrees_few : live_of_all (spaces_of d) ≤ 4294967295
  agrees_few =
      let few = (held_with (settled_parts d) a.shape flash a.top a.found a.without a.all a.with).few in
      let most = limit_few a.shape a.with.placed.is_shape in
      let here = live_with (settled_parts d) a.shape flash a.top a.found a.without a.all a.with in
      omega (arith, here, few, most)

-- ---- roots

pub worn_is : (d : Parts) (shape : Shape) (flash : Flash) → DriveOnFlash d (Some shape) flash → root_number shape flash ≡ d.log.root.number
unfolding root_number
worn_is d shape flash a =
    subst (λ s. number_of (newest_root s (page_at flash)) ≡ d.log.root.number) (sym (some_same shape a.shape a.told_is))
    (ap number_of a.with.committed.is_top ∙ ap (λ r. r.number) (sym a.with.index.logs.root_is))

-- ---- commands without a flash operation

pub flush_done : (d : Parts) (o : Outcome) (into : List ℕ) → o ≡ record { status = 0; result = 0; data_len = 0; reads = 0; stopped = false } → DoneWithout d 0x00 o into
flush_done d o into told r op board v a few passed =
    let passes : early (length (drive_limits d)) d.log.shape (command_of r v) ≡ None = same_early (length (drive_limits d)) d.log.shape r v ∙ passed in
    subst (λ (x : Outcome). Does board board (sight_of d) (sight_of d) (command_of r v) (reply_of x into) x.reads x.stopped) (sym told)
    (does_none d board a (command_of r v) (success 0 []) few ok_sound
    (served d.log.shape (terms_of d) a.all (command_of r v) passes Flush eleven (success 0 []) a.all refl (ap op_of op) refl refl refl))

pub report_done : (d : Parts) (r : Request) (o : Outcome) (into : List ℕ) → 1 ≤ r.namespace → r.namespace ≤ length (drive_limits d)
    → o ≡ record { status = 0; result = 0; data_len = 64; reads = 0; stopped = false }
    → take 64 into ≡ report_of (in_space_at (spaces_of d) r.namespace) (counts_of d) → r.opcode ≡ 0xC2 → DoneFor d r o into
report_done d r o into some most told bytes op board v a few passed =
    let passes : early (length (drive_limits d)) d.log.shape (command_of r v) ≡ None = same_early (length (drive_limits d)) d.log.shape r v ∙ passed in
    subst (λ (x : Outcome). Does board board (sight_of d) (sight_of d) (command_of r v) (reply_of x into) x.reads x.stopped) (sym told)
    (does_none d board a (command_of r v) (success 0 (take 64 into)) few ok_sound
    (report_step d.log.shape (terms_of d) a.all (command_of r v) passes (in_space_at (spaces_of d) r.namespace) (counts_of d) (take 64 into) op (counts_own d board a r.namespace some most) bytes))
