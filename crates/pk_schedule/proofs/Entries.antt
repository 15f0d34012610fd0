-- The entries of a merge's source and target, and those of its output.
use Rattle.std.proofs.Common.{◌≡◌, ℕ, zero, suc, ◌-◌, ◌<◌, Bool, true, false, ◌==◌, T, if◌then◌else◌, List, [], ◌∷◌, ◌++◌, length, map, reverse, Ok, refl, sym, ap, subst, ◌∙◌, arith}
use Rattle.std.proofs.lemmas.List.{reverse-append}
use Rattle.std.{specs.Prelude.slice_index, specs.Prelude.slice_index_or, specs.List.AllByRecursion, specs.FinMap.Entries.find, specs.FinMap.Entries.is_sorted, specs.FinMap.Entries.same_entries}
use Rattle.pk_base.{specs.Key.key_cmp, specs.Shape.Shape, specs.Entry.Entry, specs.EntryChecks.IsEntry, specs.Firsts.firsts, specs.Page.Flash, specs.Page.page_at}
use Rattle.pk_base.{proofs.KeyLemmas.firsts_sorted}
use Rattle.pk_meta.specs.Over.{over, kept_at}
use Rattle.pk_buf.specs.Table.{Table}
use Rattle.pk_jrn.{specs.Replays.buffer_of, proofs.Puts.firsts-reverse}
use Rattle.pk_rootfmt.specs.Root.{Root}
use Rattle.pk_pin.specs.Frames.{Frames}
use Rattle.pk_run.specs.Kept.{Kept, RunOnFlash}
use Rattle.pk_level.specs.Levels.{RunsOnFlash}
use Rattle.pk_model.{specs.Found.Found, specs.Found.found_under, specs.Tree.run_at, proofs.MapLemmas.key_total, proofs.MapLemmas.key_antisymm, proofs.Lookups.find-firsts}
use Rattle.pk_model.{proofs.Merges.first_some, proofs.Merges.find-append_lists, specs.RootLimits.root_spaces}
use Rattle.pk_model.proofs.Entries.{epoch_all, runs_all, all_put, all_append, journal_are, meta_are}
use Rattle.pk_law_steps.{specs.Merging.output_of as whole_output, proofs.FourRuns.pieces_of}
use Rattle.pk_merge.specs.Running.{merged}
use Rattle.pk_schedule.{specs.Index.Index, specs.Index.entries_at, proofs.Settled.older_read}

-- ---- the output

-- it is the same of the entries that count
pub over_firsts : (es fs : List Entry) → over (firsts es) fs ≡ over es fs
over_firsts es fs = same_entries key_cmp key_total key_antisymm (over (firsts es) fs) (over es fs) (firsts_sorted (firsts es ++ fs)) (firsts_sorted (es ++ fs)) (λ q.
    find-firsts q (firsts es ++ fs) ∙ find-append_lists q (firsts es) fs
    ∙ ap (λ o. first_some o (find key_cmp q fs)) (find-firsts q es) ∙ sym (find-append_lists q es fs) ∙ sym (find-firsts q (es ++ fs)))

frozen_or : (b : Bool) (held es fs gs : List Entry) → held ≡ firsts (reverse es) → over (if b then held else gs) fs ≡ over (if b then reverse es else gs) fs
frozen_or true held es fs gs is = ap (λ (xs : List Entry). over xs fs) is ∙ over_firsts (reverse es) fs
frozen_or false held es fs gs is = refl

pub output_same : (x : Index) (found : Found) (level : ℕ) → x.log.frozen ≡ buffer_of x.log.shape found.older
    → merged level (entries_at x found level) (run_at found.runs level) ≡ whole_output level found
output_same x found level is = ap (kept_at level) (frozen_or (level == 1) x.log.frozen.entries found.older (run_at found.runs level) (run_at found.runs (level - 1)) (ap (λ (t : Table). t.entries) is))

-- ---- how many there are

pub frozen_many : (shape : Shape) (t : Table) (es : List Entry) → t ≡ buffer_of shape es → length t.entries ≡ length (firsts es)
frozen_many shape t es is = ap (λ (t : Table). length t.entries) is ∙ firsts-reverse es

pub frozen_rising : (shape : Shape) (t : Table) (es : List Entry) → t ≡ buffer_of shape es → T (is_sorted key_cmp t.entries)
frozen_rising shape t es is = subst (λ (t : Table). T (is_sorted key_cmp t.entries)) (sym is) (firsts_sorted (reverse es))

pub counts_same : (flash : Flash) (arena : Frames) (rs : List Kept) (ess : List (List Entry)) → RunsOnFlash flash arena rs ess → map (λ r. r.count) rs ≡ map (λ es. length es) ess
counts_same flash arena [] [] s = refl
counts_same flash arena (r ∷ rs) (es ∷ ess) s = (λ i. sym s.0.many i ∷ counts_same flash arena rs ess s.1 i)
counts_same flash arena _ _ s = absurd s

-- ---- the run of a level

pub run_stands : (flash : Flash) (arena : Frames) (rs : List Kept) (ess : List (List Entry)) (i : ℕ) (d : Kept)
    → i < length rs → RunsOnFlash flash arena rs ess → RunOnFlash (slice_index_or rs i d) flash arena (slice_index_or ess i [])
run_stands flash arena [] ess i d inside s = absurd (omega (arith, inside))
run_stands flash arena (r ∷ rs) [] i d inside s = absurd s
run_stands flash arena (r ∷ rs) (es ∷ ess) zero d inside s = s.0
run_stands flash arena (r ∷ rs) (es ∷ ess) (suc i) d inside s = run_stands flash arena rs ess i d (omega (arith, inside)) s.1

pub count_at : (rs : List Kept) (i : ℕ) (d : Kept) → i < length rs → slice_index (map (λ r. r.count) rs) i ≡ (slice_index_or rs i d).count
count_at [] i d inside = absurd (omega (arith, inside))
count_at (r ∷ rs) zero d inside = refl
count_at (r ∷ rs) (suc i) d inside = count_at rs i d (omega (arith, inside))

-- ---- each can be written

module _ (P : Entry → Type 0) where
  all_reverse : (es : List Entry) → AllByRecursion P es → AllByRecursion P (reverse es)
  all_reverse [] all = tt
  all_reverse (e ∷ es) all = subst (AllByRecursion P) (sym (reverse-append (e ∷ []) es)) (all_append P (reverse es) (e ∷ []) (all_reverse es all.1) (all.0, tt))

  all_firsts : (es : List Entry) → AllByRecursion P es → AllByRecursion P (firsts es)
  all_firsts [] all = tt
  all_firsts (e ∷ es) all = all_put P e.0 e.1 (firsts es) all.0 (all_firsts es all.1)

module _ (shape : Shape) (flash : Flash) (root : Root) (found : Found) (is : found_under shape (page_at flash) root ≡ Ok found) where
  abbrev Are : List Entry → Type 0
  Are es = AllByRecursion (IsEntry shape) es

  older_are : Are found.older
  older_are =
      epoch_all (IsEntry shape) shape (root_spaces shape root) (page_at flash) (λ k number index bytes es stands read spaced. journal_are shape number index bytes es read)
      (λ k level index count bytes es stands read spaced. meta_are shape level index count bytes es read) (root.epoch - 1) root.older found.older (older_read shape (page_at flash) root found is)

  pub frozen_are : (t : Table) → t ≡ buffer_of shape found.older → Are t.entries
  frozen_are t held = subst (λ (t : Table). Are t.entries) (sym held) (all_firsts (IsEntry shape) (reverse found.older) (all_reverse (IsEntry shape) found.older older_are))

  at_index : (ess : List (List Entry)) (i : ℕ) → AllByRecursion (AllByRecursion (IsEntry shape)) ess → Are (slice_index_or ess i [])
  at_index [] i all = tt
  at_index (es ∷ ess) zero all = all.0
  at_index (es ∷ ess) (suc i) all = at_index ess i all.1

  pub run_are : (level : ℕ) → Are (run_at found.runs level)
  run_are level =
      let pieces = pieces_of shape (page_at flash) root found is in
      at_index found.runs (level - 1)
      (runs_all (IsEntry shape) shape (root_spaces shape root) (page_at flash) (λ k number index bytes es stands read spaced. journal_are shape number index bytes es read)
      (λ k level index count bytes es stands read spaced. meta_are shape level index count bytes es read) 1 root.counts root.runs found.runs pieces.runs)
