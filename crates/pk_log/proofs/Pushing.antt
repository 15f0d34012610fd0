-- One more entry that waits for a commit.
use Rattle.std.proofs.Common.{◌≡◌, ◌≢◌, ℕ, zero, suc, ◌+◌, ◌<◌, ◌≤◌, refl, sym, ap, subst, ◌∙◌, arith, T, Bool, true, false, ◌&&◌, ◌||◌, ◌==◌, List, [], ◌∷◌, ◌++◌, reverse, length, append_assoc}
use Rattle.std.{specs.List.AllByRecursion, specs.FinMap.Entries.put}
use Rattle.pk_base.{specs.Key.key_cmp, specs.Key.space_of, specs.Shape.buffer, specs.Shape.page_entries, specs.Page.Flash, specs.Entry.Entry, specs.Entry.key_of, specs.Firsts.firsts}
use Rattle.pk_base.{specs.Seen.entry as seen, specs.Seen.entries as seen_all, specs.declared.entry.Entry.Entry as RustEntry, proofs.Logic.is_true}
use Rattle.pk_space.specs.Entries.{in_spaces}
use Rattle.pk_rootfmt.specs.Root.{Root}
use Rattle.pk_buf.specs.Table.{Table}
use Rattle.pk_jrn.{specs.Epochs.left_of, proofs.Puts.puts_are_firsts, proofs.Puts.firsts-reverse}
use Rattle.pk_model.{specs.Found.Found, specs.Laws.IsStorable, specs.RootLimits.root_spaces, proofs.RootLimits.in_spaces_last}
use Rattle.pk_log.{specs.State.LogState, specs.State.is_full_for, specs.State.needs_freeze, specs.State.pushed, specs.Logs.LogOnFlash}

-- ---- what remains

-- if no freeze is needed and nothing is pending, the epoch has a page left
left_some : (left : ℕ) (full : Bool) → (full || ((0 == 0) && (left == 0))) ≡ false → 0 < left
left_some zero true e = cc
left_some zero false e = cc
left_some (suc n) full e = omega arith

left_for_first : (es : List Entry) (left : ℕ) (full : Bool) → (full || ((length es == 0) && (left == 0))) ≡ false → (es ≢ [] → 0 < left) → 0 < left
left_for_first [] left full e before = left_some left full e
left_for_first (x ∷ es) left full e before = before (λ is. cc)

-- ---- lists with one more element

pub seen_push : (es : List RustEntry) (e : RustEntry) → seen_all (es ++ e ∷ []) ≡ seen_all es ++ seen e ∷ []
seen_push [] e = refl
seen_push (x ∷ es) e = ap (λ xs. seen x ∷ xs) (seen_push es e)

pub some_seen : (es : List RustEntry) → 0 < length es → seen_all es ≢ []
some_seen [] some e = absurd (omega (arith, some))
some_seen (x ∷ es) some e = cc

pub none_seen : (es : List RustEntry) → length es ≡ 0 → seen_all es ≡ []
none_seen [] none = refl
none_seen (x ∷ es) none = absurd (omega (arith, none))

length-push : (es : List Entry) (e : Entry) → length (es ++ e ∷ []) ≡ length es + 1
length-push [] e = refl
length-push (x ∷ es) e = let more = length-push es e in omega (arith, more)

all_push : (P : Entry → Type 0) (es : List Entry) (e : Entry) → AllByRecursion P es → P e → AllByRecursion P (es ++ e ∷ [])
all_push P [] e all is = (is, tt)
all_push P (x ∷ es) e all is = (all.0, all_push P es e all.1 is)

-- ---- the log

module _ (log : LogState) (e : Entry) (flash : Flash) (top : ℕ × Root) (found : Found) (logs : LogOnFlash log flash top found) where
  -- the entries of the buffer
  entries_are : put key_cmp (key_of e) e.1 log.active.entries ≡ firsts (reverse (found.newest ++ (log.pending ++ e ∷ [])))
  entries_are =
      ap (λ (t : Table). put key_cmp e.0 e.1 t.entries) logs.active_is
      ∙ puts_are_firsts (found.newest ++ log.pending) (e ∷ [])
      ∙ ap (λ es. firsts (reverse es)) (append_assoc found.newest log.pending (e ∷ []))

  -- the keys of the epoch with the entry
  pub keys_fit : length (put key_cmp (key_of e) e.1 log.active.entries) ≤ log.active.capacity → length (firsts (found.newest ++ (log.pending ++ e ∷ []))) ≤ buffer log.shape
  keys_fit bound = search (arith, entries_are, firsts-reverse)

  -- the namespaces of the pending entries with it
  spaced_push : space_of (key_of e) ≤ root_spaces log.shape log.root → in_spaces (root_spaces log.shape top.1) (log.pending ++ e ∷ []) ≡ true
  spaced_push own =
      let here : space_of e.0 ≤ root_spaces log.shape top.1 = subst (λ (r : Root). space_of e.0 ≤ root_spaces log.shape r) logs.root_is own in
      is_true _ (in_spaces_last (root_spaces log.shape top.1) log.pending e (subst T (sym logs.spaced) tt) here)

  pub stands_pushed : needs_freeze log (key_of e) ≡ false → length log.pending < page_entries log.shape → log.epoch.half ≡ false → IsStorable log.shape e
      → space_of (key_of e) ≤ root_spaces log.shape log.root → LogOnFlash (pushed log e) flash top found
  stands_pushed no_freeze few whole storable own = search (arith, entries_are, all_push, spaced_push, length-push, left_for_first)
