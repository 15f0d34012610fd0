-- When a Store and a Delete wait for nothing, and what they program after their lookup.
use Rattle.std.proofs.Common.{◌≡◌, ◌≢◌, inl, inr, ℕ, ◌-◌, ◌*◌, ◌<◌, ◌≤◌, refl, sym, ap, subst, ◌∙◌, arith, Bool, true, false, not, ◌&&◌, ◌||◌, ◌==◌, List, [], ◌∷◌, ◌++◌, ◌⊎◌, length, reverse, Option}
use Rattle.std.proofs.Common.{Some, None, is_some, cond}
use Rattle.std.proofs.lemmas.Bool.{ne_eqb, cases_lt}
use Rattle.std.{specs.Prelude.IsSome, specs.Prelude.if◌then◌else◌, specs.FinMap.Entries.find, specs.Ordering.eq_by_cmp, proofs.lemmas.List.reverse-append}
use Rattle.pk_base.{specs.Shape.Shape, specs.Shape.IsShape, specs.Shape.buffer, specs.Shape.epoch_commits, specs.Entry.Entry, specs.Key.Key, specs.Key.key_cmp, specs.Firsts.firsts}
use Rattle.pk_base.{specs.Page.Flash, specs.Page.page_at, specs.Page.commit_page, specs.Page.erased, specs.Map.Map, proofs.ShapeLemmas.block_pages_positive}
use Rattle.pk_base.proofs.Logic.{some_same, ok_same}
use Rattle.pk_buf.specs.Table.{Table}
use Rattle.pk_rootfmt.specs.Root.{Root}
use Rattle.pk_nand.{specs.BoardState.BoardState, specs.Counts.counted_by}
use Rattle.pk_jrn.{specs.Epochs.JournalEpoch, specs.Epochs.left_of, specs.Epochs.pages_of, proofs.Puts.firsts-reverse, proofs.Puts.find-firsts}
use Rattle.pk_log.specs.State.{needs_freeze}
use Rattle.pk_model.specs.Found.{Found, found_under}
use Rattle.pk_call.specs.Moving.{IsQuiet}
use Rattle.pk_parts.{specs.Parts.Parts, specs.Parts.sight_of, specs.Parts.settled_parts, specs.Agreeing.DriveOnFlashWith, specs.Quiet.ReadsOnly}
use Rattle.pk_changes.specs.Programming.{Programs}

-- ---- a key that needs no freeze

has_append : (q : Key) (xs ys : List Entry) → is_some (find key_cmp q (xs ++ ys)) ≡ (is_some (find key_cmp q xs) || is_some (find key_cmp q ys))
has_append q [] ys = refl
has_append q (x ∷ xs) ys =
    elim (eq_by_cmp key_cmp q x.0) as (λ b. is_some (cond b (Some x.1) (find key_cmp q (xs ++ ys)))
    ≡ (is_some (cond b (Some x.1) (find key_cmp q xs)) || is_some (find key_cmp q ys))) [ true ↦ refl | false ↦ has_append q xs ys ]

or_turned : (a b : Bool) → (a || b) ≡ (b || a)
or_turned true true = refl
or_turned true false = refl
or_turned false true = refl
or_turned false false = refl

-- a key that is in a list is in the list turned round
has_reversed : (q : Key) (xs : List Entry) → is_some (find key_cmp q (reverse xs)) ≡ is_some (find key_cmp q xs)
has_reversed q [] = refl
has_reversed q (x ∷ xs) =
    ap (λ ys. is_some (find key_cmp q ys)) (reverse-append (x ∷ []) xs)
    ∙ (has_append q (reverse xs) (x ∷ [])
    ∙ (ap (λ b. b || is_some (find key_cmp q (x ∷ []))) (has_reversed q xs)
    ∙ (or_turned (is_some (find key_cmp q xs)) (is_some (find key_cmp q (x ∷ []))) ∙ sym (has_append q (x ∷ []) xs))))

found_same : (q : Key) (xs : List Entry) → is_some (find key_cmp q (firsts (reverse xs))) ≡ is_some (find key_cmp q (firsts xs))
found_same q xs = ap is_some (find-firsts q (reverse xs)) ∙ (has_reversed q xs ∙ ap is_some (sym (find-firsts q xs)))

and_false : (a b : Bool) → (b ≡ false) ⊎ (a ≡ false) → (a && b) ≡ false
and_false false b none = refl
and_false true false none = refl
and_false true true (inl e) = cc
and_false true true (inr e) = cc

some_true : {X : Type 0} (o : Option X) → IsSome o → is_some o ≡ true
some_true (Some x) is = refl
some_true None is = cc

none_length : (es : List Entry) → es ≢ [] → (length es == 0) ≡ false
none_length [] some = absurd (some refl)
none_length (e ∷ es) some = ne_eqb (length (e ∷ es)) 0 (λ x. omega (arith, x))

-- of an epoch whose commits are all used the last one is not Erased
commits_left : (e : JournalEpoch) → 0 < epoch_commits e.shape → (pages_of e ≤ 2 * (epoch_commits e.shape - 1)) → e.used < epoch_commits e.shape
commits_left e positive few = by e.half few
  where
    by : (half : Bool) → (if half then 2 * e.used - 1 else 2 * e.used) ≤ 2 * (epoch_commits e.shape - 1) → e.used < epoch_commits e.shape
    by true n = omega (arith, positive, n)
    by false n = omega (arith, positive, n)

module _ (d : Parts) (shape : Shape) (flash : Flash) (top : ℕ × Root) (found : Found) (without all : Map)
    (a : DriveOnFlashWith (settled_parts d) shape flash top found without all) (k : Key) (q : IsQuiet shape flash (sight_of d) k) where
  its_top : (q.is_tree.page_of_root, q.tree.root) ≡ top
  its_top = some_same _ top (sym q.is_tree.is_newest ∙ a.committed.is_top)

  its_found : q.tree.found ≡ found
  its_found = ok_same q.tree.found found (sym q.is_tree.is_found ∙ (ap (λ (t : ℕ × Root). found_under shape (page_at flash) t.1) its_top ∙ a.committed.is_found))

  abbrev entries : List Entry
  entries = found.newest ++ d.log.pending

  room_is : (is_some (find key_cmp k d.log.active.entries) ≡ true) ⊎ ((length d.log.active.entries == d.log.active.capacity) ≡ false)
  room_is =
      let T : Found → Type 0 = λ f. IsSome (find key_cmp k (firsts (f.newest ++ d.log.pending))) ⊎ (length (firsts (f.newest ++ d.log.pending)) < buffer shape) in
      let active = a.index.logs.active_is in
      elim (subst T its_found q.room) [
        | inl there ↦ inl (ap (λ (t : Table). is_some (find key_cmp k t.entries)) active ∙ (found_same k entries ∙ some_true (find key_cmp k (firsts entries)) there))
        | inr less ↦ inr (
            let size : length d.log.active.entries ≡ length (firsts entries) = ap (λ (t : Table). length t.entries) active ∙ firsts-reverse entries in
            let capacity : d.log.active.capacity ≡ buffer shape = ap (λ (t : Table). t.capacity) active ∙ ap (λ s. buffer s) a.shape_is in
            ne_eqb (length d.log.active.entries) d.log.active.capacity (λ e. omega (arith, size, capacity, less, e)))
      ]

  commit_is : ((left_of d.log.epoch == 0) ≡ false) ⊎ ((length d.log.pending == 0) ≡ false)
  commit_is = elim q.commit [
    | inr some ↦ inr (none_length d.log.pending some)
    | inl clear ↦ inl (
        let e : JournalEpoch = d.log.epoch in
        let its_shape : e.shape ≡ shape = a.index.logs.epoch_shape ∙ a.shape_is in
        let its_blocks : e.blocks ≡ q.tree.root.newest = a.index.logs.epoch_blocks ∙ ap (λ (t : ℕ × Root). t.1.newest) (sym its_top) in
        let last : page_at flash (commit_page e.shape e.blocks (epoch_commits e.shape - 1)) ≡ erased =
        subst (λ s. page_at flash (commit_page s e.blocks (epoch_commits s - 1)) ≡ erased) (sym its_shape)
        (subst (λ bs. page_at flash (commit_page shape bs (epoch_commits shape - 1)) ≡ erased) (sym its_blocks) clear) in
        let positive = block_pages_positive e.shape (subst IsShape (sym its_shape) a.placed.is_shape) in
        let few : pages_of e ≤ 2 * (epoch_commits e.shape - 1) = elim (cases_lt (2 * (epoch_commits e.shape - 1)) (pages_of e)) [
          | inl lt ↦ absurd (a.index.logs.epoch_fits.filled q.fresh (2 * (epoch_commits e.shape - 1)) lt last)
          | inr ge ↦ ge
        ] in
        let less = commits_left e positive few in
        ap (λ b. (if b then epoch_commits e.shape - e.used else 0) == 0) q.fresh ∙ ne_eqb (epoch_commits e.shape - e.used) 0 (λ f. omega (arith, f, less)))
  ]

  pub quiet_needs_none : needs_freeze d.log k ≡ false
  quiet_needs_none =
      let room = and_false (length d.log.active.entries == d.log.active.capacity) (not (is_some (find key_cmp k d.log.active.entries))) (elim room_is [
        | inl has ↦ inl (ap not has)
        | inr full ↦ inr full
      ]) in
      let commit = and_false (length d.log.pending == 0) (left_of d.log.epoch == 0) commit_is in
      λ i. room i || commit i

-- ---- after the reads of a lookup

pub behind_reads : {old mid new : BoardState} {most n : ℕ} → ReadsOnly old mid most → Programs n mid new → Programs n old new
behind_reads {n = n} made p = record { programs = p.programs ∙ ap (λ (b : BoardState). counted_by n b.programs) made.board; erases = p.erases ∙ ap (λ (b : BoardState). b.erases) made.board }
