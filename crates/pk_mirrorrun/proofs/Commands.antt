-- The commands of a word on each drive: which maps they leave, and how many roots they install.
use Rattle.std.proofs.Common.{◌≡◌, inl, inr, ℕ, ◌+◌, ◌*◌, ◌≤◌, ◌⊎◌, ◌==◌, if◌then◌else◌, cond, true, false, length, List, [], ◌∷◌, ◌++◌, Option, Some, None, refl, sym, ap, subst, ◌∙◌, arith}
use Rattle.std.{specs.FinMap.get as value_at, specs.FinMap.get-insert, specs.FinMap.get-remove, specs.Ordering.eq_by_cmp, proofs.lemmas.Bool.eq-eqb, proofs.lemmas.Bool.eqb-true}
use Rattle.pk_base.{specs.Key.Key, specs.Key.key_cmp, specs.Key.space_of, specs.Shape.Shape, specs.Page.Flash, specs.Map.Map}
use Rattle.pk_nvme.{specs.Command.Command, specs.Command.key as key_of, specs.Opcode.op_of, specs.declared.opcode.TheConstants.STORE, specs.declared.opcode.TheConstants.DELETE}
use Rattle.pk_nvme.specs.declared.opcode.Opcode.{Opcode}
use Rattle.pk_nvme.specs.declared.opcode.Opcode.TheVariants.{Store, Retrieve, List as ListKeys, Delete}
use Rattle.pk_model.{specs.Answer.refused, specs.Answer.effect, specs.Answer.map_after, specs.Kept.Kept, specs.Reading.Holds, specs.Run.Exchange, specs.Run.commands, specs.Run.RunWithin}
use Rattle.pk_model.{specs.Spaces.Terms, specs.Spaces.limit_of, specs.Spaces.in_space, proofs.MapLemmas.key_total}
use Rattle.pk_model.proofs.SpaceLemmas.{by_keys, get_in_space, same_tied}
use Rattle.pk_call.{specs.Calling.only_looks, specs.Exec.most_installs}
use Rattle.pk_host.{specs.Calls.store_of, specs.Calls.delete_of, specs.declared.types.StoreRule.TheVariants.Any}
use Rattle.pk_port.{specs.Chained.installs_of, specs.Chained.installs, proofs.Isolating.first_left}
use Rattle.pk_mirror.{specs.Causes.OnlyAsks, specs.Causes.AreAsking, specs.Spending.OnlyLooks, specs.Spending.LooksOrChanges, specs.Spending.opcode_count}
use Rattle.pk_mirrorwords.specs.PairTasks.{PairTask, put, get, delete, list, resync, change_of, after_change, map_left}
use Rattle.pk_mirrorwords.specs.PairAnswers.{AreChange, AreOfWord, AreOfPair}
use Rattle.pk_mirrorrun.specs.PairTold.{most_pair_roots, OnSecond, KeepsOtherSpaces}

-- ---- maps

-- the map after some of these commands, in their order
abbrev LeftOf : Shape → List ℕ → Map → List Command → Map → Type 0
LeftOf shape limits m [] m' = m' ≡ m
LeftOf shape limits m (c ∷ cs) m' = LeftOf shape limits m cs m' ⊎ LeftOf shape limits (map_after shape limits m c) cs m'

left_more : (shape : Shape) (limits : List ℕ) (m : Map) (cs : List Command) (m' : Map) (ds : List Command) → LeftOf shape limits m cs m' → LeftOf shape limits m (cs ++ ds) m'
left_more shape limits m [] m' ds e = subst (λ (n : Map). LeftOf shape limits m ds n) (sym e) (none_left ds)
  where
    none_left : (ds : List Command) → LeftOf shape limits m ds m
    none_left [] = refl
    none_left (d ∷ ds) = inl (none_left ds)
left_more shape limits m (c ∷ cs) m' ds (inl h) = inl (left_more shape limits m cs m' ds h)
left_more shape limits m (c ∷ cs) m' ds (inr h) = inr (left_more shape limits (map_after shape limits m c) cs m' ds h)

-- a run of commands leaves the map after some of them
ran_left : (shape : Shape) (terms : Terms) (xs : List Exchange) (m m' : Map) → RunWithin shape terms m xs m' → LeftOf shape terms.limits m (commands xs) m'
ran_left shape terms [] m m' e = sym e
ran_left shape terms (x ∷ xs) m m' (next, step, rest) = elim step.0 [
  | inl answer ↦ inr (subst (λ (n : Map). LeftOf shape terms.limits n (commands xs) m') answer.leaves (ran_left shape terms xs next m' rest))
  | inr unread ↦ inl (subst (λ (n : Map). LeftOf shape terms.limits n (commands xs) m') unread.leaves (ran_left shape terms xs next m' rest))
]

keeps_map : (shape : Shape) (limits : List ℕ) (m : Map) (c : Command) (k : Opcode) → op_of c.opcode ≡ Some k → effect m c (Some k) ≡ m → map_after shape limits m c ≡ m
unfolding map_after
keeps_map shape limits m c k is stays = elim (refused shape limits m c) as (λ r. refused shape limits m c ≡ r → map_after shape limits m c ≡ m) [
  | None ↦ λ e. (let left : map_after shape limits m c ≡ effect m c (Some k) = rw (e, is) refl in left ∙ stays)
  | Some s ↦ λ e. rw e refl
] refl

asks_keep : (shape : Shape) (limits : List ℕ) (m : Map) (c : Command) → OnlyAsks c → map_after shape limits m c ≡ m
asks_keep shape limits m c (inl (from, e)) = keeps_map shape limits m c ListKeys (ap (λ (d : Command). op_of d.opcode) e) refl
asks_keep shape limits m c (inr (key, size, e)) = keeps_map shape limits m c Retrieve (ap (λ (d : Command). op_of d.opcode) e) refl

asks_left : (shape : Shape) (limits : List ℕ) (m m' : Map) (asks change : List Command) → AreAsking asks → LeftOf shape limits m (asks ++ change) m' → LeftOf shape limits m change m'
asks_left shape limits m m' [] change are h = h
asks_left shape limits m m' (c ∷ asks) change are (inl h) = asks_left shape limits m m' asks change are.1 h
asks_left shape limits m m' (c ∷ asks) change are (inr h) =
    asks_left shape limits m m' asks change are.1 (subst (λ (n : Map). LeftOf shape limits n (asks ++ change) m') (asks_keep shape limits m c are.0) h)

change_left : (shape : Shape) (limits : List ℕ) (m m' : Map) (o : Option Command) (change : List Command)
    → AreChange o change → LeftOf shape limits m change m' → (m' ≡ m) ⊎ (m' ≡ after_change shape limits m o)
change_left shape limits m m' None change none h = inl (subst (λ (cs : List Command). LeftOf shape limits m cs m') none h)
change_left shape limits m m' (Some c) change (inl none) h = inl (subst (λ (cs : List Command). LeftOf shape limits m cs m') none h)
change_left shape limits m m' (Some c) change (inr one) h = subst (λ (cs : List Command). LeftOf shape limits m cs m') one h

-- commands of a word, or the first of them, leave the map before it or the one after it
left_first : (task : PairTask) (shape : Shape) (limits : List ℕ) (m m' : Map) (cs : List Command) → AreOfWord task cs → LeftOf shape limits m cs m' → (m' ≡ m) ⊎ (m' ≡ map_left shape limits task m)
left_first task shape limits m m' cs are h =
    change_left shape limits m m' (change_of task) are.change are.changing
    (asks_left shape limits m m' are.asks are.change are.asking (subst (λ (ds : List Command). LeftOf shape limits m ds m') are.are h))

pub ran_first : (task : PairTask) (shape : Shape) (terms : Terms) (m m' : Map) (xs : List Exchange) → AreOfWord task (commands xs) → RunWithin shape terms m xs m'
    → (m' ≡ m) ⊎ (m' ≡ map_left shape terms.limits task m)
ran_first task shape terms m m' xs are ran = left_first task shape terms.limits m m' (commands xs) are (ran_left shape terms xs m m' ran)

-- what is kept of a word's commands is the map before it or the one after it
pub kept_first : (task : PairTask) (shape : Shape) (terms : Terms) (m : Map) (cs : List Command) (n : Option ℕ) (posted : List ℕ) (f : Flash) → AreOfWord task cs
    → Kept shape terms m cs n posted f
    → Holds shape f m ⊎ Holds shape f (map_left shape terms.limits task m)
kept_first task shape terms m cs n posted f are k =
    let more = left_more shape terms.limits m (commands k.served) k.map_left k.unserved (ran_left shape terms k.served m k.map_left k.ran) in
    let whole = subst (λ (ds : List Command). LeftOf shape terms.limits m ds k.map_left) k.from_front more in
    elim (left_first task shape terms.limits m k.map_left cs are whole) [
      | inl before ↦ inl (subst (λ (n : Map). Holds shape f n) before k.held)
      | inr after ↦ inr (subst (λ (n : Map). Holds shape f n) after k.held)
    ]

-- ---- the first namespace and the others

-- a command in the first namespace keeps the values of keys of others
pub others_kept : (shape : Shape) (limits : List ℕ) (m : Map) (c : Command) → c.namespace ≡ 1 → (q : Key) → (space_of q == 1) ≡ false → value_at (map_after shape limits m c) q ≡ value_at m q
unfolding map_after
others_kept shape limits m c first q other =
    elim (refused shape limits m c) as (λ r. refused shape limits m c ≡ r → value_at (map_after shape limits m c) q ≡ value_at m q) [
      | Some s ↦ λ e. rw e refl
      | None ↦ λ e. rw e (by_effect (op_of c.opcode))
    ] refl
  where
    apart : eq_by_cmp key_cmp q (key_of c) ≡ true → (eq_by_cmp key_cmp q (key_of c)) ≡ false
    apart tie = absurd (
        let same : space_of q ≡ 1 = ap space_of (same_tied q (key_of c) tie) ∙ first in
        let clash : false ≡ true = sym other ∙ eq-eqb (space_of q) 1 same in cc
        )

    not_tied : eq_by_cmp key_cmp q (key_of c) ≡ false
    not_tied = elim (eq_by_cmp key_cmp q (key_of c)) as (λ b. eq_by_cmp key_cmp q (key_of c) ≡ b → eq_by_cmp key_cmp q (key_of c) ≡ false) [ true ↦ λ tie. apart tie | false ↦ λ tie. tie ] refl

    by_effect : (o : Option Opcode) → value_at (effect m c o) q ≡ value_at m q
    by_effect (Some Store) = get-insert key_total m (key_of c) c.value q ∙ ap (λ b. cond b (Some c.value) (value_at m q)) not_tied
    by_effect (Some Delete) = get-remove key_total m (key_of c) q ∙ ap (λ b. cond b None (value_at m q)) not_tied
    by_effect _ = refl

pub change_keeps_others : (task : PairTask) (shape : Shape) (limits : List ℕ) (m : Map) (q : Key) → (space_of q == 1) ≡ false → value_at (map_left shape limits task m) q ≡ value_at m q
change_keeps_others (put key value) shape limits m q other = others_kept shape limits m (store_of key value Any) refl q other
change_keeps_others (delete key) shape limits m q other = others_kept shape limits m (delete_of key) refl q other
change_keeps_others _ shape limits m q other = refl

-- what a word leaves of the first namespace is what it leaves of a drive that has this namespace alone
pub part_left : (task : PairTask) (shape : Shape) (terms : Terms) → 1 ≤ length terms.limits → (m : Map)
    → in_space 1 (map_left shape terms.limits task m) ≡ map_left shape (limit_of terms.limits 1 ∷ []) task (in_space 1 m)
part_left (put key value) shape terms some m = first_left shape terms some (store_of key value Any) refl m
part_left (delete key) shape terms some m = first_left shape terms some (delete_of key) refl m
part_left _ shape terms some m = refl

-- maps with the same first namespace and the same values of other keys are the same
pub same_parts : (x y : Map) → in_space 1 x ≡ in_space 1 y → ((q : Key) → (space_of q == 1) ≡ false → value_at x q ≡ value_at y q) → x ≡ y
same_parts x y part others = by_keys x y (λ q. elim (space_of q == 1) as (λ b. (space_of q == 1) ≡ b → value_at x q ≡ value_at y q) [
  | true ↦ λ own.
      ap (λ b. cond b (value_at x q) None) (sym own) ∙ sym (get_in_space 1 x q) ∙ ap (λ (m : Map). value_at m q) part
      ∙ get_in_space 1 y q ∙ ap (λ b. cond b (value_at y q) None) own
  | false ↦ λ other. others q other
] refl)

-- ---- the second drive

own_space : (c : Command) → LooksOrChanges c → c.namespace ≡ 1
own_space c (inl (inl (inl (inl (from, e))))) = ap (λ (d : Command). d.namespace) e
own_space c (inl (inl (inl (inr (key, size, e))))) = ap (λ (d : Command). d.namespace) e
own_space c (inl (inl (inr (key, e)))) = ap (λ (d : Command). d.namespace) e
own_space c (inl (inr own)) = own.1
own_space c (inr own) = own.1

left_others : (shape : Shape) (limits : List ℕ) (m : Map) (cs : List Command) (m' : Map) → AreOfPair cs → LeftOf shape limits m cs m'
    → (q : Key) → (space_of q == 1) ≡ false → value_at m' q ≡ value_at m q
left_others shape limits m [] m' are e q other = ap (λ (x : Map). value_at x q) e
left_others shape limits m (c ∷ cs) m' are (inl h) q other = left_others shape limits m cs m' are.1 h q other
left_others shape limits m (c ∷ cs) m' are (inr h) q other =
    left_others shape limits (map_after shape limits m c) cs m' are.1 h q other ∙ others_kept shape limits m c (own_space c are.0) q other

-- maps with the same values of keys of other namespaces have the same other namespaces
other_spaces : (m m' : Map) → ((q : Key) → (space_of q == 1) ≡ false → value_at m' q ≡ value_at m q) → KeepsOtherSpaces m m'
other_spaces m m' same space apart = by_keys (in_space space m') (in_space space m) (λ q. get_in_space space m' q ∙ at q ∙ sym (get_in_space space m q))
  where
    not_first : (q : Key) → (space_of q == space) ≡ true → (space_of q == 1) ≡ false
    not_first q here = elim (space_of q == 1) as (λ b. (space_of q == 1) ≡ b → b ≡ false) [
      | true ↦ λ first. absurd (apart (sym (eqb-true (space_of q) space here) ∙ eqb-true (space_of q) 1 first))
      | false ↦ λ e. refl
    ] refl

    at : (q : Key) → cond (space_of q == space) (value_at m' q) None ≡ cond (space_of q == space) (value_at m q) None
    at q = elim (space_of q == space) as (λ b. (space_of q == space) ≡ b → cond b (value_at m' q) None ≡ cond b (value_at m q) None) [
      | true ↦ λ here. same q (not_first q here)
      | false ↦ λ e. refl
    ] refl

-- commands that were served on the second drive keep the other namespaces
pub ran_second : (shape : Shape) (terms : Terms) (m m' : Map) (xs : List Exchange) → AreOfPair (commands xs) → RunWithin shape terms m xs m' → KeepsOtherSpaces m m'
ran_second shape terms m m' xs are ran = other_spaces m m' (left_others shape terms.limits m (commands xs) m' are (ran_left shape terms xs m m' ran))

-- so does what is kept of them
pub kept_second : (shape : Shape) (terms : Terms) (m : Map) (cs : List Command) (n : Option ℕ) (posted : List ℕ) (f : Flash) → AreOfPair cs
    → (k : Kept shape terms m cs n posted f) → KeepsOtherSpaces m k.map_left
kept_second shape terms m cs n posted f are k =
    let more = left_more shape terms.limits m (commands k.served) k.map_left k.unserved (ran_left shape terms k.served m k.map_left k.ran) in
    let whole = subst (λ (ds : List Command). LeftOf shape terms.limits m ds k.map_left) k.from_front more in
    other_spaces m k.map_left (left_others shape terms.limits m cs k.map_left are whole)

-- ---- roots

looks_none : (c : Command) → OnlyLooks c → installs_of c ≡ 0
looks_none c (inl (inl (from, e))) = ap (λ (d : Command). installs_of d) e
looks_none c (inl (inr (key, size, e))) = ap (λ (d : Command). installs_of d) e
looks_none c (inr (key, e)) = ap (λ (d : Command). installs_of d) e

by_opcode : (opcode size : ℕ) → (opcode ≡ DELETE) ⊎ (opcode ≡ STORE)
    → (if only_looks opcode then 0 else most_installs opcode size) ≤ 10 * ((if opcode == DELETE then 1 else 0) + (if opcode == STORE then 1 else 0))
by_opcode opcode size (inl e) = subst (λ (o : ℕ). (if only_looks o then 0 else most_installs o size) ≤ 10 * ((if o == DELETE then 1 else 0) + (if o == STORE then 1 else 0))) (sym e) (omega arith)
by_opcode opcode size (inr e) = subst (λ (o : ℕ). (if only_looks o then 0 else most_installs o size) ≤ 10 * ((if o == DELETE then 1 else 0) + (if o == STORE then 1 else 0))) (sym e) (omega arith)

one_installs : (c : Command) → LooksOrChanges c → installs_of c ≤ 10 * ((if c.opcode == DELETE then 1 else 0) + (if c.opcode == STORE then 1 else 0))
one_installs c (inl (inl looks)) = let none = looks_none c looks in omega (arith, none)
one_installs c (inl (inr own)) = by_opcode c.opcode c.size (inl own.0)
one_installs c (inr own) = by_opcode c.opcode c.size (inr own.0)

few_installs : (cs : List Command) → AreOfPair cs → installs cs ≤ 10 * (opcode_count DELETE cs + opcode_count STORE cs)
few_installs [] h = omega arith
few_installs (c ∷ cs) h = let one = one_installs c h.0 in let rest = few_installs cs h.1 in omega (arith, one, rest)

pub second_installs : (task : PairTask) (m other : Map) (cs : List Command) → OnSecond task m other cs → installs cs ≤ most_pair_roots m other
second_installs task m other cs are =
    let few = are.few in
    let each = few_installs cs are.only in
    omega (arith, few, each)

asks_install : (asks change : List Command) → AreAsking asks → installs (asks ++ change) ≡ installs change
asks_install [] change h = refl
asks_install (c ∷ asks) change h = let none = looks_none c (inl h.0) in let rest = asks_install asks change h.1 in omega (arith, none, rest)

change_installs : (task : PairTask) (change : List Command) → AreChange (change_of task) change → installs change ≤ 10
change_installs (put key value) change (inl none) = let n : installs change ≡ 0 = ap installs none in omega (arith, n)
change_installs (put key value) change (inr one) = let n : installs change ≡ 10 = ap installs one in omega (arith, n)
change_installs (get key) change none = let n : installs change ≡ 0 = ap installs none in omega (arith, n)
change_installs (delete key) change (inl none) = let n : installs change ≡ 0 = ap installs none in omega (arith, n)
change_installs (delete key) change (inr one) = let n : installs change ≡ 10 = ap installs one in omega (arith, n)
change_installs list change none = let n : installs change ≡ 0 = ap installs none in omega (arith, n)
change_installs resync change none = let n : installs change ≡ 0 = ap installs none in omega (arith, n)

pub first_installs : (task : PairTask) (m other : Map) (cs : List Command) → AreOfWord task cs → installs cs ≤ most_pair_roots m other
first_installs task m other cs are =
    let few = change_installs task are.change are.changing in
    let all : installs cs ≡ installs are.change = ap installs are.are ∙ asks_install are.asks are.change are.asking in
    omega (arith, few, all)
