-- A command in the first namespace of a drive, as a drive answers it that has this namespace alone.
use Rattle.std.proofs.Common.{◌≡◌, ◌≢◌, ℕ, ◌≤◌, List, [], ◌∷◌, length, Bool, true, false, ◌==◌, cond, ◌&&◌, nat_le, Option, None, refl, sym, ap, subst, ◌∙◌, arith, ne_eqb}
use Rattle.std.{proofs.lemmas.Bool.le-leb, specs.List.AllByRecursion, specs.FinMap.get, specs.FinMap.entries, specs.FinMap.Entries.where_key}
use Rattle.pk_base.{specs.Shape.Shape, specs.Key.Key, specs.Key.key_cmp, specs.Key.space_of, specs.Map.Map, specs.Map.IsMap}
use Rattle.pk_nvme.{specs.Command.Command, specs.Reply.Reply}
use Rattle.pk_model.{specs.Answer.Answer, specs.Answer.map_after, specs.Run.Step, specs.Spaces.Terms, specs.Spaces.one_space, specs.Spaces.limit_of, specs.Spaces.is_space, specs.Spaces.in_space}
use Rattle.pk_model.proofs.SpaceLemmas.{by_keys, entries_in, get_in_space}
use Rattle.pk_law_isolation.{specs.Isolation.map_alone, specs.Isolation.terms_alone, specs.Isolation.command_alone, proofs.Alone.own_answer, proofs.Alone.own_step, proofs.Alone.other_step}
use Rattle.pk_law_isolation.proofs.Sums.{first_is_part}
use Rattle.pk_serve.proofs.Answering.{answers}

module _ (shape : Shape) (terms : Terms) (some : 1 ≤ length terms.limits) (c : Command) (first : c.namespace ≡ 1) where
  -- what the first namespace is alone
  abbrev alone : Terms
  alone = one_space terms.frames (limit_of terms.limits 1)

  exists : is_space (length terms.limits) c.namespace ≡ true
  exists = ap (λ (n : ℕ). nat_le 1 n && nat_le n (length terms.limits)) first ∙ le-leb 1 (length terms.limits) some

  named : 1 ≤ c.namespace
  named = subst (λ (n : ℕ). 1 ≤ n) (sym first) (omega arith)

  same_command : command_alone c ≡ c
  same_command = λ i. record c { namespace = sym first i }

  moved : (X : Terms → Map → Command → Map → Type 0) (m m' : Map)
      → X (terms_alone terms c.namespace) (map_alone c.namespace m) (command_alone c) (map_alone c.namespace m') → X alone (in_space 1 m) c (in_space 1 m')
  moved X m m' h =
      let at_one : X alone (map_alone 1 m) (command_alone c) (map_alone 1 m') =
      subst (λ (n : ℕ). X (terms_alone terms n) (map_alone n m) (command_alone c) (map_alone n m')) first h in
      let of_c : X alone (map_alone 1 m) c (map_alone 1 m') = subst (λ (d : Command). X alone (map_alone 1 m) d (map_alone 1 m')) same_command at_one in
      subst (λ (n : Map). X alone (in_space 1 m) c n) (first_is_part m') (subst (λ (n : Map). X alone n c (map_alone 1 m')) (first_is_part m) of_c)

  pub first_step : (m : Map) (a : Reply) (m' : Map) → Step shape terms m c a m' → Step shape alone (in_space 1 m) c a (in_space 1 m')
  first_step m a m' step = moved (λ t n d n'. Step shape t n d a n') m m' (own_step shape c named m terms exists a m' step)

  first_answer : (m : Map) (a : Reply) (m' : Map) → Answer shape terms m c a m' → Answer shape alone (in_space 1 m) c a (in_space 1 m')
  first_answer m a m' answer = moved (λ t n d n'. Answer shape t n d a n') m m' (own_answer shape c named m terms exists a m' answer)

  -- the map that it leaves
  pub first_left : (m : Map) → in_space 1 (map_after shape terms.limits m c) ≡ map_after shape (limit_of terms.limits 1 ∷ []) (in_space 1 m) c
  first_left m = (first_answer m _ _ (answers shape terms m c)).leaves

-- a command in another namespace leaves the first one
pub others_left : (shape : Shape) (terms : Terms) (c : Command) → c.namespace ≢ 1 → (m : Map) (a : Reply) (m' : Map) → Step shape terms m c a m' → in_space 1 m' ≡ in_space 1 m
others_left shape terms c other m a m' step =
    sym (first_is_part m') ∙ other_step shape terms 1 (omega arith) c (ne_eqb 1 c.namespace (λ e. other (sym e))) m a m' step ∙ first_is_part m

-- ---- the first namespace of a map

twice : (own : Bool) (v : Option (List ℕ)) → cond own (cond own v None) None ≡ cond own v None
twice true v = refl
twice false v = refl

pub part_alone : (m : Map) → in_space 1 (in_space 1 m) ≡ in_space 1 m
part_alone m = by_keys _ _ (λ q.
    get_in_space 1 (in_space 1 m) q ∙ ap (λ (v : Option (List ℕ)). cond (space_of q == 1) v None) (get_in_space 1 m q) ∙ twice (space_of q == 1) (get m q) ∙ sym (get_in_space 1 m q))

-- what holds of each entry holds of each of the namespace
some_pass : (P : Key × List ℕ → Type 0) (p : Key → Bool) (es : List (Key × List ℕ)) → AllByRecursion P es → AllByRecursion P (where_key key_cmp p es)
some_pass P p [] all = tt
some_pass P p (e ∷ es) all = elim (p e.0) as (λ b. AllByRecursion P (cond b (e ∷ where_key key_cmp p es) (where_key key_cmp p es))) [
  | true ↦ (all.0, some_pass P p es all.1)
  | false ↦ some_pass P p es all.1
]

part_all : (P : Key × List ℕ → Type 0) (m : Map) → AllByRecursion P (entries m) → AllByRecursion P (entries (in_space 1 m))
part_all P m all = subst (AllByRecursion P) (sym (entries_in 1 m)) (some_pass P (λ k. space_of k == 1) (entries m) all)

pub part_sized : (shape : Shape) (m : Map) → IsMap shape m → IsMap shape (in_space 1 m)
part_sized shape m is = record { keys = part_all _ m is.keys; values = part_all _ m is.values }
