-- A run of commands, and those of one namespace in it.
use Rattle.std.proofs.lemmas.Bool.{eqb-false}
use Rattle.std.proofs.Common.{length, ◌≡◌, ℕ, ◌≤◌, ◌∷◌, [], List, Bool, true, false, refl, sym, ap, ◌==◌, ◌&&◌, if◌then◌else◌, nat_le, subst, eqb-true, ne_eqb, le-leb}
use Rattle.pk_base.{specs.Shape.Shape, specs.Map.Map}
use Rattle.pk_nvme.{specs.Command.Command, specs.Reply.Reply}
use Rattle.pk_model.{specs.Spaces.Terms, specs.Spaces.is_space, specs.Run.Step, specs.Run.Run, specs.Run.Exchange, specs.Run.commands}
use Rattle.pk_law_isolation.specs.Isolation.{map_alone, terms_alone, command_alone, commands_of_space, exchanges_in, Isolated}
use Rattle.pk_law_isolation.proofs.Alone.{own_step, other_step}

both : (a b : Bool) → a ≡ true → b ≡ true → (a && b) ≡ true
both a b x y = λ i. (x i) && (y i)

module _ (shape : Shape) (terms : Terms) (space : ℕ) (some : 1 ≤ space) (most : space ≤ length terms.limits) where
  is : is_space (length terms.limits) space ≡ true
  is = both (nat_le 1 space) (nat_le space (length terms.limits)) (le-leb 1 space some) (le-leb space (length terms.limits) most)

  own : (m m' : Map) (c : Command) (a : Reply) → c.namespace ≡ space → Step shape terms m c a m' → Step shape (terms_alone terms space) (map_alone space m) (command_alone c) a (map_alone space m')
  own m m' c a named step = subst (λ n. Step shape (terms_alone terms n) (map_alone n m) (command_alone c) a (map_alone n m')) named
      (own_step shape c (subst (λ n. 1 ≤ n) (sym named) some) m terms (subst (λ n. is_space (length terms.limits) n ≡ true) (sym named) is) a m' step)

  elsewhere : (m m' : Map) (c : Command) (a : Reply) → (c.namespace == space) ≡ false → Step shape terms m c a m' → map_alone space m' ≡ map_alone space m
  elsewhere m m' c a differ step =
      other_step shape terms space some c (ne_eqb space c.namespace (λ same. eqb-false c.namespace space differ (sym same))) m a m' step

  pub ran_alone : (m m' : Map) (xs : List Exchange) → Run shape terms m xs m' → Run shape (terms_alone terms space) (map_alone space m) (exchanges_in space xs) (map_alone space m')
  ran_alone m m' [] run = ap (map_alone space) run
  ran_alone m m' (x ∷ xs) (next, step, rest) =
      let later = ran_alone next m' xs rest in
      elim (x.command.namespace == space) as (λ t. (x.command.namespace == space) ≡ t
      → Run shape (terms_alone terms space) (map_alone space m) (if t then record x { command = command_alone x.command } ∷ exchanges_in space xs else exchanges_in space xs) (map_alone space m')) [
        | true ↦ λ e. (map_alone space next, own m next x.command x.reply (eqb-true x.command.namespace space e) step, later)
        | false ↦ λ e. subst (λ n. Run shape (terms_alone terms space) n (exchanges_in space xs) (map_alone space m')) (elsewhere m next x.command x.reply e step) later
      ] refl

same_commands : (space : ℕ) (xs : List Exchange) → commands (exchanges_in space xs) ≡ commands_of_space space (commands xs)
same_commands space [] = refl
same_commands space (x ∷ xs) =
    elim (x.command.namespace == space) as (λ t. commands (if t then record x { command = command_alone x.command } ∷ exchanges_in space xs else exchanges_in space xs)
    ≡ (if t then command_alone x.command ∷ commands_of_space space (commands xs) else commands_of_space space (commands xs))) [
      | true ↦ ap (λ cs. command_alone x.command ∷ cs) (same_commands space xs)
      | false ↦ same_commands space xs
    ]

pub isolated : Isolated
isolated shape terms space m m' xs some most run = (ran_alone shape terms space some most m m' xs run, same_commands space xs)
