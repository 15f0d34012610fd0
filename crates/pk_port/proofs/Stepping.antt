-- One command through the port, and what a host sees of it.
use Rattle.std.proofs.Common.{◌≡◌, inl, inr, ℕ, ◌≤◌, refl, sym, ap, subst, ◌∙◌, List, [], ◌∷◌, length, Option, Some, None, Result, Ok, arith}
use Rattle.std.{specs.Option.option_map, specs.Result.result_ok}
use Rattle.pk_base.{specs.Shape.Shape, specs.Map.Map, specs.Refusal.Refusal}
use Rattle.pk_nvme.specs.Command.{Command}
use Rattle.pk_nand.specs.Calls.{Rose}
use Rattle.pk_model.{specs.Answer.map_after, specs.Reading.reading, specs.Reading.Holds, specs.Run.Exchange, specs.Spaces.limits_at, specs.Spaces.limit_of, specs.Spaces.in_space}
use Rattle.pk_host.specs.Port.{Took, LeftBySome}
use Rattle.pk_port.specs.Steps.{Mounted, Standing, Serves, Stops, Fails, Stepped, Chain, seen}
use Rattle.pk_port.{specs.declared.halt.Halt.Halt, proofs.Isolating.first_left}
use Rattle.pk_serve.proofs.Limiting.{limits_some}

-- the first namespace of a map that is read
abbrev pub part_of : Result Map Refusal → Option Map
part_of r = option_map (in_space 1) (result_ok r)

some_same : (x y : Map) → ◌≡◌ {A = Option Map} (Some x) (Some y) → x ≡ y
some_same x y e = cc

-- it is that of the map that is held
pub part_held : (r : Result Map Refusal) (map m : Map) → r ≡ Ok map → part_of r ≡ Some m → in_space 1 map ≡ m
part_held r map m held told = some_same (in_space 1 map) m (sym (ap part_of held) ∙ told)

told_not : {A : Type 0} (r : Result Map Refusal) (m : Map) → r ≡ Ok m → part_of r ≡ None → A
told_not r m e none = absurd (let h : ◌≡◌ {A = Option Map} None (Some (in_space 1 m)) = sym none ∙ ap part_of e in cc)

-- a drive on a flash that is read has a namespace
some_limit : (shape : Shape) (on : Mounted) (map : Map) → Holds shape on.board.pages map → limits_at shape on.board.pages ≡ on.terms.limits → 1 ≤ length on.terms.limits
some_limit shape on map held its_limits = subst (λ (limits : List ℕ). 1 ≤ length limits) its_limits (limits_some shape on.board.pages [] map held)

module _ (shape : Shape) (old new : Mounted) (c : Command) (first : c.namespace ≡ 1) where
  -- the map afterwards is that before the command or the one after it
  abbrev OneOf : Map → Type 0
  OneOf m = (m' : Map) × (part_of (reading shape new.board.pages []) ≡ Some m') × LeftBySome shape (limit_of old.terms.limits 1) m (c ∷ []) m'

  after_is : (some : 1 ≤ length old.terms.limits) (map m : Map) → in_space 1 map ≡ m → in_space 1 (map_after shape old.terms.limits map c) ≡ map_after shape (limit_of old.terms.limits 1 ∷ []) m c
  after_is some map m same = first_left shape old.terms some c first map ∙ ap (λ (n : Map). map_after shape (limit_of old.terms.limits 1 ∷ []) n c) same

  served_left : (x : Exchange) → Serves shape old new c x → (m : Map) → part_of (reading shape old.board.pages []) ≡ Some m → OneOf m
  served_left x s m told =
      let same = part_held (reading shape old.board.pages []) s.map m s.held told in (
        in_space 1 s.left,
        ap part_of s.holds,
        elim s.step.0 [
          | inl answer ↦ inr (ap (in_space 1) (answer.leaves ∙ ap (map_after shape old.terms.limits s.map) s.is) ∙ after_is (some_limit shape old s.map s.held s.its_limits) s.map m same)
          | inr fault ↦ inl (ap (in_space 1) fault.leaves ∙ same)
        ],
      )

  stopped_left : Stops shape old new c → (m : Map) → part_of (reading shape old.board.pages []) ≡ Some m → OneOf m
  stopped_left s m told =
      let same = part_held (reading shape old.board.pages []) s.map m s.held told in
      elim (s.went.1.cuts _ _ s.went.1.stands).1 [
        | inl before ↦ (in_space 1 s.map, ap part_of before, inl same)
        | inr behind ↦ (in_space 1 (map_after shape old.terms.limits s.map c), ap part_of behind, inr (after_is (some_limit shape old s.map s.held s.its_limits) s.map m same))
      ]

  same_left : new ≡ old → (m : Map) → part_of (reading shape old.board.pages []) ≡ Some m → OneOf m
  same_left e m told = (m, ap (λ (on : Mounted). part_of (reading shape on.board.pages [])) e ∙ told, inl refl)

  served_took : (before behind : ℕ) → before ≤ behind → (x : Exchange) → Serves shape old new c x → Took (seen shape old before) (seen shape new behind) (c ∷ [])
  served_took before behind up x s = record {
    shape = refl;
    limit = ap (λ (on : Mounted). limit_of on.terms.limits 1) s.new_is;
    port_faults = up;
    read_faults = s.up;
    untold = λ none. told_not _ s.map s.held none;
    told = λ m told. served_left x s m told;
  }

  failed_took : (before behind : ℕ) → before ≤ behind → (h : Halt) → Fails shape old new c h → Took (seen shape old before) (seen shape new behind) (c ∷ [])
  failed_took before behind up h (inl (is, s)) = record {
    shape = refl;
    limit = ap (λ (limits : List ℕ). limit_of limits 1) s.same_limits;
    port_faults = up;
    read_faults = s.up;
    untold = λ none. told_not _ s.map s.held none;
    told = λ m told. stopped_left s m told;
  }
  failed_took before behind up h (inr (cause, same)) = record {
    shape = refl;
    limit = ap (λ (on : Mounted). limit_of on.terms.limits 1) same;
    port_faults = up;
    read_faults = (let e = ap (λ (on : Mounted). on.board.read_faults) same in omega (arith, e));
    untold = λ none. ap (λ (on : Mounted). part_of (reading shape on.board.pages [])) same ∙ none;
    told = λ m told. same_left same m told;
  }

  module _ (before behind : ℕ) (halt halt' : Option Halt) (has : new.board.shape ≡ Some shape) where
    abbrev first_standing : Standing
    first_standing = record { on = old; faults = before; halt = halt }

    abbrev last_standing : Standing
    last_standing = record { on = new; faults = behind; halt = halt' }

    -- a command that was served, and the port counts no fault
    pub stepped_ok : (x : Exchange) → Serves shape old new c x → behind ≡ before → halt' ≡ halt → Stepped shape first_standing last_standing c
    stepped_ok x s same same_halt = record {
      shape_is = sym (ap (λ b. b.shape) s.rest) ∙ has;
      up = omega (arith, same);
      ended = inl (x, s, same, same_halt);
      took = served_took before behind (omega (arith, same)) x s;
    }

    -- one that was not
    pub stepped_err : (h : Halt) → Fails shape old new c h → Rose before behind → before ≤ behind → halt' ≡ Some h → Stepped shape first_standing last_standing c
    stepped_err h fails rose up is = record {
      shape_is = elim fails [ inl s ↦ sym (ap (λ b. b.shape) s.1.rest) ∙ has | inr s ↦ ap (λ (on : Mounted). on.board.shape) (sym s.1) ∙ has ];
      up = up;
      ended = inr (h, fails, rose, is);
      took = failed_took before behind up h fails;
    }

-- a chain of this command
pub chain_one : (shape : Shape) (p q : Standing) (c d : Command) → c ≡ d → Stepped shape p q c → Chain shape p (d ∷ []) q
chain_one shape p q c d e s = let T : Command → Type 0 = λ k. Stepped shape p q k in (q, subst T e s, refl)
