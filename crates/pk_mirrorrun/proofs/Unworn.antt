-- Chains of commands: which of them were served, each on a drive that was not worn.
use Rattle.std.proofs.Common.{◌≡◌, ◌⊎◌, inl, inr, ℕ, List, [], ◌∷◌, ◌++◌, Option, Some, None, refl, sym, ap, subst, ◌∙◌, true, false}
use Rattle.pk_base.specs.Shape.{Shape}
use Rattle.pk_nvme.specs.Command.{Command}
use Rattle.pk_nand.specs.Calls.{Rose}
use Rattle.pk_model.specs.Wear.{is_worn}
use Rattle.pk_port.{specs.Steps.Mounted, specs.Steps.Standing, specs.Steps.Runs, specs.Steps.HasCause, specs.Steps.Chain, specs.declared.halt.Halt.Halt}
use Rattle.pk_port.specs.declared.halt.Halt.TheVariants.{Stopped, Worn}
use Rattle.pk_mirrorrun.specs.PairTold.{EachServed, ServedUnworn, WornBefore}

-- ---- no command was left without an answer

each_served : (shape : Shape) (p : Standing) (cs : List Command) (q : Standing) → q.halt ≡ None → Chain shape p cs q → (p.halt ≡ None) × EachServed shape p.on cs q.on
each_served shape p [] q none e = (ap (λ (x : Standing). x.halt) (sym e) ∙ none, ap (λ (x : Standing). x.on) e)
each_served shape p (c ∷ cs) q none (mid, s, more) =
    let (clear, rest) = each_served shape mid cs q none more in
    elim s.ended [
      | inl t ↦ (sym t.3 ∙ clear, (mid.on, t.0, t.1, rest))
      | inr (halt, fails, rose, is) ↦ absurd (let clash : ◌≡◌ {A = Option Halt} None (Some halt) = sym clear ∙ is in cc)
    ]

-- all were served
pub all_unworn : (Are : List Command → Type 0) (shape : Shape) (p : Standing) (cs : List Command) (q : Standing) → Are cs → q.halt ≡ None → Chain shape p cs q
    → ServedUnworn Are shape p.on.board q.on.board
all_unworn Are shape p cs q are none chain = record {
  asked = cs;
  are = are;
  before = p.on;
  behind = q.on;
  before_is = refl;
  behind_is = refl;
  served = (each_served shape p cs q none chain).1;
}

-- ---- one was left

-- why a drive serves nothing
runs_not : (on : Mounted) (halt : Halt) → HasCause on halt → Runs on → ⊥
runs_not on Stopped cause runs = let clash : true ≡ false = sym cause ∙ runs.going in cc
runs_not on Worn cause runs = let clash : true ≡ false = sym cause ∙ runs.unworn in cc

-- a drive that serves nothing is not touched
stays : (shape : Shape) (p : Standing) (cs : List Command) (q : Standing) → (Runs p.on → ⊥) → Chain shape p cs q → q.on ≡ p.on
stays shape p [] q idle e = ap (λ (x : Standing). x.on) e
stays shape p (c ∷ cs) q idle (mid, s, more) = elim s.ended [
  | inl t ↦ absurd (idle t.1.runs)
  | inr (halt, inl t, rose, is) ↦ absurd (idle t.1.runs)
  | inr (halt, inr t, rose, is) ↦ stays shape mid cs q (λ r. idle (subst (λ (on : Mounted). Runs on) t.1 r)) more ∙ t.1
]

-- these were served, and then nothing was done although one remained
abbrev Remains : Shape → Standing → List Command → Standing → Type 0
Remains shape p cs q = (done : List Command) × (next : Command) × (more : List Command) × (cs ≡ done ++ next ∷ more) × EachServed shape p.on done q.on

-- those before it were served; or one stopped the drive
served_before : (shape : Shape) (p : Standing) (cs : List Command) (q : Standing) (halt : Halt) → p.halt ≡ None → q.halt ≡ Some halt → Chain shape p cs q
    → Remains shape p cs q ⊎ Rose p.on.board.stop_faults q.on.board.stop_faults
served_before shape p [] q halt none is e = absurd (let clash : ◌≡◌ {A = Option Halt} None (Some halt) = sym none ∙ ap (λ (x : Standing). x.halt) (sym e) ∙ is in cc)
served_before shape p (c ∷ cs) q halt none is (mid, s, chain) = elim s.ended [
  | inl t ↦ elim (served_before shape mid cs q halt (t.3 ∙ none) is chain) [
    | inl (done, next, more, parts, served) ↦ inl (c ∷ done, next, more, ap (λ (l : List Command). c ∷ l) parts, (mid.on, t.0, t.1, served))
    | inr rose ↦ inr (subst (λ (n : ℕ). Rose n q.on.board.stop_faults) t.1.no_stop rose)
  ]
  | inr (why, inl t, rose, now) ↦
      let same = stays shape mid cs q (runs_not mid.on Stopped t.1.stopped) chain in
      inr (subst (λ (on : Mounted). Rose p.on.board.stop_faults on.board.stop_faults) (sym same) t.1.stop)
  | inr (why, inr t, rose, now) ↦
      let same = stays shape mid cs q (λ r. runs_not p.on why t.0 (subst (λ (on : Mounted). Runs on) t.1 r)) chain in
      inl ([], c, cs, refl, same ∙ t.1)
]

-- a worn drive left one
pub worn_before : (Are : List Command → Type 0) (shape : Shape) (p : Standing) (cs : List Command) (q : Standing) (halt : Halt) → Are cs → p.halt ≡ None → q.halt ≡ Some halt
    → Chain shape p cs q → is_worn q.on.board ≡ true → WornBefore Are shape p.on.board q.on.board
worn_before Are shape p cs q halt are none is chain worn = record {
  worn = worn;
  served = elim (served_before shape p cs q halt none is chain) [
    | inl (done, next, more, parts, served) ↦ inl (
        record {
          asked = done;
          are = (next, more, subst (λ (l : List Command). Are l) parts are);
          before = p.on;
          behind = q.on;
          before_is = refl;
          behind_is = refl;
          served = served;
        })
    | inr rose ↦ inr rose
  ];
}
