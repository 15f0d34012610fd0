-- A chain of commands through a port, folded into one run.
use Rattle.std.proofs.Common.{◌≡◌, inl, inr, ℕ, ◌+◌, ◌≤◌, ◌⊎◌, if◌then◌else◌, List, [], ◌∷◌, ◌++◌, Some, true, false, refl, sym, ap, subst, ◌∙◌, arith, append-nil, append_assoc}
use Rattle.pk_base.{specs.Shape.Shape, specs.Map.Map}
use Rattle.pk_nvme.specs.Command.{Command}
use Rattle.pk_nand.{specs.Calls.Rose, specs.Effects.OnlyFlash, proofs.Effects.only_then}
use Rattle.pk_model.{specs.Growth.Goes, specs.Kept.rise, specs.Reading.Holds, specs.Run.Exchange, specs.Wear.roots, proofs.Growing.Goes-reaches}
use Rattle.pk_serve.proofs.Weakening.{goes_as}
use Rattle.pk_model.specs.Spaces.{Terms, limits_at}
use Rattle.pk_call.{specs.Calling.only_looks, specs.Exec.most_installs}
use Rattle.pk_port.{specs.Asking.KeptSilently, specs.Asking.Asked, specs.Chained.installs_of, specs.Chained.installs, specs.Chained.AllServed, specs.Chained.HaltedAt, specs.Chained.Chained}
use Rattle.pk_port.{specs.Steps.Mounted, specs.Steps.Standing, specs.Steps.Runs, specs.Steps.Serves, specs.Steps.Stops, specs.Steps.HasCause, specs.Steps.Chain, specs.declared.halt.Halt.Halt}
use Rattle.pk_port.specs.declared.halt.Halt.TheVariants.{Stopped, Worn}
use Rattle.pk_port.proofs.Growing.{silent-more, asked-none, asked-next, asked-stops}

-- ---- roots

installs_both : (cs ds : List Command) → installs (cs ++ ds) ≡ installs cs + installs ds
installs_both [] ds = omega arith
installs_both (c ∷ cs) ds = let e = installs_both cs ds in omega (arith, e)

roots_next : (shape : Shape) (old new : Mounted) (c : Command) (x : Exchange) → Serves shape old new c x → roots new.board ≤ roots old.board + installs_of c
roots_next shape old new c x s =
    elim (only_looks c.opcode) as (λ b. only_looks c.opcode ≡ b → roots new.board ≤ roots old.board + (if b then 0 else most_installs c.opcode c.size)) [
      | true ↦ λ e. let same : roots new.board ≡ roots old.board = ap roots (s.looks e) in omega (arith, same)
      | false ↦ λ e. subst (λ (d : Command). roots new.board ≤ roots old.board + most_installs d.opcode d.size) s.is s.metered.installs
    ] refl

-- ---- a port that serves nothing more

runs_not : (on : Mounted) (h : Halt) → HasCause on h → Runs on → ⊥
runs_not on Stopped cause runs = let clash : true ≡ false = sym cause ∙ runs.going in cc
runs_not on Worn cause runs = let clash : true ≡ false = sym cause ∙ runs.unworn in cc

-- why it serves nothing more
IsHalted : Standing → Type 0
IsHalted q = (h : Halt) × (q.halt ≡ Some h) × HasCause q.on h

halted_as : (q : Standing) (h : Halt) → q.halt ≡ Some h → HasCause q.on h → IsHalted q
unfolding IsHalted
halted_as q h is cause = (h, is, cause)

stays : (shape : Shape) (p : Standing) (cs : List Command) (q : Standing) → IsHalted p → Chain shape p cs q → (q.on ≡ p.on) × IsHalted q
unfolding IsHalted
stays shape p [] q h e = subst (λ (x : Standing). (x.on ≡ p.on) × IsHalted x) (sym e) (refl, h)
stays shape p (c ∷ cs) q (h, is, cause) (mid, s, more) = elim s.ended [
  | inl t ↦ absurd (runs_not p.on h cause t.1.runs)
  | inr (h2, inl t, rose, is2) ↦ absurd (runs_not p.on h cause t.1.runs)
  | inr (h2, inr t, rose, is2) ↦
      let (same, halted) = stays shape mid cs q (h2, is2, subst (λ (on : Mounted). HasCause on h2) (sym t.1) t.0) more in (same ∙ t.1, halted)
]

-- ---- a chain

module _ (shape : Shape) (start : Map) (p : Standing) where
  -- the same frames all the time
  asked_at : (mid : Standing) (done : List Command) → AllServed shape start done p mid → Asked shape mid.on.terms start p.on.board mid.on.board done
  asked_at mid done w = subst (λ (n : Terms). Asked shape n start p.on.board mid.on.board done) (sym w.same_terms) w.asked

  -- one more was served
  served_next : (mid next : Standing) (done : List Command) (c : Command) (x : Exchange) → AllServed shape start done p mid
      → Serves shape mid.on next.on c x → next.faults ≡ mid.faults → next.halt ≡ mid.halt → AllServed shape start (done ++ c ∷ []) p next
  served_next mid next done c x w s faults halt =
      let more = asked-next shape start p.on.board done mid.on next.on c (asked_at mid done w) x s in
      let one = roots_next shape mid.on next.on c x s in
      let few = w.few in
      let sum = installs_both done (c ∷ []) in
      record {
        asked = subst (λ (n : Terms). Asked shape n start p.on.board next.on.board (done ++ c ∷ [])) w.same_terms more;
        going = ap (λ (on : Mounted). on.stopped) s.new_is ∙ w.going;
        same_terms = ap (λ (on : Mounted). on.terms) s.new_is ∙ w.same_terms;
        same_faults = faults ∙ w.same_faults;
        same_halt = halt ∙ w.same_halt;
        few = omega (arith, one, few, sum);
      }

  -- more commands that were not served
  halted_more : (done more : List Command) (q : Standing) → HaltedAt shape start done p q → HaltedAt shape start (done ++ more) p q
  halted_more done more q h = record {
    halt = h.halt;
    is = h.is;
    cause = h.cause;
    kept = goes_as shape p.on.board q.on.board
        (silent-more shape p.on.terms start done more (rise p.on.board.read_faults q.on.board.read_faults) (rise p.on.board.read_faults q.on.board.read_faults) (λ k few. few)) h.kept;
    rose = h.rose;
    why = elim h.why [
      | inl stop ↦ inl stop
      | inr (same, going, few) ↦ let sum = installs_both done more in inr (same, going, omega (arith, few, sum))
    ];
    rest = h.rest;
  }

  -- a drive that was not touched from then on
  halted_still : (done : List Command) (next q : Standing) → q.on ≡ next.on → IsHalted q → HaltedAt shape start done p next → HaltedAt shape start done p q
  unfolding IsHalted
  halted_still done next q same (halt, is, cause) h = record {
    halt = halt;
    is = is;
    cause = cause;
    kept = subst (λ (on : Mounted). Goes shape p.on.board on.board (KeptSilently shape p.on.terms start done (rise p.on.board.read_faults on.board.read_faults))) (sym same) h.kept;
    rose = subst (λ (on : Mounted). p.on.board.read_faults ≤ on.board.read_faults) (sym same) h.rose;
    why = subst (λ (on : Mounted). Rose p.on.board.stop_faults on.board.stop_faults
        ⊎ ((on.board.stop_faults ≡ p.on.board.stop_faults) × (on.stopped ≡ false) × (roots on.board ≤ roots p.on.board + installs done))) (sym same) h.why;
    rest = subst (λ (on : Mounted). OnlyFlash p.on.board on.board) (sym same) h.rest;
  }

  -- a command stopped the drive
  halted_stops : (mid next : Standing) (done : List Command) (c : Command) → AllServed shape start done p mid
      → Stops shape mid.on next.on c → next.halt ≡ Some Stopped → HaltedAt shape start (done ++ c ∷ []) p next
  halted_stops mid next done c w s is =
      let up = s.up in
      let before = w.asked.rose in
      record {
        halt = Stopped;
        is = is;
        cause = s.stopped;
        kept = subst (λ (n : Terms). Goes shape p.on.board next.on.board (KeptSilently shape n start (done ++ c ∷ []) (rise p.on.board.read_faults next.on.board.read_faults))) w.same_terms
            (asked-stops shape start p.on.board done mid.on next.on c (asked_at mid done w) s);
        rose = omega (arith, up, before);
        why = inl (subst (λ (n : ℕ). Rose n next.on.board.stop_faults) w.asked.no_stop s.stop);
        rest = only_then p.on.board mid.on.board next.on.board w.asked.rest s.rest;
      }

  -- nothing was done
  halted_idle : (mid next : Standing) (done : List Command) → AllServed shape start done p mid → (halt : Halt)
      → HasCause mid.on halt → next.on ≡ mid.on → next.halt ≡ Some halt → HaltedAt shape start done p next
  halted_idle mid next done w halt cause same is =
      let now : HaltedAt shape start done p (record mid { halt = Some halt }) = record {
        halt = halt;
        is = refl;
        cause = cause;
        kept = Goes-reaches shape p.on.board mid.on.board (KeptSilently shape p.on.terms start done (rise p.on.board.read_faults mid.on.board.read_faults)) w.asked.reached;
        rose = w.asked.rose;
        why = inr (w.asked.no_stop, w.going, w.few);
        rest = w.asked.rest;
      } in
      halted_still done (record mid { halt = Some halt }) next same (halted_as next halt is (subst (λ (on : Mounted). HasCause on halt) (sym same) cause)) now

  chained_from : (mid : Standing) (done : List Command) → AllServed shape start done p mid → (cs : List Command) (q : Standing) → Chain shape mid cs q → Chained shape start (done ++ cs) p q
  chained_from mid done w [] q e =
      subst (λ (l : List Command). Chained shape start l p q) (sym (append-nil done)) (inl (subst (λ (x : Standing). AllServed shape start done p x) (sym e) w))
  chained_from mid done w (c ∷ cs) q (next, s, more) = elim s.ended [
    | inl t ↦ subst (λ (l : List Command). Chained shape start l p q) (append_assoc done (c ∷ []) cs) (chained_from next (done ++ c ∷ []) (served_next mid next done c t.0 w t.1 t.2 t.3) cs q more)
    | inr (halt, inl t, rose, is) ↦
        let stop = halted_stops mid next done c w t.1 (is ∙ ap (λ (h : Halt). Some h) t.0) in
        let rest = stays shape next cs q (halted_as next stop.halt stop.is stop.cause) more in
        subst (λ (l : List Command). Chained shape start l p q) (append_assoc done (c ∷ []) cs) (inr (halted_more (done ++ c ∷ []) cs q (halted_still (done ++ c ∷ []) next q rest.0 rest.1 stop)))
    | inr (halt, inr t, rose, is) ↦
        let idle = halted_idle mid next done w halt t.0 t.1 is in
        let rest = stays shape next cs q (halted_as next idle.halt idle.is idle.cause) more in
        inr (halted_more done (c ∷ cs) q (halted_still done next q rest.0 rest.1 idle))
  ]

-- What a chain of commands did, from a drive that runs on a board that holds a map.
pub chained : (shape : Shape) (start : Map) (p : Standing) (cs : List Command) (q : Standing) → p.on.board.shape ≡ Some shape
    → Holds shape p.on.board.pages start → limits_at shape p.on.board.pages ≡ p.on.terms.limits → p.on.stopped ≡ false → Chain shape p cs q → Chained shape start cs p q
chained shape start p cs q has holds within going chain = chained_from shape start p p [] (record {
  asked = asked-none shape p.on.terms start p.on.board has holds within;
  going = going;
  same_terms = refl;
  same_faults = refl;
  same_halt = refl;
  few = omega arith;
}) cs q chain
