-- Two drives that a speaker lends as ports to a pair: what is known of them before the commands of a word, and after.
use Rattle.std.proofs.Common.{◌≡◌, ◌≤◌, inl, inr, ℕ, List, true, false, is_some, [], Option, Ok, sym, ap, subst, ◌∙◌}
use Rattle.pk_base.{specs.Entry.Entry, specs.Shape.Shape, specs.Shape.limit, specs.Map.Map}
use Rattle.pk_nvme.specs.Command.{Command}
use Rattle.pk_nand.{specs.BoardState.BoardState, specs.Calls.IsReady}
use Rattle.pk_model.{specs.Reading.reading, specs.Reading.Holds, specs.Spaces.limit_of, specs.Spaces.in_space}
use Rattle.pk_call.{specs.Sight.Sight, specs.Drive.HoldsMap}
use Rattle.pk_serve.proofs.Limiting.{first_most}
use Rattle.pk_port.{specs.Steps.Mounted, specs.Steps.Standing, specs.Steps.mount, specs.Steps.seen, specs.Steps.Chain, specs.declared.halt.Halt.Halt}
use Rattle.pk_port.{proofs.Stepping.part_of, proofs.Serving.mounted_limits}
use Rattle.pk_mirror.specs.Pair.{Mirrored}
use Rattle.pk_wordrun.specs.declared.end.WordEnd.{WordEnd}
use Rattle.pk_mirrorwords.{specs.PairTasks.PairTask, specs.PairAnswers.IsToldPair, specs.PairAnswers.PairSaid, specs.PairAnswers.AsksSecond}
use Rattle.pk_mirrorrun.specs.PairTold.{IsServing, Walk, BothWalked, PostsText, PairTold, first_limit, end_by}

told_both : (shape : Shape) (a c : BoardState) (m n : Map) → Holds shape a.pages m → Holds shape c.pages n
    → is_some (part_of (reading shape c.pages [])) ≡ is_some (part_of (reading shape a.pages []))
told_both shape a c m n h g = ap is_some (ap part_of g) ∙ sym (ap is_some (ap part_of h))

-- two boards of one shape that hold maps, and a mirror that is split
told_pair : (mirror : Mirrored) (shape : Shape) (a c : Mounted) (f g : ℕ)
    → mirror ≡ record { shape = shape; split = true } → limit_of c.terms.limits 1 ≡ limit_of a.terms.limits 1 → limit_of a.terms.limits 1 ≤ limit shape → (m n : Map)
    → Holds shape a.board.pages m → Holds shape c.board.pages n
    → IsToldPair mirror (seen shape a f) (seen shape c g)
told_pair mirror shape a c f g is one most m n h k = record {
  pair = record {
    first_shape = sym (ap (λ (x : Mirrored). x.shape) is);
    second_shape = sym (ap (λ (x : Mirrored). x.shape) is);
    limit = one;
    both_tell = told_both shape a.board c.board m n h k;
    in_step = λ off. absurd (let clash : true ≡ false = sym (ap (λ (x : Mirrored). x.split) is) ∙ off in cc);
  };
  limit_most = most;
  map = in_space 1 m;
  told = ap part_of h;
}

-- a drive that was opened serves
pub serving : (shape : Shape) (b : BoardState) (d : Sight) → IsReady b shape → d.stopped ≡ false → d.pending ≡ [] → (m : Map) × HoldsMap shape (mount b d).terms b d m
    → IsServing shape b d
serving shape b d ready runs none stands =
    let holds : Holds shape b.pages stands.0 = subst (λ (p : List Entry). reading shape b.pages p ≡ Ok stands.0) none stands.1.map_is in
    record {
      shape_is = ready.shape_is;
      runs = runs;
      map = stands.0;
      holds = holds;
    }

-- The speaker has this shape, and so have the ports.
module _ (own shape : Shape) (same : shape ≡ own) where
  -- two drives that serve, with one limit
  pub told_serving : (mirror : Mirrored) (a c : BoardState) (d e : Sight) (f g : ℕ)
      → mirror ≡ record { shape = shape; split = true } → IsServing own a d → IsServing own c e → first_limit own c.pages ≡ first_limit own a.pages
      → IsToldPair mirror (seen shape (mount a d) f) (seen shape (mount c e) g)
  told_serving mirror a c d e f g is one two limits =
      let T : Shape → Type 0 = λ s. mirror ≡ record { shape = s; split = true } → IsToldPair mirror (seen s (mount a d) f) (seen s (mount c e) g) in
      subst T (sym same) (λ split. told_pair mirror own (mount a d) (mount c e) f g split
      (ap (λ (ls : List ℕ). limit_of ls 1) (sym (mounted_limits own c e two.shape_is)) ∙ limits ∙ ap (λ (ls : List ℕ). limit_of ls 1) (mounted_limits own a d one.shape_is))
      (subst (λ (ls : List ℕ). limit_of ls 1 ≤ limit own) (mounted_limits own a d one.shape_is) (first_most own a.pages [] one.map one.holds)) one.map two.map one.holds two.holds) is

  -- the commands that took the first, and those that took the second
  pub walk_of : (Are : List Command → Type 0) (p q : Standing) (cs : List Command) → Are cs → Chain shape p cs q → Walk own Are p q
  walk_of Are p q cs are chain = (cs, are, subst (λ (s : Shape). Chain s p cs q) same chain)

  pub second_walk_of : (task : PairTask) (p q q' : Standing) (cs : List Command) → AsksSecond task (seen shape p.on p.faults) (seen shape q.on q.faults) cs → Chain shape q cs q'
      → Walk own (AsksSecond task (seen own p.on p.faults) (seen own q.on q.faults)) q q'
  second_walk_of task p q q' cs are chain = subst (λ (s : Shape). Walk s (AsksSecond task (seen s p.on p.faults) (seen s q.on q.faults)) q q') same (cs, are, chain)

  -- what was said of two ports that keep their shape
  pub said_lent : (asked : Type 0) (task : PairTask) (one two : Shape) (p p' q q' : Standing) (m : Map) (text : List ℕ)
      → (asked → BothWalked task shape p p' q q') → one ≡ shape → two ≡ shape
      → PairSaid asked task (seen shape p.on p.faults) (seen one p'.on p'.faults) (seen shape q.on q.faults) (seen two q'.on q'.faults) m text
      → PairSaid (BothWalked task own p p' q q') task (seen own p.on p.faults) (seen own p'.on p'.faults) (seen own q.on q.faults) (seen own q'.on q'.faults) m text
  said_lent asked task one two p p' q q' m text walked keeps keeps' said =
      let First : Shape → Type 0 = λ s. PairSaid asked task (seen shape p.on p.faults) (seen s p'.on p'.faults) (seen shape q.on q.faults) (seen two q'.on q'.faults) m text in
      let Second : Shape → Type 0 = λ s. PairSaid asked task (seen shape p.on p.faults) (seen shape p'.on p'.faults) (seen shape q.on q.faults) (seen s q'.on q'.faults) m text in
      let Own : Shape → Type 0 = λ s. PairSaid (BothWalked task s p p' q q') task (seen s p.on p.faults) (seen s p'.on p'.faults) (seen s q.on q.faults) (seen s q'.on q'.faults) m text in
      let walk : Own shape = elim (subst Second keeps' (subst First keeps said)) [
        | inl (some, done) ↦ inl (walked some, done)
        | inr unread ↦ inr unread
      ] in
      subst Own same walk

-- ---- when the drives and the boards are given back

-- how a word ends by the halts of the ports
pub ends_back : (one two one' two' : Option Halt) (end : Option WordEnd) → end_by one two ≡ end → one ≡ one' → two ≡ two' → end_by one' two' ≡ end
ends_back one two one' two' end by same same' = ap (λ (x : Option Halt × Option Halt). end_by x.0 x.1) (λ k. (sym same k, sym same' k)) ∙ by

-- what was posted on the first board, or why not
pub posts_back : (a b last : BoardState) (text said : List ℕ) (end : WordEnd) → PostsText a last text end → a ≡ b → text ≡ said → PostsText b last said end
posts_back a b last text said end posts same is = subst (λ (x : BoardState × List ℕ). PostsText x.0 last x.1 end) (λ k. (same k, is k)) posts

-- what a word did, of both boards as they were given back
pub told_back : (task : PairTask) (shape : Shape) (m other : Map) (a b c d b' d' : BoardState) (end : WordEnd) → PairTold task shape m other a b c d end → b ≡ b' → d ≡ d'
    → PairTold task shape m other a b' c d' end
told_back task shape m other a b c d b' d' end told same same' = subst (λ (x : BoardState × BoardState). PairTold task shape m other a x.0 c x.1 end) (λ k. (same k, same' k)) told
