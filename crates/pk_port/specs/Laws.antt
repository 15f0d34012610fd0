-- How steps of a port compose, and what a chain of them reports to a host.
use Rattle.std.proofs.Common.{◌≡◌, sym, subst, List, [], ◌∷◌, ◌++◌}
use Rattle.pk_base.specs.Shape.{Shape}
use Rattle.pk_nvme.specs.Command.{Command}
use Rattle.pk_host.{specs.Port.PortState, specs.Port.Took, specs.TookLaws.took_none, specs.TookLaws.took_both}
use Rattle.pk_port.specs.Steps.{Standing, Stepped, Chain, seen}

-- one chain after another
pub joined : (shape : Shape) (p : Standing) (cs : List Command) (q : Standing) (ds : List Command) (r : Standing) → Chain shape p cs q → Chain shape q ds r → Chain shape p (cs ++ ds) r
joined shape p [] q ds r h k = subst (λ (x : Standing). Chain shape x ds r) h k
joined shape p (c ∷ cs) q ds r (mid, s, h) k = (mid, s, joined shape mid cs q ds r h k)

-- what a host sees of a port of this shape
abbrev pub seen_of : Shape → Standing → PortState
seen_of shape p = seen shape p.on p.faults

-- ---- a chain of them

pub took_chain : (shape : Shape) (p : Standing) (cs : List Command) (q : Standing) → Chain shape p cs q → Took (seen_of shape p) (seen_of shape q) cs
took_chain shape p [] q h = let T : Standing → Type 0 = λ x. Took (seen_of shape p) (seen_of shape x) [] in subst T (sym h) (took_none (seen_of shape p))
took_chain shape p (c ∷ cs) q (mid, s, h) = took_both (seen_of shape p) (c ∷ []) (seen_of shape mid) cs (seen_of shape q) s.took (took_chain shape mid cs q h)

-- ---- ports that name their shape

pub told_by : (shape shape' : Shape) (p : Standing) (cs : List Command) (q : Standing) → shape' ≡ shape → Chain shape p cs q
    → Took (seen shape p.on p.faults) (seen shape' q.on q.faults) cs
told_by shape shape' p cs q e h =
    let T : Shape → Type 0 = λ s. Took (seen_of shape p) (seen s q.on q.faults) cs in subst T (sym e) (took_chain shape p cs q h)

pub joined_by : (shape shape' : Shape) (p : Standing) (cs : List Command) (q : Standing) (ds : List Command) (r : Standing) → shape' ≡ shape → Chain shape p cs q → Chain shape' q ds r
    → Chain shape p (cs ++ ds) r
joined_by shape shape' p cs q ds r e h k = let T : Shape → Type 0 = λ s. Chain s q ds r in joined shape p cs q ds r h (subst T e k)
