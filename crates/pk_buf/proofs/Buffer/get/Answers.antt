use Rattle.std.proofs.Common.{◌≡◌, ◌∙◌, ap, sym, get_or}
use Rattle.pk_buf.proofs.Lookups.{get_slot}
use Rattle.pk_buf.proofs.Buffer.get.Goals as goal

pub returns-in-Some : goal.returns-in-Some
returns-in-Some g c =
    let f = rw c.as_slice.ensures at c.in-Some.ensures in
    let ss = c.self.inside.slots.items in
    let xs = c.self.inside.order.items in
    let s = c.index-as_slice-number.result in
    let here : s ≡ get_or ss c.in-Some.number s = rw c.as_slice-in-Some.ensures at c.index-as_slice-number.is in
    let same : c.copy.result ≡ s.entry = c.copy.ensures ∙ ap (λ t. t.entry) (sym c.index-as_slice-number.is) in
    rw (same, ← c.self.view_is) (get_slot ss xs _ c.in-Some.number s c.self.invariant.0 c.self.invariant.8 f.0 here f.1)
