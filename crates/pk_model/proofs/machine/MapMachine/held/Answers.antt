use Rattle.std.{proofs.Common.◌≡◌, proofs.Common.◌≤◌, proofs.Common.◌∙◌, proofs.Common.sym, proofs.Common.ap, proofs.Common.subst, specs.Option.option_copied, specs.FinMap.get}
use Rattle.pk_base.{specs.Shape.Shape, specs.Map.Map, specs.Map.live, specs.Map.pages_of}
use Rattle.pk_model.proofs.Machines.{found_most}
use Rattle.pk_model.proofs.machine.MapMachine.held.Goals as goal

pub returns-in-Some-clause-most : goal.returns-in-Some-clause-most
returns-in-Some-clause-most c =
    let got : option_copied c.get.result ≡ get c.args.self.now.map c.args.key.now = c.get.ensures ∙ ap (λ (m : Map). get m c.args.key.now) (ap (λ m. m.map) c.self.view_is) in
    let most = found_most c.args.self.now.shape c.args.self.now.map c.args.key.now (option_copied c.get.result) c.in-Some.value.now got (ap option_copied c.in-Some.is) in
    let pages : c.pages.result ≡ pages_of c.args.self.now.shape c.in-Some.value.now = c.pages.ensures
    ∙ ap (λ (s : Shape). pages_of s c.bytes.result.now) (ap (λ m. m.shape) c.self.view_is) ∙ ap (pages_of c.args.self.now.shape) c.bytes.ensures in
    subst (λ n. n ≤ live c.args.self.now.shape c.args.self.now.map) (sym pages) most
