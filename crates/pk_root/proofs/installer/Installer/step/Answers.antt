use Rattle.std.proofs.Common.{◌≡◌, ◌∙◌, sym, subst}
use Rattle.pk_rootfmt.specs.Root.{Root}
use Rattle.pk_root.{specs.declared.next.Next.Next, specs.declared.next.Next.TheVariants.Again, specs.Installing.IsForStep, specs.Installing.InstallerOnFlash}
use Rattle.pk_root.proofs.installer.Installer.step.Goals as goal

pub repeat-requires-clause-fits : goal.repeat-requires-clause-fits
repeat-requires-clause-fits g c =
    let fits = c.requires.fits in
    let next : c.args.self.now ≡ Again c.in-Again.page = sym c.self.view_is ∙ c.in-Again.is in
    let same : fits.0.1 ≡ c.args.root.now.root = subst (λ (n : Next). IsForStep n fits.0.1 c.args.root.now.root) next fits.2 in
    (fits.0.0, subst (λ (r : Root). InstallerOnFlash c.args.root.now.shape c.args.self.now (fits.0.0, r) (g.B.Nand.state c.args.board.now).pages) same fits.1)
