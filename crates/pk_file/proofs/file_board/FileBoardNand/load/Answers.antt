use Rattle.std.proofs.Common.{◌≡◌, ◌∙◌, rules, refl, sym, ap, Some, true, false}
use Rattle.std.specs.Prelude.{is_some}
use Rattle.pk_file.proofs.Slotting.{ready_flash}
use Rattle.pk_file.proofs.file_board.FileBoardNand.load.Goals as goal

pub returns-then-is_some-clause-ok : goal.returns-then-is_some-clause-ok
returns-then-is_some-clause-ok g c = record {
  shape_is = refl;
  none_bad = refl;
  ready = λ s e. record { shape_is = e; flash = ready_flash c.args.self.now.shape c.args.self.now.slots.items c.args.self.now.count c.args.self.now.fit s e };
  bare = λ none.
      let some : is_some c.args.self.now.shape ≡ true = sym c.is_some.ensures ∙ c.if-is_some.true in
      let missing : is_some c.args.self.now.shape ≡ false = ap (λ o. is_some o) none in
      cc;
  held = λ _. (refl, refl);
  rest = refl;
}

pub returns-in-Ok-Some-clause-ok : goal.returns-in-Ok-Some-clause-ok
returns-in-Ok-Some-clause-ok g c = record {
  shape_is = refl;
  none_bad = refl;
  ready = λ s e. record { shape_is = e; flash = ready_flash (Some c.in-Ok-Some.image.shape) c.in-Ok-Some.image.slots.items c.in-Ok-Some.image.count c.in-Ok-Some.image.fit s e };
  bare = λ none. cc;
  held = search rules;
  rest = refl;
}

pub returns-then-is_some-clause-ready : goal.returns-then-is_some-clause-ready
returns-then-is_some-clause-ready g c s e =
    record { shape_is = e; flash = ready_flash c.args.self.now.shape c.args.self.now.slots.items c.args.self.now.count c.args.self.now.fit s e }

pub returns-in-Ok-Some-clause-ready : goal.returns-in-Ok-Some-clause-ready
returns-in-Ok-Some-clause-ready g c s e =
    record { shape_is = e; flash = ready_flash (Some c.in-Ok-Some.image.shape) c.in-Ok-Some.image.slots.items c.in-Ok-Some.image.count c.in-Ok-Some.image.fit s e }
