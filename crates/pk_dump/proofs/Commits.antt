-- Bytes that are not the commit that is looked for.
use Rattle.std.proofs.Common.{◌≡◌, ◌<◌, ◌^◌, ℕ, List, length, Option, Some, None, Result, Ok, Err, refl, sym, ◌∙◌, ap}
use Rattle.pk_base.{specs.Shape.Shape, specs.Shape.epoch_commits, specs.Entry.Entry}
use Rattle.pk_jrnfmt.{specs.Page.journal_entries, specs.declared.JrnHead.JrnHead, specs.declared.BadJournal.BadJournal}

-- there is none if none can be
pub none_unless : {A : Type 0} (o : Option A) → ((x : A) → o ≡ Some x → ⊥) → o ≡ None
none_unless None never = refl
none_unless (Some x) never = absurd (never x refl)

-- whatever the reading of an epoch reads of the page is decoded
abbrev Decoded : Shape → List ℕ → Result JrnHead BadJournal → Type 0
Decoded shape page r =
    (epoch index : ℕ) (es : List Entry) → epoch < 2 ^ 64 → index < epoch_commits shape → journal_entries shape epoch index page ≡ Some es
    → r ≡ Ok (record { epoch = epoch; index = index; count = length es })

pub other_commit : (shape : Shape) (number index : ℕ) (page : List ℕ) (r : Result JrnHead BadJournal) (head : JrnHead) → number < 2 ^ 64
    → index < epoch_commits shape → Decoded shape page r → r ≡ Ok head → ((head.epoch ≡ number) × (head.index ≡ index) → ⊥)
    → journal_entries shape number index page ≡ None
other_commit shape number index page r head fits within read is other = none_unless _ (λ es e. clash es (read number index es fits within e))
  where
    head_same : (x y : JrnHead) → ◌≡◌ {A = Result JrnHead BadJournal} (Ok x) (Ok y) → x ≡ y
    head_same x y e = cc

    clash : (es : List Entry) → r ≡ Ok (record { epoch = number; index = index; count = length es }) → ⊥
    clash es e =
        let same : head ≡ record { epoch = number; index = index; count = length es } = head_same _ _ (sym is ∙ e) in
        other (ap (λ (h : JrnHead). h.epoch) same, ap (λ (h : JrnHead). h.index) same)

pub no_commit : (shape : Shape) (number index : ℕ) (page : List ℕ) (r : Result JrnHead BadJournal) (bad : BadJournal) → number < 2 ^ 64
    → index < epoch_commits shape → Decoded shape page r → r ≡ Err bad → journal_entries shape number index page ≡ None
no_commit shape number index page r bad fits within read is = none_unless _ (λ es e. clash es (read number index es fits within e))
  where
    clash : (es : List Entry) → r ≡ Ok (record { epoch = number; index = index; count = length es }) → ⊥
    clash es e = cc
