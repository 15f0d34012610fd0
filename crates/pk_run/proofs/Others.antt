-- A run that is unchanged while others change pages and frames that are none of its own.
use Rattle.std.proofs.Common.{◌≡◌, ◌≢◌, inl, inr, ℕ, zero, suc, Bool, true, false, cond, List, [], ◌∷◌, slice_get, set, refl, ap, subst, ◌∙◌, arith, Some, get_or-set_other}
use Rattle.std.{specs.Prelude.◌==◌, proofs.lemmas.Bool.eq-eqb, proofs.lemmas.Bool.ne_eqb}
use Rattle.pk_pin.specs.Frames.{leased, given, filled, times}
use Rattle.pk_run.{specs.Kept.page_of, specs.Laws.StandsOutside, specs.Laws.FrameTaken, specs.Laws.FrameFilled, specs.Laws.FrameGiven, proofs.Standing.RunOnFlash-elsewhere}

pub RunOnFlash-outside : StandsOutside
RunOnFlash-outside r old new arena es first count same apart s =
    RunOnFlash-elsewhere r old new arena arena es (λ j h. elim (apart j h) [ inl below ↦ same.below (page_of r j) below | inr above ↦ same.above (page_of r j) above ]) (λ j lease got is. (is, refl)) s

pub set_other : (us : List Bool) (i l : ℕ) (b : Bool) → i ≢ l → slice_get (set us l b) i ≡ slice_get us i
set_other (u ∷ us) zero zero b ne = absurd (ne refl)
set_other (u ∷ us) (suc i) (suc l) b ne = set_other us i l b (λ e. ne (ap suc e))
set_other us i l b ne = refl

-- a frame of the run is among its leases
pub among : (ls : List ℕ) (j l : ℕ) → slice_get ls j ≡ Some l → times l ls ≡ 0 → ⊥
among [] j l got none = cc
among (x ∷ ls) zero l got none =
    let same : x ≡ l = cc in
    let here : times l (l ∷ ls) ≡ 0 = subst (λ (y : ℕ). times l (y ∷ ls) ≡ 0) same none in
    let more : times l (l ∷ ls) ≡ suc (times l ls) = rw (eq-eqb l l refl) refl in
    absurd (omega (arith, here, more))
among (x ∷ ls) (suc j) l got none =
    elim (x == l) as (λ b. cond b (suc (times l ls)) (times l ls) ≡ 0 → ⊥) [
      | true ↦ λ e. absurd (omega (arith, e))
      | false ↦ λ e. among ls j l got e
    ] none

not_among : (ls : List ℕ) (l : ℕ) → ((j : ℕ) → slice_get ls j ≡ Some l → ⊥) → times l ls ≡ 0
not_among [] l none = refl
not_among (x ∷ ls) l none = rw (ne_eqb x l (λ e. none 0 (ap Some e))) (not_among ls l (λ j got. none (suc j) got))

apart_from : (ls : List ℕ) (j lease l : ℕ) → slice_get ls j ≡ Some lease → times l ls ≡ 0 → lease ≢ l
apart_from ls j lease l got none same = among ls j l (got ∙ ap Some same) none

pub RunOnFlash-taken : FrameTaken
RunOnFlash-taken r flash arena es lease free s =
    let own : (j l : ℕ) → slice_get r.leases j ≡ Some l → l ≢ lease =
    λ j l got same. let taken = subst (λ (k : ℕ). slice_get arena.used k ≡ Some true) same (s.frames j l got).leased in cc in (
      RunOnFlash-elsewhere r flash flash arena (leased arena lease) es (λ j h. refl) (λ j l got is. (set_other arena.used l lease true (own j l got) ∙ is, refl)) s,
      not_among r.leases lease (λ j got. own j lease got refl),
    )

pub RunOnFlash-filled : FrameFilled
RunOnFlash-filled r flash arena es lease bytes none s =
    RunOnFlash-elsewhere r flash flash arena (filled arena lease bytes) es (λ j h. refl) (λ j l got is. (is, get_or-set_other arena.frames lease l bytes [] (apart_from r.leases j l lease got none))) s

pub RunOnFlash-given : FrameGiven
RunOnFlash-given r flash arena es lease none s =
    RunOnFlash-elsewhere r flash flash arena (given arena lease) es (λ j h. refl) (λ j l got is. (set_other arena.used l lease false (apart_from r.leases j l lease got none) ∙ is, refl)) s
