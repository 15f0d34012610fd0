-- Spare frames, and the levels that fit into them.
use Rattle.std.proofs.Common.{◌≡◌, inl, inr, ℕ, zero, suc, ◌+◌, ◌-◌, ◌<◌, ◌≤◌, Bool, true, false, T, if◌then◌else◌, List, [], ◌∷◌, length, drop, get_or, nat_le, refl, sym, ap, subst, ◌∙◌, arith}
use Rattle.std.proofs.Common.{leb→le, drop-cons, length-drop, add-one}
use Rattle.std.{proofs.lemmas.Bool.cases_lt, proofs.lemmas.Bool.Decides.nat_tests}
use Rattle.pk_base.specs.Shape.{Shape, need, pinned}
use Rattle.pk_adapt.specs.Adapted.{spare_frames, pages_of_first, last_fitting, adapted, IsAdapted}

-- the pinned levels have the frames that they need
pub need_most : (shape : Shape) (frames : ℕ) → need shape (pinned shape frames) ≤ frames
need_most shape frames =
    elim (nat_le (need shape 4) frames) as (λ b. nat_le (need shape 4) frames ≡ b
    → need shape (if b then 4 else if nat_le (need shape 3) frames then 3 else if nat_le (need shape 2) frames then 2 else if nat_le (need shape 1) frames then 1 else 0) ≤ frames) [
      | true ↦ λ e. leb→le _ _ (subst T (sym e) tt)
      | false ↦ λ e. elim (nat_le (need shape 3) frames) as (λ b. nat_le (need shape 3) frames ≡ b
          → need shape (if b then 3 else if nat_le (need shape 2) frames then 2 else if nat_le (need shape 1) frames then 1 else 0) ≤ frames) [
            | true ↦ λ e. leb→le _ _ (subst T (sym e) tt)
            | false ↦ λ e. elim (nat_le (need shape 2) frames) as (λ b. nat_le (need shape 2) frames ≡ b → need shape (if b then 2 else if nat_le (need shape 1) frames then 1 else 0) ≤ frames) [
              | true ↦ λ e. leb→le _ _ (subst T (sym e) tt)
              | false ↦ λ e. elim (nat_le (need shape 1) frames) as (λ b. nat_le (need shape 1) frames ≡ b → need shape (if b then 1 else 0) ≤ frames) [
                | true ↦ λ e. leb→le _ _ (subst T (sym e) tt)
                | false ↦ λ e. omega arith
              ] refl
            ] refl
          ] refl
    ] refl

-- ---- one level more, or none

le_true : (x y : ℕ) → x ≤ y → nat_le x y ≡ true
le_true x y h = grind (arith, nat_tests)

gt_false : (x y : ℕ) → y < x → nat_le x y ≡ false
gt_false x y h = grind (arith, nat_tests)

fits_more : (level room : ℕ) (p : ℕ) (pages : List ℕ) → p ≤ room → last_fitting level room (p ∷ pages) ≡ last_fitting (suc level) (room - p) pages
fits_more level room p pages few = rw (le_true p room few) refl

fits_no_more : (level room : ℕ) (p : ℕ) (pages : List ℕ) → room < p → last_fitting level room (p ∷ pages) ≡ level
fits_no_more level room p pages many = rw (gt_false p room many) refl

pub next_fits : (level room : ℕ) (pages : List ℕ) (d : ℕ) → level < length pages → get_or pages level d ≤ room
    → last_fitting level room (drop level pages) ≡ last_fitting (suc level) (room - get_or pages level d) (drop (suc level) pages)
next_fits level room pages d inside few = rw (drop-cons pages level d inside) (fits_more level room (get_or pages level d) (drop (suc level) pages) few)

pub next_too_large : (level room : ℕ) (pages : List ℕ) (d : ℕ) → level < length pages → room < get_or pages level d → last_fitting level room (drop level pages) ≡ level
next_too_large level room pages d inside many = rw (drop-cons pages level d inside) (fits_no_more level room (get_or pages level d) (drop (suc level) pages) many)

none_left : (n : ℕ) (pages : List ℕ) → length pages ≤ n → drop n pages ≡ []
none_left zero [] past = refl
none_left (suc n) [] past = refl
none_left zero (p ∷ pages) past = absurd (omega arith)
none_left (suc n) (p ∷ pages) past = none_left n pages (omega arith)

pub none_behind : (level room : ℕ) (pages : List ℕ) → length pages ≤ level → last_fitting level room (drop level pages) ≡ level
none_behind level room pages past = rw (none_left level pages past) refl

-- ---- the greatest

-- this many of the levels have room
record HaveRoom (level room : ℕ) (pages : List ℕ) : Type 0 where
  count : ℕ
  is : last_fitting level room pages ≡ level + count
  few : count ≤ length pages
  fit : pages_of_first count pages ≤ room
  greatest : (n : ℕ) → n ≤ length pages → pages_of_first n pages ≤ room → n ≤ count

none_fits : (room p : ℕ) (pages : List ℕ) (n : ℕ) → room < p → pages_of_first n (p ∷ pages) ≤ room → n ≤ 0
none_fits room p pages zero many fit = omega arith
none_fits room p pages (suc n) many fit = absurd (omega (arith, many, fit))

more_fit : (level room p : ℕ) (pages : List ℕ) → p ≤ room → (rest : HaveRoom (suc level) (room - p) pages) → (n : ℕ) → n ≤ suc (length pages) → pages_of_first n (p ∷ pages) ≤ room → n ≤ suc rest.count
more_fit level room p pages few rest zero less enough = omega arith
more_fit level room p pages few rest (suc n) less enough =
    let more = rest.greatest n (omega (arith, less)) (omega (arith, few, enough)) in
    omega (arith, more)

fits : (level room : ℕ) (pages : List ℕ) → HaveRoom level room pages
fits level room [] = record { count = 0; is = omega arith; few = omega arith; fit = omega arith; greatest = λ n few fit. few }
fits level room (p ∷ pages) = elim (cases_lt room p) [
  | inl many ↦ record {
    count = 0;
    is = fits_no_more level room p pages many ∙ (let e : level ≡ level + 0 = omega arith in e);
    few = omega arith;
    fit = omega arith;
    greatest = λ n few fit. none_fits room p pages n many fit;
  }
  | inr few ↦
      let rest = fits (suc level) (room - p) pages in
      let is = rest.is in
      let short = rest.few in
      let fit = rest.fit in
      let more = fits_more level room p pages few in
      record {
        count = suc rest.count;
        is = omega (arith, more, is);
        few = omega (arith, short);
        fit = omega (arith, fit, few);
        greatest = more_fit level room p pages few rest;
      }
]

-- it is at least the last pinned level
pub adapted_least : (shape : Shape) (frames : ℕ) (pages : List ℕ) → pinned shape frames ≤ adapted shape frames pages
adapted_least shape frames pages =
    let own = fits (pinned shape frames) (spare_frames shape frames) (drop (pinned shape frames) pages) in
    let is = own.is in
    omega (arith, is)

pub is_adapted : (shape : Shape) (frames : ℕ) (pages : List ℕ) → length pages ≡ 4 → pinned shape frames ≤ 4 → IsAdapted shape frames pages (adapted shape frames pages)
is_adapted shape frames pages four few =
    let k : ℕ = pinned shape frames in
    let own = fits k (spare_frames shape frames) (drop k pages) in
    let is = own.is in
    let short = own.few in
    let long = length-drop k pages in
    let count : adapted shape frames pages - k ≡ own.count = omega (arith, is) in
    record {
      least = omega (arith, is);
      most = omega (arith, is, short, long, four, few);
      fits = subst (λ (n : ℕ). pages_of_first n (drop k pages) ≤ spare_frames shape frames) (sym count) own.fit;
      greatest = λ other most fit.
          let more = own.greatest (other - k) (omega (arith, most, long, four)) fit in
          omega (arith, is, more);
    }
