-- State bytes that lie in one sector.
use Rattle.std.proofs.Common.{◌≡◌, ◌≢◌, ◌∙◌, inl, inr, ℕ, ◌+◌, ◌-◌, ◌/◌, ◌%◌, ◌<◌, arith, sym, ap, subst, div-add-mod', mod-lt}
use Rattle.std.proofs.lemmas.Bool.{cases_lt}
use Rattle.pk_image.specs.Image.{state_place}
use Rattle.pk_file.specs.Sectors.{InOneSector, sector_bytes}

-- a place that begins no sector is in that of the place before
same_sector : (a : ℕ) → (a + 1) % 512 ≢ 0 → (a + 1) / 512 ≡ a / 512
same_sector a inside =
    let whole = div-add-mod' a 512 in
    let next = div-add-mod' (a + 1) 512 in
    let less : a % 512 < 512 = mod-lt a (omega arith) in
    let less_next : (a + 1) % 512 < 512 = mod-lt (a + 1) (omega arith) in
    omega (arith, inside, whole, next, less, less_next)

-- one more page, whose state begins no sector
pub sector_more : (first count page : ℕ) → 0 < count → page ≡ first + count → state_place page % sector_bytes ≢ 0 → InOneSector first count → InOneSector first (count + 1)
sector_more first count page some is inside before i h = elim (cases_lt i count) [
  | inl less ↦ before i less
  | inr last ↦
      let here : state_place (first + (count - 1)) + 1 ≡ state_place page = omega (arith, is, some) in
      let same : page ≡ first + i = omega (arith, is, last, h) in
      let Q : ℕ → Type 0 = λ n. n % 512 ≢ 0 in
      ap (λ (n : ℕ). state_place n / 512) (sym same) ∙ (ap (λ (n : ℕ). n / 512) (sym here)
      ∙ (same_sector (state_place (first + (count - 1))) (subst Q (sym here) inside) ∙ before (count - 1) (omega (arith, some))))
]

pub sector_one : (first : ℕ) → InOneSector first 1
sector_one first i h = let none : i ≡ 0 = omega (arith, h) in ap (λ (n : ℕ). state_place n / 512) (ap (λ (n : ℕ). first + n) none ∙ omega arith)
