-- Bytes that end in zeros alone.
use Rattle.std.proofs.Common.{◌≡◌, ◌==◌, inl, inr, ℕ, ◌+◌, ◌-◌, ◌<◌, ◌≤◌, true, List, length, take, drop, get_or, sym, ap, ◌∙◌, arith, length-drop}
use Rattle.std.{specs.List.list_all, proofs.lemmas.Bool.cases_lt, proofs.lemmas.Bool.eqb-true, proofs.lemmas.List.get_or-take, proofs.lemmas.List.get_or-drop, proofs.lemmas.List.length-take-le}
use Rattle.std.proofs.lemmas.List.Sums.{AllPass-from_list_all}
use Rattle.pk_file.specs.Trims.{ZerosFrom}

-- the zeros begin earlier
pub zeros_before : (bytes : List ℕ) (next end : ℕ) → next ≤ end → end ≤ length bytes
    → list_all (λ b. b == 0) (take (end - next) (drop next bytes)) ≡ true → ZerosFrom end bytes → ZerosFrom next bytes
zeros_before bytes next end order room all behind k low high =
    elim (cases_lt k end) [
      | inl inside ↦
          let j : ℕ = k - next in
          let place : next + j ≡ k = omega (arith, low) in
          let less : j < end - next = omega (arith, inside, low) in
          let part : List ℕ = take (end - next) (drop next bytes) in
          let size : length part ≡ end - next =
          length-take-le (end - next) (drop next bytes) (omega (arith, room, order, length-drop next bytes)) in
          let here : (get_or part j 0 == 0) ≡ true =
          AllPass-from_list_all (λ b. b == 0) part all j 0 (omega (arith, less, size)) in
          sym (get_or-take (end - next) (drop next bytes) j 0 less ∙ get_or-drop next bytes j 0 ∙ ap (λ (i : ℕ). get_or bytes i 0) place)
          ∙ eqb-true (get_or part j 0) 0 here
      | inr past ↦ behind k past high
    ]
