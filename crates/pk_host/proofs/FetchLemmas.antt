-- Values that are fetched whole.
use Rattle.std.proofs.Common.{◌≡◌, inl, inr, ℕ, ◌≤◌, List, [], ◌∷◌, ◌++◌, length, take, Option, Some, None, refl, sym, ap, subst, ◌∙◌, arith}
use Rattle.std.{proofs.lemmas.List.take_all, specs.Option.option_map, specs.FinMap.get}
use Rattle.pk_base.specs.Key.{Key}
use Rattle.pk_nvme.specs.Command.{Command}
use Rattle.pk_host.{specs.Port.PortState, specs.declared.sizes.TheConstants.FIRST_BYTES, specs.Calls.retrieve_of}
use Rattle.pk_host.specs.Outcomes.{AtMostOne, AreRetrieves, TookSome, Cuts, Gets}

-- a prefix that is no shorter than the value is the value
front_whole : (value bytes : Option (List ℕ)) (whole most : ℕ) → bytes ≡ option_map (take most) value → Some whole ≡ option_map length value → whole ≤ most → bytes ≡ value
front_whole None bytes whole most e w short = cc
front_whole (Some value) bytes whole most e w short =
    let len : whole ≡ length value = cc in
    e ∙ ap (λ (xs : List ℕ). Some xs) (take_all most value (omega (arith, len, short)))

pub whole_first : {T : Type 0} (p : PortState) (k : Key) (bytes : T → List ℕ) (whole : T → ℕ) (o : Option T) (f : T) (most : ℕ) → o ≡ Some f
    → Cuts p k most (option_map bytes o) (option_map whole o) → whole f ≤ most → Gets p k (Some (bytes f))
whole_first p k bytes whole o f most is h short m told =
    let both = h m told in
    front_whole (get m k) (Some (bytes f)) (whole f) most (sym (ap (option_map bytes) is) ∙ both.0) (sym (ap (option_map whole) is) ∙ both.1) short

pub took_second : {P : Type 0} (took : P → List Command → P → Type 0) → ((p : P) (cs : List Command) (q : P) (ds : List Command) (r : P) → took p cs q → took q ds r → took p (cs ++ ds) r)
    → (p q r : P) (k : Key) (size : ℕ) → took p (retrieve_of k FIRST_BYTES ∷ []) q → TookSome took (AtMostOne (retrieve_of k size)) q r → TookSome took (AreRetrieves k) p r
took_second took both p q r k size h
    (cs, inl none, t) = (retrieve_of k FIRST_BYTES ∷ [], inl (inr refl), both p (retrieve_of k FIRST_BYTES ∷ []) q [] r h (subst (λ (ds : List Command). took q ds r) none t))
took_second took both p q r k size h (cs, inr one, t) = (
  retrieve_of k FIRST_BYTES ∷ retrieve_of k size ∷ [],
  inr (size, refl),
  both p (retrieve_of k FIRST_BYTES ∷ []) q (retrieve_of k size ∷ []) r h (subst (λ (ds : List Command). took q ds r) one t),
)
