-- A post that failed, and says how many of its bytes were sent.
use Rattle.std.proofs.Common.{◌≡◌, ℕ, inl, inr, List, take, drop, ap, ◌∙◌, Option, subst}
use Rattle.std.proofs.lemmas.List.{take-append-drop}
use Rattle.pk_base.specs.Mark.{Mark}
use Rattle.pk_nand.specs.Operations.{PostLeft, SentFront}

-- it left what it may
pub sent_left : (bytes : List ℕ) (given : ℕ) (posted posted' : Option (List ℕ)) (trail trail' : Option (List Mark))
    → SentFront bytes given posted posted' trail trail' → PostLeft bytes posted posted' trail trail'
sent_left bytes given posted posted' trail trail' s = record {
  out = take given bytes;
  unposted = drop given bytes;
  front = take-append-drop given bytes;
  posted_is = s.posted_is;
  trail_is = elim s.trail_is [ inl noted ↦ inl noted | inr none ↦ inr (ap (λ n. take n bytes) none.0, none.1) ];
}
