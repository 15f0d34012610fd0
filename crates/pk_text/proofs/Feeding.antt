-- Bytes that are fetched, and bytes that are used.
use Rattle.std.proofs.Common.{◌≡◌, ℕ, ◌<◌, ◌≤◌, Bool, true, false, List, [], ◌∷◌, ◌++◌, length, take, drop, get_or, refl, sym, ◌∙◌, ap, subst, arith, append-nil, Option, Some, None, length-take-le}
use Rattle.std.{specs.Prelude.nat_lt, proofs.lemmas.Bool.Decides.nat_tests, proofs.lemmas.List.take-append-drop, proofs.lemmas.List.length-take, proofs.Math.Seq.take-append_seam}
use Rattle.std.proofs.Math.ListN.{drop_of_length-le}
use Rattle.pk_base.specs.Mark.{Mark}
use Rattle.pk_nand.{specs.BoardState.BoardState, specs.Calls.put_back, specs.Calls.AtEnd, specs.Operations.Fetched, specs.Operations.FetchFailed, specs.Operations.Takes, proofs.Reaching.longer-nil}
use Rattle.pk_nand.proofs.Resting.{Rests-start}
use Rattle.pk_text.specs.Steps.{ahead, Moved, Fed, FeedFailed, Filled, Nexted}
use Rattle.pk_text.proofs.Turning.{put_back-nil, put_back-append, Fed-then}

takes_back : (o left : Option (List ℕ)) (n : ℕ) (into : List ℕ) → Takes o left n into → o ≡ put_back (take n into) left
takes_back None left n into h = sym (ap (put_back (take n into)) h)
takes_back (Some bytes) None n into h = elim h [ ]
takes_back (Some bytes) (Some left) n into h = ap (λ l. Some l) h

Moved-fetched : (a b : BoardState) (n : ℕ) (bytes : List ℕ) → Fetched a b n bytes → Moved a b []
Moved-fetched a b n bytes f =
    let p : b.posted ≡ a.posted = ap (λ s. s.posted) f.rest in
    let t : b.trail ≡ a.trail = ap (λ s. s.trail) f.rest in
    let i : b.in_faults ≡ a.in_faults = ap (λ s. s.in_faults) f.rest in
    let o : b.out_faults ≡ a.out_faults = ap (λ s. s.out_faults) f.rest in
    record {
      touched = record {
        taken = take n bytes;
        left = takes_back a.input b.input n bytes f.bytes;
        posted = p ∙ sym (longer-nil a.posted);
        rests = Rests-start a b (ap (λ s. s.shape) f.rest) (ap (λ s. s.pages) f.rest) t p;
        rest = f.rest ∙ ap (λ (x : Option (List ℕ) × Option (List Mark) × ℕ × ℕ). record a { input = b.input; posted = x.0; trail = x.1; in_faults = x.2; out_faults = x.3 })
            (λ k. (sym p k, sym t k, sym i k, sym o k));
      };
      in_same = i;
      out_same = o;
    }

pub Feed-failed : (a b : BoardState) → FetchFailed a b → FeedFailed a b
Feed-failed a b f =
    let h : b.input ≡ a.input = ap (λ s. s.input) f.rest in
    let p : b.posted ≡ a.posted = ap (λ s. s.posted) f.rest in
    let t : b.trail ≡ a.trail = ap (λ s. s.trail) f.rest in
    let o : b.out_faults ≡ a.out_faults = ap (λ s. s.out_faults) f.rest in
    record {
      touched = record {
        taken = [];
        left = sym h ∙ put_back-nil b.input;
        posted = p ∙ sym (longer-nil a.posted);
        rests = Rests-start a b (ap (λ s. s.shape) f.rest) (ap (λ s. s.pages) f.rest) t p;
        rest = f.rest ∙ ap (λ (x : Option (List ℕ) × Option (List ℕ) × Option (List Mark) × ℕ). record a { input = x.0; posted = x.1; trail = x.2; in_faults = b.in_faults; out_faults = x.3 })
            (λ k. (sym h k, sym p k, sym t k, sym o k));
      };
      rose = f.faults;
      out_same = o;
    }

Fed-fetched : (p bytes : List ℕ) (n : ℕ) (a b : BoardState) → p ≡ [] → Fetched a b n bytes → Fed p (take n bytes) a b []
Fed-fetched p bytes n a b empty f = record {
  came = ap (λ q. put_back q a.input) empty ∙ (sym (put_back-nil a.input) ∙ (takes_back a.input b.input n bytes f.bytes ∙ put_back-nil (ahead (take n bytes) b)));
  moved = Moved-fetched a b n bytes f;
}

pub Filled-fetched : (p bytes : List ℕ) (n : ℕ) (a b : BoardState) (some : Bool) → p ≡ [] → Fetched a b n bytes → 0 < length bytes → nat_lt 0 n ≡ some → Filled p (take n bytes) a b some
Filled-fetched p bytes n a b true empty f room e =
    let one : 0 < n = grind (arith, nat_tests) in
    (Fed-fetched p bytes n a b empty f, omega (arith, length-take-le n bytes f.within))
Filled-fetched p bytes n a b false empty f room e =
    let none : n ≡ 0 = grind (arith, nat_tests) in
    let gone : take n bytes ≡ [] = ap (λ k. take k bytes) none in
    let same : a.input ≡ b.input = takes_back a.input b.input n bytes f.bytes ∙ (ap (λ l. put_back l b.input) gone ∙ sym (put_back-nil b.input)) in
    (Fed-fetched p bytes n a b empty f, record { none = gone; at_end = subst AtEnd same (f.none none room) })

-- bytes at the start are used
pub Fed-used : (p q : List ℕ) (n : ℕ) (a b : BoardState) → Fed p q a b [] → Fed p (drop n q) a b (take n q)
Fed-used p q n a b f = record {
  came = f.came ∙ (sym (put_back-nil (ahead q b)) ∙ (ap (λ l. put_back l b.input) (sym (take-append-drop n q)) ∙ sym (put_back-append (take n q) (drop n q) b.input)));
  moved = f.moved;
}

pub Fed-byte : (p q : List ℕ) (a b : BoardState) → Fed p q a b [] → 0 < length q → Fed p (drop 1 q) a b (get_or q 0 0 ∷ [])
Fed-byte p [] a b f some = absurd (omega arith)
Fed-byte p (byte ∷ q) a b f some = Fed-used p (byte ∷ q) 1 a b f

-- one byte more
pub Fed-more : (p q r : List ℕ) (a b c : BoardState) (bytes : List ℕ) (byte : ℕ) → Fed p q a b bytes → Nexted q r b c (Some byte) → Fed p r a c (bytes ++ byte ∷ [])
Fed-more p q r a b c bytes byte f g = Fed-then p q r a b c bytes (byte ∷ []) f g

-- none more
pub Fed-end : (p q r : List ℕ) (a b c : BoardState) (bytes : List ℕ) → Fed p q a b bytes → Fed q r b c [] → Fed p r a c bytes
Fed-end p q r a b c bytes f g = let T : List ℕ → Type 0 = λ xs. Fed p r a c xs in subst T (append-nil bytes) (Fed-then p q r a b c bytes [] f g)

none_left : (from to : ℕ) (bytes : List ℕ) → to ≤ from → drop from (take to bytes) ≡ []
none_left from to bytes past = drop_of_length-le (take to bytes) (omega (arith, length-take to bytes))

-- the bytes that a fetch brought are at the start of the buffer
pub Filled-buffer : (p bytes old old' : List ℕ) (from to n len : ℕ) (a b : BoardState) → p ≡ drop from (take to old') → to ≤ from → length bytes ≡ len → 0 < length bytes → Fetched a b n bytes
    → Filled p (take n (take len (bytes ++ drop (length bytes) old))) a b (nat_lt 0 n)
Filled-buffer p bytes old old' from to n len a b is past size room f =
    let whole : take len (bytes ++ drop (length bytes) old) ≡ bytes =
    ap (λ k. take k (bytes ++ drop (length bytes) old)) (sym size) ∙ take-append_seam bytes (drop (length bytes) old) in
    let T : List ℕ → Type 0 = λ l. Filled p (take n l) a b (nat_lt 0 n) in
    subst T (sym whole) (Filled-fetched p bytes n a b (nat_lt 0 n) (is ∙ none_left from to old' past) f room refl)
