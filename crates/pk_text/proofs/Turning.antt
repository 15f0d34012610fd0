-- Runs that are put together from steps.
use Rattle.std.proofs.Common.{◌≡◌, ℕ, suc, ◌+◌, Bool, true, false, arith, ◌<◌, List, [], ◌∷◌, ◌++◌, length, refl, sym, ◌∙◌, ap, subst, append_assoc, append-nil, Option, Some, None}
use Rattle.std.specs.Prelude.{IfSome, IfErr, OnOk, OnErr, IsTrue, Result, Ok, Err, ◌↔◌}
use Rattle.pk_nand.{specs.BoardState.BoardState, specs.Calls.Rose, specs.Calls.longer, specs.Calls.put_back, specs.Calls.AtEnd, specs.Operations.after_post, specs.Operations.PostFailed}
use Rattle.pk_nand.proofs.Reaching.{longer-longer, longer-nil}
use Rattle.pk_nand.proofs.Resting.{Rests-same, Rests-then, Rests-post, Rests-post_failed}
use Rattle.pk_text.{specs.Written.Written, specs.Written.ended, specs.Written.before, specs.declared.end.TextEnd.TextEnd}
use Rattle.pk_text.specs.Turns.{Touched, IsTextPrefix, IsAll, TextEnds, TurnsFrom, Turns}
use Rattle.pk_text.specs.Steps.{ahead, Moved, TextAdvances, Fed, IsOver, FeedFailed, Nexted, TextStops}
use Rattle.pk_text.specs.declared.end.TextEnd.TheVariants.{Done, Truncated, Input, Output, TooMany}

pub put_back-append : (xs ys : List ℕ) (o : Option (List ℕ)) → put_back xs (put_back ys o) ≡ put_back (xs ++ ys) o
put_back-append xs ys None = refl
put_back-append xs ys (Some left) = ap (λ l. Some l) (sym (append_assoc xs ys left))

pub put_back-nil : (o : Option (List ℕ)) → o ≡ put_back [] o
put_back-nil None = refl
put_back-nil (Some left) = refl

pub taken-append : (a b c : Option (List ℕ)) (xs ys : List ℕ) → a ≡ put_back xs b → b ≡ put_back ys c → a ≡ put_back (xs ++ ys) c
taken-append a b c xs ys p q = p ∙ (ap (put_back xs) q ∙ put_back-append xs ys c)

abbrev written : List ℕ → TextEnd → Written
written bytes end = record { bytes = bytes; end = end }

pub before-before : (xs ys : List ℕ) (w : Written) → before xs (before ys w) ≡ before (xs ++ ys) w
before-before xs ys w = ap (λ (b : List ℕ). written b w.end) (sym (append_assoc xs ys w.bytes))

-- ---- boards

pub Touched-then : (a b c : BoardState) (x y : List ℕ) → Touched a b x → Touched b c y → Touched a c (x ++ y)
Touched-then a b c x y p q = record {
  taken = p.taken ++ q.taken;
  left = taken-append a.input b.input c.input p.taken q.taken p.left q.left;
  posted = q.posted ∙ (ap (λ o. longer o y) p.posted ∙ longer-longer a.posted x y);
  rests = Rests-then a b c (ap (λ (s : BoardState). s.pages) p.rest) p.rests q.rests;
  rest = q.rest ∙ ap (λ (s : BoardState). record s { input = c.input; posted = c.posted; trail = c.trail; in_faults = c.in_faults; out_faults = c.out_faults }) p.rest;
}

pub Moved-none : (a : BoardState) → Moved a a []
Moved-none a = record {
  touched = record {
    taken = [];
    left = put_back-nil a.input;
    posted = sym (longer-nil a.posted);
    rests = Rests-same a a refl;
    rest = refl;
  };
  in_same = refl;
  out_same = refl;
}

pub Moved-then : (a b c : BoardState) (x y : List ℕ) → Moved a b x → Moved b c y → Moved a c (x ++ y)
Moved-then a b c x y p q = record {
  touched = Touched-then a b c x y p.touched q.touched;
  in_same = q.in_same ∙ p.in_same;
  out_same = q.out_same ∙ p.out_same;
}

-- a post
pub Moved-post : (a b : BoardState) (out : List ℕ) → b ≡ after_post a out → Moved a b out
Moved-post a b out e =
    let M : BoardState → Type 0 = λ s. Moved a s out in
    subst M (sym e) (record {
      touched = record {
        taken = [];
        left = put_back-nil a.input;
        posted = refl;
        rests = Rests-post a (after_post a out) out refl;
        rest = refl;
      };
      in_same = refl;
      out_same = refl;
    })

pub Touched-failed : (a b : BoardState) (bytes : List ℕ) → (f : PostFailed a b bytes) → Touched a b f.left.out
Touched-failed a b bytes f = record {
  taken = [];
  left = sym (ap (λ s. s.input) f.rest) ∙ put_back-nil b.input;
  posted = f.left.posted_is;
  rests = Rests-post_failed a b bytes f;
  rest = (let i : b.input ≡ a.input = ap (λ s. s.input) f.rest in let n : b.in_faults ≡ a.in_faults = ap (λ s. s.in_faults) f.rest in
      f.rest ∙ ap (λ (p : Option (List ℕ) × ℕ). record a { input = p.0; in_faults = p.1; posted = b.posted; trail = b.trail; out_faults = b.out_faults }) (λ k. (sym i k, sym n k)));
}

-- ---- what is ahead

abbrev pub known : Option (List ℕ) → List ℕ
known None = []
known (Some left) = left

pub known_is : (o : Option (List ℕ)) → IfSome o (λ bytes. bytes ≡ known o)
known_is None = tt
known_is (Some left) = refl

back : (bytes input : List ℕ) (o : Option (List ℕ)) → IfSome o (λ b. b ≡ input) → IfSome (put_back bytes o) (λ b. b ≡ bytes ++ input)
back bytes input None h = tt
back bytes input (Some left) h = ap (λ l. bytes ++ l) h

pub told-back : (from to : Option (List ℕ)) (bytes input : List ℕ) → from ≡ put_back bytes to → IfSome to (λ b. b ≡ input) → IfSome from (λ b. b ≡ bytes ++ input)
told-back from to bytes input came told =
    let T : Option (List ℕ) → Type 0 = λ o. IfSome o (λ b. b ≡ bytes ++ input) in
    subst T (sym came) (back bytes input to told)

still : (o : Option (List ℕ)) → AtEnd o → IfSome (put_back [] o) (λ left. left ≡ [])
still None h = tt
still (Some left) h = h

-- nothing is ahead
pub none_ahead : (pending : List ℕ) (b : BoardState) → IsOver pending b → IfSome (ahead pending b) (λ left. left ≡ [])
none_ahead pending b over =
    let T : List ℕ → Type 0 = λ p. IfSome (put_back p b.input) (λ left. left ≡ []) in
    subst T (sym over.none) (still b.input over.at_end)

-- ---- the feed

pub Fed-none : (p : List ℕ) (a : BoardState) → Fed p p a a []
Fed-none p a = record { came = put_back-nil (ahead p a); moved = Moved-none a }

pub Fed-then : (p q r : List ℕ) (a b c : BoardState) (x y : List ℕ) → Fed p q a b x → Fed q r b c y → Fed p r a c (x ++ y)
Fed-then p q r a b c x y f g = record {
  came = taken-append (ahead p a) (ahead q b) (ahead r c) x y f.came g.came;
  moved = Moved-then a b c [] [] f.moved g.moved;
}

-- no byte was taken
pub Fed-empty : (p : List ℕ) (a : BoardState) (bytes : List ℕ) → bytes ≡ [] → Fed p p a a bytes
Fed-empty p a bytes none = rw none (Fed-none p a)

-- and then none is ahead
pub Fed-over : (p q r : List ℕ) (a b c : BoardState) (bytes : List ℕ) (o : Option ℕ) → Fed p q a b bytes → Nexted q r b c o → o ≡ None → Fed p r a c bytes × IsOver r c
Fed-over p q r a b c bytes o f n none =
    let F : List ℕ → Type 0 = λ l. Fed p r a c l in
    let h = rw none at n in (subst F (append-nil bytes) (Fed-then p q r a b c bytes [] f h.0), h.1)

pub Fed-over_none : (p q r : List ℕ) (a b c : BoardState) (bytes : List ℕ) (o : Option ℕ) → bytes ≡ [] → Fed p q a b bytes → Nexted q r b c o → o ≡ None → Fed p r a c [] × IsOver r c
Fed-over_none p q r a b c bytes o empty f n none =
    let h = Fed-over p q r a b c bytes o f n none in (rw empty at h.0, h.1)

pub Failed-then : (a b c : BoardState) → Moved a b [] → FeedFailed b c → FeedFailed a c
Failed-then a b c m f = record {
  touched = Touched-then a b c [] [] m.touched f.touched;
  rose = (let T : ℕ → Type 0 = λ n. Rose n c.in_faults in subst T m.in_same f.rose);
  out_same = f.out_same ∙ m.out_same;
}

-- ---- runs

pub TextAdvances-none : (f : List ℕ → Written) (o : Option (List ℕ)) (a : BoardState) → TextAdvances f f o o a a
TextAdvances-none f o a = record { bytes = []; out = []; came = put_back-nil o; spells = λ rest. refl; moved = Moved-none a }

-- no byte was fetched yet
pub TextAdvances-empty : (f : List ℕ → Written) (pending : List ℕ) (a : BoardState) → pending ≡ [] → TextAdvances f f (ahead [] a) (ahead pending a) a a
TextAdvances-empty f pending a none = rw none (TextAdvances-none f (ahead [] a) a)

pub TextAdvances-then : (f g h : List ℕ → Written) (u v w : Option (List ℕ)) (a b c : BoardState) → TextAdvances f g u v a b → TextAdvances g h v w b c → TextAdvances f h u w a c
TextAdvances-then f g h u v w a b c p q = record {
  bytes = p.bytes ++ q.bytes;
  out = p.out ++ q.out;
  came = taken-append u v w p.bytes q.bytes p.came q.came;
  spells = λ rest. ap f (append_assoc p.bytes q.bytes rest) ∙ (p.spells (q.bytes ++ rest) ∙ (ap (before p.out) (q.spells rest) ∙ before-before p.out q.out (h rest)));
  moved = Moved-then a b c p.out q.out p.moved q.moved;
}

all_behind : (a b c : BoardState) (w v : Written) (x y : List ℕ) (end : TextEnd) → w ≡ before x v
    → b.in_faults ≡ a.in_faults → b.out_faults ≡ a.out_faults → IsAll b c v y end → IsAll a c w (x ++ y) end
all_behind a b c w v x y end e in_same out_same h = record {
  end_is = ap (λ (t : Written). t.end) e ∙ h.end_is;
  all = ap (λ t. x ++ t) h.all ∙ sym (ap (λ (t : Written). t.bytes) e);
  in_same = h.in_same ∙ in_same;
  out_same = h.out_same ∙ out_same;
}

front_behind : (w v : Written) (x y : List ℕ) → w ≡ before x v → IsTextPrefix y v.bytes → IsTextPrefix (x ++ y) w.bytes
front_behind w v x y e h = (h.0, append_assoc x y h.0 ∙ (ap (λ t. x ++ t) h.1 ∙ sym (ap (λ (t : Written). t.bytes) e)))

TextEnds-behind : (a b c : BoardState) (w v : Written) (x y : List ℕ) (end : TextEnd) → w ≡ before x v
    → b.in_faults ≡ a.in_faults → b.out_faults ≡ a.out_faults → TextEnds b c v y end → TextEnds a c w (x ++ y) end
TextEnds-behind a b c w v x y Done e i o h = (all_behind a b c w v x y Done e i o h.0, h.1)
TextEnds-behind a b c w v x y Truncated e i o h = (all_behind a b c w v x y Truncated e i o h.0, h.1)
TextEnds-behind a b c w v x y Input e i o h = record {
  rose = (let T : ℕ → Type 0 = λ n. Rose n c.in_faults in subst T i h.rose);
  out_same = h.out_same ∙ o;
  front = front_behind w v x y e h.front;
}
TextEnds-behind a b c w v x y Output e i o h = record {
  rose = (let T : ℕ → Type 0 = λ n. Rose n c.out_faults in subst T o h.rose);
  in_same = h.in_same ∙ i;
  front = front_behind w v x y e h.front;
}
TextEnds-behind a b c w v x y end e i o h = all_behind a b c w v x y end e i o h

pub Turns-behind : (f g : List ℕ → Written) (u v : Option (List ℕ)) (a b c : BoardState) (end : TextEnd) → TextAdvances f g u v a b → TurnsFrom g v b c end → TurnsFrom f u a c end
Turns-behind f g u v a b c end p t = record {
  input = p.bytes ++ t.input;
  told = told-back u v p.bytes t.input p.came t.told;
  out = p.out ++ t.out;
  touched = Touched-then a b c p.out t.out p.moved.touched t.touched;
  ends = TextEnds-behind a b c (f (p.bytes ++ t.input)) (g t.input) p.out t.out end (p.spells t.input) p.moved.in_same p.moved.out_same t.ends;
}

-- the input fails
pub Turns-input : (f : List ℕ → Written) (u : Option (List ℕ)) (a b : BoardState) → FeedFailed a b → TurnsFrom f u a b Input
Turns-input f u a b failed = record {
  input = known u;
  told = known_is u;
  out = [];
  touched = failed.touched;
  ends = record { rose = failed.rose; out_same = failed.out_same; front = ((f (known u)).bytes, refl) };
}

-- a post fails
pub Turns-output : (f : List ℕ → Written) (u : Option (List ℕ)) (input : List ℕ) (a b c : BoardState) (bytes : List ℕ) (w : Written) → IfSome u (λ l. l ≡ input) → Moved a b [] → PostFailed b c bytes
    → f input ≡ before bytes w → TurnsFrom f u a c Output
Turns-output f u input a b c bytes w told m failed e = record {
  input = input;
  told = told;
  out = failed.left.out;
  touched = Touched-then a b c [] failed.left.out m.touched (Touched-failed b c bytes failed);
  ends = record {
    rose = (let T : ℕ → Type 0 = λ n. Rose n c.out_faults in subst T m.out_same failed.faults);
    in_same = ap (λ s. s.in_faults) failed.rest ∙ m.in_same;
    front = (failed.left.unposted ++ w.bytes, sym (append_assoc failed.left.out failed.left.unposted w.bytes) ∙ (ap (λ t. t ++ w.bytes) failed.left.front ∙ sym (ap (λ (t : Written). t.bytes) e)));
  };
}

-- all was posted, and the run ends
pub Turns-taken : (f : List ℕ → Written) (u : Option (List ℕ)) (a b : BoardState) (input out : List ℕ) (end : TextEnd) → IfSome u (λ l. l ≡ input) → Moved a b out
    → f input ≡ before out (ended end) → (IsAll a b (f input) out end → TextEnds a b (f input) out end) → TurnsFrom f u a b end
Turns-taken f u a b input out end told m e ends = record {
  input = input;
  told = told;
  out = out;
  touched = m.touched;
  ends = ends (
      record {
        end_is = ap (λ (t : Written). t.end) e;
        all = sym (ap (λ (t : Written). t.bytes) e ∙ append-nil out);
        in_same = m.in_same;
        out_same = m.out_same;
      });
}

-- no more is to be taken
pub Turns-stop : (f : List ℕ → Written) (p q : List ℕ) (a b : BoardState) (end : TextEnd) → f [] ≡ ended Done → ((byte : ℕ) (rest : List ℕ) → f (byte ∷ rest) ≡ ended TooMany) → TextStops p q a b end
    → TurnsFrom f (ahead p a) a b end
Turns-stop f p q a b Done none some h = Turns-taken f _ a b [] [] Done (told-back (ahead p a) (ahead q b) [] [] h.0.came (none_ahead q b h.1)) h.0.moved none (λ all. (all, h.1.at_end))
Turns-stop f p q a b Input none some h = Turns-input f (ahead p a) a b h
Turns-stop f p q a b TooMany none some h =
    let rest : List ℕ = known (ahead q b) in
    Turns-taken f _ a b (h.0 ∷ rest) [] TooMany (told-back (ahead p a) (ahead q b) (h.0 ∷ []) rest h.1.came (known_is (ahead q b))) h.1.moved (some h.0 rest) (λ all. all)
Turns-stop f p q a b end none some h = absurd h

-- a run from the board's own input
pub Turns-all : (f : List ℕ → Written) (a b : BoardState) (end : TextEnd) → TurnsFrom f (ahead [] a) a b end → Turns f a b end
Turns-all f a b end t = let T : Option (List ℕ) → Type 0 = λ u. TurnsFrom f u a b end in subst T (sym (put_back-nil a.input)) t

-- ---- answers

pub on_ok : {X E : Type 0} {P Q : Type 0} → (r : Result X E) → (P → Q) → OnOk r P → OnOk r Q
on_ok (Ok x) f h = f h
on_ok (Err e) f h = tt

pub if_err : {X F : Type 0} → (Q : TextEnd → Type 0) (r : Result X TextEnd) → IfErr r (λ e. e ≡ Output) → OnErr r F → (F → Q Output) → IfErr r Q
if_err Q (Ok x) k h f = tt
if_err Q (Err e) k h f = subst Q (sym k) (f h)

pub if_err_map : {X : Type 0} → (P Q : TextEnd → Type 0) (r : Result X TextEnd) → ((e : TextEnd) → P e → Q e) → IfErr r P → IfErr r Q
if_err_map P Q (Ok x) f h = tt
if_err_map P Q (Err e) f h = f e h

pub not_false : (r : Bool) → IsTrue r → r ≡ false → ⊥
not_false r t e = let k : true ≡ false = sym t ∙ e in cc

pub is_none : (xs : List ℕ) (r : Bool) → (IsTrue r ↔ (xs ≡ [])) → r ≡ true → xs ≡ []
is_none xs true h e = h.0 refl
is_none xs false h e = cc

pub not_empty : (xs : List ℕ) (r : Bool) → (IsTrue r ↔ (xs ≡ [])) → r ≡ false → 0 < length xs
not_empty [] r h e = absurd (not_false r (h.1 refl) e)
not_empty (x ∷ xs) r h e = omega arith

pub TextAdvances-count : (e f : ℕ → List ℕ → Written) (n : ℕ) (u v : Option (List ℕ)) (a b : BoardState) → TextAdvances (e 0) (f (suc n)) u v a b → TextAdvances (e 0) (f (n + 1)) u v a b
TextAdvances-count e f n u v a b h =
    let one : suc n ≡ n + 1 = omega arith in rw one at h
