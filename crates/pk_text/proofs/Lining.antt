-- Lines that are taken, and what they give.
use Rattle.std.proofs.Common.{◌≡◌, ℕ, suc, ◌<◌, ◌≤◌, ◌+◌, Bool, true, false, List, [], ◌∷◌, ◌++◌, length, refl, sym, ◌∙◌, ap, subst, arith, append_assoc, append-nil, length-append, Option, Some, None}
use Rattle.std.{specs.Prelude.◌==◌, specs.Prelude.if◌then◌else◌, specs.Prelude.IfSome, specs.Prelude.option_map, proofs.lemmas.Bool.Decides.nat_tests, proofs.lemmas.Bool.lt-ltb}
use Rattle.std.{proofs.lemmas.Bool.le-leb, proofs.lemmas.Bool.lt-leb}
use Rattle.pk_asm.specs.Line.{Line, nothing, entry, says, entry_in, line_bytes}
use Rattle.pk_nand.{specs.BoardState.BoardState, specs.Calls.put_back, specs.Calls.AtEnd, specs.Operations.after_post, specs.Operations.PostFailed}
use Rattle.pk_text.{specs.Written.ended, specs.Assembled.onto_first, specs.Assembled.lines, specs.Assembled.line_given, specs.Assembled.lines_given, specs.Assembled.assembled_from}
use Rattle.pk_text.{specs.Turns.TurnsFrom, specs.declared.end.TextEnd.TextEnd, proofs.Feeding.Fed-more, proofs.Feeding.Fed-end}
use Rattle.pk_text.specs.Steps.{ahead, Moved, TextAdvances, Fed, Nexted, IsLine, LineTaken, NoLine, LineGives, GivesNot, TextStops}
use Rattle.pk_text.specs.declared.end.TextEnd.TheVariants.{Done, Input, Output, TooMany, BadLine}
use Rattle.pk_text.proofs.Turning.{Moved-none, Moved-then, Moved-post, known, known_is, told-back, none_ahead, Turns-input, Turns-output, Turns-stop, Turns-taken}

-- ---- the lines of bytes

pub IsLine-more : (line : List ℕ) (byte : ℕ) → IsLine line → (byte == 10) ≡ false → IsLine (line ++ byte ∷ [])
IsLine-more [] byte all e = (e, all)
IsLine-more (x ∷ line) byte all e = (all.0, IsLine-more line byte all.1 e)

onto : (byte : ℕ) (bytes : List ℕ) → (byte == 10) ≡ false → lines (byte ∷ bytes) ≡ onto_first byte (lines bytes)
onto byte bytes e = ap (λ b. if b then [] ∷ lines bytes else onto_first byte (lines bytes)) e

lines-feed : (line rest : List ℕ) → IsLine line → lines (line ++ 10 ∷ rest) ≡ line ∷ lines rest
lines-feed [] rest all = refl
lines-feed (byte ∷ line) rest all = onto byte (line ++ 10 ∷ rest) all.0 ∙ ap (onto_first byte) (lines-feed line rest all.1)

lines-last : (line : List ℕ) → IsLine line → 0 < length line → lines line ≡ line ∷ []
lines-last [] all some = absurd (omega arith)
lines-last (byte ∷ []) all some = onto byte [] all.0
lines-last (byte ∷ next ∷ line) all some = onto byte (next ∷ line) all.0 ∙ ap (onto_first byte) (lines-last (next ∷ line) all.1 (omega arith))

-- some lines, the first of which begins with these bytes
pub record Begins (line bytes : List ℕ) : Type 0 where
  pub more : List ℕ
  pub tail : List (List ℕ)
  pub is : lines bytes ≡ (line ++ more) ∷ tail

onto_any : (byte : ℕ) (ls : List (List ℕ)) → (more : List ℕ) × (tail : List (List ℕ)) × (onto_first byte ls ≡ (byte ∷ more) ∷ tail)
onto_any byte [] = ([], [], refl)
onto_any byte (line ∷ ls) = (line, ls, refl)

lines-long : (line rest : List ℕ) → IsLine line → 0 < length line → Begins line (line ++ rest)
lines-long [] rest all some = absurd (omega arith)
lines-long (byte ∷ []) rest all some = let o = onto_any byte (lines rest) in record { more = o.0; tail = o.1; is = onto byte rest all.0 ∙ o.2 }
lines-long (byte ∷ next ∷ line) rest all some =
    let b = lines-long (next ∷ line) rest all.1 (omega arith) in
    record { more = b.more; tail = b.tail; is = onto byte (next ∷ line ++ rest) all.0 ∙ ap (onto_first byte) b.is }

some-line : (byte : ℕ) (rest : List ℕ) (feed : Bool) → (byte == 10) ≡ feed → (line : List ℕ) × (tail : List (List ℕ)) × (lines (byte ∷ rest) ≡ line ∷ tail)
some-line byte rest true e = ([], lines rest, ap (λ b. if b then [] ∷ lines rest else onto_first byte (lines rest)) e)
some-line byte rest false e = let o = onto_any byte (lines rest) in (byte ∷ o.0, o.1, onto byte rest e ∙ o.2)

-- ---- what the first line gives

first_line : (taken number : ℕ) (line : List ℕ) (ls : List (List ℕ)) → taken < 4294967295
    → lines_given taken number (line ∷ ls) ≡ line_given (says number line) number (λ next. lines_given (suc taken) next ls)
first_line taken number line ls few = rw (lt-leb 4294967295 taken few)

too_many : (taken number : ℕ) (line : List ℕ) (ls : List (List ℕ)) → 4294967295 ≤ taken → lines_given taken number (line ∷ ls) ≡ ended TooMany
too_many taken number line ls full = rw (le-leb 4294967295 taken full)

says-long : (number : ℕ) (line : List ℕ) → 2200000 < length line → says number line ≡ None
unfolding says
says-long number line long = rw (lt-ltb 2200000 (length line) long)

-- ---- steps

pub Line-advances : (taken number next : ℕ) (p q line : List ℕ) (a b c : BoardState) → taken < 4294967295 → LineTaken p q a b line true → LineGives number line next b c
    → TextAdvances (assembled_from taken number) (assembled_from (suc taken) next) (ahead p a) (ahead q c) a c
Line-advances taken number next p q line a b c few found given = record {
  bytes = line ++ 10 ∷ [];
  out = given.out;
  came = found.1.came ∙ ap (λ i. put_back (line ++ 10 ∷ []) (put_back q i)) (sym given.input);
  spells = λ rest.
      ap (λ t. lines_given taken number (lines t)) (append_assoc line (10 ∷ []) rest)
      ∙ (ap (lines_given taken number) (lines-feed line rest found.0)
      ∙ (first_line taken number line (lines rest) few ∙ given.spells (λ n. lines_given (suc taken) n (lines rest))));
  moved = Moved-then a b c [] given.out found.1.moved given.moved;
}

-- an input that begins with the line, as far as it is recorded
pub record Found (u : Option (List ℕ)) (a b : BoardState) (line : List ℕ) : Type 0 where
  pub input : List ℕ
  pub rest : List ℕ
  pub told : IfSome u (λ l. l ≡ input)
  pub split : lines input ≡ line ∷ lines rest
  pub moved : Moved a b []

found_line : (p q line : List ℕ) (a b : BoardState) (whole : Bool) → LineTaken p q a b line whole → Found (ahead p a) a b line
found_line p q line a b true h = record {
  input = (line ++ 10 ∷ []) ++ known (ahead q b);
  rest = known (ahead q b);
  told = told-back (ahead p a) (ahead q b) (line ++ 10 ∷ []) (known (ahead q b)) h.1.came (known_is (ahead q b));
  split = ap lines (append_assoc line (10 ∷ []) (known (ahead q b))) ∙ lines-feed line (known (ahead q b)) h.0;
  moved = h.1.moved;
}
found_line p q line a b false h = record {
  input = line ++ [];
  rest = [];
  told = told-back (ahead p a) (ahead q b) line [] h.1.came (none_ahead q b h.3);
  split = ap lines (append-nil line) ∙ lines-last line h.0 h.2;
  moved = h.1.moved;
}

pub Line-last : (taken number next : ℕ) (p q line : List ℕ) (a b c : BoardState) → taken < 4294967295 → LineTaken p q a b line false → LineGives number line next b c
    → TurnsFrom (assembled_from taken number) (ahead p a) a c Done
Line-last taken number next p q line a b c few h given =
    Turns-taken (assembled_from taken number) _ a c (line ++ []) given.out Done (told-back (ahead p a) (ahead q b) line [] h.1.came (none_ahead q b h.3))
    (Moved-then a b c [] given.out h.1.moved given.moved)
    (ap (λ l. lines_given taken number (lines l)) (append-nil line) ∙ (ap (lines_given taken number) (lines-last line h.0 h.2)
    ∙ (first_line taken number line [] few ∙ given.spells (λ n. lines_given (suc taken) n [])))) (λ all. (all, subst AtEnd (sym given.input) h.3.at_end))

pub Line-not : (taken number : ℕ) (p q line : List ℕ) (a b c : BoardState) (whole : Bool) (end : TextEnd) → taken < 4294967295 → LineTaken p q a b line whole → GivesNot number line b c end
    → TurnsFrom (assembled_from taken number) (ahead p a) a c end
Line-not taken number p q line a b c whole Output few t h =
    let f = found_line p q line a b whole t in
    Turns-output (assembled_from taken number) (ahead p a) f.input a b c (h.0 ++ h.1) (lines_given (suc taken) (number + 1) (lines f.rest)) f.told f.moved h.3
    (ap (lines_given taken number) f.split ∙ (first_line taken number line (lines f.rest) few ∙ ap (λ o. line_given o number (λ n. lines_given (suc taken) n (lines f.rest))) h.2))
Line-not taken number p q line a b c whole BadLine few t h =
    let f = found_line p q line a b whole t in
    let T : BoardState → Type 0 = λ s. Moved a s [] in
    Turns-taken (assembled_from taken number) _ a c f.input [] BadLine f.told (subst T (sym h.1) f.moved)
    (ap (lines_given taken number) f.split ∙ (first_line taken number line (lines f.rest) few ∙ ap (λ o. line_given o number (λ n. lines_given (suc taken) n (lines f.rest))) h.0)) (λ all. all)
Line-not taken number p q line a b c whole end few t h = absurd h

pub No-line : (taken number : ℕ) (p q line : List ℕ) (a b : BoardState) (end : TextEnd) → taken < 4294967295 → NoLine p q a b line end → TurnsFrom (assembled_from taken number) (ahead p a) a b end
No-line taken number p q line a b Done few h =
    Turns-taken (assembled_from taken number) _ a b [] [] Done (told-back (ahead p a) (ahead q b) [] [] h.0.came (none_ahead q b h.1)) h.0.moved refl (λ all. (all, h.1.at_end))
No-line taken number p q line a b Input few h = Turns-input (assembled_from taken number) (ahead p a) a b h
No-line taken number p q line a b BadLine few h =
    let rest : List ℕ = known (ahead q b) in
    let l = lines-long line rest h.0 (omega (arith, h.2)) in
    Turns-taken (assembled_from taken number) _ a b (line ++ rest) [] BadLine (told-back (ahead p a) (ahead q b) line rest h.1.came (known_is (ahead q b))) h.1.moved
    (ap (lines_given taken number) l.is ∙ (first_line taken number (line ++ l.more) l.tail few
    ∙ ap (λ o. line_given o number (λ n. lines_given (suc taken) n l.tail)) (says-long number (line ++ l.more) (omega (arith, h.2, length-append line l.more))))) (λ all. all)
No-line taken number p q line a b end few h = absurd h

pub Lines-stop : (taken number : ℕ) (p q : List ℕ) (a b : BoardState) (end : TextEnd) → 4294967295 ≤ taken → TextStops p q a b end → TurnsFrom (assembled_from taken number) (ahead p a) a b end
Lines-stop taken number p q a b end full h = Turns-stop (assembled_from taken number) p q a b end refl
    (λ byte rest. let s = some-line byte rest (byte == 10) refl in ap (lines_given taken number) s.2 ∙ too_many taken number s.0 s.1 full) h

-- ---- what the line says

nothing_said : (o : Option Line) → option_map entry_in o ≡ Some None → o ≡ Some nothing
nothing_said (Some nothing) h = refl
nothing_said (Some (entry e bytes)) h = cc
nothing_said None h = cc

entry_said : (o : Option Line) (e : List ℕ) → option_map entry_in o ≡ Some (Some e) → o ≡ Some (entry e (line_bytes o))
entry_said (Some nothing) e h = cc
entry_said (Some (entry e' bytes)) e h = let same : e' ≡ e = cc in ap (λ x. Some (entry x bytes)) same
entry_said None e h = cc

pub LineGives-none : (number : ℕ) (line : List ℕ) (a : BoardState) → option_map entry_in (says number line) ≡ Some None → LineGives number line number a a
LineGives-none number line a h = record { out = []; spells = λ more. ap (λ o. line_given o number more) (nothing_said (says number line) h); input = refl; moved = Moved-none a }

pub LineGives-some : (number : ℕ) (line e bytes : List ℕ) (a b : BoardState)
    → option_map entry_in (says number line) ≡ Some (Some e) → bytes ≡ line_bytes (says number line) → b ≡ after_post a (e ++ bytes)
    → LineGives number line (number + 1) a b
LineGives-some number line e bytes a b h same posted = record {
  out = e ++ bytes;
  spells = λ more. ap (λ o. line_given o number more) (entry_said (says number line) e h ∙ ap (λ t. Some (entry e t)) (sym same));
  input = ap (λ s. s.input) posted;
  moved = Moved-post a b (e ++ bytes) posted;
}

pub LineGives-failed : (number : ℕ) (line e bytes : List ℕ) (a b : BoardState)
    → option_map entry_in (says number line) ≡ Some (Some e) → bytes ≡ line_bytes (says number line) → PostFailed a b (e ++ bytes)
    → GivesNot number line a b Output
LineGives-failed number line e bytes a b h same f =
    (e, line_bytes (says number line), entry_said (says number line) e h, rw same at f)

-- ---- byte by byte

pub Line-ended : (p q r line : List ℕ) (a b c : BoardState) (next : Option ℕ) (byte : ℕ) → IsLine line → Fed p q a b line → Nexted q r b c next → next ≡ Some byte → byte ≡ 10
    → LineTaken p r a c line true
Line-ended p q r line a b c next byte plain fed h e feed =
    let U : ℕ → Type 0 = λ x. Fed p r a c (line ++ x ∷ []) in
    (plain, subst U feed (Fed-more p q r a b c line byte fed (rw e at h)))

pub Line-more : (p q r line : List ℕ) (a b c : BoardState) (next : Option ℕ) (byte : ℕ) → Fed p q a b line → Nexted q r b c next → next ≡ Some byte → Fed p r a c (line ++ byte ∷ [])
Line-more p q r line a b c next byte fed h e = Fed-more p q r a b c line byte fed (rw e at h)

pub Line-final : (p q r line : List ℕ) (a b c : BoardState) (next : Option ℕ) → IsLine line → Fed p q a b line → Nexted q r b c next → next ≡ None → 0 < length line
    → LineTaken p r a c line false
Line-final p q r line a b c next plain fed h e some = let n = rw e at h in (plain, Fed-end p q r a b c line fed n.0, some, n.1)

pub plain_byte : (byte : ℕ) → (byte ≡ 10 → ⊥) → (byte == 10) ≡ false
plain_byte byte h = grind (arith, nat_tests)

pub some_of : (xs : List ℕ) → (xs ≡ [] → ⊥) → 0 < length xs
some_of [] h = absurd (h refl)
some_of (x ∷ xs) h = omega arith
