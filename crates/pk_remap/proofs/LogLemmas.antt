-- Marks that are noted in a log.
use Rattle.std.proofs.Common.{◌≡◌, inl, inr, ℕ, zero, suc, ◌+◌, ◌*◌, ◌<◌, ◌≤◌, List, [], ◌∷◌, ◌++◌, length, take, drop, refl, ap, ◌∙◌, arith, length-drop}
use Rattle.std.specs.Prelude.{OnOk, max, nat_lt, Bool, true, false, Result, Ok, Err, IsOk, is_ok, if◌then◌else◌}
use Rattle.std.proofs.lemmas.List.{take-append-le, drop-append-le, take_all}
use Rattle.std.{proofs.lemmas.Bool.Decides.nat_tests, proofs.lemmas.Grind.div_ceil_times, specs.Int.div_ceil}
use Rattle.pk_base.specs.Mark.{Mark}
use Rattle.pk_nand.specs.Calls.{longer}
use Rattle.pk_remap.{specs.declared.mark_log.NotedMark.NotedMark, specs.declared.mark_log.MarkLog.MarkLog, specs.Logged.told, specs.Logged.HasLogRoom, proofs.Lifting.times_le}
use Rattle.pk_remap.specs.Noted.{bytes_of_mark, mark_with, noted_bytes, noted_marks, told_of, marks_for}

-- one more mark, with its bytes
pub noted_more : (marks : List NotedMark) (bytes : List ℕ) (mark : NotedMark) (more : List ℕ) → noted_bytes marks ≡ length bytes → bytes_of_mark mark ≡ length more
    → noted_marks (marks ++ mark ∷ []) (bytes ++ more) ≡ noted_marks marks bytes ++ mark_with mark more ∷ []
noted_more [] [] mark more all own = ap (λ (b : List ℕ). mark_with mark b ∷ []) (take_all (bytes_of_mark mark) more (omega (arith, own)))
noted_more [] (x ∷ xs) mark more all own = absurd (omega (arith, all))
noted_more (m ∷ ms) bytes mark more all own =
    let k : ℕ = bytes_of_mark m in
    let inside : k ≤ length bytes = omega (arith, all) in
    let rest : noted_bytes ms ≡ length (drop k bytes) = simp length-drop (omega (arith, all)) in
    let front : take k (bytes ++ more) ≡ take k bytes = take-append-le k bytes more inside in
    let later : drop k (bytes ++ more) ≡ drop k bytes ++ more = drop-append-le k bytes more inside in
    (λ i. mark_with m (front i) ∷ noted_marks (ms ++ mark ∷ []) (later i)) ∙ ap (λ (l : List Mark). mark_with m (take k bytes) ∷ l) (noted_more ms (drop k bytes) mark more rest own)

pub bytes_more : (marks : List NotedMark) (mark : NotedMark) → noted_bytes (marks ++ mark ∷ []) ≡ noted_bytes marks + bytes_of_mark mark
bytes_more [] mark = omega arith
bytes_more (m ∷ ms) mark = let own = bytes_more ms mark in omega (arith, own)

-- a log with room reports its marks, one without reports none
pub told_some : (room : ℕ) (marks : List Mark) (mark : Mark) → 0 < room → told_of room (marks ++ mark ∷ []) ≡ longer (told_of room marks) (mark ∷ [])
told_some zero marks mark some = absurd (omega (arith, some))
told_some (suc room) marks mark some = refl

-- n marks have room for the bytes
pub marks_hold : (p len : ℕ) → 1 ≤ p → len ≤ marks_for p len * p
marks_hold p len some =
    let q : ℕ = div_ceil len p in
    let own : len ≤ q * p = div_ceil_holds len p some in
    let less : q * p ≤ max q 1 * p = times_le q (max q 1) p (omega arith) in
    omega (arith, own, less)
  where
    div_ceil_holds : (a b : ℕ) → 1 ≤ b → a ≤ div_ceil a b * b
    div_ceil_holds a b some = (div_ceil_times a b some).0

pub one_mark : (p len : ℕ) → 1 ≤ marks_for p len
one_mark p len = omega arith

-- fewer bytes take at most as many marks
pub marks_fewer : (p few len : ℕ) → 1 ≤ p → few ≤ len → marks_for p few ≤ marks_for p len
marks_fewer p few len some less = let own = div_ceil_le few len p some less in omega (arith, own)
  where
    div_ceil_le : (a b p : ℕ) → 1 ≤ p → a ≤ b → div_ceil a p ≤ div_ceil b p
    div_ceil_le a b p some less = by (nat_lt (div_ceil b p) (div_ceil a p)) refl
      where
        apart : (x y : ℕ) → suc y * p ≤ x * p → x * p < a + p → b ≤ y * p → ⊥
        apart x y all one two = omega (arith, all, one, two, less)

        by : (t : Bool) → nat_lt (div_ceil b p) (div_ceil a p) ≡ t → div_ceil a p ≤ div_ceil b p
        by true t =
            let more : div_ceil b p < div_ceil a p = grind (arith, nat_tests) in
            let one = div_ceil_times a p some in
            let two = div_ceil_times b p some in
            let all : suc (div_ceil b p) * p ≤ div_ceil a p * p = times_le (suc (div_ceil b p)) (div_ceil a p) p more in
            absurd (apart (div_ceil a p) (div_ceil b p) all one.1 two.0)
        by false t = grind (arith, nat_tests)

-- the room of a mark
pub has_room : (log : MarkLog) (len : ℕ) → HasLogRoom log len → 0 < log.room → (1 ≤ log.page_bytes) × (log.used + marks_for log.page_bytes len ≤ log.room)
has_room log len (inl none) some = absurd (omega (arith, none, some))
has_room log len (inr room) some = room

pub room_fewer : (log : MarkLog) (few len : ℕ) → few ≤ len → HasLogRoom log len → HasLogRoom log few
room_fewer log few len less (inl none) = inl none
room_fewer log few len less (inr room) = inr (room.0, (let own = marks_fewer log.page_bytes few len room.0 less in let all = room.1 in omega (arith, own, all)))

-- the bytes of the used marks fit
pub bytes_fit : (used more p have len : ℕ) → have ≤ used * p → len ≤ more * p → have + len ≤ (used + more) * p
bytes_fit used more p have len one two = omega (arith, one, two)

-- what a call left that was done
pub if_is_ok : {X E : Type 0} (r : Result Unit E) (a b x : X) → IsOk r → x ≡ (if is_ok r then a else b) → x ≡ a
if_is_ok (Ok u) a b x ok is = is
if_is_ok (Err e) a b x ok is = let no : false ≡ true = ok in cc

-- a log whose room was not taken has no mark
pub told_unfit : (log : MarkLog) → log.page_bytes ≡ 0 → told log ≡ told_of log.room []
told_unfit log unfit =
    let none = log.marks_fit unfit in
    let few = log.counted in
    let size = log.marks.ok.0 in
    let empty : length log.marks.items ≡ 0 = omega (arith, none, few, size) in
    ap (λ (l : List Mark). told_of log.room l) (no_marks_of log.marks.items log.bytes.items empty)
  where
    no_marks_of : (marks : List NotedMark) (bytes : List ℕ) → length marks ≡ 0 → noted_marks marks bytes ≡ []
    no_marks_of [] bytes e = refl
    no_marks_of (m ∷ ms) bytes e = absurd (omega (arith, e))

-- a fact whatever the call answers
pub if_ok : {X E : Type 0} (r : Result X E) (P : Type 0) → P → OnOk r P
if_ok (Ok x) P p = p
if_ok (Err e) P p = tt
