-- If nothing fails, the whole script is served.
use Rattle.std.proofs.Common.{◌≡◌, ◌≢◌, ◌⊎◌, inl, inr, ℕ, zero, suc, ◌+◌, ◌-◌, ◌*◌, ◌≤◌, ◌<◌, List, [], ◌∷◌, ◌++◌, length, refl, sym, ◌∙◌, ap, arith, length-append, Some, None, Bool, true, false}
use Rattle.std.proofs.Common.{◌==◌, if◌then◌else◌, nat_le}
use Rattle.std.{proofs.lemmas.Bool.Decides.nat_tests, specs.List.FoldsTo}
use Rattle.pk_base.{specs.Shape.Shape, specs.Map.Map}
use Rattle.pk_nvme.{specs.Command.Command, specs.Reply.Reply, specs.Opcode.op_of, specs.declared.opcode.Opcode.TheVariants.Retrieve}
use Rattle.pk_nand.{specs.BoardState.BoardState, specs.Calls.Rose, specs.Calls.last_count}
use Rattle.pk_model.{specs.Answer.Answer, specs.Bounds.most_reads, specs.Run.Exchange, specs.Run.Step, specs.Run.commands, specs.Run.faults, specs.Run.map_after_all}
use Rattle.pk_model.{specs.Script.script, specs.Script.commands_in, specs.Script.begins_whole, specs.Kept.AtMost, specs.Kept.rise, specs.Wear.is_worn, specs.Wear.roots, specs.Spaces.Terms}
use Rattle.pk_call.{specs.Sight.Sight, specs.Exec.most_installs, specs.Exec.most_store_roots, specs.Meter.meter}
use Rattle.pk_serve.{specs.Answered.installs, specs.Run.Served, specs.Complete.ticks, specs.Complete.Complete, specs.Complete.IsServable, specs.Complete.RunCompletes, specs.declared.end.End.End}
use Rattle.pk_serve.specs.declared.end.End.TheVariants.{Done, Truncated, Input, Output, Flash, Worn}
use Rattle.pk_serve.proofs.Closing.{told, script_is, front_none, served_by, size_of}
use Rattle.pk_serve.{proofs.Counting.faults-one, proofs.Counting.metered-roots, specs.Ends.IsFault, specs.Input.script_after, specs.Loop.Ends, specs.Loop.Finish}

-- ---- answers without a read error

module _ (shape : Shape) (terms : Terms) where
  -- if no reply reports a read error, each is an answer, and the map is known
  answered : (xs : List Exchange) (m m' : Map) → faults xs ≡ 0
      → FoldsTo (λ m x m'. Step shape terms m x.command x.reply m' × (op_of x.command.opcode ≡ Some Retrieve → x.reads ≤ most_reads shape terms m x.command)) m xs m'
      → FoldsTo (λ m x m'. Answer shape terms m x.command x.reply m') m xs m' × (m' ≡ map_after_all shape terms.limits m (commands xs))
  answered [] m m' none ran = (ran, sym ran)
  answered (x ∷ xs) m m' none ran =
      let first : faults (x ∷ []) ≡ 0 = omega arith in
      let rest : faults xs ≡ 0 = omega arith in
      let more = answered xs ran.0 m' rest ran.2 in
      let one : Answer shape terms m x.command x.reply ran.0 = elim ran.1.0 [
        | inl a ↦ a
        | inr u ↦ elim (faults-one x) [
          | inl good ↦ absurd (good.0 (ap (λ (r : Reply). r.status) u.replied))
          | inr bad ↦ absurd (let z : 0 ≡ 1 = sym first ∙ bad.1 in omega (arith, z))
        ]
      ] in
      ((ran.0, one, more.0), more.1 ∙ ap (λ n. map_after_all shape terms.limits n (commands xs)) one.leaves)

-- no fault was counted
pub none_counted : (before now k : ℕ) → (Rose before now → ⊥) → AtMost (rise before now) k → k ≡ 0
none_counted before now k none h = by (nat_le last_count now) refl h
  where
    by : (b : Bool) → nat_le last_count now ≡ b → AtMost (if b then None else Some (now - before)) k → k ≡ 0
    by true e f = absurd (none (grind (arith, nat_tests, e)))
    by false e f = by_order (nat_le (suc before) now) refl
      where
        by_order : (o : Bool) → nat_le (suc before) now ≡ o → k ≡ 0
        by_order true r = absurd (none (let up : suc before ≤ now = grind (arith, nat_tests, r) in omega (arith, up)))
        by_order false r = let down : now ≤ before = grind (arith, nat_tests, r) in omega (arith, down, f)

-- ---- roots

installs_few : (cs : List Command) → installs cs ≤ ticks cs + most_store_roots * length cs
installs_few [] = omega arith
installs_few (c ∷ cs) =
    let rest = installs_few cs in
    let one : most_installs c.opcode c.size ≤ (if c.opcode == 0xC0 then c.size else 0) + most_store_roots = by (c.opcode == 0xC0) in
    omega (arith, rest, one)
  where
    by : (b : Bool) → (if b then c.size else most_store_roots) ≤ (if b then c.size else 0) + most_store_roots
    by true = omega arith
    by false = omega arith

ticks-append : (xs ys : List Command) → ticks (xs ++ ys) ≡ ticks xs + ticks ys
ticks-append [] ys = omega arith
ticks-append (c ∷ cs) ys = let rest = ticks-append cs ys in omega (arith, rest)

-- not worn, after commands that install few roots
unworn : (a b : BoardState) (cs : List Command) → roots b ≤ roots a + installs cs → roots a < 4611686018427387904 → ticks cs < 2305843009213693952 → length cs < 4294967296 → is_worn b ≢ true
unworn a b cs up far few short worn =
    let at : 9223372036854775808 ≤ roots b = grind (arith, nat_tests, worn) in
    let most = installs_few cs in
    omega (arith, at, up, far, few, short, most)

-- ---- a part of the script

-- bytes that are no command remain
nothing_taken : (n : ℕ) (bytes : List ℕ) → (commands_in n bytes).0 ≡ [] → (commands_in n bytes).1 ≡ bytes
nothing_taken zero bytes none = refl
nothing_taken (suc n) bytes none = by (begins_whole bytes) refl
  where
    by : (b : Bool) → begins_whole bytes ≡ b → (commands_in (suc n) bytes).1 ≡ bytes
    by true e = absurd (let h = rw e at none in cc)
    by false e = rw e refl

nothing_in : (bytes : List ℕ) → (script bytes).0 ≡ [] → (script bytes).1 ≡ bytes
unfolding script
nothing_in bytes none = nothing_taken (length bytes) bytes none

-- ---- the end

module _ (shape : Shape) (terms : Terms) (start : Map) (a b : BoardState) (d : Sight) (input : List ℕ) (is : a.input ≡ Some input) (ok : IsServable a b (script input).0 (script input).1) where
  complete_of : Served shape terms start a b (script input).0 → Complete shape terms start a b (script input).0
  complete_of s =
      let none : faults s.served ≡ 0 = none_counted a.read_faults b.read_faults (faults s.served) ok.none_rose.reads s.few_faults in
      let r = answered shape terms s.served start s.left none s.ran in
      let e : s.left ≡ map_after_all shape terms.limits start (script input).0 = r.1 ∙ ap (map_after_all shape terms.limits start) s.are in
      record { served = s.served; are = s.are; ran = rw e at r.0; posted = s.posted; holds = rw e at s.holds }

  -- another command begins in a script that is whole: there are more commands
  one_more : (bytes part left : List ℕ) (cs : List Command) → part ≢ [] → script input ≡ script_after cs (script (part ++ left)) → length cs + 1 ≤ length (script input).0
  one_more bytes part left cs some e =
      let whole : (script (part ++ left)).1 ≡ [] = sym (ap (λ s. s.1) e) ∙ ok.whole in
      let n : length (script input).0 ≡ length cs + length (script (part ++ left)).0 = ap (λ s. length s.0) e ∙ length-append cs (script (part ++ left)).0 in
      by (script (part ++ left)).0 refl whole n
    where
      by : (more : List Command) → (script (part ++ left)).0 ≡ more → (script (part ++ left)).1 ≡ []
          → length (script input).0 ≡ length cs + length (script (part ++ left)).0 → length cs + 1 ≤ length (script input).0
      by [] none whole n = absurd (some (front_none part left (sym (nothing_in (part ++ left) none) ∙ whole)))
      by (c ∷ more) is_more whole n = omega (arith, n, ap (λ l. length l) is_more)

  pub completed : (end : End) → IsFault end ⊎ (d.pending ≡ []) → Finish shape terms start a b d [] end → (end ≡ Done) × Complete shape terms start a b (script input).0
  completed Done closed x = let s = served_by shape terms start a b d input is Done closed x in (refl, complete_of s.1)
  completed Truncated closed x = let s = served_by shape terms start a b d input is Truncated closed x in absurd (s.0 ok.whole)
  completed Input closed x = absurd (ok.none_rose.input x.rose)
  completed Output closed x = absurd (ok.none_rose.output x.cause)
  completed Flash closed x = absurd (ok.none_rose.stops x.cause)
  completed Worn closed x =
      let f = x.finished in
      let i = told b.input (f.bytes ++ x.part) input (sym is ∙ f.input) in
      let e : script input ≡ script_after (commands f.all) (script (x.part ++ i.0)) = script_is f.bytes x.part i.0 input (commands f.all) f.spells i.2 in
      let more = one_more f.bytes x.part i.0 (commands f.all) x.some e in
      let n : length (commands f.all) ≡ length f.all = size_of shape terms start a b d x.part f in
      let t : ticks (script input).0 ≡ ticks (commands f.all) + ticks (script (x.part ++ i.0)).0 = ap (λ s. ticks s.0) e ∙ ticks-append (commands f.all) (script (x.part ++ i.0)).0 in
      absurd (elim x.cause [
        | inl full ↦ omega (arith, full, n, more, ok.few)
        | inr worn ↦ unworn a b (commands f.all) (metered-roots f.all (meter a) (meter b) f.serving.metered) ok.far_from_worn (omega (arith, t, ok.few_ticks)) (omega (arith, more, ok.few)) worn
      ])

pub completes : (a b : BoardState) (before after : Sight) (end : End) → Ends a b before after [] end → IsFault end ⊎ (after.pending ≡ []) → RunCompletes a b before end
completes a b before after end h closed shape terms start stands none input is ok = completed shape terms start a b after input is ok end closed (h shape terms start stands none)
