-- The end of a run, and what it says of the whole run.
use Rattle.std.proofs.Common.{◌≡◌, ◌≢◌, ◌⊎◌, inl, inr, ℕ, ◌≤◌, ◌+◌, List, [], ◌∷◌, ◌++◌, length, refl, sym, ◌∙◌, ap, subst, arith, append-nil, append_assoc, Option, Some, None}
use Rattle.std.proofs.lemmas.List.{length-map}
use Rattle.pk_base.{specs.Shape.Shape, specs.Mark.all_posted, specs.Map.Map}
use Rattle.pk_nvme.specs.Command.{Command}
use Rattle.pk_nand.{specs.BoardState.BoardState, specs.Calls.longer, specs.Calls.put_back, specs.Calls.AtEnd}
use Rattle.pk_model.{specs.Script.script, specs.Run.Exchange, specs.Run.commands, specs.Growth.Goes, specs.Wear.is_worn, specs.Kept.rise, specs.Spaces.Terms}
use Rattle.pk_model.proofs.Growing.{Goes-reaches}
use Rattle.pk_serve.proofs.Weakening.{goes_as}
use Rattle.pk_serve.specs.Run.{Served, ServedBy, KeepsScript, KeepsSome, Answers, ServedSome, Causes, CallsWithin}
use Rattle.pk_serve.specs.declared.end.End.TheVariants.{Done, Truncated, Input, Output, Flash, Worn}
use Rattle.pk_call.{specs.Sight.Sight, specs.Meter.meter}
use Rattle.pk_serve.{specs.Ends.IsFault, specs.Serving.KeptAt, specs.Serving.Flushed, specs.Serving.ServingBroken, specs.Answered.Answered}
use Rattle.pk_serve.{specs.Input.Spells, specs.Input.IsPart, specs.Input.script_after, specs.Loop.Finished, specs.Loop.Failed, specs.Loop.Finish, specs.Loop.Ends, specs.Script.Runs}
use Rattle.pk_serve.{specs.Calling.calls_of, specs.Calling.most_calls_of_all, specs.declared.end.End.End}
use Rattle.pk_serve.{proofs.Serves.kept-more, proofs.Commanding.answered-more, proofs.Calling.most_calls-append, proofs.Calling.most_calls-front, proofs.Scripts.IsPart-entry}

-- ---- what is held is posted at the end

module _ (shape : Shape) (terms : Terms) (start : Map) (a b c : BoardState) (d e : Sight) (held : List ℕ) (input : c.input ≡ b.input) (in_faults : c.in_faults ≡ b.in_faults) where
  closed : (part : List ℕ) → Flushed b c d e held → Finished shape terms start a b d held part → Finished shape terms start a c e [] part
  closed part flushed f = record {
    all = f.all;
    m = f.m;
    bytes = f.bytes;
    few = f.few;
    serving = flushed shape terms start a [] f.all f.m (rw append-nil f.serving);
    input = f.input ∙ ap (put_back (f.bytes ++ part)) (sym input);
    spells = f.spells;
  }

  pub Finish-closed : (end : End) → Flushed b c d e held → is_worn c ≡ is_worn b → (IsFault end → ⊥) → Finish shape terms start a b d held end → Finish shape terms start a c e [] end
  unfolding closed
  Finish-closed Done flushed worn sound f = record { finished = closed [] flushed f.finished; at_end = subst AtEnd (sym input) f.at_end; same = in_faults ∙ f.same }
  Finish-closed Truncated flushed worn sound f = record {
    part = f.part;
    some = f.some;
    is_part = f.is_part;
    finished = closed f.part flushed f.finished;
    goes_on = (f.goes_on.0, worn ∙ f.goes_on.1);
    at_end = subst AtEnd (sym input) f.at_end;
    same = in_faults ∙ f.same;
  }
  Finish-closed Input flushed worn sound f = record {
    part = f.part;
    is_part = f.is_part;
    finished = closed f.part flushed f.finished;
    goes_on = λ z. ((f.goes_on z).0, worn ∙ (f.goes_on z).1);
    rose = rw in_faults f.rose;
  }
  Finish-closed Worn flushed worn sound f = record {
    part = f.part;
    some = f.some;
    finished = closed f.part flushed f.finished;
    cause = elim f.cause [ inl full ↦ inl full | inr is ↦ inr (worn ∙ is) ];
    same = in_faults ∙ f.same;
  }
  Finish-closed end flushed worn sound f = absurd (sound tt)

  broken : (part : List ℕ) (fault : End) → ServingBroken b c d held fault → Finished shape terms start a b d held part → Failed shape terms start a c fault
  broken part fault breaks f =
      let r = breaks shape terms start a [] f.all f.m (rw append-nil f.serving) in
      record {
        cs = commands f.all;
        bytes = f.bytes;
        part = part;
        cutoff = r.0;
        input = f.input ∙ ap (put_back (f.bytes ++ part)) (sym input);
        spells = f.spells;
        cause = r.1;
      }

  as_finish : (fault : End) → Failed shape terms start a c fault → Finish shape terms start a c e [] fault
  as_finish Output f = f
  as_finish Flash f = f
  as_finish fault f = absurd f.cause

  pub Finish-broken : (end fault : End) → ServingBroken b c d held fault → (IsFault end → ⊥) → Finish shape terms start a b d held end → Finish shape terms start a c e [] fault
  Finish-broken Done fault breaks sound f = as_finish fault (broken [] fault breaks f.finished)
  Finish-broken Output fault breaks sound f = absurd (sound tt)
  Finish-broken Flash fault breaks sound f = absurd (sound tt)
  Finish-broken end fault breaks sound f = as_finish fault (broken f.part fault breaks f.finished)

pub no_fault : (end : End) → (end ≡ Output → ⊥) → (end ≡ Flash → ⊥) → IsFault end → ⊥
no_fault Output p q f = p refl
no_fault Flash p q f = q refl
no_fault end p q f = f

-- after a fault nothing is said of what is held
pub Runs-fault : (a b : BoardState) (before after : Sight) (held : List ℕ) (end : End) → IsFault end → Runs a b before after held end → Runs a b before after [] end
Runs-fault a b before after held Output f r = record { consumes = r.consumes; ends = r.ends; blames = r.blames }
Runs-fault a b before after held Flash f r = record { consumes = r.consumes; ends = r.ends; blames = r.blames }
Runs-fault a b before after held end f r = absurd f

-- ---- what is said of the whole

pub front_none : (xs ys : List ℕ) → xs ++ ys ≡ [] → xs ≡ []
front_none [] ys e = refl
front_none (x ∷ xs) ys e = cc

-- an input that is recorded
pub told : (o : Option (List ℕ)) (xs input : List ℕ) → Some input ≡ put_back xs o → (left : List ℕ) × (o ≡ Some left) × (input ≡ xs ++ left)
told None xs input e = absurd (let h : Some input ≡ None = e in cc)
told (Some left) xs input e = (left, refl, (let h : Some input ≡ Some (xs ++ left) = e in cc))

pub script_is : (bytes part left input : List ℕ) (cs : List Command) → Spells bytes cs → input ≡ (bytes ++ part) ++ left → script input ≡ script_after cs (script (part ++ left))
script_is bytes part left input cs spells e = ap script (e ∙ append_assoc bytes part left) ∙ spells (part ++ left)

pub script_none : script [] ≡ ([], [])
script_none = IsPart-entry [] (omega arith)

-- these commands and these bytes
pub script_of : (cs : List Command) (part rest : List ℕ) (s : List Command × List ℕ) → s ≡ script_after cs (script rest) → rest ≡ part → IsPart part → s ≡ (cs, part)
script_of cs part rest s e same is = e ∙ (ap (λ r. script_after cs (script r)) same ∙ (ap (script_after cs) is ∙ ap (λ l. (l, part)) (append-nil cs)))

-- an input that is recorded and taken to its end
pub script_read : (told_input left : Option (List ℕ)) (input bytes part : List ℕ) (cs : List Command) → told_input ≡ Some input → told_input ≡ put_back (bytes ++ part) left → AtEnd left
    → Spells bytes cs → IsPart part → script input ≡ (cs, part)
script_read told_input left input bytes part cs is e at_end spells is_part =
    let i = told left (bytes ++ part) input (sym is ∙ e) in
    script_of cs part (part ++ i.0) (script input) (script_is bytes part i.0 input cs spells i.2) (ap (λ l. part ++ l) (subst AtEnd i.1 at_end) ∙ append-nil part) is_part

-- these bytes are these commands
pub script_whole : (bytes : List ℕ) (cs : List Command) → Spells bytes cs → script bytes ≡ (cs, [])
script_whole bytes cs spells = ap script (sym (append-nil bytes)) ∙ script_of cs [] [] (script (bytes ++ [])) (spells []) refl script_none

module _ (shape : Shape) (terms : Terms) (start : Map) (a b : BoardState) (d : Sight) where
  -- as many exchanges as commands
  pub size_of : (part : List ℕ) (f : Finished shape terms start a b d [] part) → length (commands f.all) ≡ length f.all
  size_of part f = length-map f.all (λ (x : Exchange). x.command)

  -- what was served
  served_of : (part : List ℕ) (f : Finished shape terms start a b d [] part) → d.pending ≡ [] → Served shape terms start a b (commands f.all)
  served_of part f none =
      let w = f.serving in
      record {
        served = f.all;
        are = refl;
        left = f.m;
        ran = w.ran;
        posted = w.run.posted ∙ ap (longer a.posted) (sym (append-nil (all_posted w.marks)) ∙ w.records_are);
        holds = rw none at w.stands.map_is;
        few_faults = w.few_faults;
        metered = w.metered;
        few_calls = (let so_far = w.few_calls in omega (arith, so_far));
        no_faults = w.no_faults;
        few = omega (arith, f.few, size_of part f);
      }

  served_as : (cs ds : List Command) → cs ≡ ds → Served shape terms start a b cs → Served shape terms start a b ds
  served_as cs ds e h = subst (λ l. Served shape terms start a b l) e h

  module _ (input : List ℕ) (is : a.input ≡ Some input) where
    -- the input that was taken, and what remains
    input_of : (xs : List ℕ) → a.input ≡ put_back xs b.input → (left : List ℕ) × (b.input ≡ Some left) × (input ≡ xs ++ left)
    input_of xs e = told b.input xs input (sym is ∙ e)

    -- the script begins with these commands
    begins : (cs : List Command) (bytes part : List ℕ) → Spells bytes cs → a.input ≡ put_back (bytes ++ part) b.input → (more : List Command) × ((script input).0 ≡ cs ++ more)
    begins cs bytes part spells e = let i = input_of (bytes ++ part) e in ((script (part ++ i.0)).0, ap (λ r. r.0) (script_is bytes part i.0 input cs spells i.2))

    -- what was answered of these commands is so of the script
    answered_script : (cs : List Command) (bytes part : List ℕ) → Spells bytes cs → a.input ≡ put_back (bytes ++ part) b.input
        → Answered shape terms start a b cs → Answered shape terms start a b (script input).0
    answered_script cs bytes part spells e answered =
        let s = begins cs bytes part spells e in
        subst (λ l. Answered shape terms start a b l) (sym s.1) (answered-more shape terms start a b cs s.0 answered)

    pub served_by : (end : End) → IsFault end ⊎ (d.pending ≡ []) → Finish shape terms start a b d [] end → ServedBy shape terms start a b input end
    served_by Output p x = (x.cause, answered_script x.cs x.bytes x.part x.spells x.input x.cutoff.answered)
    served_by Flash p x = (x.cause, answered_script x.cs x.bytes x.part x.spells x.input x.cutoff.answered)
    served_by end (inl f) x = absurd f
    served_by Done (inr none) x =
        let f = x.finished in
        let e = script_read a.input b.input input f.bytes [] (commands f.all) is f.input x.at_end f.spells script_none in
        (e ∙ (λ k. ((sym e k).0, [])), served_as (commands f.all) (script input).0 (sym (ap (λ s. s.0) e)) (served_of [] f none), x.at_end, x.same)
    served_by Truncated (inr none) x =
        let f = x.finished in
        let e = script_read a.input b.input input f.bytes x.part (commands f.all) is f.input x.at_end f.spells x.is_part in (
          λ z. x.some (sym (ap (λ s. s.1) e) ∙ z),
          (omega (arith, x.goes_on.0, ap (λ s. length s.0) e, size_of x.part f), x.goes_on.1),
          served_as (commands f.all) (script input).0 (sym (ap (λ s. s.0) e)) (served_of x.part f none),
          x.at_end,
          x.same,
        )
    served_by Input (inr none) x =
        let f = x.finished in
        let i = input_of (f.bytes ++ x.part) f.input in
        let e : script (f.bytes ++ x.part) ≡ (commands f.all, x.part) = script_of (commands f.all) x.part x.part (script (f.bytes ++ x.part)) (f.spells x.part) refl x.is_part in (
          f.bytes ++ x.part,
          i.0,
          i.1,
          i.2,
          served_as (commands f.all) (script (f.bytes ++ x.part)).0 (sym (ap (λ s. s.0) e)) (served_of x.part f none),
          (λ z. (let r = x.goes_on (λ none_left. z (ap (λ s. s.1) e ∙ none_left)) in (omega (arith, r.0, ap (λ s. length s.0) e, size_of x.part f), r.1))),
          x.rose,
        )
    served_by Worn (inr none) x =
        let f = x.finished in
        let i = input_of (f.bytes ++ x.part) f.input in
        let e : script f.bytes ≡ (commands f.all, []) = script_whole f.bytes (commands f.all) f.spells in
        let more : x.part ++ i.0 ≢ [] = λ z. x.some (front_none x.part i.0 z) in (
          f.bytes,
          x.part ++ i.0,
          i.2 ∙ append_assoc f.bytes x.part i.0,
          more,
          e ∙ (λ k. ((sym e k).0, [])),
          served_as (commands f.all) (script f.bytes).0 (sym (ap (λ s. s.0) e)) (served_of x.part f none),
          elim x.cause [ inl full ↦ inl (ap (λ s. length s.0) e ∙ (size_of x.part f ∙ full)) | inr worn ↦ inr worn ],
          x.same,
        )

    -- a run of these commands is one of the script
    went_script : (cs : List Command) (bytes part : List ℕ) → Spells bytes cs → a.input ≡ put_back (bytes ++ part) b.input
        → Goes shape a b (KeptAt shape terms start cs (rise a.read_faults b.read_faults)) → Goes shape a b (KeptAt shape terms start (script input).0 (rise a.read_faults b.read_faults))
    went_script cs bytes part spells e went =
        let s = begins cs bytes part spells e in
        subst (λ l. Goes shape a b (KeptAt shape terms start l (rise a.read_faults b.read_faults))) (sym s.1)
        (goes_as shape a b (kept-more shape terms start cs s.0 (rise a.read_faults b.read_faults) (rise a.read_faults b.read_faults) (λ k h. h)) went)

  -- all commands, with the bytes that they and the last part have
  pub record Trail : Type 0 where
    pub cs : List Command
    pub bytes : List ℕ
    pub part : List ℕ
    pub spells : Spells bytes cs
    pub input : a.input ≡ put_back (bytes ++ part) b.input
    pub went : Goes shape a b (KeptAt shape terms start cs (rise a.read_faults b.read_faults))
    pub few_calls : calls_of b ≤ calls_of a + most_calls_of_all shape cs

  trail_finished : (part : List ℕ) → Finished shape terms start a b d [] part → Trail
  trail_finished part f = record {
    cs = commands f.all;
    bytes = f.bytes;
    part = part;
    spells = f.spells;
    input = f.input;
    went = Goes-reaches shape a b (KeptAt shape terms start (commands f.all) (rise a.read_faults b.read_faults)) (f.serving.marks, f.serving.run, f.serving.grows);
    few_calls = (let so_far = f.serving.few_calls in omega (arith, so_far));
  }

  trail_failed : (end : End) → Failed shape terms start a b end → Trail
  trail_failed end f =
      let h = f.cutoff.answered in
      let within : calls_of b ≤ calls_of a + most_calls_of_all shape (commands h.served ++ h.unserved) = omega (arith, h.few_calls, most_calls-front shape (commands h.served) h.unserved) in
      record { cs = f.cs; bytes = f.bytes; part = f.part; spells = f.spells; input = f.input; went = f.cutoff.went; few_calls = rw h.from_front at within }

  pub trail_of : (end : End) → Finish shape terms start a b d [] end → Trail
  trail_of Done x = trail_finished [] x.finished
  trail_of Output x = trail_failed Output x
  trail_of Flash x = trail_failed Flash x
  trail_of end x = trail_finished x.part x.finished

module _ (a b : BoardState) (before after : Sight) (end : End) (h : Ends a b before after [] end) where
  pub keeps_script : KeepsScript a b before
  keeps_script shape terms start stands none input is =
      let g = trail_of shape terms start a b after end (h shape terms start stands none) in
      went_script shape terms start a b after input is g.cs g.bytes g.part g.spells g.input g.went

  pub keeps_some : KeepsSome a b before
  keeps_some shape terms start stands none =
      let g = trail_of shape terms start a b after end (h shape terms start stands none) in (g.cs, g.went)

  pub calls_within : CallsWithin a b before
  calls_within shape terms start stands none input is =
      let g = trail_of shape terms start a b after end (h shape terms start stands none) in
      let s = begins shape terms start a b after input is g.cs g.bytes g.part g.spells g.input in
      omega (arith, g.few_calls, most_calls-append shape g.cs s.0, ap (most_calls_of_all shape) s.1)

  pub answers_all : IsFault end ⊎ (after.pending ≡ []) → Answers a b before end
  answers_all closed shape terms start stands none input is = served_by shape terms start a b after input is end closed (h shape terms start stands none)

-- if it is no fault, nothing is pending
pub none_left : (end : End) (None_pending Agrees : Type 0) → IsFault end ⊎ (None_pending × Agrees) → IsFault end ⊎ None_pending
none_left end None_pending Agrees (inl fault) = inl fault
none_left end None_pending Agrees (inr ok) = inr ok.0

-- what was served, whether the input is recorded or not
served_some : (shape : Shape) (terms : Terms) (start : Map) (a b : BoardState) (d : Sight) (end : End) → IsFault end ⊎ (d.pending ≡ []) → Finish shape terms start a b d [] end
    → ServedSome shape terms start a b end
served_some shape terms start a b d Done (inr none) x = (commands x.finished.all, served_of shape terms start a b d [] x.finished none, x.same)
served_some shape terms start a b d Truncated (inr none) x =
    (commands x.finished.all, (omega (arith, x.goes_on.0, size_of shape terms start a b d x.part x.finished), x.goes_on.1), served_of shape terms start a b d x.part x.finished none, x.same)
served_some shape terms start a b d Input (inr none) x = (commands x.finished.all, served_of shape terms start a b d x.part x.finished none, x.rose)
served_some shape terms start a b d Worn (inr none) x =
    let n = size_of shape terms start a b d x.part x.finished in
    (commands x.finished.all, served_of shape terms start a b d x.part x.finished none, elim x.cause [ inl full ↦ inl (n ∙ full) | inr worn ↦ inr worn ], x.same)
served_some shape terms start a b d Output closed x = (x.cs, x.cutoff.answered, x.cause)
served_some shape terms start a b d Flash closed x = (x.cs, x.cutoff.answered, x.cause)
served_some shape terms start a b d end (inl f) x = absurd f

pub causes_all : (a b : BoardState) (before after : Sight) (end : End) → Ends a b before after [] end → IsFault end ⊎ (after.pending ≡ []) → Causes a b before end
causes_all a b before after end h closed shape terms start stands none = served_some shape terms start a b after end closed (h shape terms start stands none)
