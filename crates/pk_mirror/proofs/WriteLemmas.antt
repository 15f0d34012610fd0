-- What comes of a Store or a Delete on both drives, from how each of them answered it.
use Rattle.std.proofs.Common.{◌≡◌, inl, inr, ◌==◌, ℕ, List, [], Bool, true, false, Some, Result, Ok, Err, IfOk, IfErr, OnOk, refl, sym, ap, subst, ◌∙◌, ◌∷◌}
use Rattle.pk_base.{specs.Shape.Shape, specs.Map.Map}
use Rattle.pk_nvme.{specs.Command.Command, specs.Reply.Reply, specs.Opcode.op_of, specs.declared.opcode.Opcode.Opcode, specs.declared.status.TheConstants.UNRECOVERED_ERROR}
use Rattle.pk_nand.specs.Calls.{Rose}
use Rattle.pk_model.{specs.Answer.reply_of, specs.Answer.success, specs.Answer.map_after, specs.Run.Step, specs.Spaces.one_space}
use Rattle.pk_host.{specs.declared.types.HostError.HostError, specs.Port.PortState, specs.Port.Replies, specs.Port.Took, specs.TookLaws.took_none}
use Rattle.pk_host.specs.declared.types.HostError.TheVariants.{Refused as HostRefused, Port as HostPort, Memory}
use Rattle.pk_host.specs.Outcomes.{Gives, AtMostOne, Leaves}
use Rattle.pk_mirror.{specs.declared.error.Side.Side, specs.declared.error.Side.TheVariants.First, specs.declared.error.Side.TheVariants.Second, specs.declared.error.MirrorError.MirrorError}
use Rattle.pk_mirror.specs.declared.error.MirrorError.TheVariants.{Refused, Port, Split}
use Rattle.pk_mirror.specs.Writes.{Writes, Mirrors, SecondRefused, StaysInStep, SecondReadFailed, FirstKept}
use Rattle.pk_mirror.proofs.ReplyLemmas.{Tells, err_same, answer_leaves, refusal_leaves, second_unread}
use Rattle.pk_mirror.proofs.PairLemmas.{by_map, still_pair, one_leaves, ok_by, ok_never, ok_of, if_ok_by, if_ok_never, if_ok_of, err_by, err_never}
use Rattle.pk_mirror.{specs.Pair.Mirrored, specs.Pair.IsPair, specs.Pair.HoldsOneOf, specs.Causes.IsOn, specs.Causes.Decides, specs.Causes.is_port, specs.Causes.RefusedBy, specs.Causes.IsCause}

-- ---- one drive

-- what the error of a side is, if it is a refusal, and if its port failed
pub on_refused : (side : Side) (error : HostError) (status : ℕ) (e : MirrorError) → error ≡ HostRefused status → IsOn side error e → e ≡ Refused side status
on_refused side error status e is on = subst (λ (x : HostError). IsOn side x e) is on

pub on_port : (side : Side) (error : HostError) (e : MirrorError) → error ≡ HostPort → IsOn side error e → e ≡ Port side
on_port side error e is on = subst (λ (x : HostError). IsOn side x e) is on

module _ {X : Type 0} (of : Reply → Result X HostError) (tells : Tells of) (old new : PortState) (c : Command) where
  pub done_leaves : (x : X) → Gives old new c of (Ok x) → (m : Map) → old.map ≡ Some m → new.map ≡ Some (map_after old.shape (old.limit ∷ []) m c)
  done_leaves x (inr fault) m told = absurd (let clash : ◌≡◌ {A = Result X HostError} (Ok x) (Err HostPort) = fault.0 in cc)
  done_leaves x (inl (a, r, e)) m told =
      let s = r.answers m told in s.told ∙ ap (λ (n : Map). Some n) (answer_leaves of old.shape old.limit s.frames m c a s.left x tells (sym e) s.stepped)

  -- a refusal is that of a reply, and a port that failed is none
  pub refused_or_port : (error : HostError) (P : Type 0) → Gives old new c of (Err error)
      → ((a : Reply) → Replies old new c a → of a ≡ Err error → error ≡ HostRefused a.status → (a.status == 0) ≡ false → P)
      → (error ≡ HostPort → Rose old.port_faults new.port_faults → P) → P
  refused_or_port error P (inl (a, r, e)) refused port = let h = tells.refusal a error (sym e) in refused a r (sym e) h.0 h.1
  refused_or_port error P (inr fault) refused port = port (err_same error HostPort fault.0) fault.1

  -- the error of a side, by its cause
  pub by_side : (F : MirrorError → Type 0) (side : Side) (error : HostError) (e : MirrorError) → Gives old new c of (Err error) → IsOn side error e
      → ((a : Reply) → Replies old new c a → of a ≡ Err error → error ≡ HostRefused a.status → (a.status == 0) ≡ false → F (Refused side a.status))
      → (Rose old.port_faults new.port_faults → F (Port side)) → F e
  by_side F side error e g on refused port = refused_or_port error (F e) g
      (λ a r err same fails. subst F (sym (on_refused side error a.status e same on)) (refused a r err same fails))
      (λ same rose. subst F (sym (on_port side error e same on)) (port rose))

  -- which completion decided
  pub refused_by : (a : Reply) → Replies old new c a → (a.status == 0) ≡ false → RefusedBy old new a.status
  refused_by a r off = record { before = []; asked = old; took = took_none old; command = c; reply = a; replies = r; status_is = refl; no_success = off; unread = r.unread }

pub port_is : (error : HostError) → error ≡ HostPort → is_port error ≡ true
port_is error is = ap is_port is

pub refused_is : (error : HostError) (status : ℕ) → error ≡ HostRefused status → is_port error ≡ false
refused_is error status is = ap is_port is

-- no side's error is that the pair is split
pub on_split : (side : Side) (error : HostError) (e : MirrorError) → IsOn side error e → e ≡ Split → ⊥
on_split side (HostRefused status) e on is = let clash : Refused side status ≡ Split = sym on ∙ is in cc
on_split side HostPort e on is = let clash : Port side ≡ Split = sym on ∙ is in cc
on_split side Memory e on is = on

-- nor is that what a side answers
pub never_split : {X : Type 0} (side : Side) (answer : Result X HostError) (result : Result X MirrorError) → Decides side answer result → result ≡ Err Split → ⊥
never_split side (Ok x) result d e = cc
never_split side (Err error) result d e = on_split side error d.0 d.2 (cc d.1)

pub true_false : {A : Type 0} (b : Bool) → b ≡ true → b ≡ false → A
true_false b t f = absurd (let clash : true ≡ false = sym t ∙ f in cc)

-- ---- both drives

-- what a Store or a Delete says of the pair
pub record Wrote {X : Type 0} (old new : Mirrored) (p p' q q' : PortState) (c : Command) (result : Result X MirrorError) : Type 0 where
  pub pair : IsPair new p' q'
  pub split : (old.split ≡ true → result ≡ Err Split) × (result ≡ Err Split → old.split ≡ true)
  pub stays : old.split ≡ false → StaysInStep new p p' q q' result
  pub mirrors : old.split ≡ false → (m : Map) → p.map ≡ Some m → Mirrors p p' q' c result m
  pub causes : IfErr result (λ e. (e ≡ Split → ⊥) → IsCause p p' q q' e)
  pub first_kept : IfErr result (λ e. FirstKept old new p p' q q' e)
  pub second_unread : (m : Map) → p.map ≡ Some m → IfErr result SecondReadFailed
  pub both_leave : (f : Map → Map) → OnOk result (Leaves p p' f) → OnOk result (Leaves p p' f × Leaves p q' f)
  pub each_leaves : (f : X → Map → Map) → IfOk result (λ x. Leaves p p' (f x)) → IfOk result (λ x. Leaves p p' (f x) × Leaves p q' (f x))

module _ {X : Type 0} (old new : Mirrored) (p p' q q' : PortState) (c : Command) (k : Opcode) (of : Reply → Result X HostError) (result : Result X MirrorError)
    (tells : Tells of) (is : op_of c.opcode ≡ Some k) (plain : (shape : Shape) (most frames : ℕ) (m : Map) (own : List ℕ) → reply_of shape most frames m own c (Some k) ≡ success 0 [])
    (pair : IsPair old p q) (cs ds : List Command) (one : AtMostOne c cs) (two : AtMostOne c ds) (t : Took p p' cs) (u : Took q q' ds) (w : Writes old new p p' q q' c of result) where
  after : Map → Map
  after m = map_after p.shape (p.limit ∷ []) m c

  same_shape : q.shape ≡ p.shape
  same_shape = pair.second_shape ∙ sym pair.first_shape

  same_after : (m : Map) → map_after q.shape (q.limit ∷ []) m c ≡ map_after p.shape (p.limit ∷ []) m c
  same_after m = ap (λ (s : Shape). map_after s (q.limit ∷ []) m c) same_shape ∙ ap (λ (n : ℕ). map_after p.shape (n ∷ []) m c) pair.limit

  second_told : old.split ≡ false → (m : Map) → p.map ≡ Some m → q.map ≡ Some m
  second_told step m told = pair.in_step step ∙ told

  -- a refusal leaves the first's map
  first_stays : (error : HostError) → Gives p p' c of (Err error) → is_port error ≡ false → p'.map ≡ p.map
  first_stays error g off = refused_or_port of tells p p' c error (p'.map ≡ p.map) g
      (λ a r e same fails. by_map p.map (p'.map ≡ p.map)
      (λ none. t.untold none ∙ sym none)
      (λ m told. let s = r.answers m told in
      s.told ∙ ap (λ (n : Map). Some n)
      (refusal_leaves p.shape p.limit m c k is s.frames a s.left (λ most frames m own. ap (λ (b : Reply). b.status) (plain p.shape most frames m own)) fails s.stepped)
      ∙ sym told))
      (λ same rose. true_false (is_port error) (port_is error same) off)

  both_done : (x y : X) → old.split ≡ false → Gives p p' c of (Ok x) → Gives q q' c of (Ok y) → (m : Map) → p.map ≡ Some m
      → (p'.map ≡ Some (map_after p.shape (p.limit ∷ []) m c)) × (q'.map ≡ Some (map_after p.shape (p.limit ∷ []) m c))
  both_done x y step g h m told = (
    done_leaves of tells p p' c x g m told,
    done_leaves of tells q q' c y h m (second_told step m told) ∙ ap (λ (n : Map). Some n) (same_after m),
  )

  -- ---- the pair

  in_step_after : new.split ≡ false → q'.map ≡ p'.map
  in_step_after off = elim w [
    | inl s ↦ true_false new.split (ap (λ (x : Mirrored). x.split) s.same ∙ s.split) off
    | inr (inl f) ↦
        ap (λ (x : PortState). x.map) f.same_second ∙ pair.in_step f.in_step ∙ sym (first_stays f.error f.gives (sym (ap (λ (x : Mirrored). x.split) f.splits) ∙ off))
    | inr (inr (inl f)) ↦ true_false new.split (ap (λ (x : Mirrored). x.split) f.splits) off
    | inr (inr (inr b)) ↦ by_map p.map (q'.map ≡ p'.map)
        (λ none. u.untold (pair.in_step b.in_step ∙ none) ∙ sym (t.untold none))
        (λ m told. let both = both_done b.done b.too b.in_step b.gives_first b.gives m told in both.1 ∙ sym both.0)
  ]

  same_mirror_shape : new.shape ≡ old.shape
  same_mirror_shape = elim w [
    | inl s ↦ ap (λ (x : Mirrored). x.shape) s.same
    | inr (inl f) ↦ ap (λ (x : Mirrored). x.shape) f.splits
    | inr (inr (inl f)) ↦ ap (λ (x : Mirrored). x.shape) f.splits
    | inr (inr (inr b)) ↦ ap (λ (x : Mirrored). x.shape) b.same
  ]

  -- ---- the maps

  each_done : old.split ≡ false → (m : Map) → p.map ≡ Some m → OnOk result (p'.map ≡ Some (map_after p.shape (p.limit ∷ []) m c)) × OnOk result (q'.map ≡ Some (map_after p.shape (p.limit ∷ []) m c))
  each_done step m told = elim w [
    | inl s ↦ (ok_never result Split _ s.answer, ok_never result Split _ s.answer)
    | inr (inl f) ↦ (ok_never result f.decides.0 _ f.decides.1, ok_never result f.decides.0 _ f.decides.1)
    | inr (inr (inl f)) ↦ (ok_never result f.decides.0 _ f.decides.1, ok_never result f.decides.0 _ f.decides.1)
    | inr (inr (inr b)) ↦ let h = both_done b.done b.too b.in_step b.gives_first b.gives m told in (ok_by result b.done _ b.answer h.0, ok_by result b.done _ b.answer h.1)
  ]

  -- ---- why it is not done

  caused_by : (F : MirrorError → Type 0) (side : Side) (drive drive' : PortState) (error : HostError) → Gives drive drive' c of (Err error) → Decides {X = X} side (Err error) result
      → ((a : Reply) → Replies drive drive' c a → of a ≡ Err error → error ≡ HostRefused a.status → (a.status == 0) ≡ false → F (Refused side a.status))
      → (Rose drive.port_faults drive'.port_faults → F (Port side)) → IfErr result F
  caused_by F side drive drive' error g d refused port = err_by result d.0 F d.1 (by_side of tells drive drive' c F side error d.0 g d.2 refused port)

  -- the second answers as the first did, but for a failed read
  unread_second : (x : X) (a b : Reply) (error : HostError) → old.split ≡ false → Replies p p' c a
      → of a ≡ Ok x → Replies q q' c b → of b ≡ Err error → (m : Map) → p.map ≡ Some m → b.status ≡ UNRECOVERED_ERROR
  unread_second x a b error step r ok s err m told =
      let f = r.answers m told in
      let g = s.answers m (second_told step m told) in
      let moved : Step p.shape (one_space g.frames p.limit) m c b g.left =
      subst (λ (n : ℕ). Step p.shape (one_space g.frames n) m c b g.left) pair.limit (subst (λ (x : Shape). Step x (one_space g.frames q.limit) m c b g.left) same_shape g.stepped) in
      second_unread p.shape p.limit m c k is of (λ most frames other m own others. plain p.shape most frames m own ∙ sym (plain p.shape most other m others))
      f.frames g.frames a b f.left g.left x error tells ok err f.stepped moved

  -- what the second leaves is what the first leaves
  second_too : (f : Map → Map) → old.split ≡ false → new ≡ old → Leaves p p' f → Leaves p q' f
  second_too f step same h m told = in_step_after (ap (λ (x : Mirrored). x.split) same ∙ step) ∙ h m told

  pub wrote : Wrote old new p p' q q' c result
  wrote = record {
    pair = still_pair p p' q q' cs ds t u old new pair same_mirror_shape in_step_after;
    split = elim w [
      | inl s ↦ (λ e. s.answer, λ e. s.split)
      | inr (inl f) ↦ (λ e. true_false old.split e f.in_step, λ e. absurd (never_split First (Err f.error) result f.decides e))
      | inr (inr (inl f)) ↦ (λ e. true_false old.split e f.in_step, λ e. absurd (never_split Second (Err f.error) result f.decides e))
      | inr (inr (inr b)) ↦ (λ e. true_false old.split e b.in_step, λ e. absurd (let clash : ◌≡◌ {A = Result X MirrorError} (Ok b.done) (Err Split) = sym b.answer ∙ e in cc))
    ];
    stays = λ step. elim w [
      | inl s ↦ true_false old.split s.split step
      | inr (inl f) ↦ refused_or_port of tells p p' c f.error (StaysInStep new p p' q q' result) f.gives
          (λ a r e same fails. inl (ap (λ (x : Mirrored). x.split) f.splits ∙ refused_is f.error a.status same))
          (λ same rose. inr (inl rose))
      | inr (inr (inl f)) ↦ refused_or_port of tells q q' c f.error (StaysInStep new p p' q q' result) f.gives
          (λ a r e same fails. inr (inr (inr (subst (SecondRefused {X = X}) (sym (f.decides.1
          ∙ ap (λ (x : MirrorError). Err x) (on_refused Second f.error a.status f.decides.0 same f.decides.2))) tt))))
          (λ same rose. inr (inr (inl rose)))
      | inr (inr (inr b)) ↦ inl (ap (λ (x : Mirrored). x.split) b.same ∙ step)
    ];
    mirrors = λ step m told. record {
      twins = record {
        first_holds = one_leaves p p' c cs one t m told;
        second_holds = subst (λ (n : Map). HoldsOneOf m n q') (same_after m) (one_leaves q q' c ds two u m (second_told step m told));
      };
      first_done = (each_done step m told).0;
      second_done = (each_done step m told).1;
    };
    causes = elim w [
      | inl s ↦ err_by result Split (λ e. (e ≡ Split → ⊥) → IsCause p p' q q' e) s.answer (λ off. absurd (off refl))
      | inr (inl f) ↦ caused_by (λ e. (e ≡ Split → ⊥) → IsCause p p' q q' e) First p p' f.error f.gives f.decides (λ a r e same fails off. refused_by of tells p p' c a r fails) (λ rose off. rose)
      | inr (inr (inl f)) ↦ caused_by (λ e. (e ≡ Split → ⊥) → IsCause p p' q q' e) Second q q' f.error f.gives f.decides
          (λ a r e same fails off. refused_by of tells q q' c a r fails) (λ rose off. rose)
      | inr (inr (inr b)) ↦ err_never result b.done (λ e. (e ≡ Split → ⊥) → IsCause p p' q q' e) b.answer
    ];
    first_kept = elim w [
      | inl s ↦ err_by result Split (λ e. FirstKept old new p p' q q' e) s.answer tt
      | inr (inl f) ↦ caused_by (λ e. FirstKept old new p p' q q' e) First p p' f.error f.gives f.decides (λ a r e same fails. (
        f.splits ∙ ap (λ (b : Bool). record old { split = b }) (refused_is f.error a.status same ∙ sym f.in_step),
        first_stays f.error f.gives (refused_is f.error a.status same),
        f.same_second,
      )) (λ rose. tt)
      | inr (inr (inl f)) ↦ caused_by (λ e. FirstKept old new p p' q q' e) Second q q' f.error f.gives f.decides (λ a r e same fails. tt) (λ rose. tt)
      | inr (inr (inr b)) ↦ err_never result b.done (λ e. FirstKept old new p p' q q' e) b.answer
    ];
    second_unread = λ m told. elim w [
      | inl s ↦ err_by result Split SecondReadFailed s.answer tt
      | inr (inl f) ↦ caused_by SecondReadFailed First p p' f.error f.gives f.decides (λ a r e same fails. tt) (λ rose. tt)
      | inr (inr (inl f)) ↦ caused_by SecondReadFailed Second q q' f.error f.gives f.decides
          (λ b s err same fails. elim f.gives_first [
            | inl (a, r, ok) ↦ unread_second f.done a b f.error f.in_step r (sym ok) s err m told
            | inr fault ↦ absurd (let clash : ◌≡◌ {A = Result X HostError} (Ok f.done) (Err HostPort) = fault.0 in cc)
          ]) (λ rose. tt)
      | inr (inr (inr b)) ↦ err_never result b.done SecondReadFailed b.answer
    ];
    both_leave = λ f h. elim w [
      | inl s ↦ ok_never result Split _ s.answer
      | inr (inl e) ↦ ok_never result e.decides.0 _ e.decides.1
      | inr (inr (inl e)) ↦ ok_never result e.decides.0 _ e.decides.1
      | inr (inr (inr b)) ↦ let first = ok_of result b.done _ b.answer h in ok_by result b.done _ b.answer (first, second_too f b.in_step b.same first)
    ];
    each_leaves = λ f h. elim w [
      | inl s ↦ if_ok_never result Split _ s.answer
      | inr (inl e) ↦ if_ok_never result e.decides.0 _ e.decides.1
      | inr (inr (inl e)) ↦ if_ok_never result e.decides.0 _ e.decides.1
      | inr (inr (inr b)) ↦ let first = if_ok_of result b.done (λ x. Leaves p p' (f x)) b.answer h in if_ok_by result b.done
          (λ x. Leaves p p' (f x) × Leaves p q' (f x)) b.answer (first, second_too (f b.done) b.in_step b.same first)
    ];
  }
