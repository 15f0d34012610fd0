-- What comes of a Retrieve or a List of a pair, from whose answer it is.
use Rattle.std.proofs.Common.{◌≡◌, ◌==◌, inl, inr, ℕ, ◌≤◌, List, [], length, Bool, true, false, ◌||◌, if◌then◌else◌, nat_lt, Some, Result, Ok, Err, IfOk, IfErr, OnOk, refl, sym, ap, subst, ◌∙◌}
use Rattle.std.proofs.lemmas.Bool.{eqb-true, eq-eqb}
use Rattle.pk_base.{specs.Key.Key, specs.Key.IsKey, specs.Key.bytes_of, specs.Map.Map}
use Rattle.pk_nvme.{specs.Command.Command, specs.Reply.Reply, specs.Opcode.op_of, specs.declared.opcode.Opcode.Opcode, specs.declared.status.TheConstants.UNRECOVERED_ERROR}
use Rattle.pk_nand.specs.Calls.{Rose}
use Rattle.pk_model.specs.Answer.{refused, effect}
use Rattle.pk_host.{specs.declared.types.HostError.HostError, specs.declared.types.HostError.TheVariants.Refused as HostRefused, specs.declared.types.HostError.TheVariants.Port as HostPort}
use Rattle.pk_host.{specs.Port.PortState, specs.Port.Replies, specs.Port.Took, specs.Calls.retrieve_of, specs.Listing.listed_by, proofs.CauseLemmas.retrieve_cause, proofs.CauseLemmas.list_cause}
use Rattle.pk_host.{specs.Outcomes.Gives, specs.Outcomes.AtMostOne, specs.Outcomes.IsCause as IsHostCause, specs.Outcomes.list_of, specs.Outcomes.retrieved, proofs.PageLemmas.map_after_same}
use Rattle.pk_mirror.{specs.declared.error.Side.Side, specs.declared.error.Side.TheVariants.First, specs.declared.error.Side.TheVariants.Second, specs.declared.error.MirrorError.MirrorError}
use Rattle.pk_mirror.specs.declared.error.MirrorError.TheVariants.{Refused, Port, Split}
use Rattle.pk_mirror.specs.Causes.{Decides, is_port, port_failed, is_unanswered, unanswered, IsCause, IsReadError, HasFailed, BothFailed}
use Rattle.pk_mirror.proofs.ReplyLemmas.{Tells, retrieved_tells, listed_tells}
use Rattle.pk_mirror.proofs.PairLemmas.{by_map, still_pair, one_leaves, ok_never, err_by, err_never}
use Rattle.pk_mirror.proofs.WriteLemmas.{refused_or_port, by_side, refused_by, refused_is, never_split, true_false}
use Rattle.pk_mirror.{specs.Pair.Mirrored, specs.Pair.IsPair, specs.Asks.SecondAnswers, specs.Asks.Asks, specs.Asks.StaysUnlessPort, specs.Asks.KeepsMaps}

-- ---- a command that leaves the map

pub one_keeps : (old new : PortState) (c : Command) (k : Opcode) (cs : List Command) → op_of c.opcode ≡ Some k
    → ((m : Map) → effect m c (Some k) ≡ m) → AtMostOne c cs → Took old new cs → new.map ≡ old.map
one_keeps old new c k cs is stays one t = by_map old.map (new.map ≡ old.map)
    (λ none. t.untold none ∙ sym none)
    (λ m told. elim (one_leaves old new c cs one t m told) as (λ x. new.map ≡ old.map) [
      | inl same ↦ same ∙ sym told
      | inr after ↦ after ∙ ap (λ (n : Map). Some n) (map_after_same old.shape old.limit m c k is (stays m)) ∙ sym told
    ])

-- ---- a refusal reports a failed read

-- if the map is known
abbrev pub OnlyUnread : {X : Type 0} → Command → (Reply → Result X HostError) → Type 0
OnlyUnread {X} c of = (old new : PortState) (a : Reply) (e : HostError) → Replies old new c a → of a ≡ Err e → (m : Map) → old.map ≡ Some m → a.status ≡ UNRECOVERED_ERROR

pub retrieve_unread : (key : Key) (size : ℕ) → IsKey key → OnlyUnread (retrieve_of key size) retrieved
retrieve_unread key size is old new a e r err m told =
    let cause = retrieve_cause old new key size e is (inl (a, r, sym err)) in
    let h = subst (λ (x : HostError). IsHostCause old new retrieved x) (retrieved_tells.refusal a e err).0 cause in h.told m told

pub list_unread : (from : Key) (page : List Key) → length (bytes_of from) ≤ 16 → OnlyUnread (list_of from) (listed_by page)
list_unread from page short old new a e r err m told =
    let tells = listed_tells page in
    let cause = list_cause old new from page e short (inl (a, r, sym err)) in
    let h = subst (λ (x : HostError). IsHostCause old new (listed_by []) x) (tells.refusal a e err).0 cause in h.told m told

-- a page says nothing of a failure
pub other_page : (old new : PortState) (c : Command) (page other : List Key) (e : HostError) → Gives old new c (listed_by page) (Err e) → Gives old new c (listed_by other) (Err e)
other_page old new c page other e (inl (a, r, h)) =
    let tells = listed_tells page in
    let both = tells.refusal a e (sym h) in
    inl (a, r, ap (λ (x : HostError). Err x) both.0 ∙ sym (ap (λ b. if b then Ok (nat_lt 0 (length other)) else Err (HostRefused a.status)) both.1))
other_page old new c page other e (inr fault) = inr fault

-- ---- both drives

-- what a call that asks says of the pair
pub record Asked {X : Type 0} (old new : Mirrored) (p p' q q' : PortState) (c : Command) (result : Result X MirrorError) : Type 1 where
  pub pair : IsPair new p' q'
  pub split : (old.split ≡ true → result ≡ Err Split) × (result ≡ Err Split → old.split ≡ true)
  pub stays : old.split ≡ false → StaysUnlessPort new p p' q q'
  pub keeps : KeepsMaps p p' q q'
  pub causes : IfErr result (λ e. (e ≡ Split → ⊥) → IsCause p p' q q' e)
  pub unread : (m : Map) → p.map ≡ Some m → IfErr result IsReadError
  pub both_failed : (m : Map) → p.map ≡ Some m → IfErr result (λ e. BothFailed p p' q q' e)
  -- in step, both maps are one
  pub ok : (F : X → Type 0) → (p.map ≡ q.map → IfOk result F) → IfOk result F
  pub on : (F : Type 0) → (p.map ≡ q.map → OnOk result F) → OnOk result F

module _ {X : Type 0} (old new : Mirrored) (p p' q q' : PortState) (c : Command) (k : Opcode) (of : Reply → Result X HostError) (result : Result X MirrorError)
    (tells : Tells of) (is : op_of c.opcode ≡ Some k) (stays : (m : Map) → effect m c (Some k) ≡ m) (unread : OnlyUnread c of)
    (pair : IsPair old p q) (cs ds : List Command) (one : AtMostOne c cs) (two : AtMostOne c ds) (t : Took p p' cs) (u : Took q q' ds) (w : Asks old new p p' q q' c of result) where
  first_stays : p'.map ≡ p.map
  first_stays = one_keeps p p' c k cs is stays one t

  second_stays : q'.map ≡ q.map
  second_stays = one_keeps q q' c k ds is stays two u

  was_in_step : new.split ≡ false → old.split ≡ false
  was_in_step off = elim w [
    | inl s ↦ sym (ap (λ (x : Mirrored). x.split) s.same) ∙ off
    | inr (inl f) ↦ f.in_step
    | inr (inr s) ↦ s.in_step
  ]

  same_mirror_shape : new.shape ≡ old.shape
  same_mirror_shape = elim w [
    | inl s ↦ ap (λ (x : Mirrored). x.shape) s.same
    | inr (inl f) ↦ ap (λ (x : Mirrored). x.shape) f.same
    | inr (inr s) ↦ ap (λ (x : Mirrored). x.shape) s.splits
  ]

  or_false : (a b : Bool) → a ≡ false → b ≡ false → (a || b) ≡ false
  or_false a b e f = ap (λ x. x || b) e ∙ f

  by_second : (s : SecondAnswers old new p p' q q' c of result) → is_port s.error ≡ false
      → (answer : Result X HostError) → s.answer ≡ answer → Gives q q' c of answer → StaysUnlessPort new p p' q q'
  by_second s off (Ok x) is g = inl (ap (λ (x : Mirrored). x.split) s.splits ∙ or_false (is_port s.error) (port_failed s.answer) off (ap (port_failed {X = X}) is))
  by_second s off (Err error) is g = refused_or_port of tells q q' c error (StaysUnlessPort new p p' q q') g
      (λ a r e same fails. inl (ap (λ (x : Mirrored). x.split) s.splits ∙ or_false (is_port s.error) (port_failed s.answer) off (ap (port_failed {X = X}) is ∙ refused_is error a.status same)))
      (λ same rose. inr (inr rose))

  -- ---- why there is no answer

  -- an error of a side, by its cause
  by_cause : (F : MirrorError → Type 0) (side : Side) (drive drive' : PortState) (answer : Result X HostError) → Gives drive drive' c of answer → Decides side answer result
      → ((a : Reply) → Replies drive drive' c a → ((error : HostError) → answer ≡ Err error → of a ≡ Err error)
      → (a.status == 0) ≡ false → answer ≡ Err (HostRefused a.status) → F (Refused side a.status))
      → (Rose drive.port_faults drive'.port_faults → F (Port side)) → IfErr result F
  by_cause F side drive drive' (Ok x) g d refused port = err_never result x F d
  by_cause F side drive drive' (Err error) g d refused port = err_by result d.0 F d.1 (by_side of tells drive drive' c F side error d.0 g d.2
      (λ a r e same fails. refused a r (λ other is. e ∙ is) fails (ap (λ (x : HostError). Err x) same)) port)

  -- the first never decides on a failed read
  no_first : (answer : Result X HostError) (a : Reply) → unanswered answer ≡ false → answer ≡ Err (HostRefused a.status) → a.status ≡ UNRECOVERED_ERROR → ⊥
  no_first answer a off is read =
      let yes_un : unanswered answer ≡ true = ap (unanswered {X = X}) is ∙ eq-eqb a.status UNRECOVERED_ERROR read in let clash : true ≡ false = sym yes_un ∙ off in cc

  no_first_port : (answer : Result X HostError) → unanswered answer ≡ false → answer ≡ Err HostPort → ⊥
  no_first_port answer off is = let clash : true ≡ false = sym (ap (unanswered {X = X}) is) ∙ off in cc

  first_failed : (error : HostError) → Gives p p' c of (Err error) → is_unanswered error ≡ true → HasFailed p p'
  first_failed error g off = refused_or_port of tells p p' c error (HasFailed p p') g
      (λ a r e same fails. inr (r.unread (eqb-true a.status UNRECOVERED_ERROR (sym (ap is_unanswered same) ∙ off))))
      (λ same rose. inl rose)

  first_decides : (answer : Result X HostError) → Gives p p' c of answer → Decides First answer result
      → unanswered answer ≡ false → (m : Map) → p.map ≡ Some m → IfErr result (λ e. BothFailed p p' q q' e)
  first_decides (Ok x) g d off m told = err_never result x (λ e. BothFailed p p' q q' e) d
  first_decides (Err error) g d off m told = absurd (refused_or_port of tells p p' c error ⊥ g
      (λ a r e same fails. no_first (Err error) a off (ap (λ (x : HostError). Err x) same) (unread p p' a error r e m told))
      (λ same rose. no_first_port (Err error) off (ap (λ (x : HostError). Err x) same)))

  pub asked : Asked old new p p' q q' c result
  asked = record {
    pair = still_pair p p' q q' cs ds t u old new pair same_mirror_shape (λ off.
        second_stays ∙ pair.in_step (was_in_step off) ∙ sym first_stays);
    split = elim w [
      | inl s ↦ (λ e. s.answer, λ e. s.split)
      | inr (inl f) ↦ (λ e. true_false old.split e f.in_step, λ e. absurd (never_split First f.answer result f.decides e))
      | inr (inr s) ↦ (λ e. true_false old.split e s.in_step, λ e. absurd (never_split Second s.answer result s.decides e))
    ];
    stays = λ step. elim w [
      | inl s ↦ true_false old.split s.split step
      | inr (inl f) ↦ inl (ap (λ (x : Mirrored). x.split) f.same ∙ step)
      | inr (inr s) ↦ refused_or_port of tells p p' c s.error (StaysUnlessPort new p p' q q') s.gives_first
          (λ a r e same fails. by_second s (refused_is s.error a.status same) s.answer refl s.gives)
          (λ same rose. inr (inl rose))
    ];
    keeps = record { first_keeps = first_stays; second_keeps = second_stays };
    causes = elim w [
      | inl s ↦ err_by result Split (λ e. (e ≡ Split → ⊥) → IsCause p p' q q' e) s.answer (λ off. absurd (off refl))
      | inr (inl f) ↦ by_cause (λ e. (e ≡ Split → ⊥) → IsCause p p' q q' e) First p p' f.answer f.gives f.decides (λ a r e fails is off. refused_by of tells p p' c a r fails) (λ h off. h)
      | inr (inr s) ↦ by_cause (λ e. (e ≡ Split → ⊥) → IsCause p p' q q' e) Second q q' s.answer s.gives s.decides (λ a r e fails is off. refused_by of tells q q' c a r fails) (λ h off. h)
    ];
    unread = λ m told. elim w [
      | inl s ↦ err_by result Split IsReadError s.answer tt
      | inr (inl f) ↦ by_cause IsReadError First p p' f.answer f.gives f.decides (λ a r e fails is. unread p p' a (HostRefused a.status) r (e (HostRefused a.status) is) m told) (λ h. tt)
      | inr (inr s) ↦ by_cause IsReadError Second q q' s.answer s.gives s.decides
          (λ a r e fails is. unread q q' a (HostRefused a.status) r (e (HostRefused a.status) is) m (pair.in_step s.in_step ∙ told)) (λ h. tt)
    ];
    both_failed = λ m told. elim w [
      | inl s ↦ err_by result Split (λ e. BothFailed p p' q q' e) s.answer tt
      | inr (inl f) ↦ first_decides f.answer f.gives f.decides f.answered m told
      | inr (inr s) ↦ by_cause (λ e. BothFailed p p' q q' e) Second q q' s.answer s.gives s.decides
          (λ a r e fails is. (first_failed s.error s.gives_first s.no_answer, inr (r.unread (unread q q' a (HostRefused a.status) r (e (HostRefused a.status) is) m (pair.in_step s.in_step ∙ told)))))
          (λ rose. (first_failed s.error s.gives_first s.no_answer, inl rose))
    ];
    ok = λ F h. elim w [
      | inl s ↦ subst (λ y. IfOk y F) (sym s.answer) tt
      | inr (inl f) ↦ h (sym (pair.in_step f.in_step))
      | inr (inr s) ↦ h (sym (pair.in_step s.in_step))
    ];
    on = λ F h. elim w [
      | inl s ↦ ok_never result Split F s.answer
      | inr (inl f) ↦ h (sym (pair.in_step f.in_step))
      | inr (inr s) ↦ h (sym (pair.in_step s.in_step))
    ];
  }

-- ---- two failures

-- the first's failure and then the second's: the pair is split if a port failed
pub splits_both : (old seen mid later new : Mirrored) (first second : Bool) → old.split ≡ false → seen ≡ old
    → mid ≡ record seen { split = seen.split || first } → later ≡ mid → new ≡ record later { split = later.split || second }
    → new ≡ record old { split = first || second }
splits_both old seen mid later new first second step view one same two =
    let before : mid ≡ record old { split = old.split || first } = one ∙ ap (λ (x : Mirrored). record x { split = x.split || first }) view in
    let whole : new ≡ record old { split = (old.split || first) || second } = two ∙ ap (λ (x : Mirrored). record x { split = x.split || second }) (same ∙ before) in
    whole ∙ ap (λ (b : Bool). record old { split = (b || first) || second }) step

-- the first's failure alone
pub splits_first : (old seen mid : Mirrored) (first : Bool) → old.split ≡ false → seen ≡ old → mid ≡ record seen { split = seen.split || first } → mid ≡ record old { split = first || false }
splits_first old seen mid first step view one =
    one ∙ ap (λ (x : Mirrored). record x { split = x.split || first }) view ∙ ap (λ (b : Bool). record old { split = b || first }) step ∙ ap (λ (b : Bool). record old { split = b }) (with_false first)
  where
    with_false : (b : Bool) → b ≡ (b || false)
    with_false true = refl
    with_false false = refl
