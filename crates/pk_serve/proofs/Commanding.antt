-- One command, from what is held before it to what is held after it.
use Rattle.std.proofs.Common.{◌≡◌, ◌≢◌, inl, inr, refl, ℕ, ◌+◌, ◌≤◌, ◌<◌, List, [], ◌∷◌, ◌++◌, length, sym, ap, ◌∙◌, subst, append-nil, append_assoc, arith}
use Rattle.pk_base.{specs.Shape.Shape, specs.Map.Map}
use Rattle.pk_nvme.{specs.Command.Command, specs.Reply.Reply, specs.Reply.reply_record}
use Rattle.pk_nand.{specs.BoardState.BoardState, specs.BoardState.shape_of, specs.Calls.Rose, specs.Effects.OnlyFlash, proofs.Effects.rose_from}
use Rattle.pk_model.{specs.Run.Exchange, specs.Run.commands, specs.Wear.roots, specs.Crashes.CrashFinds, specs.Crashes.command, specs.Growth.Reaches, specs.Growth.Goes}
use Rattle.pk_model.{specs.Kept.rise, specs.Spaces.Terms}
use Rattle.pk_call.{specs.Sight.Sight, specs.Meter.reads_after, specs.Call.CallReaches, specs.Call.CallGoes, specs.Exec.ExecStands, specs.Exec.most_installs}
use Rattle.pk_call.specs.Calling.{FewCalls, most_calls_of}
use Rattle.pk_serve.specs.Serving.{Serving, Cutoff, Next, ServingBroken, Keeps, CommandServed, CommandStops}
use Rattle.pk_serve.{proofs.Limiting.limits_on, proofs.Limiting.limits_held, proofs.Weakening.goes_as}
use Rattle.pk_serve.{specs.Answered.Answered, specs.declared.end.End.End, specs.declared.end.End.TheVariants.Flash as FlashFailed, proofs.Counting.commands-push}
use Rattle.pk_serve.{proofs.Serves.Serving-exec, proofs.Serves.Cutoff-exec, proofs.Serves.kept-more, proofs.Calling.command_calls, proofs.Calling.most_calls-more}

append-some : (xs ys : List Command) → xs ≢ [] → xs ++ ys ≢ []
append-some [] ys some e = some refl
append-some (x ∷ xs) ys some e = cc

-- more commands were taken
pub answered-more : (shape : Shape) (terms : Terms) (start : Map) (a c : BoardState) (cs more : List Command) → Answered shape terms start a c cs → Answered shape terms start a c (cs ++ more)
answered-more shape terms start a c cs more h = record {
  served = h.served;
  unserved = h.unserved ++ more;
  from_front = sym (append_assoc (commands h.served) h.unserved more) ∙ ap (λ l. l ++ more) h.from_front;
  left = h.left;
  ran = h.ran;
  last = h.last;
  metered = h.metered;
  behind = elim h.behind [ inl same ↦ inl same | inr more_read ↦ inr (more_read.0, more_read.1, append-some h.unserved more more_read.2) ];
  up = h.up;
  few_calls = (let so_far = h.few_calls in let less = most_calls-more shape (commands h.served) h.unserved more in omega (arith, so_far, less));
  posted = h.posted;
  unposted = h.unposted;
  begins = h.begins;
  posted_are = h.posted_are;
}

pub cutoff-more : (shape : Shape) (terms : Terms) (start : Map) (a c : BoardState) (cs more : List Command) → Cutoff shape terms start a c cs → Cutoff shape terms start a c (cs ++ more)
cutoff-more shape terms start a c cs more h = record {
  went = goes_as shape a c (kept-more shape terms start cs more (rise a.read_faults c.read_faults) (rise a.read_faults c.read_faults) (λ k h. h)) h.went;
  answered = answered-more shape terms start a c cs more h.answered;
}

-- what is held, with nothing after it
bare : (shape : Shape) (terms : Terms) (start : Map) (a b : BoardState) (d : Sight) (held : List ℕ) (all : List Exchange) (m : Map)
    → Serving shape terms start a b d held all m → Serving shape terms start a b d (held ++ []) all m
bare shape terms start a b d held all m w = rw append-nil w

-- it fails before the command
pub stops_before : (b c : BoardState) (d : Sight) (held : List ℕ) (taken : ℕ) (end : End) (cmd : Command) → ServingBroken b c d held end → CommandStops b c d held taken end cmd
stops_before b c d held taken end cmd h shape terms start a all m size w =
    let r = h shape terms start a [] all m (bare shape terms start a b d held all m w) in
    (cutoff-more shape terms start a c (commands all) (cmd ∷ []) r.0, r.1)

module _ (b c f : BoardState) (d e : Sight) (held now_held : List ℕ) (taken : ℕ) (cmd : Command) (keeps : Keeps b c d e held now_held) where
  -- the command stops the drive
  pub stops_in : CallGoes c f e (command (limits_on c) cmd) → c.read_faults ≤ f.read_faults → (reads : ℕ) → f.reads ≡ reads_after c.reads reads → Rose c.stop_faults f.stop_faults
      → FewCalls (most_calls_of (shape_of c) cmd.opcode cmd.size) c f → CommandStops b f d held taken FlashFailed cmd
  stops_in went up reads read rose calls shape terms start a all m size w =
      let v = keeps shape terms start a all m w in (
        Cutoff-exec shape terms start a c e now_held all m v f cmd
            (subst (λ (limits : List ℕ). Goes shape c f (CrashFinds shape (command limits cmd) c.pages m)) (limits_held shape terms c e m v.stands) (went shape terms m v.stands)) up reads read
            (command_calls shape c f cmd.opcode cmd.size v.stands.shape_is calls),
        rose_from v.no_faults.stop rose,
      )

  module _ (g : Sight) (rep : Reply) (reads count : ℕ) (one : count ≡ taken + 1)
      (reaches : CallReaches c f e (command (limits_on c) cmd)) (stands : ExecStands c f e g cmd rep reads) (rest : OnlyFlash c f)
      (up : c.read_faults ≤ f.read_faults) (unread : rep.status ≡ 0x88 → Rose c.read_faults f.read_faults) (sound : rep.status ≢ 0x88 → f.read_faults ≡ c.read_faults)
      (no_stop : f.stop_faults ≡ c.stop_faults) (read : f.reads ≡ reads_after c.reads reads)
      (unworn : roots c < 9223372036854775808) (few_roots : roots f ≤ roots c + most_installs cmd.opcode cmd.size)
      (calls : FewCalls (most_calls_of (shape_of c) cmd.opcode cmd.size) c f) where
    executed : (shape : Shape) (terms : Terms) (start : Map) (a : BoardState) (all : List Exchange) (m : Map) → taken ≡ length all → Serving shape terms start a b d held all m
        → Next shape terms start a f g (now_held ++ reply_record count cmd.cid rep reads) all m cmd
    executed shape terms start a all m size w =
        let v = keeps shape terms start a all m w in
        subst (λ n. Next shape terms start a f g (now_held ++ reply_record n cmd.cid rep reads) all m cmd) (omega arith)
        (Serving-exec shape terms start a c e now_held all m v f g cmd rep reads taken size
        (subst (λ (limits : List ℕ). Reaches shape c f (CrashFinds shape (command limits cmd) c.pages m)) (limits_held shape terms c e m v.stands) (reaches shape terms m v.stands))
        (stands shape terms m v.stands) rest up unread sound no_stop read unworn few_roots (command_calls shape c f cmd.opcode cmd.size v.stands.shape_is calls))

    pub serves_all : (h : BoardState) (i : Sight) (last : List ℕ) → Keeps f h g i (now_held ++ reply_record count cmd.cid rep reads) last → CommandServed b h d i held last taken cmd
    serves_all h i last more shape terms start a all m size w =
        let n = executed shape terms start a all m size w in
        record { x = n.x; is = n.is; m = n.m; step = n.step; serving = more shape terms start a (all ++ n.x ∷ []) n.m n.serving }

    pub stops_behind : (h : BoardState) (end : End) → ServingBroken f h g (now_held ++ reply_record count cmd.cid rep reads) end → CommandStops b h d held taken end cmd
    stops_behind h end more shape terms start a all m size w =
        let n = executed shape terms start a all m size w in
        let r = more shape terms start a [] (all ++ n.x ∷ []) n.m (bare shape terms start a f g (now_held ++ reply_record count cmd.cid rep reads) (all ++ n.x ∷ []) n.m n.serving) in
        (subst (λ l. Cutoff shape terms start a h l) (commands-push all n.x ∙ ap (λ c. commands all ++ c ∷ []) n.is) r.0, r.1)
