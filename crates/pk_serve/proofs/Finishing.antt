-- The record of a command is held, or posted.
use Rattle.std.proofs.Common.{◌≡◌, ℕ, ◌≤◌, List, [], ◌∷◌, ◌++◌, length, take, sym, ◌∙◌, ap, subst, append-nil, append_assoc, length-take-le}
use Rattle.pk_base.{specs.Fields.u32, specs.Shape.Shape, specs.Map.Map}
use Rattle.pk_nvme.specs.Reply.{reply_record, completion}
use Rattle.pk_nand.specs.BoardState.{BoardState}
use Rattle.pk_queue.specs.Queue.{bytes_of}
use Rattle.pk_model.{specs.Run.Exchange, specs.Spaces.Terms}
use Rattle.pk_call.{specs.Sight.Sight, specs.Seen.reply_of, specs.declared.types.Outcome.Outcome}
use Rattle.pk_serve.{specs.Serving.Serving, specs.Serving.Flushed, specs.Serving.ServingBroken, specs.Serving.Posts, specs.Serving.PostBreaks, specs.Serving.Keeps, specs.declared.end.End.End}

pub bytes_of-push : (heads : List (List ℕ)) (head : List ℕ) → bytes_of (heads ++ head ∷ []) ≡ bytes_of heads ++ head
bytes_of-push [] head = append-nil head
bytes_of-push (h ∷ heads) head = ap (λ t. h ++ t) (bytes_of-push heads head) ∙ sym (append_assoc h (bytes_of heads) head)

-- a record is its head and the data
pub record_is : (count cid : ℕ) (o : Outcome) (into entry head : List ℕ) → entry ≡ completion cid count o.status o.result → head ≡ entry ++ u32 o.reads ++ u32 o.data_len → o.data_len ≤ length into
    → reply_record count cid (reply_of o into) o.reads ≡ head ++ take o.data_len into
record_is count cid o into entry head is_entry is_head fits =
    ap (λ n. completion cid count o.status o.result ++ u32 o.reads ++ u32 n ++ take o.data_len into) (length-take-le o.data_len into fits)
    ∙ sym (ap (λ h. h ++ take o.data_len into) is_head ∙ (ap (λ e. (e ++ u32 o.reads ++ u32 o.data_len) ++ take o.data_len into) is_entry
    ∙ (append_assoc (completion cid count o.status o.result) (u32 o.reads ++ u32 o.data_len) (take o.data_len into)
    ∙ ap (λ t. completion cid count o.status o.result ++ t) (append_assoc (u32 o.reads) (u32 o.data_len) (take o.data_len into)))))

-- the record is held
pub keeps_held : (b : BoardState) (d : Sight) (heads now_heads : List (List ℕ)) (head more : List ℕ) → more ≡ []
    → now_heads ≡ heads ++ head ∷ [] → Keeps b b d d (bytes_of heads ++ (head ++ more)) (bytes_of now_heads)
keeps_held b d heads now_heads head more none is shape terms start a all m w =
    rw (is, bytes_of-push) (rw (none, append-nil) at w)

module _ (b c : BoardState) (d e : Sight) (heads head more : List ℕ) where
  -- the commit, or a post of what is held, failed
  pub breaks_held : (end : End) → ServingBroken b c d heads end → ServingBroken b c d (heads ++ (head ++ more)) end
  breaks_held end breaks shape terms start a behind all m w =
      breaks shape terms start a ((head ++ more) ++ behind) all m (rw append_assoc at w)

  module _ (flushed : Flushed b c d e heads) (none : e.pending ≡ []) where
    -- the head and the data are posted too
    pub posts_all : (f g : BoardState) → Posts c f head → Posts f g more → (left : List (List ℕ)) → left ≡ [] → Keeps b g d e (heads ++ (head ++ more)) (bytes_of left)
    posts_all f g p q left empty shape terms start a all m w =
        rw empty (q e none shape terms start a [] all m (rw append-nil (p e none shape terms start a more all m (flushed shape terms start a (head ++ more) all m w))))

    -- what was held is posted
    behind_held : (shape : Shape) (terms : Terms) (start : Map) (a : BoardState) (behind : List ℕ) (all : List Exchange) (m : Map)
        → Serving shape terms start a b d ((heads ++ (head ++ more)) ++ behind) all m → Serving shape terms start a c e (head ++ (more ++ behind)) all m
    behind_held shape terms start a behind all m w =
        rw append_assoc at (flushed shape terms start a ((head ++ more) ++ behind) all m (rw append_assoc at w))

    pub breaks_head : (f : BoardState) (end : End) → PostBreaks c f head end → ServingBroken b f d (heads ++ (head ++ more)) end
    breaks_head f end breaks shape terms start a behind all m w = breaks e none shape terms start a (more ++ behind) all m (behind_held shape terms start a behind all m w)

    pub breaks_data : (f g : BoardState) (end : End) → Posts c f head → PostBreaks f g more end → ServingBroken b g d (heads ++ (head ++ more)) end
    breaks_data f g end p breaks shape terms start a behind all m w =
        breaks e none shape terms start a behind all m (p e none shape terms start a (more ++ behind) all m (behind_held shape terms start a behind all m w))

-- ---- a record, and its head with the data

pub keeps_record : (b c : BoardState) (d e : Sight) (held last reply bytes : List ℕ) → reply ≡ bytes → Keeps b c d e (held ++ bytes) last → Keeps b c d e (held ++ reply) last
keeps_record b c d e held last reply bytes is keeps = subst (λ t. Keeps b c d e (held ++ t) last) (sym is) keeps

pub breaks_record : (b c : BoardState) (d : Sight) (held reply bytes : List ℕ) (end : End) → reply ≡ bytes → ServingBroken b c d (held ++ bytes) end → ServingBroken b c d (held ++ reply) end
breaks_record b c d held reply bytes end is breaks = subst (λ t. ServingBroken b c d (held ++ t) end) (sym is) breaks
