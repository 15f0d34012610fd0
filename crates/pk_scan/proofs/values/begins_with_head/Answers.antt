use Rattle.std.{proofs.Common.sym, proofs.Common.nat_eq, specs.List.starts_with, proofs.lemmas.Bool.eqb-true, proofs.lemmas.Bool.eq-eqb, proofs.lemmas.Bool.false_from_ne_true}
use Rattle.pk_segfmt.{specs.Value.head_bytes, proofs.StoredLemmas.length-head_bytes}
use Rattle.pk_scan.proofs.Heads.{head_told, same_told, same_found, none_found, begun}
use Rattle.pk_scan.proofs.values.begins_with_head.Goals as goal

pub returns-then-found-len : goal.returns-then-found-len
returns-then-found-len c =
    let keys = same_told c.in-Ok.found.key c.args.key.now c.is_same.result c.is_same.ensures in
    head_told c.args.bytes.now c.args.key.now c.in-Ok.found.key c.args.len c.in-Ok.found.len c.is_same.result c.bytes.ensures.key c.in-Ok.ensures.found.1
    (λ e. same_found c.in-Ok.found c.args.key.now c.args.len (c.in-Ok.ensures.only c.args.key.now c.args.len (record { is_key = c.bytes.ensures.key; short = c.requires.short }) e))
    (λ t. (keys.0 t, c.if-found-len.true))
    (λ both. keys.1 both.0)

pub returns-else-found-len : goal.returns-else-found-len
returns-else-found-len c =
    head_told c.args.bytes.now c.args.key.now c.in-Ok.found.key c.args.len c.in-Ok.found.len (nat_eq c.in-Ok.found.len c.args.len) c.bytes.ensures.key c.in-Ok.ensures.found.1
    (λ e. same_found c.in-Ok.found c.args.key.now c.args.len (c.in-Ok.ensures.only c.args.key.now c.args.len (record { is_key = c.bytes.ensures.key; short = c.requires.short }) e))
    (λ t. absurd (c.if-found-len.false (eqb-true c.in-Ok.found.len c.args.len t)))
    (λ both. eq-eqb c.in-Ok.found.len c.args.len both.1)

pub returns-in-Err : goal.returns-in-Err
returns-in-Err c =
    let head = head_bytes c.args.key.now c.args.len in
    sym (false_from_ne_true (starts_with nat_eq c.args.bytes.now head) (λ starts.
    none_found c.in-Err.field-0 _ (c.in-Err.ensures.only c.args.key.now c.args.len (record { is_key = c.bytes.ensures.key; short = c.requires.short })
    (begun c.args.bytes.now head (length-head_bytes c.args.key.now c.args.len c.bytes.ensures.key) starts))))
