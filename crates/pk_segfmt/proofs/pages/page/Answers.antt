use Rattle.std.proofs.Common.{◌≡◌, ◌-◌, ◌*◌, ◌++◌, ◌<◌, ◌∙◌, ℕ, List, length, take, drop, ap, sym, arith}
use Rattle.pk_base.specs.Fields.{padded}
use Rattle.pk_segfmt.{specs.Stored.page_of, proofs.HeadLemmas.greatest_small, proofs.StoredLemmas.first_page, proofs.StoredLemmas.next_page}
use Rattle.pk_segfmt.proofs.pages.page.Goals as goal

pub overflow_cast-value : goal.overflow_cast-value
overflow_cast-value c = omega (arith, greatest_small c.args.shape.now c.known.ensures)

pub returns-then-i-eq0 : goal.returns-then-i-eq0
returns-then-i-eq0 c =
    let value : List ℕ = c.args.value.now in
    let size : length c.put_head.new.into ≡ c.args.shape.now.page_bytes = c.put_head.ensures.len ∙ c.requires.sized in
    let first : 0 ≡ c.args.i = omega arith in
    let rest : List ℕ = padded (c.args.shape.now.page_bytes - 32) (take (c.args.shape.now.page_bytes - 32) value) in
    c.put_rest.ensures
    ∙ ap (λ (n : ℕ). take 32 c.put_head.new.into ++ padded (n - 32) (take (n - 32) value)) size
    ∙ ap (λ (r : List ℕ). r ++ rest) c.put_head.ensures.front
    ∙ sym (first_page c.args.shape.now c.known.ensures c.args.key.now value c.bytes.ensures.key)
    ∙ ap (page_of c.args.shape.now c.args.key.now value) first

pub returns-else-i-eq0 : goal.returns-else-i-eq0
returns-else-i-eq0 c =
    let value : List ℕ = c.args.value.now in
    let some : 0 < c.args.i = omega arith in
    let all : length c.args.into.now - 0 ≡ c.args.shape.now.page_bytes = omega arith in
    let start : c.args.i * length c.args.into.now - 32 ≡ c.args.i * c.args.shape.now.page_bytes - 32 = ap (λ (p : ℕ). c.args.i * p - 32) c.requires.sized in
    c.put_rest-else-i-eq0.ensures
    ∙ ap (λ (r : List ℕ). padded (length c.args.into.now - 0) (take (length c.args.into.now - 0) r)) c.rest_of.ensures
    ∙ ap (λ (n : ℕ). padded n (take n (drop (c.args.i * length c.args.into.now - 32) value))) all
    ∙ ap (λ (k : ℕ). padded c.args.shape.now.page_bytes (take c.args.shape.now.page_bytes (drop k value))) start
    ∙ sym (next_page c.args.shape.now c.known.ensures c.args.key.now value c.bytes.ensures.key c.args.i some c.requires.within)
