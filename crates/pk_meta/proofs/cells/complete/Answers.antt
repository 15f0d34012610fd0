use Rattle.std.proofs.Common.{◌≡◌, ◌+◌, ◌-◌, ◌*◌, ◌≤◌, List, ℕ, ◌++◌, length, take, drop, arith, subst, refl, length-append, length-drop}
use Rattle.pk_base.specs.Fields.{zeros}
use Rattle.pk_meta.proofs.CellLemmas.{completed, head_of}
use Rattle.pk_meta.proofs.cells.complete.Goals as goal

pub returns-clause-bytes : goal.returns-clause-bytes
returns-clause-bytes c entries many has =
    let old : List ℕ = c.args.into.now in
    let new : List ℕ = c.put_zeros.new.bytes in
    let level : ℕ = c.args.level in
    let index : ℕ = c.args.index in
    let n : ℕ = c.args.count in
    let head : List ℕ = head_of level index n in
    let least = c.known.ensures.page_least in
    let room : 32 + 32 * n ≤ c.args.shape.now.page_bytes = omega (arith, c.requires.fits, least) in
    let is : c.put_head.new.into ≡ head = c.put_head.ensures in
    let short : length head ≡ 32 = refl in
    let parts = length-append head (drop 32 old) in
    let rest = length-drop 32 old in
    let same : length (head ++ drop 32 old) ≡ length old = omega (arith, parts, short, rest, c.requires.sized, least) in
    let P : List ℕ → Type 0 = λ h.
    (take (length (h ++ drop 32 old)) new ≡ take (32 + 32 * n) (h ++ drop 32 old) ++ zeros (length (h ++ drop 32 old) - (32 + 32 * n))) × (length new ≡ length (h ++ drop 32 old)) in
    let said : P head = subst P is (c.put_zeros.ensures.front, c.put_zeros.ensures.len) in
    let Q : ℕ → Type 0 = λ k. (take k new ≡ take (32 + 32 * n) (head ++ drop 32 old) ++ zeros (k - (32 + 32 * n))) × (length new ≡ k) in
    let own : Q (length old) = subst Q same said in
    completed c.args.shape.now level index n entries old new many c.requires.sized room has short own.0 own.1
