-- The output of a merge is unchanged while commands are served.
use Rattle.std.proofs.Common.{◌≡◌, ℕ, ◌*◌, ◌/◌, ◌%◌, ◌<◌, slice_index, div-lt_iff_lt-mul, mod-lt, sym, ap, subst, ◌∙◌, arith, true, List, length, map, Ok}
use Rattle.std.proofs.lemmas.Nat.{div-mul-add}
use Rattle.pk_base.{specs.Shape.Shape, specs.Shape.run_pages, specs.Shape.run_blocks, specs.Page.page_at, specs.Page.page_in, specs.Entry.Entry, specs.Firsts.firsts, specs.Merge.next_merge}
use Rattle.pk_base.proofs.ShapeLemmas.{block_pages_positive}
use Rattle.pk_rootfmt.specs.Root.{Root, is_root, named}
use Rattle.pk_model.{specs.Found.Found, specs.Laws.AnyByRecursion, proofs.SamePages.run_same, proofs.Commits.member, proofs.Live.ceil_room, specs.RootLimits.root_spaces}
use Rattle.pk_law_steps.{proofs.Places.In, specs.Merging.MergedStill, specs.Merging.merged_root, specs.Merging.output_of}
use Rattle.pk_meta.specs.Run.{run}

same_output : (level : ℕ) (found then_found : Found) → then_found.older ≡ found.older → then_found.runs ≡ found.runs → output_of level then_found ≡ output_of level found
same_output level found then_found older runs = λ i. output_of level (record { newest = found.newest; older = older i; runs = runs i })

-- a page of the output is in one of its blocks
in_taken : (shape : Shape) (count : ℕ) (taken : List ℕ) → 0 < shape.block_pages → length taken ≡ run_blocks shape count
    → (j : ℕ) → j < run_pages shape count → AnyByRecursion (λ b. page_in shape taken j / shape.block_pages ≡ b) taken
in_taken shape count taken positive size j low =
    let n = shape.block_pages in
    let room = ceil_room (run_pages shape count) n positive in
    let blocks : run_blocks shape count * n ≡ length taken * n = ap (λ x. x * n) (sym size) in
    let small : j / n < length taken = (div-lt_iff_lt-mul positive).1 (omega (arith, low, room, blocks)) in
    subst (λ x. In x taken) (sym (div-mul-add (slice_index taken (j / n)) n (j % n) (mod-lt j positive))) (member taken (j / n) small)

pub merged_still : MergedStill
merged_still shape flash new extra then_extra top then_top found then_found level count taken is_shape is same_top older runs same outside =
    let positive = block_pages_positive shape is_shape in
    let agree : (j : ℕ) → j < run_pages shape count
    → page_at new (page_in shape taken j) ≡ page_at flash (page_in shape taken j) = λ j low. same (page_in shape taken j) (in_taken shape count taken positive is.size j low) in
    let at_root : (P : Root → Type 0) → P top.1 → P then_top.1 = λ P. subst P (sym same_top) in
    record {
      next = (λ i. next_merge shape (length (firsts (older i))) (map (λ es. length es) (runs i))) ∙ is.next;
      stands = run_same shape (page_at flash) (page_at new) (root_spaces shape then_top.1) level count taken agree
          ∙ at_root (λ r. run shape (root_spaces shape r) (page_at flash) level count taken ≡ Ok (output_of level found)) is.stands ∙ ap (λ (es : List Entry). Ok es) (sym (same_output level found then_found older runs));
      size = is.size;
      grammar = at_root (λ r. is_root shape (merged_root r level count taken) ≡ true) is.grammar;
      fresh = λ b here there. is.fresh b here (subst (λ r. In b (named r)) same_top there);
      outside = outside;
    }
