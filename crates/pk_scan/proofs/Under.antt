-- What is found under the newest root, and the map that it makes.
use Rattle.std.proofs.Common.{◌≡◌, ℕ, ◌≤◌, List, [], ◌++◌, length, reverse, refl, sym, ap, ◌∙◌, arith, true, Option, Some, Ok, Err, append-nil}
use Rattle.std.{specs.Prelude.nat_le, proofs.lemmas.Bool.le-leb, specs.List.flat_map, specs.FinMap.from_entries, specs.FinMap.Entries.find}
use Rattle.pk_base.{specs.Key.Key, specs.Key.key_cmp, specs.Shape.Shape, specs.Shape.buffer, specs.Entry.Entry, specs.Entry.Place, specs.Firsts.firsts, specs.Map.Map, specs.Refusal.Refusal}
use Rattle.pk_base.specs.Page.{Flash, page_at}
use Rattle.pk_rootfmt.{specs.Root.Root, specs.Root.named, specs.Newest.newest_root}
use Rattle.pk_model.{specs.RootLimits.root_limits, specs.Found.Found, specs.Found.found_under, specs.Found.entries_in_order, specs.Values.placed, specs.Values.values_of}
use Rattle.pk_model.{specs.Reading.reading, specs.Reading.reading_of, specs.Reading.map_under, proofs.Lookups.find-firsts, proofs.Lookups.flat}
use Rattle.pk_model.proofs.Merges.{first_some, first_some_assoc, find-append_lists, same_placed}
use Rattle.pk_law_steps.specs.Under.{IsUnder, places}

-- ---- the entries that count

-- those of two write buffers and of the runs
pub visible_places : (found : Found) → placed (firsts (firsts (reverse found.newest) ++ (firsts (reverse found.older) ++ flat_map (λ es. es) found.runs))) ≡ places found []
visible_places found =
    same_placed (firsts newest ++ (firsts older ++ deep)) (entries_in_order found []) (λ q. ap flat (left q ∙ sym (right q)))
  where
    newest : List Entry
    newest = reverse found.newest

    older : List Entry
    older = reverse found.older

    deep : List Entry
    deep = flat_map (λ es. es) found.runs

    all_of : Key → Option (Option Place)
    all_of q = first_some (find key_cmp q newest) (first_some (find key_cmp q older) (find key_cmp q deep))

    left : (q : Key) → find key_cmp q (firsts newest ++ (firsts older ++ deep)) ≡ all_of q
    left q =
        find-append_lists q (firsts newest) (firsts older ++ deep) ∙ ap (λ o. first_some o (find key_cmp q (firsts older ++ deep))) (find-firsts q newest)
        ∙ ap (first_some (find key_cmp q newest)) (find-append_lists q (firsts older) deep ∙ ap (λ o. first_some o (find key_cmp q deep)) (find-firsts q older))

    right : (q : Key) → find key_cmp q (entries_in_order found []) ≡ all_of q
    right q =
        ap (λ (zs : List Entry). find key_cmp q (reverse zs ++ older ++ deep)) (append-nil found.newest)
        ∙ find-append_lists q (newest ++ older) deep ∙ ap (λ o. first_some o (find key_cmp q deep)) (find-append_lists q newest older)
        ∙ first_some_assoc (find key_cmp q newest) (find key_cmp q older) (find key_cmp q deep)

-- ---- the whole reading

module _ (shape : Shape) (flash : Flash) (page : ℕ) (root : Root) (top : newest_root shape (page_at flash) ≡ Some (page, root)) where
  pub found_refuses : (e : Refusal) → found_under shape (page_at flash) root ≡ Err e → reading shape flash [] ≡ Err e
  unfolding reading_of
  found_refuses e found = rw (top, found) refl

  module _ (found : Found) (is : found_under shape (page_at flash) root ≡ Ok found) (room : length (firsts found.newest) ≤ buffer shape) where
    enough : nat_le (length (firsts (found.newest ++ []))) (buffer shape) ≡ true
    enough = le-leb (length (firsts (found.newest ++ []))) (buffer shape) (let same = ap (λ (es : List Entry). length (firsts es)) (append-nil found.newest) in omega (arith, same, room))

    pub values_refuse : (e : Refusal) → values_of shape (page_at flash) (root_limits shape root) (named root) [] (places found []) ≡ Err e → reading shape flash [] ≡ Err e
    unfolding reading_of map_under
    values_refuse e values = rw (top, is, enough, values) refl

    pub stands_under : (vs : List (Key × List ℕ)) → values_of shape (page_at flash) (root_limits shape root) (named root) [] (places found []) ≡ Ok vs → (m : Map) × IsUnder shape flash [] (page, root) found m
    unfolding map_under
    stands_under vs values = (from_entries vs, record { is_top = top; is_found = is; is_map = rw (enough, values) refl })
