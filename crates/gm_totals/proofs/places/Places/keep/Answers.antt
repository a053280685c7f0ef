-- One place more is kept.
use Rattle.std.proofs.Common.{◌≡◌, ◌∙◌, ℕ, ◌<◌, cond, List, [], length, map, get_or, sym, ap, subst, Vec, Global}
use Rattle.std.specs.Prelude.{nat_eq, ◌&&◌}
use Rattle.std.proofs.lemmas.List.{get_or-map, length-map, map-set}
use Rattle.gm_semantics.specs.Stores.{slot_eq}
use Rattle.gm_totals.specs.Places.{row_of, column_of, place_in, place_at}
use Rattle.gm_totals.proofs.Keeping.{same-cells, row-kept}
use Rattle.gm_totals.proofs.places.Places.keep.Goals as goal

-- the cells of a row
abbrev cells : Vec ℕ Global → List ℕ
cells row = row.items

pub returns : goal.returns
returns c =
    let vecs = c.add_rows.new.self.rows.items in
    let rows : List (List ℕ) = map cells vecs in
    let r = c.row_of-row.result in
    let column = c.column_of.result in
    let row = c.keep_in.new.row.items in
    let more : r < length vecs = c.in_ok-add_rows.ensures.enough in
    let within : r < length rows = subst (λ n. r < n) (sym (length-map vecs cells)) more in
    let was : get_or rows r [] ≡ c.index_mut.result.now.items = get_or-map cells vecs r c.index_mut.result.now [] more ∙ sym (ap cells c.index_mut.ensures.value) in
    let kept : (k : ℕ) → place_in row k ≡ cond (nat_eq k column) c.args.place (place_in (get_or rows r []) k) =
    λ k. c.in_ok-keep_in.ensures k ∙ ap (λ l. cond (nat_eq k column) c.args.place (place_in l k)) (sym was) in
    λ q. ap (λ l. place_in (get_or l (row_of q) []) (column_of q)) (map-set cells vecs r c.keep_in.new.row)
    ∙ row-kept rows r column c.args.place row within kept (row_of q) (column_of q)
    ∙ ap (λ b. cond b c.args.place (place_at c.add_rows.new.self q))
    (ap (λ n. nat_eq (row_of q) n && nat_eq (column_of q) column) c.row_of-row.ensures
    ∙ ap (λ n. nat_eq (row_of q) (row_of c.args.slot) && nat_eq (column_of q) n) c.column_of.ensures ∙ sym (same-cells q c.args.slot))
    ∙ ap (cond (slot_eq q c.args.slot) c.args.place) (c.in_ok-add_rows.ensures.same q)
