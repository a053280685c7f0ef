use Rattle.std.proofs.Common.{◌≡◌, ◌∙◌, ap, sym, map, pos, false, length, List, ◌<◌, ℕ, get_or, arith}
use Rattle.std.specs.Prelude.{All}
use Rattle.std.proofs.lemmas.List.{length-map}
use Rattle.gm_value.specs.declared.values.Value.{Value}
use Rattle.gm_value.specs.declared.values.Value.TheVariants.{I32, I64, Flag}
use Rattle.gm_columns.specs.Cells.{node_in}
use Rattle.gm_columns.specs.declared.columns.TypedCells.{TypedCells}
use Rattle.gm_columns.specs.TypedRows.{typed_row}
use Rattle.gm_columns.proofs.Picking.{map-picked}
use Rattle.gm_columns.proofs.columns.TypedCells.picked.Goals as goal

abbrev values_at : TypedCells → List Value
values_at cells = (typed_row cells).values

-- the values of some rows, of cells that are made of others
picked-values : {X : Type 0} (f : X → Value) (values : List Value) (cells lent found : List X) (rows : List ℕ) (a : X) (d : Value) → values ≡ map f cells → lent ≡ cells → All (λ row. row < length values) rows → found ≡ map (λ row. get_or lent row a) rows → map f found ≡ map (λ row. get_or values row d) rows
picked-values f values cells lent found rows a d same same_cells within is =
    let few : length values ≡ length cells = ap length same ∙ length-map cells f in
    ap (map f) is ∙ ap (λ l. map f (map (λ row. get_or l row a) rows)) same_cells ∙ map-picked f cells rows a d (λ k e h. let row = within k e h in omega arith)
    ∙ ap (λ l. map (λ row. get_or l row d) rows) (sym same)

pub returns-in_ok-picked-in-Ints-clause-values : goal.returns-in_ok-picked-in-Ints-clause-values
returns-in_ok-picked-in-Ints-clause-values c = λ d. picked-values (λ z. I32 z) _ c.in-Ints.cells.items _ _ _ (pos 0) d (ap values_at c.in-Ints.is) c.deref.ensures.value c.requires (c.in_ok-picked-in-Ints.ensures (pos 0))

pub returns-in_ok-picked-in-Longs-clause-values : goal.returns-in_ok-picked-in-Longs-clause-values
returns-in_ok-picked-in-Longs-clause-values c = λ d. picked-values (λ z. I64 z) _ c.in-Longs.cells.items _ _ _ (pos 0) d (ap values_at c.in-Longs.is) c.deref-in-Longs.ensures.value c.requires (c.in_ok-picked-in-Longs.ensures (pos 0))

pub returns-in_ok-picked-in-Flags-clause-values : goal.returns-in_ok-picked-in-Flags-clause-values
returns-in_ok-picked-in-Flags-clause-values c = λ d. picked-values (λ b. Flag b) _ c.in-Flags.cells.items _ _ _ false d (ap values_at c.in-Flags.is) c.deref-in-Flags.ensures.value c.requires (c.in_ok-picked-in-Flags.ensures false)

pub returns-in_ok-picked-in-Nodes-clause-values : goal.returns-in_ok-picked-in-Nodes-clause-values
returns-in_ok-picked-in-Nodes-clause-values c = λ d. picked-values node_in _ c.in-Nodes.cells.items _ _ _ 0 d (ap values_at c.in-Nodes.is) c.deref-in-Nodes.ensures.value c.requires (c.in_ok-picked-in-Nodes.ensures 0)
