use Rattle.std.proofs.Common.{◌≡◌, ◌<◌, ◌+◌, ◌∙◌, ap, sym, ℕ, length, pos, map, take, get_or, List, ◌++◌, ◌∷◌, []}
use Rattle.std.proofs.lemmas.List.{map-append, map_more}
use Rattle.gm_value.specs.declared.values.Value.{Value}
use Rattle.gm_value.specs.declared.values.Value.TheVariants.{I32}
use Rattle.gm_columns.specs.Columns.{TypedRow}
use Rattle.gm_graph.specs.Rows.{value_at}
use Rattle.gm_graph.proofs.builds.columns_by_row.Goals as goal

-- one column more
placed-more : (lines : List ℕ) (columns placed : List TypedRow) (i : ℕ) (column new : TypedRow) → i < length columns → column ≡ get_or columns i column → new.values ≡ map (value_at column.values) lines → map (λ c. c.values) placed ≡ map (λ c. map (value_at c.values) lines) (take i columns) → map (λ c. c.values) (placed ++ new ∷ []) ≡ map (λ c. map (value_at c.values) lines) (take (i + 1) columns)
placed-more lines columns placed i column new within read is held =
    let f : TypedRow → List Value = λ c. map (value_at c.values) lines in
    map-append (λ (c : TypedRow). c.values) placed (new ∷ [])
    ∙ (ap (λ l. l ++ new.values ∷ []) held
    ∙ (ap (λ v. map f (take i columns) ++ v ∷ []) (is ∙ ap f read)
    ∙ sym (map_more f columns i column within)))

pub loop-column-preserved : goal.loop-column-preserved
loop-column-preserved c =
    let d : Value = I32 (pos 0) in
    ap (λ (l : List TypedRow). map (λ (row : TypedRow). row.values) l) c.in_ok-push.ensures.items
    ∙ placed-more c.args.lines.now c.args.columns.now c.loop-column.placed.items c.loop-column.column-index c.column-item.result c.in_ok-picked.field-0 c.loop-column-test.true c.column-item.is (c.in_ok-picked.ensures.values d) c.loop-column.invariant
