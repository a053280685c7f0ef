use Rattle.std.proofs.Common.{◌≡◌, ◌∙◌, ◌<◌, ◌+◌, [], ap, arith, get_or, length, map, sym, take}
use Rattle.std.proofs.lemmas.List.{length-map, map-set, take-map}
use Rattle.gm_columns.specs.Cells.{values_of}
use Rattle.gm_batch_steps.specs.Parts.{with_part, with_parts}
use Rattle.gm_batch_steps.proofs.LineLaws.{get-map}
use Rattle.gm_batch_steps.proofs.PartLaws.{length-parts, parts-here, parts-more, parts-start}
use Rattle.gm_batch_steps.proofs.steps.store.Goals as goal

pub loop-slot-init : goal.loop-slot-init
loop-slot-init c = parts-start c.args.from (map values_of c.args.fields.now.items)

pub store_part-requires-clause-within : goal.store_part-requires-clause-within
store_part-requires-clause-within c =
    let slot = c.loop-slot.slot in
    let fields = c.loop-slot.fields.items in
    let first = c.args.fields.now.items in
    let wide : length fields ≡ length first =
    sym (length-map fields values_of) ∙ ap length c.loop-slot.invariant
    ∙ length-parts c.args.from (map values_of first) (map values_of (take slot c.args.parts.now)) ∙ length-map first values_of in
    let lt : slot < length first = omega (arith, c.loop-slot-test.true, c.requires.wide) in
    let cells = c.index_mut-cells.result.now in
    let same : values_of cells ≡ values_of (get_or first slot cells) =
    ap values_of c.index_mut-cells.ensures.value
    ∙ sym (get-map values_of fields slot cells [] (omega (arith, wide, lt)))
    ∙ ap (λ l. get_or l slot []) (c.loop-slot.invariant ∙ ap (with_parts c.args.from (map values_of first)) (sym (take-map values_of slot c.args.parts.now)))
    ∙ parts-here c.args.from (map values_of first) (map values_of c.args.parts.now) slot []
    ∙ get-map values_of first slot cells [] lt in
    omega (arith, ap length same, c.requires.within slot cells lt)

pub loop-slot-preserved : goal.loop-slot-preserved
loop-slot-preserved c =
    let slot = c.loop-slot.slot in
    let from = c.args.from in
    let fields = c.loop-slot.fields.items in
    let first = c.args.fields.now.items in
    let parts = c.args.parts.now in
    let wide : length fields ≡ length first =
    sym (length-map fields values_of) ∙ ap length c.loop-slot.invariant
    ∙ length-parts from (map values_of first) (map values_of (take slot parts)) ∙ length-map first values_of in
    let lt : slot < length first = omega (arith, c.loop-slot-test.true, c.requires.wide) in
    let cells = c.index_mut-cells.result.now in
    map-set values_of fields slot c.store_part.new.cells
    ∙ parts-more from (map values_of first) (map values_of fields) (map values_of parts) slot (values_of c.index-parts-slot.result) (values_of c.store_part.new.cells)
    (omega (arith, c.loop-slot-test.true, length-map parts values_of)) (omega (arith, c.requires.wide, length-map parts values_of, length-map first values_of))
    (c.loop-slot.invariant ∙ ap (with_parts from (map values_of first)) (sym (take-map values_of slot parts)))
    (ap values_of c.index-parts-slot.is ∙ sym (get-map values_of parts slot c.index-parts-slot.result [] c.loop-slot-test.true))
    (c.in_ok-store_part.ensures
    ∙ ap (λ xs. with_part from xs (values_of c.index-parts-slot.result))
    (ap values_of c.index_mut-cells.ensures.value ∙ sym (get-map values_of fields slot cells [] (omega (arith, wide, lt)))))
    ∙ ap (with_parts from (map values_of first)) (take-map values_of (slot + 1) parts)
