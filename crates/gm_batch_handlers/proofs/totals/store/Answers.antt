use Rattle.std.proofs.Common.{◌≡◌, ◌∙◌, [], ap, arith, get_or, length, map, refl, set, subst, sym}
use Rattle.std.proofs.lemmas.List.{length-map}
use Rattle.gm_columns.specs.Cells.{values_of}
use Rattle.gm_batch_handlers.specs.Gifts.{held_in}
use Rattle.gm_batch_handlers.proofs.StoreLaws.{IsStoredTo, stored-all, stored-first, storing-step}
use Rattle.gm_batch_handlers.proofs.totals.store.Goals as goal

pub storing-init : goal.storing-init
storing-init c =
    let fields = c.args.fields.now.items in (
      omega (arith, c.requires),
      (
        stored-first (map values_of fields) c.args.totals.items _ (c.requires ∙ sym (length-map fields values_of)),
        (λ k lt. refl),
      ),
    )

pub storing-preserved : goal.storing-preserved
storing-preserved c =
    let at = c.storing in
    let fields = c.args.fields.now.items in
    let now = map values_of at.fields.items in
    let last : c.len.result ≡ length c.pop.new.self.items = omega (arith, c.len.ensures, c.pop.new.self.ok) in
    let next = storing-step (map values_of fields) c.args.totals.items at.totals.items _ c.in-Some.total now _ c.in-Some.ensures.items
    (omega (arith, at.invariant.0, length-map fields values_of)) at.invariant.1.0 at.invariant.1.1
    (c.store_one.ensures ∙ ap (λ k. set now k (held_in (get_or now k []) c.in-Some.total)) last) in
    (omega (arith, next.0, length-map fields values_of), next.1)

pub returns : goal.returns
returns c =
    let at = c.storing in
    let fields = c.args.fields.now.items in
    stored-all (map values_of fields) c.args.totals.items (map values_of at.fields.items) (c.requires ∙ sym (length-map fields values_of))
    (subst (λ n. IsStoredTo (map values_of fields) c.args.totals.items n (map values_of at.fields.items)) (omega (arith, c.in_default.ensures.cases)) at.invariant.1.0)
