-- The node stands at its place among its owner's nodes.
use Rattle.std.proofs.Common.{◌≡◌, ◌∙◌, ℕ, List, [], length, sym, ap, arith}
use Rattle.std.specs.Prelude.{slice_index, slice_index_or}
use Rattle.std.proofs.lemmas.List.{get_or-map}
use Rattle.gm_value.specs.declared.values.Value.{Value}
use Rattle.gm_core.specs.Cores.{owner}
use Rattle.gm_workers.specs.declared.crews.Slot.{Slot}
use Rattle.gm_workers.specs.Dealings.{place_in, place_for}
use Rattle.gm_workers.specs.Crews.{rows_at}
use Rattle.gm_workers.proofs.runs.fields_at.Goals as goal

pub load-requires : goal.load-requires
load-requires c =
    let owners : List ℕ = c.args.crew.now.dealing.owners.items in
    let slots : List Slot = c.args.crew.now.slots.items in
    let slot : Slot = c.index-slot.result.now in
    let worker_is : c.owner_in-worker.result ≡ owner owners c.args.node = c.owner_in-worker.ensures ∙ ap (λ l. slice_index l c.args.node) c.deref.ensures.value in
    let place_is : c.place_at-place.result ≡ place_in owners c.args.node =
    c.place_at-place.ensures ∙ ap (λ w. place_for c.args.crew.now.dealing w c.args.node) worker_is ∙ c.requires.place in
    let rows_is : rows_at slots (owner owners c.args.node) ≡ slot.fields.rows =
    get_or-map (λ (z : Slot). z.fields.rows) slots (owner owners c.args.node) slot [] c.requires.worker
    ∙ ap (λ w. (slice_index_or slots w slot).fields.rows) (sym worker_is)
    ∙ ap (λ (z : Slot). z.fields.rows) (sym c.index-slot.ensures) in
    omega (arith, place_is, ap length rows_is, c.requires.within)

pub returns : goal.returns
returns c =
    let owners : List ℕ = c.args.crew.now.dealing.owners.items in
    let slots : List Slot = c.args.crew.now.slots.items in
    let slot : Slot = c.index-slot.result.now in
    let worker_is : c.owner_in-worker.result ≡ owner owners c.args.node = c.owner_in-worker.ensures ∙ ap (λ l. slice_index l c.args.node) c.deref.ensures.value in
    let place_is : c.place_at-place.result ≡ place_in owners c.args.node =
    c.place_at-place.ensures ∙ ap (λ w. place_for c.args.crew.now.dealing w c.args.node) worker_is ∙ c.requires.place in
    let rows_is : rows_at slots (owner owners c.args.node) ≡ slot.fields.rows =
    get_or-map (λ (z : Slot). z.fields.rows) slots (owner owners c.args.node) slot [] c.requires.worker
    ∙ ap (λ w. (slice_index_or slots w slot).fields.rows) (sym worker_is)
    ∙ ap (λ (z : Slot). z.fields.rows) (sym c.index-slot.ensures) in
    c.in_ok-load.ensures
    ∙ ap (λ k. slice_index_or slot.fields.rows k []) place_is
    ∙ ap (λ (rs : List (List Value)). slice_index_or rs (place_in owners c.args.node) []) (sym rows_is)
