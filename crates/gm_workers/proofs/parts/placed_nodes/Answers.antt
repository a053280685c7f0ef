-- The node of one more message has its place.
use Rattle.std.proofs.Common.{◌≡◌, ◌∙◌, ◌++◌, ℕ, List, [], ◌∷◌, map, take, sym, ap, arith}
use Rattle.std.specs.Prelude.{slice_index_or}
use Rattle.std.proofs.lemmas.List.{map-append, take_more}
use Rattle.gm_machine.specs.Vertex.{Message}
use Rattle.gm_workers.specs.Dealings.{place_for}
use Rattle.gm_workers.proofs.parts.placed_nodes.Goals as goal

pub loop-i-preserved : goal.loop-i-preserved
loop-i-preserved c =
    let ms : List Message = c.args.mail.now.messages in
    let d : Message = record { to = 0; kind = 0; values = [] } in
    let m : Message = slice_index_or ms c.loop-i.i d in
    let here : Message → ℕ = λ x. place_for c.args.dealing.now c.args.worker x.to in
    let place : c.place_at.result ≡ here m = c.place_at.ensures ∙ ap (place_for c.args.dealing.now c.args.worker) (c.to.ensures d) in
    c.in_ok-push.ensures.items
    ∙ ap (λ n. c.loop-i.places.items ++ n ∷ []) place
    ∙ ap (λ l. l ++ here m ∷ []) c.loop-i.invariant
    ∙ sym (ap (map here) (take_more ms c.loop-i.i d (omega (arith, c.loop-i-test.true, c.len-count.ensures))) ∙ map-append here (take c.loop-i.i ms) (m ∷ []))
