use Rattle.std.proofs.Common.{◌≡◌, suc, [], ◌∷◌, ◌++◌, ap, ◌∙◌, map}
use Rattle.gm_ast.specs.Tree.{expr_of, stmt_of}
use Rattle.gm_image.specs.Views.{block, line}
use Rattle.gm_layouts.specs.Where.{where_of}
use Rattle.gm_lowering.specs.Blocks.{body_block, load_term, receiver_env, receiver_site}
use Rattle.gm_image.specs.Program.{Send}
use Rattle.gm_image.specs.Term.{Neighbour}
use Rattle.gm_message.specs.Views.{as_load}
use Rattle.gm_lowering.specs.Bodies.{under, lines_of}
use Rattle.gm_lowering.specs.Terms.{term}
use Rattle.gm_blocks.specs.LoopBlocks.{handling_block}
use Rattle.gm_blocks.proofs.Loops.{message_is, made_by, map-both}
use Rattle.gm_blocks.proofs.blocks.message_loop.Goals as goal

pub returns-clause-blocks : goal.returns-clause-blocks
returns-clause-blocks c =
    let o = c.args.outer.now in
    let i = c.args.inner.now in
    let k = where_of o.layout.now in
    let g = c.in_ok-places.places in
    let body = stmt_of i.body.now in
    let loads = c.in_ok-loads.loads.items in
    let first : map block c.push.new.self.items ≡ body_block (map line c.in_ok-masked.masked.items) ∷ [] =
    ap (map block) (c.in_ok-push.ensures.items ∙ ap (λ z. z ++ c.body_block.result ∷ []) c.new-blocks.ensures.items) ∙ ap (λ b. b ∷ []) c.body_block.ensures in
    let both : map block c.push-2.new.self.items ≡ body_block (map line c.in_ok-masked.masked.items) ∷ handling_block o.kind (map line c.in_ok-handled.handled.items) ∷ [] =
    ap (map block) c.in_ok-push-2.ensures.items
    ∙ map-both block c.push.new.self.items (c.in_ok-handling.handling ∷ [])
    ∙ ap (λ z. z ++ block c.in_ok-handling.handling ∷ []) first
    ∙ ap (λ b. body_block (map line c.in_ok-masked.masked.items) ∷ b ∷ []) c.in_ok-handling.ensures in
    message_is k o.base o.kind o.node o.key (expr_of o.filter.now) i.key i.head (expr_of i.filter.now) body (map as_load loads) g
    (map line c.in_ok-send.send.items) (map line c.in_ok-edges.edges.items) (map line c.in_ok-masked.masked.items) (map line c.in_ok-handled.handled.items) (map block c.add_taking_block.new.blocks.items)
    c.in_ok-loads.ensures c.in_ok-places.ensures
    (c.in_ok-send.ensures ∙ ap (λ l. Send o.kind Neighbour (map (load_term k) (map as_load l)) ∷ []) c.deref-2.ensures.value)
    c.in_ok-edges.ensures c.in_ok-masked.ensures
    (c.in_ok-handled.ensures
    ∙ ap (λ l. under (term (receiver_env k g o.node i.head.iterator (map as_load l)) i.key (expr_of i.filter.now)) (lines_of (receiver_site k g o.node i.head.iterator (map as_load l)) (suc o.kind) body)) c.deref.ensures.value)
    (made_by c.taken_at-takings.result.layout.now o.layout.now c.taken_at-takings.result.places.now c.in_ok-places.places c.taken_at-takings.result.node i.head.iterator c.in_ok-taken.taken (suc o.kind) body
    (body_block (map line c.in_ok-masked.masked.items) ∷ handling_block o.kind (map line c.in_ok-handled.handled.items) ∷ []) (map block c.push-2.new.self.items) (map block c.add_taking_block.new.blocks.items)
    c.taken_at-takings.ensures.layout c.taken_at-takings.ensures.places c.taken_at-takings.ensures.node c.in_ok-taken.ensures both c.in_ok-kind.ensures.made)
