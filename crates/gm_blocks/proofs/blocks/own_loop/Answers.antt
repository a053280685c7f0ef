use Rattle.std.proofs.Common.{◌≡◌, [], ◌∷◌, ◌++◌, ap, ◌∙◌, refl, map}
use Rattle.gm_ast.specs.Tree.{expr_of, stmt_of}
use Rattle.gm_image.specs.Views.{block, line}
use Rattle.gm_layouts.specs.Where.{where_of}
use Rattle.gm_lowering.specs.Blocks.{body_block}
use Rattle.gm_blocks.proofs.Loops.{own_is, made_by}
use Rattle.gm_blocks.proofs.blocks.own_loop.Goals as goal

pub returns-clause-blocks : goal.returns-clause-blocks
returns-clause-blocks c =
    let o = c.args.outer.now in
    let body = stmt_of c.args.body.now in
    let first : map block c.push.new.self.items ≡ body_block (map line c.in_ok-masked.masked.items) ∷ [] =
    ap (map block) (c.in_ok-push.ensures.items ∙ ap (λ z. z ++ c.body_block.result ∷ []) c.new-blocks.ensures.items) ∙ ap (λ b. b ∷ []) c.body_block.ensures in
    own_is (where_of o.layout.now) o.base o.kind o.node o.key (expr_of o.filter.now) body c.in_ok-places.places
    (map line c.in_ok-own.own.items) (map line c.in_ok-masked.masked.items) (map block c.add_taking_block.new.blocks.items)
    c.in_ok-places.ensures c.in_ok-own.ensures c.in_ok-masked.ensures
    (made_by c.taken_at-takings.result.layout.now o.layout.now c.taken_at-takings.result.places.now c.in_ok-places.places c.taken_at-takings.result.node o.node o.kind o.kind body
    (body_block (map line c.in_ok-masked.masked.items) ∷ []) (map block c.push.new.self.items) (map block c.add_taking_block.new.blocks.items)
    c.taken_at-takings.ensures.layout c.taken_at-takings.ensures.places c.taken_at-takings.ensures.node refl first c.in_ok-kind.ensures.made)
