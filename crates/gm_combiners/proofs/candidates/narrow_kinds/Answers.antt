use Rattle.std.proofs.Common.{◌<◌, ◌∙◌, ◌&&◌, ◌||◌, not, nat_eq, Bool, List, length, map, ap, refl, arith}
use Rattle.gm_image.specs.declared.lines.VertexLine.{VertexLine}
use Rattle.gm_image.specs.Folds.{is_combining}
use Rattle.gm_image.specs.Views.{line, handler}
use Rattle.gm_combiners.specs.Candidates.{leaves, left_for}
use Rattle.gm_combiners.specs.Combiners.{lets}
use Rattle.gm_combiners.proofs.Walking.{none-let, one-lets, lets-all}
use Rattle.gm_combiners.proofs.candidates.narrow_kinds.Goals as goal

pub loop-handled-init : goal.loop-handled-init
loop-handled-init c = record { long = refl; left = λ k r l. none-let (leaves (left_for c.args.candidates.now.items k) r) }

pub loop-handled-preserved : goal.loop-handled-preserved
loop-handled-preserved c =
    let x = c.handled-item.result in
    let inv = c.loop-handled.invariant in
    record {
      long = c.narrow_at.ensures.long ∙ inv.long;
      left = λ k r l.
          let l' : k < length c.loop-handled.candidates.items = omega (arith, l, inv.long) in
          c.narrow_at.ensures.left k r l'
          ∙ ap (λ (b : Bool). leaves (left_for c.loop-handled.candidates.items k) r && (not (nat_eq x.kind k) || b))
          (c.combining_reduction-by.ensures r ∙ ap (λ (ls : List VertexLine). is_combining r (map line ls)) c.as_slice.ensures)
          ∙ ap (λ (b : Bool). b && lets k (handler x) r) (inv.left k r l)
          ∙ one-lets k r c.args.handlers.now c.loop-handled.handled-index x (leaves (left_for c.args.candidates.now.items k) r) c.loop-handled-test.true c.handled-item.is;
    }

pub returns-clause-left : goal.returns-clause-left
returns-clause-left c = λ k r l.
    c.loop-handled.invariant.left k r l
    ∙ lets-all k r c.args.handlers.now c.loop-handled.handled-index (leaves (left_for c.args.candidates.now.items k) r) c.loop-handled-test.false
