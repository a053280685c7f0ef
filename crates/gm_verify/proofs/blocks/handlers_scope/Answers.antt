use Rattle.std.proofs.Common.{◌∙◌, ◌||◌, [], Bool, List, map, take, sym, ap, subst}
use Rattle.std.specs.Prelude.{nat_eq}
use Rattle.std.specs.HashSet.{contains}
use Rattle.gm_image.specs.declared.images.Handler as H
use Rattle.gm_image.specs.declared.lines.VertexLine.{VertexLine}
use Rattle.gm_image.specs.Program.{Line}
use Rattle.gm_image.specs.Views.{line, handler}
use Rattle.gm_image.specs.Parts.{is_among}
use Rattle.gm_image.specs.Rows.{in_handlers}
use Rattle.gm_image.specs.Folds.{folded_fields}
use Rattle.gm_verify.specs.Scopes.{ShowsScope}
use Rattle.gm_verify.proofs.Lists.{taken-all}
use Rattle.gm_verify.proofs.Folded.{folded-both}
use Rattle.gm_verify.proofs.Groups.{lines_in, lines-at}
use Rattle.gm_verify.proofs.blocks.handlers_scope.Goals as goal

pub loop-handled-init : goal.loop-handled-init
loop-handled-init c = c.outside-scope.ensures

pub loop-handled-preserved : goal.loop-handled-preserved
loop-handled-preserved c =
    let hs = c.args.handlers.now in
    let i = c.loop-handled.handled-index in
    let x = c.handled-item.result in
    let earlier = lines_in (map handler (take i hs)) in
    let inv = c.loop-handled.invariant in
    let scope = c.loop-handled.scope in
    record {
      each = inv.each;
      left = inv.left;
      folded = λ n.
          c.in_ok-add_folded.ensures n
          ∙ ap (λ (ls : List VertexLine). contains nat_eq scope.folded n || is_among n (folded_fields (map line ls))) c.as_slice.ensures
          ∙ ap (λ (b : Bool). b || is_among n (folded_fields (map line x.lines))) (inv.folded n)
          ∙ sym (folded-both earlier (map line x.lines) n)
          ∙ ap (λ (ls : List Line). is_among n (folded_fields ls)) (lines-at hs i x c.loop-handled-test.true c.handled-item.is);
      before = inv.before;
    }

pub returns : goal.returns
returns c =
    subst (λ (hs : List H.Handler). ShowsScope c.loop-handled.scope (in_handlers (lines_in (map handler hs)) []))
    (taken-all c.args.handlers.now c.loop-handled.handled-index c.loop-handled-test.false) c.loop-handled.invariant
