use Rattle.std.proofs.Common.{◌<◌, ◌∙◌, ◌&&◌, Bool, List, length, map, take, ap, refl, arith}
use Rattle.gm_image.specs.declared.images.Handler as H
use Rattle.gm_image.specs.Views.{handler, block}
use Rattle.gm_combiners.specs.declared.candidates.Candidates.{Candidates}
use Rattle.gm_combiners.specs.Candidates.{leaves, left_for}
use Rattle.gm_combiners.specs.Combiners.{all_let, handlers_of}
use Rattle.gm_combiners.proofs.Walking.{every-long, every-leaves, block-lets, blocks-all}
use Rattle.gm_combiners.proofs.candidates.find_candidates.Goals as goal

pub loop-one-init : goal.loop-one-init
loop-one-init c = record {
  long = refl;
  left = λ k r l. ap (λ (cs : List Candidates). leaves (left_for cs k) r) c.in_ok-candidates.ensures ∙ every-leaves c.args.kinds k r;
}

pub loop-one-preserved : goal.loop-one-preserved
loop-one-preserved c =
    let bs = c.args.blocks.now in
    let i = c.loop-one.one-index in
    let x = c.one-item.result in
    let inv = c.loop-one.invariant in
    record {
      long = c.narrow_kinds.ensures.long ∙ inv.long;
      left = λ k r l.
          let l' : k < length c.loop-one.candidates.items = omega (arith, l, inv.long) in
          c.narrow_kinds.ensures.left k r l'
          ∙ ap (λ (b : Bool). b && all_let (map handler c.as_slice.result.now) k r) (inv.left k r l)
          ∙ ap (λ (hs : List H.Handler). all_let (handlers_of (map block (take i bs))) k r && all_let (map handler hs) k r) c.as_slice.ensures
          ∙ block-lets k r bs i x c.loop-one-test.true c.one-item.is;
    }

pub returns-clause-long : goal.returns-clause-long
returns-clause-long c = c.loop-one.invariant.long ∙ ap (λ (cs : List Candidates). length cs) c.in_ok-candidates.ensures ∙ every-long c.args.kinds

pub returns-clause-left : goal.returns-clause-left
returns-clause-left c = λ k r l.
    let l' : k < length c.in_ok-candidates.candidates.items = omega (arith, l, c.loop-one.invariant.long) in
    c.loop-one.invariant.left k r l' ∙ blocks-all k r c.args.blocks.now c.loop-one.one-index c.loop-one-test.false
