use Rattle.std.proofs.Common.{◌≡◌, ◌∙◌, ◌+◌, ◌++◌, ◌∷◌, [], ℕ, Option, List, sym, ap, length, arith, length-append}
use Rattle.std.proofs.lemmas.Grind.{common_steps}
use Rattle.gm_value.specs.declared.reductions.Reduce.{Reduce}
use Rattle.gm_value.specs.declared.values.VType.{VType}
use Rattle.gm_image.specs.declared.images.Kind.{Kind}
use Rattle.gm_combiners.specs.Candidates.{leaves, left_for}
use Rattle.gm_combiners.specs.Combiners.{first_fitting, kinds_with}
use Rattle.gm_combiners.proofs.Walking.{one-with}
use Rattle.gm_combiners.proofs.images.combine_kinds.Goals as goal

pub loop-kind-preserved : goal.loop-kind-preserved
loop-kind-preserved c =
    let cs = c.args.candidates.now in
    let done = c.loop-kind.yielded in
    let x = c.in-Some.kind in
    let inv = c.loop-kind.invariant in
    let number : c.loop-kind.number ≡ 0 + length done = omega (arith, inv.number) in
    record {
      rest = grind (arith, common_steps);
      kinds =
          c.in_ok-push.ensures.items
          ∙ ap (λ (ks : List Kind). ks ++ record x { combiner = c.combiner_at-combiner.result } ∷ []) inv.kinds
          ∙ ap (λ (r : Option Reduce). kinds_with (λ k types. first_fitting (leaves (left_for cs k)) types) 0 done ++ record x { combiner = r } ∷ [])
          (c.combiner_at-combiner.ensures
          ∙ ap (λ (types : List VType). first_fitting (leaves (left_for cs c.loop-kind.number)) types) c.as_slice.ensures
          ∙ ap (λ (n : ℕ). first_fitting (leaves (left_for cs n)) x.values) number)
          ∙ sym (one-with (λ k types. first_fitting (leaves (left_for cs k)) types) 0 done x);
      number = let long = length-append done (x ∷ []) in omega (arith, long, inv.number);
      long = grind (arith, common_steps);
    }
