use Rattle.std.proofs.Common.{◌≡◌, ◌∙◌, ◌<◌, ◌-◌, ℕ, suc, List, [], ◌∷◌, ◌++◌, length, map, drop, ap, sym, subst, arith}
use Rattle.std.proofs.Math.Seq.{drop-cons}
use Rattle.gm_value.specs.declared.values.Value.{Value}
use Rattle.gm_value.specs.Totals.{IsTotal}
use Rattle.gm_semantics.specs.Expressions.{members_of, reduce_of}
use Rattle.gm_semantics.specs.Faults.{joined}
use Rattle.gm_columns.specs.Cells.{values_of}
use Rattle.gm_loops.proofs.Elements.{one-member}
use Rattle.gm_loops.proofs.Folding.{no-members}
use Rattle.gm_loops.proofs.folds.total_one_by_one.Goals as goal

pub elements-init : goal.elements-init
elements-init c =
    let f = c.args.fold.now in
    let vs : List Value = values_of c.args.cells.now in
    let none : joined (map (members_of f.word) (drop c.len-k.result vs)) ≡ [] = no-members f.word vs c.len-k.result (omega (arith, c.len-k.ensures)) in
    record {
      within = omega (arith, c.len-k.ensures);
      few = omega (arith, ap length none, c.len-k.ensures, c.requires);
      total = subst (λ (bag : List Value). IsTotal (reduce_of f.word) f.vtype c.total_unit-total.result bag) (sym none) (rw c.reduce_of-reduce.ensures at c.total_unit-total.ensures.total);
    }

pub elements-preserved : goal.elements-preserved
elements-preserved c =
    let f = c.args.fold.now in
    let vs : List Value = values_of c.args.cells.now in
    let k : ℕ = c.elements.k in
    let v : Value = c.get.result in
    let bag : List Value = joined (map (members_of f.word) (drop k vs)) in
    let next : suc (k - 1) ≡ k = omega arith in
    let within : k - 1 < length vs = omega (arith, c.elements.invariant.within) in
    let same : drop (k - 1) vs ≡ v ∷ drop k vs =
    drop-cons vs (k - 1) v within ∙ ap (λ (u : Value). u ∷ drop (suc (k - 1)) vs) (sym (c.get.ensures v)) ∙ ap (λ (m : ℕ). v ∷ drop m vs) next in
    let more : members_of f.word v ++ bag ≡ joined (map (members_of f.word) (drop (k - 1) vs)) = sym (ap (λ (us : List Value). joined (map (members_of f.word) us)) same) in
    let before : IsTotal c.reduce_of-reduce.result f.vtype c.elements.total bag = rw c.reduce_of-reduce.ensures c.elements.invariant.total in
    let after = rw c.reduce_of-reduce.ensures at (c.added-total.ensures f.vtype bag before) in
    let grown = one-member f.word v bag in
    record {
      within = omega (arith, c.elements.invariant.within);
      few = omega (arith, grown, c.elements.invariant.few, ap length more);
      total = subst (λ (us : List Value). IsTotal (reduce_of f.word) f.vtype c.added-total.result us) more after;
    }
