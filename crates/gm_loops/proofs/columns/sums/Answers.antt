use Rattle.std.proofs.Common.{◌≡◌, ◌∙◌, ℕ, Ok, [], ◌∷◌, ◌++◌, List, ℤ, ap, sym, map, get_or, rules, w32, to_z, of_z}
use Rattle.gm_value.specs.declared.values.Value.{Value}
use Rattle.gm_value.specs.declared.values.Value.TheVariants.{I32}
use Rattle.gm_value.specs.Operations.{result2}
use Rattle.gm_columns.specs.Cells.{values_of}
use Rattle.gm_columns.specs.declared.cells.Cells.TheVariants.{Ints}
use Rattle.gm_loops.proofs.Everywhere.{each-push}
use Rattle.gm_loops.proofs.Parting.{map-append}
use Rattle.gm_loops.proofs.columns.sums.Goals as goal

pub loop-node-preserved : goal.loop-node-preserved
loop-node-preserved c =
    let n : ℕ = c.loop-node.node in
    let xs : List Value = values_of c.args.first.now in
    let ys : List Value = values_of c.args.second.now in
    let x : ℤ = c.in-Some-Some.x in
    let y : ℤ = c.in-Some-Some.y in
    let same_x : to_z w32 (of_z w32 x) ≡ x = search rules in
    let same_y : to_z w32 (of_z w32 y) ≡ y = search rules in
    let holds : result2 c.args.op (I32 x) (I32 y) ≡ Ok (I32 c.in-Some.number) =
    ap (λ (z : ℤ). result2 c.args.op (I32 z) (I32 y)) (sym same_x) ∙ ap (λ (z : ℤ). result2 c.args.op (I32 (to_z w32 (of_z w32 x))) (I32 z)) (sym same_y) ∙ c.in-Some.ensures in
    let z : ℤ = to_z w32 (of_z w32 c.in-Some.number) in
    let same_z : z ≡ c.in-Some.number = search rules in
    each-push n (λ k v. (d : Value) → result2 c.args.op (get_or xs k d) (get_or ys k d) ≡ Ok v) (Ints c.loop-node.numbers) (Ints c.push.new.self) (I32 c.in-Some.number)
    c.loop-node.invariant
    (ap (λ (bs : List ℤ). map (λ b. I32 b) bs) c.in_ok-push-in-Some.ensures.items ∙ map-append (λ b. I32 b) c.loop-node.numbers.items (z ∷ []) ∙ ap (λ (m : ℤ). map (λ b. I32 b) c.loop-node.numbers.items ++ I32 m ∷ []) same_z)
    (λ d. ap (λ (u : Value). result2 c.args.op u (get_or ys n d)) (c.in-Some-Some.ensures d) ∙ ap (λ (u : Value). result2 c.args.op (I32 x) u) (c.in-Some-Some.ensures' d) ∙ holds)
