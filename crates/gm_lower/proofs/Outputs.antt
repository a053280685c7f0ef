-- Where no output is a property of edges, globals and fields hold all outputs.
use Rattle.std.proofs.Common.{◌≡◌, ◌≤◌, ◌+◌, ℕ, zero, suc, Bool, true, false, ◌++◌, ap, sym, ◌∙◌, refl, arith}
use Rattle.std.proofs.lemmas.Bool.{both_ways}
use Rattle.gm_ast.specs.declared.tree.Sort.{Sort}
use Rattle.gm_ast.specs.declared.tree.Sort.TheVariants as Sorts
use Rattle.gm_ast.specs.Names.{sort_eq}
use Rattle.gm_ast.specs.Program as S
use Rattle.gm_image.specs.Program.{Program}
use Rattle.gm_lowering.specs.Lowered.{items, items_by, lowered}
use Rattle.gm_lowering_master.specs.Whole.{HasInterface}
use Rattle.gm_semantics.specs.Levels.{numbers_from}
use Rattle.gm_lower.specs.Images.{image_of}
use Rattle.gm_lower.specs.Items.{items_of, held}
use Rattle.gm_lower.specs.Laws.{HasHeldOutputs}
use Rattle.gm_lower.proofs.Steps.{held_both}

-- a variable that is no property of edges
one_held : (p : S.Program) (s : Sort) (x : ℕ) → sort_eq Sorts.EdgeProperty s ≡ false → held (items_by p s x) ≡ items_by p s x
one_held p Sorts.Graph x no_edge = refl
one_held p Sorts.Iterator x no_edge = refl
one_held p Sorts.Scalar x no_edge = refl
one_held p Sorts.Edge x no_edge = refl
one_held p Sorts.NodeProperty x no_edge = refl
one_held p Sorts.EdgeProperty x no_edge = absurd (both_ways true no_edge refl)

decided : (b : Bool) → (b ≡ true → ⊥) → b ≡ false
decided true none = absurd (none refl)
decided false none = refl

-- where properties of edges are inputs, no output is one
pub inputs_alone : (p : S.Program) → HasInterface p → HasHeldOutputs p
inputs_alone p face x behind within = decided _ (λ holds. let before = face.edges x holds in omega arith)

all_held : (p : S.Program) → HasHeldOutputs p → (k n : ℕ) → p.inputs ≤ k → k + n ≤ p.inputs + p.outputs → held (items p (numbers_from k n)) ≡ items p (numbers_from k n)
all_held p none k zero behind within = refl
all_held p none k (suc n) behind within =
    sym (held_both (items_of p k) (items p (numbers_from (suc k) n)))
    ∙ ap (λ z. z ++ held (items p (numbers_from (suc k) n))) (one_held p _ k (none k behind (omega arith)))
    ∙ ap (λ z. items_of p k ++ z) (all_held p none (suc k) n (omega arith) (omega arith))

-- so the image that is made is the program's
pub image_is : (p : S.Program) → HasHeldOutputs p → image_of p ≡ lowered p
image_is p none =
    let i : Program = lowered p in
    ap (λ z. record i { outputs = z }) (all_held p none p.inputs p.outputs (omega arith) (omega arith))
