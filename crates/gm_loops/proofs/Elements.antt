-- The elements of a reduction, one by one.
use Rattle.std.proofs.Common.{◌≡◌, ◌≤◌, ◌+◌, Bool, true, false, if◌then◌else◌, pos, List, [], ◌∷◌, ◌++◌, length, Option, Some, None, Result, Ok, Err, refl, ap, arith}
use Rattle.gm_value.specs.declared.values.Value.{Value}
use Rattle.gm_value.specs.declared.values.Value.TheVariants.{I32}
use Rattle.gm_value.specs.Operations.{is_true}
use Rattle.gm_ast.specs.declared.surface.ReductionWord.{ReductionWord}
use Rattle.gm_ast.specs.declared.surface.ReductionWord.TheVariants.{Sum, Product, Min, Max, Count, Exist, All}
use Rattle.gm_ast.specs.declared.tree.Fold.{Fold}
use Rattle.gm_semantics.specs.declared.faults.Fault.{Fault}
use Rattle.gm_semantics.specs.Faults.{least, errs, oks, joined, unless_fault}
use Rattle.gm_semantics.specs.Expressions.{Answer, closed, element, members_of, reduction}
use Rattle.gm_loops.specs.Runnings.{listed, passes}

-- what stands in the braces does not count where the filter does not pass
pub unpassed : (word : ReductionWord) (test a b : Answer) → passes test ≡ false → element word test a ≡ element word test b
unpassed word (Ok v) a b e = rw e refl
unpassed word (Err f) a b e = refl

-- an element puts at most one member into the bag
pub one-more : (x : Result (Option Value) Fault) (elements : List (Result (List Value) Fault)) → length (joined (oks (listed x ∷ elements))) ≤ length (joined (oks elements)) + 1
one-more (Ok None) elements = omega arith
one-more (Ok (Some v)) elements = omega arith
one-more (Err f) elements = omega arith

-- an element that the filter passes, and one that it does not
pub passed-element : (word : ReductionWord) (p v : Value) → is_true p ≡ true → element word (Ok p) (Ok v) ≡ Ok (members_of word v)
passed-element word p v e = rw e refl

pub unpassed-element : (word : ReductionWord) (p : Value) (a : Answer) → is_true p ≡ false → element word (Ok p) a ≡ Ok []
unpassed-element word p a e = rw e refl

-- a value puts at most one member into the bag
pub one-member : (word : ReductionWord) (v : Value) (bag : List Value) → length (members_of word v ++ bag) ≤ length bag + 1
one-member Count v bag = by (is_true v) where
  by : (b : Bool) → length ((if b then I32 (pos 1) ∷ [] else []) ++ bag) ≤ length bag + 1
  by true = omega arith
  by false = omega arith
one-member Sum v bag = omega arith
one-member Product v bag = omega arith
one-member Min v bag = omega arith
one-member Max v bag = omega arith
one-member Exist v bag = omega arith
one-member All v bag = omega arith

-- a reduction of which no element faults
pub no-fault-reduction : (f : Fold) (elements : List (Result (List Value) Fault)) → least (errs elements) ≡ None → reduction f elements ≡ closed f (joined (oks elements))
no-fault-reduction f elements e = ap (λ (o : Option Fault). unless_fault o (closed f (joined (oks elements)))) e
