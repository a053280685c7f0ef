-- Worked rows of hoisting.
use Rattle.std.proofs.Common.{◌≡◌, ℕ, Bool, true, false, List, [], ◌∷◌, refl, Some, None}
use Rattle.gm_base.specs.declared.places.Place.{Place}
use Rattle.gm_value.specs.declared.operations.Op2.TheVariants.{Add, Gt}
use Rattle.gm_value.specs.declared.reductions.Reduce.TheVariants as R
use Rattle.gm_value.specs.declared.values.VType.{VType}
use Rattle.gm_value.specs.declared.values.VType.TheVariants as V
use Rattle.gm_value.specs.declared.values.Value.TheVariants.{I32, Flag}
use Rattle.std.specs.Prelude.{pos}
use Rattle.gm_ast.specs.declared.surface.ReductionWord.{ReductionWord}
use Rattle.gm_ast.specs.declared.surface.ReductionWord.TheVariants as W
use Rattle.gm_ast.specs.declared.tree.Declaration.{Declaration}
use Rattle.gm_ast.specs.declared.tree.Domain.TheVariants.{Nodes, OutNbrs}
use Rattle.gm_ast.specs.declared.tree.Fold.{Fold}
use Rattle.gm_ast.specs.declared.tree.Head.{Head}
use Rattle.gm_ast.specs.declared.tree.Key.{Key}
use Rattle.gm_ast.specs.declared.tree.Search.{Search}
use Rattle.gm_ast.specs.declared.tree.Sort.{Sort}
use Rattle.gm_ast.specs.declared.tree.Sort.TheVariants as Sorts
use Rattle.gm_ast.specs.declared.tree.Stage.TheVariants.{Inner, Operator}
use Rattle.gm_ast.specs.declared.tree.Target.TheVariants as T
use Rattle.gm_ast.specs.Program.{Expr, always, Const, Property, Live, Binary, Both, Folded, Skip, Declare, Assign, Combine, Foreach, For, If, InBfs, Stmt, Program, sequence}
use Rattle.gm_forms.specs.Order.{first_key, is_ordered}
use Rattle.gm_forms.specs.Ready.{is_checked}
use Rattle.gm_forms.specs.Sharing.{is_race_free}
use Rattle.gm_forms.specs.Typing.{has_types}
use Rattle.gm_forms.specs.Uses.{is_named}
use Rattle.gm_desugar.specs.Conditions.{nowhere, fresh, asked}
use Rattle.gm_hoisting.specs.Hoisting.{local, count_phase, phase_added, phase_out, body_out}
use Rattle.gm_hoisting.specs.Totals.{can_be_hoisted}

abbrev here : ℕ → Place
here c = record { line = 1; col = c }

-- keys of a statement's reductions, and of its other operators
abbrev inner : ℕ → Key
inner s = record { statement = s; stage = Inner }

abbrev own : ℕ → Key
own s = record { statement = s; stage = Operator }

-- a reduction of statement 2, and its range over the neighbours of a node
abbrev fold : ReductionWord → VType → Fold
fold word t = record { word = word; vtype = t; filter = inner 2; body = inner 2; total = record { key = inner 2; place = here 9; shown = here 8 } }

abbrev nbrs : Head
nbrs = record { iterator = 2; domain = OutNbrs; owner = 1; place = here 3 }

abbrev all : Head
all = record { iterator = 1; domain = Nodes; owner = 0; place = here 2 }

-- t.p, and whether it is above 0
abbrev read : Expr
read = Property 2 3 (here 5)

abbrev above : Expr
above = Binary Gt (here 6) read (Const (I32 (pos 0)))

abbrev sum : Expr
sum = Folded (fold W.Sum V.I32) nbrs always read

abbrev count : Expr
count = Folded (fold W.Count V.I32) nbrs above above

-- n.q = Sum(t: n.Nbrs){t.p} + Count(t: n.Nbrs)(t.p > 0){t.p > 0}; onto the locals 7 and 8, from left to right
summed-and-counted :
    body_out 7 (Assign (own 2) (T.Property 1 4 (here 1)) (Binary Add (here 7) sum count))
    ≡ sequence (
    Declare (own 2) 7 (Some (Const (I32 (pos 0))))
    ∷ Foreach (inner 2) (here 8) nbrs always (Combine (inner 2) (fold W.Sum V.I32).total R.Sum (T.Scalar 7 nowhere ∷ []) (read ∷ []))
    ∷ Declare (own 2) 8 (Some (Const (I32 (pos 0))))
    ∷ Foreach (inner 2) (here 8) nbrs (Both above above) (Combine (inner 2) (fold W.Count V.I32).total R.Sum (T.Scalar 8 nowhere ∷ []) (Const (I32 (pos 1)) ∷ []))
    ∷ Assign (own 2) (T.Property 1 4 (here 1)) (Binary Add (here 7) (asked 7) (asked 8)) ∷ []
    )
summed-and-counted = refl

-- a statement without reductions stays
plain-stays : body_out 7 (Assign (own 2) (T.Property 1 4 (here 1)) (Const (I32 (pos 1)))) ≡ Assign (own 2) (T.Property 1 4 (here 1)) (Const (I32 (pos 1)))
plain-stays = refl

-- a condition's reduction stands before the If, and is a conjunction from True
conditioned :
    body_out 7 (If (own 2) (Folded (fold W.All V.Flag) nbrs always above) (Assign (own 3) (T.Property 1 4 (here 1)) (Const (I32 (pos 1)))) Skip)
    ≡ sequence (
    Declare (own 2) 7 (Some (Const (Flag true)))
    ∷ Foreach (inner 2) (here 8) nbrs always (Combine (inner 2) (fold W.All V.Flag).total R.And (T.Scalar 7 nowhere ∷ []) (above ∷ []))
    ∷ If (own 2) (asked 7) (Assign (own 3) (T.Property 1 4 (here 1)) (Const (I32 (pos 1)))) Skip ∷ []
    )
conditioned = refl

-- a loop whose filter has a reduction comes before all, and the rest of the filter guards its body
abbrev positive : Expr
positive = Binary Gt (here 4) sum (Const (I32 (pos 0)))

filtered :
    phase_out [] 7 (Foreach (own 2) (here 1) all positive (Assign (own 3) (T.Property 1 4 (here 1)) (Const (I32 (pos 1)))))
    ≡ Foreach first_key (here 1) all always (sequence (
    Declare (own 2) 7 (Some (Const (I32 (pos 0))))
    ∷ Foreach (inner 2) (here 8) nbrs always (Combine (inner 2) (fold W.Sum V.I32).total R.Sum (T.Scalar 7 nowhere ∷ []) (read ∷ []))
    ∷ If (own 2) (Binary Gt (here 4) (asked 7) (Const (I32 (pos 0)))) (Assign (own 3) (T.Property 1 4 (here 1)) (Const (I32 (pos 1)))) Skip ∷ []
    ))
filtered = refl

-- a search whose filter has a reduction is behind the check of its root, under the key of its reductions
abbrev search : Search
search = record { iterator = 1; graph = 0; root = 5; place = here 1 }

searched :
    phase_out [] 7 (InBfs (own 2) (here 1) search positive Skip)
    ≡ sequence (
    Assign (own 2) (T.Scalar 7 nowhere) (Live 5 (here 1))
    ∷ InBfs (inner 2) (here 1) search always (sequence (
    Declare (own 2) 8 (Some (Const (I32 (pos 0))))
    ∷ Foreach (inner 2) (here 8) nbrs always (Combine (inner 2) (fold W.Sum V.I32).total R.Sum (T.Scalar 8 nowhere ∷ []) (read ∷ []))
    ∷ If (own 2) (Binary Gt (here 4) (asked 8) (Const (I32 (pos 0)))) Skip Skip ∷ []
    )) ∷ []
    )
searched = refl

added : phase_added [] (InBfs (own 2) (here 1) search positive Skip) ≡ fresh V.Node ∷ local V.I32 ∷ []
added = refl

-- from the iterator of a For around, which holds a node, it is not checked: For (s: G.Nodes) { InBFS (n: G.Nodes From s)(..) { } }
abbrev around : Stmt
around = For (own 1) (here 1) (record { iterator = 5; domain = Nodes; owner = 0; place = here 1 }) always (InBfs (own 2) (here 1) search positive Skip)

from-an-iterator :
    phase_out [] 7 around
    ≡ For (own 1) (here 1) (record { iterator = 5; domain = Nodes; owner = 0; place = here 1 }) always (InBfs (inner 2) (here 1) search always (sequence (
    Declare (own 2) 7 (Some (Const (I32 (pos 0))))
    ∷ Foreach (inner 2) (here 8) nbrs always (Combine (inner 2) (fold W.Sum V.I32).total R.Sum (T.Scalar 7 nowhere ∷ []) (read ∷ []))
    ∷ If (own 2) (Binary Gt (here 4) (asked 7) (Const (I32 (pos 0)))) Skip Skip ∷ []
    )))
from-an-iterator = refl

no-check-added : phase_added [] around ≡ local V.I32 ∷ []
no-check-added = refl

none-left : count_phase [] (phase_out [] 7 (InBfs (own 2) (here 1) search positive Skip)) ≡ 0
none-left = refl

-- a program is ready wherever the total of a count stands, which cannot fault: n.q = Count(t: n.Nbrs)(t.p > 0){t.p > 0} + 1, with the total in its place
-- or behind the statement. Hoisting asks more: there the total is one of a loop
abbrev row : Sort → VType → ℕ → Declaration
row sort t depth = record { name = []; variable = record { sort = sort; vtype = t; depth = depth } }

abbrev counting : Key → Program
counting k = record {
  name = [];
  declarations = row Sorts.Graph V.I32 0 ∷ row Sorts.Iterator V.Node 1 ∷ row Sorts.Iterator V.Node 2 ∷ row Sorts.NodeProperty V.I32 0 ∷ row Sorts.NodeProperty V.I32 0 ∷ [];
  inputs = 1;
  outputs = 0;
  result = None;
  statements = 9;
  body =
      Foreach (own 1) (here 2) all always
      (Assign (own 2) (T.Property 1 4 (here 1))
      (Binary Add (here 7) (Folded (record (fold W.Count V.I32) { total = record { key = k; place = here 9; shown = here 8 } }) nbrs above above) (Const (I32 (pos 1)))));
}

abbrev facts : Program → List Bool
facts p = is_checked p ∷ is_named p ∷ has_types p ∷ is_ordered p ∷ is_race_free p ∷ can_be_hoisted p ∷ []

total-in-place : facts (counting (inner 2)) ≡ true ∷ true ∷ true ∷ true ∷ true ∷ true ∷ []
total-in-place = refl

total-behind : facts (counting (own 9)) ≡ true ∷ true ∷ true ∷ true ∷ true ∷ false ∷ []
total-behind = refl
