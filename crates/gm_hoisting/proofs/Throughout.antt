-- Where all totals stand throughout a program, its parallel loops can be hoisted.
use Rattle.std.proofs.Common.{◌≡◌, true}
use Rattle.std.specs.Cmp.Derive.{both_true}
use Rattle.gm_ast.specs.Program.{Stmt, Skip, Then, Declare, DeclareEdge, Assign, Defer, Combine, Group, Foreach, For, If, While, Do, InBfs, InBfsBoth, Return, Program}
use Rattle.gm_forms.proofs.Named.{both-true}
use Rattle.gm_forms.specs.Order.{folds_in_order, loops_in_order, is_ordered}
use Rattle.gm_hoisting.specs.Throughout.{inner_as_sums, all_as_sums, stands_throughout}
use Rattle.gm_hoisting.specs.Totals.{loops_as_sums, loops_stand, can_be_hoisted}

loops-alone : (s : Stmt) → loops_in_order s ≡ true → loops_in_order (all_as_sums s) ≡ true → loops_in_order (loops_as_sums s) ≡ true
loops-alone Skip h k = h
loops-alone (Then a b) h k =
    let x = both-true (loops_in_order a) (loops_in_order b) h in
    let y = both-true (loops_in_order (all_as_sums a)) (loops_in_order (all_as_sums b)) k in
    both_true (loops-alone a x.0 y.0) (loops-alone b x.1 y.1)
loops-alone (Declare j x e) h k = h
loops-alone (DeclareEdge x y at) h k = h
loops-alone (Assign j t e) h k = h
loops-alone (Defer j t e) h k = h
loops-alone (Combine j total r ts es) h k = h
loops-alone (Group j at g p e) h k = h
loops-alone (Foreach j at head test body) h k = k
loops-alone (For j at head test body) h k =
    let x = both-true (folds_in_order test) (loops_in_order body) h in
    both_true x.0 (loops-alone body x.1 (both-true (folds_in_order (inner_as_sums test)) (loops_in_order (all_as_sums body)) k).1)
loops-alone (If j c a b) h k =
    let x = both-true (folds_in_order c) _ h in
    let y = both-true (loops_in_order a) (loops_in_order b) x.1 in
    let z = both-true (loops_in_order (all_as_sums a)) (loops_in_order (all_as_sums b)) (both-true (folds_in_order (inner_as_sums c)) _ k).1 in
    both_true x.0 (both_true (loops-alone a y.0 z.0) (loops-alone b y.1 z.1))
loops-alone (While j at c body) h k =
    let x = both-true (folds_in_order c) (loops_in_order body) h in
    both_true x.0 (loops-alone body x.1 (both-true (folds_in_order (inner_as_sums c)) (loops_in_order (all_as_sums body)) k).1)
loops-alone (Do j at body c) h k =
    let x = both-true (loops_in_order body) (folds_in_order c) h in
    both_true (loops-alone body x.0 (both-true (loops_in_order (all_as_sums body)) (folds_in_order (inner_as_sums c)) k).0) x.1
loops-alone (InBfs j at s test body) h k = k
loops-alone (InBfsBoth j at s test body back_key back_test back) h k = k
loops-alone (Return j at e) h k = h

pub throughout-hoisted : (p : Program) → is_ordered p ≡ true → stands_throughout p ≡ true → can_be_hoisted p ≡ true
throughout-hoisted p h k =
    let s = both-true (loops_in_order (all_as_sums p.body)) (loops_stand p.body) k in
    both_true (loops-alone p.body h s.0) s.1
