-- What is left to ask of a program in the last form of the passes, so that its sequential phases are told by a master list and its loops are plain.
use Rattle.std.specs.Prelude.{ℕ, nat_eq, nat_le, Bool, true, false, not, ◌&&◌, ◌||◌, List, [], ◌∷◌}
use Rattle.std.specs.List.{list_all, list_any}
use Rattle.gm_ast.specs.declared.tree.Declaration.{Declaration}
use Rattle.gm_ast.specs.declared.tree.Head.{Head}
use Rattle.gm_ast.specs.declared.tree.Key.{Key}
use Rattle.gm_ast.specs.declared.tree.Sort.TheVariants.{Scalar}
use Rattle.gm_ast.specs.declared.tree.Target.{Target}
use Rattle.gm_ast.specs.declared.tree.Target.TheVariants as T
use Rattle.gm_ast.specs.declared.tree.TotalKey.{TotalKey}
use Rattle.gm_ast.specs.Keys.{Fault, total_fault, fault_lt}
use Rattle.gm_ast.specs.Names.{is}
use Rattle.gm_ast.specs.Program.{Expr, Var, Live, Unary, Binary, Both, Either, Choose, Stmt, Then, Declare, Assign, Combine, Foreach, For, If, While, Do, Return, Program}
use Rattle.gm_ast.specs.Ways.{is_in}
use Rattle.gm_forms.specs.Cut.{can_overflow}
use Rattle.gm_forms.specs.Forms.{may, avoids}
use Rattle.gm_forms.specs.Order.{can_fail1, can_fail2, cannot_fail, fault_of}
use Rattle.gm_semantics.specs.Statements.{variable_at}
use Rattle.gm_lowering.specs.Layouts.{is_global, has_value, is_scalar_of}
use Rattle.gm_lowering.specs.Plans.{Way, Folds, Sends, Picks, way_of, is_here}

-- ---- names

-- whether the variables that an expression reads by their names pass one test, and those whose nodes it checks another
abbrev pub names_pass : (told checked : ℕ → Bool) → Expr → Bool
names_pass told checked (Var x at) = told x
names_pass told checked (Live x at) = checked x
names_pass told checked (Unary op at e) = names_pass told checked e
names_pass told checked (Binary op at a b) = names_pass told checked a && names_pass told checked b
names_pass told checked (Both a b) = names_pass told checked a && names_pass told checked b
names_pass told checked (Either a b) = names_pass told checked a && names_pass told checked b
names_pass told checked (Choose c a b) = names_pass told checked c && (names_pass told checked a && names_pass told checked b)
names_pass told checked e = true

-- one of some iterators, or a scalar or a node of the procedure
abbrev pub is_around : List Declaration → List ℕ → ℕ → Bool
is_around ds its x = is_in its x || is_global (variable_at ds x)

-- one of some iterators, or any variable that has a value
abbrev pub is_told : List Declaration → List ℕ → ℕ → Bool
is_told ds its x = is_in its x || has_value (variable_at ds x)

-- whether an expression names no local of loops and no graph
abbrev pub asks_around : List Declaration → List ℕ → Expr → Bool
asks_around ds its e = names_pass (is_around ds its) (is_around ds its) e

-- whether one names no graph, and checks no local
abbrev pub asks_inside : List Declaration → List ℕ → Expr → Bool
asks_inside ds its e = names_pass (is_told ds its) (is_around ds its) e

-- ---- sequential phases

-- whether a sequential phase names scalars and nodes of the procedure alone, its iterators too
abbrev pub tells_phase : List Declaration → Stmt → Bool
tells_phase ds (Then a b) = tells_phase ds a && tells_phase ds b
tells_phase ds (Declare k x e) = may (asks_around ds []) e
tells_phase ds (Assign k t e) = asks_around ds [] e
tells_phase ds (For k at h test body) = is_global (variable_at ds h.iterator) && (asks_around ds [] test && tells_phase ds body)
tells_phase ds (If k c a b) = asks_around ds [] c && (tells_phase ds a && tells_phase ds b)
tells_phase ds (While k at c body) = asks_around ds [] c && tells_phase ds body
tells_phase ds (Do k at body c) = tells_phase ds body && asks_around ds [] c
tells_phase ds (Return k at e) = may (asks_around ds []) e
tells_phase ds _ = true

abbrev pub tells_phases : Program → Bool
tells_phases p = tells_phase p.declarations p.body

-- ---- loops

-- whether all of some targets are scalars of the procedure, or none is
abbrev pub end_together : List Declaration → List Target → Bool
end_together ds ts = list_all (is_scalar_of is_global ds) ts || not (list_any (is_scalar_of is_global ds) ts)

-- whether a fault comes behind those of an expression's operators and checks, which have a key
abbrev pub comes_behind : Fault → Key → Expr → Bool
comes_behind f k (Live x at) = fault_lt (fault_of k at) f
comes_behind f k (Unary op at e) = (not (can_fail1 op) || fault_lt (fault_of k at) f) && comes_behind f k e
comes_behind f k (Binary op at a b) = (not (can_fail2 op) || fault_lt (fault_of k at) f) && (comes_behind f k a && comes_behind f k b)
comes_behind f k (Both a b) = comes_behind f k a && comes_behind f k b
comes_behind f k (Either a b) = comes_behind f k a && comes_behind f k b
comes_behind f k (Choose c a b) = comes_behind f k c && (comes_behind f k a && comes_behind f k b)
comes_behind f k e = true

-- and behind that of a target's node variable, unless it is one of some iterators
abbrev pub is_behind_target : List ℕ → Fault → Key → Target → Bool
is_behind_target its f k (T.Scalar x at) = true
is_behind_target its f k (T.Property x p at) = is_in its x || fault_lt (fault_of k at) f

-- whether what may fault in a reduction's values and targets comes before its total
abbrev pub total_follows : List ℕ → Key → TotalKey → List Target → List Expr → Bool
total_follows its k total ts es = list_all (comes_behind (total_fault total) k) es && list_all (is_behind_target its (total_fault total) k) ts

-- a target of a body among some iterators: a property goes through one of them, or in a body that may send through a scalar or an iterator around
abbrev pub goes_well : List Declaration → Bool → List ℕ → Target → Bool
goes_well ds inner its (T.Scalar x at) = true
goes_well ds inner its (T.Property x p at) = is_in its x || (not inner && (is Scalar (variable_at ds x) || is_global (variable_at ds x)))

-- whether a reduction of such a body names what it may, goes well, ends together, and has a total that follows
abbrev pub suits_reduction : List Declaration → Bool → List ℕ → Key → TotalKey → List Target → List Expr → Bool
suits_reduction ds inner its k total ts es =
    list_all (asks_inside ds its) es && (list_all (goes_well ds inner its) ts && (end_together ds ts && total_follows its k total ts es))

-- whether a body among some iterators, an outer or an inner one, names what it may, and its reductions suit
abbrev pub suits_body : List Declaration → Bool → List ℕ → Stmt → Bool
suits_body ds inner its (Then a b) = suits_body ds inner its a && suits_body ds inner its b
suits_body ds inner its (Declare k x e) = may (asks_inside ds its) e
suits_body ds inner its (Assign k t e) = asks_inside ds its e
suits_body ds inner its (Combine k total r ts es) = suits_reduction ds inner its k total ts es
suits_body ds inner its (If k c a b) = asks_inside ds its c && (suits_body ds inner its a && suits_body ds inner its b)
suits_body ds inner its _ = true

-- whether a reduction keeps by itself what it reduces to
abbrev pub is_picked : Way → Bool
is_picked Picks = true
is_picked _ = false

abbrev pub is_sent : Way → Bool
is_sent Sends = true
is_sent _ = false

abbrev pub is_folded : Way → Bool
is_folded Folds = true
is_folded _ = false

-- whether statements that are evaluated at a node have nothing that may fault, and no total
abbrev pub is_quiet : List Declaration → ℕ → Stmt → Bool
is_quiet ds n (Then a b) = is_quiet ds n a && is_quiet ds n b
is_quiet ds n (Declare k x e) = may cannot_fail e
is_quiet ds n (Assign k t e) = cannot_fail e
is_quiet ds n (Combine k total r ts es) = is_picked (way_of ds n ts) && list_all cannot_fail es
is_quiet ds n (If k c a b) = cannot_fail c && (is_quiet ds n a && is_quiet ds n b)
is_quiet ds n _ = true

-- whether they send through a node variable
abbrev pub sends_any : List Declaration → ℕ → Stmt → Bool
sends_any ds n (Then a b) = sends_any ds n a || sends_any ds n b
sends_any ds n (Combine k total r ts es) = is_sent (way_of ds n ts)
sends_any ds n (If k c a b) = sends_any ds n a || sends_any ds n b
sends_any ds n _ = false

-- whether a target is a certain property
abbrev pub is_to : ℕ → Target → Bool
is_to p (T.Scalar x at) = false
is_to p (T.Property x q at) = nat_eq q p

-- whether they send to a property by a statement with a number up to one
abbrev pub sends_upto : List Declaration → ℕ → ℕ → ℕ → Stmt → Bool
sends_upto ds n p number (Then a b) = sends_upto ds n p number a || sends_upto ds n p number b
sends_upto ds n p number (Combine k total r ts es) = is_sent (way_of ds n ts) && (list_any (is_to p) ts && nat_le total.key.statement number)
sends_upto ds n p number (If k c a b) = sends_upto ds n p number a || sends_upto ds n p number b
sends_upto ds n p number _ = false

-- whether a target is no property to which a body sends by such a statement
abbrev pub is_unsent : List Declaration → ℕ → Stmt → ℕ → Target → Bool
is_unsent ds n body number (T.Scalar x at) = true
is_unsent ds n body number (T.Property x p at) = not (sends_upto ds n p number body)

-- whether statements reduce to properties of the node by lesser numbers alone than those by which a body sends to the same ones
abbrev pub folds_first : List Declaration → ℕ → Stmt → Stmt → Bool
folds_first ds n body (Then a b) = folds_first ds n body a && folds_first ds n body b
folds_first ds n body (Combine k total r ts es) = not (is_folded (way_of ds n ts)) || list_all (is_unsent ds n body total.key.statement) ts
folds_first ds n body (If k c a b) = folds_first ds n body a && folds_first ds n body b
folds_first ds n body _ = true

-- whether what they send is a Sum or a Product, whose total may be out of range
abbrev pub adds_any : List Declaration → ℕ → Stmt → Bool
adds_any ds n (Then a b) = adds_any ds n a || adds_any ds n b
adds_any ds n (Combine k total r ts es) = can_overflow r && is_sent (way_of ds n ts)
adds_any ds n (If k c a b) = adds_any ds n a || adds_any ds n b
adds_any ds n _ = false

-- whether each statement behind one that sends a Sum or a Product is quiet, where one before them has done so or none
abbrev pub sends_last : List Declaration → ℕ → Bool → Stmt → Bool
sends_last ds n sent (Then a b) = sends_last ds n sent a && sends_last ds n (sent || adds_any ds n a) b
sends_last ds n sent (If k c a b) = (not sent || cannot_fail c) && (sends_last ds n sent a && sends_last ds n (sent || adds_any ds n a) b)
sends_last ds n sent s = not sent || is_quiet ds n s

-- whether a loop of own statements suits. It may send through node variables, Sums and Products at its end
abbrev pub suits_own : List Declaration → ℕ → Expr → Stmt → Bool
suits_own ds n test body = asks_inside ds (n ∷ []) test && (suits_body ds false (n ∷ []) body && sends_last ds n false body)

-- whether an inner loop suits whose receivers send through node variables, Sums and Products at their end, and reduce to the same properties before
abbrev pub suits_receivers : List Declaration → ℕ → Head → Expr → Stmt → Bool
suits_receivers ds n h test body =
    let its = n ∷ (h.iterator ∷ []) in
    not (is_here ds n h test body)
    && (suits_body ds false its body && (sends_any ds h.iterator body && (folds_first ds h.iterator body body && sends_last ds h.iterator false body)))

-- whether an inner loop suits that is evaluated at the outer node and sends through node variables, Sums and Products at its end, and reduces to no property of the outer node
abbrev pub suits_senders : List Declaration → ℕ → Head → Expr → Stmt → Bool
suits_senders ds n h test body =
    let its = n ∷ (h.iterator ∷ []) in
    is_here ds n h test body
    && (suits_body ds false its body && (sends_any ds n body && (avoids n body && sends_last ds n false body)))

-- whether a loop suits that is one inner loop under a mask
abbrev pub suits_edges : List Declaration → ℕ → Expr → Head → Expr → Stmt → Bool
suits_edges ds n mask h test body =
    let its = n ∷ (h.iterator ∷ []) in
    asks_inside ds (n ∷ []) mask && (asks_around ds its test && (suits_body ds true its body || (suits_receivers ds n h test body || suits_senders ds n h test body)))

-- whether a loop over nodes suits
abbrev pub suits_loop : List Declaration → ℕ → Expr → Stmt → Bool
suits_loop ds n mask (Foreach j at h test body) = suits_edges ds n mask h test body
suits_loop ds n test body = suits_own ds n test body

-- whether those of a sequential phase do, and what it reduces at once names scalars and nodes of the procedure alone
abbrev pub suits_phase : List Declaration → Stmt → Bool
suits_phase ds (Then a b) = suits_phase ds a && suits_phase ds b
suits_phase ds (Combine k total r ts es) = list_all (asks_around ds []) es
suits_phase ds (Foreach k at h test body) = suits_loop ds h.iterator test body
suits_phase ds (For k at h test body) = suits_phase ds body
suits_phase ds (If k test a b) = suits_phase ds a && suits_phase ds b
suits_phase ds (While k at test body) = suits_phase ds body
suits_phase ds (Do k at body test) = suits_phase ds body
suits_phase ds _ = true

abbrev pub suits_loops : Program → Bool
suits_loops p = suits_phase p.declarations p.body
