-- Passes before this one leave the keys of reductions rising.
use Rattle.std.proofs.Common.{◌≡◌, ◌+◌, ◌++◌, ℕ, Bool, true, false, List, [], ◌∷◌, refl, ap, ◌∙◌, Option, Some, None, Ok, Err, Result}
use Rattle.std.specs.Prelude.{◌&&◌, if◌then◌else◌, map, option_map}
use Rattle.std.specs.List.{list_all}
use Rattle.gm_base.specs.declared.places.Place.{Place}
use Rattle.gm_value.specs.declared.faults.FaultKind.{FaultKind}
use Rattle.gm_value.specs.declared.operations.Op1.{Op1}
use Rattle.gm_value.specs.declared.operations.Op1.TheVariants.{Neg, Not, ToI32, ToI64}
use Rattle.gm_value.specs.declared.reductions.Reduce.{Reduce}
use Rattle.gm_value.specs.declared.reductions.Reduce.TheVariants as R
use Rattle.gm_value.specs.declared.values.Value.{Value}
use Rattle.gm_value.specs.Operations.{result1}
use Rattle.gm_ast.specs.declared.tree.Declaration.{Declaration}
use Rattle.gm_ast.specs.declared.tree.Head.{Head}
use Rattle.gm_ast.specs.declared.tree.Key.{Key}
use Rattle.gm_ast.specs.declared.tree.Target.{Target}
use Rattle.gm_ast.specs.declared.tree.Target.TheVariants as T
use Rattle.gm_ast.specs.declared.tree.TotalKey.{TotalKey}
use Rattle.gm_ast.specs.Program.{Expr, Const, Var, Property, EdgeProperty, Degree, NodeCount, EdgeCount, Live, Unary, Binary, Both, Either, Choose, Folded, Stmt, Skip, Then, Declare, Assign, Combine, For, If, While, Do, Return}
use Rattle.gm_semantics.specs.Iterations.{target_value}
use Rattle.gm_forms.specs.Forms.{is_told}
use Rattle.gm_forms.specs.Typing.{keeps_tuples}
use Rattle.gm_forms.proofs.Named.{both-true}
use Rattle.gm_forms.proofs.Weaker.{and-true}
use Rattle.gm_desugar.specs.Compounds.{operated, assignment_of, expanded}
use Rattle.gm_desugar.specs.Conditions.{if_hoisted, for_hoisted, while_hoisted, do_hoisted, hoisted}
use Rattle.gm_desugar.specs.Groups.{ungrouped}
use Rattle.gm_desugar.specs.Literals.{constant_or, negated, applied, with_literals, each_expr, passes}
use Rattle.gm_desugar.specs.Reads.{reads_set, told_from, is_single, stays_alone, after_reads, count_reads, apart}
use Rattle.gm_desugar.proofs.Longer.{two}
use Rattle.gm_reductions.specs.Keys.{keys_in, all_under, all_over, key_lt, rises, all_rise}
use Rattle.gm_picks.proofs.ReadsRise.{rise-both, reads-rise, told-rises}

-- ---- group assignments

pub groups-rise : (s : Stmt) → all_rise (ungrouped s) ≡ all_rise s
groups-rise (Then a b) = two (λ x y. x && y) (all_rise (ungrouped a)) (all_rise a) (all_rise (ungrouped b)) (all_rise b) (groups-rise a) (groups-rise b)
groups-rise (For k at h test s) = ap (λ x. rises test && x) (groups-rise s)
groups-rise (If k c a b) = ap (λ x. rises c && x) (two (λ x y. x && y) (all_rise (ungrouped a)) (all_rise a) (all_rise (ungrouped b)) (all_rise b) (groups-rise a) (groups-rise b))
groups-rise (While k at c s) = ap (λ x. rises c && x) (groups-rise s)
groups-rise (Do k at s c) = ap (λ x. x && rises c) (groups-rise s)
groups-rise s = refl

-- ---- compound assignments

target-rises : (t : Target) → rises (target_value t) ≡ true
target-rises (T.Scalar x at) = refl
target-rises (T.Property x p at) = refl

operated-rises : (r : Reduce) (at : Place) (t : Target) (e : Expr) → rises e ≡ true → rises (operated r at (target_value t) e) ≡ true
operated-rises R.Sum at t e h = and-true (rises (target_value t)) (rises e) (target-rises t) h
operated-rises R.Product at t e h = and-true (rises (target_value t)) (rises e) (target-rises t) h
operated-rises R.Min at t e h = and-true (rises (target_value t)) (rises e) (target-rises t) h
operated-rises R.Max at t e h = and-true (rises (target_value t)) (rises e) (target-rises t) h
operated-rises R.And at t e h = and-true (rises (target_value t)) (rises e) (target-rises t) h
operated-rises R.Or at t e h = and-true (rises (target_value t)) (rises e) (target-rises t) h

assignment-rises : (k : Key) (total : TotalKey) (r : Reduce) (ts : List Target) (es : List Expr) → list_all rises es ≡ true → all_rise (assignment_of k total r ts es) ≡ true
assignment-rises k total r [] es h = h
assignment-rises k total r (t ∷ []) [] h = h
assignment-rises k total r (t ∷ []) (e ∷ []) h = by (keeps_tuples r)
  where
    by : (b : Bool) → all_rise (if b then Combine k total r (t ∷ []) (e ∷ []) else Assign k t (operated r total.place (target_value t) e)) ≡ true
    by true = h
    by false = operated-rises r total.place t e (both-true (rises e) true h).0
assignment-rises k total r (t ∷ []) (e ∷ (d ∷ es)) h = h
assignment-rises k total r (t ∷ (u ∷ ts)) es h = h

pub compounds-rise : (ds : List Declaration) (s : Stmt) → all_rise s ≡ true → all_rise (expanded ds s) ≡ true
compounds-rise ds (Then a b) h = let q = both-true (all_rise a) (all_rise b) h in and-true (all_rise (expanded ds a)) (all_rise (expanded ds b)) (compounds-rise ds a q.0) (compounds-rise ds b q.1)
compounds-rise ds (Combine k total r ts es) h = assignment-rises k total r ts es h
compounds-rise ds (For k at hd test s) h = let q = both-true (rises test) (all_rise s) h in and-true (rises test) (all_rise (expanded ds s)) q.0 (compounds-rise ds s q.1)
compounds-rise ds (If k c a b) h =
    let p = both-true (rises c) (all_rise a && all_rise b) h in
    let q = both-true (all_rise a) (all_rise b) p.1 in
    and-true (rises c) (all_rise (expanded ds a) && all_rise (expanded ds b)) p.0 (and-true (all_rise (expanded ds a)) (all_rise (expanded ds b)) (compounds-rise ds a q.0) (compounds-rise ds b q.1))
compounds-rise ds (While k at c s) h = let q = both-true (rises c) (all_rise s) h in and-true (rises c) (all_rise (expanded ds s)) q.0 (compounds-rise ds s q.1)
compounds-rise ds (Do k at s c) h = let q = both-true (all_rise s) (rises c) h in and-true (all_rise (expanded ds s)) (rises c) (compounds-rise ds s q.0) q.1
compounds-rise ds s h = h

-- ---- negative literals

-- an operation's keys are those of its part
abbrev Like : Expr → Expr → Type 0
Like d e = (keys_in d ≡ keys_in e) × (rises d ≡ rises e)

constant-like : (at : Place) (v : Value) (r : Result Value FaultKind) → Like (constant_or at v r) (Const v)
constant-like at v (Ok n) = (refl, refl)
constant-like at v (Err f) = (refl, refl)

negated-like : (at : Place) (e : Expr) → Like (negated at e) e
negated-like at (Const v) = constant-like at v (result1 Neg v)
negated-like at (Var x p) = (refl, refl)
negated-like at (Property x p q) = (refl, refl)
negated-like at (EdgeProperty x p q) = (refl, refl)
negated-like at (Degree d x p) = (refl, refl)
negated-like at NodeCount = (refl, refl)
negated-like at EdgeCount = (refl, refl)
negated-like at (Live x p) = (refl, refl)
negated-like at (Unary op p e) = (refl, refl)
negated-like at (Binary op p a b) = (refl, refl)
negated-like at (Both a b) = (refl, refl)
negated-like at (Either a b) = (refl, refl)
negated-like at (Choose c a b) = (refl, refl)
negated-like at (Folded f h test e) = (refl, refl)

applied-like : (op : Op1) (at : Place) (e : Expr) → Like (applied op at e) e
applied-like Neg at e = negated-like at e
applied-like Not at e = (refl, refl)
applied-like ToI32 at e = (refl, refl)
applied-like ToI64 at e = (refl, refl)

pair-like : (a a' b b' : Expr) → Like a a' → Like b b' → (keys_in a ++ keys_in b ≡ keys_in a' ++ keys_in b') × (rises a && rises b ≡ rises a' && rises b')
pair-like a a' b b' p q = (two (λ x y. x ++ y) (keys_in a) (keys_in a') (keys_in b) (keys_in b') p.0 q.0, two (λ x y. x && y) (rises a) (rises a') (rises b) (rises b') p.1 q.1)

literals-like : (e : Expr) → Like (with_literals e) e
literals-like (Unary op at e) = let p = applied-like op at (with_literals e) in let q = literals-like e in (p.0 ∙ q.0, p.1 ∙ q.1)
literals-like (Binary op at a b) = pair-like (with_literals a) a (with_literals b) b (literals-like a) (literals-like b)
literals-like (Both a b) = pair-like (with_literals a) a (with_literals b) b (literals-like a) (literals-like b)
literals-like (Either a b) = pair-like (with_literals a) a (with_literals b) b (literals-like a) (literals-like b)
literals-like (Choose c a b) =
    let o = literals-like c in
    let p = pair-like (with_literals a) a (with_literals b) b (literals-like a) (literals-like b) in (
      two (λ x y. x ++ y) (keys_in (with_literals c)) (keys_in c) (keys_in (with_literals a) ++ keys_in (with_literals b)) (keys_in a ++ keys_in b) o.0 p.0,
      two (λ x y. x && y) (rises (with_literals c)) (rises c) (rises (with_literals a) && rises (with_literals b)) (rises a && rises b) o.1 p.1,
    )
literals-like (Folded f h test e) =
    let p = literals-like test in
    let q = literals-like e in (
      two (λ xs ys. (f.filter ∷ xs) ++ ((f.body ∷ ys) ++ (f.total.key ∷ []))) (keys_in (with_literals test)) (keys_in test) (keys_in (with_literals e)) (keys_in e) p.0 q.0,
      two (λ xs ys. all_under f.filter xs && (all_over f.filter ys && (all_under f.body ys && (key_lt f.filter f.body && key_lt f.body f.total.key)))) (keys_in (with_literals test)) (keys_in test) (keys_in (with_literals e)) (keys_in e) p.0 q.0,
    )
literals-like e = (refl, refl)

option-like : (e : Option Expr) → passes rises (option_map with_literals e) ≡ passes rises e
option-like None = refl
option-like (Some e) = (literals-like e).1

all-like : (es : List Expr) → list_all rises (map with_literals es) ≡ list_all rises es
all-like [] = refl
all-like (e ∷ es) = two (λ x y. x && y) (rises (with_literals e)) (rises e) (list_all rises (map with_literals es)) (list_all rises es) (literals-like e).1 (all-like es)

pub literals-rise : (s : Stmt) → all_rise (each_expr with_literals s) ≡ all_rise s
literals-rise (Then a b) = two (λ x y. x && y) (all_rise (each_expr with_literals a)) (all_rise a) (all_rise (each_expr with_literals b)) (all_rise b) (literals-rise a) (literals-rise b)
literals-rise (Declare k x e) = option-like e
literals-rise (Assign k t e) = (literals-like e).1
literals-rise (Combine k total r ts es) = all-like es
literals-rise (For k at h test s) = two (λ x y. x && y) (rises (with_literals test)) (rises test) (all_rise (each_expr with_literals s)) (all_rise s) (literals-like test).1 (literals-rise s)
literals-rise (If k c a b) =
    two (λ x y. x && y) (rises (with_literals c)) (rises c) (all_rise (each_expr with_literals a) && all_rise (each_expr with_literals b)) (all_rise a && all_rise b) (literals-like c).1
    (two (λ x y. x && y) (all_rise (each_expr with_literals a)) (all_rise a) (all_rise (each_expr with_literals b)) (all_rise b) (literals-rise a) (literals-rise b))
literals-rise (While k at c s) = two (λ x y. x && y) (rises (with_literals c)) (rises c) (all_rise (each_expr with_literals s)) (all_rise s) (literals-like c).1 (literals-rise s)
literals-rise (Do k at s c) = two (λ x y. x && y) (all_rise (each_expr with_literals s)) (all_rise s) (rises (with_literals c)) (rises c) (literals-rise s) (literals-like c).1
literals-rise (Return k at e) = option-like e
literals-rise s = refl

-- ---- conditions

if-rises : (told : Bool) (c : ℕ) (k : Key) (e : Expr) (a b : Stmt) → rises e ≡ true → all_rise a ≡ true → all_rise b ≡ true → all_rise (if_hoisted told c k e a b) ≡ true
if-rises true c k e a b h p q = and-true (rises e) (all_rise a && all_rise b) h (and-true (all_rise a) (all_rise b) p q)
if-rises false c k e a b h p q = and-true (rises e) ((all_rise a && all_rise b) && true) h (and-true (all_rise a && all_rise b) true (and-true (all_rise a) (all_rise b) p q) refl)

for-rises : (told : Bool) (c : ℕ) (k : Key) (at : Place) (hd : Head) (e : Expr) (s : Stmt) → rises e ≡ true → all_rise s ≡ true → all_rise (for_hoisted told c k at hd e s) ≡ true
for-rises true c k at hd e s h p = and-true (rises e) (all_rise s) h p
for-rises false c k at hd e s h p = if-rises false c k e s Skip h p refl

while-rises : (told : Bool) (c : ℕ) (k : Key) (at : Place) (e : Expr) (s : Stmt) → rises e ≡ true → all_rise s ≡ true → all_rise (while_hoisted told c k at e s) ≡ true
while-rises true c k at e s h p = and-true (rises e) (all_rise s) h p
while-rises false c k at e s h p = and-true (rises e) _ h (and-true (all_rise s && (rises e && true)) true (and-true (all_rise s) (rises e && true) p (and-true (rises e) true h refl)) refl)

do-rises : (told : Bool) (c : ℕ) (k : Key) (at : Place) (s : Stmt) (e : Expr) → all_rise s ≡ true → rises e ≡ true → all_rise (do_hoisted told c k at s e) ≡ true
do-rises true c k at s e p h = and-true (all_rise s) (rises e) p h
do-rises false c k at s e p h = and-true (all_rise s && (rises e && true)) true (and-true (all_rise s) (rises e && true) p (and-true (rises e) true h refl)) refl

pub conditions-rise : (c : ℕ) (s : Stmt) → all_rise s ≡ true → all_rise (hoisted c s) ≡ true
conditions-rise c (Then a b) h = let q = both-true (all_rise a) (all_rise b) h in and-true (all_rise (hoisted c a)) (all_rise (hoisted c b)) (conditions-rise c a q.0) (conditions-rise c b q.1)
conditions-rise c (For k at hd e s) h = let q = both-true (rises e) (all_rise s) h in for-rises (is_told e) c k at hd e (hoisted c s) q.0 (conditions-rise c s q.1)
conditions-rise c (If k e a b) h =
    let p = both-true (rises e) (all_rise a && all_rise b) h in
    let q = both-true (all_rise a) (all_rise b) p.1 in
    if-rises (is_told e) c k e (hoisted c a) (hoisted c b) p.0 (conditions-rise c a q.0) (conditions-rise c b q.1)
conditions-rise c (While k at e s) h = let q = both-true (rises e) (all_rise s) h in while-rises (is_told e) c k at e (hoisted c s) q.0 (conditions-rise c s q.1)
conditions-rise c (Do k at s e) h = let q = both-true (all_rise s) (rises e) h in do-rises (is_told e) c k at (hoisted c s) e (conditions-rise c s q.0) q.1
conditions-rise c s h = h

-- ---- reads

after-rises : (alone : Bool) (n : ℕ) (k : Key) (e : Expr) (s : Expr → Stmt) → rises e ≡ true → ((d : Expr) → rises d ≡ true → all_rise (s d) ≡ true) → all_rise (after_reads alone n k e s) ≡ true
after-rises true n k e s h each = each e h
after-rises false n k e s h each = rise-both (reads_set n k e) (s (told_from n e) ∷ []) (reads-rise n k e h) (and-true (all_rise (s (told_from n e))) true (each (told_from n e) (told-rises n e)) refl)

pub apart-rises : (s : Stmt) (n : ℕ) → all_rise s ≡ true → all_rise (apart n s) ≡ true
apart-rises (Then a b) n h = let q = both-true (all_rise a) (all_rise b) h in and-true (all_rise (apart n a)) (all_rise (apart (n + count_reads a) b)) (apart-rises a n q.0) (apart-rises b (n + count_reads a) q.1)
apart-rises (Declare k x (Some e)) n h = after-rises (is_single x e) n k e (λ d. Declare k x (Some d)) h (λ d r. r)
apart-rises (Assign k t e) n h = after-rises (stays_alone t e) n k e (Assign k t) h (λ d r. r)
apart-rises (For k at hd e s) n h = let q = both-true (rises e) (all_rise s) h in and-true (rises e) (all_rise (apart n s)) q.0 (apart-rises s n q.1)
apart-rises (If k e a b) n h =
    let p = both-true (rises e) (all_rise a && all_rise b) h in
    let q = both-true (all_rise a) (all_rise b) p.1 in
    and-true (rises e) (all_rise (apart n a) && all_rise (apart (n + count_reads a) b)) p.0 (and-true (all_rise (apart n a)) (all_rise (apart (n + count_reads a) b)) (apart-rises a n q.0) (apart-rises b (n + count_reads a) q.1))
apart-rises (While k at e s) n h = let q = both-true (rises e) (all_rise s) h in and-true (rises e) (all_rise (apart n s)) q.0 (apart-rises s n q.1)
apart-rises (Do k at s e) n h = let q = both-true (all_rise s) (rises e) h in and-true (all_rise (apart n s)) (rises e) (apart-rises s n q.0) q.1
apart-rises (Return k at (Some e)) n h = after-rises (is_told e) n k e (λ d. Return k at (Some d)) h (λ d r. r)
apart-rises s n h = h
