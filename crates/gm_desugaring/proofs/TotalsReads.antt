-- Conditions that are set before, reads apart and accesses by loops keep the totals of a program in order.
use Rattle.std.proofs.Common.{◌≡◌, ◌+◌, ℕ, Bool, true, false, List, [], ◌∷◌, ◌++◌, length, refl, Option, Some}
use Rattle.std.specs.Prelude.{◌&&◌}
use Rattle.std.specs.Cmp.Derive.{both_true}
use Rattle.std.proofs.lemmas.Bool.{eq-eqb}
use Rattle.gm_base.specs.declared.places.Place.{Place}
use Rattle.gm_value.specs.declared.values.VType.{VType}
use Rattle.gm_value.specs.declared.values.VType.TheVariants as V
use Rattle.gm_ast.specs.declared.tree.Declaration.{Declaration}
use Rattle.gm_ast.specs.declared.tree.Head.{Head}
use Rattle.gm_ast.specs.declared.tree.Key.{Key}
use Rattle.gm_ast.specs.declared.tree.Target.{Target}
use Rattle.gm_ast.specs.declared.tree.Target.TheVariants as T
use Rattle.gm_ast.specs.Ways.{is_in}
use Rattle.gm_ast.specs.Program.{Expr, Const, Var, Property, EdgeProperty, Degree, NodeCount, EdgeCount, Live, Unary, Binary, Both, Either, Choose, Folded, Stmt, Then, Declare, Assign, For, If, While, Do, Return, Program, sequence}
use Rattle.gm_forms.specs.Forms.{is_told}
use Rattle.gm_forms.specs.Order.{folds_in_order, loops_in_order}
use Rattle.gm_forms.specs.Typing.{type_at}
use Rattle.gm_forms.proofs.Named.{both-true}
use Rattle.gm_desugar.specs.Conditions.{nowhere, set_to, if_hoisted, for_hoisted, while_hoisted, do_hoisted, hoisted, with_conditions}
use Rattle.gm_desugar.specs.Reads.{count_read, reads_set, told_from, is_single, after_reads, stays_alone, count_reads, apart, with_reads_apart}
use Rattle.gm_reductions.specs.Accesses.{added_at, holder, one_node, compared, checks, after_check, write_there, declared_by_loops, assigned_by_loops, by_loops, without_accesses}
use Rattle.gm_reductions.specs.declared.accesses.Fresh.{Fresh}
use Rattle.gm_hoisting.specs.Throughout.{inner_as_sums, all_as_sums, stands_throughout}
use Rattle.gm_hoisting.specs.Totals.{loops_stand}

-- the totals of a sequential phase stand in order throughout
abbrev pub StandsIn : Stmt → Type 0
StandsIn s = (loops_in_order (all_as_sums s) ≡ true) × (loops_stand s ≡ true)

-- those within the reductions of one of its expressions
abbrev pub FoldsStand : Expr → Type 0
FoldsStand e = folds_in_order (inner_as_sums e) ≡ true

pub then-stands : (a b : Stmt) → StandsIn a → StandsIn b → StandsIn (Then a b)
then-stands a b x y = (both_true x.0 y.0, both_true x.1 y.1)

pub parts-stand : (a b : Stmt) → StandsIn (Then a b) → StandsIn a × StandsIn b
parts-stand a b h =
    let p = both-true (loops_in_order (all_as_sums a)) (loops_in_order (all_as_sums b)) h.0 in
    let q = both-true (loops_stand a) (loops_stand b) h.1 in
    ((p.0, q.0), (p.1, q.1))

pub for-parts : (k : Key) (at : Place) (hd : Head) (e : Expr) (s : Stmt) → StandsIn (For k at hd e s) → FoldsStand e × StandsIn s
for-parts k at hd e s h = let p = both-true (folds_in_order (inner_as_sums e)) (loops_in_order (all_as_sums s)) h.0 in (p.0, (p.1, h.1))

pub if-parts : (k : Key) (e : Expr) (a b : Stmt) → StandsIn (If k e a b) → FoldsStand e × (StandsIn a × StandsIn b)
if-parts k e a b h =
    let p = both-true (folds_in_order (inner_as_sums e)) (loops_in_order (all_as_sums a) && loops_in_order (all_as_sums b)) h.0 in
    (p.0, parts-stand a b (p.1, h.1))

pub while-parts : (k : Key) (at : Place) (e : Expr) (s : Stmt) → StandsIn (While k at e s) → FoldsStand e × StandsIn s
while-parts k at e s h = let p = both-true (folds_in_order (inner_as_sums e)) (loops_in_order (all_as_sums s)) h.0 in (p.0, (p.1, h.1))

pub do-parts : (k : Key) (at : Place) (s : Stmt) (e : Expr) → StandsIn (Do k at s e) → FoldsStand e × StandsIn s
do-parts k at s e h = let p = both-true (loops_in_order (all_as_sums s)) (folds_in_order (inner_as_sums e)) h.0 in (p.1, (p.0, h.1))

-- ---- conditions

if-stands : (told : Bool) (c : ℕ) (k : Key) (e : Expr) (a b : Stmt) → FoldsStand e → StandsIn a → StandsIn b → StandsIn (if_hoisted told c k e a b)
if-stands true c k e a b f x y = (both_true f (both_true x.0 y.0), both_true x.1 y.1)
if-stands false c k e a b f x y = (both_true f (both_true (both_true x.0 y.0) refl), both_true (both_true x.1 y.1) refl)

for-stands : (told : Bool) (c : ℕ) (k : Key) (at : Place) (hd : Head) (e : Expr) (s : Stmt) → FoldsStand e → StandsIn s → StandsIn (for_hoisted told c k at hd e s)
for-stands true c k at hd e s f x = (both_true f x.0, x.1)
for-stands false c k at hd e s f x = (both_true f (both_true (both_true x.0 refl) refl), both_true (both_true x.1 refl) refl)

while-stands : (told : Bool) (c : ℕ) (k : Key) (at : Place) (e : Expr) (s : Stmt) → FoldsStand e → StandsIn s → StandsIn (while_hoisted told c k at e s)
while-stands true c k at e s f x = (both_true f x.0, x.1)
while-stands false c k at e s f x = (both_true f (both_true (both_true x.0 (both_true f refl)) refl), both_true (both_true x.1 refl) refl)

do-stands : (told : Bool) (c : ℕ) (k : Key) (at : Place) (s : Stmt) (e : Expr) → FoldsStand e → StandsIn s → StandsIn (do_hoisted told c k at s e)
do-stands true c k at s e f x = (both_true x.0 f, x.1)
do-stands false c k at s e f x = (both_true (both_true x.0 (both_true f refl)) refl, both_true x.1 refl)

conditions-stand : (c : ℕ) (s : Stmt) → StandsIn s → StandsIn (hoisted c s)
conditions-stand c (Then a b) h = let q = parts-stand a b h in then-stands (hoisted c a) (hoisted c b) (conditions-stand c a q.0) (conditions-stand c b q.1)
conditions-stand c (For k at hd e s) h = let q = for-parts k at hd e s h in for-stands (is_told e) c k at hd e (hoisted c s) q.0 (conditions-stand c s q.1)
conditions-stand c (If k e a b) h = let q = if-parts k e a b h in if-stands (is_told e) c k e (hoisted c a) (hoisted c b) q.0 (conditions-stand c a q.1.0) (conditions-stand c b q.1.1)
conditions-stand c (While k at e s) h = let q = while-parts k at e s h in while-stands (is_told e) c k at e (hoisted c s) q.0 (conditions-stand c s q.1)
conditions-stand c (Do k at s e) h = let q = do-parts k at s e h in do-stands (is_told e) c k at (hoisted c s) e q.0 (conditions-stand c s q.1)
conditions-stand c s h = h

-- a program's totals stand where those of its body do
pub body-stands : (p : Program) → stands_throughout p ≡ true → StandsIn p.body
body-stands p h = both-true (loops_in_order (all_as_sums p.body)) (loops_stand p.body) h

pub conditions-keep : (p : Program) → stands_throughout p ≡ true → stands_throughout (with_conditions p) ≡ true
conditions-keep p h = let x = conditions-stand (length p.declarations) p.body (body-stands p h) in both_true x.0 x.1

-- ---- reads

abbrev pub AllStand : List Stmt → Type 0
AllStand [] = Unit {0}
AllStand (s ∷ ss) = StandsIn s × AllStand ss

pub stand-both : (xs ys : List Stmt) → AllStand xs → AllStand ys → AllStand (xs ++ ys)
stand-both [] ys h k = k
stand-both (x ∷ xs) ys h k = (h.0, stand-both xs ys h.1 k)

pub sequence-stands : (ss : List Stmt) → AllStand ss → StandsIn (sequence ss)
sequence-stands [] h = (refl, refl)
sequence-stands (s ∷ ss) h = then-stands s (sequence ss) h.0 (sequence-stands ss h.1)

two-reads : (a b : Expr) (n m : ℕ) (k : Key) → (FoldsStand a → AllStand (reads_set n k a)) → (FoldsStand b → AllStand (reads_set m k b)) → folds_in_order (inner_as_sums a) && folds_in_order (inner_as_sums b) ≡ true → AllStand (reads_set n k a ++ reads_set m k b)
two-reads a b n m k x y h = let q = both-true (folds_in_order (inner_as_sums a)) (folds_in_order (inner_as_sums b)) h in stand-both (reads_set n k a) (reads_set m k b) (x q.0) (y q.1)

pub reads-stand : (e : Expr) (n : ℕ) (k : Key) → FoldsStand e → AllStand (reads_set n k e)
reads-stand (Const v) n k h = tt
reads-stand (Var x at) n k h = tt
reads-stand (Property x p at) n k h = ((refl, refl), tt)
reads-stand (EdgeProperty x p at) n k h = tt
reads-stand (Degree d x at) n k h = ((refl, refl), tt)
reads-stand NodeCount n k h = tt
reads-stand EdgeCount n k h = tt
reads-stand (Live x at) n k h = ((refl, refl), tt)
reads-stand (Unary op at e) n k h = reads-stand e n k h
reads-stand (Binary op at a b) n k h = two-reads a b n (n + count_read a) k (reads-stand a n k) (reads-stand b (n + count_read a) k) h
reads-stand (Both a b) n k h = two-reads a b n (n + count_read a) k (reads-stand a n k) (reads-stand b (n + count_read a) k) h
reads-stand (Either a b) n k h = two-reads a b n (n + count_read a) k (reads-stand a n k) (reads-stand b (n + count_read a) k) h
reads-stand (Choose c a b) n k h =
    let m = n + count_read c in
    let q = both-true (folds_in_order (inner_as_sums c)) (folds_in_order (inner_as_sums a) && folds_in_order (inner_as_sums b)) h in
    stand-both (reads_set n k c) (reads_set m k a ++ reads_set (m + count_read a) k b) (reads-stand c n k q.0) (two-reads a b m (m + count_read a) k (reads-stand a m k) (reads-stand b (m + count_read a) k) q.1)
reads-stand (Folded f hd test e) n k h = ((h, refl), tt)

-- nothing is reduced in what is told
pub told-stands : (e : Expr) (n : ℕ) → FoldsStand (told_from n e)
told-stands (Const v) n = refl
told-stands (Var x at) n = refl
told-stands (Property x p at) n = refl
told-stands (EdgeProperty x p at) n = refl
told-stands (Degree d x at) n = refl
told-stands NodeCount n = refl
told-stands EdgeCount n = refl
told-stands (Live x at) n = refl
told-stands (Unary op at e) n = told-stands e n
told-stands (Binary op at a b) n = both_true (told-stands a n) (told-stands b (n + count_read a))
told-stands (Both a b) n = both_true (told-stands a n) (told-stands b (n + count_read a))
told-stands (Either a b) n = both_true (told-stands a n) (told-stands b (n + count_read a))
told-stands (Choose c a b) n = both_true (told-stands c n) (both_true (told-stands a (n + count_read c)) (told-stands b ((n + count_read c) + count_read a)))
told-stands (Folded f hd test e) n = refl

after-stands : (alone : Bool) (n : ℕ) (k : Key) (e : Expr) (s : Expr → Stmt) → ((d : Expr) → FoldsStand d → StandsIn (s d)) → FoldsStand e → StandsIn (after_reads alone n k e s)
after-stands true n k e s each h = each e h
after-stands false n k e s each h = sequence-stands (reads_set n k e ++ (s (told_from n e) ∷ [])) (stand-both (reads_set n k e) (s (told_from n e) ∷ []) (reads-stand e n k h) (each (told_from n e) (told-stands e n), tt))

apart-stands : (s : Stmt) (n : ℕ) → StandsIn s → StandsIn (apart n s)
apart-stands (Then a b) n h = let q = parts-stand a b h in then-stands (apart n a) (apart (n + count_reads a) b) (apart-stands a n q.0) (apart-stands b (n + count_reads a) q.1)
apart-stands (Declare k x (Some e)) n h = after-stands (is_single x e) n k e (λ d. Declare k x (Some d)) (λ d f. (f, refl)) h.0
apart-stands (Assign k t e) n h = after-stands (stays_alone t e) n k e (Assign k t) (λ d f. (f, refl)) h.0
apart-stands (For k at hd e s) n h = let q = for-parts k at hd e s h in let x = apart-stands s n q.1 in (both_true q.0 x.0, x.1)
apart-stands (If k e a b) n h =
    let q = if-parts k e a b h in
    let x = apart-stands a n q.1.0 in
    let y = apart-stands b (n + count_reads a) q.1.1 in
    (both_true q.0 (both_true x.0 y.0), both_true x.1 y.1)
apart-stands (While k at e s) n h = let q = while-parts k at e s h in let x = apart-stands s n q.1 in (both_true q.0 x.0, x.1)
apart-stands (Do k at s e) n h = let q = do-parts k at s e h in let x = apart-stands s n q.1 in (both_true x.0 q.0, x.1)
apart-stands (Return k at (Some e)) n h = after-stands (is_told e) n k e (λ d. Return k at (Some d)) (λ d f. (f, refl)) h.0
apart-stands s n h = h

pub reads-keep : (p : Program) → stands_throughout p ≡ true → stands_throughout (with_reads_apart p) ≡ true
reads-keep p h = let x = apart-stands p.body (length p.declarations) (body-stands p h) in both_true x.0 x.1

-- ---- accesses

module _ (ds : List Declaration) (f : Fresh) where
  property-order : (c : ℕ) (t : VType) (p : ℕ) → FoldsStand (one_node f c t (Property f.iterator p nowhere))
  property-order c V.I32 p = refl
  property-order c V.I64 p = refl
  property-order c V.Flag p = refl
  property-order c V.Node p = refl

  -- a node that is checked, unless an iterator holds it, and what follows
  checks-stand : (it : Bool) (k : Key) (y : ℕ) (at : Place) (ss : List Stmt) → AllStand ss → StandsIn (sequence (checks it f k y at ++ ss))
  checks-stand true k y at ss h = sequence-stands ss h
  checks-stand false k y at ss h = sequence-stands (set_to f.checked k (Live y at) ∷ ss) ((refl, refl), h)

  behind-stands : (it : Bool) (k : Key) (y : ℕ) (at : Place) (s : Stmt) → StandsIn s → StandsIn (after_check it f k y at s)
  behind-stands true k y at s h = h
  behind-stands false k y at s h = sequence-stands (set_to f.checked k (Live y at) ∷ s ∷ []) ((refl, refl), (h, tt))

  there-stands : (c p x : ℕ) → StandsIn (write_there f c p x)
  there-stands c p x = (rw (eq-eqb f.iterator f.iterator refl) refl, refl)

  declared-stands : (its : List ℕ) (k : Key) (x : ℕ) (e : Option Expr) → StandsIn (Declare k x e) → StandsIn (declared_by_loops ds f its k x e)
  declared-stands its k x (Some (Property y p at)) h =
      let c = compared (is_in its y) f y in behind-stands (is_in its y) k y at (Declare k x (Some (one_node f c (type_at ds p) (Property f.iterator p nowhere)))) (property-order c (type_at ds p) p, refl)
  declared-stands its k x (Some (Degree d y at)) h = behind-stands (is_in its y) k y at (Declare k x (Some (one_node f (compared (is_in its y) f y) V.I32 (Degree d f.iterator nowhere)))) (refl, refl)
  declared-stands its k x e h = h

  assigned-stands : (its : List ℕ) (k : Key) (t : Target) (e : Expr) → StandsIn (Assign k t e) → StandsIn (assigned_by_loops ds f its k t e)
  assigned-stands its k (T.Scalar x a) (Property y p at) h =
      let c = compared (is_in its y) f y in behind-stands (is_in its y) k y at (Assign k (T.Scalar x a) (one_node f c (type_at ds p) (Property f.iterator p nowhere))) (property-order c (type_at ds p) p, refl)
  assigned-stands its k (T.Scalar x a) (Degree d y at) h = behind-stands (is_in its y) k y at (Assign k (T.Scalar x a) (one_node f (compared (is_in its y) f y) V.I32 (Degree d f.iterator nowhere))) (refl, refl)
  assigned-stands its k (T.Scalar x a) e h = h
  assigned-stands its k (T.Property y p at) e h =
      let x = holder f (type_at ds p) in
      let c = compared (is_in its y) f y in
      checks-stand (is_in its y) k y at (set_to x k e ∷ write_there f c p x ∷ []) (h, (there-stands c p x, tt))

  accesses-stand : (s : Stmt) (its : List ℕ) → StandsIn s → StandsIn (by_loops ds f its s)
  accesses-stand (Then a b) its h = let q = parts-stand a b h in then-stands (by_loops ds f its a) (by_loops ds f its b) (accesses-stand a its q.0) (accesses-stand b its q.1)
  accesses-stand (Declare k x e) its h = declared-stands its k x e h
  accesses-stand (Assign k t e) its h = assigned-stands its k t e h
  accesses-stand (For k at hd e s) its h = let q = for-parts k at hd e s h in let x = accesses-stand s (hd.iterator ∷ its) q.1 in (both_true q.0 x.0, x.1)
  accesses-stand (If k e a b) its h =
      let q = if-parts k e a b h in
      let x = accesses-stand a its q.1.0 in
      let y = accesses-stand b its q.1.1 in
      (both_true q.0 (both_true x.0 y.0), both_true x.1 y.1)
  accesses-stand (While k at e s) its h = let q = while-parts k at e s h in let x = accesses-stand s its q.1 in (both_true q.0 x.0, x.1)
  accesses-stand (Do k at s e) its h = let q = do-parts k at s e h in let x = accesses-stand s its q.1 in (both_true x.0 q.0, x.1)
  accesses-stand s its h = h

pub accesses-keep : (p : Program) → stands_throughout p ≡ true → stands_throughout (without_accesses p) ≡ true
accesses-keep p h = let x = accesses-stand p.declarations (added_at (length p.declarations)) p.body [] (body-stands p h) in both_true x.0 x.1
