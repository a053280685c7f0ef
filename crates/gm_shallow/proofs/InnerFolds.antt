-- Reductions of parallel bodies as inner loops add no level.
use Rattle.std.proofs.Common.{◌≡◌, ◌≤◌, ◌+◌, ℕ, Bool, true, false, List, [], ◌∷◌, ◌++◌, length, arith, Some, suc, max}
use Rattle.gm_ast.specs.declared.surface.ReductionWord.{ReductionWord}
use Rattle.gm_ast.specs.declared.surface.ReductionWord.TheVariants.{Count}
use Rattle.gm_ast.specs.declared.tree.Fold.{Fold}
use Rattle.gm_ast.specs.declared.tree.Head.{Head}
use Rattle.gm_ast.specs.declared.tree.Key.{Key}
use Rattle.gm_ast.specs.declared.tree.Search.{Search}
use Rattle.gm_ast.specs.Program.{Expr, Const, Var, Property, EdgeProperty, Degree, NodeCount, EdgeCount, Live, Unary, Binary, Both, Either, Choose, Folded, Stmt, Then, Declare, Assign, Defer, Combine, Foreach, For, If, While, Do, InBfs, InBfsBoth, Program}
use Rattle.gm_hoisting.specs.Hoisting.{count_folds, is_sure, has_none, joins, passing, giving, placed, fold_set, folds_set, all_set, told_from, all_told, behind, count_body, body_out, filter_left, under, opened, root_checked, count_check, count_loop, count_phase, phase_out, without_inner_folds}
use Rattle.gm_depth.specs.Depths.{depth, all_within}
use Rattle.gm_depth.proofs.Limits.{Within, AreWithin, AllWithin, parts, whole}
use Rattle.gm_shallow.proofs.Statements.{Several, several-both, sequence-within}
use Rattle.gm_depth.specs.Nesting.{body_nesting, nesting}
use Rattle.gm_shallow.proofs.Nesting.{both, EachInside, inside-both, sequence-inside}

told-depth : (e : Expr) (n : ℕ) → depth (told_from n e) ≤ depth e
told-depth (Unary op at e) n = let x : depth (told_from n e) ≤ depth e = told-depth e n in omega arith
told-depth (Binary op at a b) n =
    let m = n + count_folds a in
    let x : depth (told_from n a) ≤ depth a = told-depth a n in
    let y : depth (told_from m b) ≤ depth b = told-depth b m in
    omega arith
told-depth (Both a b) n =
    let m = n + count_folds a in
    let x : depth (told_from n a) ≤ depth a = told-depth a n in
    let y : depth (told_from m b) ≤ depth b = told-depth b m in
    omega arith
told-depth (Either a b) n =
    let m = n + count_folds a in
    let x : depth (told_from n a) ≤ depth a = told-depth a n in
    let y : depth (told_from m b) ≤ depth b = told-depth b m in
    omega arith
told-depth (Choose c a b) n =
    let m = n + count_folds c in
    let l = m + count_folds a in
    let x : depth (told_from n c) ≤ depth c = told-depth c n in
    let y : depth (told_from m a) ≤ depth a = told-depth a m in
    let z : depth (told_from l b) ≤ depth b = told-depth b l in
    omega arith
told-depth (Folded f h test e) n = omega arith
told-depth e n = omega arith

module _ (limit : ℕ) (one : 1 ≤ limit) where
  told-within : (e : Expr) (n : ℕ) → Within limit e → Within limit (told_from n e)
  told-within e n h = let x : depth (told_from n e) ≤ depth e = told-depth e n in omega arith

  all-told-within : (n : ℕ) (es : List Expr) → AreWithin limit es → AreWithin limit (all_told n es)
  all-told-within n [] h = tt
  all-told-within n (e ∷ es) h = (told-within e n h.0, all-told-within (n + count_folds e) es h.1)

  -- ---- one reduction

  passing-within : (joined : Bool) (f : Fold) (hd : Head) (test e : Expr) → Within limit (Folded f hd test e) → Within limit (passing joined test e)
  passing-within true f hd test e h = h
  passing-within false f hd test e h = omega arith

  giving-within : (joined : Bool) (word : ReductionWord) (x : ℕ) (f : Fold) (e : Expr) → Within limit e → AllWithin limit (giving joined word x f e)
  giving-within true word x f e h = (one, tt)
  giving-within false Count x f e h = (h, ((one, tt), tt))
  giving-within false word x f e h = (h, tt)

  fold-within : (n : ℕ) (k : Key) (f g : Fold) (hd : Head) (test e : Expr) → Within limit (Folded f hd test e) → Several limit (fold_set n k g hd test e)
  fold-within n k f g hd test e h =
      let v : depth e ≤ limit = omega arith in
      (one, ((passing-within (joins g.word g) f hd test e h, giving-within (joins g.word g) g.word n g e v), tt))

  -- ---- those of expressions

  two-folds : (a b : Expr) (n m : ℕ) (k : Key) → Several limit (folds_set n k a) → Several limit (folds_set m k b) → Several limit (folds_set n k a ++ folds_set m k b)
  two-folds a b n m k x y = several-both limit (folds_set n k a) (folds_set m k b) x y

  folds-within : (e : Expr) (n : ℕ) (k : Key) → Within limit e → Several limit (folds_set n k e)
  folds-within (Const v) n k h = tt
  folds-within (Var x at) n k h = tt
  folds-within (Property x p at) n k h = tt
  folds-within (EdgeProperty x p at) n k h = tt
  folds-within (Degree d x at) n k h = tt
  folds-within NodeCount n k h = tt
  folds-within EdgeCount n k h = tt
  folds-within (Live x at) n k h = tt
  folds-within (Unary op at e) n k h = folds-within e n k (omega arith)
  folds-within (Binary op at a b) n k h = two-folds a b n (n + count_folds a) k (folds-within a n k (omega arith)) (folds-within b (n + count_folds a) k (omega arith))
  folds-within (Both a b) n k h = two-folds a b n (n + count_folds a) k (folds-within a n k (omega arith)) (folds-within b (n + count_folds a) k (omega arith))
  folds-within (Either a b) n k h = two-folds a b n (n + count_folds a) k (folds-within a n k (omega arith)) (folds-within b (n + count_folds a) k (omega arith))
  folds-within (Choose c a b) n k h =
      let m = n + count_folds c in
      several-both limit (folds_set n k c) (folds_set m k a ++ folds_set (m + count_folds a) k b) (folds-within c n k (omega arith))
      (two-folds a b m (m + count_folds a) k (folds-within a m k (omega arith)) (folds-within b (m + count_folds a) k (omega arith)))
  folds-within (Folded f hd test e) n k h = fold-within n k f (placed f hd test e) hd test e h

  all-folds-within : (n : ℕ) (k : Key) (es : List Expr) → AreWithin limit es → Several limit (all_set n k es)
  all-folds-within n k [] h = tt
  all-folds-within n k (e ∷ es) h = several-both limit (folds_set n k e) (all_set (n + count_folds e) k es) (folds-within e n k h.0) (all-folds-within (n + count_folds e) k es h.1)

  -- ---- those of statements

  behind-within : (xs : List Stmt) (s : Stmt) → Several limit xs → AllWithin limit s → AllWithin limit (behind xs s)
  behind-within [] s h k = k
  behind-within (x ∷ xs) s h k = sequence-within limit ((x ∷ xs) ++ (s ∷ [])) (several-both limit (x ∷ xs) (s ∷ []) h (k, tt))

  body-within : (s : Stmt) (n : ℕ) → AllWithin limit s → AllWithin limit (body_out n s)
  body-within (Then a b) n h = (body-within a n h.0, body-within b (n + count_body a) h.1)
  body-within (Declare k x (Some e)) n h = behind-within (folds_set n k e) (Declare k x (Some (told_from n e))) (folds-within e n k h) (told-within e n h)
  body-within (Assign k t e) n h = behind-within (folds_set n k e) (Assign k t (told_from n e)) (folds-within e n k h) (told-within e n h)
  body-within (Defer k t e) n h = behind-within (folds_set n k e) (Defer k t (told_from n e)) (folds-within e n k h) (told-within e n h)
  body-within (Combine k total r ts es) n h = behind-within (all_set n k es) (Combine k total r ts (all_told n es)) (all-folds-within n k es h) (all-told-within n es h)
  body-within (If k c a b) n h =
      let m = n + count_folds c in
      let l = m + count_body a in
      behind-within (folds_set n k c) (If k (told_from n c) (body_out m a) (body_out l b)) (folds-within c n k h.0) (told-within c n h.0, (body-within a m h.1.0, body-within b l h.1.1))
  body-within s n h = h

  left-within : (none : Bool) (test : Expr) → Within limit test → Within limit (filter_left none test)
  left-within true test h = h
  left-within false test h = one

  under-within : (none : Bool) (n : ℕ) (k : Key) (test : Expr) (body : Stmt) → Within limit test → AllWithin limit body → AllWithin limit (under none n k test body)
  under-within true n k test body h x = x
  under-within false n k test body h x = behind-within (folds_set n k test) _ (folds-within test n k h) (told-within test n h, (x, tt))

  opened-within : (n : ℕ) (k : Key) (test : Expr) (body : Stmt) → Within limit test → AllWithin limit body → AllWithin limit (opened n k test body)
  opened-within n k test body h x = let m = n + count_folds test in under-within (has_none test) n k test (body_out m body) h (body-within body m x)

  checked-within : (none : Bool) (n : ℕ) (k : Key) (s : Search) (t : Stmt) → AllWithin limit t → AllWithin limit (root_checked none n k s t)
  checked-within true n k s t h = h
  checked-within false n k s t h = (one, (h, tt))

  phase-within : (s : Stmt) (its : List ℕ) (n : ℕ) → AllWithin limit s → AllWithin limit (phase_out its n s)
  phase-within (Then a b) its n h = (phase-within a its n h.0, phase-within b its (n + count_phase its a) h.1)
  phase-within (Foreach k at hd test body) its n h = (left-within (has_none test) test h.0, opened-within n k test body h.0 h.1)
  phase-within (For k at hd test body) its n h = (h.0, phase-within body (hd.iterator ∷ its) n h.1)
  phase-within (If k c a b) its n h = (h.0, (phase-within a its n h.1.0, phase-within b its (n + count_phase its a) h.1.1))
  phase-within (While k at c body) its n h = (h.0, phase-within body its n h.1)
  phase-within (Do k at body c) its n h = (phase-within body its n h.0, h.1)
  phase-within (InBfs k at s test body) its n h =
      let m = n + count_check (is_sure its s test) in
      checked-within (is_sure its s test) n k s _ (left-within (has_none test) test h.0, opened-within m k test body h.0 h.1)
  phase-within (InBfsBoth k at s test body back_key back_test back) its n h =
      let m = n + count_check (is_sure its s test) in
      checked-within (is_sure its s test) n k s _
      (left-within (has_none test) test h.0, (opened-within m k test body h.0 h.1.0, (left-within (has_none back_test) back_test h.1.1.0, opened-within (m + count_loop test body) back_key back_test back h.1.1.0 h.1.1.1)))
  phase-within s its n h = h

pub inner-folds-keep : (n : ℕ) (p : Program) → 1 ≤ n → all_within n p.body ≡ true → all_within n (without_inner_folds p).body ≡ true
inner-folds-keep n p one h = whole n (phase_out [] (length p.declarations) p.body) (phase-within n one p.body [] (length p.declarations) (parts n p.body h))

-- ---- Ifs within one another: one more where a filter has a reduction

folds-flat : (e : Expr) (n : ℕ) (k : Key) → EachInside 0 (folds_set n k e)
folds-flat (Const v) n k = tt
folds-flat (Var x at) n k = tt
folds-flat (Property x p at) n k = tt
folds-flat (EdgeProperty x p at) n k = tt
folds-flat (Degree d x at) n k = tt
folds-flat NodeCount n k = tt
folds-flat EdgeCount n k = tt
folds-flat (Live x at) n k = tt
folds-flat (Unary op at e) n k = folds-flat e n k
folds-flat (Binary op at a b) n k = let m = n + count_folds a in inside-both 0 (folds_set n k a) (folds_set m k b) (folds-flat a n k) (folds-flat b m k)
folds-flat (Both a b) n k = let m = n + count_folds a in inside-both 0 (folds_set n k a) (folds_set m k b) (folds-flat a n k) (folds-flat b m k)
folds-flat (Either a b) n k = let m = n + count_folds a in inside-both 0 (folds_set n k a) (folds_set m k b) (folds-flat a n k) (folds-flat b m k)
folds-flat (Choose c a b) n k =
    let m = n + count_folds c in
    let l = m + count_folds a in
    inside-both 0 (folds_set n k c) (folds_set m k a ++ folds_set l k b) (folds-flat c n k) (inside-both 0 (folds_set m k a) (folds_set l k b) (folds-flat a m k) (folds-flat b l k))
folds-flat (Folded f hd test e) n k = (omega arith, (omega arith, tt))

all-folds-flat : (n : ℕ) (k : Key) (es : List Expr) → EachInside 0 (all_set n k es)
all-folds-flat n k [] = tt
all-folds-flat n k (e ∷ es) = inside-both 0 (folds_set n k e) (all_set (n + count_folds e) k es) (folds-flat e n k) (all-folds-flat (n + count_folds e) k es)

flat-more : (m : ℕ) (xs : List Stmt) → EachInside 0 xs → EachInside m xs
flat-more m [] h = tt
flat-more m (x ∷ xs) h = (let u : body_nesting x ≤ 0 = h.0 in omega arith, flat-more m xs h.1)

behind-nests : (m : ℕ) (xs : List Stmt) (s : Stmt) → EachInside 0 xs → body_nesting s ≤ m → body_nesting (behind xs s) ≤ m
behind-nests m [] s h k = k
behind-nests m (x ∷ xs) s h k = sequence-inside m ((x ∷ xs) ++ (s ∷ [])) (inside-both m (x ∷ xs) (s ∷ []) (flat-more m (x ∷ xs) h) (k, tt))

body-nests : (s : Stmt) (n : ℕ) → body_nesting (body_out n s) ≤ body_nesting s
body-nests (Then a b) n = both (body-nests a n) (body-nests b (n + count_body a))
body-nests (Declare k x (Some e)) n = behind-nests 0 (folds_set n k e) (Declare k x (Some (told_from n e))) (folds-flat e n k) (omega arith)
body-nests (Assign k t e) n = behind-nests 0 (folds_set n k e) (Assign k t (told_from n e)) (folds-flat e n k) (omega arith)
body-nests (Defer k t e) n = behind-nests 0 (folds_set n k e) (Defer k t (told_from n e)) (folds-flat e n k) (omega arith)
body-nests (Combine k total r ts es) n = behind-nests 0 (all_set n k es) (Combine k total r ts (all_told n es)) (all-folds-flat n k es) (omega arith)
body-nests (If k c a b) n =
    let m = n + count_folds c in
    let l = m + count_body a in
    let u : body_nesting (body_out m a) ≤ body_nesting a = body-nests a m in
    let v : body_nesting (body_out l b) ≤ body_nesting b = body-nests b l in
    behind-nests (suc (max (body_nesting a) (body_nesting b))) (folds_set n k c) (If k (told_from n c) (body_out m a) (body_out l b)) (folds-flat c n k) (omega arith)
body-nests s n = omega arith

under-nests : (none : Bool) (n : ℕ) (k : Key) (test : Expr) (body : Stmt) → body_nesting (under none n k test body) ≤ suc (body_nesting body)
under-nests true n k test body = omega arith
under-nests false n k test body = behind-nests (suc (body_nesting body)) (folds_set n k test) _ (folds-flat test n k) (omega arith)

opened-nests : (n : ℕ) (k : Key) (test : Expr) (body : Stmt) → body_nesting (opened n k test body) ≤ suc (body_nesting body)
opened-nests n k test body =
    let m = n + count_folds test in
    let u : body_nesting (body_out m body) ≤ body_nesting body = body-nests body m in
    let v : body_nesting (under (has_none test) n k test (body_out m body)) ≤ suc (body_nesting (body_out m body)) = under-nests (has_none test) n k test (body_out m body) in
    omega arith

checked-nests : (m : ℕ) (none : Bool) (n : ℕ) (k : Key) (s : Search) (t : Stmt) → nesting t ≤ m → nesting (root_checked none n k s t) ≤ m
checked-nests m true n k s t h = h
checked-nests m false n k s t h = omega arith

phase-nests : (s : Stmt) (its : List ℕ) (n : ℕ) → nesting (phase_out its n s) ≤ suc (nesting s)
phase-nests (Then a b) its n =
    let m = n + count_phase its a in
    let u : nesting (phase_out its n a) ≤ suc (nesting a) = phase-nests a its n in
    let v : nesting (phase_out its m b) ≤ suc (nesting b) = phase-nests b its m in
    omega arith
phase-nests (Foreach k at hd test body) its n = opened-nests n k test body
phase-nests (For k at hd test body) its n = phase-nests body (hd.iterator ∷ its) n
phase-nests (If k c a b) its n =
    let m = n + count_phase its a in
    let u : nesting (phase_out its n a) ≤ suc (nesting a) = phase-nests a its n in
    let v : nesting (phase_out its m b) ≤ suc (nesting b) = phase-nests b its m in
    omega arith
phase-nests (While k at c body) its n = phase-nests body its n
phase-nests (Do k at body c) its n = phase-nests body its n
phase-nests (InBfs k at s test body) its n =
    let m = n + count_check (is_sure its s test) in
    checked-nests (suc (body_nesting body)) (is_sure its s test) n k s _ (opened-nests m k test body)
phase-nests (InBfsBoth k at s test body back_key back_test back) its n =
    let m = n + count_check (is_sure its s test) in
    let l = m + count_loop test body in
    let u : body_nesting (opened m k test body) ≤ suc (body_nesting body) = opened-nests m k test body in
    let v : body_nesting (opened l back_key back_test back) ≤ suc (body_nesting back) = opened-nests l back_key back_test back in
    checked-nests (suc (max (body_nesting body) (body_nesting back))) (is_sure its s test) n k s _ (omega arith)
phase-nests s its n = omega arith

pub inner-folds-nest : (p : Program) → nesting (without_inner_folds p).body ≤ suc (nesting p.body)
inner-folds-nest p = phase-nests p.body [] (length p.declarations)
