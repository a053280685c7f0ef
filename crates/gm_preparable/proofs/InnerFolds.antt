-- Reductions of parallel loops and searches as inner loops.
use Rattle.std.proofs.Common.{ℕ, ◌+◌, Bool, true, false, List, [], ◌∷◌, ◌++◌, Some}
use Rattle.gm_ast.specs.declared.surface.ReductionWord.{ReductionWord}
use Rattle.gm_ast.specs.declared.surface.ReductionWord.TheVariants.{Count}
use Rattle.gm_ast.specs.declared.tree.Fold.{Fold}
use Rattle.gm_ast.specs.declared.tree.Head.{Head}
use Rattle.gm_ast.specs.declared.tree.Key.{Key}
use Rattle.gm_ast.specs.declared.tree.Search.{Search}
use Rattle.gm_ast.specs.declared.tree.Target.{Target}
use Rattle.gm_ast.specs.Program.{Expr, Const, Var, Property, EdgeProperty, Degree, NodeCount, EdgeCount, Live, Unary, Binary, Both, Either, Choose, Folded, Stmt, Then, Declare, Assign, Defer, Combine, Foreach, For, If, While, Do, InBfs, InBfsBoth}
use Rattle.gm_hoisting.specs.Hoisting.{count_folds, has_none, joins, passing, giving, placed, fold_set, folds_set, all_set, told_from, all_told, behind, count_body, body_out, filter_left, under, opened, is_sure, root_checked, count_check, count_loop, count_phase, phase_out}
use Rattle.gm_preparable.proofs.Standing.{Inside, AreInside, Body, Bodies, bodies-both, sequence-body, Phase}

module _ (goes : List Target → Type 0) (single : (t : Target) → goes (t ∷ [])) (inner : ℕ → Type 0) where
  told-inside : (e : Expr) (n : ℕ) → Inside inner e → Inside inner (told_from n e)
  told-inside (Unary op at e) n h = told-inside e n h
  told-inside (Binary op at a b) n h = (told-inside a n h.0, told-inside b (n + count_folds a) h.1)
  told-inside (Both a b) n h = (told-inside a n h.0, told-inside b (n + count_folds a) h.1)
  told-inside (Either a b) n h = (told-inside a n h.0, told-inside b (n + count_folds a) h.1)
  told-inside (Choose c a b) n h = let m = n + count_folds c in (told-inside c n h.0, (told-inside a m h.1.0, told-inside b (m + count_folds a) h.1.1))
  told-inside (Folded f hd test e) n h = tt
  told-inside e n h = h

  all-told-inside : (n : ℕ) (es : List Expr) → AreInside inner es → AreInside inner (all_told n es)
  all-told-inside n [] h = tt
  all-told-inside n (e ∷ es) h = (told-inside e n h.0, all-told-inside (n + count_folds e) es h.1)

  -- ---- one reduction

  passing-inside : (joined : Bool) (test e : Expr) → Inside inner test → Inside inner e → Inside inner (passing joined test e)
  passing-inside true test e h k = (h, k)
  passing-inside false test e h k = h

  giving-stands : (joined : Bool) (word : ReductionWord) (x : ℕ) (f : Fold) (e : Expr) → Inside inner e → Body goes inner (giving joined word x f e)
  giving-stands true word x f e h = (single _, (tt, tt))
  giving-stands false Count x f e h = (h, ((single _, (tt, tt)), tt))
  giving-stands false word x f e h = (single _, (h, tt))

  fold-stands : (n : ℕ) (k : Key) (f g : Fold) (hd : Head) (test e : Expr) → Inside inner (Folded f hd test e) → Bodies goes inner (fold_set n k g hd test e)
  fold-stands n k f g hd test e h = (tt, ((h.0, (passing-inside (joins g.word g) test e h.1.0 h.1.1, giving-stands (joins g.word g) g.word n g e h.1.1)), tt))

  -- ---- those of expressions

  two-folds : (a b : Expr) (n m : ℕ) (k : Key) → Bodies goes inner (folds_set n k a) → Bodies goes inner (folds_set m k b) → Bodies goes inner (folds_set n k a ++ folds_set m k b)
  two-folds a b n m k x y = bodies-both goes inner (folds_set n k a) (folds_set m k b) x y

  folds-stand : (e : Expr) (n : ℕ) (k : Key) → Inside inner e → Bodies goes inner (folds_set n k e)
  folds-stand (Const v) n k h = tt
  folds-stand (Var x at) n k h = tt
  folds-stand (Property x p at) n k h = tt
  folds-stand (EdgeProperty x p at) n k h = tt
  folds-stand (Degree d x at) n k h = tt
  folds-stand NodeCount n k h = tt
  folds-stand EdgeCount n k h = tt
  folds-stand (Live x at) n k h = tt
  folds-stand (Unary op at e) n k h = folds-stand e n k h
  folds-stand (Binary op at a b) n k h = two-folds a b n (n + count_folds a) k (folds-stand a n k h.0) (folds-stand b (n + count_folds a) k h.1)
  folds-stand (Both a b) n k h = two-folds a b n (n + count_folds a) k (folds-stand a n k h.0) (folds-stand b (n + count_folds a) k h.1)
  folds-stand (Either a b) n k h = two-folds a b n (n + count_folds a) k (folds-stand a n k h.0) (folds-stand b (n + count_folds a) k h.1)
  folds-stand (Choose c a b) n k h =
      let m = n + count_folds c in
      bodies-both goes inner (folds_set n k c) (folds_set m k a ++ folds_set (m + count_folds a) k b) (folds-stand c n k h.0)
      (two-folds a b m (m + count_folds a) k (folds-stand a m k h.1.0) (folds-stand b (m + count_folds a) k h.1.1))
  folds-stand (Folded f hd test e) n k h = fold-stands n k f (placed f hd test e) hd test e h

  all-folds-stand : (n : ℕ) (k : Key) (es : List Expr) → AreInside inner es → Bodies goes inner (all_set n k es)
  all-folds-stand n k [] h = tt
  all-folds-stand n k (e ∷ es) h = bodies-both goes inner (folds_set n k e) (all_set (n + count_folds e) k es) (folds-stand e n k h.0) (all-folds-stand (n + count_folds e) k es h.1)

  -- ---- those of statements

  behind-stands : (xs : List Stmt) (s : Stmt) → Bodies goes inner xs → Body goes inner s → Body goes inner (behind xs s)
  behind-stands [] s h k = k
  behind-stands (x ∷ xs) s h k = sequence-body goes inner ((x ∷ xs) ++ (s ∷ [])) (bodies-both goes inner (x ∷ xs) (s ∷ []) h (k, tt))

  body-stands : (s : Stmt) (n : ℕ) → Body goes inner s → Body goes inner (body_out n s)
  body-stands (Then a b) n h = (body-stands a n h.0, body-stands b (n + count_body a) h.1)
  body-stands (Declare k x (Some e)) n h = behind-stands (folds_set n k e) (Declare k x (Some (told_from n e))) (folds-stand e n k h) (told-inside e n h)
  body-stands (Assign k t e) n h = behind-stands (folds_set n k e) (Assign k t (told_from n e)) (folds-stand e n k h) (told-inside e n h)
  body-stands (Defer k t e) n h = behind-stands (folds_set n k e) (Defer k t (told_from n e)) (folds-stand e n k h) (told-inside e n h)
  body-stands (Combine k total r ts es) n h = behind-stands (all_set n k es) (Combine k total r ts (all_told n es)) (all-folds-stand n k es h.1) (h.0, all-told-inside n es h.1)
  body-stands (If k c a b) n h =
      let m = n + count_folds c in
      let l = m + count_body a in
      behind-stands (folds_set n k c) (If k (told_from n c) (body_out m a) (body_out l b)) (folds-stand c n k h.0) (told-inside c n h.0, (body-stands a m h.1.0, body-stands b l h.1.1))
  body-stands s n h = h

  left-inside : (none : Bool) (test : Expr) → Inside inner test → Inside inner (filter_left none test)
  left-inside true test h = h
  left-inside false test h = tt

  under-stands : (none : Bool) (n : ℕ) (k : Key) (test : Expr) (body : Stmt) → Inside inner test → Body goes inner body → Body goes inner (under none n k test body)
  under-stands true n k test body h x = x
  under-stands false n k test body h x = behind-stands (folds_set n k test) _ (folds-stand test n k h) (told-inside test n h, (x, tt))

  opened-stands : (n : ℕ) (k : Key) (test : Expr) (body : Stmt) → Inside inner test → Body goes inner body → Body goes inner (opened n k test body)
  opened-stands n k test body h x = let m = n + count_folds test in under-stands (has_none test) n k test (body_out m body) h (body-stands body m x)

module _ (goes : List Target → Type 0) (single : (t : Target) → goes (t ∷ [])) (outer inner : ℕ → Type 0) where
  checked-stands : (sure : Bool) (n : ℕ) (k : Key) (s : Search) (t : Stmt) → Phase goes outer inner t → Phase goes outer inner (root_checked sure n k s t)
  checked-stands true n k s t h = h
  checked-stands false n k s t h = (tt, (h, tt))

  pub inner-folds-stand : (s : Stmt) (its : List ℕ) (n : ℕ) → Phase goes outer inner s → Phase goes outer inner (phase_out its n s)
  inner-folds-stand (Then a b) its n h = (inner-folds-stand a its n h.0, inner-folds-stand b its (n + count_phase its a) h.1)
  inner-folds-stand (Foreach k at hd test body) its n h = (h.0, (left-inside goes single inner (has_none test) test h.1.0, opened-stands goes single inner n k test body h.1.0 h.1.1))
  inner-folds-stand (For k at hd test body) its n h = (h.0, inner-folds-stand body (hd.iterator ∷ its) n h.1)
  inner-folds-stand (If k c a b) its n h = (h.0, (inner-folds-stand a its n h.1.0, inner-folds-stand b its (n + count_phase its a) h.1.1))
  inner-folds-stand (While k at c body) its n h = (h.0, inner-folds-stand body its n h.1)
  inner-folds-stand (Do k at body c) its n h = (inner-folds-stand body its n h.0, h.1)
  inner-folds-stand (InBfs k at s test body) its n h =
      let m = n + count_check (is_sure its s test) in
      checked-stands (is_sure its s test) n k s _ (h.0, (left-inside goes single inner (has_none test) test h.1.0, opened-stands goes single inner m k test body h.1.0 h.1.1))
  inner-folds-stand (InBfsBoth k at s test body back_key back_test back) its n h =
      let m = n + count_check (is_sure its s test) in
      checked-stands (is_sure its s test) n k s _ (
        h.0,
        (
          (left-inside goes single inner (has_none test) test h.1.0.0, opened-stands goes single inner m k test body h.1.0.0 h.1.0.1),
          (left-inside goes single inner (has_none back_test) back_test h.1.1.0, opened-stands goes single inner (m + count_loop test body) back_key back_test back h.1.1.0 h.1.1.1),
        ),
      )
  inner-folds-stand s its n h = h
