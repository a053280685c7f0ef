-- Reductions in bodies of loops become inner loops: these read no edge, and the others stay.
use Rattle.std.proofs.Common.{◌≡◌, ◌+◌, ℕ, Bool, true, false, List, [], ◌∷◌, ◌++◌, refl, ◌∙◌, Some}
use Rattle.std.specs.Prelude.{◌&&◌}
use Rattle.std.specs.List.{list_all}
use Rattle.std.proofs.lemmas.Bool.{both_ways}
use Rattle.gm_ast.specs.declared.surface.ReductionWord.{ReductionWord}
use Rattle.gm_ast.specs.declared.surface.ReductionWord.TheVariants.{Count}
use Rattle.gm_ast.specs.declared.tree.Declaration.{Declaration}
use Rattle.gm_ast.specs.declared.tree.Fold.{Fold}
use Rattle.gm_ast.specs.declared.tree.Head.{Head}
use Rattle.gm_ast.specs.declared.tree.Key.{Key}
use Rattle.gm_ast.specs.declared.tree.Search.{Search}
use Rattle.gm_ast.specs.declared.tree.Target.TheVariants as T
use Rattle.gm_ast.specs.Loops.{any, is_nodes}
use Rattle.gm_ast.specs.Program.{Expr, Const, Var, Property, EdgeProperty, Degree, NodeCount, EdgeCount, Live, Unary, Binary, Both, Either, Choose, Folded, Stmt, Skip, Then, Declare, Assign, Defer, Combine, Foreach, For, If, While, Do, InBfs, InBfsBoth, sequence}
use Rattle.gm_ast.specs.Ways.{Mention, mentions, is_edge_read}
use Rattle.gm_forms.specs.Forms.{is_flat, is_within, is_inner_head}
use Rattle.gm_forms.specs.Ready.{is_outer_expr, is_phase_expr, is_at_depth, is_outer_code, is_outer_loop, is_phase_code}
use Rattle.gm_forms.proofs.Named.{both-true}
use Rattle.gm_hoisting.specs.Hoisting.{count_folds, has_none, joins, passing, giving, placed, fold_set, folds_set, all_set, told_from, all_told, behind, count_body, body_out, under, opened, is_sure, root_checked, count_check, count_loop, count_phase, phase_out}
use Rattle.gm_one_way.specs.Along.{AllAlong, EachAlong}
use Rattle.gm_push_pull.proofs.Among.{any-append}
use Rattle.gm_along.proofs.Bodies.{Quiet, QuietBody, or-same, loop-quiet}

-- ---- expressions that may read no edge

any-none : (xs ys : List Mention) → any is_edge_read xs ≡ false → any is_edge_read ys ≡ false → any is_edge_read (xs ++ ys) ≡ false
any-none xs ys p q = any-append is_edge_read xs ys ∙ or-same (any is_edge_read xs) (any is_edge_read ys) false false p q

pub flat-quiet : (its : List ℕ) (e : Expr) → is_flat its false e ≡ true → Quiet e
flat-quiet its (Const v) f = refl
flat-quiet its (Var x at) f = refl
flat-quiet its (Property x p at) f = refl
flat-quiet its (EdgeProperty x p at) f = absurd (both_ways false refl f)
flat-quiet its (Degree d x at) f = refl
flat-quiet its NodeCount f = refl
flat-quiet its EdgeCount f = refl
flat-quiet its (Live x at) f = refl
flat-quiet its (Unary op at e) f = flat-quiet its e f
flat-quiet its (Binary op at a b) f = let p = both-true (is_flat its false a) (is_flat its false b) f in any-none (mentions a) (mentions b) (flat-quiet its a p.0) (flat-quiet its b p.1)
flat-quiet its (Both a b) f = let p = both-true (is_flat its false a) (is_flat its false b) f in any-none (mentions a) (mentions b) (flat-quiet its a p.0) (flat-quiet its b p.1)
flat-quiet its (Either a b) f = let p = both-true (is_flat its false a) (is_flat its false b) f in any-none (mentions a) (mentions b) (flat-quiet its a p.0) (flat-quiet its b p.1)
flat-quiet its (Choose c a b) f =
    let p = both-true (is_flat its false c) (is_flat its false a && is_flat its false b) f in
    let q = both-true (is_flat its false a) (is_flat its false b) p.1 in
    any-none (mentions c) (mentions a ++ mentions b) (flat-quiet its c p.0) (any-none (mentions a) (mentions b) (flat-quiet its a q.0) (flat-quiet its b q.1))
flat-quiet its (Folded g h test e) f = absurd (both_ways false refl f)

-- ---- one reduction as an inner loop

passing-quiet : (joined : Bool) (test e : Expr) → Quiet test → Quiet e → Quiet (passing joined test e)
passing-quiet true test e t q = any-none (mentions test) (mentions e) t q
passing-quiet false test e t q = t

giving-quiet : (joined : Bool) (word : ReductionWord) (x : ℕ) (f : Fold) (e : Expr) → Quiet e → QuietBody (giving joined word x f e)
giving-quiet true word x f e q = (refl, tt)
giving-quiet false Count x f e q = (q, ((refl, tt), tt))
giving-quiet false word x f e q = (q, tt)

-- ---- a body of a loop

-- ds: the table in which the form is told; dt: that of the program that comes out; n: the outer iterator
module _ (ds dt : List Declaration) (n : ℕ) where
  abbrev AllIn : List Stmt → Type 0
  AllIn [] = Unit {0}
  AllIn (s ∷ ss) = AllAlong dt n s × AllIn ss

  all-both : (xs ys : List Stmt) → AllIn xs → AllIn ys → AllIn (xs ++ ys)
  all-both [] ys h k = k
  all-both (x ∷ xs) ys h k = (h.0, all-both xs ys h.1 k)

  sequence-all : (ss : List Stmt) → AllIn ss → AllAlong dt n (sequence ss)
  sequence-all [] h = tt
  sequence-all (s ∷ ss) h = (h.0, sequence-all ss h.1)

  fold-all : (x : ℕ) (k : Key) (f : Fold) (h : Head) (test e : Expr) → Quiet test → Quiet e → AllIn (fold_set x k f h test e)
  fold-all x k f h test e t q =
      (tt, (loop-quiet dt n h (passing (joins f.word f) test e) (giving (joins f.word f) f.word x f e) (passing-quiet (joins f.word f) test e t q) (giving-quiet (joins f.word f) f.word x f e q), tt))

  folds-all : (levels : Bool) (e : Expr) (x : ℕ) (k : Key) → is_outer_expr levels n e ≡ true → AllIn (folds_set x k e)
  folds-all levels (Folded f h test e) x k o =
      let p = both-true (is_inner_head levels n h) (is_flat (n ∷ h.iterator ∷ []) false test && is_flat (n ∷ h.iterator ∷ []) false e) o in
      let q = both-true (is_flat (n ∷ h.iterator ∷ []) false test) (is_flat (n ∷ h.iterator ∷ []) false e) p.1 in
      fold-all x k (placed f h test e) h test e (flat-quiet (n ∷ h.iterator ∷ []) test q.0) (flat-quiet (n ∷ h.iterator ∷ []) e q.1)
  folds-all levels (Unary op at e) x k o = folds-all levels e x k o
  folds-all levels (Binary op at a b) x k o =
      let p = both-true (is_outer_expr levels n a) (is_outer_expr levels n b) o in
      all-both (folds_set x k a) (folds_set (x + count_folds a) k b) (folds-all levels a x k p.0) (folds-all levels b (x + count_folds a) k p.1)
  folds-all levels (Both a b) x k o =
      let p = both-true (is_outer_expr levels n a) (is_outer_expr levels n b) o in
      all-both (folds_set x k a) (folds_set (x + count_folds a) k b) (folds-all levels a x k p.0) (folds-all levels b (x + count_folds a) k p.1)
  folds-all levels (Either a b) x k o =
      let p = both-true (is_outer_expr levels n a) (is_outer_expr levels n b) o in
      all-both (folds_set x k a) (folds_set (x + count_folds a) k b) (folds-all levels a x k p.0) (folds-all levels b (x + count_folds a) k p.1)
  folds-all levels (Choose c a b) x k o =
      let p = both-true (is_outer_expr levels n c) (is_outer_expr levels n a && is_outer_expr levels n b) o in
      let q = both-true (is_outer_expr levels n a) (is_outer_expr levels n b) p.1 in
      let y = x + count_folds c in
      all-both (folds_set x k c) (folds_set y k a ++ folds_set (y + count_folds a) k b) (folds-all levels c x k p.0)
      (all-both (folds_set y k a) (folds_set (y + count_folds a) k b) (folds-all levels a y k q.0) (folds-all levels b (y + count_folds a) k q.1))
  folds-all levels e x k o = tt

  all-folds-all : (levels : Bool) (es : List Expr) (x : ℕ) (k : Key) → list_all (is_outer_expr levels n) es ≡ true → AllIn (all_set x k es)
  all-folds-all levels [] x k o = tt
  all-folds-all levels (e ∷ es) x k o =
      let p = both-true (is_outer_expr levels n e) (list_all (is_outer_expr levels n) es) o in
      all-both (folds_set x k e) (all_set (x + count_folds e) k es) (folds-all levels e x k p.0) (all-folds-all levels es (x + count_folds e) k p.1)

  behind-all : (xs : List Stmt) (s : Stmt) → AllIn xs → AllAlong dt n s → AllAlong dt n (behind xs s)
  behind-all [] s h k = k
  behind-all (x ∷ xs) s h k = sequence-all ((x ∷ xs) ++ (s ∷ [])) (all-both (x ∷ xs) (s ∷ []) h (k, tt))

  body-all : (levels : Bool) (s : Stmt) (x : ℕ) → is_outer_code ds levels n s ≡ true → AllAlong dt n s → AllAlong dt n (body_out x s)
  body-all levels (Then a b) x o e =
      let p = both-true (is_outer_code ds levels n a) (is_outer_code ds levels n b) o in (body-all levels a x p.0 e.0, body-all levels b (x + count_body a) p.1 e.1)
  body-all levels (Declare k y (Some v)) x o e = behind-all (folds_set x k v) (Declare k y (Some (told_from x v))) (folds-all levels v x k (both-true _ (is_outer_expr levels n v) o).1) tt
  body-all levels (Assign k t v) x o e = behind-all (folds_set x k v) (Assign k t (told_from x v)) (folds-all levels v x k (both-true (is_at_depth ds 1 n t) (is_outer_expr levels n v) o).1) tt
  body-all levels (Defer k (T.Property y p at) v) x o e = behind-all (folds_set x k v) (Defer k (T.Property y p at) (told_from x v)) (folds-all levels v x k (both-true _ (is_outer_expr levels n v) o).1) tt
  body-all levels (Defer k (T.Scalar y at) v) x o e = absurd (both_ways false refl o)
  body-all levels (Combine k total r ts es) x o e =
      behind-all (all_set x k es) (Combine k total r ts (all_told x es)) (all-folds-all levels es x k (both-true (list_all (is_within ds 1) ts) (list_all (is_outer_expr levels n) es) o).1) tt
  body-all levels (If k c a b) x o e =
      let p = both-true (is_outer_expr levels n c) (is_outer_code ds levels n a && is_outer_code ds levels n b) o in
      let q = both-true (is_outer_code ds levels n a) (is_outer_code ds levels n b) p.1 in
      let y = x + count_folds c in
      let z = y + count_body a in
      behind-all (folds_set x k c) (If k (told_from x c) (body_out y a) (body_out z b)) (folds-all levels c x k p.0) (body-all levels a y q.0 e.0, body-all levels b z q.1 e.1)
  body-all levels s x o e = e

  under-all : (none : Bool) (levels : Bool) (x : ℕ) (k : Key) (test : Expr) (body : Stmt) → is_outer_expr levels n test ≡ true → AllAlong dt n body → AllAlong dt n (under none x k test body)
  under-all true levels x k test body o e = e
  under-all false levels x k test body o e = behind-all (folds_set x k test) (If k (told_from x test) body Skip) (folds-all levels test x k o) (e, tt)

  -- the filter of a search asks for no levels
  opened-all : (levels : Bool) (x : ℕ) (k : Key) (test : Expr) (body : Stmt) → is_outer_expr false n test ≡ true → is_outer_code ds levels n body ≡ true → AllAlong dt n body → AllAlong dt n (opened x k test body)
  opened-all levels x k test body t o e =
      let y = x + count_folds test in under-all (has_none test) false x k test (body_out y body) t (body-all levels body y o e)

-- ---- a sequential phase

module _ (ds dt : List Declaration) where
  checked-along : (sure : Bool) (x : ℕ) (k : Key) (s : Search) (t : Stmt) → EachAlong dt t → EachAlong dt (root_checked sure x k s t)
  checked-along true x k s t e = e
  checked-along false x k s t e = (tt, (e, tt))

  pub hoists-along : (s : Stmt) (its : List ℕ) (x : ℕ) → is_phase_code ds s ≡ true → EachAlong dt s → EachAlong dt (phase_out its x s)
  hoists-along (Then a b) its x o e =
      let p = both-true (is_phase_code ds a) (is_phase_code ds b) o in (hoists-along a its x p.0 e.0, hoists-along b its (x + count_phase its a) p.1 e.1)
  hoists-along (Foreach k at h test body) its x o e =
      let p = both-true (is_nodes h.domain) (is_outer_loop ds false h.iterator test body) o in
      let q = both-true (is_outer_expr false h.iterator test) (is_outer_code ds false h.iterator body) p.1 in
      opened-all ds dt h.iterator false x k test body q.0 q.1 e
  hoists-along (For k at h test body) its x o e =
      let p = both-true (is_nodes h.domain) (is_phase_expr test && is_phase_code ds body) o in hoists-along body (h.iterator ∷ its) x (both-true (is_phase_expr test) (is_phase_code ds body) p.1).1 e
  hoists-along (If k c a b) its x o e =
      let p = both-true (is_phase_expr c) (is_phase_code ds a && is_phase_code ds b) o in
      let q = both-true (is_phase_code ds a) (is_phase_code ds b) p.1 in
      (hoists-along a its x q.0 e.0, hoists-along b its (x + count_phase its a) q.1 e.1)
  hoists-along (While k at c body) its x o e = hoists-along body its x (both-true (is_phase_expr c) (is_phase_code ds body) o).1 e
  hoists-along (Do k at body c) its x o e = hoists-along body its x (both-true (is_phase_code ds body) (is_phase_expr c) o).0 e
  hoists-along (InBfs k at s test body) its x o e =
      let y = x + count_check (is_sure its s test) in
      let q = both-true (is_outer_expr false s.iterator test) (is_outer_code ds true s.iterator body) o in
      checked-along (is_sure its s test) x k s _ (opened-all ds dt s.iterator true y k test body q.0 q.1 e)
  hoists-along (InBfsBoth k at s test body back_key back_test back) its x o e =
      let y = x + count_check (is_sure its s test) in
      let z = y + count_loop test body in
      let p = both-true (is_outer_expr false s.iterator test) (is_outer_code ds true s.iterator body && (is_outer_expr false s.iterator back_test && is_outer_code ds true s.iterator back)) o in
      let q = both-true (is_outer_code ds true s.iterator body) (is_outer_expr false s.iterator back_test && is_outer_code ds true s.iterator back) p.1 in
      let r = both-true (is_outer_expr false s.iterator back_test) (is_outer_code ds true s.iterator back) q.1 in
      checked-along (is_sure its s test) x k s _ (opened-all ds dt s.iterator true y k test body p.0 q.0 e.0, opened-all ds dt s.iterator true z back_key back_test back r.0 r.1 e.1)
  hoists-along s its x o e = e
