-- Passes up to loops in place of the reductions of sequential phases: inner loops stay as they are, but for literals and compound assignments.
use Rattle.std.proofs.Common.{◌≡◌, ◌+◌, ℕ, Bool, true, false, List, [], ◌∷◌, ◌++◌, length, refl, ap, ◌∙◌, Option, Some}
use Rattle.std.specs.Prelude.{if◌then◌else◌, nat_le, Result, Ok, Err}
use Rattle.std.specs.List.{list_all}
use Rattle.gm_base.specs.declared.places.Place.{Place}
use Rattle.gm_value.specs.declared.faults.FaultKind.{FaultKind}
use Rattle.gm_value.specs.declared.operations.Op1.{Op1}
use Rattle.gm_value.specs.declared.operations.Op1.TheVariants.{Neg}
use Rattle.gm_value.specs.declared.reductions.Reduce.{Reduce}
use Rattle.gm_value.specs.declared.values.Value.{Value}
use Rattle.gm_value.specs.declared.values.VType.TheVariants.{I32}
use Rattle.gm_value.specs.Operations.{result1}
use Rattle.gm_ast.specs.declared.surface.ReductionWord.{ReductionWord}
use Rattle.gm_ast.specs.declared.surface.ReductionWord.TheVariants.{Count}
use Rattle.gm_ast.specs.declared.tree.Declaration.{Declaration}
use Rattle.gm_ast.specs.declared.tree.Fold.{Fold}
use Rattle.gm_ast.specs.declared.tree.Head.{Head}
use Rattle.gm_ast.specs.declared.tree.Key.{Key}
use Rattle.gm_ast.specs.declared.tree.Target.{Target}
use Rattle.gm_ast.specs.declared.tree.Target.TheVariants as T
use Rattle.gm_ast.specs.declared.tree.TotalKey.{TotalKey}
use Rattle.gm_ast.specs.Program.{Expr, Const, Property, Degree, Live, Unary, Binary, Both, Either, Choose, Folded, Stmt, Then, Declare, Assign, Combine, Group, Foreach, For, If, While, Do, InBfs, InBfsBoth, Return, Program, sequence}
use Rattle.gm_ast.specs.Ways.{Mention, mentions, is_in}
use Rattle.gm_semantics.specs.Frames.{NamesBelow}
use Rattle.gm_semantics.specs.Iterations.{target_value}
use Rattle.gm_forms.specs.Ready.{Ready0}
use Rattle.gm_forms.specs.Typing.{keeps_tuples, type_at}
use Rattle.gm_forms.specs.Uses.{suits, uses_of}
use Rattle.gm_forms.specs.Sharing.{are_at_once}
use Rattle.gm_forms.specs.Forms.{is_told}
use Rattle.gm_forms.proofs.Named.{both-true, names-below}
use Rattle.gm_desugar.specs.Groups.{ungrouped}
use Rattle.gm_desugar.specs.Compounds.{operated, assignment_of, expanded_in, expanded}
use Rattle.gm_desugar.specs.Literals.{constant_or, negated, applied, with_literals, each_expr_in, each_expr}
use Rattle.gm_desugar.specs.Conditions.{nowhere, set_to, if_hoisted, for_hoisted, while_hoisted, do_hoisted, hoisted}
use Rattle.gm_desugar.specs.Reads.{is_single, stays_alone, count_read, count_reads, reads_set, told_from, after_reads, apart}
use Rattle.gm_picks.specs.Picks.{count_held, count_picks, property_set, held, held_set, all_set, all_told, written_back, onto_scalars, taken}
use Rattle.gm_reductions.specs.Accesses.{holder, one_node, compared, checks, after_check, write_there, declared_by_loops, assigned_by_loops, by_loops}
use Rattle.gm_reductions.specs.declared.accesses.Fresh.{Fresh}
use Rattle.gm_reductions.specs.Folds.{given, assigned_out, declared_out, folds_out}
use Rattle.gm_one_way.specs.Along.{AllAlong, EachAlong}
use Rattle.gm_one_way.proofs.Outer.{all-stay}
use Rattle.gm_along.proofs.Bodies.{loop-each, loop-expanded}

-- the names of a program stand in its table
pub names-of : (p : Program) → Ready0 p → NamesBelow (length p.declarations) p.body
names-of p ready = names-below p.declarations p.body (both-true (nat_le (p.inputs + p.outputs) (length p.declarations)) (list_all (suits p.declarations) (uses_of p.body)) ready.sane.named).1

-- ---- longer tables

pub each-stay : (ds more : List Declaration) (s : Stmt) → NamesBelow (length ds) s → EachAlong ds s → EachAlong (ds ++ more) s
each-stay ds more (Then a b) l e = (each-stay ds more a l.0 e.0, each-stay ds more b l.1 e.1)
each-stay ds more (If k c a b) l e = (each-stay ds more a l.1 e.0, each-stay ds more b l.2 e.1)
each-stay ds more (Foreach k at h test body) l e = all-stay ds more h.iterator body l.3 e
each-stay ds more (For k at h test body) l e = each-stay ds more body l.3 e
each-stay ds more (While k at c body) l e = each-stay ds more body l.1 e
each-stay ds more (Do k at body c) l e = each-stay ds more body l.0 e
each-stay ds more (InBfs k at s test body) l e = all-stay ds more s.iterator body l.3 e
each-stay ds more (InBfsBoth k at s test body back_key back_test back) l e = (all-stay ds more s.iterator body l.3 e.0, all-stay ds more s.iterator back l.5 e.1)
each-stay ds more s l e = tt

-- ---- several statements

abbrev pub EachIn : List Declaration → List Stmt → Type 0
EachIn ds [] = Unit {0}
EachIn ds (s ∷ ss) = EachAlong ds s × EachIn ds ss

pub each-both : (ds : List Declaration) (xs ys : List Stmt) → EachIn ds xs → EachIn ds ys → EachIn ds (xs ++ ys)
each-both ds [] ys h k = k
each-both ds (x ∷ xs) ys h k = (h.0, each-both ds xs ys h.1 k)

pub sequence-along : (ds : List Declaration) (ss : List Stmt) → EachIn ds ss → EachAlong ds (sequence ss)
sequence-along ds [] h = tt
sequence-along ds (s ∷ ss) h = (h.0, sequence-along ds ss h.1)

module _ (ds : List Declaration) where
  -- ---- group assignments

  pub groups-along : (s : Stmt) → EachAlong ds s → EachAlong ds (ungrouped s)
  groups-along (Then a b) e = (groups-along a e.0, groups-along b e.1)
  groups-along (Group k at g p v) e = tt
  groups-along (For k at h test s) e = groups-along s e
  groups-along (If k c a b) e = (groups-along a e.0, groups-along b e.1)
  groups-along (While k at c s) e = groups-along s e
  groups-along (Do k at s c) e = groups-along s e
  groups-along s e = e

  -- ---- compound assignments

  assigned-outer : (n : ℕ) (k : Key) (total : TotalKey) (r : Reduce) (ts : List Target) (es : List Expr) → AllAlong ds n (assignment_of k total r ts es)
  assigned-outer n k total r [] es = tt
  assigned-outer n k total r (t ∷ []) [] = tt
  assigned-outer n k total r (t ∷ []) (e ∷ (d ∷ es)) = tt
  assigned-outer n k total r (t ∷ (u ∷ ts)) es = tt
  assigned-outer n k total r (t ∷ []) (e ∷ []) = by (keeps_tuples r)
    where
      by : (b : Bool) → AllAlong ds n (if b then Combine k total r (t ∷ []) (e ∷ []) else Assign k t (operated r total.place (target_value t) e))
      by true = tt
      by false = tt

  expanded-outer : (n : ℕ) (s : Stmt) → AllAlong ds n s → AllAlong ds n (expanded_in ds n false s)
  expanded-outer n (Then a b) e = (expanded-outer n a e.0, expanded-outer n b e.1)
  expanded-outer n (If k c a b) e = (expanded-outer n a e.0, expanded-outer n b e.1)
  expanded-outer n (Foreach k at h test body) e = loop-expanded ds n h test body e
  expanded-outer n (Combine k total r ts es) e = by (are_at_once ds n false ts)
    where
      by : (o : Bool) → AllAlong ds n (if o then assignment_of k total r ts es else Combine k total r ts es)
      by true = assigned-outer n k total r ts es
      by false = tt
  expanded-outer n s e = e

  assigned-phase : (k : Key) (total : TotalKey) (r : Reduce) (ts : List Target) (es : List Expr) → EachAlong ds (assignment_of k total r ts es)
  assigned-phase k total r [] es = tt
  assigned-phase k total r (t ∷ []) [] = tt
  assigned-phase k total r (t ∷ []) (e ∷ (d ∷ es)) = tt
  assigned-phase k total r (t ∷ (u ∷ ts)) es = tt
  assigned-phase k total r (t ∷ []) (e ∷ []) = by (keeps_tuples r)
    where
      by : (b : Bool) → EachAlong ds (if b then Combine k total r (t ∷ []) (e ∷ []) else Assign k t (operated r total.place (target_value t) e))
      by true = tt
      by false = tt

  pub compounds-along : (s : Stmt) → EachAlong ds s → EachAlong ds (expanded ds s)
  compounds-along (Then a b) e = (compounds-along a e.0, compounds-along b e.1)
  compounds-along (Combine k total r ts es) e = assigned-phase k total r ts es
  compounds-along (Foreach k at h test body) e = expanded-outer h.iterator body e
  compounds-along (For k at h test s) e = compounds-along s e
  compounds-along (If k c a b) e = (compounds-along a e.0, compounds-along b e.1)
  compounds-along (While k at c s) e = compounds-along s e
  compounds-along (Do k at s c) e = compounds-along s e
  compounds-along (InBfs k at search test body) e = expanded-outer search.iterator body e
  compounds-along (InBfsBoth k at search test body back_key back_test back) e = (expanded-outer search.iterator body e.0, expanded-outer search.iterator back e.1)
  compounds-along s e = e

  -- ---- expressions that mention the same

  module _ (f : Expr → Expr) (same : (e : Expr) → mentions (f e) ≡ mentions e) where
    each-outer : (n : ℕ) (s : Stmt) → AllAlong ds n s → AllAlong ds n (each_expr_in f s)
    each-outer n (Then a b) e = (each-outer n a e.0, each-outer n b e.1)
    each-outer n (If k c a b) e = (each-outer n a e.0, each-outer n b e.1)
    each-outer n (Foreach k at h test body) e = loop-each ds n f same h test body e
    each-outer n s e = e

    each-along : (s : Stmt) → EachAlong ds s → EachAlong ds (each_expr f s)
    each-along (Then a b) e = (each-along a e.0, each-along b e.1)
    each-along (Foreach k at h test body) e = each-outer h.iterator body e
    each-along (For k at h test s) e = each-along s e
    each-along (If k c a b) e = (each-along a e.0, each-along b e.1)
    each-along (While k at c s) e = each-along s e
    each-along (Do k at s c) e = each-along s e
    each-along (InBfs k at search test body) e = each-outer search.iterator body e
    each-along (InBfsBoth k at search test body back_key back_test back) e = (each-outer search.iterator body e.0, each-outer search.iterator back e.1)
    each-along s e = e

  constant-mentions : (at : Place) (v : Value) (r : Result Value FaultKind) → mentions (constant_or at v r) ≡ []
  constant-mentions at v (Ok n) = refl
  constant-mentions at v (Err f) = refl

  negated-mentions : (at : Place) (e : Expr) → mentions (negated at e) ≡ mentions e
  negated-mentions at (Const v) = constant-mentions at v (result1 Neg v)
  negated-mentions at e = refl

  applied-mentions : (op : Op1) (at : Place) (e : Expr) → mentions (applied op at e) ≡ mentions e
  applied-mentions Neg at e = negated-mentions at e
  applied-mentions op at e = refl

  two : (a b c d : List Mention) → a ≡ c → b ≡ d → a ++ b ≡ c ++ d
  two a b c d e f = ap (λ x. x ++ b) e ∙ ap (λ x. c ++ x) f

  pub literals-mentions : (e : Expr) → mentions (with_literals e) ≡ mentions e
  literals-mentions (Unary op at e) = applied-mentions op at (with_literals e) ∙ literals-mentions e
  literals-mentions (Binary op at a b) = two (mentions (with_literals a)) (mentions (with_literals b)) (mentions a) (mentions b) (literals-mentions a) (literals-mentions b)
  literals-mentions (Both a b) = two (mentions (with_literals a)) (mentions (with_literals b)) (mentions a) (mentions b) (literals-mentions a) (literals-mentions b)
  literals-mentions (Either a b) = two (mentions (with_literals a)) (mentions (with_literals b)) (mentions a) (mentions b) (literals-mentions a) (literals-mentions b)
  literals-mentions (Choose c a b) =
      two (mentions (with_literals c)) (mentions (with_literals a) ++ mentions (with_literals b)) (mentions c) (mentions a ++ mentions b) (literals-mentions c)
      (two (mentions (with_literals a)) (mentions (with_literals b)) (mentions a) (mentions b) (literals-mentions a) (literals-mentions b))
  literals-mentions (Folded g h test e) = two (mentions (with_literals test)) (mentions (with_literals e)) (mentions test) (mentions e) (literals-mentions test) (literals-mentions e)
  literals-mentions e = refl

  pub literals-along : (s : Stmt) → EachAlong ds s → EachAlong ds (each_expr with_literals s)
  literals-along s e = each-along with_literals literals-mentions s e

  -- ---- conditions

  if-along : (told : Bool) (c : ℕ) (k : Key) (e : Expr) (a b : Stmt) → EachAlong ds a → EachAlong ds b → EachAlong ds (if_hoisted told c k e a b)
  if-along true c k e a b x y = (x, y)
  if-along false c k e a b x y = (tt, ((x, y), tt))

  for-along : (told : Bool) (c : ℕ) (k : Key) (at : Place) (h : Head) (e : Expr) (s : Stmt) → EachAlong ds s → EachAlong ds (for_hoisted told c k at h e s)
  for-along true c k at h e s x = x
  for-along false c k at h e s x = (tt, ((x, tt), tt))

  while-along : (told : Bool) (c : ℕ) (k : Key) (at : Place) (e : Expr) (s : Stmt) → EachAlong ds s → EachAlong ds (while_hoisted told c k at e s)
  while-along true c k at e s x = x
  while-along false c k at e s x = (tt, ((x, (tt, tt)), tt))

  do-along : (told : Bool) (c : ℕ) (k : Key) (at : Place) (s : Stmt) (e : Expr) → EachAlong ds s → EachAlong ds (do_hoisted told c k at s e)
  do-along true c k at s e x = x
  do-along false c k at s e x = (x, (tt, tt))

  pub conditions-along : (c : ℕ) (s : Stmt) → EachAlong ds s → EachAlong ds (hoisted c s)
  conditions-along c (Then a b) e = (conditions-along c a e.0, conditions-along c b e.1)
  conditions-along c (For k at h t s) e = for-along (is_told t) c k at h t (hoisted c s) (conditions-along c s e)
  conditions-along c (If k t a b) e = if-along (is_told t) c k t (hoisted c a) (hoisted c b) (conditions-along c a e.0) (conditions-along c b e.1)
  conditions-along c (While k at t s) e = while-along (is_told t) c k at t (hoisted c s) (conditions-along c s e)
  conditions-along c (Do k at s t) e = do-along (is_told t) c k at (hoisted c s) t (conditions-along c s e)
  conditions-along c s e = e

  -- ---- reads

  reads-in : (n : ℕ) (k : Key) (e : Expr) → EachIn ds (reads_set n k e)
  reads-in n k (Property x p at) = (tt, tt)
  reads-in n k (Degree d x at) = (tt, tt)
  reads-in n k (Live x at) = (tt, tt)
  reads-in n k (Folded f h test e) = (tt, tt)
  reads-in n k (Unary op at e) = reads-in n k e
  reads-in n k (Binary op at a b) = each-both ds (reads_set n k a) (reads_set (n + count_read a) k b) (reads-in n k a) (reads-in (n + count_read a) k b)
  reads-in n k (Both a b) = each-both ds (reads_set n k a) (reads_set (n + count_read a) k b) (reads-in n k a) (reads-in (n + count_read a) k b)
  reads-in n k (Either a b) = each-both ds (reads_set n k a) (reads_set (n + count_read a) k b) (reads-in n k a) (reads-in (n + count_read a) k b)
  reads-in n k (Choose c a b) =
      each-both ds (reads_set n k c) (reads_set (n + count_read c) k a ++ reads_set ((n + count_read c) + count_read a) k b) (reads-in n k c)
      (each-both ds (reads_set (n + count_read c) k a) (reads_set ((n + count_read c) + count_read a) k b) (reads-in (n + count_read c) k a) (reads-in ((n + count_read c) + count_read a) k b))
  reads-in n k e = tt

  after-along : (alone : Bool) (n : ℕ) (k : Key) (e : Expr) (s : Expr → Stmt) → ((d : Expr) → EachAlong ds (s d)) → EachAlong ds (after_reads alone n k e s)
  after-along true n k e s h = h e
  after-along false n k e s h =
      let d = told_from n e in sequence-along ds (reads_set n k e ++ (s d ∷ [])) (each-both ds (reads_set n k e) (s d ∷ []) (reads-in n k e) (h d, tt))

  pub reads-along : (n : ℕ) (s : Stmt) → EachAlong ds s → EachAlong ds (apart n s)
  reads-along n (Then a b) e = (reads-along n a e.0, reads-along (n + count_reads a) b e.1)
  reads-along n (Declare k x (Some v)) e = after-along (is_single x v) n k v (λ d. Declare k x (Some d)) (λ d. tt)
  reads-along n (Assign k t v) e = after-along (stays_alone t v) n k v (Assign k t) (λ d. tt)
  reads-along n (For k at h v s) e = reads-along n s e
  reads-along n (If k v a b) e = (reads-along n a e.0, reads-along (n + count_reads a) b e.1)
  reads-along n (While k at v s) e = reads-along n s e
  reads-along n (Do k at s v) e = reads-along n s e
  reads-along n (Return k at (Some v)) e = after-along (is_told v) n k v (λ d. Return k at (Some d)) (λ d. tt)
  reads-along n s e = e

  -- ---- picks

  property-in : (i : Bool) (n : ℕ) (k : Key) (y p : ℕ) (at : Place) → EachIn ds (property_set i n k y p at)
  property-in true n k y p at = (tt, tt)
  property-in false n k y p at = (tt, (tt, tt))

  held-in : (its : List ℕ) (n : ℕ) (k : Key) (ts : List Target) → EachIn ds (held_set its n k ts)
  held-in its n k [] = tt
  held-in its n k (T.Scalar x at ∷ ts) = held-in its n k ts
  held-in its n k (T.Property y p at ∷ ts) =
      each-both ds (property_set (is_in its y) n k y p at) (held_set its (n + taken (is_in its y)) k ts) (property-in (is_in its y) n k y p at) (held-in its (n + taken (is_in its y)) k ts)

  values-in : (n : ℕ) (k : Key) (es : List Expr) → EachIn ds (all_set n k es)
  values-in n k [] = tt
  values-in n k (e ∷ es) = each-both ds (reads_set n k e) (all_set (n + count_read e) k es) (reads-in n k e) (values-in (n + count_read e) k es)

  back-in : (its : List ℕ) (n : ℕ) (k : Key) (ts : List Target) → EachIn ds (written_back its n k ts)
  back-in its n k [] = tt
  back-in its n k (T.Scalar x at ∷ ts) = back-in its n k ts
  back-in its n k (T.Property y p at ∷ ts) = (tt, back-in its (n + taken (is_in its y)) k ts)

  pub picks-along : (its : List ℕ) (n : ℕ) (s : Stmt) → EachAlong ds s → EachAlong ds (onto_scalars its n s)
  picks-along its n (Then a b) e = (picks-along its n a e.0, picks-along its (n + count_picks its a) b e.1)
  picks-along its n (Combine k total r ts es) e =
      let m = n + count_held its ts in
      let pick = Combine k total r (held its n ts) (all_told m es) in
      sequence-along ds (held_set its n k ts ++ (all_set m k es ++ (pick ∷ written_back its n k ts)))
      (each-both ds (held_set its n k ts) (all_set m k es ++ (pick ∷ written_back its n k ts)) (held-in its n k ts)
      (each-both ds (all_set m k es) (pick ∷ written_back its n k ts) (values-in m k es) (tt, back-in its n k ts)))
  picks-along its n (For k at h v s) e = picks-along (h.iterator ∷ its) n s e
  picks-along its n (If k v a b) e = (picks-along its n a e.0, picks-along its (n + count_picks its a) b e.1)
  picks-along its n (While k at v s) e = picks-along its n s e
  picks-along its n (Do k at s v) e = picks-along its n s e
  picks-along its n s e = e

  -- ---- accesses

  module _ (f : Fresh) where
    check-along : (i : Bool) (k : Key) (y : ℕ) (at : Place) (s : Stmt) → EachAlong ds s → EachAlong ds (after_check i f k y at s)
    check-along true k y at s e = e
    check-along false k y at s e = (tt, (e, tt))

    checks-in : (i : Bool) (k : Key) (y : ℕ) (at : Place) → EachIn ds (checks i f k y at)
    checks-in true k y at = tt
    checks-in false k y at = (tt, tt)

    declared-along : (es : List Declaration) (its : List ℕ) (k : Key) (x : ℕ) (v : Option Expr) → EachAlong ds (declared_by_loops es f its k x v)
    declared-along es its k x (Some (Property y p at)) =
        let i = is_in its y in check-along i k y at (Declare k x (Some (one_node f (compared i f y) (type_at es p) (Property f.iterator p nowhere)))) tt
    declared-along es its k x (Some (Degree d y at)) = let i = is_in its y in check-along i k y at (Declare k x (Some (one_node f (compared i f y) I32 (Degree d f.iterator nowhere)))) tt
    declared-along es its k x v = tt

    assigned-along : (es : List Declaration) (its : List ℕ) (k : Key) (t : Target) (v : Expr) → EachAlong ds (assigned_by_loops es f its k t v)
    assigned-along es its k (T.Scalar x a) (Property y p at) =
        let i = is_in its y in check-along i k y at (Assign k (T.Scalar x a) (one_node f (compared i f y) (type_at es p) (Property f.iterator p nowhere))) tt
    assigned-along es its k (T.Scalar x a) (Degree d y at) = let i = is_in its y in check-along i k y at (Assign k (T.Scalar x a) (one_node f (compared i f y) I32 (Degree d f.iterator nowhere))) tt
    assigned-along es its k (T.Scalar x a) v = tt
    assigned-along es its k (T.Property y p at) v =
        let i = is_in its y in
        let x = holder f (type_at es p) in
        let rest : List Stmt = set_to x k v ∷ write_there f (compared i f y) p x ∷ [] in
        sequence-along ds (checks i f k y at ++ rest) (each-both ds (checks i f k y at) rest (checks-in i k y at) (tt, (tt, tt)))

    pub accesses-along : (es : List Declaration) (its : List ℕ) (s : Stmt) → EachAlong ds s → EachAlong ds (by_loops es f its s)
    accesses-along es its (Then a b) e = (accesses-along es its a e.0, accesses-along es its b e.1)
    accesses-along es its (Declare k x v) e = declared-along es its k x v
    accesses-along es its (Assign k t v) e = assigned-along es its k t v
    accesses-along es its (For k at h test s) e = accesses-along es (h.iterator ∷ its) s e
    accesses-along es its (If k c a b) e = (accesses-along es its a e.0, accesses-along es its b e.1)
    accesses-along es its (While k at c s) e = accesses-along es its s e
    accesses-along es its (Do k at s c) e = accesses-along es its s e
    accesses-along es its s e = e

  -- ---- reductions

  given-along : (n : ℕ) (word : ReductionWord) (f : Fold) (x : ℕ) (e : Expr) → AllAlong ds n (given word f x e)
  given-along n Count f x e = (tt, tt)
  given-along n word f x e = tt

  assigned-fold : (k : Key) (t : Target) (v : Expr) → EachAlong ds (assigned_out k t v)
  assigned-fold k (T.Scalar x at) (Folded f h test e) = (tt, (given-along h.iterator f.word f x e, tt))
  assigned-fold k t v = tt

  declared-fold : (k : Key) (x : ℕ) (v : Option Expr) → EachAlong ds (declared_out k x v)
  declared-fold k x (Some (Folded f h test e)) = (tt, (given-along h.iterator f.word f x e, tt))
  declared-fold k x v = tt

  pub folds-along : (s : Stmt) → EachAlong ds s → EachAlong ds (folds_out s)
  folds-along (Then a b) e = (folds-along a e.0, folds-along b e.1)
  folds-along (Declare k x v) e = declared-fold k x v
  folds-along (Assign k t v) e = assigned-fold k t v
  folds-along (For k at h test s) e = folds-along s e
  folds-along (If k c a b) e = (folds-along a e.0, folds-along b e.1)
  folds-along (While k at c s) e = folds-along s e
  folds-along (Do k at s c) e = folds-along s e
  folds-along s e = e
