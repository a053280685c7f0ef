-- What a parted program has for its image: no constant of it is a node but NIL, and its Fors iterate nodes of the procedure.
use Rattle.std.proofs.Common.{◌≡◌, ◌<◌, ◌≤◌, ◌+◌, ℕ, zero, suc, Bool, true, false, cond, List, [], ◌∷◌, length, refl, ap, ◌∙◌, sym, arith, ⊎_elim, Option, Some, None}
use Rattle.std.specs.Prelude.{◌&&◌, option_map, slice_get}
use Rattle.std.specs.List.{list_all}
use Rattle.std.proofs.lemmas.Bool.{and_from}
use Rattle.std.proofs.lemmas.Option.{none-some}
use Rattle.gm_ast.specs.declared.tree.Declaration.{Declaration}
use Rattle.gm_ast.specs.declared.tree.Variable.{Variable}
use Rattle.gm_ast.specs.Loops.{declared_at}
use Rattle.gm_ast.specs.Names.{an_iterator}
use Rattle.gm_ast.specs.Procedures.{IsTyped}
use Rattle.gm_ast.specs.Program.{Expr, Const, Var, Property, EdgeProperty, Degree, NodeCount, EdgeCount, Live, Unary, Binary, Both, Either, Choose, Folded, Stmt, Skip, Then, Declare, DeclareEdge, Assign, Defer, Combine, Group, Foreach, For, If, While, Do, InBfs, InBfsBoth, Return, Program}
use Rattle.gm_semantics.specs.Statements.{variable_at, variable_or}
use Rattle.gm_forms.proofs.Named.{both-true}
use Rattle.gm_ready.proofs.Placing.{IsIteratorAt}
use Rattle.gm_lowering.specs.Layouts.{is_global}
use Rattle.gm_lowering.specs.Plans.{way_of, is_here}
use Rattle.gm_sound_lowering.proofs.Readied.{ready-images-are-sound}
use Rattle.gm_sound_lowering.specs.Asked.{is_plain, may_be_plain, all_plain, may_pick}
use Rattle.gm_sound_lowering.specs.Ready.{is_lowerable_body, is_lowerable_loop, is_number, is_lowerable_phase}
use Rattle.gm_ast.specs.Ways.{is_in}
use Rattle.gm_typed_stores.specs.Tells.{table_of}
use Rattle.gm_interface.proofs.Passes as Passes
use Rattle.gm_interface.proofs.Widened.{Widens, further}
use Rattle.gm_preparable.proofs.Facts.{all-inner}
use Rattle.gm_preparable.proofs.Tables.{Outer, Inner}
use Rattle.gm_preparable.proofs.Texts.{Any}
use Rattle.gm_preparable.proofs.Together.{any-stands}
use Rattle.gm_desugaring.specs.Desugaring.{with_plain_loops}
use Rattle.gm_parting.specs.Iterators.{all_inner_iterators, placed_variable, placed_from, with_iterators_placed}
use Rattle.gm_parting.specs.Passes.{prepared, dissected}
use Rattle.gm_flip.specs.Flipped.{without_pulls}
use Rattle.gm_compilable.specs.Kept.{keeps_numbers_body, keeps_numbers_loop, keeps_numbers_phase, PartedIsLowerable, PartedImagesAreSound}
use Rattle.gm_compilable.specs.Parted.{with_levels, parted}
use Rattle.gm_compilable.proofs.Telling.{Tells, MayTell, AllTell, Body}
use Rattle.gm_compilable.proofs.ToldLast.{Edged, Last}
use Rattle.gm_compilable.proofs.Tables.{parted-table, parted-names}
use Rattle.gm_compilable.proofs.Texts.{not-inner}
use Rattle.gm_compilable.proofs.ToldTexts.{Out, In, below-or}
use Rattle.gm_compilable.proofs.ToldTogether as Told
use Rattle.gm_compilable.proofs.ToldTogether.{parted-tells}

both : (a b : Bool) → a ≡ true → b ≡ true → a && b ≡ true
both a b h k = and_from a b h k

module _ (ds : List Declaration) (told : ℕ → Type 0) where
  expr : (e : Expr) → Tells told e → is_plain ds e ≡ true
  expr (Const v) h = h
  expr (Unary op at e) h = expr e h
  expr (Binary op at a b) h = both (is_plain ds a) (is_plain ds b) (expr a h.0) (expr b h.1)
  expr (Both a b) h = both (is_plain ds a) (is_plain ds b) (expr a h.0) (expr b h.1)
  expr (Either a b) h = both (is_plain ds a) (is_plain ds b) (expr a h.0) (expr b h.1)
  expr (Choose c a b) h = both (is_plain ds c) (is_plain ds a && is_plain ds b) (expr c h.0) (both (is_plain ds a) (is_plain ds b) (expr a h.1.0) (expr b h.1.1))
  expr (Folded f hd c a) h = both (is_plain ds c) (is_plain ds a) (expr c h.1.0) (expr a h.1.1)
  expr (Var x at) h = refl
  expr (Property x p at) h = refl
  expr (EdgeProperty x p at) h = refl
  expr (Degree d x at) h = refl
  expr NodeCount h = refl
  expr EdgeCount h = refl
  expr (Live x at) h = refl

  may : (o : Option Expr) → MayTell told o → may_be_plain ds o ≡ true
  may None h = refl
  may (Some e) h = expr e h

  all : (es : List Expr) → AllTell told es → all_plain ds es ≡ true
  all [] h = refl
  all (e ∷ es) h = both (is_plain ds e) (all_plain ds es) (expr e h.0) (all es h.1)

  body : (n : ℕ) (s : Stmt) → Body told s → keeps_numbers_body ds n s ≡ true → is_lowerable_body ds n s ≡ true
  body n (Then a b) h k = let q = both-true (keeps_numbers_body ds n a) (keeps_numbers_body ds n b) k in both (is_lowerable_body ds n a) (is_lowerable_body ds n b) (body n a h.0 q.0) (body n b h.1 q.1)
  body n (Declare key x e) h k = may e h
  body n (Assign key t e) h k = expr e h
  body n (Combine key total r ts es) h k = both (may_pick (way_of ds n ts) ds ts) (all_plain ds es) k (all es h)
  body n (If key c a b) h k =
      let q = both-true (keeps_numbers_body ds n a) (keeps_numbers_body ds n b) k in
      both (is_plain ds c) (is_lowerable_body ds n a && is_lowerable_body ds n b) (expr c h.0) (both (is_lowerable_body ds n a) (is_lowerable_body ds n b) (body n a h.1.0 q.0) (body n b h.1.1 q.1))
  body n Skip h k = refl
  body n (DeclareEdge x y at) h k = refl
  body n (Defer key t e) h k = refl
  body n (Group key at g p e) h k = refl
  body n (Foreach key at hd test s) h k = refl
  body n (For key at hd test s) h k = refl
  body n (While key at c s) h k = refl
  body n (Do key at s c) h k = refl
  body n (InBfs key at s test t) h k = refl
  body n (InBfsBoth key at s test t back_key back_test back) h k = refl
  body n (Return key at e) h k = refl

-- fors: what iterates Fors, which are nodes of the procedure
module _ (ds : List Declaration) (fors out : ℕ → Type 0) (inn : ℕ → ℕ → Type 0) (edge : ℕ → ℕ → ℕ → Type 0) (global : (x : ℕ) → fors x → is_global (variable_at ds x) ≡ true) where
  loop : (n : ℕ) (test : Expr) (s : Stmt) → Tells (inn n) test → Edged fors out inn edge n s → keeps_numbers_loop ds n s ≡ true → is_lowerable_loop ds n test s ≡ true
  loop n test (Foreach key at hd inner s) h x k =
      let t = edge n hd.iterator in
      let m = cond (is_here ds n hd inner s) n hd.iterator in
      both (is_plain ds test) (is_plain ds inner && is_lowerable_body ds m s) (expr ds (inn n) test h) (both (is_plain ds inner) (is_lowerable_body ds m s) (expr ds t inner x.0) (body ds t m s x.1 k))
  loop n test Skip h x k = both (is_plain ds test) true (expr ds (inn n) test h) refl
  loop n test (Then a b) h x k = both (is_plain ds test) (is_lowerable_body ds n (Then a b)) (expr ds (inn n) test h) (body ds (inn n) n (Then a b) x k)
  loop n test (Declare key y e) h x k = both (is_plain ds test) (is_lowerable_body ds n (Declare key y e)) (expr ds (inn n) test h) (body ds (inn n) n (Declare key y e) x k)
  loop n test (DeclareEdge y z at) h x k = both (is_plain ds test) true (expr ds (inn n) test h) refl
  loop n test (Assign key t e) h x k = both (is_plain ds test) (is_lowerable_body ds n (Assign key t e)) (expr ds (inn n) test h) (body ds (inn n) n (Assign key t e) x k)
  loop n test (Defer key t e) h x k = both (is_plain ds test) true (expr ds (inn n) test h) refl
  loop n test (Combine key total r ts es) h x k = both (is_plain ds test) (is_lowerable_body ds n (Combine key total r ts es)) (expr ds (inn n) test h) (body ds (inn n) n (Combine key total r ts es) x k)
  loop n test (Group key at g p e) h x k = both (is_plain ds test) true (expr ds (inn n) test h) refl
  loop n test (For key at hd inner s) h x k = both (is_plain ds test) true (expr ds (inn n) test h) refl
  loop n test (If key c a b) h x k = both (is_plain ds test) (is_lowerable_body ds n (If key c a b)) (expr ds (inn n) test h) (body ds (inn n) n (If key c a b) x k)
  loop n test (While key at c s) h x k = both (is_plain ds test) true (expr ds (inn n) test h) refl
  loop n test (Do key at s c) h x k = both (is_plain ds test) true (expr ds (inn n) test h) refl
  loop n test (InBfs key at s inner t) h x k = both (is_plain ds test) true (expr ds (inn n) test h) refl
  loop n test (InBfsBoth key at s inner t back_key back_test back) h x k = both (is_plain ds test) true (expr ds (inn n) test h) refl
  loop n test (Return key at e) h x k = both (is_plain ds test) true (expr ds (inn n) test h) refl

  phase : (s : Stmt) → Last fors out inn edge s → keeps_numbers_phase ds s ≡ true → is_lowerable_phase ds s ≡ true
  phase (Then a b) h k = let q = both-true (keeps_numbers_phase ds a) (keeps_numbers_phase ds b) k in both (is_lowerable_phase ds a) (is_lowerable_phase ds b) (phase a h.0 q.0) (phase b h.1 q.1)
  phase (Declare key x e) h k = may ds out e h
  phase (Assign key t e) h k = expr ds out e h
  phase (Combine key total r ts es) h k = both (list_all (is_number ds) ts) (all_plain ds es) k (all ds out es h)
  phase (Foreach key at hd test s) h k = loop hd.iterator test s h.0 h.1 k
  phase (For key at hd test s) h k =
      both (is_global (variable_at ds hd.iterator)) (is_plain ds test && is_lowerable_phase ds s) (global hd.iterator h.0) (both (is_plain ds test) (is_lowerable_phase ds s) (expr ds out test h.1.0) (phase s h.1.1 k))
  phase (If key c a b) h k =
      let q = both-true (keeps_numbers_phase ds a) (keeps_numbers_phase ds b) k in
      both (is_plain ds c) (is_lowerable_phase ds a && is_lowerable_phase ds b) (expr ds out c h.0) (both (is_lowerable_phase ds a) (is_lowerable_phase ds b) (phase a h.1.0 q.0) (phase b h.1.1 q.1))
  phase (While key at c s) h k = both (is_plain ds c) (is_lowerable_phase ds s) (expr ds out c h.0) (phase s h.1 k)
  phase (Do key at s c) h k = both (is_lowerable_phase ds s) (is_plain ds c) (phase s h.0 k) (expr ds out c h.1)
  phase (Return key at e) h k = may ds out e h
  phase Skip h k = refl
  phase (DeclareEdge x y at) h k = refl
  phase (Defer key t e) h k = refl
  phase (Group key at g p e) h k = refl
  phase (InBfs key at s test t) h k = refl
  phase (InBfsBoth key at s test t back_key back_test back) h k = refl

-- ---- Fors

nothing-behind : (ds : List Declaration) (x : ℕ) → length ds ≤ x → slice_get ds x ≡ None
nothing-behind [] x le = refl
nothing-behind (d ∷ ds) zero le = absurd (omega (arith, le))
nothing-behind (d ∷ ds) (suc x) le = nothing-behind ds x (omega (arith, le))

declared-below : (ds : List Declaration) (x : ℕ) (v : Variable) → declared_at ds x ≡ Some v → x < length ds
declared-below ds x v h =
    ⊎_elim (λ (l : x < length ds). l) (λ (l : length ds ≤ x). absurd (none-some v (sym (ap (option_map (λ (d : Declaration). d.variable)) (nothing-behind ds x l)) ∙ h))) (below-or x (length ds))

placed-length : (inners : List ℕ) (i : ℕ) (ds : List Declaration) → length (placed_from inners i ds) ≡ length ds
placed-length inners i [] = refl
placed-length inners i (d ∷ ds) = ap suc (placed-length inners (suc i) ds)

placed-at : (inners : List ℕ) (i : ℕ) (ds : List Declaration) (x : ℕ) → variable_at (placed_from inners i ds) x ≡ placed_variable (is_in inners (i + x)) (variable_at ds x)
placed-at inners i [] x = refl
placed-at inners i (d ∷ ds) zero = ap (λ n. placed_variable (is_in inners n) d.variable) (let e : i ≡ i + 0 = omega arith in e)
placed-at inners i (d ∷ ds) (suc x) = placed-at inners (suc i) ds x ∙ ap (λ n. placed_variable (is_in inners n) (variable_at ds x)) (let e : suc i + x ≡ i + suc x = omega arith in e)

module _ (p : Program) (typed : IsTyped p) where
  abbrev v : Program
  v = with_levels p

  abbrev i : Program
  i = with_iterators_placed v

  abbrev q : Program
  q = parted p

  for-global : (x : ℕ) → IsIteratorAt p.declarations 0 x → is_global (variable_at q.declarations x) ≡ true
  for-global x h =
      let low = declared-below p.declarations x (an_iterator 0) h in
      let l = with_plain_loops p in
      let d = dissected v in
      let w = without_pulls d in
      let w1 : Widens p v = further p l v (Passes.plain-loops p) (Passes.searches l) in
      let w2 : Widens i q = further i (prepared v) q (Passes.behind-placed v) (further (prepared v) d q (Passes.behind-prepared v) (further d w q (Passes.pulls d) (Passes.asked w))) in
      let at-v : variable_at v.declarations x ≡ an_iterator 0 = ap (λ o. variable_or (option_map (λ (d : Declaration). d.variable) o)) (w1.like x low) ∙ ap variable_or h in
      let inners = all_inner_iterators v.body in
      let outside : is_in inners x ≡ false = not-inner v.declarations inners x (ap (λ (u : Variable). u.depth) at-v) (all-inner Any (Outer v.declarations) (Inner v.declarations) v.body (any-stands p typed)) in
      let at-i : variable_at i.declarations x ≡ an_iterator 0 =
      placed-at inners 0 v.declarations x ∙ ap (λ b. placed_variable b (variable_at v.declarations x)) (ap (is_in inners) (let e : 0 + x ≡ x = omega arith in e) ∙ outside) ∙ ap (placed_variable false) at-v in
      let longer = w1.longer in
      let same = placed-length inners 0 v.declarations in
      let low-i : x < length i.declarations = omega (arith, low, longer, same) in
      ap is_global (ap (λ o. variable_or (option_map (λ (d : Declaration). d.variable) o)) (w2.like x low-i) ∙ at-i)

pub parted-lowerable : PartedIsLowerable
parted-lowerable p typed ready numbers =
    let q = parted p in
    phase q.declarations (IsIteratorAt p.declarations 0) (Out (table_of 0 p)) (In (table_of 0 p)) (Told.Inner (table_of 0 p)) (for-global p typed) q.body (parted-tells p typed ready) numbers

pub parted-sound : PartedImagesAreSound
parted-sound p text ready last numbers shallow few lines =
    let q = parted p in
    let t = parted-table p text.typed in
    ready-images-are-sound q last t.nodes t.interface (parted-lowerable p text.typed ready numbers) (parted-names p text.typed text.named) shallow few lines
