-- The lines of a body do what the body does, whatever site it stands in.
use Rattle.std.proofs.Common.{◌≡◌, ℕ, suc, Bool, true, false, Option, Some, None, Ok, Err, List, [], ◌∷◌, ◌++◌, length, map, refl, ap, ◌∙◌, sym, subst, append_assoc}
use Rattle.std.specs.Prelude.{◌+◌, if◌then◌else◌, ◌&&◌, slice_set}
use Rattle.std.proofs.lemmas.Bool.{both_ways}
use Rattle.gm_value.specs.declared.values.Value.{Value}
use Rattle.gm_value.specs.declared.values.Value.TheVariants.{Flag}
use Rattle.gm_value.specs.declared.reductions.Reduce.{Reduce}
use Rattle.gm_value.specs.Numbers.{zero_of}
use Rattle.gm_value.specs.Operations.{is_true}
use Rattle.gm_base.specs.declared.places.Place.{Place}
use Rattle.gm_ast.specs.declared.tree.Key.{Key}
use Rattle.gm_ast.specs.declared.tree.TotalKey.{TotalKey}
use Rattle.gm_ast.specs.declared.tree.Target.{Target}
use Rattle.gm_ast.specs.declared.tree.Target.TheVariants as T
use Rattle.gm_ast.specs.Program as S
use Rattle.gm_ast.specs.Program.{Expr, Stmt}
use Rattle.gm_forms.proofs.Named.{both-true}
use Rattle.gm_semantics.specs.Statements.{variable_at}
use Rattle.gm_semantics.specs.declared.faults.Fault.{Fault}
use Rattle.gm_semantics.specs.declared.slots.Slot.{Slot}
use Rattle.gm_semantics.specs.declared.slots.Slot.TheVariants.{Scalar}
use Rattle.gm_semantics.specs.Faults.{then_with, unless_fault}
use Rattle.gm_semantics.specs.Expressions.{Answer, evaluated, value}
use Rattle.gm_semantics.specs.Iterations.{Loop, Mode, Iteration, view_in, failed, unless_failed, with_ok, one_way, wrote, slot_of, assigned, does}
use Rattle.gm_image.specs.Term as M
use Rattle.gm_image.specs.Term.{Term}
use Rattle.gm_image.specs.Program.{Line, SetField, SetRegister, Skip}
use Rattle.gm_machine.specs.declared.faults.Fault as MF
use Rattle.gm_machine.specs.Expressions.{value as term_value}
use Rattle.gm_machine.specs.Vertex.{VertexContext, VertexState, After, view, line_after, line_ends, leaves, goes_on}
use Rattle.gm_lowering.specs.Plans.{aways}
use Rattle.gm_lowering.specs.Terms.{Env, term}
use Rattle.gm_lowering.specs.Bodies.{Site, else_lines, choice_by, reduce_lines, lines_of}
use Rattle.gm_lowering.specs.Plans.{way_of}
use Rattle.gm_lowering.specs.Showing.{fault_of, answer_of, Tells}
use Rattle.gm_lowering.specs.Sites.{is_local, is_body}
use Rattle.gm_lowering.proofs.Terms.{value-term, rest-term, hoisted-parallel}

-- how lines end, in a run of lines, that stand for a part of a body: where the part ends well, the lines after them go on from a state that shows what the iteration is then; where it faults, the lines fault so, and what was given till then is given
module _ (v : Env) (run : List Line → ℕ → VertexState → After) (Shows Gave : Iteration → VertexState → Type 0) where
  abbrev pub Ends : List Line → List Line → VertexState → Iteration → Option Fault → Type 0
  Ends ls rest w it None = (u : VertexState) × Shows it u × (run (ls ++ rest) 0 w ≡ run rest 0 u)
  Ends ls rest w it (Some f) = (u : VertexState) × Gave it u × (run (ls ++ rest) 0 w ≡ record { state = u; fault = Some (fault_of v f); skip = 0 })

-- where a site asks nothing of where a statement begins: neither of its first kind of messages nor of the iteration
abbrev pub Anywhere : ℕ → Stmt → Type 0
Anywhere kind st = Unit {0}

-- what is asked of a site: how its lines run, that its states tell the leaves of what it finds, and that they show what is set and given
pub record Holds (site : Site) (loop : Loop) (m : Mode) (s : VertexContext) (run : List Line → ℕ → VertexState → After) (Shows Gave : Iteration → VertexState → Type 0) (found : Expr → Bool) (sets : ℕ → ℕ → Bool) (gives : Reduce → List Target → List Expr → Bool) (Placed : ℕ → Stmt → Iteration → Type 0) : Type 0 where
  pub type_is : (x : ℕ) → loop.vtype x ≡ (variable_at site.layout.declarations x).vtype
  pub skipped : (l : Line) (ls : List Line) (k : ℕ) (w : VertexState) → run (l ∷ ls) (suc k) w ≡ run ls k w
  pub register_runs : (x : ℕ) (t : Term) (ls : List Line) (w : VertexState) → run (SetRegister x t ∷ ls) 0 w ≡ goes_on (line_after s (SetRegister x t) w) (λ k u. run ls k u)
  pub skip_runs : (n : ℕ) (t : Term) (ls : List Line) (w : VertexState) → run (Skip n t ∷ ls) 0 w ≡ goes_on (line_after s (Skip n t) w) (λ k u. run ls k u)
  pub fine : (it : Iteration) (w : VertexState) → Shows it w → it.fault ≡ None
  pub gave : (it : Iteration) (w : VertexState) → Shows it w → Gave it w
  pub gave_failed : (it : Iteration) (w : VertexState) (f : Fault) → Gave it w → Gave (failed it f) w
  pub tells : (it : Iteration) (w : VertexState) (k : Key) (e : Expr) → found e ≡ true → Shows it w → Tells site.env (view_in loop m it k) (view s w) e
  pub local : (it : Iteration) (w : VertexState) (x : ℕ) (a : Value) → is_local site.layout x ≡ true → Shows it w
      → Shows (wrote it (Scalar x, a)) (record w { registers = slice_set w.registers (site.layout.register x) a })
  pub property : (k : Key) (x p : ℕ) (at : Place) (e : Expr) (it : Iteration) (w : VertexState) (rest : List Line) → sets x p ≡ true → found e ≡ true → Shows it w
      → Ends site.env run Shows Gave (SetField (site.layout.field p) (term site.env k e) ∷ []) rest w (does (S.Assign k (T.Property x p at) e) m loop it) (does (S.Assign k (T.Property x p at) e) m loop it).fault
  pub placed_first : (kind : ℕ) (a b : Stmt) (it : Iteration) → Placed kind (S.Then a b) it → Placed kind a it
  pub placed_second : (kind : ℕ) (a b : Stmt) (it : Iteration) → Placed kind (S.Then a b) it → (does a m loop it).fault ≡ None → Placed (kind + length (aways site.layout.declarations site.node a)) b (does a m loop it)
  pub placed_yes : (kind : ℕ) (k : Key) (e : Expr) (a b : Stmt) (it : Iteration) → Placed kind (S.If k e a b) it → Placed kind a it
  pub placed_no : (kind : ℕ) (k : Key) (e : Expr) (a b : Stmt) (it : Iteration) → Placed kind (S.If k e a b) it → Placed (kind + length (aways site.layout.declarations site.node a)) b it
  pub reduce : (kind : ℕ) (k : Key) (total : TotalKey) (r : Reduce) (ts : List Target) (es : List Expr) (it : Iteration) (w : VertexState) (rest : List Line) → gives r ts es ≡ true → Placed kind (S.Combine k total r ts es) it → Shows it w
      → Ends site.env run Shows Gave (reduce_lines site kind (way_of site.layout.declarations site.node ts) k total r ts (map (term site.env k) es)) rest w (does (S.Combine k total r ts es) m loop it) (does (S.Combine k total r ts es) m loop it).fault

module _ (site : Site) (loop : Loop) (m : Mode) (s : VertexContext) (run : List Line → ℕ → VertexState → After) (Shows Gave : Iteration → VertexState → Type 0) (found : Expr → Bool) (sets : ℕ → ℕ → Bool) (gives : Reduce → List Target → List Expr → Bool) {Placed : ℕ → Stmt → Iteration → Type 0} (h : Holds site loop m s run Shows Gave found sets gives Placed) where
  abbrev Ending : List Line → List Line → VertexState → Iteration → Option Fault → Type 0
  Ending = Ends site.env run Shows Gave

  -- lines that are skipped, and one more with them
  pub past : (xs ys : List Line) (w : VertexState) → run (xs ++ ys) (length xs) w ≡ run ys 0 w
  past [] ys w = refl
  past (x ∷ xs) ys w = h.skipped x (xs ++ ys) (length xs) w ∙ past xs ys w

  past_one : (xs : List Line) (y : Line) (ys : List Line) (w : VertexState) → run (xs ++ (y ∷ ys)) (suc (length xs)) w ≡ run ys 0 w
  past_one [] y ys w = h.skipped y ys 0 w
  past_one (x ∷ xs) y ys w = h.skipped x (xs ++ (y ∷ ys)) (suc (length xs)) w ∙ past_one xs y ys w

  -- the same ending for other lines that lead to these
  pub ends-by : (ls rest ms more : List Line) (u w : VertexState) (it : Iteration) (f : Option Fault)
      → run (ls ++ rest) 0 u ≡ run (ms ++ more) 0 w → ((t : VertexState) → run more 0 t ≡ run rest 0 t)
      → Ending ms more w it f → Ending ls rest u it f
  ends-by ls rest ms more u w it None e k q = (q.0, q.1, e ∙ q.2 ∙ k q.0)
  ends-by ls rest ms more u w it (Some x) e k q = (q.0, q.1, e ∙ q.2)

  -- the value of an expression
  pub value-of : (it : Iteration) (w : VertexState) (k : Key) (e : Expr) → found e ≡ true → Shows it w
      → term_value (view s w) (term site.env k e) ≡ answer_of site.env (value e (view_in loop m it k))
  value-of it w k e o q =
      let t = h.tells it w k e o q in
      value-term site.env (view_in loop m it k) (view s w) e (hoisted-parallel site.env (view_in loop m it k) (view s w) e refl t) t

  -- a line that sets a local
  set-local : (it : Iteration) (w : VertexState) (rest : List Line) (x : ℕ) (t : Term) (a : Answer) → is_local site.layout x ≡ true → Shows it w
      → term_value (view s w) t ≡ answer_of site.env a
      → let out = with_ok it a (λ y. wrote it (Scalar x, y)) in Ending (SetRegister (site.layout.register x) t ∷ []) rest w out out.fault
  set-local it w rest x t (Ok a) o q e =
      subst (Ending (SetRegister (site.layout.register x) t ∷ []) rest w (wrote it (Scalar x, a))) (sym (h.fine it w q)) (
        record w { registers = slice_set w.registers (site.layout.register x) a },
        h.local it w x a o q,
        h.register_runs (site.layout.register x) t rest w
            ∙ ap (λ u. goes_on (line_ends w u (λ y. leaves (record w { registers = slice_set w.registers (site.layout.register x) y }))) (λ k u. run rest k u)) e,
      )
  set-local it w rest x t (Err f) o q e = (
    w,
    h.gave_failed it w f (h.gave it w q),
    h.register_runs (site.layout.register x) t rest w
        ∙ ap (λ u. goes_on (line_ends w u (λ y. leaves (record w { registers = slice_set w.registers (site.layout.register x) y }))) (λ k u. run rest k u)) e,
  )

  with-then : (it : Iteration) (a : Answer) (slot : Slot) (F : Slot × Value → Iteration) → with_ok it (then_with a (λ x. Ok (slot, x))) F ≡ with_ok it a (λ x. F (slot, x))
  with-then it (Ok x) slot F = refl
  with-then it (Err f) slot F = refl

  -- statements in order
  then-ends : (a b rest : List Line) (w : VertexState) (it : Iteration) (f : Option Fault) (next : Iteration → Iteration) → it.fault ≡ f
      → Ending a (b ++ rest) w it f
      → ((u : VertexState) → Shows it u → Ending b rest u (next it) (next it).fault)
      → Ending (a ++ b) rest w (unless_failed f it next) (unless_failed f it next).fault
  then-ends a b rest w it None next e q go =
      ends-by (a ++ b) rest b rest w q.0 (next it) (next it).fault (ap (λ ls. run ls 0 w) (append_assoc a b rest) ∙ q.2) (λ u. refl) (go q.0 q.1)
  then-ends a b rest w it (Some x) next e q go =
      subst (Ending (a ++ b) rest w it) (sym e) (q.0, q.1, ap (λ ls. run ls 0 w) (append_assoc a b rest) ∙ q.2)

  -- a skip of lines, where its condition has a value
  pub skips : (n : ℕ) (t : Term) (ls : List Line) (w : VertexState) (a : Value) → term_value (view s w) t ≡ Ok a
      → run (Skip n t ∷ ls) 0 w ≡ run ls (if is_true a then 0 else n) w
  skips n t ls w a e =
      h.skip_runs n t ls w
      ∙ ap (λ u. goes_on (line_ends w u (λ y. record { state = w; fault = None; skip = if is_true y then 0 else n })) (λ k u. run ls k u)) e

  -- and where it has a fault
  pub skip-faults : (n : ℕ) (t : Term) (ls : List Line) (w : VertexState) (f : MF.Fault) → term_value (view s w) t ≡ Err f
      → run (Skip n t ∷ ls) 0 w ≡ record { state = w; fault = Some f; skip = 0 }
  skip-faults n t ls w f e =
      h.skip_runs n t ls w
      ∙ ap (λ u. goes_on (line_ends w u (λ y. record { state = w; fault = None; skip = if is_true y then 0 else n })) (λ k u. run ls k u)) e

  -- the way that a condition takes
  chosen : (a b rest : List Line) (w : VertexState) (t : Term) (z : Value) (x : Bool) (go other : Iteration → Iteration) (it : Iteration)
      → term_value (view s w) t ≡ Ok z → is_true z ≡ x
      → ((more : List Line) → Ending a more w (go it) (go it).fault)
      → Ending b rest w (other it) (other it).fault
      → Ending (choice_by t a b) rest w (one_way x go other it) (one_way x go other it).fault
  chosen a [] rest w t z true go other it e i p q =
      ends-by (choice_by t a []) rest a rest w w (go it) (go it).fault
      (skips (length a) t (a ++ rest) w z e ∙ ap (λ b. run (a ++ rest) (if b then 0 else length a) w) i) (λ u. refl) (p rest)
  chosen a [] rest w t z false go other it e i p q =
      ends-by (choice_by t a []) rest [] rest w w (other it) (other it).fault
      (skips (length a) t (a ++ rest) w z e ∙ ap (λ b. run (a ++ rest) (if b then 0 else length a) w) i ∙ past a rest w) (λ u. refl) q
  chosen a (l ∷ ls) rest w t z true go other it e i p q =
      ends-by (choice_by t a (l ∷ ls)) rest a (else_lines (l ∷ ls) ++ rest) w w (go it) (go it).fault
      (skips (suc (length a)) t ((a ++ else_lines (l ∷ ls)) ++ rest) w z e
      ∙ ap (λ b. run ((a ++ else_lines (l ∷ ls)) ++ rest) (if b then 0 else suc (length a)) w) i
      ∙ ap (λ ms. run ms 0 w) (append_assoc a (else_lines (l ∷ ls)) rest))
      (λ u. skips (length (l ∷ ls)) (M.Const (Flag false)) ((l ∷ ls) ++ rest) u (Flag false) refl ∙ past (l ∷ ls) rest u)
      (p (else_lines (l ∷ ls) ++ rest))
  chosen a (l ∷ ls) rest w t z false go other it e i p q =
      ends-by (choice_by t a (l ∷ ls)) rest (l ∷ ls) rest w w (other it) (other it).fault
      (skips (suc (length a)) t ((a ++ else_lines (l ∷ ls)) ++ rest) w z e
      ∙ ap (λ b. run ((a ++ else_lines (l ∷ ls)) ++ rest) (if b then 0 else suc (length a)) w) i
      ∙ ap (λ ms. run ms (suc (length a)) w) (append_assoc a (else_lines (l ∷ ls)) rest)
      ∙ past_one a (Skip (length (l ∷ ls)) (M.Const (Flag false))) ((l ∷ ls) ++ rest) w)
      (λ u. refl) q

  pub choice-ends : (a b rest : List Line) (w : VertexState) (t : Term) (r : Answer) (go other : Iteration → Iteration) (it : Iteration) → Shows it w
      → term_value (view s w) t ≡ answer_of site.env r
      → ((more : List Line) → Ending a more w (go it) (go it).fault)
      → Ending b rest w (other it) (other it).fault
      → let out = with_ok it r (λ z. one_way (is_true z) go other it) in Ending (choice_by t a b) rest w out out.fault
  choice-ends a b rest w t (Ok z) go other it o e p q = chosen a b rest w t z (is_true z) go other it e refl p q
  choice-ends a [] rest w t (Err f) go other it o e p q = (w, h.gave_failed it w f (h.gave it w o), skip-faults (length a) t (a ++ rest) w (fault_of site.env f) e)
  choice-ends a (l ∷ ls) rest w t (Err f) go other it o e p q =
      (w, h.gave_failed it w f (h.gave it w o), skip-faults (suc (length a)) t ((a ++ else_lines (l ∷ ls)) ++ rest) w (fault_of site.env f) e)

  assign-local : (k : Key) (x : ℕ) (at : Place) (e : Expr) (it : Iteration) (w : VertexState) (rest : List Line) → is_local site.layout x ≡ true → found e ≡ true → Shows it w
      → let out = does (S.Assign k (T.Scalar x at) e) m loop it in Ending (SetRegister (site.layout.register x) (term site.env k e) ∷ []) rest w out out.fault
  assign-local k x at e it w rest o i q =
      let u = view_in loop m it k in
      let t = h.tells it w k e i q in
      let same : assigned u (T.Scalar x at) (evaluated e u) ≡ then_with (evaluated e u).rest (λ y. Ok (Scalar x, y)) =
      ap (λ f. unless_fault f (then_with (slot_of u (T.Scalar x at)) (λ z. then_with (evaluated e u).rest (λ y. Ok (z, y))))) (hoisted-parallel site.env u (view s w) e refl t) in
      subst (λ out. Ending (SetRegister (site.layout.register x) (term site.env k e) ∷ []) rest w out out.fault)
      (sym (ap (λ a. with_ok it a (wrote it)) same ∙ with-then it (evaluated e u).rest (Scalar x) (wrote it)))
      (set-local it w rest x (term site.env k e) (evaluated e u).rest o q (rest-term site.env u (view s w) e t))

  -- the lines of a body do what the body does, from a state that shows the iteration
  pub body-ends : (st : Stmt) (kind : ℕ) → is_body site.layout found sets gives st ≡ true → (it : Iteration) → Placed kind st it → (w : VertexState) (rest : List Line) → Shows it w
      → Ending (lines_of site kind st) rest w (does st m loop it) (does st m loop it).fault
  body-ends S.Skip kind o it here w rest q = subst (Ending [] rest w it) (sym (h.fine it w q)) (w, q, refl)
  body-ends (S.Then a b) kind o it here w rest q =
      let t = both-true (is_body site.layout found sets gives a) (is_body site.layout found sets gives b) o in
      let j = kind + length (aways site.layout.declarations site.node a) in
      then-ends (lines_of site kind a) (lines_of site j b) rest w (does a m loop it) (does a m loop it).fault (does b m loop) refl
      (body-ends a kind t.0 it (h.placed_first kind a b it here) w (lines_of site j b ++ rest) q)
      (λ u p. body-ends b j t.1 (does a m loop it) (h.placed_second kind a b it here (h.fine (does a m loop it) u p)) u rest p)
  body-ends (S.Declare k x None) kind o it here w rest q =
      set-local it w rest x (M.Const (zero_of (variable_at site.layout.declarations x).vtype)) (Ok (zero_of (loop.vtype x))) (both-true (is_local site.layout x) true o).0 q
      (ap (λ t. Ok (zero_of t)) (sym (h.type_is x)))
  body-ends (S.Declare k x (Some e)) kind o it here w rest q =
      let t = both-true (is_local site.layout x) (found e) o in
      set-local it w rest x (term site.env k e) (value e (view_in loop m it k)) t.0 q (value-of it w k e t.1 q)
  body-ends (S.DeclareEdge x y at) kind o it here w rest q = subst (Ending [] rest w it) (sym (h.fine it w q)) (w, q, refl)
  body-ends (S.Assign k (T.Scalar x at) e) kind o it here w rest q =
      let t = both-true (is_local site.layout x) (found e) o in assign-local k x at e it w rest t.0 t.1 q
  body-ends (S.Assign k (T.Property x p at) e) kind o it here w rest q =
      let t = both-true (sets x p) (found e) o in h.property k x p at e it w rest t.0 t.1 q
  body-ends (S.Combine k total r ts es) kind o it here w rest q = h.reduce kind k total r ts es it w rest o here q
  body-ends (S.If k e a b) kind o it here w rest q =
      let t = both-true (found e) (is_body site.layout found sets gives a && is_body site.layout found sets gives b) o in
      let u = both-true (is_body site.layout found sets gives a) (is_body site.layout found sets gives b) t.1 in
      let j = kind + length (aways site.layout.declarations site.node a) in
      choice-ends (lines_of site kind a) (lines_of site j b) rest w (term site.env k e) (value e (view_in loop m it k)) (does a m loop) (does b m loop) it q
      (value-of it w k e t.0 q) (λ more. body-ends a kind u.0 it (h.placed_yes kind k e a b it here) w more q) (body-ends b j u.1 it (h.placed_no kind k e a b it here) w rest q)
  body-ends (S.Defer k t e) kind o it here w rest q = absurd (both_ways false refl o)
  body-ends (S.Group k at g p e) kind o it here w rest q = absurd (both_ways false refl o)
  body-ends (S.Foreach k at hd e a) kind o it here w rest q = absurd (both_ways false refl o)
  body-ends (S.For k at hd e a) kind o it here w rest q = absurd (both_ways false refl o)
  body-ends (S.While k at e a) kind o it here w rest q = absurd (both_ways false refl o)
  body-ends (S.Do k at a e) kind o it here w rest q = absurd (both_ways false refl o)
  body-ends (S.InBfs k at x e a) kind o it here w rest q = absurd (both_ways false refl o)
  body-ends (S.InBfsBoth k at x e a j d b) kind o it here w rest q = absurd (both_ways false refl o)
  body-ends (S.Return k at e) kind o it here w rest q = absurd (both_ways false refl o)
