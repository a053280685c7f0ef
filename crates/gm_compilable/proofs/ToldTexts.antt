-- What the program of a text tells: constants that are no nodes but NIL, scalars, what is no input, and the iterator of the loop around.
use Rattle.std.proofs.Common.{◌≡◌, ◌<◌, ◌≤◌, ◌+◌, inl, inr, ℕ, Bool, true, false, List, [], ◌∷◌, refl, ap, arith, ⊎_elim, Option, Some, None}
use Rattle.std.specs.Prelude.{◌⊎◌, ◌&&◌, ◌||◌, nat_eq, nat_le, nat_lt}
use Rattle.std.proofs.lemmas.Bool.{both_ways, eqb-true, le-leb, ltb-true, ltb-false}
use Rattle.gm_value.specs.declared.values.Value.{Value}
use Rattle.gm_value.specs.declared.values.Value.TheVariants as Values
use Rattle.gm_ast.specs.declared.tree.Declaration.{Declaration}
use Rattle.gm_ast.specs.declared.tree.Sort.TheVariants as Sorts
use Rattle.gm_ast.specs.Names.{is}
use Rattle.gm_ast.specs.Program.{Expr, Const, Var, Property, EdgeProperty, Degree, NodeCount, EdgeCount, Live, Unary, Binary, Both, Either, Choose, Folded, Stmt, Then, Declare, Assign, Defer, Combine, Group, Foreach, For, If, While, Do, InBfs, InBfsBoth, Return}
use Rattle.gm_ast.specs.Ways.{is_in}
use Rattle.gm_semantics.specs.Outcomes.{is_of}
use Rattle.gm_semantics.specs.Statements.{variable_at, variable_or}
use Rattle.gm_forms.proofs.Named.{both-true}
use Rattle.gm_typed_stores.specs.Tells.{TypeTable, holds, takes_nodes, is_below, tells, may_tell, all_tell, tells_in}
use Rattle.gm_ready.proofs.Placing.{IsIteratorAt, PlacedIn, MayBePlaced, AllPlaced, Placed}
use Rattle.gm_sound_lowering.specs.Asked.{is_plain_constant}
use Rattle.gm_compilable.proofs.Telling.{Tells, MayTell, AllTell, Body, Phase}
use Rattle.gm_compilable.proofs.Typed.{Has, MayHave, AllHave, HasIn}

pub below-or : (x n : ℕ) → (x < n) ⊎ (n ≤ x)
below-or x n = by (nat_lt x n) refl
  where
    by : (b : Bool) → nat_lt x n ≡ b → (x < n) ⊎ (n ≤ x)
    by true e = inl (ltb-true x n e)
    by false e = inr (ltb-false x n e)

-- ---- what may be told

module _ (table : TypeTable) where
  -- outside of parallel loops, and in one
  abbrev pub Out : ℕ → Type 0
  Out x = holds table [] x ≡ true

  abbrev pub In : ℕ → ℕ → Type 0
  In n x = holds table (n ∷ []) x ≡ true

  abbrev scalar : ℕ → Bool
  scalar x = is_of table.declarations Sorts.Scalar x

  any-or : (a b c d : Bool) → (c ≡ true → d ≡ true) → a || (b || c) ≡ true → a || (b || d) ≡ true
  any-or true b c d f h = refl
  any-or false true c d f h = refl
  any-or false false c d f h = f h

  pub wider : (n x : ℕ) → Out x → In n x
  wider n x h = any-or (scalar x) (nat_le table.inputs x) false (nat_eq x n || false) (λ e. absurd (both_ways false refl e)) h

  pub far : (x : ℕ) → table.inputs ≤ x → Out x
  far x low = right (scalar x) (nat_le table.inputs x) (le-leb table.inputs x low)
    where
      right : (a b : Bool) → b ≡ true → a || (b || false) ≡ true
      right true b h = refl
      right false true h = refl
      right false false h = absurd (both_ways false refl h)

  pub far-in : (n x : ℕ) → table.inputs ≤ x → In n x
  far-in n x low = wider n x (far x low)

  -- what is told inside some iterators may be told inside others
  abbrev Low : List ℕ → List ℕ → Type 0
  Low its base = (x : ℕ) → holds table its x ≡ true → holds table base x ≡ true

  -- one that is no input adds nothing
  drop : (i : ℕ) (its : List ℕ) → table.inputs ≤ i → Low (i ∷ its) its
  drop i its low x h = by (nat_eq x i) refl (scalar x) (nat_le table.inputs x) refl (is_in its x) h
    where
      by : (e : Bool) → nat_eq x i ≡ e → (a b : Bool) → nat_le table.inputs x ≡ b → (r : Bool) → a || (b || (e || r)) ≡ true → a || (b || r) ≡ true
      by e q true b s r h = refl
      by e q false true s r h = refl
      by false q false false s r h = h
      by true q false false s r h = let same : x ≡ i = eqb-true x i q in let l : table.inputs ≤ x = omega (arith, same, low) in absurd (both_ways (nat_le table.inputs x) s (le-leb table.inputs x l))

  both-in : (i : ℕ) (its base : List ℕ) → Low its base → Low (i ∷ its) (i ∷ base)
  both-in i its base l x h = by (nat_eq x i) (scalar x) (nat_le table.inputs x) (is_in its x) (is_in base x) (l x) h
    where
      by : (e a b r s : Bool) → (a || (b || r) ≡ true → a || (b || s) ≡ true) → a || (b || (e || r)) ≡ true → a || (b || (e || s)) ≡ true
      by e true b r s f h = refl
      by e false true r s f h = refl
      by true false false r s f h = refl
      by false false false r s f h = f h

  further : (i : ℕ) (its base : List ℕ) → table.inputs ≤ i → Low its base → Low (i ∷ its) base
  further i its base low l x h = l x (drop i its low x h)

module _ (ds : List Declaration) (inputs : ℕ) (no_iterator : (x : ℕ) → x < inputs → is Sorts.Iterator (variable_at ds x) ≡ false) where
  abbrev table : TypeTable
  table = record { limit = 0; declarations = ds; inputs = inputs }

  pub no-input : (d i : ℕ) → IsIteratorAt ds d i → inputs ≤ i
  no-input d i h = ⊎_elim (λ (l : i < inputs). absurd (both_ways (is Sorts.Iterator (variable_at ds i)) (no_iterator i l) (ap (λ o. is Sorts.Iterator (variable_or o)) h))) (λ (l : inputs ≤ i). l) (below-or i inputs)

  constant : (v : Value) → is_below 0 v ≡ true → is_plain_constant v ≡ true
  constant (Values.I32 z) h = refl
  constant (Values.I64 z) h = refl
  constant (Values.Flag b) h = refl
  constant (Values.At None) h = refl
  constant (Values.At (Some k)) h = let l = ltb-true k 0 h in absurd (omega (arith, l))

  abbrev Base : List ℕ → ℕ → Type 0
  Base base x = holds table base x ≡ true

  -- ---- expressions

  expr : (base its : List ℕ) (d : ℕ) (edge : Bool) (e : Expr) → Low table its base → PlacedIn ds d edge e → Has ds e → tells table its e ≡ true → Tells (Base base) e
  expr base its d edge (Const v) l p n h = constant v h
  expr base its d edge (Var x at) l p n h = l x h
  expr base its d edge (Unary op at e) l p n h = expr base its d edge e l p n.3 h
  expr base its d edge (Binary op at a b) l p n h = let q = both-true (tells table its a) (tells table its b) h in (expr base its d edge a l p.0 n.0 q.0, expr base its d edge b l p.1 n.1 q.1)
  expr base its d edge (Both a b) l p n h = let q = both-true (tells table its a) (tells table its b) h in (expr base its d edge a l p.0 n.0 q.0, expr base its d edge b l p.1 n.1 q.1)
  expr base its d edge (Either a b) l p n h = let q = both-true (tells table its a) (tells table its b) h in (expr base its d edge a l p.0 n.0 q.0, expr base its d edge b l p.1 n.1 q.1)
  expr base its d edge (Choose c a b) l p n h =
      let q = both-true (tells table its c) (tells table its a && tells table its b) h in
      let r = both-true (tells table its a) (tells table its b) q.1 in
      (expr base its d edge c l p.0 n.0 q.0, (expr base its d edge a l p.1.0 n.1.0 r.0, expr base its d edge b l p.1.1 n.1.1 r.1))
  expr base its d edge (Folded f hd test e) l p n h =
      let i = hd.iterator in
      let q = both-true (takes_nodes table i) (tells table (i ∷ its) test && tells table (i ∷ its) e) h in
      let r = both-true (tells table (i ∷ its) test) (tells table (i ∷ its) e) q.1 in
      let m = further table i its base (no-input (d + 1) i p.0) l in
      (n.0, (expr base (i ∷ its) (d + 1) edge test m p.1.0 n.1.0 r.0, expr base (i ∷ its) (d + 1) edge e m p.1.1 n.1.1 r.1))
  expr base its d edge (Property x q at) l p n h = tt
  expr base its d edge (EdgeProperty x q at) l p n h = tt
  expr base its d edge (Degree r x at) l p n h = tt
  expr base its d edge NodeCount l p n h = tt
  expr base its d edge EdgeCount l p n h = tt
  expr base its d edge (Live x at) l p n h = tt

  may : (base its : List ℕ) (d : ℕ) (edge : Bool) (o : Option Expr) → Low table its base → MayBePlaced ds d edge o → MayHave ds o → may_tell table its o ≡ true → MayTell (Base base) o
  may base its d edge None l p n h = tt
  may base its d edge (Some e) l p n h = expr base its d edge e l p n h

  each : (base its : List ℕ) (d : ℕ) (edge : Bool) (es : List Expr) → Low table its base → AllPlaced ds d edge es → AllHave ds es → all_tell table its es ≡ true → AllTell (Base base) es
  each base its d edge [] l p n h = tt
  each base its d edge (e ∷ es) l p n h = let q = both-true (tells table its e) (all_tell table its es) h in (expr base its d edge e l p.0 n.0 q.0, each base its d edge es l p.1 n.1 q.1)

  -- ---- bodies

  body : (base its : List ℕ) (d : ℕ) (edge : Bool) (s : Stmt) → Low table its base → Placed ds d edge s → HasIn ds s → tells_in table its s ≡ true → Body (Base base) s
  body base its d edge (Then a b) l p n h =
      let q = both-true (tells_in table its a) (tells_in table its b) h in (body base its d edge a l p.0 n.0 q.0, body base its d p.1.0 b l p.1.1.1 n.1 q.1)
  body base its d edge (Declare k x e) l p n h = may base its d edge e l p.1 n h
  body base its d edge (Assign k t e) l p n h = expr base its d edge e l p.1 n h
  body base its d edge (Defer k t e) l p n h = expr base its d edge e l p.1 n h
  body base its d edge (Combine k total r ts es) l p n h = each base its d edge es l p.0.1 n h
  body base its d edge (If k c a b) l p n h =
      let q = both-true (tells table its c) (tells_in table its a && tells_in table its b) h in
      let r = both-true (tells_in table its a) (tells_in table its b) q.1 in
      (expr base its d edge c l p.0 n.0 q.0, (body base its d edge a l p.1.0 n.1.0 r.0, body base its d edge b l p.1.1 n.1.1 r.1))
  body base its d edge (Foreach k at hd test s) l p n h =
      let i = hd.iterator in
      let q = both-true (takes_nodes table i) (tells table (i ∷ its) test && tells_in table (i ∷ its) s) h in
      let r = both-true (tells table (i ∷ its) test) (tells_in table (i ∷ its) s) q.1 in
      let m = further table i its base (no-input (d + 1) i p.0) l in
      (expr base (i ∷ its) (d + 1) edge test m p.1.0 n.0 r.0, body base (i ∷ its) (d + 1) edge s m p.1.1 n.1 r.1)
  body base its d edge s l p n h = tt

  -- ---- sequential phases

  loop : (its : List ℕ) (i : ℕ) (edge : Bool) (test : Expr) (s : Stmt) → Low table its [] → PlacedIn ds 1 edge test → Placed ds 1 edge s → Has ds test → HasIn ds s → tells table (i ∷ its) test ≡ true → tells_in table (i ∷ its) s ≡ true
      → Tells (Base (i ∷ [])) test × Body (Base (i ∷ [])) s
  loop its i edge test s l p q n m h k = let low = both-in table i its [] l in (expr (i ∷ []) (i ∷ its) 1 edge test low p n h, body (i ∷ []) (i ∷ its) 1 edge s low q m k)

  phase : (its : List ℕ) (edge : Bool) (s : Stmt) → Low table its [] → Placed ds 0 edge s → HasIn ds s → tells_in table its s ≡ true → Phase (IsIteratorAt ds 0) (Out table) (In table) s
  phase its edge (Then a b) l p n h = let q = both-true (tells_in table its a) (tells_in table its b) h in (phase its edge a l p.0 n.0 q.0, phase its p.1.0 b l p.1.1.1 n.1 q.1)
  phase its edge (Declare k x e) l p n h = may [] its 0 edge e l p.1 n h
  phase its edge (Assign k t e) l p n h = expr [] its 0 edge e l p.1 n h
  phase its edge (Combine k total r ts es) l p n h = each [] its 0 edge es l p.0.1 n h
  phase its edge (Group k at g x e) l p n h =
      let q = both-true (takes_nodes table g) (tells table (g ∷ its) e) h in expr (g ∷ []) (g ∷ its) 1 edge e (both-in table g its [] l) p.1 n q.1
  phase its edge (Foreach k at hd test s) l p n h =
      let i = hd.iterator in
      let q = both-true (takes_nodes table i) (tells table (i ∷ its) test && tells_in table (i ∷ its) s) h in
      let r = both-true (tells table (i ∷ its) test) (tells_in table (i ∷ its) s) q.1 in
      loop its i edge test s l p.1.0 p.1.1 n.0 n.1 r.0 r.1
  phase its edge (For k at hd test s) l p n h =
      let i = hd.iterator in
      let q = both-true (takes_nodes table i) (tells table (i ∷ its) test && tells_in table (i ∷ its) s) h in
      let r = both-true (tells table (i ∷ its) test) (tells_in table (i ∷ its) s) q.1 in
      let low = no-input 0 i p.0 in
      let m = further table i its [] low l in
      (p.0, (expr [] (i ∷ its) 0 edge test m p.1.0 n.0 r.0, phase (i ∷ its) edge s m p.1.1 n.1 r.1))
  phase its edge (If k c a b) l p n h =
      let q = both-true (tells table its c) (tells_in table its a && tells_in table its b) h in
      let r = both-true (tells_in table its a) (tells_in table its b) q.1 in
      (expr [] its 0 edge c l p.0 n.0 q.0, (phase its edge a l p.1.0 n.1.0 r.0, phase its edge b l p.1.1 n.1.1 r.1))
  phase its edge (While k at c s) l p n h = let q = both-true (tells table its c) (tells_in table its s) h in (expr [] its 0 edge c l p.0 n.0 q.0, phase its edge s l p.1 n.1 q.1)
  phase its edge (Do k at s c) l p n h = let q = both-true (tells_in table its s) (tells table its c) h in (phase its edge s l p.0 n.0 q.0, expr [] its 0 edge c l p.1 n.1 q.1)
  phase its edge (InBfs k at search test s) l p n h =
      let i = search.iterator in
      let q = both-true (takes_nodes table i) (tells table (i ∷ its) test && tells_in table (i ∷ its) s) h in
      let r = both-true (tells table (i ∷ its) test) (tells_in table (i ∷ its) s) q.1 in
      loop its i edge test s l p.1.0 p.1.1 n.0 n.1 r.0 r.1
  phase its edge (InBfsBoth k at search test s back_key back_test back) l p n h =
      let i = search.iterator in
      let q = both-true (takes_nodes table i) (tells table (i ∷ its) test && (tells_in table (i ∷ its) s && (tells table (i ∷ its) back_test && tells_in table (i ∷ its) back))) h in
      let r = both-true (tells table (i ∷ its) test) (tells_in table (i ∷ its) s && (tells table (i ∷ its) back_test && tells_in table (i ∷ its) back)) q.1 in
      let u = both-true (tells_in table (i ∷ its) s) (tells table (i ∷ its) back_test && tells_in table (i ∷ its) back) r.1 in
      let v = both-true (tells table (i ∷ its) back_test) (tells_in table (i ∷ its) back) u.1 in
      (loop its i edge test s l p.1.0.0 p.1.0.1 n.0.0 n.0.1 r.0 u.0, loop its i edge back_test back l p.1.1.0 p.1.1.1 n.1.0 n.1.1 v.0 v.1)
  phase its edge (Return k at e) l p n h = may [] its 0 edge e l p n h
  phase its edge s l p n h = tt

  pub text-tells : (s : Stmt) → Placed ds 0 false s → HasIn ds s → tells_in table [] s ≡ true → Phase (IsIteratorAt ds 0) (Out table) (In table) s
  text-tells s p n h = phase [] false s (λ x e. e) p n h
