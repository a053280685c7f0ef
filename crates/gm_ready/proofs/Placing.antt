-- How deep each variable is declared, and where edges may be read: what typing gives a tree besides names and types.
use Rattle.std.proofs.Common.{◌≡◌, ◌+◌, ◌≤◌, ℕ, Bool, true, false, List, [], ◌∷◌, ◌++◌, refl, ap, ◌∙◌, arith, Option, Some, None}
use Rattle.std.specs.Prelude.{◌&&◌, ◌||◌, slice_get, option_map, is_none, if◌then◌else◌}
use Rattle.std.specs.Str.{bytes_eq}
use Rattle.std.proofs.lemmas.Bool.{both_ways}
use Rattle.gm_base.specs.declared.rules.Rule.TheVariants.{T2}
use Rattle.gm_ast.specs.declared.tree.Declaration.{Declaration}
use Rattle.gm_ast.specs.declared.tree.Key.{Key}
use Rattle.gm_ast.specs.declared.tree.Stage.TheVariants.{Operator, Total}
use Rattle.gm_ast.specs.declared.tree.TotalKey.{TotalKey}
use Rattle.gm_ast.specs.declared.tree.Target.{Target}
use Rattle.gm_ast.specs.declared.tree.Target.TheVariants as T
use Rattle.gm_ast.specs.declared.tree.Sort.TheVariants as Sorts
use Rattle.gm_ast.specs.declared.tree.Variable.{Variable}
use Rattle.gm_ast.specs.declared.kinds.Binding.{Binding}
use Rattle.gm_ast.specs.Surface.{SurfaceName}
use Rattle.gm_ast.specs.Program.{Expr, Const, Var, Property, EdgeProperty, Degree, NodeCount, EdgeCount, Live, Unary, Binary, Both, Either, Choose, Folded, Stmt, Skip, Then, Declare, DeclareEdge, Assign, Defer, Combine, Group, Foreach, For, If, While, Do, InBfs, InBfsBoth, Return}
use Rattle.gm_ast.specs.Judged.{Judged, unless}
use Rattle.gm_ast.specs.Loops.{declared_at, is_property}
use Rattle.gm_ast.specs.Names.{Known, Env, known_as, known_with, used, both, later, an_iterator, inside, iterated, keyed, counted, is, operators_of, numbered}
use Rattle.gm_forms.specs.Sharing.{are_alike, are_distinct, variables_of}
use Rattle.gm_ready.proofs.Judging.{IfPart, if-both, if-known, Gives, gives-beside, append-empty}

-- a target that is a property through a node variable
abbrev pub is_through_one : Target → Bool
is_through_one (T.Scalar x at) = false
is_through_one (T.Property x p at) = true

-- targets that are scalars, or properties through one variable, of which none stands twice
abbrev pub Alike : List Target → Type 0
Alike ts = are_alike ts && are_distinct (variables_of ts) ≡ true

-- whether a statement declares an edge
abbrev pub declares_edge : Stmt → Bool
declares_edge (DeclareEdge x y at) = true
declares_edge _ = false

module _ (ds : List Declaration) where
  -- an iterator inside so many parallel loops
  abbrev pub IsIteratorAt : ℕ → ℕ → Type 0
  IsIteratorAt d i = declared_at ds i ≡ Some (an_iterator d)

  -- what is no property
  abbrev pub NoProperty : ℕ → Type 0
  NoProperty x = is_property (declared_at ds x) ≡ false

  -- an expression inside so many parallel loops, where edges may be read or not
  abbrev pub PlacedIn : ℕ → Bool → Expr → Type 0
  PlacedIn d edge (Const v) = Unit {0}
  PlacedIn d edge (Var x at) = NoProperty x
  PlacedIn d edge (Property x p at) = Unit {0}
  PlacedIn d edge (EdgeProperty x p at) = edge ≡ true
  PlacedIn d edge (Degree r x at) = Unit {0}
  PlacedIn d edge NodeCount = Unit {0}
  PlacedIn d edge EdgeCount = Unit {0}
  PlacedIn d edge (Live x at) = NoProperty x
  PlacedIn d edge (Unary op at e) = PlacedIn d edge e
  PlacedIn d edge (Binary op at a b) = PlacedIn d edge a × PlacedIn d edge b
  PlacedIn d edge (Both a b) = PlacedIn d edge a × PlacedIn d edge b
  PlacedIn d edge (Either a b) = PlacedIn d edge a × PlacedIn d edge b
  PlacedIn d edge (Choose c a b) = PlacedIn d edge c × (PlacedIn d edge a × PlacedIn d edge b)
  PlacedIn d edge (Folded f h test e) = IsIteratorAt (d + 1) h.iterator × (PlacedIn (d + 1) edge test × PlacedIn (d + 1) edge e)

  abbrev pub MayBePlaced : ℕ → Bool → Option Expr → Type 0
  MayBePlaced d edge None = Unit {0}
  MayBePlaced d edge (Some e) = PlacedIn d edge e

  abbrev pub AllPlaced : ℕ → Bool → List Expr → Type 0
  AllPlaced d edge [] = Unit {0}
  AllPlaced d edge (e ∷ es) = PlacedIn d edge e × AllPlaced d edge es

  -- a scalar that is declared inside no more parallel loops, or a node property
  abbrev pub PlacedTarget : ℕ → Target → Type 0
  PlacedTarget d (T.Scalar x at) = (v : Variable) × ((declared_at ds x ≡ Some v) × ((is Sorts.Scalar v ≡ true) × (v.depth ≤ d)))
  PlacedTarget d (T.Property x p at) = (v : Variable) × ((declared_at ds p ≡ Some v) × (is Sorts.NodeProperty v ≡ true))

  abbrev pub PlacedTargets : ℕ → List Target → Type 0
  PlacedTargets d [] = Unit {0}
  PlacedTargets d (t ∷ ts) = PlacedTarget d t × PlacedTargets d ts

  -- a declaration inside so many parallel loops; that of a property is inside none
  abbrev pub PlacedName : ℕ → ℕ → Type 0
  PlacedName d x = (v : Variable) × ((declared_at ds x ≡ Some v) × ((v.depth ≡ d) × (is Sorts.Scalar v ≡ false → d ≡ 0)))

  -- a reduction assignment has the key of its operators, and its total that of its statement
  abbrev pub KeyedTotal : Key → TotalKey → Type 0
  KeyedTotal k total = (k.stage ≡ Operator) × (total.key ≡ record { statement = k.statement; stage = Total })

  -- the graph of a group assignment is declared outside of all loops, and it is no property
  abbrev pub PlacedGraph : ℕ → ℕ → Type 0
  PlacedGraph d g = (v : Variable) × ((declared_at ds g ≡ Some v) × ((is Sorts.Graph v ≡ true) × (v.depth ≤ d)))

  -- a statement inside so many parallel loops, where edges are known or not
  abbrev pub Placed : ℕ → Bool → Stmt → Type 0
  Placed d edge Skip = Unit {0}
  Placed d edge (Then a b) = Placed d edge a × ((more : Bool) × ((more ≡ true → edge || declares_edge a ≡ true) × Placed d more b))
  Placed d edge (Declare k x e) = PlacedName d x × MayBePlaced d edge e
  Placed d edge (DeclareEdge x y at) = Unit {0}
  Placed d edge (Assign k t e) = PlacedTarget d t × PlacedIn d edge e
  Placed d edge (Defer k t e) = (PlacedTarget d t × (is_through_one t ≡ true)) × PlacedIn d edge e
  Placed d edge (Combine k total r ts es) = (PlacedTargets d ts × AllPlaced d edge es) × (KeyedTotal k total × Alike ts)
  Placed d edge (Group k at g p e) = (PlacedGraph d g × (is_property (declared_at ds p) ≡ true)) × PlacedIn (d + 1) edge e
  Placed d edge (Foreach k at h test body) = IsIteratorAt (d + 1) h.iterator × (PlacedIn (d + 1) edge test × Placed (d + 1) edge body)
  Placed d edge (For k at h test body) = IsIteratorAt (d + 0) h.iterator × (PlacedIn (d + 0) edge test × Placed (d + 0) edge body)
  Placed d edge (If k c a b) = PlacedIn d edge c × (Placed d edge a × Placed d edge b)
  Placed d edge (While k at c body) = PlacedIn d edge c × Placed d edge body
  Placed d edge (Do k at body c) = Placed d edge body × PlacedIn d edge c
  Placed d edge (InBfs k at s test body) = IsIteratorAt (d + 1) s.iterator × (PlacedIn (d + 1) edge test × Placed (d + 1) edge body)
  Placed d edge (InBfsBoth k at s test body back_key back_test back) =
      IsIteratorAt (d + 1) s.iterator × ((PlacedIn (d + 1) edge test × Placed (d + 1) edge body) × (PlacedIn (d + 1) edge back_test × Placed (d + 1) edge back))
  Placed d edge (Return k at e) = MayBePlaced d edge e

  -- ---- names

  -- a name stands in the table under its letters as what it means, which is declared inside no more parallel loops; it is an edge only where one may be read
  abbrev pub IsKnown : ℕ → Bool → Known → Type 0
  IsKnown d edge k =
      (slice_get ds k.binding.index ≡ Some (record { name = k.text; variable = k.binding.variable })) × ((k.binding.variable.depth ≤ d) × (is Sorts.Edge k.binding.variable ≡ true → edge ≡ true))

  abbrev pub Knows : ℕ → Bool → List Known → Type 0
  Knows d edge [] = Unit {0}
  Knows d edge (k ∷ ks) = IsKnown d edge k × Knows d edge ks

  -- what a name means
  abbrev pub IsBound : ℕ → Bool → Binding → Type 0
  IsBound d edge b = (declared_at ds b.index ≡ Some b.variable) × ((b.variable.depth ≤ d) × (is Sorts.Edge b.variable ≡ true → edge ≡ true))

  pub knows-more : (d e : ℕ) (edge more : Bool) (ks : List Known) → d ≤ e → (edge ≡ true → more ≡ true) → Knows d edge ks → Knows e more ks
  knows-more d e edge more [] h m known = tt
  knows-more d e edge more (k ∷ ks) h m known =
      let low : k.binding.variable.depth ≤ d = known.0.1.0 in
      ((known.0.0, (omega (arith, low, h), λ is. m (known.0.1.1 is))), knows-more d e edge more ks h m known.1)

  knows-append : (d : ℕ) (edge : Bool) (ks : List Known) (k : Known) → Knows d edge ks → IsKnown d edge k → Knows d edge (ks ++ (k ∷ []))
  knows-append d edge [] k h b = (b, tt)
  knows-append d edge (x ∷ ks) k h b = (h.0, knows-append d edge ks k h.1 b)

  pub knows-with : (d : ℕ) (edge : Bool) (ks : List Known) (text : List ℕ) (b : Binding) → Knows d edge ks → IsKnown d edge (record { text = text; binding = b }) → Knows d edge (known_with ks text b)
  knows-with d edge ks text b h bound = by (is_none (known_as ks text))
    where
      by : (new : Bool) → Knows d edge (if new then ks ++ (record { text = text; binding = b } ∷ []) else ks)
      by true = knows-append d edge ks (record { text = text; binding = b }) h bound
      by false = h

  pub knows-bound : (d : ℕ) (edge : Bool) (ks : List Known) (text : List ℕ) → Knows d edge ks → IfPart (IsBound d edge) (known_as ks text)
  knows-bound d edge [] text h = tt
  knows-bound d edge (k ∷ ks) text h = by (bytes_eq text k.text) (knows-bound d edge ks text h.1)
    where
      by : (same : Bool) → IfPart (IsBound d edge) (known_as ks text) → IfPart (IsBound d edge) (if same then Some k.binding else known_as ks text)
      by true rest = (ap (λ o. option_map (λ (x : Declaration). x.variable) o) h.0.0, h.0.1)
      by false rest = rest

  -- ---- judged parts inside so many parallel loops

  abbrev pub At : {A : Type 0} → ℕ → Bool → (A → Type 0) → (Env → Judged A) → Type 0
  At d edge P part = (env : Env) → Knows d edge env.known → env.depth ≡ d → Gives ds P env.next (part env)

  pub at-both : {A B : Type 0} (d : ℕ) (edge : Bool) (P : A → Type 0) (Q : B → Type 0) (first : Env → Judged A) (second : Env → Judged B)
      → At d edge P first → At d edge Q second → At d edge (λ p. P p.0 × Q p.1) (both first second)
  at-both d edge P Q first second f g env known is =
      gives-beside ds P Q env.next (first env) (second (later env (first env))) (f env known is) (g (later env (first env)) known is)

  pub at-used : (d : ℕ) (edge : Bool) (name : SurfaceName) → At d edge (IsBound d edge) (used name)
  at-used d edge name env known is has clean = if-known ds (IsBound d edge) name (known_as env.known name.text) (knows-bound d edge env.known name.text known)

  at-inside : {A : Type 0} (d loops : ℕ) (edge : Bool) (P : A → Type 0) (name : SurfaceName) (part : Env → Judged A) (env : Env) → Knows d edge env.known → env.depth ≡ d
      → (Knows (d + loops) edge (inside env name loops).known → Gives ds P (inside env name loops).next (part (inside env name loops)))
      → Gives ds (λ p. IsIteratorAt (d + loops) p.0 × P p.1) env.next (iterated name loops part env)
  at-inside d loops edge P name part env known is good has clean =
      let v = an_iterator (env.depth + loops) in
      let inner = inside env name loops in
      let none = append-empty (unless (is_none (known_as env.known name.text)) T2 name.place) (part inner).broken clean in
      let deep : d ≤ d + loops = omega arith in
      let low : env.depth + loops ≤ d + loops = omega (arith, is) in
      if-both (IsIteratorAt (d + loops)) P (Some env.next) (part inner).part
      (ap (λ o. option_map (λ (x : Declaration). x.variable) o) has.0 ∙ ap (λ n. Some (an_iterator (n + loops))) is)
      (good (knows-with (d + loops) edge env.known name.text (record { index = env.next; variable = v }) (knows-more d (d + loops) edge edge env.known deep (λ h. h) known)
      (has.0, (low, λ h. absurd (both_ways false refl h)))) has.1 none.1)

  pub at-iterated : {A : Type 0} (d loops : ℕ) (edge : Bool) (P : A → Type 0) (name : SurfaceName) (part : Env → Judged A) → At (d + loops) edge P part
      → At d edge (λ p. IsIteratorAt (d + loops) p.0 × P p.1) (iterated name loops part)
  at-iterated d loops edge P name part good env known is =
      at-inside d loops edge P name part env known is (λ inner. good (inside env name loops) inner (ap (λ n. n + loops) is))

  pub at-keyed : {A : Type 0} (d : ℕ) (edge : Bool) (P : A → Type 0) (k : Key) (part : Env → Judged A) → At d edge P part → At d edge P (keyed k part)
  at-keyed d edge P k part good env known is has clean = good (record env { key = k }) known is has clean

  pub at-counted : {A : Type 0} (d : ℕ) (edge : Bool) (P : A → Type 0) (n : ℕ) (part : Env → Judged A) → At d edge P part → At d edge P (counted n part)
  at-counted d edge P n part good env known is has clean = good (record env { number = env.number + n }) known is has clean

  -- ---- the same of statements, whose operators have their keys

  abbrev pub AtKey : {A : Type 0} → ℕ → Bool → (A → Type 0) → (Env → Judged A) → Type 0
  AtKey d edge P part = (env : Env) → Knows d edge env.known → env.depth ≡ d → env.key.stage ≡ Operator → Gives ds P env.next (part env)

  pub any-key : {A : Type 0} (d : ℕ) (edge : Bool) (P : A → Type 0) (part : Env → Judged A) → At d edge P part → AtKey d edge P part
  any-key d edge P part good env known is key = good env known is

  pub key-both : {A B : Type 0} (d : ℕ) (edge : Bool) (P : A → Type 0) (Q : B → Type 0) (first : Env → Judged A) (second : Env → Judged B)
      → AtKey d edge P first → AtKey d edge Q second → AtKey d edge (λ p. P p.0 × Q p.1) (both first second)
  key-both d edge P Q first second f g env known is key =
      gives-beside ds P Q env.next (first env) (second (later env (first env))) (f env known is key) (g (later env (first env)) known is key)

  pub key-iterated : {A : Type 0} (d loops : ℕ) (edge : Bool) (P : A → Type 0) (name : SurfaceName) (part : Env → Judged A) → AtKey (d + loops) edge P part
      → AtKey d edge (λ p. IsIteratorAt (d + loops) p.0 × P p.1) (iterated name loops part)
  key-iterated d loops edge P name part good env known is key =
      at-inside d loops edge P name part env known is (λ inner. good (inside env name loops) inner (ap (λ n. n + loops) is) key)

  pub key-numbered : {A : Type 0} (d : ℕ) (edge : Bool) (P : A → Type 0) (part : Env → Judged A) → AtKey d edge P part → AtKey d edge P (numbered part)
  key-numbered d edge P part good env known is key has clean = good (record env { number = env.number + 1; key = operators_of env.number }) known is refl has clean
