-- Typed expressions stand as deep as they are judged, and read edges only where these are known.
use Rattle.std.proofs.Common.{◌≡◌, ◌+◌, ℕ, Bool, true, false, List, [], ◌∷◌, ◌++◌, refl, ap, ◌∙◌, Option, Some, None}
use Rattle.std.specs.Prelude.{◌&&◌, ◌||◌, if◌then◌else◌, Ok, Err}
use Rattle.gm_base.specs.declared.places.Place.{Place}
use Rattle.gm_base.specs.declared.rules.Rule.{Rule}
use Rattle.gm_base.specs.declared.rules.Rule.TheVariants.{T7, T8, T10}
use Rattle.gm_value.specs.declared.values.VType.{VType}
use Rattle.gm_value.specs.declared.values.VType.TheVariants.{I32, I64, Flag, Node}
use Rattle.gm_value.specs.declared.operations.Op2.{Op2}
use Rattle.gm_ast.specs.declared.tree.Declaration.{Declaration}
use Rattle.gm_ast.specs.declared.tree.Head.{Head}
use Rattle.gm_ast.specs.declared.tree.Sort.{Sort}
use Rattle.gm_ast.specs.declared.tree.Sort.TheVariants as Sorts
use Rattle.gm_ast.specs.declared.kinds.Binding.{Binding}
use Rattle.gm_ast.specs.declared.kinds.Kind.{Kind}
use Rattle.gm_ast.specs.declared.kinds.Kind.TheVariants as Kinds
use Rattle.gm_ast.specs.declared.kinds.Query.{Query}
use Rattle.gm_ast.specs.declared.kinds.Query.TheVariants as Queries
use Rattle.gm_ast.specs.declared.kinds.Reducer.{Reducer}
use Rattle.gm_ast.specs.declared.surface.ReductionWord.{ReductionWord}
use Rattle.gm_ast.specs.declared.surface.ReductionWord.TheVariants.{Sum, Product, Min, Max, Count, Exist, All}
use Rattle.gm_ast.specs.declared.surface.Prefix.{Prefix}
use Rattle.gm_ast.specs.declared.surface.Prefix.TheVariants as Prefixes
use Rattle.gm_ast.specs.declared.surface.Infix.{Infix}
use Rattle.gm_ast.specs.declared.surface.Infix.TheVariants as Infixes
use Rattle.gm_ast.specs.Surface.{SurfaceExpr, Always, Number, Truth, Nil, Greatest, Least, Named, Member, Method, Paren, Prefixed, Infixed, Choose, Reduction}
use Rattle.gm_ast.specs.Program as P
use Rattle.gm_ast.specs.Program.{Expr}
use Rattle.gm_ast.specs.Judged.{Judged, Answer, ok_of, refused, refused_unless, then_answer}
use Rattle.gm_ast.specs.Loops.{declared_at, is_property}
use Rattle.gm_ast.specs.Names.{Env, is, sort_eq, used, both, iterated, keyed, counted}
use Rattle.gm_ast.specs.Kinds.{Part, part_of, narrowed, as_int, as_long, int_of, taken, joint, settled, settled_as, is_empty, is_number, is_flag, accepts, fitted}
use Rattle.gm_ast.specs.Typing as Typing
use Rattle.gm_ast.specs.Typing.{typed, condition, start_of, ranged, head_with, named_as, member_part, method_part, query_of, stands_for_node, is_already, changed_part, cast_part, prefix_part, paired, paired_after, large_of, compares_any, is_arithmetic, is_value, compared_as, operation, operation_by, infix_part, choice_by, choice_part, folded, of_numbers_as, of_conditions, reduction_part, reduction_rule, reducer_at, fold_numbers}
use Rattle.gm_forms.proofs.Named.{both-true}
use Rattle.gm_ready.proofs.Judging.{IfPart, if-good, if-then, if-else, gives-judge}
use Rattle.gm_ready.proofs.Placing.{IsIteratorAt, NoProperty, PlacedIn, IsBound, At, at-both, at-used, at-iterated, at-keyed, at-counted}

module _ (ds : List Declaration) where
  -- a name of such a sort is no property
  pub no-property : (s : Sort) (b : Binding) → b.variable.sort ≡ s → declared_at ds b.index ≡ Some b.variable → sort_eq Sorts.NodeProperty s || sort_eq Sorts.EdgeProperty s ≡ false → NoProperty ds b.index
  no-property s b e h n = ap is_property h ∙ ap (λ s. sort_eq Sorts.NodeProperty s || sort_eq Sorts.EdgeProperty s) e ∙ n

  module _ (d : ℕ) (edge : Bool) where
    abbrev pub PlacedPart : Part → Type 0
    PlacedPart p = PlacedIn ds d edge p.core

    abbrev IfPlaced : Answer Expr → Type 0
    IfPlaced a = IfPart (PlacedIn ds d edge) (ok_of a)

    abbrev IfPartPlaced : Answer Part → Type 0
    IfPartPlaced a = IfPart PlacedPart (ok_of a)

    narrowed-placed : (e : Expr) → PlacedIn ds d edge e → PlacedIn ds d edge (narrowed e)
    narrowed-placed (P.Const v) h = tt
    narrowed-placed (P.Unary op at e) h = narrowed-placed e h
    narrowed-placed (P.Binary op at a b) h = (narrowed-placed a h.0, narrowed-placed b h.1)
    narrowed-placed (P.Choose c a b) h = (h.0, (narrowed-placed a h.1.0, narrowed-placed b h.1.1))
    narrowed-placed _ h = h

    as_int-placed : (large : List Place) (e : Expr) → PlacedIn ds d edge e → IfPlaced (as_int (record { kind = Kinds.Flexible; core = e; large = large }))
    as_int-placed [] e h = narrowed-placed e h
    as_int-placed (x ∷ xs) e h = tt

    int_of-placed : (k : Kind) (p : Part) → PlacedPart p → IfPlaced (int_of k p)
    int_of-placed Kinds.Flexible p h = as_int-placed p.large p.core h
    int_of-placed (Kinds.Of t) p h = h
    int_of-placed Kinds.Edge p h = h

    as_long-placed : (at : Place) (k : Kind) (e : Expr) → PlacedIn ds d edge e → PlacedIn ds d edge (as_long at k e)
    as_long-placed at (Kinds.Of I32) e h = h
    as_long-placed at (Kinds.Of I64) e h = h
    as_long-placed at (Kinds.Of Flag) e h = h
    as_long-placed at (Kinds.Of Node) e h = h
    as_long-placed at Kinds.Flexible e h = h
    as_long-placed at Kinds.Edge e h = h

    taken-placed : (k : Kind) (at : Place) (p : Part) → PlacedPart p → IfPlaced (taken k at p)
    taken-placed (Kinds.Of I32) at p h = int_of-placed p.kind p h
    taken-placed (Kinds.Of I64) at p h = as_long-placed at p.kind p.core h
    taken-placed (Kinds.Of Flag) at p h = h
    taken-placed (Kinds.Of Node) at p h = h
    taken-placed Kinds.Flexible at p h = h
    taken-placed Kinds.Edge at p h = h

    pub fitted-placed : (t : VType) (rule : Rule) (at : Place) (p : Part) → PlacedPart p → IfPlaced (fitted t rule at p)
    fitted-placed t rule at p h = if-else (PlacedIn ds d edge) (accepts t p.kind) (taken (Kinds.Of t) at p) (refused rule at) (λ _. taken-placed (Kinds.Of t) at p h) (λ _. tt)

    settled-placed : (k : Kind) (p : Part) → PlacedPart p → PlacedPart (settled_as k p)
    settled-placed Kinds.Flexible p h = by (is_empty p.large)
      where
        by : (none : Bool) → PlacedPart (if none then part_of (Kinds.Of I32) (narrowed p.core) else part_of (Kinds.Of I64) p.core)
        by true = narrowed-placed p.core h
        by false = h
    settled-placed (Kinds.Of t) p h = h
    settled-placed Kinds.Edge p h = h

    abbrev ArePlaced : Expr × Expr → Type 0
    ArePlaced p = PlacedIn ds d edge p.0 × PlacedIn ds d edge p.1

    pairs-placed : (a b : Answer Expr) → IfPlaced a → IfPlaced b → IfPart ArePlaced (ok_of (paired_after a b))
    pairs-placed (Err rs) b h g = tt
    pairs-placed (Ok a) (Err rs) h g = tt
    pairs-placed (Ok a) (Ok b) h g = (h, g)

    paired-placed : (at : Place) (k : Kind) (a b : Part) → PlacedPart a → PlacedPart b → IfPart ArePlaced (ok_of (paired at k a b))
    paired-placed at k a b h g = pairs-placed (taken k at a) (taken k at b) (taken-placed k at a h) (taken-placed k at b g)

    named-placed : (s : Sort) (group : Bool) (at : Place) (b : Binding) → b.variable.sort ≡ s → IsBound ds d edge b → IfPartPlaced (named_as s group at b)
    named-placed Sorts.Scalar group at b e h = no-property Sorts.Scalar b e h.0 refl
    named-placed Sorts.Iterator group at b e h = no-property Sorts.Iterator b e h.0 refl
    named-placed Sorts.Edge group at b e h = no-property Sorts.Edge b e h.0 refl
    named-placed Sorts.Graph group at b e h = if-good PlacedPart group T7 at (part_of (Kinds.Of Node) (P.Var b.index at)) (λ _. no-property Sorts.Graph b e h.0 refl)
    named-placed Sorts.NodeProperty group at b e h = tt
    named-placed Sorts.EdgeProperty group at b e h = tt

    member-placed : (group : Bool) (at : Place) (bs : Binding × Binding) → IsBound ds d edge bs.0 × IsBound ds d edge bs.1 → IfPartPlaced (member_part group at bs)
    member-placed group at bs h =
        let x = bs.0 in
        let p = bs.1 in
        if-else PlacedPart (stands_for_node group x.variable && is Sorts.NodeProperty p.variable) (Ok (part_of (Kinds.Of p.variable.vtype) (P.Property x.index p.index at)))
        (if is Sorts.Edge x.variable && is Sorts.EdgeProperty p.variable then Ok (part_of (Kinds.Of p.variable.vtype) (P.EdgeProperty x.index p.index at)) else refused T7 at)
        (λ t. tt)
        (λ _. if-else PlacedPart (is Sorts.Edge x.variable && is Sorts.EdgeProperty p.variable) (Ok (part_of (Kinds.Of p.variable.vtype) (P.EdgeProperty x.index p.index at))) (refused T7 at)
        (λ t. h.0.1.1 (both-true (is Sorts.Edge x.variable) (is Sorts.EdgeProperty p.variable) t).0)
        (λ _. tt))

    method-placed : (group : Bool) (at : Place) (q : Query) (b : Binding) → IfPartPlaced (method_part group at q b)
    method-placed group at (Queries.Degree r) b = if-good PlacedPart (stands_for_node group b.variable) T7 at (part_of (Kinds.Of I32) (P.Degree r b.index at)) (λ _. tt)
    method-placed group at Queries.NodeCount b = if-good PlacedPart (is Sorts.Graph b.variable) T7 at (part_of (Kinds.Of I32) P.NodeCount) (λ _. tt)
    method-placed group at Queries.EdgeCount b = if-good PlacedPart (is Sorts.Graph b.variable) T7 at (part_of (Kinds.Of I32) P.EdgeCount) (λ _. tt)
    method-placed group at Queries.ToEdge b = tt
    method-placed group at Queries.Unknown b = tt

    changed-placed : (t : VType) (at : Place) (p : Part) → PlacedPart p → PlacedPart (changed_part t at p)
    changed-placed I32 at p h = h
    changed-placed I64 at p h = h
    changed-placed Flag at p h = h
    changed-placed Node at p h = h

    cast-placed : (t : VType) (at : Place) (p : Part) → PlacedPart p → PlacedPart (cast_part t at p)
    cast-placed t at p h = by (is_already t p.kind)
      where
        by : (same : Bool) → PlacedPart (if same then p else changed_part t at p)
        by true = h
        by false = changed-placed t at p h

    prefix-placed : (at : Place) (op : Prefix) (p : Part) → PlacedPart p → IfPartPlaced (prefix_part at op p)
    prefix-placed at Prefixes.Minus p h = if-good PlacedPart (is_number p.kind) T8 at _ (λ _. h)
    prefix-placed at Prefixes.Not p h = if-good PlacedPart (is_flag p.kind) T8 at _ (λ _. h)
    prefix-placed at (Prefixes.Cast t) p h = if-good PlacedPart (is_number p.kind) T8 at _ (λ _. cast-placed t at (settled p) (settled-placed p.kind p h))

    operation-placed : (at : Place) (op : Op2) (k : Kind) (a b : Part) → PlacedPart a → PlacedPart b → IfPartPlaced (operation at op k a b)
    operation-placed at op k a b h g =
        let large = large_of k (a.large ++ b.large) in
        let c = compared_as k large in
        let number = if is_number k then then_answer (paired at k a b) (λ p. record { kind = k; core = P.Binary op at p.0 p.1; large = large }) else refused T8 at in
        let compared = if is_number k || (compares_any op && is_value k) then then_answer (paired at c a b) (λ p. part_of (Kinds.Of Flag) (P.Binary op at p.0 p.1)) else refused T8 at in
        if-else PlacedPart (is_arithmetic op) number compared
        (λ _. if-else PlacedPart (is_number k) (then_answer (paired at k a b) (λ p. record { kind = k; core = P.Binary op at p.0 p.1; large = large })) (refused T8 at)
        (λ _. if-then ArePlaced PlacedPart (paired at k a b) (λ p. record { kind = k; core = P.Binary op at p.0 p.1; large = large }) (paired-placed at k a b h g) (λ p n. n)) (λ _. tt))
        (λ _. if-else PlacedPart (is_number k || (compares_any op && is_value k)) (then_answer (paired at c a b) (λ p. part_of (Kinds.Of Flag) (P.Binary op at p.0 p.1))) (refused T8 at)
        (λ _. if-then ArePlaced PlacedPart (paired at c a b) (λ p. part_of (Kinds.Of Flag) (P.Binary op at p.0 p.1)) (paired-placed at c a b h g) (λ p n. n)) (λ _. tt))

    operation_by-placed : (at : Place) (op : Op2) (o : Option Kind) (a b : Part) → PlacedPart a → PlacedPart b → IfPartPlaced (operation_by at op o a b)
    operation_by-placed at op None a b h g = tt
    operation_by-placed at op (Some k) a b h g = operation-placed at op k a b h g

    infix-placed : (at : Place) (op : Infix) (ps : Part × Part) → PlacedPart ps.0 × PlacedPart ps.1 → IfPartPlaced (infix_part at op ps)
    infix-placed at (Infixes.Op op) ps h = operation_by-placed at op (joint ps.0.kind ps.1.kind) ps.0 ps.1 h.0 h.1
    infix-placed at Infixes.And ps h = if-good PlacedPart (is_flag ps.0.kind && is_flag ps.1.kind) T8 at _ (λ _. h)
    infix-placed at Infixes.Or ps h = if-good PlacedPart (is_flag ps.0.kind && is_flag ps.1.kind) T8 at _ (λ _. h)

    choice_by-placed : (at : Place) (o : Option Kind) (c : Expr) (a b : Part) → PlacedIn ds d edge c → PlacedPart a → PlacedPart b → IfPartPlaced (choice_by at o c a b)
    choice_by-placed at None c a b n h g = tt
    choice_by-placed at (Some k) c a b n h g =
        if-then ArePlaced PlacedPart (paired at k a b) (λ p. record { kind = k; core = P.Choose c p.0 p.1; large = large_of k (a.large ++ b.large) }) (paired-placed at k a b h g) (λ p m. (n, m))

    -- ---- reductions

    -- a filter and braces inside one more loop
    abbrev AreFolded : Expr → Expr → Type 0
    AreFolded filter e = PlacedIn ds (d + 1) edge filter × PlacedIn ds (d + 1) edge e

    numbers-placed : (k : Kind) (r : Reducer) (h : Head) (filter e : Expr) → IsIteratorAt ds (d + 1) h.iterator → AreFolded filter e → IfPartPlaced (of_numbers_as k r h filter e)
    numbers-placed (Kinds.Of t) r h filter e i f = if-good PlacedPart (is_number (Kinds.Of t)) T8 r.place (folded r t h filter e) (λ _. (i, f))
    numbers-placed Kinds.Flexible r h filter e i f = tt
    numbers-placed Kinds.Edge r h filter e i f = tt

    conditions-placed : (start : Place) (t : VType) (r : Reducer) (h : Head) (filter : Expr) (p : Part) → IsIteratorAt ds (d + 1) h.iterator → AreFolded filter p.core → IfPartPlaced (of_conditions start t r h filter p)
    conditions-placed start t r h filter p i f = if-good PlacedPart (is_flag p.kind) T10 start (folded r t h filter p.core) (λ _. (i, f))

module _ (ds : List Declaration) where
  reduction-placed : (d : ℕ) (edge : Bool) (word : ReductionWord) (start : Place) (r : Reducer) (h : Head) (filter : Expr) (p : Part) → IsIteratorAt ds (d + 1) h.iterator
      → PlacedIn ds (d + 1) edge filter → PlacedPart ds (d + 1) edge p → IfPart (PlacedPart ds d edge) (ok_of (reduction_part word start r h filter p))
  reduction-placed d edge Sum start r h filter p i f g = numbers-placed ds d edge (settled p).kind r h filter (settled p).core i (f, settled-placed ds (d + 1) edge p.kind p g)
  reduction-placed d edge Product start r h filter p i f g = numbers-placed ds d edge (settled p).kind r h filter (settled p).core i (f, settled-placed ds (d + 1) edge p.kind p g)
  reduction-placed d edge Min start r h filter p i f g = numbers-placed ds d edge (settled p).kind r h filter (settled p).core i (f, settled-placed ds (d + 1) edge p.kind p g)
  reduction-placed d edge Max start r h filter p i f g = numbers-placed ds d edge (settled p).kind r h filter (settled p).core i (f, settled-placed ds (d + 1) edge p.kind p g)
  reduction-placed d edge Count start r h filter p i f g = conditions-placed ds d edge start I32 r h filter p i (f, g)
  reduction-placed d edge Exist start r h filter p i f g = conditions-placed ds d edge start Flag r h filter p i (f, g)
  reduction-placed d edge All start r h filter p i f g = conditions-placed ds d edge start Flag r h filter p i (f, g)

  whatever : {A : Type 0} (o : Option A) → IfPart (λ a. Unit {0}) o
  whatever None = tt
  whatever (Some a) = tt

  pub at-anything : {A : Type 0} (d : ℕ) (edge : Bool) (part : Env → Judged A) → At ds d edge (λ a. Unit {0}) part
  at-anything d edge part env known is has clean = whatever (part env).part

  pub condition-placed : (d : ℕ) (edge : Bool) (at : Place) (part : Env → Judged Part) → At ds d edge (PlacedPart ds d edge) part → At ds d edge (PlacedIn ds d edge) (condition at part)
  condition-placed d edge at part good env known is = gives-judge ds (PlacedPart ds d edge) (PlacedIn ds d edge) env.next (part env) (λ p. refused_unless (is_flag p.kind) T10 at p.core)
      (good env known is) (λ p h. if-good (PlacedIn ds d edge) (is_flag p.kind) T10 at p.core (λ _. h))

  pub typed-placed : (e : SurfaceExpr) (d : ℕ) (edge : Bool) → At ds d edge (PlacedPart ds d edge) (typed e)
  typed-placed Always d edge env known is = λ has clean. tt
  typed-placed (Number at n) d edge env known is = λ has clean. tt
  typed-placed (Truth at b) d edge env known is = λ has clean. tt
  typed-placed (Nil at) d edge env known is = λ has clean. tt
  typed-placed (Greatest at) d edge env known is = λ has clean. tt
  typed-placed (Least at) d edge env known is = λ has clean. tt
  typed-placed (Named x) d edge env known is = gives-judge ds (IsBound ds d edge) (PlacedPart ds d edge) env.next (used x env) (Typing.named_part env.group x.place)
      (at-used ds d edge x env known is) (λ b h. named-placed ds d edge b.variable.sort env.group x.place b refl h)
  typed-placed (Member x p) d edge env known is = gives-judge ds (λ bs. IsBound ds d edge bs.0 × IsBound ds d edge bs.1) (PlacedPart ds d edge) env.next (both (used x) (used p) env) (member_part env.group x.place)
      (at-both ds d edge (IsBound ds d edge) (IsBound ds d edge) (used x) (used p) (at-used ds d edge x) (at-used ds d edge p) env known is) (λ bs h. member-placed ds d edge env.group x.place bs h)
  typed-placed (Method x m) d edge env known is = gives-judge ds (IsBound ds d edge) (PlacedPart ds d edge) env.next (used x env) (method_part env.group x.place (query_of m.text))
      (at-used ds d edge x env known is) (λ b h. method-placed ds d edge env.group x.place (query_of m.text) b)
  typed-placed (Paren at e) d edge env known is = typed-placed e d edge env known is
  typed-placed (Prefixed at op e) d edge env known is = gives-judge ds (PlacedPart ds d edge) (PlacedPart ds d edge) env.next (typed e env) (prefix_part at op)
      (typed-placed e d edge env known is) (λ p h. prefix-placed ds d edge at op p h)
  typed-placed (Infixed at op a b) d edge env known is = gives-judge ds (λ ps. PlacedPart ds d edge ps.0 × PlacedPart ds d edge ps.1) (PlacedPart ds d edge) env.next (both (typed a) (typed b) env) (infix_part at op)
      (at-both ds d edge (PlacedPart ds d edge) (PlacedPart ds d edge) (typed a) (typed b) (typed-placed a d edge) (typed-placed b d edge) env known is) (λ ps h. infix-placed ds d edge at op ps h)
  typed-placed (Choose at c a b) d edge env known is =
      let Q = PlacedPart ds d edge in
      gives-judge ds (λ ps. PlacedIn ds d edge ps.0 × (PlacedPart ds d edge ps.1.0 × PlacedPart ds d edge ps.1.1)) (PlacedPart ds d edge) env.next (both (condition (start_of c) (typed c)) (both (typed a) (typed b)) env) (choice_part at)
      (at-both ds d edge (PlacedIn ds d edge) (λ ps. PlacedPart ds d edge ps.0 × PlacedPart ds d edge ps.1) (condition (start_of c) (typed c)) (both (typed a) (typed b))
      (condition-placed d edge (start_of c) (typed c) (typed-placed c d edge)) (at-both ds d edge (PlacedPart ds d edge) (PlacedPart ds d edge) (typed a) (typed b) (typed-placed a d edge) (typed-placed b d edge)) env known is)
      (λ ps h. choice_by-placed ds d edge at (joint ps.1.0.kind ps.1.1.kind) ps.0 ps.1.0 ps.1.1 h.0 h.1.0 h.1.1)
  typed-placed (Reduction at word h filter body close) d edge env known is =
      let r = reducer_at env at word close in
      let test = keyed r.filter (condition (start_of filter) (typed filter)) in
      let braces = keyed r.body (typed body) in
      let inner = iterated h.iterator 1 (both test braces) in
      gives-judge ds (λ ps. Unit {0} × (IsIteratorAt ds (d + 1) ps.1.0 × (PlacedIn ds (d + 1) edge ps.1.1.0 × PlacedPart ds (d + 1) edge ps.1.1.1))) (PlacedPart ds d edge) env.next
      (both (ranged h) (counted (fold_numbers env) inner) env) (reduction_rule r (start_of body) h)
      (at-both ds d edge (λ b. Unit {0}) (λ ps. IsIteratorAt ds (d + 1) ps.0 × (PlacedIn ds (d + 1) edge ps.1.0 × PlacedPart ds (d + 1) edge ps.1.1)) (ranged h) (counted (fold_numbers env) inner)
      (at-anything d edge (ranged h))
      (at-counted ds d edge (λ ps. IsIteratorAt ds (d + 1) ps.0 × (PlacedIn ds (d + 1) edge ps.1.0 × PlacedPart ds (d + 1) edge ps.1.1)) (fold_numbers env) inner
      (at-iterated ds d 1 edge (λ ps. PlacedIn ds (d + 1) edge ps.0 × PlacedPart ds (d + 1) edge ps.1) h.iterator (both test braces)
      (at-both ds (d + 1) edge (PlacedIn ds (d + 1) edge) (PlacedPart ds (d + 1) edge) test braces
      (at-keyed ds (d + 1) edge (PlacedIn ds (d + 1) edge) r.filter (condition (start_of filter) (typed filter)) (condition-placed (d + 1) edge (start_of filter) (typed filter) (typed-placed filter (d + 1) edge)))
      (at-keyed ds (d + 1) edge (PlacedPart ds (d + 1) edge) r.body (typed body) (typed-placed body (d + 1) edge)))))
      env known is)
      (λ ps n. reduction-placed d edge word (start_of body) r (head_with h ps.0 ps.1.0) ps.1.1.0 ps.1.1.1 n.1.0 n.1.1.0 n.1.1.1)
