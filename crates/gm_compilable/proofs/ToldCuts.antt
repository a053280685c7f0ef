-- The passes that prepare loops for pieces keep what may be told.
use Rattle.std.proofs.Common.{◌≡◌, ◌≤◌, ◌+◌, ℕ, zero, suc, Bool, true, false, cond, List, [], ◌∷◌, filter, length, map, refl, arith, Option, Some, None}
use Rattle.std.specs.Prelude.{nat_eq}
use Rattle.std.specs.List.{list_all}
use Rattle.gm_base.specs.declared.places.Place.{Place}
use Rattle.gm_value.specs.declared.reductions.Reduce.{Reduce}
use Rattle.gm_value.specs.declared.values.Value.{Value}
use Rattle.gm_value.specs.declared.values.VType.{VType}
use Rattle.gm_value.specs.declared.values.VType.TheVariants as V
use Rattle.gm_value.specs.Numbers.{zero_of}
use Rattle.gm_ast.specs.declared.tree.Declaration.{Declaration}
use Rattle.gm_ast.specs.declared.tree.Head.{Head}
use Rattle.gm_ast.specs.declared.tree.Key.{Key}
use Rattle.gm_ast.specs.declared.tree.Sort.TheVariants as Sorts
use Rattle.gm_ast.specs.declared.tree.Target.{Target}
use Rattle.gm_ast.specs.declared.tree.Target.TheVariants as T
use Rattle.gm_ast.specs.declared.tree.TotalKey.{TotalKey}
use Rattle.gm_ast.specs.Names.{sort_eq}
use Rattle.gm_ast.specs.Program.{Expr, Const, Var, Property, Unary, Binary, Both, Either, Choose, Stmt, Then, Declare, Assign, Defer, Combine, Foreach, For, If, While, Do, Program, sequence}
use Rattle.gm_semantics.specs.Outcomes.{is_of}
use Rattle.gm_semantics.specs.Statements.{variable_at}
use Rattle.gm_forms.specs.Cut.{is_own_loop}
use Rattle.gm_forms.specs.Forms.{depth_at}
use Rattle.gm_forms.proofs.Named.{both-true}
use Rattle.gm_ready.proofs.ReadFacts.{Every}
use Rattle.gm_loop_laws.specs.Deferring.{undeferred_to, undeferred}
use Rattle.gm_loop_laws.specs.Localised.{moved_in, moved_declared, moved}
use Rattle.gm_dissect.specs.AllDeferred.{deferred_in, some_defers, without_each, without_deferred}
use Rattle.gm_dissect.specs.Conditions.{holds_cut, numbers_in, local_of, saved_first, with_saved, saved_loop, with_saved_conditions}
use Rattle.gm_dissect.specs.Deferred.{copied, defers, undeferred_loop, without_deferred_to}
use Rattle.gm_dissect.specs.Locals.{locals_of}
use Rattle.gm_dissect.specs.Loops.{each_loop}
use Rattle.gm_locals.specs.AllGroups.{most_of, group_of, groups_in, with_groups}
use Rattle.gm_locals.specs.Groups.{may_keep, locals_row, locals_loop}
use Rattle.gm_parting.specs.Declared.{names_of, is_undeclared, declared_first, declared_loop}
use Rattle.gm_parting.specs.Filters.{saves_filter, filter_saved, filtered_loop}
use Rattle.gm_parting.specs.Nodes.{is_body_local, node_before, separate, read_first, nodes_in, nodes_read, nodes_loop}
use Rattle.gm_parting.specs.Numbers.{above_ifs, with_numbers, numbered_loop}
use Rattle.gm_sound_lowering.specs.Asked.{is_plain_constant}
use Rattle.gm_compilable.proofs.Telling.{Tells, MayTell, AllTell, Body, Phase, loops-tell}

-- ---- locals that are declared

kept-pass : (f : ℕ → Bool) (xs : List ℕ) → Every (λ x. f x ≡ true) (filter f xs)
kept-pass f [] = tt
kept-pass f (x ∷ xs) = by (f x) refl (kept-pass f xs)
  where
    by : (b : Bool) → f x ≡ b → Every (λ x. f x ≡ true) (filter f xs) → Every (λ x. f x ≡ true) (cond b (x ∷ filter f xs) (filter f xs))
    by true e rest = (e, rest)
    by false e rest = rest

module _ (told : ℕ → Type 0) (ds : List Declaration) (scalar : (x : ℕ) → is_of ds Sorts.Scalar x ≡ true → told x) where
  local-scalar : (x : ℕ) → is_body_local ds x ≡ true → told x
  local-scalar x h = scalar x (both-true (sort_eq Sorts.Scalar (variable_at ds x).sort) (nat_eq (depth_at ds x) 1) h).0

  first-tells : (body : Stmt) (k : Key) (at : Place) (xs : List ℕ) (s : Stmt) → Every (λ x. is_undeclared ds body x ≡ true) xs → Body told s → Body told (declared_first k at xs s)
  first-tells body k at [] s u h = h
  first-tells body k at (x ∷ xs) s u h = (local-scalar x (both-true (is_body_local ds x) _ u.0).0, (first-tells body k at xs s u.1 h, tt))

  -- nodes that are read
  separate-tells : (outer : Bool) (k : Key) (s : Stmt) → Body told s → Body told (separate outer k s)
  separate-tells true k s h = (refl, (h, tt))
  separate-tells false k s h = h

  read-tells : (outer : Bool) (y : ℕ) (k : Key) (total : TotalKey) (r : Reduce) (ts : List Target) (es : List Expr) → AllTell told es → Body told (read_first outer (node_before ds ts) y k total r ts es)
  read-tells outer y k total r [] es h = h
  read-tells outer y k total r (T.Scalar x at ∷ ts) es h = h
  read-tells outer y k total r (T.Property x p at ∷ ts) es h = by (is_body_local ds x) refl
    where
      by : (b : Bool) → is_body_local ds x ≡ b → Body told (read_first outer (cond b (Some (Var x at)) None) y k total r (T.Property x p at ∷ ts) es)
      by false e = h
      by true e = separate-tells outer k _ (local-scalar x e, (h, tt))

  nodes-tell : (outer : Bool) (first deep done : ℕ) (s : Stmt) → Body told s → Body told (nodes_read ds outer first deep done s)
  nodes-tell outer first deep done (Then a b) h = (nodes-tell outer first deep done a h.0, nodes-tell outer first deep (done + nodes_in ds a) b h.1)
  nodes-tell outer first deep done (Combine k total r ts es) h = read-tells outer (first + done) k total r ts es h
  nodes-tell outer first deep done (If k c a b) h = (h.0, (nodes-tell outer first deep done a h.1.0, nodes-tell outer first deep (done + nodes_in ds a) b h.1.1))
  nodes-tell outer first deep done (Foreach k at hd test body) h = (h.0, nodes-tell false deep deep done body h.1)
  nodes-tell outer first deep done s h = h

-- ---- deferred writes

module _ (told : ℕ → Type 0) where
  to-tells : (p q : ℕ) (k : Key) (t : Target) (e : Expr) → Tells told e → Body told (undeferred_to p q k t e)
  to-tells p q k (T.Scalar y at) e h = h
  to-tells p q k (T.Property y r at) e h = by (nat_eq r p)
    where
      by : (same : Bool) → Body told (cond same (Assign k (T.Property y q at) e) (Defer k (T.Property y r at) e))
      by true = h
      by false = h

  undeferred-tells : (p q : ℕ) (s : Stmt) → Body told s → Body told (undeferred p q s)
  undeferred-tells p q (Then a b) h = (undeferred-tells p q a h.0, undeferred-tells p q b h.1)
  undeferred-tells p q (Defer k t e) h = to-tells p q k t e h
  undeferred-tells p q (If k c a b) h = (h.0, (undeferred-tells p q a h.1.0, undeferred-tells p q b h.1.1))
  undeferred-tells p q s h = h

  -- ---- conditions in locals

  -- a local that is there may be told
  abbrev pub IfLocal : Option ℕ → Type 0
  IfLocal None = Unit {0}
  IfLocal (Some y) = told y

  pub local-told : (bound first : ℕ) (xs : List ℕ) (k : Key) → ((x : ℕ) → bound ≤ x → told x) → bound ≤ first → IfLocal (local_of first xs k)
  local-told bound first [] k far low = tt
  local-told bound first (x ∷ xs) k far low = by (nat_eq x k.statement) (local-told bound (suc first) xs k far (omega (arith, low)))
    where
      by : (b : Bool) → IfLocal (local_of (suc first) xs k) → IfLocal (cond b (Some first) (local_of (suc first) xs k))
      by true rest = far first low
      by false rest = rest

  module _ (local : Key → Option ℕ) (may : (k : Key) → IfLocal (local k)) where
    saved-first : (o : Option ℕ) (at : Place) (k : Key) (c : Expr) (a b : Stmt) → IfLocal o → Tells told c → Body told a → Body told b → Body told (saved_first o at k c a b)
    saved-first None at k c a b o h x y = (h, (x, y))
    saved-first (Some z) at k c a b o h x y = (h, ((o, (x, y)), tt))

    saved-tells : (at : Place) (s : Stmt) → Body told s → Body told (with_saved local at s)
    saved-tells at (Then a b) h = (saved-tells at a h.0, saved-tells at b h.1)
    saved-tells at (If k c a b) h = saved-first (local k) at k c (with_saved local at a) (with_saved local at b) (may k) h.0 (saved-tells at a h.1.0) (saved-tells at b h.1.1)
    saved-tells at s h = h

  numbers-tell : (first : ℕ) (s : Stmt) → Body told s → Body told (with_numbers first s)
  numbers-tell first (Then a b) h = (numbers-tell first a h.0, numbers-tell first b h.1)
  numbers-tell first (If k c a b) h = (h.0, (numbers-tell first a h.1.0, numbers-tell first b h.1.1))
  numbers-tell first s h = h

  -- ---- locals in properties

  module _ (x q i : ℕ) (at : Place) (zero : Value) (plain : is_plain_constant zero ≡ true) where
    moved-tells : (e : Expr) → Tells told e → Tells told (moved_in x q i at zero e)
    moved-tells (Var y place) h = by (nat_eq y x)
      where
        by : (same : Bool) → Tells told (cond same (Property i q place) (Var y place))
        by true = tt
        by false = h
    moved-tells (Unary op place e) h = moved-tells e h
    moved-tells (Binary op place a b) h = (moved-tells a h.0, moved-tells b h.1)
    moved-tells (Both a b) h = (moved-tells a h.0, moved-tells b h.1)
    moved-tells (Either a b) h = (moved-tells a h.0, moved-tells b h.1)
    moved-tells (Choose c a b) h = (moved-tells c h.0, (moved-tells a h.1.0, moved-tells b h.1.1))
    moved-tells e h = h

    all-moved : (es : List Expr) → AllTell told es → AllTell told (map (moved_in x q i at zero) es)
    all-moved [] h = tt
    all-moved (e ∷ es) h = (moved-tells e h.0, all-moved es h.1)

    declared-moved : (k : Key) (y : ℕ) (o : Option Expr) → MayTell told o → Body told (moved_declared x q i at zero k y o)
    declared-moved k y None h = by (nat_eq y x)
      where
        by : (same : Bool) → Body told (cond same (Assign k (T.Property i q at) (Const zero)) (Declare k y None))
        by true = plain
        by false = tt
    declared-moved k y (Some e) h = by (nat_eq y x)
      where
        by : (same : Bool) → Body told (cond same (Assign k (T.Property i q at) (moved_in x q i at zero e)) (Declare k y (Some (moved_in x q i at zero e))))
        by true = moved-tells e h
        by false = moved-tells e h

    body-moved : (s : Stmt) → Body told s → Body told (moved x q i at zero s)
    body-moved (Then a b) h = (body-moved a h.0, body-moved b h.1)
    body-moved (Declare k y o) h = declared-moved k y o h
    body-moved (Assign k t e) h = moved-tells e h
    body-moved (Defer k t e) h = moved-tells e h
    body-moved (Combine k total r ts es) h = all-moved es h
    body-moved (If k c a b) h = (moved-tells c h.0, (body-moved a h.1.0, body-moved b h.1.1))
    body-moved (Foreach k place hd test s) h = (moved-tells test h.0, body-moved s h.1)
    body-moved s h = h

zero-plain : (t : VType) → is_plain_constant (zero_of t) ≡ true
zero-plain V.I32 = refl
zero-plain V.I64 = refl
zero-plain V.Flag = refl
zero-plain V.Node = refl

-- the locals that a loop keeps in properties are scalars
module _ (ds : List Declaration) where
  all-scalars : (zs : List ℕ) (n : ℕ) (test : Expr) (body : Stmt) (xs : List ℕ) → list_all (may_keep ds zs n test body) xs ≡ true → Every (λ x. is_of ds Sorts.Scalar x ≡ true) xs
  all-scalars zs n test body [] h = tt
  all-scalars zs n test body (x ∷ xs) h =
      let b = both-true (may_keep ds zs n test body x) (list_all (may_keep ds zs n test body) xs) h in
      ((both-true (sort_eq Sorts.Scalar (variable_at ds x).sort) _ b.0).0, all-scalars zs n test body xs b.1)

  most-scalars : (rounds n : ℕ) (test : Expr) (body : Stmt) (xs : List ℕ) → Every (λ x. is_of ds Sorts.Scalar x ≡ true) (most_of rounds ds n test body xs)
  most-scalars zero n test body xs = tt
  most-scalars (suc rounds) n test body xs = by (list_all (may_keep ds xs n test body) xs) refl (most-scalars rounds n test body (filter (may_keep ds xs n test body) xs))
    where
      by : (b : Bool) → list_all (may_keep ds xs n test body) xs ≡ b → Every (λ x. is_of ds Sorts.Scalar x ≡ true) (most_of rounds ds n test body (filter (may_keep ds xs n test body) xs))
          → Every (λ x. is_of ds Sorts.Scalar x ≡ true) (cond b xs (most_of rounds ds n test body (filter (may_keep ds xs n test body) xs)))
      by true e rest = all-scalars xs n test body xs e
      by false e rest = rest

  group-scalars : (n : ℕ) (test : Expr) (body : Stmt) → Every (λ x. is_of ds Sorts.Scalar x ≡ true) (group_of ds n test body)
  group-scalars n test body = by (holds_cut n body)
    where
      by : (b : Bool) → Every (λ x. is_of ds Sorts.Scalar x ≡ true) (cond b (most_of (length (locals_of body)) ds n test body (locals_of body)) [])
      by true = most-scalars (length (locals_of body)) n test body (locals_of body)
      by false = tt

-- ---- loops

module _ (fors out : ℕ → Type 0) (inn : ℕ → ℕ → Type 0) where
  module _ (ds : List Declaration) (scalar : (n x : ℕ) → is_of ds Sorts.Scalar x ≡ true → inn n x) where
    pub declared-told : (s : Stmt) → Phase fors out inn s → Phase fors out inn (each_loop (declared_loop ds) s)
    declared-told s h = loops-tell fors out inn (declared_loop ds) one s h
      where
        one : (k : Key) (at : Place) (hd : Head) (test : Expr) (body : Stmt) → Tells (inn hd.iterator) test → Body (inn hd.iterator) body → Phase fors out inn (declared_loop ds k at hd test body)
        one k at hd test body h x = by (is_own_loop hd.iterator body)
          where
            by : (o : Bool) → Phase fors out inn (cond o (Foreach k at hd test body) (Foreach k at hd test (declared_first k at (filter (is_undeclared ds body) (names_of body)) body)))
            by true = (h, x)
            by false = (h, first-tells (inn hd.iterator) ds (scalar hd.iterator) body k at (filter (is_undeclared ds body) (names_of body)) body (kept-pass (is_undeclared ds body) (names_of body)) x)

    pub nodes-told : (first deep : ℕ) (s : Stmt) → Phase fors out inn s → Phase fors out inn (each_loop (nodes_loop ds first deep) s)
    nodes-told first deep s h = loops-tell fors out inn (nodes_loop ds first deep) one s h
      where
        one : (k : Key) (at : Place) (hd : Head) (test : Expr) (body : Stmt) → Tells (inn hd.iterator) test → Body (inn hd.iterator) body → Phase fors out inn (nodes_loop ds first deep k at hd test body)
        one k at hd test body h x = by (is_own_loop hd.iterator body)
          where
            by : (o : Bool) → Phase fors out inn (cond o (Foreach k at hd test body) (Foreach k at hd test (nodes_read ds true first deep 0 body)))
            by true = (h, x)
            by false = (h, nodes-tell (inn hd.iterator) ds (scalar hd.iterator) true first deep 0 body x)

    row-told : (xs : List ℕ) (q : ℕ) (k : Key) (at : Place) (hd : Head) (test : Expr) (body : Stmt) → Every (λ x. is_of ds Sorts.Scalar x ≡ true) xs → Tells (inn hd.iterator) test → Body (inn hd.iterator) body
        → Phase fors out inn (sequence (locals_row ds xs q k at hd test body))
    row-told [] q k at hd test body v h x = ((h, x), tt)
    row-told (y ∷ ys) q k at hd test body v h x =
        let i = hd.iterator in
        let t = (variable_at ds y).vtype in
        let zero = zero_of t in (
          (refl, scalar i y v.0),
          row-told ys (suc q) k at hd (moved_in y q i at zero test) (moved y q i at zero body) v.1 (moved-tells (inn i) y q i at zero (zero-plain t) test h) (body-moved (inn i) y q i at zero (zero-plain t) body x),
        )

    group-told : (xs : List ℕ) (q : ℕ) (k : Key) (at : Place) (hd : Head) (test : Expr) (body : Stmt) → Every (λ x. is_of ds Sorts.Scalar x ≡ true) xs → Tells (inn hd.iterator) test → Body (inn hd.iterator) body
        → Phase fors out inn (locals_loop ds xs q k at hd test body)
    group-told [] q k at hd test body v h x = (h, x)
    group-told (y ∷ ys) q k at hd test body v h x = row-told (y ∷ ys) q k at hd test body v h x

    pub kept-told : (q : ℕ) (s : Stmt) → Phase fors out inn s → Phase fors out inn (with_groups ds q s)
    kept-told q (Then a b) h = (kept-told q a h.0, kept-told (q + length (groups_in ds a)) b h.1)
    kept-told q (Foreach k at hd test body) h = group-told (group_of ds hd.iterator test body) q k at hd test body (group-scalars ds hd.iterator test body) h.0 h.1
    kept-told q (For k at hd test body) h = (h.0, (h.1.0, kept-told q body h.1.1))
    kept-told q (If k c a b) h = (h.0, (kept-told q a h.1.0, kept-told (q + length (groups_in ds a)) b h.1.1))
    kept-told q (While k at c body) h = (h.0, kept-told q body h.1)
    kept-told q (Do k at body c) h = (kept-told q body h.0, h.1)
    kept-told q s h = h

    pub filters-told : (q : ℕ) (s : Stmt) → Phase fors out inn s → Phase fors out inn (each_loop (filtered_loop ds q) s)
    filters-told q s h = loops-tell fors out inn (filtered_loop ds q) one s h
      where
        one : (k : Key) (at : Place) (hd : Head) (test : Expr) (body : Stmt) → Tells (inn hd.iterator) test → Body (inn hd.iterator) body → Phase fors out inn (filtered_loop ds q k at hd test body)
        one k at hd test body h x = by (saves_filter ds hd.iterator test body)
          where
            by : (o : Bool) → Phase fors out inn (cond o (filter_saved q k at hd test body) (Foreach k at hd test body))
            by true = ((refl, h), ((tt, x), tt))
            by false = (h, x)

  undeferred-told : (p q : ℕ) (s : Stmt) → Phase fors out inn s → Phase fors out inn (each_loop (undeferred_loop p q) s)
  undeferred-told p q s h = loops-tell fors out inn (undeferred_loop p q) one s h
    where
      one : (k : Key) (at : Place) (hd : Head) (test : Expr) (body : Stmt) → Tells (inn hd.iterator) test → Body (inn hd.iterator) body → Phase fors out inn (undeferred_loop p q k at hd test body)
      one k at hd test body h x = by (defers p body)
        where
          by : (some : Bool) → Phase fors out inn (cond some (sequence (copied q p at hd ∷ Foreach k at hd test (undeferred p q body) ∷ copied p q at hd ∷ [])) (Foreach k at hd test body))
          by true = ((refl, tt), ((h, undeferred-tells (inn hd.iterator) p q body x), ((refl, tt), tt)))
          by false = (h, x)

  each-told : (ps : List ℕ) (program : Program) → Phase fors out inn program.body → Phase fors out inn (without_each ps program).body
  each-told [] program h = h
  each-told (p ∷ ps) program h = each-told ps (cond (some_defers p program.body) (without_deferred_to p program) program) (by (some_defers p program.body))
    where
      by : (some : Bool) → Phase fors out inn (cond some (without_deferred_to p program) program).body
      by true = undeferred-told p (length program.declarations) program.body h
      by false = h

  pub deferred-told : (p : Program) → Phase fors out inn p.body → Phase fors out inn (without_deferred p).body
  deferred-told p h = each-told (deferred_in p.body) p h

  pub saved-told : (bound : ℕ) (far : (n x : ℕ) → bound ≤ x → inn n x) (p : Program) → bound ≤ length p.declarations → Phase fors out inn p.body → Phase fors out inn (with_saved_conditions p).body
  saved-told bound far p low h = loops-tell fors out inn (saved_loop (local_of (length p.declarations) (numbers_in p.body))) one p.body h
    where
      one : (k : Key) (at : Place) (hd : Head) (test : Expr) (body : Stmt) → Tells (inn hd.iterator) test → Body (inn hd.iterator) body → Phase fors out inn (saved_loop (local_of (length p.declarations) (numbers_in p.body)) k at hd test body)
      one k at hd test body h x =
          let i = hd.iterator in
          (h, saved-tells (inn i) (local_of (length p.declarations) (numbers_in p.body)) (λ k. local-told (inn i) bound (length p.declarations) (numbers_in p.body) k (far i) low) at body x)

  pub numbers-told : (s : Stmt) → Phase fors out inn s → Phase fors out inn (each_loop numbered_loop s)
  numbers-told s h = loops-tell fors out inn numbered_loop (λ k at hd test body h x. (h, numbers-tell (inn hd.iterator) (above_ifs body) body x)) s h
