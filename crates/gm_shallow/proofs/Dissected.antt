-- The passes that prepare a program for pieces add no level, and no If within others but that of a node that is read.
use Rattle.std.proofs.Common.{◌≡◌, ◌≤◌, ◌+◌, ℕ, suc, Bool, true, false, cond, List, [], ◌∷◌, filter, length, arith, Option, Some, None}
use Rattle.gm_base.specs.declared.places.Place.{Place}
use Rattle.gm_value.specs.Numbers.{zero_of}
use Rattle.gm_value.specs.declared.reductions.Reduce.{Reduce}
use Rattle.gm_value.specs.declared.operations.Op1.TheVariants.{Not}
use Rattle.gm_ast.specs.declared.tree.Declaration.{Declaration}
use Rattle.gm_ast.specs.declared.tree.Head.{Head}
use Rattle.gm_ast.specs.declared.tree.Key.{Key}
use Rattle.gm_ast.specs.declared.tree.Target.{Target}
use Rattle.gm_ast.specs.declared.tree.Target.TheVariants as T
use Rattle.gm_ast.specs.declared.tree.TotalKey.{TotalKey}
use Rattle.gm_ast.specs.Program.{Expr, Var, Unary, Stmt, Skip, Then, Combine, Foreach, For, If, While, Do, Program, sequence}
use Rattle.gm_semantics.specs.Statements.{variable_at}
use Rattle.gm_forms.specs.Cut.{is_own_loop}
use Rattle.gm_loop_laws.specs.Localised.{moved_in, moved}
use Rattle.gm_dissect.specs.AllDeferred.{without_deferred}
use Rattle.gm_dissect.specs.Conditions.{with_saved_conditions}
use Rattle.gm_dissect.specs.Loops.{each_loop}
use Rattle.gm_locals.specs.AllGroups.{group_of, groups_in, with_groups, with_groups_kept}
use Rattle.gm_locals.specs.Groups.{locals_row, locals_loop}
use Rattle.gm_cut.specs.Slices.{goes_one_way}
use Rattle.gm_parting.specs.Apart.{under, apart, apart_loop, with_statements_apart}
use Rattle.gm_parting.specs.Declared.{names_of, is_undeclared, declared_first, declared_loop, with_locals_declared}
use Rattle.gm_parting.specs.Filters.{saves_filter, filter_saved, filtered_loop, with_saved_filters}
use Rattle.gm_parting.specs.Iterators.{with_iterators_placed}
use Rattle.gm_parting.specs.Lasting.{has_numbered_ifs}
use Rattle.gm_parting.specs.Nodes.{is_body_local, node_before, read_first, nodes_in, nodes_read, nodes_loop, all_nodes_in, with_nodes_read}
use Rattle.gm_parting.specs.Numbers.{count_ifs, above_ifs, with_numbers, numbered_loop, with_own_numbers, with_conditions_apart}
use Rattle.gm_parting.specs.Passes.{prepared}
use Rattle.gm_depth.specs.Depths.{all_within}
use Rattle.gm_depth.specs.Nesting.{body_nesting, nesting}
use Rattle.gm_depth.proofs.Limits.{Within, AreWithin, AllWithin, parts, whole}
use Rattle.gm_shallow.proofs.Deferred.{deferred-keep, deferred-nest}
use Rattle.gm_shallow.proofs.KeptLocals.{moved-within, body-within, body-nests}
use Rattle.gm_shallow.proofs.Loops.{loops-within, loops-nest}
use Rattle.gm_shallow.proofs.Nesting.{both, below}
use Rattle.gm_shallow.proofs.SavedConditions.{saved-keep, saved-nest}

-- ---- locals that are declared

module _ (k : Key) (at : Place) where
  declared-within : (n : ℕ) → 1 ≤ n → (xs : List ℕ) (s : Stmt) → AllWithin n s → AllWithin n (declared_first k at xs s)
  declared-within n one [] s h = h
  declared-within n one (x ∷ xs) s h = (one, (declared-within n one xs s h, tt))

  declared-nests : (xs : List ℕ) (s : Stmt) → body_nesting (declared_first k at xs s) ≤ body_nesting s
  declared-nests [] s = omega arith
  declared-nests (x ∷ xs) s = let u : body_nesting (declared_first k at xs s) ≤ body_nesting s = declared-nests xs s in omega arith

module _ (ds : List Declaration) (k : Key) (at : Place) (hd : Head) (test : Expr) (body : Stmt) where
  abbrev inside : Stmt
  inside = declared_first k at (filter (is_undeclared ds body) (names_of body)) body

  declared-loop-within : (n : ℕ) → 1 ≤ n → Within n test → AllWithin n body → AllWithin n (declared_loop ds k at hd test body)
  declared-loop-within n one h x = by (is_own_loop hd.iterator body)
    where
      by : (o : Bool) → AllWithin n (cond o (Foreach k at hd test body) (Foreach k at hd test (declared_first k at (filter (is_undeclared ds body) (names_of body)) body)))
      by true = (h, x)
      by false = (h, declared-within k at n one (filter (is_undeclared ds body) (names_of body)) body x)

  declared-loop-nests : nesting (declared_loop ds k at hd test body) ≤ body_nesting body
  declared-loop-nests = by (is_own_loop hd.iterator body)
    where
      by : (o : Bool) → nesting (cond o (Foreach k at hd test body) (Foreach k at hd test (declared_first k at (filter (is_undeclared ds body) (names_of body)) body))) ≤ body_nesting body
      by true = omega arith
      by false = declared-nests k at (filter (is_undeclared ds body) (names_of body)) body

pub iterators-keep : (n : ℕ) (p : Program) → 0 ≤ n → all_within n p.body ≡ true → all_within n (with_iterators_placed p).body ≡ true
iterators-keep n p low h = h

pub declared-keep : (n : ℕ) (p : Program) → 1 ≤ n → all_within n p.body ≡ true → all_within n (with_locals_declared p).body ≡ true
declared-keep n p one h =
    whole n (with_locals_declared p).body (loops-within (declared_loop p.declarations) n (λ k at hd test body w x. declared-loop-within p.declarations k at hd test body n one w x) p.body (parts n p.body h))

pub declared-nest : (p : Program) → nesting (with_locals_declared p).body ≤ nesting p.body
declared-nest p = loops-nest (declared_loop p.declarations) (λ k at hd test body. declared-loop-nests p.declarations k at hd test body) p.body

-- ---- filters

module _ (ds : List Declaration) (q : ℕ) (k : Key) (at : Place) (hd : Head) (test : Expr) (body : Stmt) where
  filter-within : (n : ℕ) → 1 ≤ n → Within n test → AllWithin n body → AllWithin n (filtered_loop ds q k at hd test body)
  filter-within n one h x = by (saves_filter ds hd.iterator test body)
    where
      by : (o : Bool) → AllWithin n (cond o (filter_saved q k at hd test body) (Foreach k at hd test body))
      by true = ((one, h), ((one, x), tt))
      by false = (h, x)

  filter-nests : nesting (filtered_loop ds q k at hd test body) ≤ body_nesting body
  filter-nests = by (saves_filter ds hd.iterator test body)
    where
      by : (o : Bool) → nesting (cond o (filter_saved q k at hd test body) (Foreach k at hd test body)) ≤ body_nesting body
      by true = omega arith
      by false = omega arith

pub filters-keep : (n : ℕ) (p : Program) → 1 ≤ n → all_within n p.body ≡ true → all_within n (with_saved_filters p).body ≡ true
filters-keep n p one h =
    let q = length p.declarations in
    whole n (with_saved_filters p).body (loops-within (filtered_loop p.declarations q) n (λ k at hd test body w x. filter-within p.declarations q k at hd test body n one w x) p.body (parts n p.body h))

pub filters-nest : (p : Program) → nesting (with_saved_filters p).body ≤ nesting p.body
filters-nest p = let q = length p.declarations in loops-nest (filtered_loop p.declarations q) (λ k at hd test body. filter-nests p.declarations q k at hd test body) p.body

-- ---- numbers of Ifs

numbers-within : (n first : ℕ) (s : Stmt) → AllWithin n s → AllWithin n (with_numbers first s)
numbers-within n first (Then a b) h = (numbers-within n first a h.0, numbers-within n first b h.1)
numbers-within n first (If k c a b) h = (h.0, (numbers-within n first a h.1.0, numbers-within n first b h.1.1))
numbers-within n first s h = h

numbers-nest : (first : ℕ) (s : Stmt) → body_nesting (with_numbers first s) ≤ body_nesting s
numbers-nest first (Then a b) = both (numbers-nest first a) (numbers-nest first b)
numbers-nest first (If k c a b) = below (numbers-nest first a) (numbers-nest first b)
numbers-nest first s = omega arith

pub own-keep : (n : ℕ) (p : Program) → 0 ≤ n → all_within n p.body ≡ true → all_within n (with_own_numbers p).body ≡ true
own-keep n p low h = whole n (with_own_numbers p).body (loops-within numbered_loop n (λ k at hd test body w x. (w, numbers-within n (above_ifs body) body x)) p.body (parts n p.body h))

pub own-nest : (p : Program) → nesting (with_own_numbers p).body ≤ nesting p.body
own-nest p = loops-nest numbered_loop (λ k at hd test body. numbers-nest (above_ifs body) body) p.body

pub conditions-keep : (n : ℕ) (p : Program) → 1 ≤ n → all_within n p.body ≡ true → all_within n (with_conditions_apart p).body ≡ true
conditions-keep n p one h = by (has_numbered_ifs p)
  where
    by : (o : Bool) → all_within n (cond {A = Program} o (with_saved_conditions p) (with_saved_conditions (with_own_numbers (with_saved_conditions p)))).body ≡ true
    by true = saved-keep n p one h
    by false = let s = with_saved_conditions p in saved-keep n (with_own_numbers s) one (own-keep n s (omega arith) (saved-keep n p one h))

pub conditions-nest : (p : Program) → nesting (with_conditions_apart p).body ≤ nesting p.body
conditions-nest p = by (has_numbered_ifs p)
  where
    by : (o : Bool) → nesting (cond {A = Program} o (with_saved_conditions p) (with_saved_conditions (with_own_numbers (with_saved_conditions p)))).body ≤ nesting p.body
    by true = saved-nest p
    by false =
        let s = with_saved_conditions p in
        let u : nesting s.body ≤ nesting p.body = saved-nest p in
        let v : nesting (with_own_numbers s).body ≤ nesting s.body = own-nest s in
        let w : nesting (with_saved_conditions (with_own_numbers s)).body ≤ nesting (with_own_numbers s).body = saved-nest (with_own_numbers s) in
        omega arith

-- ---- nodes that are read

module _ (ds : List Declaration) where
  first-within : (n : ℕ) → 1 ≤ n → (outer : Bool) (y : ℕ) (k : Key) (total : TotalKey) (r : Reduce) (ts : List Target) (es : List Expr) → AreWithin n es → AllWithin n (read_first outer (node_before ds ts) y k total r ts es)
  first-within n one outer y k total r [] es h = h
  first-within n one outer y k total r (T.Scalar x at ∷ ts) es h = h
  first-within n one outer y k total r (T.Property x p at ∷ ts) es h = by (is_body_local ds x) outer
    where
      by : (b o : Bool) → AllWithin n (read_first o (cond b (Some (Var x at)) None) y k total r (T.Property x p at ∷ ts) es)
      by false o = h
      by true true = (one, ((one, (h, tt)), tt))
      by true false = (one, (h, tt))

  first-nests : (outer : Bool) (o : Option Expr) (y : ℕ) (k : Key) (total : TotalKey) (r : Reduce) (ts : List Target) (es : List Expr) → body_nesting (read_first outer o y k total r ts es) ≤ 1
  first-nests outer None y k total r ts es = omega arith
  first-nests true (Some e) y k total r ts es = omega arith
  first-nests false (Some e) y k total r ts es = omega arith

  nodes-within : (n : ℕ) → 1 ≤ n → (outer : Bool) (first deep done : ℕ) (s : Stmt) → AllWithin n s → AllWithin n (nodes_read ds outer first deep done s)
  nodes-within n one outer first deep done (Then a b) h = (nodes-within n one outer first deep done a h.0, nodes-within n one outer first deep (done + nodes_in ds a) b h.1)
  nodes-within n one outer first deep done (Combine k total r ts es) h = first-within n one outer (first + done) k total r ts es h
  nodes-within n one outer first deep done (If k c a b) h = (h.0, (nodes-within n one outer first deep done a h.1.0, nodes-within n one outer first deep (done + nodes_in ds a) b h.1.1))
  nodes-within n one outer first deep done (Foreach k at hd test body) h = (h.0, nodes-within n one false deep deep done body h.1)
  nodes-within n one outer first deep done s h = h

  nodes-nest-in : (outer : Bool) (first deep done : ℕ) (s : Stmt) → body_nesting (nodes_read ds outer first deep done s) ≤ suc (body_nesting s)
  nodes-nest-in outer first deep done (Then a b) =
      let u : body_nesting (nodes_read ds outer first deep done a) ≤ suc (body_nesting a) = nodes-nest-in outer first deep done a in
      let v : body_nesting (nodes_read ds outer first deep (done + nodes_in ds a) b) ≤ suc (body_nesting b) = nodes-nest-in outer first deep (done + nodes_in ds a) b in
      omega arith
  nodes-nest-in outer first deep done (Combine k total r ts es) = first-nests outer (node_before ds ts) (first + done) k total r ts es
  nodes-nest-in outer first deep done (If k c a b) =
      let u : body_nesting (nodes_read ds outer first deep done a) ≤ suc (body_nesting a) = nodes-nest-in outer first deep done a in
      let v : body_nesting (nodes_read ds outer first deep (done + nodes_in ds a) b) ≤ suc (body_nesting b) = nodes-nest-in outer first deep (done + nodes_in ds a) b in
      omega arith
  nodes-nest-in outer first deep done s = omega arith

  module _ (first deep : ℕ) (k : Key) (at : Place) (hd : Head) (test : Expr) (body : Stmt) where
    nodes-loop-within : (n : ℕ) → 1 ≤ n → Within n test → AllWithin n body → AllWithin n (nodes_loop ds first deep k at hd test body)
    nodes-loop-within n one h x = by (is_own_loop hd.iterator body)
      where
        by : (o : Bool) → AllWithin n (cond o (Foreach k at hd test body) (Foreach k at hd test (nodes_read ds true first deep 0 body)))
        by true = (h, x)
        by false = (h, nodes-within n one true first deep 0 body x)

    nodes-loop-nests : nesting (nodes_loop ds first deep k at hd test body) ≤ suc (body_nesting body)
    nodes-loop-nests = by (is_own_loop hd.iterator body)
      where
        by : (o : Bool) → nesting (cond o (Foreach k at hd test body) (Foreach k at hd test (nodes_read ds true first deep 0 body))) ≤ suc (body_nesting body)
        by true = omega arith
        by false = nodes-nest-in true first deep 0 body

-- loops with one more If within one another
loops-nest-more : (f : Key → Place → Head → Expr → Stmt → Stmt) → ((k : Key) (at : Place) (hd : Head) (test : Expr) (body : Stmt) → nesting (f k at hd test body) ≤ suc (body_nesting body)) → (s : Stmt) → nesting (each_loop f s) ≤ suc (nesting s)
loops-nest-more f fine (Then a b) =
    let u : nesting (each_loop f a) ≤ suc (nesting a) = loops-nest-more f fine a in
    let v : nesting (each_loop f b) ≤ suc (nesting b) = loops-nest-more f fine b in
    omega arith
loops-nest-more f fine (Foreach k at hd test body) = fine k at hd test body
loops-nest-more f fine (For k at hd test body) = loops-nest-more f fine body
loops-nest-more f fine (If k c a b) =
    let u : nesting (each_loop f a) ≤ suc (nesting a) = loops-nest-more f fine a in
    let v : nesting (each_loop f b) ≤ suc (nesting b) = loops-nest-more f fine b in
    omega arith
loops-nest-more f fine (While k at c body) = loops-nest-more f fine body
loops-nest-more f fine (Do k at body c) = loops-nest-more f fine body
loops-nest-more f fine s = omega arith

pub nodes-keep : (n : ℕ) (p : Program) → 1 ≤ n → all_within n p.body ≡ true → all_within n (with_nodes_read p).body ≡ true
nodes-keep n p one h =
    let ds = p.declarations in
    let first = length ds in
    let deep = length ds + all_nodes_in ds p.body in
    whole n (with_nodes_read p).body (loops-within (nodes_loop ds first deep) n (λ k at hd test body w x. nodes-loop-within ds first deep k at hd test body n one w x) p.body (parts n p.body h))

pub nodes-nest : (p : Program) → nesting (with_nodes_read p).body ≤ suc (nesting p.body)
nodes-nest p =
    let ds = p.declarations in
    let first = length ds in
    let deep = length ds + all_nodes_in ds p.body in
    loops-nest-more (nodes_loop ds first deep) (λ k at hd test body. nodes-loop-nests ds first deep k at hd test body) p.body

-- ---- groups of locals

module _ (ds : List Declaration) where
  row-within : (n : ℕ) → 1 ≤ n → (xs : List ℕ) (q : ℕ) (k : Key) (at : Place) (hd : Head) (test : Expr) (body : Stmt) → Within n test → AllWithin n body → AllWithin n (sequence (locals_row ds xs q k at hd test body))
  row-within n one [] q k at hd test body h x = ((h, x), tt)
  row-within n one (y ∷ ys) q k at hd test body h x =
      let i = hd.iterator in
      let zero = zero_of (variable_at ds y).vtype in
      ((one, one), row-within n one ys (suc q) k at hd (moved_in y q i at zero test) (moved y q i at zero body) (moved-within y q i at zero n one test h) (body-within y q i at zero n one body x))

  group-within : (n : ℕ) → 1 ≤ n → (xs : List ℕ) (q : ℕ) (k : Key) (at : Place) (hd : Head) (test : Expr) (body : Stmt) → Within n test → AllWithin n body → AllWithin n (locals_loop ds xs q k at hd test body)
  group-within n one [] q k at hd test body h x = (h, x)
  group-within n one (y ∷ ys) q k at hd test body h x = row-within n one (y ∷ ys) q k at hd test body h x

  row-nests : (xs : List ℕ) (q : ℕ) (k : Key) (at : Place) (hd : Head) (test : Expr) (body : Stmt) → nesting (sequence (locals_row ds xs q k at hd test body)) ≤ body_nesting body
  row-nests [] q k at hd test body = omega arith
  row-nests (y ∷ ys) q k at hd test body =
      let i = hd.iterator in
      let zero = zero_of (variable_at ds y).vtype in
      let rest = sequence (locals_row ds ys (suc q) k at hd (moved_in y q i at zero test) (moved y q i at zero body)) in
      let u : nesting rest ≤ body_nesting (moved y q i at zero body) = row-nests ys (suc q) k at hd (moved_in y q i at zero test) (moved y q i at zero body) in
      let v : body_nesting (moved y q i at zero body) ≤ body_nesting body = body-nests y q i at zero body in
      omega arith

  group-nests : (xs : List ℕ) (q : ℕ) (k : Key) (at : Place) (hd : Head) (test : Expr) (body : Stmt) → nesting (locals_loop ds xs q k at hd test body) ≤ body_nesting body
  group-nests [] q k at hd test body = omega arith
  group-nests (y ∷ ys) q k at hd test body = row-nests (y ∷ ys) q k at hd test body

  groups-within : (n : ℕ) → 1 ≤ n → (q : ℕ) (s : Stmt) → AllWithin n s → AllWithin n (with_groups ds q s)
  groups-within n one q (Then a b) h = (groups-within n one q a h.0, groups-within n one (q + length (groups_in ds a)) b h.1)
  groups-within n one q (Foreach k at hd test body) h = group-within n one (group_of ds hd.iterator test body) q k at hd test body h.0 h.1
  groups-within n one q (For k at hd test body) h = (h.0, groups-within n one q body h.1)
  groups-within n one q (If k c a b) h = (h.0, (groups-within n one q a h.1.0, groups-within n one (q + length (groups_in ds a)) b h.1.1))
  groups-within n one q (While k at c body) h = (h.0, groups-within n one q body h.1)
  groups-within n one q (Do k at body c) h = (groups-within n one q body h.0, h.1)
  groups-within n one q s h = h

  groups-nest-in : (q : ℕ) (s : Stmt) → nesting (with_groups ds q s) ≤ nesting s
  groups-nest-in q (Then a b) = both (groups-nest-in q a) (groups-nest-in (q + length (groups_in ds a)) b)
  groups-nest-in q (Foreach k at hd test body) = group-nests (group_of ds hd.iterator test body) q k at hd test body
  groups-nest-in q (For k at hd test body) = groups-nest-in q body
  groups-nest-in q (If k c a b) = both (groups-nest-in q a) (groups-nest-in (q + length (groups_in ds a)) b)
  groups-nest-in q (While k at c body) = groups-nest-in q body
  groups-nest-in q (Do k at body c) = groups-nest-in q body
  groups-nest-in q s = omega arith

pub groups-keep : (n : ℕ) (p : Program) → 1 ≤ n → all_within n p.body ≡ true → all_within n (with_groups_kept p).body ≡ true
groups-keep n p one h = whole n (with_groups_kept p).body (groups-within p.declarations n one (length p.declarations) p.body (parts n p.body h))

pub kept-nest : (p : Program) → nesting (with_groups_kept p).body ≤ nesting p.body
kept-nest p = groups-nest-in p.declarations (length p.declarations) p.body

-- ---- all of them

pub prepared-keep : (n : ℕ) (p : Program) → 1 ≤ n → all_within n p.body ≡ true → all_within n (prepared p).body ≡ true
prepared-keep n p one h =
    let i = with_iterators_placed p in
    let d = with_locals_declared i in
    let a = without_deferred d in
    let b = with_saved_filters a in
    let c = with_conditions_apart b in
    groups-keep n (with_nodes_read c) one (nodes-keep n c one (conditions-keep n b one (filters-keep n a one (deferred-keep n d one (declared-keep n i one h)))))

pub prepared-nest : (p : Program) → nesting (prepared p).body ≤ suc (nesting p.body)
prepared-nest p =
    let i = with_iterators_placed p in
    let d = with_locals_declared i in
    let a = without_deferred d in
    let b = with_saved_filters a in
    let c = with_conditions_apart b in
    let r = with_nodes_read c in
    let s : nesting d.body ≤ nesting p.body = declared-nest i in
    let t : nesting a.body ≤ nesting d.body = deferred-nest d in
    let u : nesting b.body ≤ nesting a.body = filters-nest a in
    let v : nesting c.body ≤ nesting b.body = conditions-nest b in
    let w : nesting r.body ≤ suc (nesting c.body) = nodes-nest c in
    let x : nesting (with_groups_kept r).body ≤ nesting r.body = kept-nest r in
    omega arith

-- ---- statements apart

module _ (n : ℕ) (two : 2 ≤ n) where
  under-within : (k : Key) (c : Expr) (s : Stmt) → Within n c → AllWithin n s → AllWithin n (under k c s)
  under-within k c Skip w h = tt
  under-within k c (Then a b) w h = (under-within k c a w h.0, under-within k c b w h.1)
  under-within k c s w h = (w, (h, tt))

  apart-within : (at : Place) (y : ℕ) (s : Stmt) → AllWithin n s → AllWithin n (apart at y s)
  apart-within at y (Then a b) h = (apart-within at y a h.0, apart-within at (y + count_ifs a) b h.1)
  apart-within at y (If k c a b) h = (
    h.0,
    (
      under-within k (Var y at) (apart at (suc y) a) (omega (arith, two)) (apart-within at (suc y) a h.1.0),
      (under-within k (Unary Not at (Var y at)) (apart at (suc y + count_ifs a) b) two (apart-within at (suc y + count_ifs a) b h.1.1), tt),
    ),
  )
  apart-within at y s h = h

  apart-loop-within : (ds : List Declaration) (first : ℕ) (k : Key) (at : Place) (hd : Head) (mask : Expr) (body : Stmt) → Within n mask → AllWithin n body → AllWithin n (apart_loop ds first k at hd mask body)
  apart-loop-within ds first k at hd mask (Foreach j here inner test body) w h = (w, (h.0, by (goes_one_way ds hd.iterator inner test body)))
    where
      by : (o : Bool) → AllWithin n (cond o body (apart here first body))
      by true = h.1
      by false = apart-within here first body h.1
  apart-loop-within ds first k at hd mask body w h = (w, h)

pub statements-keep : (n : ℕ) (p : Program) → 2 ≤ n → all_within n p.body ≡ true → all_within n (with_statements_apart p).body ≡ true
statements-keep n p two h =
    let ds = p.declarations in whole n (with_statements_apart p).body (loops-within (apart_loop ds (length ds)) n (λ k at hd mask body w x. apart-loop-within n two ds (length ds) k at hd mask body w x) p.body (parts n p.body h))
