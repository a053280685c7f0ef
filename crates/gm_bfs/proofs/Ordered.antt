-- Faults of a search's loops stand in the order of their text, as those of the search do.
use Rattle.std.proofs.Common.{◌≡◌, ℕ, suc, Bool, true, false, cond, List, [], ◌∷◌, ◌++◌, map, refl, sym, ap, ◌∙◌, length, Option, Some, None, arith}
use Rattle.std.specs.Prelude.{◌&&◌, ◌||◌, not, nat_eq, nat_lt, option_map}
use Rattle.std.proofs.lemmas.Bool.{false≢true}
use Rattle.gm_base.specs.declared.places.Place.{Place}
use Rattle.gm_value.specs.declared.values.Value.TheVariants.{Flag}
use Rattle.gm_ast.specs.declared.tree.Domain.{Domain}
use Rattle.gm_ast.specs.declared.tree.Domain.TheVariants.{Nodes, OutNbrs, InNbrs, UpNbrs, DownNbrs}
use Rattle.gm_ast.specs.declared.tree.Fold.{Fold}
use Rattle.gm_ast.specs.declared.tree.Key.{Key}
use Rattle.gm_ast.specs.declared.tree.Stage.TheVariants as Stage
use Rattle.gm_ast.specs.declared.tree.Target.TheVariants as T
use Rattle.gm_ast.specs.Keys.{Fault, total_fault}
use Rattle.gm_ast.specs.Ways.{is_in}
use Rattle.gm_ast.specs.Program.{Expr, always, Const, Var, Property, EdgeProperty, Degree, NodeCount, EdgeCount, Live, Unary, Binary, Both, Either, Choose, Folded, Stmt, Skip, Then, Declare, Assign, Combine, Foreach, For, If, While, Do, InBfs, InBfsBoth, Program, sequence}
use Rattle.gm_value.specs.declared.reductions.Reduce.TheVariants.{Min, Or}
use Rattle.gm_forms.specs.Order.{lie_before, fault_of, are_numbered, can_fail1, can_fail2, cannot_fail, fault_if, rest_in, hoisted_in, hoists_in_order, fold_fault, faults_in, in_order, faults_in_option, option_in_order, faults_in_all, hoisted_in_all, all_in_order, target_faults, targets_faults, faults_of, leads, body_in_order, loop_in_order, begins, search_in_order, folds_in_order, loops_in_order, is_ordered}
use Rattle.gm_forms.proofs.Leading.{nothing-first, first-stands, safe-rest, safe-hoisted}
use Rattle.gm_forms.proofs.Named.{both-true}
use Rattle.gm_forms.proofs.Weaker.{and-true}
use Rattle.gm_bfs.specs.declared.fresh.Fresh.{Fresh}
use Rattle.gm_bfs.specs.declared.fresh.Site.{Site}
use Rattle.gm_bfs.specs.Variables.{fresh_from, with_fresh, copy_of, key_of, filter_key, body_key, total_of}
use Rattle.gm_bfs.specs.Copies.{reading, inner_reading, copied, asks_up, asks_down}
use Rattle.gm_bfs.specs.Searches.{number, scalar, at_node, set, set_at, equal, is_always, conjunction, is_on, ranged, inner_loop, by_levels, is_idle, is_safe, over_nodes, along_edges, each_node, first_levels, begin, next_level, level_before, activate, reach, look, copy_property, copies_from, unless_empty, copy, visit, where_asked, first_where, forward, back_turn, backward, site_of}
use Rattle.gm_bfs.specs.Levelled.{searches_out, has_search, levelled}

-- whether a reduction stands in order, by the faults of its filter and of its braces
abbrev fold-ordered : Fold → Place → (hoists : Bool) → (hoisted rest : List Fault) → (inner_hoists : Bool) → (inner_hoisted inner_rest : List Fault) → Bool
fold-ordered g at b h r c i s =
    lie_before (fault_of g.filter at ∷ []) ((i ++ s) ++ fold_fault g) && (b && (c
    && (lie_before h r && (lie_before i s
    && (lie_before (h ++ r) (i ++ s) && lie_before ((h ++ r) ++ (i ++ s)) (fold_fault g))))))

-- reading copies changes no fault
module _ (f : Fresh) (marks : List Bool) (w : ℕ) where
  abbrev rd : Expr → Expr
  rd e = reading f marks w e

  rest-reading : (k : Key) (e : Expr) → rest_in (rd e) k ≡ rest_in e k
  rest-reading k (Const v) = refl
  rest-reading k (Var x at) = refl
  rest-reading k (Property x p at) = refl
  rest-reading k (EdgeProperty x p at) = refl
  rest-reading k (Degree d x at) = refl
  rest-reading k NodeCount = refl
  rest-reading k EdgeCount = refl
  rest-reading k (Live x at) = refl
  rest-reading k (Unary op at e) = λ i. fault_if (can_fail1 op) k at ++ rest-reading k e i
  rest-reading k (Binary op at a b) = λ i. fault_if (can_fail2 op) k at ++ (rest-reading k a i ++ rest-reading k b i)
  rest-reading k (Both a b) = λ i. rest-reading k a i ++ rest-reading k b i
  rest-reading k (Either a b) = λ i. rest-reading k a i ++ rest-reading k b i
  rest-reading k (Choose c a b) = λ i. rest-reading k c i ++ (rest-reading k a i ++ rest-reading k b i)
  rest-reading k (Folded g h test e) = refl

  hoisted-reading : (e : Expr) → hoisted_in (rd e) ≡ hoisted_in e
  hoisted-reading (Const v) = refl
  hoisted-reading (Var x at) = refl
  hoisted-reading (Property x p at) = refl
  hoisted-reading (EdgeProperty x p at) = refl
  hoisted-reading (Degree d x at) = refl
  hoisted-reading NodeCount = refl
  hoisted-reading EdgeCount = refl
  hoisted-reading (Live x at) = refl
  hoisted-reading (Unary op at e) = hoisted-reading e
  hoisted-reading (Binary op at a b) = λ i. hoisted-reading a i ++ hoisted-reading b i
  hoisted-reading (Both a b) = λ i. hoisted-reading a i ++ hoisted-reading b i
  hoisted-reading (Either a b) = λ i. hoisted-reading a i ++ hoisted-reading b i
  hoisted-reading (Choose c a b) = λ i. hoisted-reading c i ++ (hoisted-reading a i ++ hoisted-reading b i)
  hoisted-reading (Folded g h test e) =
      let r = rest-reading g.filter test in
      let s = rest-reading g.body e in
      λ i. fault_of g.filter h.place ∷ ((hoisted-reading test i ++ r i) ++ ((hoisted-reading e i ++ s i) ++ fold_fault g))

  hoists-reading : (e : Expr) → hoists_in_order (rd e) ≡ hoists_in_order e
  hoists-reading (Const v) = refl
  hoists-reading (Var x at) = refl
  hoists-reading (Property x p at) = refl
  hoists-reading (EdgeProperty x p at) = refl
  hoists-reading (Degree d x at) = refl
  hoists-reading NodeCount = refl
  hoists-reading EdgeCount = refl
  hoists-reading (Live x at) = refl
  hoists-reading (Unary op at e) = hoists-reading e
  hoists-reading (Binary op at a b) = λ i. hoists-reading a i && (hoists-reading b i && lie_before (hoisted-reading a i) (hoisted-reading b i))
  hoists-reading (Both a b) = λ i. hoists-reading a i && (hoists-reading b i && lie_before (hoisted-reading a i) (hoisted-reading b i))
  hoists-reading (Either a b) = λ i. hoists-reading a i && (hoists-reading b i && lie_before (hoisted-reading a i) (hoisted-reading b i))
  hoists-reading (Choose c a b) =
      λ i. hoists-reading c i && (hoists-reading a i && (hoists-reading b i && (lie_before (hoisted-reading c i) (hoisted-reading a i ++ hoisted-reading b i) && lie_before (hoisted-reading a i) (hoisted-reading b i))))
  hoists-reading (Folded g h test e) =
      let r = rest-reading g.filter test in
      let s = rest-reading g.body e in
      λ i. fold-ordered g h.place (hoists-reading test i) (hoisted-reading test i) (r i) (hoists-reading e i) (hoisted-reading e i) (s i)

  faults-reading : (k : Key) (e : Expr) → faults_in (rd e) k ≡ faults_in e k
  faults-reading k e = λ i. hoisted-reading e i ++ rest-reading k e i

  order-reading : (k : Key) (e : Expr) → in_order (rd e) k ≡ in_order e k
  order-reading k e = λ i. hoists-reading e i && lie_before (hoisted-reading e i) (rest-reading k e i)

  faults-option : (k : Key) (e : Option Expr) → faults_in_option (option_map rd e) k ≡ faults_in_option e k
  faults-option k None = refl
  faults-option k (Some e) = faults-reading k e

  order-option : (k : Key) (e : Option Expr) → option_in_order (option_map rd e) k ≡ option_in_order e k
  order-option k None = refl
  order-option k (Some e) = order-reading k e

  faults-all : (k : Key) (es : List Expr) → faults_in_all (map rd es) k ≡ faults_in_all es k
  faults-all k [] = refl
  faults-all k (e ∷ es) = λ i. faults-reading k e i ++ faults-all k es i

  hoisted-all : (es : List Expr) → hoisted_in_all (map rd es) ≡ hoisted_in_all es
  hoisted-all [] = refl
  hoisted-all (e ∷ es) = λ i. hoisted-reading e i ++ hoisted-all es i

  order-all : (k : Key) (es : List Expr) → all_in_order (map rd es) k ≡ all_in_order es k
  order-all k [] = refl
  order-all k (e ∷ es) = λ i. order-reading k e i && order-all k es i

  inner-faults : (its : List ℕ) (s : Stmt) → faults_of its (inner_reading f marks w s) ≡ faults_of its s
  inner-faults its (Then a b) = λ i. inner-faults its a i ++ inner-faults its b i
  inner-faults its (Declare k x e) = faults-option k e
  inner-faults its (Assign k t e) = λ i. target_faults its t k ++ faults-reading k e i
  inner-faults its (Combine k total r ts es) = λ i. targets_faults its ts k ++ (faults-all k es i ++ (record { key = k; place = total.place } ∷ total_fault total ∷ []))
  inner-faults its (If k c a b) = λ i. faults-reading k c i ++ (inner-faults its a i ++ inner-faults its b i)
  inner-faults its s = refl

  inner-order : (its : List ℕ) (s : Stmt) → body_in_order its (inner_reading f marks w s) ≡ body_in_order its s
  inner-order its (Then a b) =
      let p = inner-faults its a in
      let q = inner-faults its b in
      λ i. inner-order its a i && (inner-order its b i && lie_before (p i) (q i))
  inner-order its (Declare k x e) = order-option k e
  inner-order its (Assign k t e) = λ i. order-reading k e i && lie_before (hoisted-reading e i) (target_faults its t k)
  inner-order its (Combine k total r ts es) =
      λ i. order-all k es i && lie_before (hoisted-all es i) (targets_faults its ts k ++ (record { key = k; place = total.place } ∷ total_fault total ∷ []))
  inner-order its (If k c a b) =
      let p = inner-faults its a in
      let q = inner-faults its b in
      let r = faults-reading k c in
      λ i. order-reading k c i && (inner-order its a i && (inner-order its b i && (lie_before (r i) (p i ++ q i) && lie_before (p i) (q i))))
  inner-order its s = refl

and-end : (b : Bool) → b && true ≡ b
and-end true = refl
and-end false = refl

-- a condition that always holds has no fault
always-safe : (e : Expr) → is_always e ≡ true → cannot_fail e ≡ true
always-safe (Const v) h = refl
always-safe e h = absurd (false≢true h)

always-hoists : (e : Expr) → is_always e ≡ true → hoists_in_order e ≡ true
always-hoists (Const v) h = refl
always-hoists e h = absurd (false≢true h)

-- nor has a conjunction other faults than its second condition, where the first has none
module _ (a b : Expr) (safe : cannot_fail a ≡ true) where
  conjunction-hoisted : hoisted_in (conjunction a b) ≡ hoisted_in b
  conjunction-hoisted = by (is_always b) refl
    where
      by : (c : Bool) → is_always b ≡ c → hoisted_in (cond c a (Both a b)) ≡ hoisted_in b
      by true e = safe-hoisted a safe ∙ sym (safe-hoisted b (always-safe b e))
      by false e = ap (λ l. l ++ hoisted_in b) (safe-hoisted a safe)

  conjunction-rest : (k : Key) → rest_in (conjunction a b) k ≡ rest_in b k
  conjunction-rest k = by (is_always b) refl
    where
      by : (c : Bool) → is_always b ≡ c → rest_in (cond c a (Both a b)) k ≡ rest_in b k
      by true e = safe-rest a k safe ∙ sym (safe-rest b k (always-safe b e))
      by false e = ap (λ l. l ++ rest_in b k) (safe-rest a k safe)

  conjunction-hoists : hoists_in_order a ≡ true → hoists_in_order (conjunction a b) ≡ hoists_in_order b
  conjunction-hoists h = by (is_always b) refl
    where
      by : (c : Bool) → is_always b ≡ c → hoists_in_order (cond c a (Both a b)) ≡ hoists_in_order b
      by true e = h ∙ sym (always-hoists b e)
      by false e =
          ap (λ z. z && (hoists_in_order b && lie_before (hoisted_in a) (hoisted_in b))) h
          ∙ ap (λ z. hoists_in_order b && z) (nothing-first (hoisted_in a) (hoisted_in b) (safe-hoisted a safe))
          ∙ and-end (hoists_in_order b)

  conjunction-faults : (k : Key) → faults_in (conjunction a b) k ≡ faults_in b k
  conjunction-faults k = λ i. conjunction-hoisted i ++ conjunction-rest k i

  conjunction-order : (k : Key) → hoists_in_order a ≡ true → in_order (conjunction a b) k ≡ in_order b k
  conjunction-order k h = let p = conjunction-hoists h in λ i. p i && lie_before (conjunction-hoisted i) (conjunction-rest k i)

-- the body of a part has the faults that it had
module _ (f : Fresh) (marks : List Bool) where
  level-faults : (its : List ℕ) (s : Stmt) → faults_of its (by_levels f marks s) ≡ faults_of its s
  level-faults its (Then a b) = λ i. level-faults its a i ++ level-faults its b i
  level-faults its (If k c a b) = λ i. faults_in c k ++ (level-faults its a i ++ level-faults its b i)
  level-faults its (Foreach k at h test body) = by h.domain
    where
      range : (d : Domain) (x : ℕ) → faults_of its (ranged f marks k at h test body d x) ≡ faults_of its (Foreach k at h test body)
      range d x =
          let p = conjunction-faults (is_on f h x) (reading f marks h.iterator test) refl k ∙ faults-reading f marks h.iterator k test in
          let q = inner-faults f marks h.iterator (h.iterator ∷ its) body in
          λ i. fault_of k h.place ∷ (p i ++ q i)

      by : (d : Domain) → faults_of its (inner_loop f marks k at h test body d) ≡ faults_of its (Foreach k at h test body)
      by Nodes = refl
      by OutNbrs = refl
      by InNbrs = refl
      by UpNbrs = range InNbrs f.up
      by DownNbrs = range OutNbrs f.down
  level-faults its s = refl

  level-order : (its : List ℕ) (s : Stmt) → body_in_order its (by_levels f marks s) ≡ body_in_order its s
  level-order its (Then a b) =
      let p = level-faults its a in
      let q = level-faults its b in
      λ i. level-order its a i && (level-order its b i && lie_before (p i) (q i))
  level-order its (If k c a b) =
      let p = level-faults its a in
      let q = level-faults its b in
      λ i. in_order c k && (level-order its a i && (level-order its b i && (lie_before (faults_in c k) (p i ++ q i) && lie_before (p i) (q i))))
  level-order its (Foreach k at h test body) = by h.domain
    where
      range : (d : Domain) (x : ℕ) → body_in_order its (ranged f marks k at h test body d x) ≡ body_in_order its (Foreach k at h test body)
      range d x =
          let js = h.iterator ∷ its in
          let p = conjunction-faults (is_on f h x) (reading f marks h.iterator test) refl k ∙ faults-reading f marks h.iterator k test in
          let q = inner-faults f marks h.iterator js body in
          let r = conjunction-order (is_on f h x) (reading f marks h.iterator test) refl k refl ∙ order-reading f marks h.iterator k test in
          let s = inner-order f marks h.iterator js body in
          λ i. lie_before (fault_of k h.place ∷ []) (q i) && (r i && (s i && lie_before (p i) (q i)))

      by : (d : Domain) → body_in_order its (inner_loop f marks k at h test body d) ≡ body_in_order its (Foreach k at h test body)
      by Nodes = refl
      by OutNbrs = refl
      by InNbrs = refl
      by UpNbrs = range InNbrs f.up
      by DownNbrs = range OutNbrs f.down
  level-order its s = refl

self-eq : (n : ℕ) → nat_eq n n ≡ true
self-eq n = grind (arith)

-- a later stage of one statement
later : (less same : Bool) → same ≡ true → less || (same && true) ≡ true
later true same h = refl
later false same h = ap (λ z. z && true) h

abbrev Ordered : Stmt → Type 0
Ordered s = loops_in_order s ≡ true

ordered-then : (a b : Stmt) → Ordered a → Ordered b → Ordered (Then a b)
ordered-then a b p q = and-true (loops_in_order a) (loops_in_order b) p q

ordered-last : (a : Stmt) → Ordered a → Ordered (Then a Skip)
ordered-last a p = ordered-then a Skip p refl

ordered-where : (b : Bool) (a : Stmt) → Ordered a → Ordered (where_asked b a)
ordered-where true a p = p
ordered-where false a p = refl

ordered-first : (b : Bool) (a c : Stmt) → Ordered a → Ordered c → Ordered (first_where b a c)
ordered-first true a c p q = ordered-then a (Then c Skip) p (ordered-last c q)
ordered-first false a c p q = ordered-then c (Then a Skip) q (ordered-last a p)

-- the loops of a search, whose statement is numbered
module _ (f : Fresh) (s : Site) (numbered : nat_lt 0 s.number ≡ true) where
  abbrev here : List ℕ
  here = f.node ∷ []

  abbrev there : List ℕ
  there = f.neighbour ∷ f.node ∷ []

  at-here : is_in here f.node ≡ true
  at-here = ap (λ z. z || false) (self-eq f.node)

  at-there : is_in there f.neighbour ≡ true
  at-there = ap (λ z. z || (nat_eq f.neighbour f.node || false)) (self-eq f.neighbour)

  -- an assignment at the loop's own node
  own-order : (p : ℕ) (e : Expr) → in_order e (body_key s) ≡ true → hoisted_in e ≡ [] → body_in_order here (set_at s f.node p e) ≡ true
  own-order p e order none =
      and-true (in_order e (body_key s)) (lie_before (hoisted_in e) (target_faults here (T.Property f.node p s.place) (body_key s))) order
      (nothing-first (hoisted_in e) (target_faults here (T.Property f.node p s.place) (body_key s)) none)

  own-faults : (p : ℕ) (e : Expr) → faults_in e (body_key s) ≡ [] → faults_of here (set_at s f.node p e) ≡ []
  own-faults p e none = ap (λ b. fault_if (not b) (body_key s) s.place ++ faults_in e (body_key s)) at-here ∙ none

  each-ordered : (body : Stmt) → body_in_order here body ≡ true → are_numbered (faults_of here body) ≡ true → Ordered (each_node s f always body)
  each-ordered body order fine = first-stands here here false s.place always body refl refl order fine

  first_levels-ordered : Ordered (first_levels s f)
  first_levels-ordered =
      let e : Expr = Choose (equal s (scalar s f.node) (scalar s f.root)) (number 0) (number 2147483647) in
      each-ordered (set_at s f.node f.level e) (own-order f.level e refl refl) (ap are_numbered (own-faults f.level e refl))

  begin-ordered : (key : Key) (root : ℕ) → Ordered (begin s f key root)
  begin-ordered key root = ordered-then (first_levels s f) (sequence (set s f.current (number 0) ∷ set s f.more always ∷ [])) first_levels-ordered refl

  activate-ordered : Ordered (activate s f)
  activate-ordered =
      let e : Expr = equal s (at_node s f.node f.level) (scalar s f.current) in
      each-ordered (set_at s f.node f.active e) (own-order f.active e refl refl) (ap are_numbered (own-faults f.active e refl))

  -- copies
  copies-faults : (p : ℕ) (marks : List Bool) → faults_of here (sequence (copies_from s f p marks)) ≡ []
  copies-faults p [] = refl
  copies-faults p (true ∷ marks) = ap (λ l. l ++ faults_of here (sequence (copies_from s f (suc p) marks))) (own-faults (copy_of f p) (at_node s f.node p) refl) ∙ copies-faults (suc p) marks
  copies-faults p (false ∷ marks) = copies-faults (suc p) marks

  copies-order : (p : ℕ) (marks : List Bool) → body_in_order here (sequence (copies_from s f p marks)) ≡ true
  copies-order p [] = refl
  copies-order p (true ∷ marks) =
      let one : Stmt = copy_property s f p in
      let rest : Stmt = sequence (copies_from s f (suc p) marks) in
      and-true (body_in_order here one) (body_in_order here rest && lie_before (faults_of here one) (faults_of here rest)) (own-order (copy_of f p) (at_node s f.node p) refl refl)
      (and-true (body_in_order here rest) (lie_before (faults_of here one) (faults_of here rest)) (copies-order (suc p) marks)
      (nothing-first (faults_of here one) (faults_of here rest) (own-faults (copy_of f p) (at_node s f.node p) refl)))
  copies-order p (false ∷ marks) = copies-order (suc p) marks

  unless-ordered : (cs : List Stmt) → body_in_order here (sequence cs) ≡ true → faults_of here (sequence cs) ≡ [] → Ordered (unless_empty s f cs)
  unless-ordered [] order none = refl
  unless-ordered (c ∷ cs) order none = each-ordered (sequence (c ∷ cs)) order (ap are_numbered none)

  copy-ordered : (marks : List Bool) → Ordered (copy s f marks)
  copy-ordered marks = unless-ordered (copies_from s f 0 marks) (copies-order 0 marks) (copies-faults 0 marks)

  -- the two faults that a reduction of levels might have
  abbrev two : List Fault
  two = fault_of (body_key s) s.place ∷ fault_of (key_of s Stage.Total) s.place ∷ []

  two-numbered : are_numbered two ≡ true
  two-numbered = and-true (nat_lt 0 s.number) (nat_lt 0 s.number && true) numbered (and-true (nat_lt 0 s.number) true numbered refl)

  filter-leads : lie_before (fault_of (filter_key s) s.place ∷ []) two ≡ true
  filter-leads =
      let less : Bool = nat_lt s.number s.number in
      let same : Bool = nat_eq s.number s.number in
      let one : Bool = less || (same && true) in
      let is : one ≡ true = later less same (self-eq s.number) in
      and-true (one && true) ((one && true) && true) (and-true one true is refl) (and-true (one && true) true (and-true one true is refl) refl)

  abbrev give : Stmt
  give = Combine (body_key s) (total_of s) Min (T.Property f.neighbour f.level s.place ∷ []) (scalar s f.down ∷ [])

  abbrev send : Stmt
  send = Foreach (filter_key s) s.place (along_edges s f) always give

  give-faults : faults_of there give ≡ two
  give-faults = ap (λ b. (fault_if (not b) (body_key s) s.place ++ []) ++ two) at-there

  give-order : body_in_order there give ≡ true
  give-order = nothing-first [] (targets_faults there (T.Property f.neighbour f.level s.place ∷ []) (body_key s) ++ two) refl

  send-order : body_in_order here send ≡ true
  send-order =
      and-true (leads there (filter_key s) s.place give) (body_in_order there give && lie_before [] (faults_of there give)) (ap (lie_before (fault_of (filter_key s) s.place ∷ [])) give-faults ∙ filter-leads)
      (and-true (body_in_order there give) (lie_before [] (faults_of there give)) give-order (nothing-first [] (faults_of there give) refl))

  send-numbered : are_numbered (faults_of here send) ≡ true
  send-numbered = and-true (nat_lt 0 s.number) (are_numbered (faults_of there give)) numbered (ap are_numbered give-faults ∙ two-numbered)

  reach-ordered : Ordered (reach s f)
  reach-ordered = first-stands here here false s.place (at_node s f.node f.active) send at-here refl send-order send-numbered

  look-ordered : Ordered (look s f)
  look-ordered =
      let test : Expr = equal s (at_node s f.node f.level) (scalar s f.down) in
      each-ordered (Combine (body_key s) (total_of s) Or (T.Scalar f.found s.place ∷ []) (test ∷ [])) refl two-numbered

  -- the nodes of a level are visited
  module _ (marks : List Bool) (key : Key) (x : ℕ) (test : Expr) (body : Stmt) where
    abbrev its : List ℕ
    its = x ∷ []

    abbrev mask : Expr
    mask = at_node s x f.active

    abbrev filter : Expr
    filter = conjunction mask test

    abbrev inside : Stmt
    inside = by_levels f marks body

    level-ordered : search_in_order its key s.place test body ≡ true → Ordered (Foreach key s.place (over_nodes s x) filter inside)
    level-ordered h =
        let q = both-true (are_numbered (fault_of key s.place ∷ [])) (begins its key s.place test body && loop_in_order its key test body) h in
        let r = both-true (begins its key s.place test body) (loop_in_order its key test body) q.1 in
        let t = both-true (leads its key s.place body) (are_numbered (hoisted_in test ++ faults_of its body) && (nat_lt 0 key.statement || cannot_fail test)) r.0 in
        let u = both-true (are_numbered (hoisted_in test ++ faults_of its body)) (nat_lt 0 key.statement || cannot_fail test) t.1 in
        let positive = (both-true (nat_lt 0 key.statement) true q.0).0 in
        let faults = level-faults f marks its body in
        let hoisted = conjunction-hoisted mask test refl in
        let told = conjunction-faults mask test refl key in
        let order = conjunction-order mask test refl key refl in
        let inner = level-order f marks its body in
        let all-numbered : are_numbered (hoisted_in filter ++ faults_of its inside) ≡ are_numbered (hoisted_in test ++ faults_of its body) = λ i. are_numbered (hoisted i ++ faults i) in
        let all-ordered : loop_in_order its key filter inside ≡ loop_in_order its key test body = λ i. order i && (inner i && lie_before (told i) (faults i)) in
        and-true (begins its key s.place filter inside) (loop_in_order its key filter inside)
        (and-true (leads its key s.place inside) (are_numbered (hoisted_in filter ++ faults_of its inside) && (nat_lt 0 key.statement || cannot_fail filter))
        (ap (lie_before (fault_of key s.place ∷ [])) faults ∙ t.0)
        (and-true (are_numbered (hoisted_in filter ++ faults_of its inside)) (nat_lt 0 key.statement || cannot_fail filter)
        (all-numbered ∙ u.0)
        (ap (λ b. b || cannot_fail filter) positive)))
        (all-ordered ∙ r.1)

    visit-ordered : search_in_order its key s.place test body ≡ true → Ordered (visit s f marks key x test body)
    visit-ordered h = by (is_idle body && is_safe x test)
      where
        by : (b : Bool) → Ordered (cond b Skip (Foreach key s.place (over_nodes s x) filter inside))
        by true = refl
        by false = level-ordered h

  forward-ordered : (count : ℕ) (key : Key) (x : ℕ) (test : Expr) (body : Stmt) → search_in_order (x ∷ []) key s.place test body ≡ true → Ordered (forward s f count key x test body)
  forward-ordered count key x test body h =
      let marks : List Bool = copied count body in
      let visits : Stmt = visit s f marks key x test body in
      let third : List Stmt = look s f ∷ set s f.more (scalar s f.found) ∷ set s f.current (scalar s f.down) ∷ [] in
      let second : List Stmt = first_where (asks_down body) (reach s f) visits ∷ third in
      let copies : List Stmt = copy s f marks ∷ second in
      let active : List Stmt = activate s f ∷ copies in
      let none : List Stmt = set s f.found (Const (Flag false)) ∷ active in
      ordered-then (where_asked (asks_up body) (level_before s f f.up)) (sequence none) (ordered-where (asks_up body) (level_before s f f.up) refl)
      (ordered-then (activate s f) (sequence copies) activate-ordered
      (ordered-then (copy s f marks) (sequence second) (copy-ordered marks)
      (ordered-then (first_where (asks_down body) (reach s f) visits) (sequence third) (ordered-first (asks_down body) (reach s f) visits reach-ordered (visit-ordered marks key x test body h))
      (ordered-then (look s f) (sequence (set s f.more (scalar s f.found) ∷ set s f.current (scalar s f.down) ∷ [])) look-ordered refl))))

  backward-ordered : (count : ℕ) (key : Key) (x : ℕ) (test : Expr) (body : Stmt) → search_in_order (x ∷ []) key s.place test body ≡ true → Ordered (backward s f count key x test body)
  backward-ordered count key x test body h =
      let marks : List Bool = copied count body in
      let visits : Stmt = visit s f marks key x test body in
      let third : List Stmt = visits ∷ level_before s f f.current ∷ [] in
      let copies : List Stmt = copy s f marks ∷ third in
      let active : List Stmt = activate s f ∷ copies in
      let ups : List Stmt = where_asked (asks_up body) (level_before s f f.up) ∷ active in
      let turn : Ordered (back_turn s f count key x test body) =
      ordered-then (where_asked (asks_down body) (next_level s f)) (sequence ups) (ordered-where (asks_down body) (next_level s f) refl)
      (ordered-then (where_asked (asks_up body) (level_before s f f.up)) (sequence active) (ordered-where (asks_up body) (level_before s f f.up) refl)
      (ordered-then (activate s f) (sequence copies) activate-ordered
      (ordered-then (copy s f marks) (sequence third) (copy-ordered marks)
      (ordered-then visits (sequence (level_before s f f.current ∷ [])) (visit-ordered marks key x test body h) refl)))) in
      and-true (loops_in_order (back_turn s f count key x test body)) true turn refl

-- a whole phase
module _ (f : Fresh) (count : ℕ) where
  numbered-of : (key : Key) (at : Place) (its : List ℕ) (test : Expr) (body : Stmt) → search_in_order its key at test body ≡ true → nat_lt 0 key.statement ≡ true
  numbered-of key at its test body h = (both-true (nat_lt 0 key.statement) true (both-true (are_numbered (fault_of key at ∷ [])) (begins its key at test body && loop_in_order its key test body) h).0).0

  phase-ordered : (s : Stmt) → Ordered s → Ordered (searches_out f count s)
  phase-ordered (Then a b) h = let q = both-true (loops_in_order a) (loops_in_order b) h in ordered-then (searches_out f count a) (searches_out f count b) (phase-ordered a q.0) (phase-ordered b q.1)
  phase-ordered (For k at hd test body) h = let q = both-true (folds_in_order test) (loops_in_order body) h in and-true (folds_in_order test) (loops_in_order (searches_out f count body)) q.0 (phase-ordered body q.1)
  phase-ordered (If k c a b) h =
      let q = both-true (folds_in_order c) (loops_in_order a && loops_in_order b) h in
      let r = both-true (loops_in_order a) (loops_in_order b) q.1 in
      and-true (folds_in_order c) (loops_in_order (searches_out f count a) && loops_in_order (searches_out f count b)) q.0 (ordered-then (searches_out f count a) (searches_out f count b) (phase-ordered a r.0) (phase-ordered b r.1))
  phase-ordered (While k at c body) h = let q = both-true (folds_in_order c) (loops_in_order body) h in and-true (folds_in_order c) (loops_in_order (searches_out f count body)) q.0 (phase-ordered body q.1)
  phase-ordered (Do k at body c) h = let q = both-true (loops_in_order body) (folds_in_order c) h in and-true (loops_in_order (searches_out f count body)) (folds_in_order c) (phase-ordered body q.0) q.1
  phase-ordered (InBfs key at search test body) h =
      let s : Site = site_of key search in
      let x : ℕ = search.iterator in
      let n = numbered-of key search.place (x ∷ []) test body h in
      ordered-then (begin s f key search.root) (sequence (forward s f count key x test body ∷ [])) (begin-ordered f s n key search.root) (ordered-last (forward s f count key x test body) (forward-ordered f s n count key x test body h))
  phase-ordered (InBfsBoth key at search test body back_key back_test back) h =
      let s : Site = site_of key search in
      let x : ℕ = search.iterator in
      let q = both-true (search_in_order (x ∷ []) key search.place test body) (search_in_order (x ∷ []) back_key search.place back_test back) h in
      let n = numbered-of key search.place (x ∷ []) test body q.0 in
      let there : Stmt = forward s f count key x test body in
      let again : Stmt = backward s f count back_key x back_test back in
      ordered-then (begin s f key search.root) (sequence (there ∷ again ∷ [])) (begin-ordered f s n key search.root)
      (ordered-then there (sequence (again ∷ [])) (forward-ordered f s n count key x test body q.0) (ordered-last again (backward-ordered f s n count back_key x back_test back q.1)))
  phase-ordered s h = h

-- the loops of a program stand in order after the pass, as they did before
pub levelled-ordered : (p : Program) → is_ordered p ≡ true → is_ordered (levelled p) ≡ true
levelled-ordered p h = by (has_search p.body)
  where
    by : (b : Bool) → is_ordered (cond b (record p { declarations = with_fresh p.declarations; body = searches_out (fresh_from (length p.declarations)) (length p.declarations) p.body }) p) ≡ true
    by true = phase-ordered (fresh_from (length p.declarations)) (length p.declarations) p.body h
    by false = h
