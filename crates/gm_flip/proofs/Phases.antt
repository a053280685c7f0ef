-- A program with no loop that pulls means the same, keeps what every pass keeps, and has the next form.
use Rattle.std.proofs.Common.{◌≡◌, suc, ℕ, Bool, true, false, cond, List, [], ◌∷◌, ◌++◌, length, refl, sym, ap, ◌∙◌, Option, Some, None}
use Rattle.std.specs.Prelude.{◌+◌, ◌&&◌, ◌||◌, nat_lt, nat_le}
use Rattle.std.specs.List.{list_all}
use Rattle.gm_base.specs.declared.places.Place.{Place}
use Rattle.gm_value.specs.declared.values.VType.{VType}
use Rattle.gm_value.specs.declared.values.VType.TheVariants.{Flag}
use Rattle.gm_value.specs.declared.values.Value.TheVariants.{At}
use Rattle.gm_value.specs.Operations.{is_true}
use Rattle.gm_model.specs.Graphs.{NumberedGraph, IsGraph}
use Rattle.gm_ast.specs.declared.tree.Declaration.{Declaration}
use Rattle.gm_ast.specs.declared.tree.Domain.{Domain}
use Rattle.gm_ast.specs.declared.tree.Domain.TheVariants.{Nodes, OutNbrs, InNbrs, UpNbrs, DownNbrs}
use Rattle.gm_ast.specs.declared.tree.Head.{Head}
use Rattle.gm_ast.specs.declared.tree.Key.{Key}
use Rattle.gm_ast.specs.declared.tree.Sort.TheVariants as Sorts
use Rattle.gm_ast.specs.declared.tree.Target.TheVariants as T
use Rattle.gm_ast.specs.declared.tree.Variable.{Variable}
use Rattle.gm_ast.specs.Loops.{is_nodes}
use Rattle.gm_ast.specs.Names.{is, is_node_type}
use Rattle.gm_ast.specs.Program.{Expr, Both, always, Stmt, Skip, Then, Declare, DeclareEdge, Assign, Defer, Combine, Group, Foreach, For, If, While, Do, InBfs, InBfsBoth, Return, Program}
use Rattle.gm_semantics.specs.declared.slots.Slot.TheVariants.{Scalar}
use Rattle.gm_semantics.specs.Levels.{nodes}
use Rattle.gm_semantics.specs.Stores.{write}
use Rattle.gm_semantics.specs.Expressions.{value}
use Rattle.gm_semantics.specs.Statements.{Run, State, Goes, view_of, variable_at, sequential}
use Rattle.gm_semantics.specs.Outcomes.{outcome_of, first_store}
use Rattle.gm_forms.specs.Flip.{reversed, flipped_head}
use Rattle.gm_forms.specs.Cut.{is_cut}
use Rattle.gm_forms.specs.Forms.{is_told, no_loop, is_phase, has_a_way, goes_out}
use Rattle.gm_forms.specs.Meanings.{SameMeaning}
use Rattle.gm_forms.specs.Order.{begins, loop_in_order, folds_in_order, loops_in_order}
use Rattle.gm_forms.specs.Ready.{Ready3, Ready4}
use Rattle.gm_forms.specs.Sharing.{loops_share}
use Rattle.gm_forms.specs.Typing.{type_in, is_type, type_if, has_type, is_typed_in}
use Rattle.gm_forms.specs.Uses.{Iterates, Owner, Use, has_role, suits, use_as, owner_role, uses_in, uses_of_head, uses_of}
use Rattle.gm_forms.proofs.Courses.{then_do-both, with_value-each, either_way-each, begin_turn-each, repeated-each, in_turns-each}
use Rattle.gm_forms.proofs.Named.{both-true, all-append}
use Rattle.gm_forms.proofs.Weaker.{and-true}
use Rattle.gm_flip.specs.Pulling.{pulls}
use Rattle.gm_flip.specs.Flipped.{is_always, joined, with_iterator, turned, flipped_loop, flipped, without_pulls}
use Rattle.gm_flip.proofs.Turns.{turned-same}
use Rattle.gm_flip.proofs.Basics.{none}
use Rattle.gm_flip.proofs.Parts.{Parts, parts, goes, goes-as-it-is}

-- lists of uses suit as their parts do
append-true : {A : Type 0} (f : A → Bool) (xs ys : List A) → list_all f xs ≡ true → list_all f ys ≡ true → list_all f (xs ++ ys) ≡ true
append-true f [] ys h k = k
append-true f (x ∷ xs) ys h k = let r = both-true (f x) (list_all f xs) h in and-true (f x) (list_all f (xs ++ ys)) r.0 (append-true f xs ys r.1 k)

-- what iterates is a node whose neighbours may be visited
owns : (v : Variable) → has_role v Iterates ≡ true → has_role v Owner ≡ true
owns v h = by (is Sorts.Iterator v) (is Sorts.Scalar v && is_node_type v.vtype) (is Sorts.Graph v) h
  where
    by : (a b c : Bool) → a || c ≡ true → (a || b) || c ≡ true
    by true b c h = refl
    by false true c h = refl
    by false false c h = h

owns-in : (d : Domain) (v : Variable) → has_role v Iterates ≡ true → has_role v (owner_role d) ≡ true
owns-in Nodes v h = refl
owns-in OutNbrs v h = owns v h
owns-in InNbrs v h = owns v h
owns-in UpNbrs v h = owns v h
owns-in DownNbrs v h = owns v h

module _ (ds : List Declaration) where
  abbrev Suit : List Use → Type 0
  Suit us = list_all (suits ds) us ≡ true

  owner-use : (d : Domain) (x : ℕ) → Suit (use_as Iterates x) → Suit (use_as (owner_role d) x)
  owner-use d x h =
      let s = both-true (suits ds (record { variable = x; role = Iterates })) true h in
      let t = both-true (nat_lt x (length ds)) (has_role (variable_at ds x) Iterates) s.0 in
      and-true (suits ds (record { variable = x; role = owner_role d })) true (and-true (nat_lt x (length ds)) (has_role (variable_at ds x) (owner_role d)) t.0 (owns-in d (variable_at ds x) t.1)) refl

  joined-named : (mask test : Expr) → Suit (uses_in mask) → Suit (uses_in test) → Suit (uses_in (joined mask test))
  joined-named mask test m t = by (is_always mask)
    where
      by : (b : Bool) → Suit (uses_in (cond b test (Both mask test)))
      by true = t
      by false = append-true (suits ds) (uses_in mask) (uses_in test) m t

  joined-typed : (mask test : Expr) → has_type ds Flag mask ≡ true → has_type ds Flag test ≡ true → has_type ds Flag (joined mask test) ≡ true
  joined-typed mask test m t = by (is_always mask)
    where
      by : (b : Bool) → has_type ds Flag (cond b test (Both mask test)) ≡ true
      by true = t
      by false = ap (λ b. is_type Flag (type_if b Flag)) (and-true (is_type Flag (type_in ds mask)) (is_type Flag (type_in ds test)) m t)

  turned-named : (k : Key) (at : Place) (h : Head) (mask : Expr) (j : Key) (here : Place) (i : Head) (test : Expr) (body : Stmt) →
      Suit (uses_of (Foreach k at h mask (Foreach j here i test body))) → Suit (uses_of (turned k at h mask (Foreach j here i test body)))
  turned-named k at h mask j here i test body s =
      let f = suits ds in
      let a = all-append f (uses_of_head h) (uses_in mask ++ uses_of (Foreach j here i test body)) s in
      let b = all-append f (uses_in mask) (uses_of (Foreach j here i test body)) a.1 in
      let c = all-append f (uses_of_head i) (uses_in test ++ uses_of body) b.1 in
      let d = all-append f (uses_in test) (uses_of body) c.1 in
      let o = all-append f (use_as Iterates h.iterator) (use_as (owner_role h.domain) h.owner) a.0 in
      let q = all-append f (use_as Iterates i.iterator) (use_as (owner_role i.domain) i.owner) c.0 in
      let hd = flipped_head h.iterator i in
      append-true f (uses_of_head (with_iterator i.iterator h)) (uses_of_head hd ++ (uses_in (joined mask test) ++ uses_of body))
      (append-true f (use_as Iterates i.iterator) (use_as (owner_role h.domain) h.owner) q.0 o.1)
      (append-true f (uses_of_head hd) (uses_in (joined mask test) ++ uses_of body)
      (append-true f (use_as Iterates h.iterator) (use_as (owner_role (reversed i.domain)) i.iterator) o.0 (owner-use (reversed i.domain) i.iterator q.0))
      (append-true f (uses_in (joined mask test)) (uses_of body) (joined-named mask test b.0 d.0) d.1))

  turned-typed : (r : Option VType) (k : Key) (at : Place) (h : Head) (mask : Expr) (j : Key) (here : Place) (i : Head) (test : Expr) (body : Stmt) →
      is_typed_in ds r (Foreach k at h mask (Foreach j here i test body)) ≡ true → is_typed_in ds r (turned k at h mask (Foreach j here i test body)) ≡ true
  turned-typed r k at h mask j here i test body s =
      let a = both-true (has_type ds Flag mask) (has_type ds Flag test && is_typed_in ds r body) s in
      let b = both-true (has_type ds Flag test) (is_typed_in ds r body) a.1 in
      and-true (has_type ds Flag (joined mask test)) (is_typed_in ds r body) (joined-typed mask test a.0 b.0) b.1

  -- what is known of a phase
  record Given (s : Stmt) : Type 0 where
    form : is_phase (is_cut has_a_way ds) no_loop ds s ≡ true
    in_order : loops_in_order s ≡ true
    share : loops_share ds s ≡ true

  first-of : (a b : Stmt) → Given (Then a b) → Given a
  first-of a b g = record { form = (both-true (is_phase (is_cut has_a_way ds) no_loop ds a) (is_phase (is_cut has_a_way ds) no_loop ds b) g.form).0; in_order = (both-true (loops_in_order a) (loops_in_order b) g.in_order).0; share = (both-true (loops_share ds a) (loops_share ds b) g.share).0 }

  second-of : (a b : Stmt) → Given (Then a b) → Given b
  second-of a b g = record { form = (both-true (is_phase (is_cut has_a_way ds) no_loop ds a) (is_phase (is_cut has_a_way ds) no_loop ds b) g.form).1; in_order = (both-true (loops_in_order a) (loops_in_order b) g.in_order).1; share = (both-true (loops_share ds a) (loops_share ds b) g.share).1 }

  both-of : (k : Key) (c : Expr) (a b : Stmt) → Given (If k c a b) → Given (Then a b)
  both-of k c a b g = record { form = (both-true (is_told c) (is_phase (is_cut has_a_way ds) no_loop ds a && is_phase (is_cut has_a_way ds) no_loop ds b) g.form).1; in_order = (both-true (folds_in_order c) (loops_in_order a && loops_in_order b) g.in_order).1; share = g.share }

  yes-of : (k : Key) (c : Expr) (a b : Stmt) → Given (If k c a b) → Given a
  yes-of k c a b g = first-of a b (both-of k c a b g)

  no-of : (k : Key) (c : Expr) (a b : Stmt) → Given (If k c a b) → Given b
  no-of k c a b g = second-of a b (both-of k c a b g)

  for-of : (k : Key) (at : Place) (h : Head) (c : Expr) (s : Stmt) → Given (For k at h c s) → Given s
  for-of k at h c s g = record { form = (both-true (is_told c) (is_phase (is_cut has_a_way ds) no_loop ds s) g.form).1; in_order = (both-true (folds_in_order c) (loops_in_order s) g.in_order).1; share = g.share }

  while-of : (k : Key) (at : Place) (c : Expr) (s : Stmt) → Given (While k at c s) → Given s
  while-of k at c s g = record { form = (both-true (is_told c) (is_phase (is_cut has_a_way ds) no_loop ds s) g.form).1; in_order = (both-true (folds_in_order c) (loops_in_order s) g.in_order).1; share = g.share }

  do-of : (k : Key) (at : Place) (s : Stmt) (c : Expr) → Given (Do k at s c) → Given s
  do-of k at s c g = record { form = (both-true (is_phase (is_cut has_a_way ds) no_loop ds s) (is_told c) g.form).0; in_order = (both-true (loops_in_order s) (folds_in_order c) g.in_order).0; share = g.share }

  -- the cut loop of a phase
  cut-of : (k : Key) (at : Place) (h : Head) (mask : Expr) (body : Stmt) → Given (Foreach k at h mask body) → (is_nodes h.domain ≡ true) × (is_cut has_a_way ds h.iterator mask body ≡ true)
  cut-of k at h mask body g = both-true (is_nodes h.domain) (is_cut has_a_way ds h.iterator mask body) g.form

  -- a loop of a phase keeps what it keeps where it is turned, and where it stays
  module _ (Keeps : Stmt → Type 0) (k : Key) (at : Place) (h : Head) (mask : Expr) where
    each-loop : (body : Stmt) → Given (Foreach k at h mask body) →
        (pulls h.iterator body ≡ false → Keeps (Foreach k at h mask body)) →
        ((j : Key) (here : Place) (i : Head) (test : Expr) (inner : Stmt) → body ≡ Foreach j here i test inner → Parts ds h.iterator k mask j here i test inner → Keeps (turned k at h mask (Foreach j here i test inner))) →
        Keeps (flipped_loop k at h mask body)
    each-loop (Foreach j here i test inner) g stays turns = by (pulls h.iterator (Foreach j here i test inner)) refl
      where
        by : (b : Bool) → pulls h.iterator (Foreach j here i test inner) ≡ b → Keeps (cond b (turned k at h mask (Foreach j here i test inner)) (Foreach k at h mask (Foreach j here i test inner)))
        by true e = turns j here i test inner refl (parts ds h.iterator k mask j here i test inner (cut-of k at h mask (Foreach j here i test inner) g).1 e g.share)
        by false e = stays e
    each-loop Skip g stays turns = stays refl
    each-loop (Then a b) g stays turns = stays refl
    each-loop (Declare j x e) g stays turns = stays refl
    each-loop (DeclareEdge x y p) g stays turns = stays refl
    each-loop (Assign j t e) g stays turns = stays refl
    each-loop (Defer j t e) g stays turns = stays refl
    each-loop (Combine j total r ts es) g stays turns = stays refl
    each-loop (Group j p x q e) g stays turns = stays refl
    each-loop (For j p x c s) g stays turns = stays refl
    each-loop (If j c a b) g stays turns = stays refl
    each-loop (While j p c s) g stays turns = stays refl
    each-loop (Do j p s c) g stays turns = stays refl
    each-loop (InBfs j p x c s) g stays turns = stays refl
    each-loop (InBfsBoth j p x c s q d u) g stays turns = stays refl
    each-loop (Return j p e) g stays turns = stays refl

  -- variables are used as they are declared
  named : (s : Stmt) → Given s → Suit (uses_of s) → Suit (uses_of (flipped s))
  named (Then a b) g h = let u = all-append (suits ds) (uses_of a) (uses_of b) h in append-true (suits ds) (uses_of (flipped a)) (uses_of (flipped b)) (named a (first-of a b g) u.0) (named b (second-of a b g) u.1)
  named (Foreach k at hd mask body) g h =
      each-loop (λ s. Suit (uses_of s)) k at hd mask body g (λ e. h) (λ j here i test inner e p. turned-named k at hd mask j here i test inner (ap (λ s. list_all (suits ds) (uses_of (Foreach k at hd mask s))) (sym e) ∙ h))
  named (For k at hd c s) g h =
      let u = all-append (suits ds) (uses_of_head hd) (uses_in c ++ uses_of s) h in
      let v = all-append (suits ds) (uses_in c) (uses_of s) u.1 in
      append-true (suits ds) (uses_of_head hd) (uses_in c ++ uses_of (flipped s)) u.0 (append-true (suits ds) (uses_in c) (uses_of (flipped s)) v.0 (named s (for-of k at hd c s g) v.1))
  named (If k c a b) g h =
      let u = all-append (suits ds) (uses_in c) (uses_of a ++ uses_of b) h in
      let v = all-append (suits ds) (uses_of a) (uses_of b) u.1 in
      append-true (suits ds) (uses_in c) (uses_of (flipped a) ++ uses_of (flipped b)) u.0 (append-true (suits ds) (uses_of (flipped a)) (uses_of (flipped b)) (named a (yes-of k c a b g) v.0) (named b (no-of k c a b g) v.1))
  named (While k at c s) g h = let u = all-append (suits ds) (uses_in c) (uses_of s) h in append-true (suits ds) (uses_in c) (uses_of (flipped s)) u.0 (named s (while-of k at c s g) u.1)
  named (Do k at s c) g h = let u = all-append (suits ds) (uses_of s) (uses_in c) h in append-true (suits ds) (uses_of (flipped s)) (uses_in c) (named s (do-of k at s c g) u.0) u.1
  named s g h = h

  -- expressions have types
  typed : (r : Option VType) (s : Stmt) → Given s → is_typed_in ds r s ≡ true → is_typed_in ds r (flipped s) ≡ true
  typed r (Then a b) g h = let u = both-true (is_typed_in ds r a) (is_typed_in ds r b) h in and-true (is_typed_in ds r (flipped a)) (is_typed_in ds r (flipped b)) (typed r a (first-of a b g) u.0) (typed r b (second-of a b g) u.1)
  typed r (Foreach k at hd mask body) g h =
      each-loop (λ s. is_typed_in ds r s ≡ true) k at hd mask body g (λ e. h) (λ j here i test inner e p. turned-typed r k at hd mask j here i test inner (ap (λ s. is_typed_in ds r (Foreach k at hd mask s)) (sym e) ∙ h))
  typed r (For k at hd c s) g h = let u = both-true (has_type ds Flag c) (is_typed_in ds r s) h in and-true (has_type ds Flag c) (is_typed_in ds r (flipped s)) u.0 (typed r s (for-of k at hd c s g) u.1)
  typed r (If k c a b) g h =
      let u = both-true (has_type ds Flag c) (is_typed_in ds r a && is_typed_in ds r b) h in
      let v = both-true (is_typed_in ds r a) (is_typed_in ds r b) u.1 in
      and-true (has_type ds Flag c) (is_typed_in ds r (flipped a) && is_typed_in ds r (flipped b)) u.0 (and-true (is_typed_in ds r (flipped a)) (is_typed_in ds r (flipped b)) (typed r a (yes-of k c a b g) v.0) (typed r b (no-of k c a b g) v.1))
  typed r (While k at c s) g h = let u = both-true (has_type ds Flag c) (is_typed_in ds r s) h in and-true (has_type ds Flag c) (is_typed_in ds r (flipped s)) u.0 (typed r s (while-of k at c s g) u.1)
  typed r (Do k at s c) g h = let u = both-true (is_typed_in ds r s) (has_type ds Flag c) h in and-true (is_typed_in ds r (flipped s)) (has_type ds Flag c) (typed r s (do-of k at s c g) u.0) u.1
  typed r s g h = h

  -- the faults of loops stand in order
  ordered : (s : Stmt) → Given s → loops_in_order s ≡ true → loops_in_order (flipped s) ≡ true
  ordered (Then a b) g h = let u = both-true (loops_in_order a) (loops_in_order b) h in and-true (loops_in_order (flipped a)) (loops_in_order (flipped b)) (ordered a (first-of a b g) u.0) (ordered b (second-of a b g) u.1)
  ordered (Foreach k at hd mask body) g h = each-loop (λ s. loops_in_order s ≡ true) k at hd mask body g (λ e. h) (λ j here i test inner e p. p.order hd.place (ap (λ s. begins (hd.iterator ∷ []) k hd.place mask s && loop_in_order (hd.iterator ∷ []) k mask s) (sym e) ∙ h))
  ordered (For k at hd c s) g h = let u = both-true (folds_in_order c) (loops_in_order s) h in and-true (folds_in_order c) (loops_in_order (flipped s)) u.0 (ordered s (for-of k at hd c s g) u.1)
  ordered (If k c a b) g h =
      let u = both-true (folds_in_order c) (loops_in_order a && loops_in_order b) h in
      let v = both-true (loops_in_order a) (loops_in_order b) u.1 in
      and-true (folds_in_order c) (loops_in_order (flipped a) && loops_in_order (flipped b)) u.0 (and-true (loops_in_order (flipped a)) (loops_in_order (flipped b)) (ordered a (yes-of k c a b g) v.0) (ordered b (no-of k c a b g) v.1))
  ordered (While k at c s) g h = let u = both-true (folds_in_order c) (loops_in_order s) h in and-true (folds_in_order c) (loops_in_order (flipped s)) u.0 (ordered s (while-of k at c s g) u.1)
  ordered (Do k at s c) g h = let u = both-true (loops_in_order s) (folds_in_order c) h in and-true (loops_in_order (flipped s)) (folds_in_order c) (ordered s (do-of k at s c g) u.0) u.1
  ordered s g h = h

  -- the iterations of loops share what ends with them
  shared : (s : Stmt) → Given s → loops_share ds s ≡ true → loops_share ds (flipped s) ≡ true
  shared (Then a b) g h = let u = both-true (loops_share ds a) (loops_share ds b) h in and-true (loops_share ds (flipped a)) (loops_share ds (flipped b)) (shared a (first-of a b g) u.0) (shared b (second-of a b g) u.1)
  shared (Foreach k at hd mask body) g h = each-loop (λ s. loops_share ds s ≡ true) k at hd mask body g (λ e. h) (λ j here i test inner e p. p.share)
  shared (For k at hd c s) g h = shared s (for-of k at hd c s g) h
  shared (If k c a b) g h = let u = both-true (loops_share ds a) (loops_share ds b) h in and-true (loops_share ds (flipped a)) (loops_share ds (flipped b)) (shared a (yes-of k c a b g) u.0) (shared b (no-of k c a b g) u.1)
  shared (While k at c s) g h = shared s (while-of k at c s g) h
  shared (Do k at s c) g h = shared s (do-of k at s c g) h
  shared s g h = h

  -- a loop that does not pull goes out
  stays-out : (n : ℕ) (mask : Expr) (body : Stmt) → is_cut has_a_way ds n mask body ≡ true → pulls n body ≡ false → is_cut goes_out ds n mask body ≡ true
  stays-out n mask (Foreach j here i test inner) h e = goes-as-it-is ds n mask j here i test inner h e
  stays-out n mask Skip h e = h
  stays-out n mask (Then a b) h e = h
  stays-out n mask (Declare j x d) h e = h
  stays-out n mask (DeclareEdge x y p) h e = h
  stays-out n mask (Assign j t d) h e = h
  stays-out n mask (Defer j t d) h e = h
  stays-out n mask (Combine j total r ts es) h e = h
  stays-out n mask (Group j p x q d) h e = h
  stays-out n mask (For j p x c s) h e = h
  stays-out n mask (If j c a b) h e = h
  stays-out n mask (While j p c s) h e = h
  stays-out n mask (Do j p s c) h e = h
  stays-out n mask (InBfs j p x c s) h e = h
  stays-out n mask (InBfsBoth j p x c s q d u) h e = h
  stays-out n mask (Return j p d) h e = h

  abbrev Out : Stmt → Type 0
  Out s = is_phase (is_cut goes_out ds) no_loop ds s ≡ true

  -- every loop goes out
  formed : (s : Stmt) → Given s → Out (flipped s)
  formed Skip g = g.form
  formed (Then a b) g = and-true (is_phase (is_cut goes_out ds) no_loop ds (flipped a)) (is_phase (is_cut goes_out ds) no_loop ds (flipped b)) (formed a (first-of a b g)) (formed b (second-of a b g))
  formed (Declare k x None) g = g.form
  formed (Declare k x (Some e)) g = g.form
  formed (DeclareEdge x y at) g = g.form
  formed (Assign k (T.Scalar x at) e) g = g.form
  formed (Assign k (T.Property x p at) e) g = g.form
  formed (Defer k t e) g = g.form
  formed (Combine k total r ts es) g = g.form
  formed (Group k at x p e) g = g.form
  formed (Foreach k at hd mask body) g =
      let c = cut-of k at hd mask body g in
      each-loop Out k at hd mask body g (λ e. and-true (is_nodes hd.domain) (is_cut goes_out ds hd.iterator mask body) c.0 (stays-out hd.iterator mask body c.1 e))
      (λ j here i test inner e p. and-true (is_nodes hd.domain) (is_cut goes_out ds i.iterator always (Foreach j here (flipped_head hd.iterator i) (joined mask test) inner)) c.0 (goes ds hd.iterator k mask j here i test inner p))
  formed (For k at hd c s) g = let q = both-true (is_told c) (is_phase (is_cut has_a_way ds) no_loop ds s) g.form in and-true (is_told c) (is_phase (is_cut goes_out ds) no_loop ds (flipped s)) q.0 (formed s (for-of k at hd c s g))
  formed (If k c a b) g =
      let q = both-true (is_told c) (is_phase (is_cut has_a_way ds) no_loop ds a && is_phase (is_cut has_a_way ds) no_loop ds b) g.form in
      and-true (is_told c) (is_phase (is_cut goes_out ds) no_loop ds (flipped a) && is_phase (is_cut goes_out ds) no_loop ds (flipped b)) q.0
      (and-true (is_phase (is_cut goes_out ds) no_loop ds (flipped a)) (is_phase (is_cut goes_out ds) no_loop ds (flipped b)) (formed a (yes-of k c a b g)) (formed b (no-of k c a b g)))
  formed (While k at c s) g = let q = both-true (is_told c) (is_phase (is_cut has_a_way ds) no_loop ds s) g.form in and-true (is_told c) (is_phase (is_cut goes_out ds) no_loop ds (flipped s)) q.0 (formed s (while-of k at c s g))
  formed (Do k at s c) g = let q = both-true (is_phase (is_cut has_a_way ds) no_loop ds s) (is_told c) g.form in and-true (is_phase (is_cut goes_out ds) no_loop ds (flipped s)) (is_told c) (formed s (do-of k at s c g)) q.1
  formed (InBfs k at hd c s) g = none g.form
  formed (InBfsBoth k at hd c s bk d back) g = none g.form
  formed (Return k at e) g = g.form

  -- a phase runs as it did
  module _ (graph : NumberedGraph) (bound : ℕ) (is : IsGraph graph) where
    abbrev run : Run
    run = record { graph = graph; declarations = ds; bound = bound }

    same : (s : Stmt) → Given s → (u : State) → sequential (flipped s) run u ≡ sequential s run u
    same (Then a b) g u = then_do-both (sequential (flipped a) run u) (sequential a run u) (sequential (flipped b) run) (sequential b run) (same a (first-of a b g) u) (same b (second-of a b g))
    same (Foreach k at hd mask body) g u =
        each-loop (λ s. sequential s run u ≡ sequential (Foreach k at hd mask body) run u) k at hd mask body g (λ e. refl)
        (λ j here i test inner e p. turned-same run k j at here hd i test inner is mask u p.turnable ∙ ap (λ s. sequential (Foreach k at hd mask s) run u) (sym e))
    same (For k at hd c s) g u =
        in_turns-each run (nodes graph) _ _ (λ n v.
        let w : State = record v { store = write v.store (Scalar hd.iterator) (At (Some n)) } in
        with_value-each (value c (view_of run w k)) _ _ (λ y. either_way-each (is_true y) (sequential (flipped s) run) (sequential s run) Goes Goes w (same s (for-of k at hd c s g)) (λ z. refl))) u
    same (If k c a b) g u =
        with_value-each (value c (view_of run u k)) _ _ (λ v. either_way-each (is_true v) (sequential (flipped a) run) (sequential a run) (sequential (flipped b) run) (sequential b run) u (same a (yes-of k c a b g)) (same b (no-of k c a b g)))
    same (While k at c s) g u = repeated-each (suc bound) run (λ v. value c (view_of run v k)) (sequential (flipped s) run) (sequential s run) (same s (while-of k at c s g)) u
    same (Do k at s c) g u =
        begin_turn-each run _ _ (λ v. then_do-both (sequential (flipped s) run v) (sequential s run v) _ _ (same s (do-of k at s c g) v)
        (repeated-each (suc bound) run (λ w. value c (view_of run w k)) (sequential (flipped s) run) (sequential s run) (same s (do-of k at s c g)))) u
    same s g u = refl

-- a program that is cut means the same without the loops that pull
pub same-without_pulls : (p : Program) → Ready3 p → SameMeaning p (without_pulls p)
same-without_pulls p ready = record {
  fits = λ g args h. record { graph = h.graph; scalars = h.scalars; nodes = h.nodes; edges = h.edges };
  same = λ g args bound h. ap (outcome_of p g bound) (same p.declarations g bound h.graph p.body (record { form = ready.form; in_order = ready.sane.ordered; share = ready.sane.race_free }) (record { store = first_store p g args; turns = 0 }));
}

-- and it is flipped
pub ready-without_pulls : (p : Program) → Ready3 p → Ready4 (without_pulls p)
ready-without_pulls p ready =
    let ds = p.declarations in
    let g : Given ds p.body = record { form = ready.form; in_order = ready.sane.ordered; share = ready.sane.race_free } in
    let n = both-true (nat_le (p.inputs + p.outputs) (length ds)) (list_all (suits ds) (uses_of p.body)) ready.sane.named in
    record {
      sane = record {
        named = and-true (nat_le (p.inputs + p.outputs) (length ds)) (list_all (suits ds) (uses_of (flipped p.body))) n.0 (named ds p.body g n.1);
        typed = typed ds p.result p.body g ready.sane.typed;
        ordered = ordered ds p.body g ready.sane.ordered;
        race_free = shared ds p.body g ready.sane.race_free;
      };
      form = formed ds p.body g;
    }
