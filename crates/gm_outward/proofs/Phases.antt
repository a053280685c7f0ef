-- A program that asks at nodes first what it can means the same, keeps what every pass keeps, and stays in its form.
use Rattle.std.proofs.Common.{◌≡◌, suc, ℕ, Bool, true, false, cond, List, [], ◌∷◌, ◌++◌, length, refl, sym, ap, ◌∙◌, Option, Some, None}
use Rattle.std.specs.Prelude.{◌+◌, ◌&&◌, ◌||◌, nat_lt, nat_le}
use Rattle.std.specs.List.{list_all}
use Rattle.gm_base.specs.declared.places.Place.{Place}
use Rattle.gm_value.specs.declared.values.VType.{VType}
use Rattle.gm_value.specs.declared.values.VType.TheVariants.{Flag}
use Rattle.gm_value.specs.declared.values.Value.TheVariants.{At}
use Rattle.gm_value.specs.Operations.{is_true}
use Rattle.gm_model.specs.Graphs.{NumberedGraph, IsGraph}
use Rattle.gm_ast.specs.declared.tree.Declaration.{Declaration}
use Rattle.gm_ast.specs.declared.tree.Domain.{Domain}
use Rattle.gm_ast.specs.declared.tree.Domain.TheVariants.{Nodes, OutNbrs, InNbrs, UpNbrs, DownNbrs}
use Rattle.gm_ast.specs.declared.tree.Head.{Head}
use Rattle.gm_ast.specs.declared.tree.Key.{Key}
use Rattle.gm_ast.specs.declared.tree.Sort.TheVariants as Sorts
use Rattle.gm_ast.specs.declared.tree.Target.TheVariants as T
use Rattle.gm_ast.specs.declared.tree.Variable.{Variable}
use Rattle.gm_ast.specs.Loops.{is_nodes}
use Rattle.gm_ast.specs.Names.{is, is_node_type}
use Rattle.gm_ast.specs.Program.{Expr, Both, always, Stmt, Skip, Then, Declare, DeclareEdge, Assign, Defer, Combine, Group, Foreach, For, If, While, Do, InBfs, InBfsBoth, Return, Program}
use Rattle.gm_semantics.specs.declared.slots.Slot.TheVariants.{Scalar}
use Rattle.gm_semantics.specs.Levels.{nodes}
use Rattle.gm_semantics.specs.Stores.{write}
use Rattle.gm_semantics.specs.Expressions.{value}
use Rattle.gm_semantics.specs.Statements.{Run, State, Goes, view_of, variable_at, sequential}
use Rattle.gm_semantics.specs.Outcomes.{outcome_of, first_store}
use Rattle.gm_forms.specs.Cut.{is_cut}
use Rattle.gm_forms.specs.Forms.{is_told, no_loop, is_phase, goes_out}
use Rattle.gm_forms.specs.Meanings.{SameMeaning}
use Rattle.gm_forms.specs.Order.{begins, loop_in_order, folds_in_order, loops_in_order}
use Rattle.gm_forms.specs.Ready.{Ready4}
use Rattle.gm_forms.specs.Sharing.{loops_share}
use Rattle.gm_forms.specs.Typing.{type_in, is_type, type_if, has_type, is_typed_in}
use Rattle.gm_forms.specs.Uses.{Iterates, Owner, Use, has_role, suits, use_as, owner_role, uses_in, uses_of_head, uses_of}
use Rattle.gm_forms.proofs.Courses.{then_do-both, with_value-each, either_way-each, begin_turn-each, repeated-each, in_turns-each}
use Rattle.gm_forms.proofs.Named.{both-true, all-append}
use Rattle.gm_forms.proofs.Weaker.{and-true}
use Rattle.gm_outward.specs.Gathered.{together, is_one_reduction, conditions, reduction, gathered}
use Rattle.gm_outward.specs.Outward.{is_outer, chosen, left, asked_mask, asked_body, asked_outward, outward}
use Rattle.gm_flip.proofs.Basics.{none}
use Rattle.gm_outward.proofs.Lone.{conditions-have, reduction-has}
use Rattle.gm_outward.proofs.Gathers.{gathered-same}
use Rattle.gm_outward.proofs.Gathering.{cut-new, order-new, share-new}
use Rattle.gm_outward.proofs.Masks.{together-has, left-has, chosen-of}
use Rattle.gm_outward.proofs.Sane.{Formed, formed-of, cut-asked, order-asked, share-asked}
use Rattle.gm_outward.proofs.Turns.{asked-same}

-- lists of uses suit as their parts do
append-true : {A : Type 0} (f : A → Bool) (xs ys : List A) → list_all f xs ≡ true → list_all f ys ≡ true → list_all f (xs ++ ys) ≡ true
append-true f [] ys h k = k
append-true f (x ∷ xs) ys h k = let r = both-true (f x) (list_all f xs) h in and-true (f x) (list_all f (xs ++ ys)) r.0 (append-true f xs ys r.1 k)

-- a loop over nodes that asks first
abbrev asked : Key → Place → Head → Expr → Stmt → Stmt
asked k at h mask body = Foreach k at h (asked_mask h.iterator mask body) (asked_body h.iterator body)

-- and gathers the conditions of its inner body before
abbrev asked_all : Key → Place → Head → Expr → Stmt → Stmt
asked_all k at h mask body = asked k at h mask (gathered body)

module _ (ds : List Declaration) where
  abbrev Suit : List Use → Type 0
  Suit us = list_all (suits ds) us ≡ true

  suit-both : (a b : Expr) → Suit (uses_in a) → Suit (uses_in b) → Suit (uses_in (Both a b))
  suit-both a b p q = append-true (suits ds) (uses_in a) (uses_in b) p q

  suit-halves : (a b : Expr) → Suit (uses_in (Both a b)) → Suit (uses_in a) × Suit (uses_in b)
  suit-halves a b h = all-append (suits ds) (uses_in a) (uses_in b) h

  abbrev Is : Expr → Type 0
  Is e = has_type ds Flag e ≡ true

  is-both : (a b : Expr) → Is a → Is b → Is (Both a b)
  is-both a b p q = ap (λ b. is_type Flag (type_if b Flag)) (and-true (is_type Flag (type_in ds a)) (is_type Flag (type_in ds b)) p q)

  is-halves : (a b : Expr) → Is (Both a b) → Is a × Is b
  is-halves a b h = both-true (is_type Flag (type_in ds a)) (is_type Flag (type_in ds b)) (by (is_type Flag (type_in ds a) && is_type Flag (type_in ds b)) h)
    where
      by : (c : Bool) → is_type Flag (type_if c Flag) ≡ true → c ≡ true
      by true e = refl
      by false e = none e

  asked-named : (k : Key) (at : Place) (h : Head) (mask : Expr) (j : Key) (here : Place) (i : Head) (test : Expr) (body : Stmt) →
      Suit (uses_of (Foreach k at h mask (Foreach j here i test body))) → Suit (uses_of (asked k at h mask (Foreach j here i test body)))
  asked-named k at h mask j here i test body s =
      let f = suits ds in
      let o = is_outer h.iterator i body in
      let a = all-append f (uses_of_head h) (uses_in mask ++ uses_of (Foreach j here i test body)) s in
      let b = all-append f (uses_in mask) (uses_of (Foreach j here i test body)) a.1 in
      let c = all-append f (uses_of_head i) (uses_in test ++ uses_of body) b.1 in
      let d = all-append f (uses_in test) (uses_of body) c.1 in
      append-true f (uses_of_head h) (uses_in (together mask (chosen o test)) ++ uses_of (Foreach j here i (left o test) body)) a.0
      (append-true f (uses_in (together mask (chosen o test))) (uses_of (Foreach j here i (left o test) body))
      (together-has (λ e. Suit (uses_in e)) refl suit-both mask (chosen o test) b.0 (chosen-of (λ e. Suit (uses_in e)) refl suit-both suit-halves o test d.0))
      (append-true f (uses_of_head i) (uses_in (left o test) ++ uses_of body) c.0 (append-true f (uses_in (left o test)) (uses_of body) (left-has (λ e. Suit (uses_in e)) refl suit-both suit-halves o test d.0) d.1)))

  asked-typed : (r : Option VType) (k : Key) (at : Place) (h : Head) (mask : Expr) (j : Key) (here : Place) (i : Head) (test : Expr) (body : Stmt) →
      is_typed_in ds r (Foreach k at h mask (Foreach j here i test body)) ≡ true → is_typed_in ds r (asked k at h mask (Foreach j here i test body)) ≡ true
  asked-typed r k at h mask j here i test body s =
      let o = is_outer h.iterator i body in
      let a = both-true (has_type ds Flag mask) (has_type ds Flag test && is_typed_in ds r body) s in
      let b = both-true (has_type ds Flag test) (is_typed_in ds r body) a.1 in
      and-true (has_type ds Flag (together mask (chosen o test))) (has_type ds Flag (left o test) && is_typed_in ds r body)
      (together-has Is refl is-both mask (chosen o test) a.0 (chosen-of Is refl is-both is-halves o test b.0))
      (and-true (has_type ds Flag (left o test)) (is_typed_in ds r body) (left-has Is refl is-both is-halves o test b.0) b.1)

  -- the parts of a body are used as they are declared
  suit-first : (a b : Stmt) → Suit (uses_of (Then a b)) → Suit (uses_of a)
  suit-first a b h = (all-append (suits ds) (uses_of a) (uses_of b) h).0

  suit-second : (a b : Stmt) → Suit (uses_of (Then a b)) → Suit (uses_of b)
  suit-second a b h = (all-append (suits ds) (uses_of a) (uses_of b) h).1

  suit-yes : (k : Key) (c : Expr) (a b : Stmt) → Suit (uses_of (If k c a b)) → Suit (uses_of a)
  suit-yes k c a b h = suit-first a b (all-append (suits ds) (uses_in c) (uses_of a ++ uses_of b) h).1

  gathered-named : (k : Key) (at : Place) (h : Head) (mask : Expr) (j : Key) (here : Place) (i : Head) (test : Expr) (body : Stmt) → is_one_reduction body ≡ true →
      Suit (uses_of (Foreach k at h mask (Foreach j here i test body))) → Suit (uses_of (Foreach k at h mask (Foreach j here i (together test (conditions body)) (reduction body))))
  gathered-named k at h mask j here i test body l s =
      let f = suits ds in
      let a = all-append f (uses_of_head h) (uses_in mask ++ uses_of (Foreach j here i test body)) s in
      let b = all-append f (uses_in mask) (uses_of (Foreach j here i test body)) a.1 in
      let c = all-append f (uses_of_head i) (uses_in test ++ uses_of body) b.1 in
      let d = all-append f (uses_in test) (uses_of body) c.1 in
      let test' = together test (conditions body) in
      append-true f (uses_of_head h) (uses_in mask ++ uses_of (Foreach j here i test' (reduction body))) a.0
      (append-true f (uses_in mask) (uses_of (Foreach j here i test' (reduction body))) b.0
      (append-true f (uses_of_head i) (uses_in test' ++ uses_of (reduction body)) c.0
      (append-true f (uses_in test') (uses_of (reduction body))
      (together-has (λ e. Suit (uses_in e)) refl suit-both test (conditions body) d.0
      (conditions-have (λ s. Suit (uses_of s)) suit-first suit-second suit-yes (λ e. Suit (uses_in e)) refl suit-both (λ k c a b q h. (all-append (suits ds) (uses_in c) (uses_of a ++ uses_of b) h).0) body l d.1))
      (reduction-has (λ s. Suit (uses_of s)) suit-first suit-second suit-yes body l d.1))))

  -- and have types
  module _ (r : Option VType) where
    abbrev Typed : Stmt → Type 0
    Typed s = is_typed_in ds r s ≡ true

    typed-yes : (k : Key) (c : Expr) (a b : Stmt) → Typed (If k c a b) → Typed a
    typed-yes k c a b h = (both-true (is_typed_in ds r a) (is_typed_in ds r b) (both-true (has_type ds Flag c) (is_typed_in ds r a && is_typed_in ds r b) h).1).0

    gathered-typed : (k : Key) (at : Place) (h : Head) (mask : Expr) (j : Key) (here : Place) (i : Head) (test : Expr) (body : Stmt) → is_one_reduction body ≡ true →
        Typed (Foreach k at h mask (Foreach j here i test body)) → Typed (Foreach k at h mask (Foreach j here i (together test (conditions body)) (reduction body)))
    gathered-typed k at h mask j here i test body l s =
        let a = both-true (has_type ds Flag mask) (has_type ds Flag test && is_typed_in ds r body) s in
        let b = both-true (has_type ds Flag test) (is_typed_in ds r body) a.1 in
        let first = λ (x y : Stmt) (h : Typed (Then x y)). (both-true (is_typed_in ds r x) (is_typed_in ds r y) h).0 in
        let second = λ (x y : Stmt) (h : Typed (Then x y)). (both-true (is_typed_in ds r x) (is_typed_in ds r y) h).1 in
        and-true (has_type ds Flag mask) (has_type ds Flag (together test (conditions body)) && is_typed_in ds r (reduction body)) a.0
        (and-true (has_type ds Flag (together test (conditions body))) (is_typed_in ds r (reduction body))
        (together-has Is refl is-both test (conditions body) b.0 (conditions-have Typed first second typed-yes Is refl is-both (λ k c x y q h. (both-true (has_type ds Flag c) (is_typed_in ds r x && is_typed_in ds r y) h).0) body l b.1))
        (reduction-has Typed first second typed-yes body l b.1))

  -- what is known of a phase
  record Given (s : Stmt) : Type 0 where
    form : is_phase (is_cut goes_out ds) no_loop ds s ≡ true
    in_order : loops_in_order s ≡ true
    share : loops_share ds s ≡ true

  first-of : (a b : Stmt) → Given (Then a b) → Given a
  first-of a b g = record { form = (both-true (is_phase (is_cut goes_out ds) no_loop ds a) (is_phase (is_cut goes_out ds) no_loop ds b) g.form).0; in_order = (both-true (loops_in_order a) (loops_in_order b) g.in_order).0; share = (both-true (loops_share ds a) (loops_share ds b) g.share).0 }

  second-of : (a b : Stmt) → Given (Then a b) → Given b
  second-of a b g = record { form = (both-true (is_phase (is_cut goes_out ds) no_loop ds a) (is_phase (is_cut goes_out ds) no_loop ds b) g.form).1; in_order = (both-true (loops_in_order a) (loops_in_order b) g.in_order).1; share = (both-true (loops_share ds a) (loops_share ds b) g.share).1 }

  both-of : (k : Key) (c : Expr) (a b : Stmt) → Given (If k c a b) → Given (Then a b)
  both-of k c a b g = record { form = (both-true (is_told c) (is_phase (is_cut goes_out ds) no_loop ds a && is_phase (is_cut goes_out ds) no_loop ds b) g.form).1; in_order = (both-true (folds_in_order c) (loops_in_order a && loops_in_order b) g.in_order).1; share = g.share }

  yes-of : (k : Key) (c : Expr) (a b : Stmt) → Given (If k c a b) → Given a
  yes-of k c a b g = first-of a b (both-of k c a b g)

  no-of : (k : Key) (c : Expr) (a b : Stmt) → Given (If k c a b) → Given b
  no-of k c a b g = second-of a b (both-of k c a b g)

  for-of : (k : Key) (at : Place) (h : Head) (c : Expr) (s : Stmt) → Given (For k at h c s) → Given s
  for-of k at h c s g = record { form = (both-true (is_told c) (is_phase (is_cut goes_out ds) no_loop ds s) g.form).1; in_order = (both-true (folds_in_order c) (loops_in_order s) g.in_order).1; share = g.share }

  while-of : (k : Key) (at : Place) (c : Expr) (s : Stmt) → Given (While k at c s) → Given s
  while-of k at c s g = record { form = (both-true (is_told c) (is_phase (is_cut goes_out ds) no_loop ds s) g.form).1; in_order = (both-true (folds_in_order c) (loops_in_order s) g.in_order).1; share = g.share }

  do-of : (k : Key) (at : Place) (s : Stmt) (c : Expr) → Given (Do k at s c) → Given s
  do-of k at s c g = record { form = (both-true (is_phase (is_cut goes_out ds) no_loop ds s) (is_told c) g.form).0; in_order = (both-true (loops_in_order s) (folds_in_order c) g.in_order).0; share = g.share }

  -- the cut loop of a phase
  cut-of : (k : Key) (at : Place) (h : Head) (mask : Expr) (body : Stmt) → Given (Foreach k at h mask body) → (is_nodes h.domain ≡ true) × (is_cut goes_out ds h.iterator mask body ≡ true)
  cut-of k at h mask body g = both-true (is_nodes h.domain) (is_cut goes_out ds h.iterator mask body) g.form

  -- a loop of a phase keeps what it keeps where it gathers conditions and asks first, and where it stays
  module _ (Keeps : Stmt → Type 0) (k : Key) (at : Place) (h : Head) (mask : Expr) where
    abbrev Loop : Key → Place → Head → Expr → Stmt → Type 0
    Loop j here i test inner = Formed ds h.iterator k mask j here i test inner

    abbrev Asks : Type 0
    Asks = (j : Key) (here : Place) (i : Head) (test : Expr) (inner : Stmt) → Loop j here i test inner → Keeps (Foreach k at h mask (Foreach j here i test inner)) → Keeps (asked k at h mask (Foreach j here i test inner))

    abbrev Gathers : Type 0
    Gathers = (j : Key) (here : Place) (i : Head) (test : Expr) (inner : Stmt) → is_one_reduction inner ≡ true → Loop j here i test inner → Keeps (Foreach k at h mask (Foreach j here i test inner)) →
        Keeps (Foreach k at h mask (Foreach j here i (together test (conditions inner)) (reduction inner)))

    formed-loop : (j : Key) (here : Place) (i : Head) (test : Expr) (inner : Stmt) → Given (Foreach k at h mask (Foreach j here i test inner)) → Loop j here i test inner
    formed-loop j here i test inner g = formed-of ds h.iterator k mask j here i test inner (cut-of k at h mask (Foreach j here i test inner) g).1

    each-loop : (body : Stmt) → Given (Foreach k at h mask body) → Keeps (Foreach k at h mask body) → Gathers → Asks → Keeps (asked_all k at h mask body)
    each-loop (Foreach j here i test inner) g stays gathers asks = by (is_one_reduction inner) refl
      where
        f : Loop j here i test inner
        f = formed-loop j here i test inner g

        by : (b : Bool) → is_one_reduction inner ≡ b → Keeps (asked k at h mask (Foreach j here i (cond b (together test (conditions inner)) test) (cond b (reduction inner) inner)))
        by true l = asks j here i (together test (conditions inner)) (reduction inner)
            (formed-of ds h.iterator k mask j here i (together test (conditions inner)) (reduction inner) (cut-new ds h.iterator k mask j here i test inner l f)) (gathers j here i test inner l f stays)
        by false l = asks j here i test inner f stays
    each-loop Skip g stays gathers asks = stays
    each-loop (Then a b) g stays gathers asks = stays
    each-loop (Declare j x e) g stays gathers asks = stays
    each-loop (DeclareEdge x y p) g stays gathers asks = stays
    each-loop (Assign j t e) g stays gathers asks = stays
    each-loop (Defer j t e) g stays gathers asks = stays
    each-loop (Combine j total r ts es) g stays gathers asks = stays
    each-loop (Group j p x q e) g stays gathers asks = stays
    each-loop (For j p x c s) g stays gathers asks = stays
    each-loop (If j c a b) g stays gathers asks = stays
    each-loop (While j p c s) g stays gathers asks = stays
    each-loop (Do j p s c) g stays gathers asks = stays
    each-loop (InBfs j p x c s) g stays gathers asks = stays
    each-loop (InBfsBoth j p x c s q d u) g stays gathers asks = stays
    each-loop (Return j p e) g stays gathers asks = stays

  -- variables are used as they are declared
  named : (s : Stmt) → Given s → Suit (uses_of s) → Suit (uses_of (asked_outward s))
  named (Then a b) g h = let u = all-append (suits ds) (uses_of a) (uses_of b) h in append-true (suits ds) (uses_of (asked_outward a)) (uses_of (asked_outward b)) (named a (first-of a b g) u.0) (named b (second-of a b g) u.1)
  named (Foreach k at hd mask body) g h = each-loop (λ s. Suit (uses_of s)) k at hd mask body g h (λ j here i test inner l f s. gathered-named k at hd mask j here i test inner l s)
      (λ j here i test inner f s. asked-named k at hd mask j here i test inner s)
  named (For k at hd c s) g h =
      let u = all-append (suits ds) (uses_of_head hd) (uses_in c ++ uses_of s) h in
      let v = all-append (suits ds) (uses_in c) (uses_of s) u.1 in
      append-true (suits ds) (uses_of_head hd) (uses_in c ++ uses_of (asked_outward s)) u.0 (append-true (suits ds) (uses_in c) (uses_of (asked_outward s)) v.0 (named s (for-of k at hd c s g) v.1))
  named (If k c a b) g h =
      let u = all-append (suits ds) (uses_in c) (uses_of a ++ uses_of b) h in
      let v = all-append (suits ds) (uses_of a) (uses_of b) u.1 in
      append-true (suits ds) (uses_in c) (uses_of (asked_outward a) ++ uses_of (asked_outward b)) u.0 (append-true (suits ds) (uses_of (asked_outward a)) (uses_of (asked_outward b)) (named a (yes-of k c a b g) v.0) (named b (no-of k c a b g) v.1))
  named (While k at c s) g h = let u = all-append (suits ds) (uses_in c) (uses_of s) h in append-true (suits ds) (uses_in c) (uses_of (asked_outward s)) u.0 (named s (while-of k at c s g) u.1)
  named (Do k at s c) g h = let u = all-append (suits ds) (uses_of s) (uses_in c) h in append-true (suits ds) (uses_of (asked_outward s)) (uses_in c) (named s (do-of k at s c g) u.0) u.1
  named s g h = h

  -- expressions have types
  typed : (r : Option VType) (s : Stmt) → Given s → is_typed_in ds r s ≡ true → is_typed_in ds r (asked_outward s) ≡ true
  typed r (Then a b) g h = let u = both-true (is_typed_in ds r a) (is_typed_in ds r b) h in and-true (is_typed_in ds r (asked_outward a)) (is_typed_in ds r (asked_outward b)) (typed r a (first-of a b g) u.0) (typed r b (second-of a b g) u.1)
  typed r (Foreach k at hd mask body) g h = each-loop (λ s. is_typed_in ds r s ≡ true) k at hd mask body g h (λ j here i test inner l f s. gathered-typed r k at hd mask j here i test inner l s)
      (λ j here i test inner f s. asked-typed r k at hd mask j here i test inner s)
  typed r (For k at hd c s) g h = let u = both-true (has_type ds Flag c) (is_typed_in ds r s) h in and-true (has_type ds Flag c) (is_typed_in ds r (asked_outward s)) u.0 (typed r s (for-of k at hd c s g) u.1)
  typed r (If k c a b) g h =
      let u = both-true (has_type ds Flag c) (is_typed_in ds r a && is_typed_in ds r b) h in
      let v = both-true (is_typed_in ds r a) (is_typed_in ds r b) u.1 in
      and-true (has_type ds Flag c) (is_typed_in ds r (asked_outward a) && is_typed_in ds r (asked_outward b)) u.0 (and-true (is_typed_in ds r (asked_outward a)) (is_typed_in ds r (asked_outward b)) (typed r a (yes-of k c a b g) v.0) (typed r b (no-of k c a b g) v.1))
  typed r (While k at c s) g h = let u = both-true (has_type ds Flag c) (is_typed_in ds r s) h in and-true (has_type ds Flag c) (is_typed_in ds r (asked_outward s)) u.0 (typed r s (while-of k at c s g) u.1)
  typed r (Do k at s c) g h = let u = both-true (is_typed_in ds r s) (has_type ds Flag c) h in and-true (is_typed_in ds r (asked_outward s)) (has_type ds Flag c) (typed r s (do-of k at s c g) u.0) u.1
  typed r s g h = h

  -- the faults of loops stand in order
  ordered : (s : Stmt) → Given s → loops_in_order s ≡ true → loops_in_order (asked_outward s) ≡ true
  ordered (Then a b) g h = let u = both-true (loops_in_order a) (loops_in_order b) h in and-true (loops_in_order (asked_outward a)) (loops_in_order (asked_outward b)) (ordered a (first-of a b g) u.0) (ordered b (second-of a b g) u.1)
  ordered (Foreach k at hd mask body) g h = each-loop (λ s. loops_in_order s ≡ true) k at hd mask body g h (λ j here i test inner l f s. order-new ds hd.iterator k mask j here i test inner l f hd.place s)
      (λ j here i test inner f s. order-asked ds hd.iterator k mask j here i test inner f hd.place s)
  ordered (For k at hd c s) g h = let u = both-true (folds_in_order c) (loops_in_order s) h in and-true (folds_in_order c) (loops_in_order (asked_outward s)) u.0 (ordered s (for-of k at hd c s g) u.1)
  ordered (If k c a b) g h =
      let u = both-true (folds_in_order c) (loops_in_order a && loops_in_order b) h in
      let v = both-true (loops_in_order a) (loops_in_order b) u.1 in
      and-true (folds_in_order c) (loops_in_order (asked_outward a) && loops_in_order (asked_outward b)) u.0 (and-true (loops_in_order (asked_outward a)) (loops_in_order (asked_outward b)) (ordered a (yes-of k c a b g) v.0) (ordered b (no-of k c a b g) v.1))
  ordered (While k at c s) g h = let u = both-true (folds_in_order c) (loops_in_order s) h in and-true (folds_in_order c) (loops_in_order (asked_outward s)) u.0 (ordered s (while-of k at c s g) u.1)
  ordered (Do k at s c) g h = let u = both-true (loops_in_order s) (folds_in_order c) h in and-true (loops_in_order (asked_outward s)) (folds_in_order c) (ordered s (do-of k at s c g) u.0) u.1
  ordered s g h = h

  -- the iterations of loops share what ends with them
  shared : (s : Stmt) → Given s → loops_share ds s ≡ true → loops_share ds (asked_outward s) ≡ true
  shared (Then a b) g h = let u = both-true (loops_share ds a) (loops_share ds b) h in and-true (loops_share ds (asked_outward a)) (loops_share ds (asked_outward b)) (shared a (first-of a b g) u.0) (shared b (second-of a b g) u.1)
  shared (Foreach k at hd mask body) g h = each-loop (λ s. loops_share ds s ≡ true) k at hd mask body g h (λ j here i test inner l f s. share-new ds hd.iterator k mask j here i test inner l f s)
      (λ j here i test inner f s. share-asked ds hd.iterator k mask j here i test inner f s)
  shared (For k at hd c s) g h = shared s (for-of k at hd c s g) h
  shared (If k c a b) g h = let u = both-true (loops_share ds a) (loops_share ds b) h in and-true (loops_share ds (asked_outward a)) (loops_share ds (asked_outward b)) (shared a (yes-of k c a b g) u.0) (shared b (no-of k c a b g) u.1)
  shared (While k at c s) g h = shared s (while-of k at c s g) h
  shared (Do k at s c) g h = shared s (do-of k at s c g) h
  shared s g h = h

  abbrev Out : Stmt → Type 0
  Out s = is_phase (is_cut goes_out ds) no_loop ds s ≡ true

  -- each loop keeps its form
  formed : (s : Stmt) → Given s → Out (asked_outward s)
  formed Skip g = g.form
  formed (Then a b) g = and-true (is_phase (is_cut goes_out ds) no_loop ds (asked_outward a)) (is_phase (is_cut goes_out ds) no_loop ds (asked_outward b)) (formed a (first-of a b g)) (formed b (second-of a b g))
  formed (Declare k x None) g = g.form
  formed (Declare k x (Some e)) g = g.form
  formed (DeclareEdge x y at) g = g.form
  formed (Assign k (T.Scalar x at) e) g = g.form
  formed (Assign k (T.Property x p at) e) g = g.form
  formed (Defer k t e) g = g.form
  formed (Combine k total r ts es) g = g.form
  formed (Group k at x p e) g = g.form
  formed (Foreach k at hd mask body) g =
      let nodes_of = (cut-of k at hd mask body g).0 in
      each-loop Out k at hd mask body g g.form
      (λ j here i test inner l f s. and-true (is_nodes hd.domain) (is_cut goes_out ds hd.iterator mask (Foreach j here i (together test (conditions inner)) (reduction inner))) nodes_of (cut-new ds hd.iterator k mask j here i test inner l f))
      (λ j here i test inner f s. and-true (is_nodes hd.domain) (is_cut goes_out ds hd.iterator (together mask (chosen (is_outer hd.iterator i inner) test)) (Foreach j here i (left (is_outer hd.iterator i inner) test) inner))
      nodes_of (cut-asked ds hd.iterator k mask j here i test inner f))
  formed (For k at hd c s) g = let q = both-true (is_told c) (is_phase (is_cut goes_out ds) no_loop ds s) g.form in and-true (is_told c) (is_phase (is_cut goes_out ds) no_loop ds (asked_outward s)) q.0 (formed s (for-of k at hd c s g))
  formed (If k c a b) g =
      let q = both-true (is_told c) (is_phase (is_cut goes_out ds) no_loop ds a && is_phase (is_cut goes_out ds) no_loop ds b) g.form in
      and-true (is_told c) (is_phase (is_cut goes_out ds) no_loop ds (asked_outward a) && is_phase (is_cut goes_out ds) no_loop ds (asked_outward b)) q.0
      (and-true (is_phase (is_cut goes_out ds) no_loop ds (asked_outward a)) (is_phase (is_cut goes_out ds) no_loop ds (asked_outward b)) (formed a (yes-of k c a b g)) (formed b (no-of k c a b g)))
  formed (While k at c s) g = let q = both-true (is_told c) (is_phase (is_cut goes_out ds) no_loop ds s) g.form in and-true (is_told c) (is_phase (is_cut goes_out ds) no_loop ds (asked_outward s)) q.0 (formed s (while-of k at c s g))
  formed (Do k at s c) g = let q = both-true (is_phase (is_cut goes_out ds) no_loop ds s) (is_told c) g.form in and-true (is_phase (is_cut goes_out ds) no_loop ds (asked_outward s)) (is_told c) (formed s (do-of k at s c g)) q.1
  formed (InBfs k at hd c s) g = none g.form
  formed (InBfsBoth k at hd c s bk d back) g = none g.form
  formed (Return k at e) g = g.form

  -- a phase runs as it did
  module _ (graph : NumberedGraph) (bound : ℕ) (is : IsGraph graph) where
    abbrev run : Run
    run = record { graph = graph; declarations = ds; bound = bound }

    same : (s : Stmt) → Given s → (u : State) → sequential (asked_outward s) run u ≡ sequential s run u
    same (Then a b) g u = then_do-both (sequential (asked_outward a) run u) (sequential a run u) (sequential (asked_outward b) run) (sequential b run) (same a (first-of a b g) u) (same b (second-of a b g))
    same (Foreach k at hd mask body) g u =
        each-loop (λ s. sequential s run u ≡ sequential (Foreach k at hd mask body) run u) k at hd mask body g refl
        (λ j here i test inner l f s. gathered-same run k j at here hd i test inner is f.askable.apart f.inner_body l mask u ∙ s)
        (λ j here i test inner f s. asked-same run k j at here hd i test inner is mask u f.askable ∙ s)
    same (For k at hd c s) g u =
        in_turns-each run (nodes graph) _ _ (λ n v.
        let w : State = record v { store = write v.store (Scalar hd.iterator) (At (Some n)) } in
        with_value-each (value c (view_of run w k)) _ _ (λ y. either_way-each (is_true y) (sequential (asked_outward s) run) (sequential s run) Goes Goes w (same s (for-of k at hd c s g)) (λ z. refl))) u
    same (If k c a b) g u =
        with_value-each (value c (view_of run u k)) _ _ (λ v. either_way-each (is_true v) (sequential (asked_outward a) run) (sequential a run) (sequential (asked_outward b) run) (sequential b run) u (same a (yes-of k c a b g)) (same b (no-of k c a b g)))
    same (While k at c s) g u = repeated-each (suc bound) run (λ v. value c (view_of run v k)) (sequential (asked_outward s) run) (sequential s run) (same s (while-of k at c s g)) u
    same (Do k at s c) g u =
        begin_turn-each run _ _ (λ v. then_do-both (sequential (asked_outward s) run v) (sequential s run v) _ _ (same s (do-of k at s c g) v)
        (repeated-each (suc bound) run (λ w. value c (view_of run w k)) (sequential (asked_outward s) run) (sequential s run) (same s (do-of k at s c g)))) u
    same s g u = refl

-- a program in the last form means the same where it asks first
pub same-outward : (p : Program) → Ready4 p → SameMeaning p (outward p)
same-outward p ready = record {
  fits = λ g args h. record { graph = h.graph; scalars = h.scalars; nodes = h.nodes; edges = h.edges };
  same = λ g args bound h. ap (outcome_of p g bound) (same p.declarations g bound h.graph p.body (record { form = ready.form; in_order = ready.sane.ordered; share = ready.sane.race_free }) (record { store = first_store p g args; turns = 0 }));
}

-- and it stays in that form
pub ready-outward : (p : Program) → Ready4 p → Ready4 (outward p)
ready-outward p ready =
    let ds = p.declarations in
    let g : Given ds p.body = record { form = ready.form; in_order = ready.sane.ordered; share = ready.sane.race_free } in
    let n = both-true (nat_le (p.inputs + p.outputs) (length ds)) (list_all (suits ds) (uses_of p.body)) ready.sane.named in
    record {
      sane = record {
        named = and-true (nat_le (p.inputs + p.outputs) (length ds)) (list_all (suits ds) (uses_of (asked_outward p.body))) n.0 (named ds p.body g n.1);
        typed = typed ds p.result p.body g ready.sane.typed;
        ordered = ordered ds p.body g ready.sane.ordered;
        race_free = shared ds p.body g ready.sane.race_free;
      };
      form = formed ds p.body g;
    }
