-- A sequential phase with its accesses as checks and loops keeps what every pass keeps.
use Rattle.std.proofs.Common.{◌≡◌, ◌≤◌, ◌<◌, ◌++◌, ℕ, Bool, true, false, List, [], ◌∷◌, length, refl, sym, ap, ◌∙◌, arith, Option, Some}
use Rattle.std.specs.Prelude.{not, ◌&&◌, ◌||◌, nat_eq, nat_le, nat_lt}
use Rattle.std.specs.List.{list_all}
use Rattle.std.proofs.lemmas.Bool.{both_ways, eq-eqb, ne_eqb, lt-ltb, le-leb}
use Rattle.gm_base.specs.declared.places.Place.{Place}
use Rattle.gm_value.specs.declared.values.VType.{VType}
use Rattle.gm_value.specs.declared.values.VType.TheVariants as V
use Rattle.gm_value.specs.Operations.{same_type}
use Rattle.gm_value.specs.Reductions.{reduces}
use Rattle.gm_ast.specs.declared.tree.Declaration.{Declaration}
use Rattle.gm_ast.specs.declared.tree.Direction.{Direction}
use Rattle.gm_ast.specs.declared.tree.Key.{Key}
use Rattle.gm_ast.specs.declared.tree.Sort.{Sort}
use Rattle.gm_ast.specs.declared.tree.Sort.TheVariants as Sorts
use Rattle.gm_ast.specs.declared.tree.Target.TheVariants as T
use Rattle.gm_ast.specs.declared.tree.Variable.{Variable}
use Rattle.gm_ast.specs.Names.{is, sort_eq}
use Rattle.gm_ast.specs.Program.{Expr, Var, Property, Degree, Live, Stmt, Skip, Then, Declare, Assign, For, If, While, Do, sequence}
use Rattle.gm_ast.specs.Ways.{is_in}
use Rattle.gm_semantics.specs.Expressions.{reduce_of}
use Rattle.gm_semantics.specs.Frames.{NamesBelow}
use Rattle.gm_semantics.specs.Outcomes.{is_of}
use Rattle.gm_semantics.specs.Statements.{variable_at}
use Rattle.gm_forms.specs.Forms.{depth_at, is_told}
use Rattle.gm_forms.specs.Order.{second_key, folds_in_order}
use Rattle.gm_forms.specs.Ready.{is_outer_expr, is_outer_code, is_phase_expr}
use Rattle.gm_forms.specs.Typing.{type_at, type_if, is_type, takes, type_in, has_type, is_typed_in}
use Rattle.gm_forms.specs.Uses.{Role, Iterates, Written, Told, Owner, NodeValue, Anything, has_role, owner_role, suits, use_as, uses_in, uses_of_head, uses_of}
use Rattle.gm_forms.proofs.Named.{both-true, all-append}
use Rattle.gm_forms.proofs.Weaker.{and-true}
use Rattle.gm_typed_stores.specs.Tells.{TypeTable, holds, takes_nodes, tells, tells_in}
use Rattle.gm_desugar.specs.Conditions.{nowhere, fresh, set_to}
use Rattle.gm_desugar.specs.Literals.{has_literals}
use Rattle.gm_desugar.specs.Reads.{names, is_read, has_reads_apart}
use Rattle.gm_desugar.proofs.Replacing.{append-true, type-itself}
use Rattle.gm_reductions.specs.declared.accesses.Fresh.{Fresh}
use Rattle.gm_reductions.specs.Accesses.{an_iterator, holder, all_nodes, is_there, word_for, one_node, compared, checks, after_check, write_there, by_loops, has_no_accesses}
use Rattle.gm_reductions.specs.Keys.{rises}
use Rattle.gm_reductions.specs.Phases.{has_no_picks}
use Rattle.gm_reductions.proofs.AccessesLaws.{Beyond}
use Rattle.gm_reductions.proofs.Known.{IsIterator, AreIterators, one-more, no-scalar, Kept, then-parts, then-kept, if-parts, if-kept, while-parts, while-kept, do-parts, do-kept, for-parts, for-kept}

takes-itself : (t : VType) → takes (word_for t) t ≡ t
takes-itself V.I32 = refl
takes-itself V.I64 = refl
takes-itself V.Flag = refl
takes-itself V.Node = refl

reduces-itself : (t : VType) → reduces (reduce_of (word_for t)) t ≡ true
reduces-itself V.I32 = refl
reduces-itself V.I64 = refl
reduces-itself V.Flag = refl
reduces-itself V.Node = refl

either-right : (a b : Bool) → b ≡ true → a || b ≡ true
either-right true b h = refl
either-right false b h = h

either-left : (a b : Bool) → a ≡ true → a || b ≡ true
either-left true b h = refl
either-left false b h = absurd (both_ways false refl h)

-- no variable is a scalar and a property
no-sort : (s : Sort) → sort_eq Sorts.Scalar s ≡ true → sort_eq Sorts.NodeProperty s ≡ true → ⊥
no-sort Sorts.Graph h k = both_ways false refl h
no-sort Sorts.Iterator h k = both_ways false refl h
no-sort Sorts.Scalar h k = both_ways false refl k
no-sort Sorts.Edge h k = both_ways false refl h
no-sort Sorts.NodeProperty h k = both_ways false refl h
no-sort Sorts.EdgeProperty h k = both_ways false refl h

-- the added variables stand in the table as they were added
module _ (es : List Declaration) where
  abbrev pub Stand : ℕ → Variable → Type 0
  Stand x v = (x < length es) × (variable_at es x ≡ v)

  pub record Stands (f : Fresh) : Type 0 where
    pub checked : Stand f.checked (fresh V.Node).variable
    pub iterator : Stand f.iterator an_iterator.variable
    pub held : (t : VType) → Stand (holder f t) (fresh t).variable

module _ (table : TypeTable) (res : Option VType) (k : ℕ) (few : table.inputs ≤ k) (ds : List Declaration) (types : (x : ℕ) → x < k → type_at ds x ≡ type_at table.declarations x) (f : Fresh) (beyond : Beyond k f) (stands : Stands table.declarations f) where
  abbrev es : List Declaration
  es = table.declarations

  abbrev i : ℕ
  i = f.iterator

  suited : (x : ℕ) (v : Variable) (role : Role) → Stand es x v → has_role v role ≡ true → list_all (suits es) (use_as role x) ≡ true
  suited x v role h r = and-true (suits es (record { variable = x; role = role })) true (and-true (nat_lt x (length es)) (has_role (variable_at es x) role) (lt-ltb x (length es) h.0) (ap (λ v. has_role v role) h.1 ∙ r)) refl

  above : (x : ℕ) → k ≤ x → nat_le table.inputs x ≡ true
  above x l = le-leb table.inputs x (omega arith)

  held-type : (t : VType) → type_at es (holder f t) ≡ t
  held-type t = ap (λ (v : Variable). v.vtype) (stands.held t).1

  tells-added : (its : List ℕ) (x : ℕ) → k ≤ x → holds table its x ≡ true
  tells-added its x l = either-right (is_of es Sorts.Scalar x) (nat_le table.inputs x || is_in its x) (either-left (nat_le table.inputs x) (is_in its x) (above x l))

  takes-iterator : takes_nodes table i ≡ true
  takes-iterator = ap (λ (v : Variable). same_type V.Node v.vtype) stands.iterator.1

  -- the check, and nothing
  check-kept : (its : List ℕ) (key : Key) (y : ℕ) (at : Place) → list_all (suits es) (use_as Owner y) ≡ true → Kept table res its (set_to f.checked key (Live y at))
  check-kept its key y at n = record {
    named = append-true (suits es) (use_as Written f.checked) (use_as Owner y) (suited f.checked (fresh V.Node).variable Written stands.checked refl) n;
    typed = ap (λ (v : Variable). is_type v.vtype (Some V.Node)) stands.checked.1;
    ordered = refl;
    share = refl;
    form = and-true (nat_le (depth_at es f.checked) 0) true (ap (λ (v : Variable). nat_le v.depth 0) stands.checked.1) refl;
    groups = refl;
    compounds = refl;
    literals = refl;
    conditions = refl;
    apart = refl;
    rising = refl;
    tells = refl;
  }

  skip-kept : (its : List ℕ) → Kept table res its Skip
  skip-kept its = record { named = refl; typed = refl; ordered = refl; share = refl; form = refl; groups = refl; compounds = refl; literals = refl; conditions = refl; apart = refl; rising = refl; tells = refl }

  -- ---- the variable that holds the node

  other : (x y : ℕ) → x < k → k ≤ y → nat_eq y x ≡ false
  other x y l h = ne_eqb y x (λ e. omega arith)

  -- what is known of it
  record Compared (its : List ℕ) (c : ℕ) : Type 0 where
    told : list_all (suits es) (use_as Told c) ≡ true
    takes_it : takes_nodes table c ≡ true
    holds_it : holds table (i ∷ its) c ≡ true
    apart : (x : ℕ) → x < k → list_all (suits es) (use_as Written x) ≡ true → nat_eq c x ≡ false

  checked-compared : (its : List ℕ) → Compared its f.checked
  checked-compared its = record {
    told = suited f.checked (fresh V.Node).variable Told stands.checked refl;
    takes_it = ap (λ (v : Variable). same_type V.Node v.vtype) stands.checked.1;
    holds_it = tells-added (i ∷ its) f.checked beyond.checked;
    apart = λ x l h. other x f.checked l beyond.checked;
  }

  told-iterates : (v : Variable) → has_role v Iterates ≡ true → has_role v Told ≡ true
  told-iterates v h = either-right (is Sorts.Scalar v) (is Sorts.Iterator v || is Sorts.Graph v) h

  iterator-compared : (its : List ℕ) (y : ℕ) → is_in its y ≡ true → IsIterator table y → Compared its y
  iterator-compared its y among it =
      let s = both-true (suits es (record { variable = y; role = Iterates })) true it.named in
      let r = both-true (nat_lt y (length es)) (has_role (variable_at es y) Iterates) s.0 in
      record {
        told = and-true (suits es (record { variable = y; role = Told })) true (and-true (nat_lt y (length es)) (has_role (variable_at es y) Told) r.0 (told-iterates (variable_at es y) r.1)) refl;
        takes_it = it.takes;
        holds_it = either-right (is_of es Sorts.Scalar y) (nat_le table.inputs y || is_in (i ∷ its) y) (either-right (nat_le table.inputs y) (is_in (i ∷ its) y) (either-right (nat_eq y i) (is_in its y) among));
        apart = λ x l h.
            let w = both-true (nat_lt x (length es)) (has_role (variable_at es x) Written) (both-true (suits es (record { variable = x; role = Written })) true h).0 in
            ne_eqb y x (λ same. both_ways (is Sorts.Scalar (variable_at es y)) (no-scalar table y it) (ap (λ z. is Sorts.Scalar (variable_at es z)) same ∙ w.1));
      }

  all-compared : (its : List ℕ) → AreIterators table its → (b : Bool) (y : ℕ) → is_in its y ≡ b → Compared its (compared b f y)
  all-compared its known true y e = iterator-compared its y e (known y e)
  all-compared its known false y e = checked-compared its

  -- ---- the filter

  filter-named : list_all (suits es) (uses_of_head (all_nodes f)) ≡ true
  filter-named = append-true (suits es) (use_as Iterates i) (use_as Anything i) (suited i an_iterator.variable Iterates stands.iterator refl) (suited i an_iterator.variable Anything stands.iterator refl)

  test-named : (its : List ℕ) (c : ℕ) → Compared its c → list_all (suits es) (uses_in (is_there f c)) ≡ true
  test-named its c g = append-true (suits es) (use_as Told i) (use_as Told c) (suited i an_iterator.variable Told stands.iterator refl) g.told

  test-typed : (its : List ℕ) (c : ℕ) → Compared its c → type_in es (is_there f c) ≡ Some V.Flag
  test-typed its c g = ap (λ (v : Variable). type_if (same_type v.vtype (type_at es c)) V.Flag) stands.iterator.1 ∙ ap (λ b. type_if b V.Flag) g.takes_it

  test-tells : (its : List ℕ) (c : ℕ) → Compared its c → tells table (i ∷ its) (is_there f c) ≡ true
  test-tells its c g = and-true (holds table (i ∷ its) i) (holds table (i ∷ its) c) (tells-added (i ∷ its) i beyond.iterator) g.holds_it

  -- ---- a reduction over one node

  -- what is known of a reduction of the value of a type that a scalar is set to
  record Quiet (its : List ℕ) (t : VType) (x : ℕ) (e : Expr) : Type 0 where
    named : list_all (suits es) (uses_in e) ≡ true
    typed : type_in es e ≡ Some t
    ordered : folds_in_order e ≡ true
    form : is_phase_expr e ≡ true
    literals : has_literals e ≡ true
    alone : names x e ≡ false
    rising : rises e ≡ true
    tells_it : tells table its e ≡ true

  one-named : (its : List ℕ) (c : ℕ) → Compared its c → (t : VType) (e : Expr) → list_all (suits es) (uses_in e) ≡ true → list_all (suits es) (uses_in (one_node f c t e)) ≡ true
  one-named its c g t e n = append-true (suits es) (uses_of_head (all_nodes f)) (uses_in (is_there f c) ++ uses_in e) filter-named (append-true (suits es) (uses_in (is_there f c)) (uses_in e) (test-named its c g) n)

  one-typed : (its : List ℕ) (c : ℕ) → Compared its c → (t : VType) (e : Expr) → type_in es e ≡ Some t → type_in es (one_node f c t e) ≡ Some t
  one-typed its c g t e h =
      ap (λ o. type_if (is_type V.Flag o && (is_type (takes (word_for t) t) (type_in es e) && reduces (reduce_of (word_for t)) t)) t) (test-typed its c g)
      ∙ ap (λ b. type_if (b && reduces (reduce_of (word_for t)) t) t) (ap (λ u. is_type u (type_in es e)) (takes-itself t) ∙ ap (is_type t) h ∙ type-itself t)
      ∙ ap (λ b. type_if b t) (reduces-itself t)

  one-form : (c : ℕ) (t : VType) (e : Expr) → is_outer_expr false i e ≡ true → is_phase_expr (one_node f c t e) ≡ true
  one-form c t e h = h

  one-tells : (its : List ℕ) (c : ℕ) → Compared its c → (t : VType) (e : Expr) → tells table (i ∷ its) e ≡ true → tells table its (one_node f c t e) ≡ true
  one-tells its c g t e h =
      and-true (takes_nodes table i) (tells table (i ∷ its) (is_there f c) && tells table (i ∷ its) e) takes-iterator (and-true (tells table (i ∷ its) (is_there f c)) (tells table (i ∷ its) e) (test-tells its c g) h)

  one-alone : (c : ℕ) (t : VType) (x : ℕ) (e : Expr) → x < k → nat_eq c x ≡ false → names x e ≡ false → names x (one_node f c t e) ≡ false
  one-alone c t x e l g h =
      ap (λ b. b || ((b || nat_eq c x) || names x e)) (other x i l beyond.iterator) ∙ ap (λ b. b || names x e) g ∙ h

  property-order : (c : ℕ) (t : VType) (p : ℕ) → folds_in_order (one_node f c t (Property i p nowhere)) ≡ true
  property-order c V.I32 p = refl
  property-order c V.I64 p = refl
  property-order c V.Flag p = refl
  property-order c V.Node p = refl

  itself-in : is_in (i ∷ []) i ≡ true
  itself-in = ap (λ b. b || false) (eq-eqb i i refl)

  -- a scalar and a property are apart
  property-apart : (x p : ℕ) → list_all (suits es) (use_as Written x) ≡ true → list_all (suits es) (use_as NodeValue p) ≡ true → nat_eq p x ≡ false
  property-apart x p h n =
      let a = both-true (nat_lt x (length es)) (has_role (variable_at es x) Written) (both-true (suits es (record { variable = x; role = Written })) true h).0 in
      let b = both-true (nat_lt p (length es)) (has_role (variable_at es p) NodeValue) (both-true (suits es (record { variable = p; role = NodeValue })) true n).0 in
      ne_eqb p x (λ same. no-sort (variable_at es x).sort a.1 (ap (λ y. is Sorts.NodeProperty (variable_at es y)) (sym same) ∙ b.1))

  property-quiet : (its : List ℕ) (c : ℕ) → Compared its c → (x p : ℕ) → x < k → p < k → list_all (suits es) (use_as Written x) ≡ true → list_all (suits es) (use_as NodeValue p) ≡ true → Quiet its (type_at es p) x (one_node f c (type_at ds p) (Property i p nowhere))
  property-quiet its c g x p l lp h n = record {
    named = one-named its c g (type_at ds p) (Property i p nowhere) (append-true (suits es) (use_as Owner i) (use_as NodeValue p) (suited i an_iterator.variable Owner stands.iterator refl) n);
    typed = one-typed its c g (type_at ds p) (Property i p nowhere) (ap Some (sym (types p lp))) ∙ ap Some (types p lp);
    ordered = property-order c (type_at ds p) p;
    form = one-form c (type_at ds p) (Property i p nowhere) itself-in;
    literals = refl;
    alone = one-alone c (type_at ds p) x (Property i p nowhere) l (g.apart x l h) (ap (λ b. b || nat_eq p x) (other x i l beyond.iterator) ∙ property-apart x p h n);
    rising = refl;
    tells_it = one-tells its c g (type_at ds p) (Property i p nowhere) refl;
  }

  degree-quiet : (its : List ℕ) (c : ℕ) → Compared its c → (x : ℕ) (d : Direction) → x < k → list_all (suits es) (use_as Written x) ≡ true → Quiet its V.I32 x (one_node f c V.I32 (Degree d i nowhere))
  degree-quiet its c g x d l h = record {
    named = one-named its c g V.I32 (Degree d i nowhere) (suited i an_iterator.variable Owner stands.iterator refl);
    typed = one-typed its c g V.I32 (Degree d i nowhere) refl;
    ordered = refl;
    form = one-form c V.I32 (Degree d i nowhere) itself-in;
    literals = refl;
    alone = one-alone c V.I32 x (Degree d i nowhere) l (g.apart x l h) (other x i l beyond.iterator);
    rising = refl;
    tells_it = one-tells its c g V.I32 (Degree d i nowhere) refl;
  }

  -- a scalar set to such a reduction, where it was set to an expression of the same type
  declare-kept : (its : List ℕ) (key : Key) (x : ℕ) (t : VType) (e : Expr) (c : ℕ) (u : VType) (d : Expr) → Kept table res its (Declare key x (Some e)) → type_in es e ≡ Some t → Quiet its t x (one_node f c u d) → Kept table res its (Declare key x (Some (one_node f c u d)))
  declare-kept its key x t e c u d h typed q = record {
    named = append-true (suits es) (use_as Written x) (uses_in (one_node f c u d)) (all-append (suits es) (use_as Written x) (uses_in e) h.named).0 q.named;
    typed = ap (is_type (type_at es x)) (q.typed ∙ sym typed) ∙ h.typed;
    ordered = q.ordered;
    share = refl;
    form = and-true (nat_eq (depth_at es x) 0) (is_phase_expr (one_node f c u d)) (both-true (nat_eq (depth_at es x) 0) (is_phase_expr e) h.form).0 q.form;
    groups = refl;
    compounds = refl;
    literals = q.literals;
    conditions = refl;
    apart = ap not q.alone;
    rising = q.rising;
    tells = q.tells_it;
  }

  assign-kept : (its : List ℕ) (key : Key) (x : ℕ) (at : Place) (t : VType) (e : Expr) (c : ℕ) (u : VType) (d : Expr) → Kept table res its (Assign key (T.Scalar x at) e) → type_in es e ≡ Some t → Quiet its t x (one_node f c u d) → Kept table res its (Assign key (T.Scalar x at) (one_node f c u d))
  assign-kept its key x at t e c u d h typed q = record {
    named = append-true (suits es) (use_as Written x) (uses_in (one_node f c u d)) (all-append (suits es) (use_as Written x) (uses_in e) h.named).0 q.named;
    typed = ap (is_type (type_at es x)) (q.typed ∙ sym typed) ∙ h.typed;
    ordered = q.ordered;
    share = refl;
    form = and-true (nat_le (depth_at es x) 0) (is_phase_expr (one_node f c u d)) (both-true (nat_le (depth_at es x) 0) (is_phase_expr e) h.form).0 q.form;
    groups = refl;
    compounds = refl;
    literals = q.literals;
    conditions = refl;
    apart = ap not q.alone;
    rising = q.rising;
    tells = q.tells_it;
  }

  -- ---- a write

  -- the value set to the variable that holds it
  held-kept : (its : List ℕ) (key : Key) (y p : ℕ) (at : Place) (e : Expr) → p < k → Kept table res its (Assign key (T.Property y p at) e) → Kept table res its (set_to (holder f (type_at ds p)) key e)
  held-kept its key y p at e lp h =
      let x = holder f (type_at ds p) in
      record {
        named = append-true (suits es) (use_as Written x) (uses_in e) (suited x (fresh (type_at ds p)).variable Written (stands.held (type_at ds p)) refl) (all-append (suits es) (use_as Owner y ++ use_as NodeValue p) (uses_in e) h.named).1;
        typed = ap (λ t. has_type es t e) (held-type (type_at ds p) ∙ types p lp) ∙ h.typed;
        ordered = h.ordered;
        share = refl;
        form = and-true (nat_le (depth_at es x) 0) (is_phase_expr e) (ap (λ (v : Variable). nat_le v.depth 0) (stands.held (type_at ds p)).1) (both-true true (is_phase_expr e) h.form).1;
        groups = refl;
        compounds = refl;
        literals = h.literals;
        conditions = refl;
        apart = ap (λ b. b || is_read x e) h.apart;
        rising = h.rising;
        tells = h.tells;
      }

  -- the loop that writes it
  there-kept : (its : List ℕ) (c : ℕ) → Compared its c → (p : ℕ) → p < k → list_all (suits es) (use_as NodeValue p) ≡ true → Kept table res its (write_there f c p (holder f (type_at ds p)))
  there-kept its c g p lp n =
      let t = type_at ds p in
      let x = holder f t in
      let body = Assign second_key (T.Property i p nowhere) (Var x nowhere) in
      record {
        named = append-true (suits es) (uses_of_head (all_nodes f)) (uses_in (is_there f c) ++ uses_of body) filter-named
            (append-true (suits es) (uses_in (is_there f c)) (uses_of body) (test-named its c g)
            (append-true (suits es) (use_as Owner i ++ use_as NodeValue p) (use_as Told x) (append-true (suits es) (use_as Owner i) (use_as NodeValue p) (suited i an_iterator.variable Owner stands.iterator refl) n) (suited x (fresh t).variable Told (stands.held t) refl)));
        typed = and-true (has_type es V.Flag (is_there f c)) (is_typed_in es res body) (ap (is_type V.Flag) (test-typed its c g)) (ap (λ u. is_type (type_at es p) (Some u)) (held-type t ∙ types p lp) ∙ type-itself (type_at es p));
        ordered = rw (eq-eqb i i refl) refl;
        share = refl;
        form = and-true (is_outer_expr false i (is_there f c)) (is_outer_code es false i body) refl (and-true (nat_eq i i) true (eq-eqb i i refl) refl);
        groups = refl;
        compounds = refl;
        literals = refl;
        conditions = refl;
        apart = refl;
        rising = refl;
        tells = and-true (takes_nodes table i) (tells table (i ∷ its) (is_there f c) && tells_in table (i ∷ its) body) takes-iterator
            (and-true (tells table (i ∷ its) (is_there f c)) (tells_in table (i ∷ its) body) (test-tells its c g) (tells-added (i ∷ its) x (beyond.held t)));
      }

  after-kept : (it : Bool) (its : List ℕ) (key : Key) (y : ℕ) (at : Place) (s : Stmt) → list_all (suits es) (use_as Owner y) ≡ true → Kept table res its s → Kept table res its (after_check it f key y at s)
  after-kept true its key y at s n h = h
  after-kept false its key y at s n h = then-kept table res its (set_to f.checked key (Live y at)) (Then s Skip) (check-kept its key y at n) (then-kept table res its s Skip h (skip-kept its))

  checks-kept : (it : Bool) (its : List ℕ) (key : Key) (y : ℕ) (at : Place) (ss : List Stmt) → list_all (suits es) (use_as Owner y) ≡ true → Kept table res its (sequence ss) → Kept table res its (sequence (checks it f key y at ++ ss))
  checks-kept true its key y at ss n h = h
  checks-kept false its key y at ss n h = then-kept table res its (set_to f.checked key (Live y at)) (sequence ss) (check-kept its key y at n) h

  -- ---- statements

  pub loops-kept : (s : Stmt) (its : List ℕ) → NamesBelow k s → AreIterators table its → Kept table res its s → Kept table res its (by_loops ds f its s)
  loops-kept (Then a b) its w r h = let q = then-parts table res its a b h in then-kept table res its (by_loops ds f its a) (by_loops ds f its b) (loops-kept a its w.0 r q.0) (loops-kept b its w.1 r q.1)
  loops-kept (Declare key x (Some (Property y p at))) its w r h =
      let n = all-append (suits es) (use_as Written x) (use_as Owner y ++ use_as NodeValue p) h.named in
      let m = all-append (suits es) (use_as Owner y) (use_as NodeValue p) n.1 in
      let c = compared (is_in its y) f y in
      after-kept (is_in its y) its key y at (Declare key x (Some (one_node f c (type_at ds p) (Property i p nowhere)))) m.0
      (declare-kept its key x (type_at es p) (Property y p at) c (type_at ds p) (Property i p nowhere) h refl (property-quiet its c (all-compared its r (is_in its y) y refl) x p w.0 w.1.1 n.0 m.1))
  loops-kept (Declare key x (Some (Degree d y at))) its w r h =
      let n = all-append (suits es) (use_as Written x) (use_as Owner y) h.named in
      let c = compared (is_in its y) f y in
      after-kept (is_in its y) its key y at (Declare key x (Some (one_node f c V.I32 (Degree d i nowhere)))) n.1
      (declare-kept its key x V.I32 (Degree d y at) c V.I32 (Degree d i nowhere) h refl (degree-quiet its c (all-compared its r (is_in its y) y refl) x d w.0 n.0))
  loops-kept (Assign key (T.Scalar x g) (Property y p at)) its w r h =
      let n = all-append (suits es) (use_as Written x) (use_as Owner y ++ use_as NodeValue p) h.named in
      let m = all-append (suits es) (use_as Owner y) (use_as NodeValue p) n.1 in
      let c = compared (is_in its y) f y in
      after-kept (is_in its y) its key y at (Assign key (T.Scalar x g) (one_node f c (type_at ds p) (Property i p nowhere))) m.0
      (assign-kept its key x g (type_at es p) (Property y p at) c (type_at ds p) (Property i p nowhere) h refl (property-quiet its c (all-compared its r (is_in its y) y refl) x p w.0 w.1.1 n.0 m.1))
  loops-kept (Assign key (T.Scalar x g) (Degree d y at)) its w r h =
      let n = all-append (suits es) (use_as Written x) (use_as Owner y) h.named in
      let c = compared (is_in its y) f y in
      after-kept (is_in its y) its key y at (Assign key (T.Scalar x g) (one_node f c V.I32 (Degree d i nowhere))) n.1
      (assign-kept its key x g V.I32 (Degree d y at) c V.I32 (Degree d i nowhere) h refl (degree-quiet its c (all-compared its r (is_in its y) y refl) x d w.0 n.0))
  loops-kept (Assign key (T.Scalar x g) e) its w r h = h
  loops-kept (Assign key (T.Property y p at) e) its w r h =
      let x = holder f (type_at ds p) in
      let c = compared (is_in its y) f y in
      let n = all-append (suits es) (use_as Owner y ++ use_as NodeValue p) (uses_in e) h.named in
      let m = all-append (suits es) (use_as Owner y) (use_as NodeValue p) n.0 in
      checks-kept (is_in its y) its key y at (set_to x key e ∷ write_there f c p x ∷ []) m.0
      (then-kept table res its (set_to x key e) (Then (write_there f c p x) Skip) (held-kept its key y p at e w.0.1 h)
      (then-kept table res its (write_there f c p x) Skip (there-kept its c (all-compared its r (is_in its y) y refl) p w.0.1 m.1) (skip-kept its)))
  loops-kept (For key at hd e s) its w r h =
      let q = for-parts table res its key at hd e s h in
      let n = all-append (suits es) (use_as Iterates hd.iterator) (use_as (owner_role hd.domain) hd.owner) q.0.named in
      let inside = hd.iterator ∷ its in
      for-kept table res its key at hd e (by_loops ds f inside s) q.0 q.1 (loops-kept s inside w.3 (one-more table hd.iterator its (record { named = n.0; takes = q.0.takes }) r) q.2)
  loops-kept (If key e a b) its w r h =
      let q = if-parts table res its key e a b h in
      if-kept table res its key e (by_loops ds f its a) (by_loops ds f its b) q.0 (loops-kept a its w.1 r q.1) (loops-kept b its w.2 r q.2)
  loops-kept (While key at e s) its w r h = let q = while-parts table res its key at e s h in while-kept table res its key at e (by_loops ds f its s) q.0 (loops-kept s its w.1 r q.1)
  loops-kept (Do key at s e) its w r h = let q = do-parts table res its key at e s h in do-kept table res its key at e (by_loops ds f its s) q.0 (loops-kept s its w.0 r q.1)
  loops-kept s its w r h = h

-- no access is left
told-set : (k : Key) (x : ℕ) (at : Place) (e : Expr) → is_told e ≡ true → has_no_accesses (Assign k (T.Scalar x at) e) ≡ true
told-set k x at (Property y p a) h = absurd (both_ways false refl h)
told-set k x at (Degree d y a) h = absurd (both_ways false refl h)
told-set k x at e h = refl

after-none : (it : Bool) (f : Fresh) (k : Key) (y : ℕ) (at : Place) (s : Stmt) → has_no_accesses s ≡ true → has_no_accesses (after_check it f k y at s) ≡ true
after-none true f k y at s h = h
after-none false f k y at s h = and-true (has_no_accesses s) true h refl

checks-none : (it : Bool) (f : Fresh) (k : Key) (y : ℕ) (at : Place) (ss : List Stmt) → has_no_accesses (sequence ss) ≡ true → has_no_accesses (sequence (checks it f k y at ++ ss)) ≡ true
checks-none true f k y at ss h = h
checks-none false f k y at ss h = h

pub none-left : (ds : List Declaration) (f : Fresh) (its : List ℕ) (s : Stmt) → has_reads_apart s ≡ true → has_no_accesses (by_loops ds f its s) ≡ true
none-left ds f its (Then a b) h =
    let q = both-true (has_reads_apart a) (has_reads_apart b) h in and-true (has_no_accesses (by_loops ds f its a)) (has_no_accesses (by_loops ds f its b)) (none-left ds f its a q.0) (none-left ds f its b q.1)
none-left ds f its (Declare k x (Some (Property y p at))) h = after-none (is_in its y) f k y at _ refl
none-left ds f its (Declare k x (Some (Degree d y at))) h = after-none (is_in its y) f k y at _ refl
none-left ds f its (Assign k (T.Scalar x g) (Property y p at)) h = after-none (is_in its y) f k y at _ refl
none-left ds f its (Assign k (T.Scalar x g) (Degree d y at)) h = after-none (is_in its y) f k y at _ refl
none-left ds f its (Assign k (T.Scalar x g) e) h = refl
none-left ds f its (Assign k (T.Property y p at) e) h =
    let x = holder f (type_at ds p) in
    checks-none (is_in its y) f k y at (set_to x k e ∷ write_there f (compared (is_in its y) f y) p x ∷ []) (and-true (has_no_accesses (Assign k (T.Scalar x nowhere) e)) true (told-set k x nowhere e h) refl)
none-left ds f its (For k at hd e s) h = none-left ds f (hd.iterator ∷ its) s h
none-left ds f its (If k e a b) h =
    let q = both-true (has_reads_apart a) (has_reads_apart b) h in and-true (has_no_accesses (by_loops ds f its a)) (has_no_accesses (by_loops ds f its b)) (none-left ds f its a q.0) (none-left ds f its b q.1)
none-left ds f its (While k at e s) h = none-left ds f its s h
none-left ds f its (Do k at s e) h = none-left ds f its s h
none-left ds f its s h = refl

-- no pick comes in
after-picks : (it : Bool) (f : Fresh) (k : Key) (y : ℕ) (at : Place) (s : Stmt) → has_no_picks s ≡ true → has_no_picks (after_check it f k y at s) ≡ true
after-picks true f k y at s h = h
after-picks false f k y at s h = and-true (has_no_picks s) true h refl

checks-picks : (it : Bool) (f : Fresh) (k : Key) (y : ℕ) (at : Place) (ss : List Stmt) → has_no_picks (sequence ss) ≡ true → has_no_picks (sequence (checks it f k y at ++ ss)) ≡ true
checks-picks true f k y at ss h = h
checks-picks false f k y at ss h = h

pub picks-stay : (ds : List Declaration) (f : Fresh) (its : List ℕ) (s : Stmt) → has_no_picks s ≡ true → has_no_picks (by_loops ds f its s) ≡ true
picks-stay ds f its (Then a b) h =
    let q = both-true (has_no_picks a) (has_no_picks b) h in and-true (has_no_picks (by_loops ds f its a)) (has_no_picks (by_loops ds f its b)) (picks-stay ds f its a q.0) (picks-stay ds f its b q.1)
picks-stay ds f its (Declare k x (Some (Property y p at))) h = after-picks (is_in its y) f k y at _ refl
picks-stay ds f its (Declare k x (Some (Degree d y at))) h = after-picks (is_in its y) f k y at _ refl
picks-stay ds f its (Assign k (T.Scalar x g) (Property y p at)) h = after-picks (is_in its y) f k y at _ refl
picks-stay ds f its (Assign k (T.Scalar x g) (Degree d y at)) h = after-picks (is_in its y) f k y at _ refl
picks-stay ds f its (Assign k (T.Scalar x g) e) h = refl
picks-stay ds f its (Assign k (T.Property y p at) e) h =
    let x = holder f (type_at ds p) in checks-picks (is_in its y) f k y at (set_to x k e ∷ write_there f (compared (is_in its y) f y) p x ∷ []) refl
picks-stay ds f its (For k at hd e s) h = picks-stay ds f (hd.iterator ∷ its) s h
picks-stay ds f its (If k e a b) h =
    let q = both-true (has_no_picks a) (has_no_picks b) h in and-true (has_no_picks (by_loops ds f its a)) (has_no_picks (by_loops ds f its b)) (picks-stay ds f its a q.0) (picks-stay ds f its b q.1)
picks-stay ds f its (While k at e s) h = picks-stay ds f its s h
picks-stay ds f its (Do k at s e) h = picks-stay ds f its s h
picks-stay ds f its s h = h
