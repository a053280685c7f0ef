-- A loop whose body reads nodes first, and whose locals have gone to properties then, may be parted.
use Rattle.std.proofs.Common.{◌≡◌, ◌<◌, ◌≤◌, ◌+◌, arith, ℕ, Bool, true, false, List, [], ◌∷◌, ◌++◌, length, refl, sym, ap, subst, ◌∙◌, Option, None, ⊎_elim, inl}
use Rattle.std.specs.Prelude.{◌&&◌, ◌||◌, nat_eq, nat_lt}
use Rattle.std.specs.List.{list_all}
use Rattle.std.proofs.lemmas.Bool.{both_ways, eq-eqb}
use Rattle.std.proofs.lemmas.Bool.Decides.{nat_tests}
use Rattle.gm_base.specs.declared.places.Place.{Place}
use Rattle.gm_value.specs.Bag.{IsIn}
use Rattle.gm_value.specs.declared.values.VType.{VType}
use Rattle.gm_ast.specs.declared.tree.Declaration.{Declaration}
use Rattle.gm_ast.specs.declared.tree.Head.{Head}
use Rattle.gm_ast.specs.declared.tree.Key.{Key}
use Rattle.gm_ast.specs.declared.tree.Sort.TheVariants as Sorts
use Rattle.gm_ast.specs.declared.tree.Variable.{Variable}
use Rattle.gm_ast.specs.Loops.{is_nodes}
use Rattle.gm_ast.specs.Names.{sort_eq}
use Rattle.gm_ast.specs.Program.{Expr, Const, Var, Property, EdgeProperty, Degree, NodeCount, EdgeCount, Live, Unary, Binary, Both, Either, Choose, Folded, Stmt, Foreach}
use Rattle.gm_semantics.specs.Frames.{NamesBelow}
use Rattle.gm_semantics.specs.Statements.{variable_at}
use Rattle.gm_forms.specs.Cut.{adds_last, is_own_code, is_own_loop, touched}
use Rattle.gm_forms.specs.Forms.{depth_at, is_flat, is_flat_loop, is_outer_body}
use Rattle.gm_forms.specs.Sharing.{told_in}
use Rattle.gm_forms.specs.Uses.{Iterates, has_role, suits, uses_in, uses_of_head, uses_of}
use Rattle.gm_forms.proofs.Doings.{in-left, in-right}
use Rattle.gm_forms.proofs.Named.{both-true, all-append, names-below}
use Rattle.gm_forms.proofs.Weaker.{and-true}
use Rattle.gm_loop_laws.specs.Localised.{names_plainly}
use Rattle.gm_dissect.specs.AllDeferred.{deferred_of, is_empty}
use Rattle.gm_dissect.specs.Conditions.{holds_cut, asks_variables}
use Rattle.gm_dissect.specs.Locals.{declares, locals_of}
use Rattle.gm_dissect.proofs.Kept.{Sound}
use Rattle.gm_dissect.proofs.Longer.{depth-same}
use Rattle.gm_dissect.proofs.Undeferred.{two-same}
use Rattle.gm_locals.specs.AllGroups.{group_of}
use Rattle.gm_locals.specs.AllMoved.{read_from, property_of, first_values, all_moved_in, all_moved}
use Rattle.gm_locals.specs.Groups.{may_keep, may_move_within}
use Rattle.gm_cut.specs.Runs.{joins_run, with_runs}
use Rattle.gm_cut.proofs.Grouped.{uses-same, form-same, alike-same}
use Rattle.gm_cut.proofs.Roles.{iterates-of}
use Rattle.gm_cut.proofs.Shared.{shares-alike}
use Rattle.gm_parting.specs.InnerLoops.{inner_loops_apart, inner_iterators_deep}
use Rattle.gm_parting.specs.Lasting.{is_outside, is_lasting, conditions_last, conditions_repeat}
use Rattle.gm_parting.specs.Locals.{declares_its_locals, checks_nothing}
use Rattle.gm_parting.specs.Nodes.{nodes_in, nodes_read}
use Rattle.gm_parting.specs.Staying.{locals_stay_within}
use Rattle.gm_parting.specs.Tuples.{reduces_evenly}
use Rattle.gm_parting.proofs.GroupFacts.{safe-checks, listed-declares, property-in, property-has, property-none, property-one, locals-kept, fresh-out, nodes-hold, declared-scalar}
use Rattle.gm_parting.proofs.GroupsOf.{finds, group-has, group-listed, group-each}
use Rattle.gm_parting.proofs.HomeFacts.{distinct-locals, touched-old, body-lasts, body-even, body-deep}
use Rattle.gm_parting.proofs.Homes.{Homes, Fresh, body-tidy}
use Rattle.gm_parting.proofs.Lasting.{Lasts, lasts, lasting}
use Rattle.gm_parting.proofs.Loops.{told-below, outside-longer}
use Rattle.gm_parting.proofs.Movable.{Part, Own, scalar-other, goes, plain}
use Rattle.gm_parting.proofs.MovedPrograms.{declared-listed}
use Rattle.gm_parting.proofs.NodesLaws.{table-length, dt, more, same, outer-rows, inner-rows}
use Rattle.gm_parting.proofs.NodesRead.{Row}
use Rattle.gm_parting.proofs.Pieces.{own-uncut, own-adds, own-code}
use Rattle.gm_parting.proofs.Programs.{nothing-deferred}
use Rattle.gm_parting.proofs.Runs.{even-same}
use Rattle.gm_parting.proofs.SavedPrograms.{spares-apart}
use Rattle.gm_parting.proofs.Tidy.{Tidy, Distinct, Known, tidy-runs, locals-same, tidy-stays, tidy-apart}

-- what is known of a loop before
pub record Before (ds : List Declaration) (n : ℕ) (test : Expr) (body : Stmt) : Type 0 where
  pub none : is_empty (deferred_of body) ≡ true
  pub filter : is_lasting ds n (touched body) test ≡ true
  pub conditions : conditions_repeat ds n body ≡ true
  pub asks : asks_variables n body ≡ true
  pub declared : declares_its_locals ds n body ≡ true
  pub checks : checks_nothing body ≡ true
  pub even : reduces_evenly ds body ≡ true
  pub outer : nat_lt (depth_at ds n) 2 ≡ true
  pub deep : inner_iterators_deep ds body ≡ true

-- what a loop has that may be parted
abbrev pub is_parting : List Declaration → ℕ → Expr → Stmt → Bool
is_parting ds n test body =
    is_lasting ds n (touched body) test
    && (conditions_last ds n body && (locals_stay_within ds n (with_runs n body) && (inner_loops_apart ds n body && (reduces_evenly ds body && (nat_lt (depth_at ds n) 2 && inner_iterators_deep ds body)))))

-- an expression that names none of the locals stays
moved-none : (home : ℕ → Option ℕ) (n : ℕ) (e : Expr) → ((z : ℕ) → IsIn z (told_in e) → home z ≡ None) → all_moved_in home n e ≡ e
moved-none home n (Var z p) o = ap (λ h. read_from n h z p) (o z (inl refl))
moved-none home n (Unary op p e) o = ap (Unary op p) (moved-none home n e o)
moved-none home n (Binary op p a b) o = two-same (Binary op p) (all_moved_in home n a) (all_moved_in home n b) a b (moved-none home n a (λ z i. o z (in-left z (told_in a) (told_in b) i))) (moved-none home n b (λ z i. o z (in-right z (told_in a) (told_in b) i)))
moved-none home n (Both a b) o = two-same Both (all_moved_in home n a) (all_moved_in home n b) a b (moved-none home n a (λ z i. o z (in-left z (told_in a) (told_in b) i))) (moved-none home n b (λ z i. o z (in-right z (told_in a) (told_in b) i)))
moved-none home n (Either a b) o = two-same Either (all_moved_in home n a) (all_moved_in home n b) a b (moved-none home n a (λ z i. o z (in-left z (told_in a) (told_in b) i))) (moved-none home n b (λ z i. o z (in-right z (told_in a) (told_in b) i)))
moved-none home n (Choose c a b) o =
    let rest = told_in a ++ told_in b in
    ap (λ d. Choose d (all_moved_in home n a) (all_moved_in home n b)) (moved-none home n c (λ z i. o z (in-left z (told_in c) rest i)))
    ∙ two-same (Choose c) (all_moved_in home n a) (all_moved_in home n b) a b (moved-none home n a (λ z i. o z (in-right z (told_in c) rest (in-left z (told_in a) (told_in b) i)))) (moved-none home n b (λ z i. o z (in-right z (told_in c) rest (in-right z (told_in a) (told_in b) i))))
moved-none home n (Const v) o = refl
moved-none home n (Property z p at) o = refl
moved-none home n (EdgeProperty z p at) o = refl
moved-none home n (Degree d z at) o = refl
moved-none home n NodeCount o = refl
moved-none home n EdgeCount o = refl
moved-none home n (Live z at) o = refl
moved-none home n (Folded f hd test e) o = refl

-- ds: the table; count: at least as many nodes as the loop reads; last: the table when locals have gone
module _ (ds : List Declaration) (res : Option VType) (count : ℕ) (last : List Declaration) (later : (y : ℕ) → y < length (dt ds count) → variable_at last y ≡ variable_at (dt ds count) y) (size : length (dt ds count) ≤ length last) where
  abbrev mid : List Declaration
  mid = dt ds count

  last-same : (y : ℕ) → y < length ds → variable_at last y ≡ variable_at ds y
  last-same y l = let m = more ds count in later y (omega (arith, l, m)) ∙ same ds count y l

  last-more : length ds ≤ length last
  last-more = let m = more ds count in omega (arith, m, size)

  module _ (k : Key) (at : Place) (hd : Head) (test : Expr) (body : Stmt) (sound : Sound ds res (Foreach k at hd test body)) (bound : nodes_in ds body ≤ count) (other : is_own_loop hd.iterator body ≡ false) (before : Before ds hd.iterator test body) (q : ℕ) (top : length (dt ds count) ≤ q) where
    abbrev n : ℕ
    n = hd.iterator

    abbrev read : Stmt
    read = nodes_read ds true (length ds) (length ds + count) 0 body

    abbrev xs : List ℕ
    xs = group_of (dt ds count) hd.iterator test (nodes_read ds true (length ds) (length ds + count) 0 body)

    abbrev home : ℕ → Option ℕ
    home z = property_of q xs z

    abbrev moved : Stmt
    moved = all_moved home n at (first_values (dt ds count)) read

    below : NamesBelow (length ds) (Foreach k at hd test body)
    below = names-below ds (Foreach k at hd test body) sound.named

    named : list_all (suits ds) (uses_of body) ≡ true
    named = (all-append (suits ds) (uses_in test) (uses_of body) (all-append (suits ds) (uses_of_head hd) (uses_in test ++ uses_of body) sound.named).1).1

    iterates : has_role (variable_at ds hd.iterator) Iterates ≡ true
    iterates = iterates-of ds k at hd test body sound.named

    form : is_outer_body ds false n body ≡ true
    form = (both-true (is_flat (n ∷ []) false test) (is_outer_body ds false n body) (both-true (is_nodes hd.domain) (is_flat_loop ds false n test body) sound.form).1).1

    part : Part ds n iterates body body
    part = record { named = named; form = form; alike = shares-alike ds n test body sound.share; even = before.even; names = before.declared; checks = before.checks }

    cut : holds_cut n body ≡ true
    cut = by (holds_cut n body) refl
      where
        by : (b : Bool) → holds_cut n body ≡ b → b ≡ true
        by true e = refl
        by false e =
            let w = own-uncut ds n body form (nothing-deferred ds n body form before.none) e in
            absurd (both_ways (is_own_loop n body) other (and-true (is_own_code n body) (adds_last (n ∷ []) body) (own-code n body w) (own-adds n body w).1))

    cut-then : holds_cut n read ≡ true
    cut-then = nodes-hold ds n (length ds) (length ds + count) 0 body iterates below.0 ∙ cut

    own-of : (z : ℕ) → IsIn z (locals_of body) → Own ds n iterates body z
    own-of z i = let d = declared-scalar ds n body form named z i in record { low = d.0; deep = d.1; scalar = d.2 }

    l : Lasts ds n (touched body) test
    l = lasts ds n (touched body) test before.filter

    -- each local may go with the others
    may : (z : ℕ) → IsIn z (locals_of body) → may_keep (dt ds count) (locals_of body) n test read z ≡ true
    may z i =
        let own = own-of z i in
        let low = own.low in
        let m = more ds count in
        and-true (sort_eq Sorts.Scalar (variable_at (dt ds count) z).sort) (declares z read && (names_plainly z test && may_move_within (locals_of body) z n read)) (ap (λ (v : Variable). sort_eq Sorts.Scalar v.sort) (same ds count z low) ∙ own.scalar)
        (and-true (declares z read) (names_plainly z test && may_move_within (locals_of body) z n read) (listed-declares z read (locals-kept ds (length ds) (length ds + count) 0 body z i))
        (and-true (names_plainly z test) (may_move_within (locals_of body) z n read) (plain ds n iterates body z own (n ∷ []) false test (ap (λ b. b || false) (scalar-other ds n iterates body z n own iterates)) l.flat (safe-checks test l.sure))
        (goes ds n iterates body z own (locals_of body) (λ w d. finds (locals_of body) w (declared-listed w body d)) (length ds) (length ds + count) 0 body (omega arith) (omega arith) below.0 part)))

    has-gone : (z : ℕ) → IsIn z (locals_of body) → IsIn z xs
    has-gone z i = group-has (dt ds count) n test read cut-then (locals_of body) (locals-kept ds (length ds) (length ds + count) 0 body) may z i

    -- and no other goes
    gone-old : (z : ℕ) → IsIn z xs → IsIn z (locals_of body)
    gone-old z i =
        ⊎_elim (λ j. j)
        (λ (no : may_move_within xs z n read ≡ false).
        let a = both-true (sort_eq Sorts.Scalar (variable_at (dt ds count) z).sort) (declares z read && (names_plainly z test && may_move_within xs z n read)) (group-each (dt ds count) n test read z i) in
        let b = both-true (declares z read) (names_plainly z test && may_move_within xs z n read) a.1 in
        absurd (both_ways (may_move_within xs z n read) no (both-true (names_plainly z test) (may_move_within xs z n read) b.1).1))
        (fresh-out ds xs n (length ds) (length ds + count) 0 body z (group-listed (dt ds count) n test read z i))

    stays-high : (y : ℕ) → length ds ≤ y → home y ≡ None
    stays-high y high = property-none q xs y (λ i. let own = own-of y (gone-old y i) in let low = own.low in omega (arith, low, high))

    homes : Homes ds n iterates body last home (length (dt ds count)) at (first_values (dt ds count))
    homes = record {
      low = below.0;
      depths = depth-same ds last last-same last-more;
      under = more ds count;
      fresh = λ z p e. let h = (property-in q xs z p e).1 in omega (arith, h, top);
      local = λ z p e. let own = own-of z (gone-old z (property-in q xs z p e).0) in (own.low, own.deep, own.scalar);
      one = λ z w p e f. property-one q xs z w p e f;
      has = λ z d e. property-has q xs z (has-gone z (declared-listed z body d)) e;
    }

    row-deep : (d y : ℕ) → Row ds (dt ds count) d y → nat_eq (depth_at last y) d ≡ true
    row-deep d y row = ap (λ (v : Variable). nat_eq v.depth d) (later y row.inside ∙ row.is) ∙ eq-eqb d d refl

    outers : Fresh ds n iterates body last home (length (dt ds count)) at (first_values (dt ds count)) 1 (length ds) count
    outers = record {
      high = omega arith;
      inside = let e = table-length ds count count in omega (arith, e);
      deep = λ j h. row-deep 1 (length ds + j) (outer-rows ds count j h);
      stays = λ j h. stays-high (length ds + j) (omega arith);
    }

    inners : Fresh ds n iterates body last home (length (dt ds count)) at (first_values (dt ds count)) 2 (length ds + count) count
    inners = record {
      high = omega arith;
      inside = let e = table-length ds count count in omega (arith, e);
      deep = λ j h. row-deep 2 ((length ds + count) + j) (inner-rows ds count j h);
      stays = λ j h. stays-high ((length ds + count) + j) (omega arith);
    }

    -- the filter stays
    test-stays : all_moved_in home n test ≡ test
    test-stays = moved-none home n test (λ z i. property-none q xs z (λ j. let own = own-of z (gone-old z j) in
        clash (nat_eq z n) (depth_at ds z) (scalar-other ds n iterates body z n own iterates) own.deep (member (told_in test) l.plain z i)))
      where
        not-both : (d : ℕ) → nat_eq d 1 ≡ true → nat_eq d 0 ≡ true → ⊥
        not-both d e f = grind (arith, nat_tests, e, f)

        clash : (a : Bool) (d : ℕ) → a ≡ false → nat_eq d 1 ≡ true → a || nat_eq d 0 ≡ true → ⊥
        clash true d o e h = both_ways true o refl
        clash false d o e h = not-both d e h

        member : (zs : List ℕ) → list_all (is_outside ds n) zs ≡ true → (z : ℕ) → IsIn z zs → is_outside ds n z ≡ true
        member [] h z i = absurd i
        member (w ∷ zs) h z i = let r = both-true (is_outside ds n w) (list_all (is_outside ds n) zs) h in ⊎_elim (λ (e : z ≡ w). subst (λ x. is_outside ds n x ≡ true) (sym e) r.0) (member zs r.1 z) i

    reads-all : 0 + nodes_in ds body ≤ count
    reads-all = omega (arith, bound)

    tidy : Tidy last n moved
    tidy = body-tidy ds n iterates body last home (length (dt ds count)) at (first_values (dt ds count)) homes (λ z low d. let own = own-of z (declared-listed z body d) in and-true (sort_eq Sorts.Scalar (variable_at ds z).sort) (nat_eq (depth_at ds z) 1) own.scalar own.deep)
        (length ds) (length ds + count) count 0 body outers inners reads-all part

    even : reduces_evenly last moved ≡ true
    even = body-even ds n iterates body last home (length (dt ds count)) at (first_values (dt ds count)) homes (length ds) (length ds + count) 0 body part

    -- where the loop is sound then
    pub loop-parted : Sound last res (Foreach k at hd (all_moved_in home n test) moved) → is_parting last n (all_moved_in home n test) moved ≡ true
    loop-parted w =
        let test' = all_moved_in home n test in
        let there = iterates-of last k at hd test' moved w.named in
        let u = (all-append (suits last) (uses_in test') (uses_of moved) (all-append (suits last) (uses_of_head hd) (uses_in test' ++ uses_of moved) w.named).1).1 in
        let f = (both-true (is_flat (n ∷ []) false test') (is_outer_body last false n moved) (both-true (is_nodes hd.domain) (is_flat_loop last false n test' moved) w.form).1).1 in
        let a = shares-alike last n test' moved w.share in
        let known : Known last n there moved = record { named = u; form = f; alike = a; even = even } in
        let own = is_own_loop n in
        let joins = joins_run n in
        let known-runs : Known last n there (with_runs n moved) = record {
          named = ap (list_all (suits last)) (uses-same own joins moved) ∙ u;
          form = form-same own joins last n moved ∙ f;
          alike = alike-same own joins moved ∙ a;
          even = even-same own joins last moved ∙ even;
        } in
        let distinct : Distinct (locals_of (with_runs n moved)) = subst Distinct (sym (locals-same last n moved)) (distinct-locals ds n iterates body last home (length (dt ds count)) at (first_values (dt ds count)) homes (length ds) (length ds + count) count body outers bound part) in
        let rest = nat_lt (depth_at last n) 2 && inner_iterators_deep last moved in
        and-true (is_lasting last n (touched moved) test') (conditions_last last n moved && (locals_stay_within last n (with_runs n moved) && (inner_loops_apart last n moved && (reduces_evenly last moved && rest))))
        (subst (λ e. is_lasting last n (touched moved) e ≡ true) (sym test-stays)
        (lasting last n (touched moved) test (record {
          sure = l.sure;
          flat = l.flat;
          spare = spares-apart (length ds) (touched body) (touched moved) (touched-old ds n iterates body last home (length (dt ds count)) at (first_values (dt ds count)) homes (length ds) (length ds + count) count body outers inners bound) test below.2 l.spare;
          plain = outside-longer ds last last-same last-more n (told_in test) (told-below (length ds) test below.2) l.plain;
        })))
        (and-true (conditions_last last n moved) (locals_stay_within last n (with_runs n moved) && (inner_loops_apart last n moved && (reduces_evenly last moved && rest)))
        (body-lasts ds n iterates body last home (length (dt ds count)) at (first_values (dt ds count)) homes (length ds) (length ds + count) count 0 body outers inners reads-all part before.asks before.conditions)
        (and-true (locals_stay_within last n (with_runs n moved)) (inner_loops_apart last n moved && (reduces_evenly last moved && rest)) (tidy-stays last n there (with_runs n moved) (tidy-runs last n moved tidy) known-runs distinct)
        (and-true (inner_loops_apart last n moved) (reduces_evenly last moved && rest) (tidy-apart last n there moved tidy known)
        (and-true (reduces_evenly last moved) rest even
        (and-true (nat_lt (depth_at last n) 2) (inner_iterators_deep last moved) (ap (λ d. nat_lt d 2) (depth-same ds last last-same last-more n below.0) ∙ before.outer)
        (body-deep ds n iterates body last home (length (dt ds count)) at (first_values (dt ds count)) homes (length ds) (length ds + count) 0 body below.3 before.deep))))))
