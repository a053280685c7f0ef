-- A program whose locals may all go to properties is prepared when they have gone.
use Rattle.std.proofs.Common.{◌≡◌, ◌<◌, ◌≤◌, arith, ℕ, Bool, true, false, cond, List, [], ◌∷◌, ◌++◌, length, refl, sym, ap, subst, ◌∙◌, Option, Some, None, ⊎_elim, inl, inr}
use Rattle.std.specs.Prelude.{◌&&◌, ◌||◌, not, nat_eq, nat_lt}
use Rattle.std.specs.List.{list_all}
use Rattle.std.proofs.lemmas.Bool.{both_ways, eq-eqb, eqb-true}
use Rattle.std.proofs.lemmas.Bool.Decides.{nat_tests}
use Rattle.gm_base.specs.declared.places.Place.{Place}
use Rattle.gm_value.specs.Bag.{IsIn}
use Rattle.gm_value.specs.declared.values.VType.{VType}
use Rattle.gm_value.specs.Numbers.{zero_of}
use Rattle.gm_ast.specs.declared.tree.Declaration.{Declaration}
use Rattle.gm_ast.specs.declared.tree.Head.{Head}
use Rattle.gm_ast.specs.declared.tree.Key.{Key}
use Rattle.gm_ast.specs.declared.tree.Sort.{Sort}
use Rattle.gm_ast.specs.declared.tree.Sort.TheVariants as Sorts
use Rattle.gm_ast.specs.declared.tree.Target.{Target}
use Rattle.gm_ast.specs.declared.tree.Target.TheVariants as T
use Rattle.gm_ast.specs.declared.tree.Variable.{Variable}
use Rattle.gm_ast.specs.Loops.{is_nodes}
use Rattle.gm_ast.specs.Names.{sort_eq}
use Rattle.gm_ast.specs.Program.{Expr, Stmt, Then, Declare, Assign, Defer, Combine, Foreach, For, If, While, Do, Program, sequence}
use Rattle.gm_ast.specs.Ways.{is_in}
use Rattle.gm_semantics.specs.Frames.{AllReadBelow, TargetBelow, TargetsBelow, NamesBelow}
use Rattle.gm_semantics.specs.Statements.{variable_at}
use Rattle.gm_forms.specs.Cut.{is_no_local, is_own_loop, is_own_code, adds_last, touched}
use Rattle.gm_forms.specs.Forms.{depth_at, is_flat, is_flat_loop, is_outer_body}
use Rattle.gm_forms.specs.Ready.{Ready2}
use Rattle.gm_forms.specs.Sharing.{told_in, sights_in_all}
use Rattle.gm_forms.specs.Uses.{Iterates, has_role, suits, uses_in, uses_of_head, uses_of}
use Rattle.gm_forms.proofs.Doings.{in-left, in-right, in-either}
use Rattle.gm_forms.proofs.Named.{both-true, all-append, names-below}
use Rattle.gm_forms.proofs.Weaker.{and-true}
use Rattle.gm_loop_laws.specs.Localised.{moved_in, moved, names_plainly, may_move}
use Rattle.gm_dissect.specs.AllDeferred.{deferred_of, is_empty, has_no_deferred}
use Rattle.gm_dissect.specs.Conditions.{holds_cut}
use Rattle.gm_dissect.specs.Deferred.{copy_of}
use Rattle.gm_dissect.specs.Locals.{declares, keeps_local, set_to, local_loop, with_kept_local, some_keeps, locals_of, locals_in, with_each_kept, with_kept_locals}
use Rattle.gm_dissect.proofs.DeferredKept.{length-one}
use Rattle.gm_dissect.proofs.DeferredLaws.{variable-longer}
use Rattle.gm_dissect.proofs.DeferredLoops.{either-true, never-iterates, may_be_written}
use Rattle.gm_dissect.proofs.Kept.{Sound}
use Rattle.gm_dissect.proofs.LocalLaws.{ready-kept}
use Rattle.gm_dissect.proofs.LocalLoops.{IsLocal, declared-local, Keeps, keeps-known}
use Rattle.gm_dissect.proofs.Longer.{depth-same}
use Rattle.gm_locals.specs.AllLocals.{keeps_none, keeps_none_in}
use Rattle.gm_locals.proofs.MovedAll.{locals-moved-out}
use Rattle.gm_cut.specs.Parts.{each_passes}
use Rattle.gm_cut.proofs.Roles.{touched-apart, iterates-of}
use Rattle.gm_parting.specs.InnerLoops.{inner_iterators_deep, has_iterators_in_place}
use Rattle.gm_parting.specs.Lasting.{is_outside, is_lasting, conditions_repeat, has_lasting_filters, has_repeatable_conditions}
use Rattle.gm_parting.specs.Locals.{target_passes, names_pass, names_no_local, may_be_kept, locals_may_go, has_movable_locals}
use Rattle.gm_parting.specs.Prepared.{IsPrepared}
use Rattle.gm_parting.specs.Tuples.{reduces_evenly, has_even_tuples}
use Rattle.gm_parting.proofs.Lasting.{Lasts, lasts, lasting, lasts-fewer}
use Rattle.gm_parting.proofs.Loops.{Test, sound-of, each-kept, both, each-both, each-so, defers_nothing, deferred-each, told-below, outside-longer}
use Rattle.gm_parting.proofs.MovedNames.{declared-on, may-on, plain-on, names-on, evenly-longer, evenly-on, deep-longer, deep-on}
use Rattle.gm_parting.proofs.MovedParts.{unmoved, spares-more, own-moved, deferred-of-moved, touched-moved, repeat-longer, repeat-moved}
use Rattle.gm_parting.proofs.Pieces.{own-uncut, own-adds, own-code}
use Rattle.gm_parting.proofs.Programs.{nothing-deferred}
use Rattle.gm_parting.proofs.WithoutLocals.{without-locals}

-- a scalar is no iterator
pub scalar-apart : (v : Variable) → sort_eq Sorts.Scalar v.sort ≡ true → has_role v Iterates ≡ true → ⊥
scalar-apart v h w = by v.sort h w
  where
    by : (s : Sort) → sort_eq Sorts.Scalar s ≡ true → sort_eq Sorts.Iterator s || sort_eq Sorts.Graph s ≡ true → ⊥
    by Sorts.Graph h w = both_ways false refl h
    by Sorts.Iterator h w = both_ways false refl h
    by Sorts.Scalar h w = both_ways false refl w
    by Sorts.Edge h w = both_ways false refl h
    by Sorts.NodeProperty h w = both_ways false refl h
    by Sorts.EdgeProperty h w = both_ways false refl h

-- names of which more may be named
module _ (q : ℕ) (G H : List ℕ → ℕ → Bool) (more : (its : List ℕ) (z : ℕ) → z < q → G its z ≡ true → H its z ≡ true) where
  pub all-more : (its xs : List ℕ) → ((y : ℕ) → IsIn y xs → y < q) → list_all (G its) xs ≡ true → list_all (H its) xs ≡ true
  all-more its [] low h = refl
  all-more its (x ∷ xs) low h =
      let r = both-true (G its x) (list_all (G its) xs) h in and-true (H its x) (list_all (H its) xs) (more its x (low x (inl refl)) r.0) (all-more its xs (λ y i. low y (inr i)) r.1)

  sights-below : (es : List Expr) → AllReadBelow q es → (y : ℕ) → IsIn y (sights_in_all es).scalars → y < q
  sights-below [] l y i = absurd i
  sights-below (e ∷ es) l y i = ⊎_elim (told-below q e l.0 y) (sights-below es l.1 y) (in-either y (told_in e) (sights_in_all es).scalars i)

  target-more : (its : List ℕ) (t : Target) → TargetBelow q t → target_passes G its t ≡ true → target_passes H its t ≡ true
  target-more its (T.Scalar z p) l h = more its z l h
  target-more its (T.Property z r p) l h = more its z l.0 h

  targets-more : (its : List ℕ) (ts : List Target) → TargetsBelow q ts → list_all (target_passes G its) ts ≡ true → list_all (target_passes H its) ts ≡ true
  targets-more its [] l h = refl
  targets-more its (t ∷ ts) l h =
      let r = both-true (target_passes G its t) (list_all (target_passes G its) ts) h in and-true (target_passes H its t) (list_all (target_passes H its) ts) (target-more its t l.0 r.0) (targets-more its ts l.1 r.1)

  pub names-more : (its : List ℕ) (s : Stmt) → NamesBelow q s → names_pass G its s ≡ true → names_pass H its s ≡ true
  names-more its (Then a b) l h =
      let r = both-true (names_pass G its a) (names_pass G its b) h in and-true (names_pass H its a) (names_pass H its b) (names-more its a l.0 r.0) (names-more its b l.1 r.1)
  names-more its (If k c a b) l h =
      let p = both-true (list_all (G its) (told_in c)) (names_pass G its a && names_pass G its b) h in
      let r = both-true (names_pass G its a) (names_pass G its b) p.1 in
      and-true (list_all (H its) (told_in c)) (names_pass H its a && names_pass H its b) (all-more its (told_in c) (told-below q c l.0) p.0) (and-true (names_pass H its a) (names_pass H its b) (names-more its a l.1 r.0) (names-more its b l.2 r.1))
  names-more its (Declare k z None) l h = and-true (H its z) true (more its z l.0 (both-true (G its z) true h).0) refl
  names-more its (Declare k z (Some e)) l h =
      let r = both-true (G its z) (list_all (G its) (told_in e)) h in and-true (H its z) (list_all (H its) (told_in e)) (more its z l.0 r.0) (all-more its (told_in e) (told-below q e l.1) r.1)
  names-more its (Assign k t e) l h =
      let r = both-true (target_passes G its t) (list_all (G its) (told_in e)) h in and-true (target_passes H its t) (list_all (H its) (told_in e)) (target-more its t l.0 r.0) (all-more its (told_in e) (told-below q e l.1) r.1)
  names-more its (Defer k t e) l h =
      let r = both-true (target_passes G its t) (list_all (G its) (told_in e)) h in and-true (target_passes H its t) (list_all (H its) (told_in e)) (target-more its t l.0 r.0) (all-more its (told_in e) (told-below q e l.1) r.1)
  names-more its (Combine k total o ts es) l h =
      let r = both-true (list_all (target_passes G its) ts) (list_all (G its) (sights_in_all es).scalars) h in
      and-true (list_all (target_passes H its) ts) (list_all (H its) (sights_in_all es).scalars) (targets-more its ts l.0 r.0) (all-more its (sights_in_all es).scalars (sights-below es l.1) r.1)
  names-more its (Foreach k p hd test body) l h =
      let js = its ++ (hd.iterator ∷ []) in
      let u = both-true (G its hd.owner) (list_all (G js) (told_in test) && names_pass G js body) h in
      let r = both-true (list_all (G js) (told_in test)) (names_pass G js body) u.1 in
      and-true (H its hd.owner) (list_all (H js) (told_in test) && names_pass H js body) (more its hd.owner l.1 u.0)
      (and-true (list_all (H js) (told_in test)) (names_pass H js body) (all-more js (told_in test) (told-below q test l.2) r.0) (names-more js body l.3 r.1))
  names-more its s l h = h

-- what is known of a loop that is not of own statements
pub record Facts (ds : List Declaration) (n : ℕ) (test : Expr) (body : Stmt) : Type 0 where
  pub filter : is_lasting ds n (touched body) test ≡ true
  pub conditions : conditions_repeat ds n body ≡ true
  pub locals : locals_may_go ds n test body ≡ true
  pub even : reduces_evenly ds body ≡ true
  pub outer : nat_lt (depth_at ds n) 2 ≡ true
  pub deep : inner_iterators_deep ds body ≡ true

-- the same as a test
abbrev pub bundle : List Declaration → ℕ → Expr → Stmt → Bool
bundle ds n test body =
    is_lasting ds n (touched body) test && (conditions_repeat ds n body && (locals_may_go ds n test body && (reduces_evenly ds body && (nat_lt (depth_at ds n) 2 && inner_iterators_deep ds body))))

pub facts-of : (ds : List Declaration) (n : ℕ) (test : Expr) (body : Stmt) → bundle ds n test body ≡ true → Facts ds n test body
facts-of ds n test body h =
    let place = nat_lt (depth_at ds n) 2 && inner_iterators_deep ds body in
    let a = both-true (is_lasting ds n (touched body) test) (conditions_repeat ds n body && (locals_may_go ds n test body && (reduces_evenly ds body && place))) h in
    let b = both-true (conditions_repeat ds n body) (locals_may_go ds n test body && (reduces_evenly ds body && place)) a.1 in
    let c = both-true (locals_may_go ds n test body) (reduces_evenly ds body && place) b.1 in
    let d = both-true (reduces_evenly ds body) place c.1 in
    let f = both-true (nat_lt (depth_at ds n) 2) (inner_iterators_deep ds body) d.1 in
    record { filter = a.0; conditions = b.0; locals = c.0; even = d.0; outer = f.0; deep = f.1 }

pub of-facts : (ds : List Declaration) (n : ℕ) (test : Expr) (body : Stmt) → Facts ds n test body → bundle ds n test body ≡ true
of-facts ds n test body f =
    let place = nat_lt (depth_at ds n) 2 && inner_iterators_deep ds body in
    and-true (is_lasting ds n (touched body) test) (conditions_repeat ds n body && (locals_may_go ds n test body && (reduces_evenly ds body && place))) f.filter
    (and-true (conditions_repeat ds n body) (locals_may_go ds n test body && (reduces_evenly ds body && place)) f.conditions
    (and-true (locals_may_go ds n test body) (reduces_evenly ds body && place) f.locals
    (and-true (reduces_evenly ds body) place f.even (and-true (nat_lt (depth_at ds n) 2) (inner_iterators_deep ds body) f.outer f.deep))))

abbrev pub bundled : List Declaration → Test
bundled ds k at h test body = is_own_loop h.iterator body || bundle ds h.iterator test body

pub either-way : (o p x y : Bool) → p ≡ o → (x ≡ true → y ≡ true) → o || x ≡ true → p || y ≡ true
either-way true p x y e f h = ap (λ b. b || y) e
either-way false p x y e f h = ap (λ b. b || y) e ∙ f h

each-member : (f : ℕ → Bool) (xs : List ℕ) → list_all f xs ≡ true → (y : ℕ) → IsIn y xs → f y ≡ true
each-member f [] h y i = absurd i
each-member f (x ∷ xs) h y i = let r = both-true (f x) (list_all f xs) h in ⊎_elim (λ (e : y ≡ x). subst (λ z. f z ≡ true) (sym e) r.0) (λ j. each-member f xs r.1 y j) i

-- ds: the table; res: the result's type; x: the local
module _ (ds : List Declaration) (res : Option VType) (x : ℕ) where
  abbrev dt : List Declaration
  dt = ds ++ (copy_of ds x ∷ [])

  abbrev q : ℕ
  q = length ds

  abbrev t : VType
  t = (variable_at ds x).vtype

  same : (y : ℕ) → y < length ds → variable_at dt y ≡ variable_at ds y
  same y h = variable-longer ds (copy_of ds x ∷ []) y h

  more : length ds ≤ length dt
  more = let e = length-one ds (copy_of ds x) in omega (arith, e)

  module _ (k : Key) (at : Place) (hd : Head) (test : Expr) (body : Stmt) (sound : Sound ds res (Foreach k at hd test body)) where
    abbrev n : ℕ
    n = hd.iterator

    abbrev mi : Expr → Expr
    mi e = moved_in x q n at (zero_of t) e

    abbrev mv : Stmt → Stmt
    mv s = moved x q n at (zero_of t) s

    below : NamesBelow q (Foreach k at hd test body)
    below = names-below ds (Foreach k at hd test body) sound.named

    named : list_all (suits ds) (uses_of body) ≡ true
    named = (all-append (suits ds) (uses_in test) (uses_of body) (all-append (suits ds) (uses_of_head hd) (uses_in test ++ uses_of body) sound.named).1).1

    iterates : has_role (variable_at ds n) Iterates ≡ true
    iterates = iterates-of ds k at hd test body sound.named

    form : is_outer_body ds false n body ≡ true
    form = (both-true (is_flat (n ∷ []) false test) (is_outer_body ds false n body) (both-true (is_nodes hd.domain) (is_flat_loop ds false n test body) sound.form).1).1

    off : IsIn n (touched body) → ⊥
    off i = touched-apart ds n iterates body named i

    deep-n : depth_at dt n ≡ depth_at ds n
    deep-n = depth-same ds dt same more n below.0

    -- what may be named, in either table
    none-same : (its : List ℕ) (z : ℕ) → z < q → is_no_local ds its z ≡ true → is_no_local dt its z ≡ true
    none-same its z l h = ap (λ d. is_in its z || not (nat_eq d 1)) (depth-same ds dt same more z l) ∙ h

    -- a loop that does not keep it
    longer-facts : Facts ds n test body → Facts dt n test body
    longer-facts f =
        let l = lasts ds n (touched body) test f.filter in
        record {
          filter = lasting dt n (touched body) test (record { sure = l.sure; flat = l.flat; spare = l.spare; plain = outside-longer ds dt same more n (told_in test) (told-below q test below.2) l.plain });
          conditions = repeat-longer x q n at t ds dt (depth-same ds dt same more) body below.3 f.conditions;
          locals = names-more q (λ its z. is_no_local ds its z || may_be_kept ds n test body z) (λ its z. is_no_local dt its z || may_be_kept dt n test body z) on (n ∷ []) body below.3 f.locals;
          even = evenly-longer x q n at t ds dt same more refl body below.3 f.even;
          outer = ap (λ d. nat_lt d 2) deep-n ∙ f.outer;
          deep = deep-longer x q n at t ds dt same more refl body below.3 f.deep;
        }
      where
        on : (its : List ℕ) (z : ℕ) → z < q → is_no_local ds its z || may_be_kept ds n test body z ≡ true → is_no_local dt its z || may_be_kept dt n test body z ≡ true
        on its z l h =
            ap (λ d. (is_in its z || not (nat_eq d 1)) || may_be_kept dt n test body z) (depth-same ds dt same more z l)
            ∙ ap (λ (v : Variable). is_no_local ds its z || (sort_eq Sorts.Scalar v.sort && (declares z body && (names_plainly z test && may_move z n body)))) (same z l) ∙ h

    -- one that does
    moved-facts : Keeps ds x n test body → Facts ds n test body → Facts dt n (mi test) (mv body)
    moved-facts keeps f =
        record {
          filter = subst (λ e. is_lasting dt n (touched (mv body)) e ≡ true) (sym (unmoved x q n at t test unnamed))
              (lasting dt n (touched (mv body)) test (record {
                sure = l.sure;
                flat = l.flat;
                spare = (lasts-fewer dt n (q ∷ touched body) (touched (mv body)) test written (record { sure = l.sure; flat = l.flat; spare = spares-more (touched body) q test below.2 l.spare; plain = plain })).spare;
                plain = plain;
              }));
          conditions = repeat-moved x q n at t ds dt (depth-same ds dt same more) deep-x below.0 body below.3 off f.conditions;
          locals = names-on x q n at t (λ its z. is_no_local ds its z || may_be_kept ds n test body z) (λ its z. is_no_local dt its z || may_be_kept dt n (mi test) (mv body) z) inside on (n ∷ []) (ap (λ b. b || false) (eq-eqb n n refl)) body below.3 keeps.moves f.locals;
          even = evenly-on x q n at t ds dt same more refl body below.3 keeps.moves f.even;
          outer = ap (λ d. nat_lt d 2) deep-n ∙ f.outer;
          deep = deep-on x q n at t ds dt same more refl body below.3 f.deep;
        }
      where
        l : Lasts ds n (touched body) test
        l = lasts ds n (touched body) test f.filter

        is : IsLocal ds n x
        is = declared-local ds n x body form named keeps.declared

        deep-x : nat_eq (depth_at dt x) 1 ≡ true
        deep-x = ap (λ d. nat_eq d 1) (depth-same ds dt same more x is.0) ∙ is.1.0

        apart : nat_eq x n ≡ true → ⊥
        apart e = never-iterates (variable_at ds n) iterates (subst (λ z. may_be_written (variable_at ds z) ≡ true) (eqb-true x n e) is.1.1)

        unnamed : IsIn x (told_in test) → ⊥
        unnamed i = by (nat_eq x n) (depth_at ds x) apart is.1.0 (each-member (is_outside ds n) (told_in test) l.plain x i)
          where
            not-both : (d : ℕ) → nat_eq d 1 ≡ true → nat_eq d 0 ≡ true → ⊥
            not-both d e f = grind (arith, nat_tests, e, f)

            by : (a : Bool) (d : ℕ) → (a ≡ true → ⊥) → nat_eq d 1 ≡ true → a || nat_eq d 0 ≡ true → ⊥
            by true d o e h = o refl
            by false d o e h = not-both d e h

        plain : list_all (is_outside dt n) (told_in test) ≡ true
        plain = outside-longer ds dt same more n (told_in test) (told-below q test below.2) l.plain

        written : (y : ℕ) → IsIn y (touched (mv body)) → IsIn y (q ∷ touched body)
        written y i = ⊎_elim (λ j. inr j) (λ (r : (y ≡ q) × IsIn x (touched body)). inl r.0) (touched-moved x q n at t body y i)

        inside : (its : List ℕ) → is_in its n ≡ true → is_no_local dt its n || may_be_kept dt n (mi test) (mv body) n ≡ true
        inside its h = ap (λ b. (b || not (nat_eq (depth_at dt n) 1)) || may_be_kept dt n (mi test) (mv body) n) h

        on : (its : List ℕ) (z : ℕ) → z < q → (z ≡ x → ⊥) → is_no_local ds its z || may_be_kept ds n test body z ≡ true → is_no_local dt its z || may_be_kept dt n (mi test) (mv body) z ≡ true
        on its z low other h =
            ⊎_elim (λ (g : is_no_local ds its z ≡ true). ap (λ b. b || may_be_kept dt n (mi test) (mv body) z) (none-same its z low g))
            (λ (g : may_be_kept ds n test body z ≡ true). second (is_no_local dt its z) (may_be_kept dt n (mi test) (mv body) z) (kept g)) (either-true (is_no_local ds its z) (may_be_kept ds n test body z) h)
          where
            second : (a b : Bool) → b ≡ true → a || b ≡ true
            second true b h = refl
            second false b h = h

            kept : may_be_kept ds n test body z ≡ true → may_be_kept dt n (mi test) (mv body) z ≡ true
            kept g =
                let a = both-true (sort_eq Sorts.Scalar (variable_at ds z).sort) (declares z body && (names_plainly z test && may_move z n body)) g in
                let b = both-true (declares z body) (names_plainly z test && may_move z n body) a.1 in
                let c = both-true (names_plainly z test) (may_move z n body) b.1 in
                let free : nat_eq n z ≡ false = free-of (nat_eq n z) (λ e. scalar-apart (variable_at ds n) (subst (λ w. sort_eq Sorts.Scalar (variable_at ds w).sort ≡ true) (sym (eqb-true n z e)) a.0) iterates) in
                and-true (sort_eq Sorts.Scalar (variable_at dt z).sort) (declares z (mv body) && (names_plainly z (mi test) && may_move z n (mv body))) (ap (λ (v : Variable). sort_eq Sorts.Scalar v.sort) (same z low) ∙ a.0)
                (and-true (declares z (mv body)) (names_plainly z (mi test) && may_move z n (mv body)) (declared-on x q n at t z other body b.0)
                (and-true (names_plainly z (mi test)) (may_move z n (mv body)) (plain-on x q n at t z free test c.0) (may-on x q n at t z free body keeps.moves c.1)))
              where
                free-of : (b : Bool) → (b ≡ true → ⊥) → b ≡ false
                free-of true o = absurd (o refl)
                free-of false o = refl

    loop-facts : bundled ds k at hd test body ≡ true → each_passes (bundled dt) (local_loop ds x q k at hd test body) ≡ true
    loop-facts h = by (keeps_local ds x n test body) refl
      where
        by : (b : Bool) → keeps_local ds x n test body ≡ b → each_passes (bundled dt) (cond b (sequence (set_to q x at hd ∷ Foreach k at hd (mi test) (mv body) ∷ [])) (Foreach k at hd test body)) ≡ true
        by true e =
            and-true (bundled dt k at hd (mi test) (mv body)) true
            (either-way (is_own_loop n body) (is_own_loop n (mv body)) (bundle ds n test body) (bundle dt n (mi test) (mv body)) (own-moved x q n at t body)
            (λ g. of-facts dt n (mi test) (mv body) (moved-facts (keeps-known ds x n test body e) (facts-of ds n test body g))) h) refl
        by false e =
            either-way (is_own_loop n body) (is_own_loop n body) (bundle ds n test body) (bundle dt n test body) refl (λ g. of-facts dt n test body (longer-facts (facts-of ds n test body g))) h

    loop-none : is_empty (deferred_of body) ≡ true → each_passes defers_nothing (local_loop ds x q k at hd test body) ≡ true
    loop-none h = by (keeps_local ds x n test body)
      where
        by : (b : Bool) → each_passes defers_nothing (cond b (sequence (set_to q x at hd ∷ Foreach k at hd (mi test) (mv body) ∷ [])) (Foreach k at hd test body)) ≡ true
        by true = and-true (is_empty (deferred_of (mv body))) true (ap is_empty (deferred-of-moved x q n at t body) ∙ h) refl
        by false = h

-- what is known of a program, one local after another
pub record Known (p : Program) : Type 0 where
  pub ready : Ready2 p
  pub none : each_passes defers_nothing p.body ≡ true
  pub facts : each_passes (bundled p.declarations) p.body ≡ true

one-known : (x : ℕ) (p : Program) → Known p → Known (with_kept_local x p)
one-known x p w =
    let s = sound-of p w.ready in
    record {
      ready = ready-kept x p w.ready;
      none = each-kept p.declarations p.result defers_nothing defers_nothing (local_loop p.declarations x (length p.declarations)) (loop-none p.declarations p.result x) p.body s w.none;
      facts = each-kept p.declarations p.result (bundled p.declarations) (bundled (p.declarations ++ (copy_of p.declarations x ∷ []))) (local_loop p.declarations x (length p.declarations)) (loop-facts p.declarations p.result x) p.body s w.facts;
    }

each-known : (xs : List ℕ) (p : Program) → Known p → Known (with_each_kept xs p)
each-known [] p w = w
each-known (x ∷ xs) p w = each-known xs (cond (some_keeps p.declarations x p.body) (with_kept_local x p) p) (by (some_keeps p.declarations x p.body))
  where
    by : (b : Bool) → Known (cond b (with_kept_local x p) p)
    by true = one-known x p w
    by false = w

-- ---- when all have gone

keeps-each : (ds : List Declaration) (s : Stmt) → keeps_none_in ds s ≡ true → each_passes (λ k at h test body. keeps_none ds h.iterator test body) s ≡ true
keeps-each ds (Then a b) h =
    let r = both-true (keeps_none_in ds a) (keeps_none_in ds b) h in
    and-true (each_passes (λ k at h test body. keeps_none ds h.iterator test body) a) (each_passes (λ k at h test body. keeps_none ds h.iterator test body) b) (keeps-each ds a r.0) (keeps-each ds b r.1)
keeps-each ds (Foreach k at hd test body) h = h
keeps-each ds (For k at hd test body) h = keeps-each ds body h
keeps-each ds (If k c a b) h =
    let r = both-true (keeps_none_in ds a) (keeps_none_in ds b) h in
    and-true (each_passes (λ k at h test body. keeps_none ds h.iterator test body) a) (each_passes (λ k at h test body. keeps_none ds h.iterator test body) b) (keeps-each ds a r.0) (keeps-each ds b r.1)
keeps-each ds (While k at c body) h = keeps-each ds body h
keeps-each ds (Do k at body c) h = keeps-each ds body h
keeps-each ds s h = refl

pub declared-listed : (x : ℕ) (s : Stmt) → declares x s ≡ true → IsIn x (locals_of s)
declared-listed x (Then a b) h =
    ⊎_elim (λ l. in-left x (locals_of a) (locals_of b) (declared-listed x a l)) (λ l. in-right x (locals_of a) (locals_of b) (declared-listed x b l)) (either-true (declares x a) (declares x b) h)
declared-listed x (If k c a b) h =
    ⊎_elim (λ l. in-left x (locals_of a) (locals_of b) (declared-listed x a l)) (λ l. in-right x (locals_of a) (locals_of b) (declared-listed x b l)) (either-true (declares x a) (declares x b) h)
declared-listed x (Declare k y e) h = inl (sym (eqb-true y x h))
declared-listed x s h = absurd (both_ways false refl h)

-- a loop that is cut, and keeps none, names none
module _ (ds : List Declaration) (res : Option VType) (k : Key) (at : Place) (hd : Head) (test : Expr) (body : Stmt) (sound : Sound ds res (Foreach k at hd test body)) where
  abbrev m : ℕ
  m = hd.iterator

  gone : is_empty (deferred_of body) ≡ true → keeps_none ds m test body ≡ true → is_own_loop m body || bundle ds m test body ≡ true → is_own_loop m body || names_no_local ds m body ≡ true
  gone none kept h = by (is_own_loop m body) refl h
    where
      outer : is_outer_body ds false m body ≡ true
      outer = (both-true (is_flat (m ∷ []) false test) (is_outer_body ds false m body) (both-true (is_nodes hd.domain) (is_flat_loop ds false m test body) sound.form).1).1

      cut : is_own_loop m body ≡ false → holds_cut m body ≡ true
      cut o = by (holds_cut m body) refl
        where
          by : (b : Bool) → holds_cut m body ≡ b → b ≡ true
          by true e = refl
          by false e =
              let w = own-uncut ds m body outer (nothing-deferred ds m body outer none) e in
              absurd (both_ways (is_own_loop m body) o (and-true (is_own_code m body) (adds_last (m ∷ []) body) (own-code m body w) (own-adds m body w).1))

      none-left : holds_cut m body ≡ true → (its : List ℕ) (z : ℕ) → z < length ds → is_no_local ds its z || may_be_kept ds m test body z ≡ true → is_no_local ds its z ≡ true
      none-left c its z l h =
          ⊎_elim (λ g. g)
          (λ (g : may_be_kept ds m test body z ≡ true).
          let a = both-true (sort_eq Sorts.Scalar (variable_at ds z).sort) (declares z body && (names_plainly z test && may_move z m body)) g in
          let b = both-true (declares z body) (names_plainly z test && may_move z m body) a.1 in
          let keeps : keeps_local ds z m test body ≡ true =
          and-true (sort_eq Sorts.Scalar (variable_at ds z).sort) (declares z body && (holds_cut m body && (names_plainly z test && may_move z m body))) a.0
          (and-true (declares z body) (holds_cut m body && (names_plainly z test && may_move z m body)) b.0 (and-true (holds_cut m body) (names_plainly z test && may_move z m body) c b.1)) in
          absurd (both_ways false refl (ap not (sym keeps) ∙ each-member (λ y. not (keeps_local ds y m test body)) (locals_of body) kept z (declared-listed z body b.0))))
          (either-true (is_no_local ds its z) (may_be_kept ds m test body z) h)

      by : (o : Bool) → is_own_loop m body ≡ o → o || bundle ds m test body ≡ true → o || names_no_local ds m body ≡ true
      by true e h = refl
      by false e h =
          names-more (length ds) (λ its z. is_no_local ds its z || may_be_kept ds m test body z) (is_no_local ds) (none-left (cut e)) (m ∷ []) body (names-below ds (Foreach k at hd test body) sound.named).3
          (facts-of ds m test body h).locals

-- ---- all facts as one, and one of them

all-bundled : (p : Program) → Ready2 p → has_lasting_filters p ≡ true → has_repeatable_conditions p ≡ true → has_movable_locals p ≡ true → has_even_tuples p ≡ true → has_iterators_in_place p ≡ true →
    each_passes (bundled p.declarations) p.body ≡ true
all-bundled p r f1 f2 f3 f5 f6 =
    let ds = p.declarations in
    let A : Test = λ k at h test body. is_own_loop h.iterator body || is_lasting ds h.iterator (touched body) test in
    let B : Test = λ k at h test body. is_own_loop h.iterator body || conditions_repeat ds h.iterator body in
    let C : Test = λ k at h test body. is_own_loop h.iterator body || locals_may_go ds h.iterator test body in
    let E : Test = λ k at h test body. is_own_loop h.iterator body || reduces_evenly ds body in
    let F : Test = λ k at h test body. is_own_loop h.iterator body || (nat_lt (depth_at ds h.iterator) 2 && inner_iterators_deep ds body) in
    each-so ds p.result (both A (both B (both C (both E F)))) (bundled ds)
    (λ k at h test body w q. all (is_own_loop h.iterator body) (is_lasting ds h.iterator (touched body) test) (conditions_repeat ds h.iterator body) (locals_may_go ds h.iterator test body) (reduces_evenly ds body)
    (nat_lt (depth_at ds h.iterator) 2 && inner_iterators_deep ds body) q)
    p.body (sound-of p r)
    (each-both A (both B (both C (both E F))) p.body f1 (each-both B (both C (both E F)) p.body f2 (each-both C (both E F) p.body f3 (each-both E F p.body f5 f6))))
  where
    all : (o a b c e f : Bool) → (o || a) && ((o || b) && ((o || c) && ((o || e) && (o || f)))) ≡ true → o || (a && (b && (c && (e && f)))) ≡ true
    all true a b c e f h = refl
    all false a b c e f h = h

pub part-of : (o x y : Bool) → (x ≡ true → y ≡ true) → o || x ≡ true → o || y ≡ true
part-of true x y f h = refl
part-of false x y f h = f h

-- what comes of such a program when all have gone
pub known-prepared : (p : Program) → Known p → IsPrepared (with_kept_locals p)
known-prepared p known =
    let out = with_kept_locals p in
    let w : Known out = each-known (locals_in p.body) p known in
    let ds = out.declarations in
    let s = sound-of out w.ready in
    let kept : Test = λ k at h test body. keeps_none ds h.iterator test body in
    let still : (G : Test) → ((k : Key) (at : Place) (h : Head) (test : Expr) (body : Stmt) → bundled ds k at h test body ≡ true → G k at h test body ≡ true) → each_passes G out.body ≡ true =
    λ G f. each-so ds out.result (bundled ds) G (λ k at h test body c q. f k at h test body q) out.body s w.facts in
    without-locals out w.ready (deferred-each out.body ∙ w.none)
    (still (λ k at h test body. is_own_loop h.iterator body || is_lasting ds h.iterator (touched body) test) (λ k at h test body q. part-of (is_own_loop h.iterator body) (bundle ds h.iterator test body) (is_lasting ds h.iterator (touched body) test) (λ g. (facts-of ds h.iterator test body g).filter) q))
    (still (λ k at h test body. is_own_loop h.iterator body || conditions_repeat ds h.iterator body) (λ k at h test body q. part-of (is_own_loop h.iterator body) (bundle ds h.iterator test body) (conditions_repeat ds h.iterator body) (λ g. (facts-of ds h.iterator test body g).conditions) q))
    (each-so ds out.result (both defers_nothing (both kept (bundled ds))) (λ k at h test body. is_own_loop h.iterator body || names_no_local ds h.iterator body)
    (λ k at h test body c q.
    let a = both-true (is_empty (deferred_of body)) (keeps_none ds h.iterator test body && bundled ds k at h test body) q in
    let b = both-true (keeps_none ds h.iterator test body) (bundled ds k at h test body) a.1 in
    gone ds out.result k at h test body c a.0 b.0 b.1)
    out.body s (each-both defers_nothing (both kept (bundled ds)) out.body w.none (each-both kept (bundled ds) out.body (keeps-each ds out.body (locals-moved-out p)) w.facts)))
    (still (λ k at h test body. is_own_loop h.iterator body || reduces_evenly ds body) (λ k at h test body q. part-of (is_own_loop h.iterator body) (bundle ds h.iterator test body) (reduces_evenly ds body) (λ g. (facts-of ds h.iterator test body g).even) q))
    (still (λ k at h test body. is_own_loop h.iterator body || (nat_lt (depth_at ds h.iterator) 2 && inner_iterators_deep ds body))
    (λ k at h test body q. part-of (is_own_loop h.iterator body) (bundle ds h.iterator test body) (nat_lt (depth_at ds h.iterator) 2 && inner_iterators_deep ds body)
    (λ g. let f = facts-of ds h.iterator test body g in and-true (nat_lt (depth_at ds h.iterator) 2) (inner_iterators_deep ds body) f.outer f.deep) q))

-- a program whose locals may all go to properties is prepared then
pub locals-gone : (p : Program) → Ready2 p → has_no_deferred p ≡ true → has_lasting_filters p ≡ true → has_repeatable_conditions p ≡ true → has_movable_locals p ≡ true → has_even_tuples p ≡ true → has_iterators_in_place p ≡ true →
    IsPrepared (with_kept_locals p)
locals-gone p r none f1 f2 f3 f5 f6 =
    known-prepared p (record { ready = r; none = sym (deferred-each p.body) ∙ none; facts = all-bundled p r f1 f2 f3 f5 f6 })
