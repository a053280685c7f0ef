-- Such a body: the locals that it declares, what it writes, its conditions, tuples and iterators.
use Rattle.std.proofs.Common.{◌≡◌, ◌<◌, ◌≤◌, ◌+◌, arith, ℕ, Bool, true, false, cond, List, [], ◌∷◌, ◌++◌, append-nil, length, map, refl, sym, ap, subst, ◌∙◌, Option, Some, None, ◌⊎◌, ⊎_elim, inl, inr}
use Rattle.std.specs.Prelude.{◌&&◌, ◌||◌, not, nat_eq, nat_lt, option_map}
use Rattle.std.specs.List.{list_all, list_any}
use Rattle.std.proofs.lemmas.Bool.{both_ways, eq-eqb, eqb-true, ne_eqb}
use Rattle.std.proofs.lemmas.Bool.Decides.{nat_tests}
use Rattle.gm_base.specs.declared.places.Place.{Place}
use Rattle.gm_value.specs.Bag.{IsIn}
use Rattle.gm_value.specs.declared.reductions.Reduce.{Reduce}
use Rattle.gm_value.specs.declared.values.Value.{Value}
use Rattle.gm_ast.specs.declared.tree.Declaration.{Declaration}
use Rattle.gm_ast.specs.declared.tree.Key.{Key}
use Rattle.gm_ast.specs.declared.tree.Sort.TheVariants as Sorts
use Rattle.gm_ast.specs.declared.tree.Target.{Target}
use Rattle.gm_ast.specs.declared.tree.Target.TheVariants as T
use Rattle.gm_ast.specs.declared.tree.TotalKey.{TotalKey}
use Rattle.gm_ast.specs.Names.{sort_eq}
use Rattle.gm_ast.specs.Program.{Expr, Var, Property, Stmt, Skip, Then, Declare, DeclareEdge, Assign, Defer, Combine, Group, Foreach, For, If, While, Do, InBfs, InBfsBoth, Return, sequence}
use Rattle.gm_ast.specs.Ways.{is_in}
use Rattle.gm_semantics.specs.Frames.{ReadsBelow, TargetsBelow, NamesBelow}
use Rattle.gm_semantics.specs.Statements.{variable_at}
use Rattle.gm_forms.specs.Cut.{is_mask, touched}
use Rattle.gm_forms.specs.Forms.{depth_at, may, is_flat}
use Rattle.gm_forms.specs.Sharing.{told_in, written_by, is_through, are_alike, are_distinct, variables_of}
use Rattle.gm_forms.specs.Uses.{Iterates, Written, has_role, use_as, suits, uses_in_all, uses_of_targets}
use Rattle.gm_forms.proofs.Doings.{in-left, in-right, in-either}
use Rattle.gm_forms.proofs.Named.{both-true, all-append, names-below}
use Rattle.gm_forms.proofs.Weaker.{and-true}
use Rattle.gm_loop_laws.specs.Masks.{spares}
use Rattle.gm_loop_laws.proofs.Kept.{touched-below}
use Rattle.gm_dissect.specs.Conditions.{is_random, holds_cut, is_variable, asks_variables}
use Rattle.gm_dissect.specs.Locals.{declares, locals_of}
use Rattle.gm_dissect.proofs.Undeferred.{two-same}
use Rattle.gm_locals.specs.AllMoved.{read_from, aimed_at, declared_at, all_moved_in, all_moved_target, all_moved}
use Rattle.gm_cut.proofs.Roles.{touched-apart}
use Rattle.gm_parting.specs.InnerLoops.{inner_iterators_deep}
use Rattle.gm_parting.specs.Lasting.{is_outside, is_shallow, is_lasting, may_be_repeated, conditions_last, conditions_repeat}
use Rattle.gm_parting.specs.Locals.{target_passes, names_pass}
use Rattle.gm_parting.specs.Nodes.{separate, is_body_local, node_before, through, read_first, one_if, nodes_in, nodes_read}
use Rattle.gm_parting.specs.Tuples.{is_scalar_at, are_even, reduces_evenly}
use Rattle.gm_parting.proofs.GroupsOf.{found, finds}
use Rattle.gm_parting.proofs.Homes.{Homes, Fresh}
use Rattle.gm_parting.proofs.Movable.{Names, Part, Inside, part-both, part-branches, part-loop, inside-both, inside-branches}
use Rattle.gm_parting.proofs.MovedPrograms.{scalar-apart}
use Rattle.gm_parting.proofs.NoLocals.{written-apart, inner-apart}
use Rattle.gm_parting.proofs.Tidy.{Distinct}

no-true : (b : Bool) → (b ≡ true → ⊥) → b ≡ false
no-true true h = absurd (h refl)
no-true false h = refl

or-true : (b : Bool) → b || true ≡ true
or-true true = refl
or-true false = refl

distinct-both : (xs ys : List ℕ) → Distinct xs → Distinct ys → ((z : ℕ) → IsIn z xs → IsIn z ys → ⊥) → Distinct (xs ++ ys)
distinct-both [] ys p q o = q
distinct-both (x ∷ xs) ys p q o = (λ i. ⊎_elim p.0 (o x (inl refl)) (in-either x xs ys i), distinct-both xs ys p.1 q (λ z i j. o z (inr i) j))

not-in : (xs : List ℕ) (x : ℕ) → (IsIn x xs → ⊥) → not (is_in xs x) ≡ true
not-in xs x h = by (is_in xs x) refl
  where
    by : (b : Bool) → is_in xs x ≡ b → not b ≡ true
    by true e = absurd (h (found xs x e))
    by false e = refl

out-of : (xs : List ℕ) (x : ℕ) → not (is_in xs x) ≡ true → IsIn x xs → ⊥
out-of xs x h i = both_ways false refl (ap not (sym (finds xs x i)) ∙ h)

module _ (ds : List Declaration) (n : ℕ) (iterates : has_role (variable_at ds n) Iterates ≡ true) (whole : Stmt) (dt : List Declaration) (home : ℕ → Option ℕ) (top : ℕ) (at : Place) (zero : ℕ → Value) (homes : Homes ds n iterates whole dt home top at zero) where
  abbrev mi : Expr → Expr
  mi e = all_moved_in home n e

  abbrev mt : Target → Target
  mt t = all_moved_target home n t

  abbrev mv : Stmt → Stmt
  mv s = all_moved home n at zero s

  abbrev Rows : ℕ → ℕ → ℕ → Type 0
  Rows d base count = Fresh ds n iterates whole dt home top at zero d base count

  abbrev IsPart : Stmt → Type 0
  IsPart s = Part ds n iterates whole s

  -- ---- the locals that it declares

  abbrev Between : ℕ → ℕ → List ℕ → Type 0
  Between a b xs = (z : ℕ) → IsIn z xs → (a ≤ z) × (z < b)

  -- a local of the outer body has gone
  declared-none : (k : Key) (z : ℕ) (e : Option Expr) → IsPart (Declare k z e) → locals_of (mv (Declare k z e)) ≡ []
  declared-none k z e p = by (home z) refl
    where
      named : (e : Option Expr) → names_pass (Names ds n iterates whole) (n ∷ []) (Declare k z e) ≡ true → Names ds n iterates whole (n ∷ []) z ≡ true
      named e h = (both-true (Names ds n iterates whole (n ∷ []) z) _ h).0

      away : (a b c : Bool) → a ≡ false → b ≡ true → (a || not b) || c ≡ true → c ≡ true
      away true b c o d h = absurd (both_ways true o refl)
      away false true c o d h = h
      away false false c o d h = absurd (both_ways false refl d)

      by : (o : Option ℕ) → home z ≡ o → locals_of (declared_at n at zero o k z (option_map (all_moved_in home n) e)) ≡ []
      by None r =
          absurd (homes.has z (away (is_in (n ∷ []) z) (nat_eq (depth_at ds z) 1) (declares z whole)
          (ap (λ b. b || false) (no-true (nat_eq z n) (λ q. touched-apart ds n iterates (Declare k z e) p.named (inl (sym (eqb-true z n q)))))) (both-true (nat_eq (depth_at ds z) 1) (may (is_flat (n ∷ []) false) e) p.form).0 (named e p.names)) r)
      by (Some q) r = refl

  combine-locals : (y : ℕ) (k : Key) (total : TotalKey) (o : Reduce) (ts : List Target) (es : List Expr) → (one_if (node_before ds ts) ≡ 1 → home y ≡ None) →
      (locals_of (mv (read_first true (node_before ds ts) y k total o ts es)) ≡ []) ⊎ ((one_if (node_before ds ts) ≡ 1) × (locals_of (mv (read_first true (node_before ds ts) y k total o ts es)) ≡ y ∷ []))
  combine-locals y k total o ts es row = by (node_before ds ts) row
    where
      by : (m : Option Expr) → (one_if m ≡ 1 → home y ≡ None) → (locals_of (mv (read_first true m y k total o ts es)) ≡ []) ⊎ ((one_if m ≡ 1) × (locals_of (mv (read_first true m y k total o ts es)) ≡ y ∷ []))
      by None row = inl refl
      by (Some e) row = inr (refl, ap (λ h. (locals_of (declared_at n at zero h k y (Some (mi e))) ++ ([] ++ [])) ++ []) (row refl))

  -- they are fresh, and none stands twice
  body-locals : (first deep count i : ℕ) (s : Stmt) → Rows 1 first count → i + nodes_in ds s ≤ count → IsPart s →
      Distinct (locals_of (mv (nodes_read ds true first deep i s))) × Between (first + i) (first + (i + nodes_in ds s)) (locals_of (mv (nodes_read ds true first deep i s)))
  body-locals first deep count i (Then a b) fr l p =
      let r = part-both ds n iterates whole a b p in
      let x = body-locals first deep count i a fr (omega (arith, l)) r.0 in
      let y = body-locals first deep count (i + nodes_in ds a) b fr (omega (arith, l)) r.1 in
      let xs = locals_of (mv (nodes_read ds true first deep i a)) in
      let ys = locals_of (mv (nodes_read ds true first deep (i + nodes_in ds a) b)) in (
        distinct-both xs ys x.0 y.0 (λ z u v. let c = x.1 z u in let d = y.1 z v in let c1 = c.1 in let d0 = d.0 in omega (arith, c1, d0)),
        λ z j. ⊎_elim (λ u. let c = x.1 z u in let c0 = c.0 in let c1 = c.1 in (c0, omega (arith, c1))) (λ v. let d = y.1 z v in let d0 = d.0 in let d1 = d.1 in (omega (arith, d0), omega (arith, d1))) (in-either z xs ys j),
      )
  body-locals first deep count i (If k c a b) fr l p =
      let r = part-both ds n iterates whole a b (part-branches ds n iterates whole k c a b p).1 in
      let x = body-locals first deep count i a fr (omega (arith, l)) r.0 in
      let y = body-locals first deep count (i + nodes_in ds a) b fr (omega (arith, l)) r.1 in
      let xs = locals_of (mv (nodes_read ds true first deep i a)) in
      let ys = locals_of (mv (nodes_read ds true first deep (i + nodes_in ds a) b)) in (
        distinct-both xs ys x.0 y.0 (λ z u v. let c = x.1 z u in let d = y.1 z v in let c1 = c.1 in let d0 = d.0 in omega (arith, c1, d0)),
        λ z j. ⊎_elim (λ u. let c = x.1 z u in let c0 = c.0 in let c1 = c.1 in (c0, omega (arith, c1))) (λ v. let d = y.1 z v in let d0 = d.0 in let d1 = d.1 in (omega (arith, d0), omega (arith, d1))) (in-either z xs ys j),
      )
  body-locals first deep count i (Declare k z e) fr l p = let none = declared-none k z e p in (subst Distinct (sym none) tt, λ w j. absurd (subst (IsIn w) none j))
  body-locals first deep count i (Combine k total o ts es) fr l p =
      ⊎_elim (λ none. (subst Distinct (sym none) tt, λ w j. absurd (subst (IsIn w) none j)))
      (λ (r : (one_if (node_before ds ts) ≡ 1) × (locals_of (mv (read_first true (node_before ds ts) (first + i) k total o ts es)) ≡ (first + i) ∷ [])). let e = r.0 in
      (subst Distinct (sym r.1) ((λ j. j), tt), λ w j. ⊎_elim (λ (q : w ≡ first + i). (omega (arith, q), omega (arith, q, e))) (λ v. absurd v) (subst (IsIn w) r.1 j)))
      (combine-locals (first + i) k total o ts es (λ e. fr.stays i (omega (arith, e, l))))
  body-locals first deep count i (Skip) fr l p = (tt, λ w j. absurd j)
  body-locals first deep count i (DeclareEdge x y q) fr l p = (tt, λ w j. absurd j)
  body-locals first deep count i (Assign k t e) fr l p = (tt, λ w j. absurd j)
  body-locals first deep count i (Defer k t e) fr l p = (tt, λ w j. absurd j)
  body-locals first deep count i (Group k q g r e) fr l p = (tt, λ w j. absurd j)
  body-locals first deep count i (Foreach k q hd test body) fr l p = (tt, λ w j. absurd j)
  body-locals first deep count i (For k q hd test body) fr l p = (tt, λ w j. absurd j)
  body-locals first deep count i (While k q c body) fr l p = (tt, λ w j. absurd j)
  body-locals first deep count i (Do k q body c) fr l p = (tt, λ w j. absurd j)
  body-locals first deep count i (InBfs k q hd c body) fr l p = (tt, λ w j. absurd j)
  body-locals first deep count i (InBfsBoth k q hd c body j d back) fr l p = (tt, λ w v. absurd v)
  body-locals first deep count i (Return k q e) fr l p = (tt, λ w j. absurd j)

  pub distinct-locals : (first deep count : ℕ) (s : Stmt) → Rows 1 first count → nodes_in ds s ≤ count → IsPart s → Distinct (locals_of (mv (nodes_read ds true first deep 0 s)))
  distinct-locals first deep count s fr l p = (body-locals first deep count 0 s fr (omega (arith, l)) p).0

  -- ---- what it writes

  -- what was written, or a fresh node, or the property of a local that was written
  abbrev Now : List ℕ → ℕ → Type 0
  Now xs w = IsIn w xs ⊎ ((length ds ≤ w) × ((w < top) ⊎ ((z : ℕ) × (home z ≡ Some w) × IsIn z xs)))

  now-left : (xs ys : List ℕ) (w : ℕ) → Now xs w → Now (xs ++ ys) w
  now-left xs ys w h =
      ⊎_elim (λ i. inl (in-left w xs ys i)) (λ (r : (length ds ≤ w) × ((w < top) ⊎ ((z : ℕ) × (home z ≡ Some w) × IsIn z xs))). inr (r.0, ⊎_elim (λ l. inl l) (λ (q : (z : ℕ) × (home z ≡ Some w) × IsIn z xs). inr (q.0, q.1, in-left q.0 xs ys q.2)) r.1)) h

  now-right : (xs ys : List ℕ) (w : ℕ) → Now ys w → Now (xs ++ ys) w
  now-right xs ys w h =
      ⊎_elim (λ i. inl (in-right w xs ys i)) (λ (r : (length ds ≤ w) × ((w < top) ⊎ ((z : ℕ) × (home z ≡ Some w) × IsIn z ys))). inr (r.0, ⊎_elim (λ l. inl l) (λ (q : (z : ℕ) × (home z ≡ Some w) × IsIn z ys). inr (q.0, q.1, in-right q.0 xs ys q.2)) r.1)) h

  now-home : (z p w : ℕ) → home z ≡ Some p → w ≡ p → Now (z ∷ []) w
  now-home z p w e f = let under = homes.under in let high = homes.fresh z p e in inr (omega (arith, f, under, high), inr (z, e ∙ ap Some (sym f), inl refl))

  target-now : (t : Target) (w : ℕ) → IsIn w (written_by (mt t)) → Now (written_by t) w
  target-now (T.Scalar z q) w i = by (home z) refl i
    where
      by : (o : Option ℕ) → home z ≡ o → IsIn w (written_by (aimed_at n o z q)) → Now (z ∷ []) w
      by None e i = inl i
      by (Some p) e i = ⊎_elim (λ f. now-home z p w e f) (λ j. absurd j) i
  target-now (T.Property z r q) w i = inl i

  targets-now : (ts : List Target) (w : ℕ) → IsIn w (variables_of (map mt ts)) → Now (variables_of ts) w
  targets-now [] w i = absurd i
  targets-now (t ∷ ts) w i =
      ⊎_elim (λ j. now-left (written_by t) (variables_of ts) w (target-now t w j)) (λ j. now-right (written_by t) (variables_of ts) w (targets-now ts w j)) (in-either w (written_by (mt t)) (variables_of (map mt ts)) i)

  declared-now : (k : Key) (z : ℕ) (e : Option Expr) (w : ℕ) → IsIn w (touched (mv (Declare k z e))) → Now (z ∷ []) w
  declared-now k z e w i = by (home z) refl i
    where
      by : (o : Option ℕ) → home z ≡ o → IsIn w (touched (declared_at n at zero o k z (option_map (all_moved_in home n) e))) → Now (z ∷ []) w
      by None r i = inl i
      by (Some p) r i = ⊎_elim (λ f. now-home z p w r f) (λ j. absurd j) i

  variables-through : (y : ℕ) (ts : List Target) → variables_of (map (through y) ts) ≡ variables_of ts
  variables-through y [] = refl
  variables-through y (T.Scalar z q ∷ ts) = ap (λ l. z ∷ l) (variables-through y ts)
  variables-through y (T.Property z r q ∷ ts) = ap (λ l. r ∷ l) (variables-through y ts)

  combine-now : (outer : Bool) (y : ℕ) (k : Key) (total : TotalKey) (o : Reduce) (ts : List Target) (es : List Expr) → (one_if (node_before ds ts) ≡ 1 → (length ds ≤ y) × (y < top) × (home y ≡ None)) → (w : ℕ) →
      IsIn w (touched (mv (read_first outer (node_before ds ts) y k total o ts es))) → Now (variables_of ts) w
  combine-now outer y k total o ts es row w i = by (node_before ds ts) row i
    where
      inside : (e : Expr) → (length ds ≤ y) × (y < top) × (home y ≡ None) → IsIn w (touched (declared_at n at zero (home y) k y (Some (mi e))) ++ (variables_of (map mt (map (through y) ts)) ++ [])) → Now (variables_of ts) w
      inside e r i =
          ⊎_elim (λ j. ⊎_elim (λ (f : w ≡ y). inr (subst (λ x. length ds ≤ x) (sym f) r.0, inl (subst (λ x. x < top) (sym f) r.1))) (λ v. absurd v) (subst (λ h. IsIn w (touched (declared_at n at zero h k y (Some (mi e))))) r.2 j))
          (λ j. subst (λ xs. Now xs w) (variables-through y ts) (targets-now (map (through y) ts) w (subst (IsIn w) (append-nil (variables_of (map mt (map (through y) ts)))) j)))
          (in-either w (touched (declared_at n at zero (home y) k y (Some (mi e)))) (variables_of (map mt (map (through y) ts)) ++ []) i)

      both : (b : Bool) (e : Expr) → (length ds ≤ y) × (y < top) × (home y ≡ None) → IsIn w (touched (mv (separate b k (sequence (Declare k y (Some e) ∷ Combine k total o (map (through y) ts) es ∷ []))))) → Now (variables_of ts) w
      both true e r i = inside e r (subst (IsIn w) (append-nil (touched (declared_at n at zero (home y) k y (Some (mi e))) ++ (variables_of (map mt (map (through y) ts)) ++ []))) i)
      both false e r i = inside e r i

      by : (m : Option Expr) → (one_if m ≡ 1 → (length ds ≤ y) × (y < top) × (home y ≡ None)) → IsIn w (touched (mv (read_first outer m y k total o ts es))) → Now (variables_of ts) w
      by None row i = targets-now ts w i
      by (Some e) row i = both outer e (row refl) i

  touched-now : (outer : Bool) (d first deep count i : ℕ) (s : Stmt) → Rows d first count → Rows 2 deep count → i + nodes_in ds s ≤ count → (w : ℕ) → IsIn w (touched (mv (nodes_read ds outer first deep i s))) → Now (touched s) w
  touched-now outer d first deep count i (Then a b) fr fd l w j =
      ⊎_elim (λ u. now-left (touched a) (touched b) w (touched-now outer d first deep count i a fr fd (omega (arith, l)) w u)) (λ u. now-right (touched a) (touched b) w (touched-now outer d first deep count (i + nodes_in ds a) b fr fd (omega (arith, l)) w u))
      (in-either w (touched (mv (nodes_read ds outer first deep i a))) (touched (mv (nodes_read ds outer first deep (i + nodes_in ds a) b))) j)
  touched-now outer d first deep count i (If k c a b) fr fd l w j =
      ⊎_elim (λ u. now-left (touched a) (touched b) w (touched-now outer d first deep count i a fr fd (omega (arith, l)) w u)) (λ u. now-right (touched a) (touched b) w (touched-now outer d first deep count (i + nodes_in ds a) b fr fd (omega (arith, l)) w u))
      (in-either w (touched (mv (nodes_read ds outer first deep i a))) (touched (mv (nodes_read ds outer first deep (i + nodes_in ds a) b))) j)
  touched-now outer d first deep count i (Declare k z e) fr fd l w j = declared-now k z e w j
  touched-now outer d first deep count i (Assign k t e) fr fd l w j = target-now t w j
  touched-now outer d first deep count i (Defer k t e) fr fd l w j = inl j
  touched-now outer d first deep count i (Combine k total o ts es) fr fd l w j =
      combine-now outer (first + i) k total o ts es (λ e. let high = fr.high in let inside = fr.inside in let v : i < count = omega (arith, e, l) in (omega (arith, high), omega (arith, inside, v), fr.stays i v)) w j
  touched-now outer d first deep count i (Foreach k q hd test body) fr fd l w j = touched-now false 2 deep deep count i body fd fd l w j
  touched-now outer d first deep count i Skip fr fd l w j = inl j
  touched-now outer d first deep count i (DeclareEdge x y q) fr fd l w j = inl j
  touched-now outer d first deep count i (Group k q g r e) fr fd l w j = inl j
  touched-now outer d first deep count i (For k q hd test body) fr fd l w j = inl j
  touched-now outer d first deep count i (While k q c body) fr fd l w j = inl j
  touched-now outer d first deep count i (Do k q body c) fr fd l w j = inl j
  touched-now outer d first deep count i (InBfs k q hd c body) fr fd l w j = inl j
  touched-now outer d first deep count i (InBfsBoth k q hd c body x y back) fr fd l w j = inl j
  touched-now outer d first deep count i (Return k q e) fr fd l w j = inl j

  -- nothing old is written that was not
  pub touched-old : (first deep count : ℕ) (s : Stmt) → Rows 1 first count → Rows 2 deep count → nodes_in ds s ≤ count → (w : ℕ) → IsIn w (touched (mv (nodes_read ds true first deep 0 s))) → IsIn w (touched s) ⊎ (length ds ≤ w)
  touched-old first deep count s fr fd l w i = ⊎_elim (λ j. inl j) (λ (r : (length ds ≤ w) × ((w < top) ⊎ ((z : ℕ) × (home z ≡ Some w) × IsIn z (touched s)))). inr r.0) (touched-now true 1 first deep count 0 s fr fd (omega (arith, l)) w i)

  -- ---- what is cut from it

  random-moved : (ts : List Target) → list_any (is_random n) (map mt ts) ≡ list_any (is_random n) ts
  random-moved [] = refl
  random-moved (T.Scalar z q ∷ ts) = by (home z) (random-moved ts)
    where
      by : (o : Option ℕ) → list_any (is_random n) (map mt ts) ≡ list_any (is_random n) ts → is_random n (aimed_at n o z q) || list_any (is_random n) (map mt ts) ≡ list_any (is_random n) ts
      by None h = h
      by (Some p) h = ap (λ b. not b || list_any (is_random n) (map mt ts)) (eq-eqb n n refl) ∙ h
  random-moved (T.Property z r q ∷ ts) = ap (λ b. not (nat_eq z n) || b) (random-moved ts)

  -- targets through another node variable are
  all-random : (y : ℕ) → nat_eq y n ≡ false → (t : Target) (ts : List Target) → list_all (is_through y) (t ∷ ts) ≡ true → list_any (is_random n) (t ∷ ts) ≡ true
  all-random y o (T.Property z r q) ts h = ap (λ b. not b || list_any (is_random n) ts) (ap (λ w. nat_eq w n) (eqb-true z y (both-true (nat_eq z y) (list_all (is_through y) ts) h).0) ∙ o)
  all-random y o (T.Scalar z q) ts h = absurd (both_ways false refl h)

  through-all : (z y : ℕ) (ts : List Target) → list_all (is_through z) ts ≡ true → list_all (is_through y) (map (through y) ts) ≡ true
  through-all z y [] h = refl
  through-all z y (T.Scalar w q ∷ ts) h = absurd (both_ways false refl h)
  through-all z y (T.Property w r q ∷ ts) h = ap (λ b. b && list_all (is_through y) (map (through y) ts)) (eq-eqb y y refl) ∙ through-all z y ts (both-true (nat_eq w z) (list_all (is_through z) ts) h).1

  or-false : (b : Bool) → b || false ≡ b
  or-false true = refl
  or-false false = refl

  local-away : (z : ℕ) → is_body_local ds z ≡ true → nat_eq z n ≡ false
  local-away z h = no-true (nat_eq z n) (λ e. scalar-apart (variable_at ds n) (subst (λ w. sort_eq Sorts.Scalar (variable_at ds w).sort ≡ true) (eqb-true z n e) (both-true (sort_eq Sorts.Scalar (variable_at ds z).sort) (nat_eq (depth_at ds z) 1) h).0) iterates)

  declared-holds : (k : Key) (z : ℕ) (e : Option Expr) → holds_cut n (mv (Declare k z e)) ≡ false
  declared-holds k z e = by (home z)
    where
      by : (o : Option ℕ) → holds_cut n (declared_at n at zero o k z (option_map (all_moved_in home n) e)) ≡ false
      by None = refl
      by (Some p) = refl

  combine-holds : (y : ℕ) (k : Key) (total : TotalKey) (o : Reduce) (ts : List Target) (es : List Expr) → (one_if (node_before ds ts) ≡ 1 → nat_eq y n ≡ false) → are_alike ts ≡ true →
      holds_cut n (mv (read_first true (node_before ds ts) y k total o ts es)) ≡ list_any (is_random n) ts
  combine-holds y k total o [] es row a = refl
  combine-holds y k total o (T.Scalar z q ∷ ts) es row a = random-moved (T.Scalar z q ∷ ts)
  combine-holds y k total o (T.Property z r q ∷ ts) es row a = by (is_body_local ds z) refl (λ e. row (ap (λ b. one_if (cond b (Some (Var z q)) None)) e))
    where
      us : List Target
      us = T.Property z r q ∷ ts

      all : list_all (is_through z) (T.Property z r q ∷ ts) ≡ true
      all = ap (λ b. b && list_all (is_through z) ts) (eq-eqb z z refl) ∙ a

      by : (b : Bool) → is_body_local ds z ≡ b → (b ≡ true → nat_eq y n ≡ false) → holds_cut n (mv (read_first true (cond b (Some (Var z q)) None) y k total o (T.Property z r q ∷ ts) es)) ≡ list_any (is_random n) (T.Property z r q ∷ ts)
      by false e row = random-moved us
      by true e row =
          let vs = map (through y) us in
          let D = declared_at n at zero (home y) k y (Some (mi (Var z q))) in
          or-false (holds_cut n D || (list_any (is_random n) (map mt vs) || false)) ∙ ap (λ b. b || (list_any (is_random n) (map mt vs) || false)) (declared-holds k y (Some (Var z q))) ∙ or-false (list_any (is_random n) (map mt vs))
          ∙ random-moved vs ∙ all-random y (row refl) (through y (T.Property z r q)) (map (through y) ts) (through-all z y us all) ∙ sym (all-random z (local-away z e) (T.Property z r q) ts all)

  pub body-holds : (first deep count i : ℕ) (s : Stmt) → Rows 1 first count → i + nodes_in ds s ≤ count → IsPart s → holds_cut n (mv (nodes_read ds true first deep i s)) ≡ holds_cut n s
  body-holds first deep count i (Then a b) fr l p =
      let r = part-both ds n iterates whole a b p in
      two-same (λ x y. x || y) (holds_cut n (mv (nodes_read ds true first deep i a))) (holds_cut n (mv (nodes_read ds true first deep (i + nodes_in ds a) b))) (holds_cut n a) (holds_cut n b) (body-holds first deep count i a fr (omega (arith, l)) r.0) (body-holds first deep count (i + nodes_in ds a) b fr (omega (arith, l)) r.1)
  body-holds first deep count i (If k c a b) fr l p =
      let r = part-both ds n iterates whole a b (part-branches ds n iterates whole k c a b p).1 in
      two-same (λ x y. x || y) (holds_cut n (mv (nodes_read ds true first deep i a))) (holds_cut n (mv (nodes_read ds true first deep (i + nodes_in ds a) b))) (holds_cut n a) (holds_cut n b) (body-holds first deep count i a fr (omega (arith, l)) r.0) (body-holds first deep count (i + nodes_in ds a) b fr (omega (arith, l)) r.1)
  body-holds first deep count i (Declare k z e) fr l p = declared-holds k z e
  body-holds first deep count i (Combine k total o ts es) fr l p =
      combine-holds (first + i) k total o ts es (λ e. ne_eqb (first + i) n (λ q. let high = fr.high in let low = homes.low in omega (arith, q, high, low))) (both-true (are_alike ts) (are_distinct (variables_of ts)) p.alike).0
  body-holds first deep count i s fr l p = refl

  -- ---- its conditions

  -- a variable that is asked where something is cut
  asked-lasts : (xs ys : List ℕ) (f : ℕ) (p : Place) → f < length ds → (IsIn n xs → ⊥) → ((w : ℕ) → IsIn w xs → w < length ds) → ((w : ℕ) → IsIn w ys → Now xs w) → Names ds n iterates whole (n ∷ []) f ≡ true → not (is_in xs f) ≡ true → is_shallow ds n f ≡ true → is_lasting dt n ys (mi (Var f p)) ≡ true
  asked-lasts xs ys f p low off old now named spare shallow = by (home f) refl
    where
      -- what is old stays unwritten
      stays : (z : ℕ) → z < length ds → (IsIn z xs → ⊥) → IsIn z ys → ⊥
      stays z l o i = ⊎_elim o (λ (r : (length ds ≤ z) × ((z < top) ⊎ ((w : ℕ) × (home w ≡ Some z) × IsIn w xs))). let high = r.0 in omega (arith, high, l)) (now z i)

      by : (o : Option ℕ) → home f ≡ o → is_lasting dt n ys (read_from n o f p) ≡ true
      by None e =
          and-true (not (is_in ys f)) (list_all (is_outside dt n) (f ∷ [])) (not-in ys f (stays f low (out-of xs f spare)))
          (and-true (is_outside dt n f) true (outside (nat_eq f n) refl) refl)
        where
          least : (d : ℕ) → nat_lt d 2 ≡ true → nat_eq d 1 ≡ false → nat_eq d 0 ≡ true
          least d h g = grind (arith, nat_tests, h, g)

          no-local : (a b c : Bool) → a ≡ false → (a || not b) || c ≡ true → (c ≡ true → ⊥) → b ≡ false
          no-local true b c o h g = absurd (both_ways true o refl)
          no-local false true true o h g = absurd (g refl)
          no-local false true false o h g = absurd (both_ways false refl h)
          no-local false false c o h g = refl

          outside : (b : Bool) → nat_eq f n ≡ b → is_outside dt n f ≡ true
          outside true q = ap (λ b. b || nat_eq (depth_at dt f) 0) q
          outside false q =
              let d : nat_lt (depth_at ds f) 2 ≡ true = sym (ap (λ b. b || nat_lt (depth_at ds f) 2) q) ∙ shallow in
              let one = no-local (is_in (n ∷ []) f) (nat_eq (depth_at ds f) 1) (declares f whole) (ap (λ b. b || false) q) named (λ g. homes.has f g e) in
              ap (λ b. b || nat_eq (depth_at dt f) 0) q ∙ ap (λ d. nat_eq d 0) (homes.depths f low) ∙ least (depth_at ds f) d one
      by (Some q) e =
          let high = homes.fresh f q e in
          let under = homes.under in
          let nlow = homes.low in
          let unwritten : IsIn q ys → ⊥ = λ i.
          ⊎_elim (λ j. let l = old q j in omega (arith, l, under, high))
          (λ (r : (length ds ≤ q) × ((q < top) ⊎ ((z : ℕ) × (home z ≡ Some q) × IsIn z xs))).
          ⊎_elim (λ (l : q < top). omega (arith, l, high)) (λ (m : (z : ℕ) × (home z ≡ Some q) × IsIn z xs). out-of xs f spare (subst (λ z. IsIn z xs) (homes.one m.0 f q m.1 e) m.2)) r.1) (now q i) in
          and-true (is_mask n (Property n q p)) (spares ys (Property n q p) && list_all (is_outside dt n) (n ∷ [])) (ap (λ b. b || false) (eq-eqb n n refl))
          (and-true (not (is_in ys n) && not (is_in ys q)) (list_all (is_outside dt n) (n ∷ [])) (and-true (not (is_in ys n)) (not (is_in ys q)) (not-in ys n (stays n nlow off)) (not-in ys q unwritten))
          (and-true (is_outside dt n n) true (ap (λ b. b || nat_eq (depth_at dt n) 0) (eq-eqb n n refl)) refl))

  unit-lasts : (b : Bool) (y : ℕ) (k : Key) (total : TotalKey) (o : Reduce) (m : Option Expr) (ts : List Target) (es : List Expr) → conditions_last dt n (mv (read_first true m y k total o ts es)) ≡ true
  unit-lasts b y k total o None ts es = refl
  unit-lasts b y k total o (Some e) ts es =
      let U = mv (sequence (Declare k y (Some e) ∷ Combine k total o (map (through y) ts) es ∷ [])) in
      and-true (not (holds_cut n U || false) || true) (conditions_last dt n U && true) (or-true (not (holds_cut n U || false))) (and-true (conditions_last dt n U) true (and-true (conditions_last dt n (mv (Declare k y (Some e)))) true (by (home y)) refl) refl)
    where
      by : (h : Option ℕ) → conditions_last dt n (declared_at n at zero h k y (Some (mi e))) ≡ true
      by None = refl
      by (Some p) = refl

  pub body-lasts : (first deep count i : ℕ) (s : Stmt) → Rows 1 first count → Rows 2 deep count → i + nodes_in ds s ≤ count → IsPart s → asks_variables n s ≡ true → conditions_repeat ds n s ≡ true → conditions_last dt n (mv (nodes_read ds true first deep i s)) ≡ true
  body-lasts first deep count i (Then a b) fr fd l p v h =
      let r = part-both ds n iterates whole a b p in
      let u = both-true (asks_variables n a) (asks_variables n b) v in
      let g = both-true (conditions_repeat ds n a) (conditions_repeat ds n b) h in
      let a' = mv (nodes_read ds true first deep i a) in
      let b' = mv (nodes_read ds true first deep (i + nodes_in ds a) b) in
      and-true (conditions_last dt n a') (conditions_last dt n b') (body-lasts first deep count i a fr fd (omega (arith, l)) r.0 u.0 g.0) (body-lasts first deep count (i + nodes_in ds a) b fr fd (omega (arith, l)) r.1 u.1 g.1)
  body-lasts first deep count i (If k c a b) fr fd l p v h =
      let q = part-branches ds n iterates whole k c a b p in
      let r = part-both ds n iterates whole a b q.1 in
      let holds = holds_cut n a || holds_cut n b in
      let xs = touched a ++ touched b in
      let u = both-true (not holds || is_variable c) (asks_variables n a && asks_variables n b) v in
      let w = both-true (asks_variables n a) (asks_variables n b) u.1 in
      let m = both-true (not holds || may_be_repeated ds n xs c) (conditions_repeat ds n a && conditions_repeat ds n b) h in
      let g = both-true (conditions_repeat ds n a) (conditions_repeat ds n b) m.1 in
      let a' = mv (nodes_read ds true first deep i a) in
      let b' = mv (nodes_read ds true first deep (i + nodes_in ds a) b) in
      let ys = touched a' ++ touched b' in
      let same : holds_cut n a' || holds_cut n b' ≡ holds = two-same (λ x y. x || y) (holds_cut n a') (holds_cut n b') (holds_cut n a) (holds_cut n b) (body-holds first deep count i a fr (omega (arith, l)) r.0) (body-holds first deep count (i + nodes_in ds a) b fr (omega (arith, l)) r.1) in
      let below = names-below ds (If k c a b) p.named in
      let old : (x : ℕ) → IsIn x xs → x < length ds = λ x j. ⊎_elim (touched-below (length ds) a below.1 x) (touched-below (length ds) b below.2 x) (in-either x (touched a) (touched b) j) in
      let off : IsIn n xs → ⊥ = λ j. touched-apart ds n iterates (If k c a b) p.named j in
      let now : (x : ℕ) → IsIn x ys → Now xs x = λ x j.
      ⊎_elim (λ e. now-left (touched a) (touched b) x (touched-now true 1 first deep count i a fr fd (omega (arith, l)) x e)) (λ e. now-right (touched a) (touched b) x (touched-now true 1 first deep count (i + nodes_in ds a) b fr fd (omega (arith, l)) x e)) (in-either x (touched a') (touched b') j) in
      and-true (not (holds_cut n a' || holds_cut n b') || is_lasting dt n ys (mi c)) (conditions_last dt n a' && conditions_last dt n b')
      (ap (λ b. not b || is_lasting dt n ys (mi c)) same ∙ by holds (is_variable c) (may_be_repeated ds n xs c) (is_lasting dt n ys (mi c)) u.0 m.0 (λ e f. one c e xs ys below.0 off old now q.0.names f))
      (and-true (conditions_last dt n a') (conditions_last dt n b') (body-lasts first deep count i a fr fd (omega (arith, l)) r.0 w.0 g.0) (body-lasts first deep count (i + nodes_in ds a) b fr fd (omega (arith, l)) r.1 w.1 g.1))
    where
      by : (o v m t : Bool) → not o || v ≡ true → not o || m ≡ true → (v ≡ true → m ≡ true → t ≡ true) → not o || t ≡ true
      by true v m t h g f = f h g
      by false v m t h g f = refl

      one : (c : Expr) → is_variable c ≡ true → (xs ys : List ℕ) → ReadsBelow (length ds) c → (IsIn n xs → ⊥) → ((w : ℕ) → IsIn w xs → w < length ds) → ((w : ℕ) → IsIn w ys → Now xs w) → list_all (Names ds n iterates whole (n ∷ [])) (told_in c) ≡ true → may_be_repeated ds n xs c ≡ true → is_lasting dt n ys (mi c) ≡ true
      one (Var f p) e xs ys low off old now names m =
          let w = both-true (is_mask n (Var f p)) (spares xs (Var f p) && list_all (is_shallow ds n) (f ∷ [])) m in
          let u = both-true (spares xs (Var f p)) (list_all (is_shallow ds n) (f ∷ [])) w.1 in
          asked-lasts xs ys f p low off old now (both-true (Names ds n iterates whole (n ∷ []) f) true names).0 u.0 (both-true (is_shallow ds n f) true u.1).0
      one c e xs ys low off old now names m = absurd (both_ways false refl e)
  body-lasts first deep count i (Declare k z e) fr fd l p v h = by (home z)
    where
      by : (o : Option ℕ) → conditions_last dt n (declared_at n at zero o k z (option_map (all_moved_in home n) e)) ≡ true
      by None = refl
      by (Some q) = refl
  body-lasts first deep count i (Combine k total o ts es) fr fd l p v h = unit-lasts true (first + i) k total o (node_before ds ts) ts es
  body-lasts first deep count i s fr fd l p v h = refl

  -- ---- tuples and iterators

  -- scalars that have not gone stay
  scalars-even : (d : ℕ) → nat_eq d 1 ≡ false → (ts : List Target) → TargetsBelow (length ds) ts → list_all (is_scalar_at ds d) ts ≡ true → list_all (is_scalar_at dt d) (map mt ts) ≡ true
  scalars-even d o [] l h = refl
  scalars-even d o (T.Property z r q ∷ ts) l h = absurd (both_ways false refl h)
  scalars-even d o (T.Scalar z q ∷ ts) l h =
      let r = both-true (nat_eq (depth_at ds z) d) (list_all (is_scalar_at ds d) ts) h in
      by (home z) refl r.0 (scalars-even d o ts l.1 r.1)
    where
      by : (h : Option ℕ) → home z ≡ h → nat_eq (depth_at ds z) d ≡ true → list_all (is_scalar_at dt d) (map mt ts) ≡ true → is_scalar_at dt d (aimed_at n h z q) && list_all (is_scalar_at dt d) (map mt ts) ≡ true
      by None e f g = and-true (nat_eq (depth_at dt z) d) (list_all (is_scalar_at dt d) (map mt ts)) (ap (λ x. nat_eq x d) (homes.depths z l.0) ∙ f) g
      by (Some p) e f g = absurd (both_ways (nat_eq d 1) o (ap (λ x. nat_eq x 1) (sym (eqb-true (depth_at ds z) d f)) ∙ (homes.local z p e).1))

  -- names of a tuple of scalars: the first has not gone, and so it is no local
  moved-even : (its : List ℕ) (ts : List Target) → ((z : ℕ) → list_all (suits ds) (use_as Written z) ≡ true → is_in its z ≡ false) → list_all (suits ds) (uses_of_targets ts) ≡ true → TargetsBelow (length ds) ts → list_all (target_passes (Names ds n iterates whole) its) ts ≡ true → are_even ds ts ≡ true → are_even dt (map mt ts) ≡ true
  moved-even its [] apart u l g h = refl
  moved-even its (T.Property z r q ∷ ts) apart u l g h = refl
  moved-even its (T.Scalar z q ∷ ts) apart u l g h = by (home z) refl
    where
      away : (a b c : Bool) → a ≡ false → (a || not b) || c ≡ true → (c ≡ true → ⊥) → b ≡ false
      away true b c o h g = absurd (both_ways true o refl)
      away false true true o h g = absurd (g refl)
      away false true false o h g = absurd (both_ways false refl h)
      away false false c o h g = refl

      by : (o : Option ℕ) → home z ≡ o → are_even dt (aimed_at n o z q ∷ map mt ts) ≡ true
      by (Some p) e = refl
      by None e =
          let one = away (is_in its z) (nat_eq (depth_at ds z) 1) (declares z whole) (apart z (all-append (suits ds) (use_as Written z) (uses_of_targets ts) u).0) (both-true (Names ds n iterates whole its z) (list_all (target_passes (Names ds n iterates whole) its) ts) g).0 (λ d. homes.has z d e) in
          subst (λ d. list_all (is_scalar_at dt d) (map mt ts) ≡ true) (sym (homes.depths z l.0)) (scalars-even (depth_at ds z) one ts l.1 h)

  combine-even : (outer : Bool) (y : ℕ) (k : Key) (total : TotalKey) (o : Reduce) (m : Option Expr) (ts : List Target) (es : List Expr) → (m ≡ None → are_even dt (map mt ts) ≡ true) → ((e : Expr) → m ≡ Some e → are_even dt (map mt (map (through y) ts)) ≡ true) → reduces_evenly dt (mv (read_first outer m y k total o ts es)) ≡ true
  combine-even outer y k total o None ts es f g = f refl
  combine-even outer y k total o (Some e) ts es f g = both outer
    where
      inside : reduces_evenly dt (mv (sequence (Declare k y (Some e) ∷ Combine k total o (map (through y) ts) es ∷ []))) ≡ true
      inside = and-true (reduces_evenly dt (mv (Declare k y (Some e)))) (are_even dt (map mt (map (through y) ts)) && true) (by (home y)) (and-true (are_even dt (map mt (map (through y) ts))) true (g e refl) refl)
        where
          by : (h : Option ℕ) → reduces_evenly dt (declared_at n at zero h k y (Some (mi e))) ≡ true
          by None = refl
          by (Some p) = refl

      both : (w : Bool) → reduces_evenly dt (mv (separate w k (sequence (Declare k y (Some e) ∷ Combine k total o (map (through y) ts) es ∷ [])))) ≡ true
      both true = and-true (reduces_evenly dt (mv (sequence (Declare k y (Some e) ∷ Combine k total o (map (through y) ts) es ∷ [])))) true inside refl
      both false = inside

  -- targets of which one is reached through a node variable are none of scalars
  node-even : (y : ℕ) (ts : List Target) (e : Expr) → node_before ds ts ≡ Some e → are_even dt (map mt (map (through y) ts)) ≡ true
  node-even y [] e h = refl
  node-even y (T.Scalar z q ∷ ts) e h = absurd (some-none e h)
    where
      some-none : (e : Expr) → None ≡ Some e → ⊥
      some-none e h = cc
  node-even y (T.Property z r q ∷ ts) e h = refl

  declared-even : (k : Key) (z : ℕ) (e : Option Expr) → reduces_evenly dt (mv (Declare k z e)) ≡ true
  declared-even k z e = by (home z)
    where
      by : (o : Option ℕ) → reduces_evenly dt (declared_at n at zero o k z (option_map (all_moved_in home n) e)) ≡ true
      by None = refl
      by (Some q) = refl

  inner-even : (t base i : ℕ) (s : Stmt) → has_role (variable_at ds t) Iterates ≡ true → Inside ds n iterates whole t s → reduces_evenly dt (mv (nodes_read ds false base base i s)) ≡ true
  inner-even t base i (Then a b) it p =
      let r = inside-both ds n iterates whole t a b p in
      and-true (reduces_evenly dt (mv (nodes_read ds false base base i a))) (reduces_evenly dt (mv (nodes_read ds false base base (i + nodes_in ds a) b))) (inner-even t base i a it r.0) (inner-even t base (i + nodes_in ds a) b it r.1)
  inner-even t base i (If k c a b) it p =
      let r = inside-both ds n iterates whole t a b (inside-branches ds n iterates whole t k c a b p).1 in
      and-true (reduces_evenly dt (mv (nodes_read ds false base base i a))) (reduces_evenly dt (mv (nodes_read ds false base base (i + nodes_in ds a) b))) (inner-even t base i a it r.0) (inner-even t base (i + nodes_in ds a) b it r.1)
  inner-even t base i (Declare k z e) it p = declared-even k z e
  inner-even t base i (Combine k total o ts es) it p =
      let u = all-append (suits ds) (uses_of_targets ts) (uses_in_all es) p.named in
      combine-even false (base + i) k total o (node_before ds ts) ts es
      (λ e. moved-even (n ∷ t ∷ []) ts (inner-apart ds n iterates t it) u.0 (names-below ds (Combine k total o ts es) p.named).0 (both-true (list_all (target_passes (Names ds n iterates whole) (n ∷ t ∷ [])) ts) _ p.names).0 p.even) (λ e h. node-even (base + i) ts e h)
  inner-even t base i Skip it p = refl
  inner-even t base i (DeclareEdge z w q) it p = refl
  inner-even t base i (Assign k o e) it p = refl
  inner-even t base i s it p = absurd (both_ways false refl p.form)

  pub body-even : (first deep i : ℕ) (s : Stmt) → IsPart s → reduces_evenly dt (mv (nodes_read ds true first deep i s)) ≡ true
  body-even first deep i (Then a b) p =
      let r = part-both ds n iterates whole a b p in
      and-true (reduces_evenly dt (mv (nodes_read ds true first deep i a))) (reduces_evenly dt (mv (nodes_read ds true first deep (i + nodes_in ds a) b))) (body-even first deep i a r.0) (body-even first deep (i + nodes_in ds a) b r.1)
  body-even first deep i (If k c a b) p =
      let r = part-both ds n iterates whole a b (part-branches ds n iterates whole k c a b p).1 in
      and-true (reduces_evenly dt (mv (nodes_read ds true first deep i a))) (reduces_evenly dt (mv (nodes_read ds true first deep (i + nodes_in ds a) b))) (body-even first deep i a r.0) (body-even first deep (i + nodes_in ds a) b r.1)
  body-even first deep i (Declare k z e) p = declared-even k z e
  body-even first deep i (Combine k total o ts es) p =
      let u = all-append (suits ds) (uses_of_targets ts) (uses_in_all es) p.named in
      combine-even true (first + i) k total o (node_before ds ts) ts es
      (λ e. moved-even (n ∷ []) ts (written-apart ds n iterates) u.0 (names-below ds (Combine k total o ts es) p.named).0 (both-true (list_all (target_passes (Names ds n iterates whole) (n ∷ [])) ts) _ p.names).0 p.even) (λ e h. node-even (first + i) ts e h)
  body-even first deep i (Foreach k q hd test body) p = let l = part-loop ds n iterates whole k q hd test body p in inner-even hd.iterator deep i body l.iterator l.inside
  body-even first deep i Skip p = refl
  body-even first deep i (Assign k o e) p = refl
  body-even first deep i (Defer k o e) p = refl
  body-even first deep i s p = absurd (both_ways false refl p.form)

  pub body-deep : (first deep i : ℕ) (s : Stmt) → NamesBelow (length ds) s → inner_iterators_deep ds s ≡ true → inner_iterators_deep dt (mv (nodes_read ds true first deep i s)) ≡ true
  body-deep first deep i (Then a b) l h =
      let r = both-true (inner_iterators_deep ds a) (inner_iterators_deep ds b) h in
      and-true (inner_iterators_deep dt (mv (nodes_read ds true first deep i a))) (inner_iterators_deep dt (mv (nodes_read ds true first deep (i + nodes_in ds a) b))) (body-deep first deep i a l.0 r.0) (body-deep first deep (i + nodes_in ds a) b l.1 r.1)
  body-deep first deep i (If k c a b) l h =
      let r = both-true (inner_iterators_deep ds a) (inner_iterators_deep ds b) h in
      and-true (inner_iterators_deep dt (mv (nodes_read ds true first deep i a))) (inner_iterators_deep dt (mv (nodes_read ds true first deep (i + nodes_in ds a) b))) (body-deep first deep i a l.1 r.0) (body-deep first deep (i + nodes_in ds a) b l.2 r.1)
  body-deep first deep i (Foreach k q hd test body) l h = ap (λ d. not (nat_eq d 0)) (homes.depths hd.iterator l.0) ∙ h
  body-deep first deep i (Declare k z e) l h = by (home z)
    where
      by : (o : Option ℕ) → inner_iterators_deep dt (declared_at n at zero o k z (option_map (all_moved_in home n) e)) ≡ true
      by None = refl
      by (Some q) = refl
  body-deep first deep i (Combine k total o ts es) l h = by (node_before ds ts)
    where
      by : (m : Option Expr) → inner_iterators_deep dt (mv (read_first true m (first + i) k total o ts es)) ≡ true
      by None = refl
      by (Some e) = and-true (inner_iterators_deep dt (mv (sequence (Declare k (first + i) (Some e) ∷ Combine k total o (map (through (first + i)) ts) es ∷ [])))) true (and-true (inner_iterators_deep dt (mv (Declare k (first + i) (Some e)))) true (one (home (first + i))) refl) refl
        where
          one : (h : Option ℕ) → inner_iterators_deep dt (declared_at n at zero h k (first + i) (Some (mi e))) ≡ true
          one None = refl
          one (Some q) = refl
  body-deep first deep i s l h = refl
