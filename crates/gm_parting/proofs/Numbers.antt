-- A program whose Ifs that ask variables have numbers of their own means the same, is as ready as it was, and keeps what is known of it.
use Rattle.std.proofs.Common.{◌≡◌, ◌<◌, ◌≤◌, ◌+◌, arith, ℕ, suc, Bool, true, false, List, [], ◌∷◌, ◌++◌, append-nil, length, map, refl, sym, ap, subst, ◌∙◌, Option, ⊎_elim}
use Rattle.std.proofs.Math.Path.{fun_ext}
use Rattle.std.specs.Prelude.{◌&&◌, ◌||◌, not, nat_le, nat_lt}
use Rattle.std.specs.List.{list_all}
use Rattle.gm_base.specs.declared.places.Place.{Place}
use Rattle.gm_value.specs.Bag.{IsIn}
use Rattle.gm_value.specs.declared.values.VType.{VType}
use Rattle.gm_value.specs.declared.values.VType.TheVariants as V
use Rattle.gm_value.specs.Operations.{is_true}
use Rattle.gm_ast.specs.declared.tree.Declaration.{Declaration}
use Rattle.gm_ast.specs.declared.tree.Head.{Head}
use Rattle.gm_ast.specs.declared.tree.Key.{Key}
use Rattle.gm_ast.specs.Keys.{Fault}
use Rattle.gm_ast.specs.Loops.{is_nodes}
use Rattle.gm_ast.specs.Program.{Expr, Var, Stmt, Then, Foreach, If, Program}
use Rattle.gm_ast.specs.Ways.{is_in}
use Rattle.gm_semantics.specs.Expressions.{value}
use Rattle.gm_semantics.specs.Levels.{nodes, no_levels}
use Rattle.gm_semantics.specs.Iterations.{Loop, Mode, Outermost, go_on, with_ok, one_way, view_in, turn_at, does}
use Rattle.gm_semantics.specs.Loops.{pushes, loop_done}
use Rattle.gm_semantics.specs.Statements.{Run, with_value, with_store, loop_of, sequential}
use Rattle.gm_semantics.specs.Frames.{AlikeCourses}
use Rattle.gm_semantics.proofs.StatementFrames.{sequential-alike}
use Rattle.gm_forms.specs.Cut.{is_no_local, is_own_body, is_own_code, is_own_loop, adds_elsewhere, adds_last, is_calm, touched}
use Rattle.gm_forms.specs.Extends.{run_of, start_of}
use Rattle.gm_forms.specs.Forms.{is_flat, is_outer_body}
use Rattle.gm_forms.specs.Meanings.{SameMeaning}
use Rattle.gm_forms.specs.Order.{lie_before, fault_of, are_numbered, cannot_fail, hoisted_in, faults_in, faults_of, in_order, body_in_order}
use Rattle.gm_forms.specs.Ready.{Ready2}
use Rattle.gm_forms.specs.Sharing.{Sights, Reduced, with_reads, sights_in, sights_of, reads_in, told_in, written, reduced, deferred, inners_share, targets_alike, disjoint, shared_in, kept_in, read_anywhere, read_elsewhere, all_agree}
use Rattle.gm_forms.specs.Typing.{has_type, is_typed_in}
use Rattle.gm_forms.specs.Uses.{suits, uses_in, uses_of_head, uses_of}
use Rattle.gm_forms.proofs.Doings.{in-either}
use Rattle.gm_forms.proofs.Named.{both-true, names-below}
use Rattle.gm_forms.proofs.Tables.{same-alike}
use Rattle.gm_forms.proofs.Weaker.{and-true}
use Rattle.gm_loop_laws.specs.Masks.{Change, looped}
use Rattle.gm_dissect.specs.AllDeferred.{deferred_of}
use Rattle.gm_dissect.specs.Conditions.{holds_cut, is_variable, asks_variables}
use Rattle.gm_dissect.specs.Locals.{declares}
use Rattle.gm_dissect.proofs.DeferredLaws.{known-phase, longer}
use Rattle.gm_dissect.proofs.Kept.{Sound, phase-kept}
use Rattle.gm_dissect.proofs.Phases.{Rewrites, phase-alike}
use Rattle.gm_cut.proofs.Grouped.{two-same}
use Rattle.gm_parting.specs.InnerLoops.{inner_iterators_deep}
use Rattle.gm_parting.specs.Lasting.{if_numbers, ifs_are_numbered}
use Rattle.gm_parting.specs.Locals.{names_pass, declares_its_locals, checks_none, checks_nothing}
use Rattle.gm_parting.specs.Numbers.{count_ifs, above_ifs, own_key, with_numbers, numbered_loop, with_own_numbers}
use Rattle.gm_parting.specs.Tuples.{reduces_evenly}
use Rattle.gm_parting.proofs.Lasting.{not-in}
use Rattle.gm_parting.proofs.Loops.{sound-of}

-- first: the first number
module _ (first : ℕ) where
  abbrev wn : Stmt → Stmt
  wn s = with_numbers first s

  -- what asks nothing of the key of an If that asks a variable
  module _ {A : Type 0} (f : Stmt → A) (then : (a b a' b' : Stmt) → f a ≡ f a' → f b ≡ f b' → f (Then a b) ≡ f (Then a' b')) (ifs : (k : Key) (c : Expr) (a b a' b' : Stmt) → f a ≡ f a' → f b ≡ f b' → f (If k c a b) ≡ f (If k c a' b'))
      (keys : (k j : Key) (x : ℕ) (at : Place) (a b : Stmt) → f (If k (Var x at) a b) ≡ f (If j (Var x at) a b)) where
    numbers-same : (s : Stmt) → f (wn s) ≡ f s
    numbers-same (Then a b) = then (wn a) (wn b) a b (numbers-same a) (numbers-same b)
    numbers-same (If k c a b) = by c (first + (count_ifs a + count_ifs b)) (numbers-same a) (numbers-same b)
      where
        by : (c : Expr) (m : ℕ) → f (wn a) ≡ f a → f (wn b) ≡ f b → f (If (own_key (is_variable c) m k) c (wn a) (wn b)) ≡ f (If k c a b)
        by (Var x at) m p q = keys (record k { statement = m }) k x at (wn a) (wn b) ∙ ifs k (Var x at) (wn a) (wn b) a b p q
        by c m p q = ifs k c (wn a) (wn b) a b p q
    numbers-same s = refl

  -- ---- what it does

  does-same : (m : Mode) (loop : Loop) (s : Stmt) → does (wn s) m loop ≡ does s m loop
  does-same m loop =
      numbers-same (λ s. does s m loop) (λ a b a' b' p q. ap (λ x. λ it. go_on (x it) (does b m loop)) p ∙ ap (λ x. λ it. go_on (does a' m loop it) x) q)
      (λ k c a b a' b' p q. ap (λ x. λ it. with_ok it (value c (view_in loop m it k)) (λ v. one_way (is_true v) x (does b m loop) it)) p
      ∙ ap (λ x. λ it. with_ok it (value c (view_in loop m it k)) (λ v. one_way (is_true v) (does a' m loop) x it)) q) (λ k j x at a b. refl)

  pushes-same : (n p : ℕ) (s : Stmt) → pushes (wn s) n p ≡ pushes s n p
  pushes-same n p =
      numbers-same (λ s. pushes s n p) (λ a b a' b' x y. two-same (λ u v. u || v) (pushes a n p) (pushes a' n p) (pushes b n p) (pushes b' n p) x y)
      (λ k c a b a' b' x y. two-same (λ u v. u || v) (pushes a n p) (pushes a' n p) (pushes b n p) (pushes b' n p) x y) (λ k j x at a b. refl)

  -- ---- what every pass keeps

  module _ (ds : List Declaration) where
    uses-same : (s : Stmt) → uses_of (wn s) ≡ uses_of s
    uses-same =
        numbers-same uses_of (λ a b a' b' x y. two-same (λ u v. u ++ v) (uses_of a) (uses_of a') (uses_of b) (uses_of b') x y)
        (λ k c a b a' b' x y. ap (λ us. uses_in c ++ us) (two-same (λ u v. u ++ v) (uses_of a) (uses_of a') (uses_of b) (uses_of b') x y)) (λ k j x at a b. refl)

    typed-same : (res : Option VType) (s : Stmt) → is_typed_in ds res (wn s) ≡ is_typed_in ds res s
    typed-same res =
        numbers-same (is_typed_in ds res) (λ a b a' b' x y. two-same (λ u v. u && v) (is_typed_in ds res a) (is_typed_in ds res a') (is_typed_in ds res b) (is_typed_in ds res b') x y)
        (λ k c a b a' b' x y. ap (λ u. has_type ds V.Flag c && u) (two-same (λ u v. u && v) (is_typed_in ds res a) (is_typed_in ds res a') (is_typed_in ds res b) (is_typed_in ds res b') x y)) (λ k j x at a b. refl)

    outer-same : (n : ℕ) (s : Stmt) → is_outer_body ds false n (wn s) ≡ is_outer_body ds false n s
    outer-same n =
        numbers-same (is_outer_body ds false n) (λ a b a' b' x y. two-same (λ u v. u && v) (is_outer_body ds false n a) (is_outer_body ds false n a') (is_outer_body ds false n b) (is_outer_body ds false n b') x y)
        (λ k c a b a' b' x y. ap (λ u. is_flat (n ∷ []) false c && u) (two-same (λ u v. u && v) (is_outer_body ds false n a) (is_outer_body ds false n a') (is_outer_body ds false n b) (is_outer_body ds false n b') x y)) (λ k j x at a b. refl)

    -- faults, and whether they stand in order
    abbrev Order : Type 0
    Order = List Fault × Bool

    abbrev order-of : List ℕ → Stmt → Order
    order-of its s = (faults_of its s, body_in_order its s)

    order-same : (its : List ℕ) (s : Stmt) → order-of its (wn s) ≡ order-of its s
    order-same its =
        numbers-same (order-of its) (λ a b a' b' x y. two-same (λ (u v : Order). (u.0 ++ v.0, u.1 && (v.1 && lie_before u.0 v.0))) (order-of its a) (order-of its a') (order-of its b) (order-of its b') x y)
        (λ k c a b a' b' x y. two-same (λ (u v : Order). (faults_in c k ++ (u.0 ++ v.0), in_order c k && (u.1 && (v.1 && (lie_before (faults_in c k) (u.0 ++ v.0) && lie_before u.0 v.0))))) (order-of its a) (order-of its a') (order-of its b) (order-of its b') x y)
        (λ k j x at a b. refl)

    -- what is read, written, reduced and deferred, whether inner loops share, and whether targets are alike
    abbrev Doings : Type 0
    Doings = Sights × List ℕ × List Reduced × List ℕ × Bool × Bool

    abbrev doings-of : ℕ → Stmt → Doings
    doings-of n s = (sights_of ds n false s, written ds n false s, reduced ds n false s, deferred s, inners_share ds n s, targets_alike s)

    doings-same : (n : ℕ) (s : Stmt) → doings-of n (wn s) ≡ doings-of n s
    doings-same n =
        numbers-same (doings-of n)
        (λ a b a' b' x y. two-same (λ (u v : Doings). (with_reads u.0 v.0, u.1 ++ v.1, u.2 ++ v.2, u.3 ++ v.3, u.4 && v.4, u.5 && v.5)) (doings-of n a) (doings-of n a') (doings-of n b) (doings-of n b') x y)
        (λ k c a b a' b' x y. two-same (λ (u v : Doings). (with_reads (sights_in c) (with_reads u.0 v.0), u.1 ++ v.1, u.2 ++ v.2, u.3 ++ v.3, u.4 && v.4, u.5 && v.5)) (doings-of n a) (doings-of n a') (doings-of n b) (doings-of n b') x y)
        (λ k j x at a b. refl)

    loop-numbered : (res : Option VType) (k : Key) (at : Place) (hd : Head) (test : Expr) (body : Stmt) → Sound ds res (Foreach k at hd test body) → Sound ds res (Foreach k at hd test (wn body))
    loop-numbered res k at hd test body sound =
        let n = hd.iterator in
        record {
          named = ap (λ us. list_all (suits ds) (uses_of_head hd ++ (uses_in test ++ us))) (uses-same body) ∙ sound.named;
          typed = ap (λ t. has_type ds V.Flag test && t) (typed-same res body) ∙ sound.typed;
          order =
              ap (λ (w : Order). (lie_before (fault_of k hd.place ∷ []) w.0 && (are_numbered (hoisted_in test ++ w.0) && (nat_lt 0 k.statement || cannot_fail test))) && (in_order test k && (w.1 && lie_before (faults_in test k) w.0))) (order-same (n ∷ []) body)
              ∙ sound.order;
          share =
              ap (λ (w : Doings).
              let seen = with_reads (sights_in test) w.0 in
              disjoint (shared_in w.2) (read_anywhere seen.properties ++ (seen.scalars ++ w.1)) && (disjoint (w.1 ++ kept_in w.2) (read_elsewhere n (reads_in test ++ w.0.properties))
              && (disjoint w.3 (w.1 ++ (shared_in w.2 ++ kept_in w.2)) && (all_agree w.2 && (w.4 && w.5))))) (doings-same n body)
              ∙ sound.share;
          form = ap (λ b. is_nodes hd.domain && (is_flat (n ∷ []) false test && b)) (outer-same n body) ∙ sound.form;
        }

  -- ---- what is known

  pub touched-same : (s : Stmt) → touched (wn s) ≡ touched s
  touched-same =
      numbers-same touched (λ a b a' b' x y. two-same (λ u v. u ++ v) (touched a) (touched a') (touched b) (touched b') x y) (λ k c a b a' b' x y. two-same (λ u v. u ++ v) (touched a) (touched a') (touched b) (touched b') x y) (λ k j x at a b. refl)

  pub defers-same : (s : Stmt) → deferred_of (wn s) ≡ deferred_of s
  defers-same =
      numbers-same deferred_of (λ a b a' b' x y. two-same (λ u v. u ++ v) (deferred_of a) (deferred_of a') (deferred_of b) (deferred_of b') x y)
      (λ k c a b a' b' x y. two-same (λ u v. u ++ v) (deferred_of a) (deferred_of a') (deferred_of b) (deferred_of b') x y) (λ k j x at a b. refl)

  holds-same : (n : ℕ) (s : Stmt) → holds_cut n (wn s) ≡ holds_cut n s
  holds-same n =
      numbers-same (holds_cut n) (λ a b a' b' x y. two-same (λ u v. u || v) (holds_cut n a) (holds_cut n a') (holds_cut n b) (holds_cut n b') x y)
      (λ k c a b a' b' x y. two-same (λ u v. u || v) (holds_cut n a) (holds_cut n a') (holds_cut n b) (holds_cut n b') x y) (λ k j x at a b. refl)

  -- whether a body is of own statements
  abbrev Own : Type 0
  Own = Bool × Bool × Bool × Bool × Bool

  abbrev own-of : ℕ → Stmt → Own
  own-of n s = (is_own_body n s, is_own_code n s, adds_last (n ∷ []) s, adds_elsewhere (n ∷ []) s, is_calm (n ∷ []) s)

  pub own-same : (n : ℕ) (s : Stmt) → is_own_loop n (wn s) ≡ is_own_loop n s
  own-same n s =
      ap (λ (w : Own). w.1 && w.2)
      (numbers-same (own-of n)
      (λ a b a' b' x y. two-same (λ (u v : Own). (u.0 && v.0, u.1 && v.1, u.2 && (v.2 && (not u.3 || v.4)), u.3 || v.3, u.4 && v.4)) (own-of n a) (own-of n a') (own-of n b) (own-of n b') x y)
      (λ k c a b a' b' x y. two-same (λ (u v : Own). (u.0 && v.0, u.0 && v.0, u.2 && v.2, u.3 || v.3, cannot_fail c && (u.4 && v.4))) (own-of n a) (own-of n a') (own-of n b) (own-of n b') x y) (λ k j x at a b. refl) s)

  declares-same : (z : ℕ) (s : Stmt) → declares z (wn s) ≡ declares z s
  declares-same z =
      numbers-same (declares z) (λ a b a' b' x y. two-same (λ u v. u || v) (declares z a) (declares z a') (declares z b) (declares z b') x y)
      (λ k c a b a' b' x y. two-same (λ u v. u || v) (declares z a) (declares z a') (declares z b) (declares z b') x y) (λ k j x at a b. refl)

  names-same : (may : List ℕ → ℕ → Bool) (its : List ℕ) (s : Stmt) → names_pass may its (wn s) ≡ names_pass may its s
  names-same may its =
      numbers-same (names_pass may its) (λ a b a' b' x y. two-same (λ u v. u && v) (names_pass may its a) (names_pass may its a') (names_pass may its b) (names_pass may its b') x y)
      (λ k c a b a' b' x y. ap (λ w. list_all (may its) (told_in c) && w) (two-same (λ u v. u && v) (names_pass may its a) (names_pass may its a') (names_pass may its b) (names_pass may its b') x y)) (λ k j x at a b. refl)

  pub declared-same : (ds : List Declaration) (n : ℕ) (s : Stmt) → declares_its_locals ds n (wn s) ≡ declares_its_locals ds n s
  declared-same ds n s =
      names-same (λ its z. is_no_local ds its z || declares z (wn s)) (n ∷ []) s ∙ ap (λ (d : ℕ → Bool). names_pass (λ its z. is_no_local ds its z || d z) (n ∷ []) s) (fun_ext (λ z. declares-same z s))

  pub checks-same : (s : Stmt) → checks_nothing (wn s) ≡ checks_nothing s
  checks-same =
      numbers-same checks_nothing (λ a b a' b' x y. two-same (λ u v. u && v) (checks_nothing a) (checks_nothing a') (checks_nothing b) (checks_nothing b') x y)
      (λ k c a b a' b' x y. ap (λ w. checks_none c && w) (two-same (λ u v. u && v) (checks_nothing a) (checks_nothing a') (checks_nothing b) (checks_nothing b') x y)) (λ k j x at a b. refl)

  pub even-same : (ds : List Declaration) (s : Stmt) → reduces_evenly ds (wn s) ≡ reduces_evenly ds s
  even-same ds =
      numbers-same (reduces_evenly ds) (λ a b a' b' x y. two-same (λ u v. u && v) (reduces_evenly ds a) (reduces_evenly ds a') (reduces_evenly ds b) (reduces_evenly ds b') x y)
      (λ k c a b a' b' x y. two-same (λ u v. u && v) (reduces_evenly ds a) (reduces_evenly ds a') (reduces_evenly ds b) (reduces_evenly ds b') x y) (λ k j x at a b. refl)

  pub deep-same : (ds : List Declaration) (s : Stmt) → inner_iterators_deep ds (wn s) ≡ inner_iterators_deep ds s
  deep-same ds =
      numbers-same (inner_iterators_deep ds) (λ a b a' b' x y. two-same (λ u v. u && v) (inner_iterators_deep ds a) (inner_iterators_deep ds a') (inner_iterators_deep ds b) (inner_iterators_deep ds b') x y)
      (λ k c a b a' b' x y. two-same (λ u v. u && v) (inner_iterators_deep ds a) (inner_iterators_deep ds a') (inner_iterators_deep ds b) (inner_iterators_deep ds b') x y) (λ k j x at a b. refl)

  -- ---- the numbers

  within : (s : Stmt) → above_ifs s ≤ first → (y : ℕ) → IsIn y (if_numbers (wn s)) → y < first + count_ifs s
  within (Then a b) l y i =
      ⊎_elim (λ j. let h = within a (omega (arith, l)) y j in omega (arith, h)) (λ j. let h = within b (omega (arith, l)) y j in omega (arith, h)) (in-either y (if_numbers (wn a)) (if_numbers (wn b)) i)
  within (If k c a b) l y i =
      ⊎_elim (λ (e : y ≡ (own_key (is_variable c) (first + (count_ifs a + count_ifs b)) k).statement). own (is_variable c) e)
      (λ j. ⊎_elim (λ j. let h = within a (omega (arith, l)) y j in omega (arith, h)) (λ j. let h = within b (omega (arith, l)) y j in omega (arith, h)) (in-either y (if_numbers (wn a)) (if_numbers (wn b)) j)) i
    where
      own : (v : Bool) → y ≡ (own_key v (first + (count_ifs a + count_ifs b)) k).statement → y < first + suc (count_ifs a + count_ifs b)
      own true e = omega (arith, e)
      own false e = omega (arith, e, l)
  within s l y i = absurd i

  pub numbered-now : (n : ℕ) (s : Stmt) → above_ifs s ≤ first → asks_variables n s ≡ true → ifs_are_numbered n (wn s) ≡ true
  numbered-now n (Then a b) l h =
      let r = both-true (asks_variables n a) (asks_variables n b) h in and-true (ifs_are_numbered n (wn a)) (ifs_are_numbered n (wn b)) (numbered-now n a (omega (arith, l)) r.0) (numbered-now n b (omega (arith, l)) r.1)
  numbered-now n (If k c a b) l h =
      let r = both-true (not (holds_cut n a || holds_cut n b) || is_variable c) (asks_variables n a && asks_variables n b) h in
      let p = both-true (asks_variables n a) (asks_variables n b) r.1 in
      and-true (not (holds_cut n (wn a) || holds_cut n (wn b)) || not (is_in (if_numbers (wn a) ++ if_numbers (wn b)) (own_key (is_variable c) (first + (count_ifs a + count_ifs b)) k).statement)) (ifs_are_numbered n (wn a) && ifs_are_numbered n (wn b))
      (ap (λ x. not x || not (is_in (if_numbers (wn a) ++ if_numbers (wn b)) (own_key (is_variable c) (first + (count_ifs a + count_ifs b)) k).statement))
      (two-same (λ u v. u || v) (holds_cut n (wn a)) (holds_cut n a) (holds_cut n (wn b)) (holds_cut n b) (holds-same n a) (holds-same n b))
      ∙ by (holds_cut n a || holds_cut n b) (is_variable c) r.0)
      (and-true (ifs_are_numbered n (wn a)) (ifs_are_numbered n (wn b)) (numbered-now n a (omega (arith, l)) p.0) (numbered-now n b (omega (arith, l)) p.1))
    where
      by : (o v : Bool) → not o || v ≡ true → not o || not (is_in (if_numbers (wn a) ++ if_numbers (wn b)) (own_key v (first + (count_ifs a + count_ifs b)) k).statement) ≡ true
      by false v h = refl
      by true true h =
          not-in (if_numbers (wn a) ++ if_numbers (wn b)) (first + (count_ifs a + count_ifs b))
          (λ i. ⊎_elim (λ j. let g = within a (omega (arith, l)) (first + (count_ifs a + count_ifs b)) j in omega (arith, g)) (λ j. let g = within b (omega (arith, l)) (first + (count_ifs a + count_ifs b)) j in omega (arith, g))
          (in-either (first + (count_ifs a + count_ifs b)) (if_numbers (wn a)) (if_numbers (wn b)) i))
      by true false h = absurd (cc)
  numbered-now n s l h = refl

-- ---- programs

module _ (ds : List Declaration) (run : Run) where
  numbered-alike : Rewrites ds run numbered_loop
  numbered-alike key at h test body known u v alike =
      let n = h.iterator in
      let first = above_ifs body in
      let inside = with_numbers first body in
      let loop : Loop = loop_of run no_levels n inside in
      let pushed : looped (loop_of run no_levels n body) key test body ≡ looped loop key test body = ap (λ (f : ℕ → Bool). looped (record loop { pushed = f }) key test body) (fun_ext (λ y. sym (pushes-same first n y body))) in
      let done : looped loop key test body ≡ looped loop key test inside =
      ap (λ f. λ s. loop_done s (nodes loop.graph) (map (λ k. turn_at loop Outermost key test f loop.outer k s) (nodes loop.graph))) (sym (does-same first Outermost loop body)) in
      let same : sequential (Foreach key at h test body) run v ≡ sequential (Foreach key at h test inside) run v = ap (λ (c : Change). with_value (c v.store) (with_store v)) (pushed ∙ done) in
      subst (AlikeCourses (length ds) (sequential (Foreach key at h test body) run u)) same (sequential-alike (length ds) (Foreach key at h test body) run u v (names-below ds (Foreach key at h test body) known.named) alike)

pub same-numbers : (p : Program) → Ready2 p → SameMeaning p (with_own_numbers p)
same-numbers p r =
    let known = known-phase p r in
    let ds = p.declarations in
    let q = with_own_numbers p in
    same-alike (length ds) p q (longer p [] q r (ap (λ es. record p { declarations = es; body = q.body }) (sym (append-nil ds)))) (names-below ds p.body known.named)
    (λ g args bound fits.
    phase-alike ds (run_of q g bound) numbered_loop (numbered-alike ds (run_of q g bound)) p.body known (start_of q g args) (start_of q g args)
    (record { store = record { scalar = λ y b. refl; node = λ y n b. refl; edge = λ y n b. refl }; turns = refl }))

pub ready-numbers : (p : Program) → Ready2 p → Ready2 (with_own_numbers p)
ready-numbers p r =
    let ds = p.declarations in
    let m = both-true (nat_le (p.inputs + p.outputs) (length ds)) (list_all (suits ds) (uses_of p.body)) r.sane.named in
    let q = with_own_numbers p in
    let kept = phase-kept ds ds (λ x l. refl) (omega arith) p.result numbered_loop (λ key at h test body s. loop-numbered (above_ifs body) ds p.result key at h test body s) p.body (sound-of p r) in
    record {
      sane = record { named = and-true (nat_le (p.inputs + p.outputs) (length ds)) (list_all (suits ds) (uses_of q.body)) m.0 kept.named; typed = kept.typed; ordered = kept.order; race_free = kept.share };
      form = kept.form;
    }
