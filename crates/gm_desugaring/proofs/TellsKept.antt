-- The passes up to the reads apart keep that a program tells values alone.
use Rattle.std.proofs.Common.{◌≡◌, ◌≤◌, ◌+◌, ◌++◌, ℕ, Bool, true, false, zero, suc, List, [], ◌∷◌, length, map, refl, ap, ◌∙◌, arith, Option, Some, None, Result, Ok, Err}
use Rattle.std.specs.Prelude.{◌&&◌, ◌||◌, if◌then◌else◌, nat_le, nat_lt, neg_ℤ, pos, option_map, IfOk}
use Rattle.std.specs.List.{list_all}
use Rattle.gm_base.specs.declared.places.Place.{Place}
use Rattle.gm_value.specs.declared.faults.FaultKind.{FaultKind}
use Rattle.gm_value.specs.declared.faults.FaultKind.TheVariants.{Overflow}
use Rattle.gm_value.specs.declared.operations.Op1.{Op1}
use Rattle.gm_value.specs.declared.operations.Op1.TheVariants.{Neg}
use Rattle.gm_value.specs.declared.reductions.Reduce.{Reduce}
use Rattle.gm_value.specs.declared.reductions.Reduce.TheVariants as R
use Rattle.gm_value.specs.declared.values.VType.TheVariants as V
use Rattle.gm_value.specs.declared.values.Value.{Value}
use Rattle.gm_value.specs.declared.values.Value.TheVariants as Values
use Rattle.gm_value.specs.Numbers.{value_at, fits}
use Rattle.gm_value.specs.Operations.{result1}
use Rattle.gm_ast.specs.declared.tree.Declaration.{Declaration}
use Rattle.gm_ast.specs.declared.tree.Head.{Head}
use Rattle.gm_ast.specs.declared.tree.Key.{Key}
use Rattle.gm_ast.specs.declared.tree.Target.{Target}
use Rattle.gm_ast.specs.declared.tree.Target.TheVariants as T
use Rattle.gm_ast.specs.declared.tree.TotalKey.{TotalKey}
use Rattle.gm_ast.specs.Program.{Expr, Const, Unary, Binary, Both, Either, Choose, Folded, Stmt, Skip, Then, Declare, Assign, Defer, Combine, Group, Foreach, For, If, While, Do, InBfs, InBfsBoth, Return, sequence}
use Rattle.gm_ast.specs.Ways.{is_in}
use Rattle.gm_semantics.specs.Iterations.{target_value}
use Rattle.gm_semantics.specs.Statements.{variable_at}
use Rattle.gm_forms.specs.Forms.{is_told}
use Rattle.gm_forms.specs.Sharing.{are_at_once}
use Rattle.gm_forms.specs.Typing.{keeps_tuples}
use Rattle.gm_forms.specs.Uses.{Written, Use, has_role, suits, uses_of_head, uses_of_search, uses_in, uses_in_all, uses_of_target, uses_of_targets, uses_of}
use Rattle.gm_forms.proofs.Named.{both-true, all-append}
use Rattle.gm_forms.proofs.Weaker.{and-true}
use Rattle.gm_typed_stores.specs.Tells.{TypeTable, holds, takes_nodes, is_below, tells, may_tell, all_tell, tells_in}
use Rattle.gm_desugar.specs.Compounds.{operated, assignment_of, expanded_in, expanded}
use Rattle.gm_desugar.specs.Conditions.{set_to, asked, if_hoisted, for_hoisted, while_hoisted, do_hoisted, hoisted}
use Rattle.gm_desugar.specs.Groups.{ungrouped}
use Rattle.gm_desugar.specs.Literals.{constant_or, negated, applied, with_literals, each_expr_in, each_expr}
use Rattle.gm_desugar.specs.Reads.{reads_set, told_from, is_single, stays_alone, after_reads, count_reads, apart}
use Rattle.gm_reductions.specs.Stages.{all_below}
use Rattle.gm_picks.proofs.ReadsTell.{both-kept, sequences-tell, reads-tell, told-tells}

-- the last of three
last-kept : (a b c d : Bool) → (c ≡ true → d ≡ true) → a && (b && c) ≡ true → a && (b && d) ≡ true
last-kept a b c d f h = both-kept a (b && c) a (b && d) (λ q. q) (both-kept b c b d (λ q. q) f) h

module _ (table : TypeTable) where
  abbrev In : List ℕ → Stmt → Bool
  In its s = tells_in table its s

  abbrev Ex : List ℕ → Expr → Bool
  Ex its e = tells table its e

  -- ---- group assignments

  pub groups-tell : (s : Stmt) (its : List ℕ) → tells_in table its s ≡ true → tells_in table its (ungrouped s) ≡ true
  groups-tell (Then a b) its h = both-kept (In its a) (In its b) (In its (ungrouped a)) (In its (ungrouped b)) (groups-tell a its) (groups-tell b its) h
  groups-tell (For k at hd test s) its h = let i = hd.iterator in last-kept (takes_nodes table i) (Ex (i ∷ its) test) (In (i ∷ its) s) (In (i ∷ its) (ungrouped s)) (groups-tell s (i ∷ its)) h
  groups-tell (If k c a b) its h =
      both-kept (Ex its c) (In its a && In its b) (Ex its c) (In its (ungrouped a) && In its (ungrouped b)) (λ q. q) (both-kept (In its a) (In its b) (In its (ungrouped a)) (In its (ungrouped b)) (groups-tell a its) (groups-tell b its)) h
  groups-tell (While k at c s) its h = both-kept (Ex its c) (In its s) (Ex its c) (In its (ungrouped s)) (λ q. q) (groups-tell s its) h
  groups-tell (Do k at s c) its h = both-kept (In its s) (Ex its c) (In its (ungrouped s)) (Ex its c) (groups-tell s its) (λ q. q) h
  groups-tell s its h = h

  -- ---- compound assignments

  abbrev ds : List Declaration
  ds = table.declarations

  abbrev Suit : List Use → Type 0
  Suit us = list_all (suits ds) us ≡ true

  target-tells : (its : List ℕ) (t : Target) → Suit (uses_of_target t) → tells table its (target_value t) ≡ true
  target-tells its (T.Scalar x at) h =
      let s = both-true (suits ds (record { variable = x; role = Written })) true h in
      let r = both-true (nat_lt x (length ds)) (has_role (variable_at ds x) Written) s.0 in
      ap (λ b. b || (nat_le table.inputs x || is_in its x)) r.1
  target-tells its (T.Property x p at) h = refl

  operated-tells : (its : List ℕ) (r : Reduce) (at : Place) (t : Target) (e : Expr) → Suit (uses_of_target t) → tells table its e ≡ true → tells table its (operated r at (target_value t) e) ≡ true
  operated-tells its R.Sum at t e n h = and-true (Ex its (target_value t)) (Ex its e) (target-tells its t n) h
  operated-tells its R.Product at t e n h = and-true (Ex its (target_value t)) (Ex its e) (target-tells its t n) h
  operated-tells its R.Min at t e n h = and-true (Ex its (target_value t)) (Ex its e) (target-tells its t n) h
  operated-tells its R.Max at t e n h = and-true (Ex its (target_value t)) (Ex its e) (target-tells its t n) h
  operated-tells its R.And at t e n h = and-true (Ex its (target_value t)) (Ex its e) (target-tells its t n) h
  operated-tells its R.Or at t e n h = and-true (Ex its (target_value t)) (Ex its e) (target-tells its t n) h

  assignment-tells : (its : List ℕ) (k : Key) (total : TotalKey) (r : Reduce) (ts : List Target) (es : List Expr) → Suit (uses_of_targets ts) → all_tell table its es ≡ true → tells_in table its (assignment_of k total r ts es) ≡ true
  assignment-tells its k total r [] es n h = h
  assignment-tells its k total r (t ∷ []) [] n h = h
  assignment-tells its k total r (t ∷ []) (e ∷ []) n h = by (keeps_tuples r)
    where
      by : (b : Bool) → tells_in table its (if b then Combine k total r (t ∷ []) (e ∷ []) else Assign k t (operated r total.place (target_value t) e)) ≡ true
      by true = h
      by false = operated-tells its r total.place t e (all-append (suits ds) (uses_of_target t) [] n).0 (both-true (tells table its e) true h).0
  assignment-tells its k total r (t ∷ []) (e ∷ (d ∷ es)) n h = h
  assignment-tells its k total r (t ∷ (u ∷ ts)) es n h = h

  combine-tells : (its : List ℕ) (k : Key) (total : TotalKey) (r : Reduce) (ts : List Target) (es : List Expr) → Suit (uses_of_targets ts ++ uses_in_all es) → all_tell table its es ≡ true → tells_in table its (assignment_of k total r ts es) ≡ true
  combine-tells its k total r ts es n h = assignment-tells its k total r ts es (all-append (suits ds) (uses_of_targets ts) (uses_in_all es) n).0 h

  body-of-loop : (hd : Head) (test : Expr) (s : Stmt) → Suit (uses_of_head hd ++ (uses_in test ++ uses_of s)) → Suit (uses_of s)
  body-of-loop hd test s n = (all-append (suits ds) (uses_in test) (uses_of s) (all-append (suits ds) (uses_of_head hd) (uses_in test ++ uses_of s) n).1).1

  pub bodies-tell : (s : Stmt) (m : ℕ) (inner : Bool) (its : List ℕ) → Suit (uses_of s) → tells_in table its s ≡ true → tells_in table its (expanded_in ds m inner s) ≡ true
  bodies-tell (Then a b) m inner its n h =
      let u = all-append (suits ds) (uses_of a) (uses_of b) n in
      both-kept (In its a) (In its b) (In its (expanded_in ds m inner a)) (In its (expanded_in ds m inner b)) (bodies-tell a m inner its u.0) (bodies-tell b m inner its u.1) h
  bodies-tell (Combine k total r ts es) m inner its n h = by (are_at_once ds m inner ts)
    where
      by : (b : Bool) → tells_in table its (if b then assignment_of k total r ts es else Combine k total r ts es) ≡ true
      by true = combine-tells its k total r ts es n h
      by false = h
  bodies-tell (If k c a b) m inner its n h =
      let u = all-append (suits ds) (uses_in c) (uses_of a ++ uses_of b) n in
      let v = all-append (suits ds) (uses_of a) (uses_of b) u.1 in
      both-kept (Ex its c) (In its a && In its b) (Ex its c) (In its (expanded_in ds m inner a) && In its (expanded_in ds m inner b)) (λ q. q)
      (both-kept (In its a) (In its b) (In its (expanded_in ds m inner a)) (In its (expanded_in ds m inner b)) (bodies-tell a m inner its v.0) (bodies-tell b m inner its v.1)) h
  bodies-tell (Foreach k at hd test s) m inner its n h =
      let i = hd.iterator in
      last-kept (takes_nodes table i) (Ex (i ∷ its) test) (In (i ∷ its) s) (In (i ∷ its) (expanded_in ds m true s)) (bodies-tell s m true (i ∷ its) (body-of-loop hd test s n)) h
  bodies-tell s m inner its n h = h

  pub compounds-tell : (s : Stmt) (its : List ℕ) → Suit (uses_of s) → tells_in table its s ≡ true → tells_in table its (expanded ds s) ≡ true
  compounds-tell (Then a b) its n h =
      let u = all-append (suits ds) (uses_of a) (uses_of b) n in
      both-kept (In its a) (In its b) (In its (expanded ds a)) (In its (expanded ds b)) (compounds-tell a its u.0) (compounds-tell b its u.1) h
  compounds-tell (Combine k total r ts es) its n h = combine-tells its k total r ts es n h
  compounds-tell (Foreach k at hd test s) its n h =
      let i = hd.iterator in
      last-kept (takes_nodes table i) (Ex (i ∷ its) test) (In (i ∷ its) s) (In (i ∷ its) (expanded_in ds i false s)) (bodies-tell s i false (i ∷ its) (body-of-loop hd test s n)) h
  compounds-tell (For k at hd test s) its n h =
      let i = hd.iterator in
      last-kept (takes_nodes table i) (Ex (i ∷ its) test) (In (i ∷ its) s) (In (i ∷ its) (expanded ds s)) (compounds-tell s (i ∷ its) (body-of-loop hd test s n)) h
  compounds-tell (If k c a b) its n h =
      let u = all-append (suits ds) (uses_in c) (uses_of a ++ uses_of b) n in
      let v = all-append (suits ds) (uses_of a) (uses_of b) u.1 in
      both-kept (Ex its c) (In its a && In its b) (Ex its c) (In its (expanded ds a) && In its (expanded ds b)) (λ q. q)
      (both-kept (In its a) (In its b) (In its (expanded ds a)) (In its (expanded ds b)) (compounds-tell a its v.0) (compounds-tell b its v.1)) h
  compounds-tell (While k at c s) its n h =
      both-kept (Ex its c) (In its s) (Ex its c) (In its (expanded ds s)) (λ q. q) (compounds-tell s its (all-append (suits ds) (uses_in c) (uses_of s) n).1) h
  compounds-tell (Do k at s c) its n h =
      both-kept (In its s) (Ex its c) (In its (expanded ds s)) (Ex its c) (compounds-tell s its (all-append (suits ds) (uses_of s) (uses_in c) n).0) (λ q. q) h
  compounds-tell (InBfs k at search test s) its n h =
      let i = search.iterator in
      let u = all-append (suits ds) (uses_of_search search) (uses_in test ++ uses_of s) n in
      last-kept (takes_nodes table i) (Ex (i ∷ its) test) (In (i ∷ its) s) (In (i ∷ its) (expanded_in ds i false s)) (bodies-tell s i false (i ∷ its) (all-append (suits ds) (uses_in test) (uses_of s) u.1).1) h
  compounds-tell (InBfsBoth k at search test s back_key back_test back) its n h =
      let i = search.iterator in
      let u = all-append (suits ds) (uses_of_search search) (uses_in test ++ (uses_of s ++ (uses_in back_test ++ uses_of back))) n in
      let v = all-append (suits ds) (uses_in test) (uses_of s ++ (uses_in back_test ++ uses_of back)) u.1 in
      let w = all-append (suits ds) (uses_of s) (uses_in back_test ++ uses_of back) v.1 in
      let x = all-append (suits ds) (uses_in back_test) (uses_of back) w.1 in
      let there = expanded_in ds i false s in
      let again = expanded_in ds i false back in
      last-kept (takes_nodes table i) (Ex (i ∷ its) test) (In (i ∷ its) s && (Ex (i ∷ its) back_test && In (i ∷ its) back)) (In (i ∷ its) there && (Ex (i ∷ its) back_test && In (i ∷ its) again))
      (both-kept (In (i ∷ its) s) (Ex (i ∷ its) back_test && In (i ∷ its) back) (In (i ∷ its) there) (Ex (i ∷ its) back_test && In (i ∷ its) again) (bodies-tell s i false (i ∷ its) w.0)
      (both-kept (Ex (i ∷ its) back_test) (In (i ∷ its) back) (Ex (i ∷ its) back_test) (In (i ∷ its) again) (λ q. q) (bodies-tell back i false (i ∷ its) x.1))) h
  compounds-tell s its n h = h

  -- ---- expressions changed by a function

  module _ (f : Expr → Expr) (keeps : (e : Expr) (its : List ℕ) → tells table its e ≡ true → tells table its (f e) ≡ true) where
    option-each : (e : Option Expr) (its : List ℕ) → may_tell table its e ≡ true → may_tell table its (option_map f e) ≡ true
    option-each None its h = refl
    option-each (Some e) its h = keeps e its h

    all-each : (es : List Expr) (its : List ℕ) → all_tell table its es ≡ true → all_tell table its (map f es) ≡ true
    all-each [] its h = refl
    all-each (e ∷ es) its h = both-kept (Ex its e) (all_tell table its es) (Ex its (f e)) (all_tell table its (map f es)) (keeps e its) (all-each es its) h

    -- a loop
    loop-each : (i : ℕ) (its : List ℕ) (test : Expr) (s t : Stmt) → (tells_in table (i ∷ its) s ≡ true → tells_in table (i ∷ its) t ≡ true) → takes_nodes table i && (tells table (i ∷ its) test && tells_in table (i ∷ its) s) ≡ true → takes_nodes table i && (tells table (i ∷ its) (f test) && tells_in table (i ∷ its) t) ≡ true
    loop-each i its test s t g h =
        both-kept (takes_nodes table i) (Ex (i ∷ its) test && In (i ∷ its) s) (takes_nodes table i) (Ex (i ∷ its) (f test) && In (i ∷ its) t) (λ q. q)
        (both-kept (Ex (i ∷ its) test) (In (i ∷ its) s) (Ex (i ∷ its) (f test)) (In (i ∷ its) t) (keeps test (i ∷ its)) g) h

    bodies-each : (s : Stmt) (its : List ℕ) → tells_in table its s ≡ true → tells_in table its (each_expr_in f s) ≡ true
    bodies-each (Then a b) its h = both-kept (In its a) (In its b) (In its (each_expr_in f a)) (In its (each_expr_in f b)) (bodies-each a its) (bodies-each b its) h
    bodies-each (Declare k x e) its h = option-each e its h
    bodies-each (Assign k t e) its h = keeps e its h
    bodies-each (Defer k t e) its h = keeps e its h
    bodies-each (Combine k total r ts es) its h = all-each es its h
    bodies-each (If k c a b) its h =
        both-kept (Ex its c) (In its a && In its b) (Ex its (f c)) (In its (each_expr_in f a) && In its (each_expr_in f b)) (keeps c its)
        (both-kept (In its a) (In its b) (In its (each_expr_in f a)) (In its (each_expr_in f b)) (bodies-each a its) (bodies-each b its)) h
    bodies-each (Foreach k at hd test s) its h = loop-each hd.iterator its test s (each_expr_in f s) (bodies-each s (hd.iterator ∷ its)) h
    bodies-each s its h = h

    pub each-tell : (s : Stmt) (its : List ℕ) → tells_in table its s ≡ true → tells_in table its (each_expr f s) ≡ true
    each-tell (Then a b) its h = both-kept (In its a) (In its b) (In its (each_expr f a)) (In its (each_expr f b)) (each-tell a its) (each-tell b its) h
    each-tell (Declare k x e) its h = option-each e its h
    each-tell (Assign k t e) its h = keeps e its h
    each-tell (Combine k total r ts es) its h = all-each es its h
    each-tell (Group k at g p e) its h = both-kept (takes_nodes table g) (Ex (g ∷ its) e) (takes_nodes table g) (Ex (g ∷ its) (f e)) (λ q. q) (keeps e (g ∷ its)) h
    each-tell (Foreach k at hd test s) its h = loop-each hd.iterator its test s (each_expr_in f s) (bodies-each s (hd.iterator ∷ its)) h
    each-tell (For k at hd test s) its h = loop-each hd.iterator its test s (each_expr f s) (each-tell s (hd.iterator ∷ its)) h
    each-tell (If k c a b) its h =
        both-kept (Ex its c) (In its a && In its b) (Ex its (f c)) (In its (each_expr f a) && In its (each_expr f b)) (keeps c its)
        (both-kept (In its a) (In its b) (In its (each_expr f a)) (In its (each_expr f b)) (each-tell a its) (each-tell b its)) h
    each-tell (While k at c s) its h = both-kept (Ex its c) (In its s) (Ex its (f c)) (In its (each_expr f s)) (keeps c its) (each-tell s its) h
    each-tell (Do k at s c) its h = both-kept (In its s) (Ex its c) (In its (each_expr f s)) (Ex its (f c)) (each-tell s its) (keeps c its) h
    each-tell (InBfs k at search test s) its h = loop-each search.iterator its test s (each_expr_in f s) (bodies-each s (search.iterator ∷ its)) h
    each-tell (InBfsBoth k at search test s back_key back_test back) its h =
        let i = search.iterator in
        let there = each_expr_in f s in
        let again = each_expr_in f back in
        both-kept (takes_nodes table i) (Ex (i ∷ its) test && (In (i ∷ its) s && (Ex (i ∷ its) back_test && In (i ∷ its) back))) (takes_nodes table i) (Ex (i ∷ its) (f test) && (In (i ∷ its) there && (Ex (i ∷ its) (f back_test) && In (i ∷ its) again))) (λ q. q)
        (both-kept (Ex (i ∷ its) test) (In (i ∷ its) s && (Ex (i ∷ its) back_test && In (i ∷ its) back)) (Ex (i ∷ its) (f test)) (In (i ∷ its) there && (Ex (i ∷ its) (f back_test) && In (i ∷ its) again)) (keeps test (i ∷ its))
        (both-kept (In (i ∷ its) s) (Ex (i ∷ its) back_test && In (i ∷ its) back) (In (i ∷ its) there) (Ex (i ∷ its) (f back_test) && In (i ∷ its) again) (bodies-each s (i ∷ its))
        (both-kept (Ex (i ∷ its) back_test) (In (i ∷ its) back) (Ex (i ∷ its) (f back_test)) (In (i ∷ its) again) (keeps back_test (i ∷ its)) (bodies-each back (i ∷ its))))) h
    each-tell (Return k at e) its h = option-each e its h
    each-tell s its h = h

  -- ---- conditions

  module _ (c : ℕ) (told : (its : List ℕ) → holds table its c ≡ true) where
    -- a condition set, and what follows
    set-tells : (its : List ℕ) (k : Key) (e : Expr) (s : Stmt) → tells table its e ≡ true → tells_in table its s ≡ true → tells_in table its (sequence (set_to c k e ∷ s ∷ [])) ≡ true
    set-tells its k e s h q = and-true (Ex its e) (In its s && true) h (and-true (In its s) true q refl)

    after-tells : (its : List ℕ) (k : Key) (e : Expr) (s : Stmt) → tells table its e ≡ true → tells_in table its s ≡ true → tells_in table its (sequence (s ∷ set_to c k e ∷ [])) ≡ true
    after-tells its k e s h q = and-true (In its s) (Ex its e && true) q (and-true (Ex its e) true h refl)

    asked-tells : (its : List ℕ) (k : Key) (a b : Stmt) → tells_in table its a ≡ true → tells_in table its b ≡ true → tells_in table its (If k (asked c) a b) ≡ true
    asked-tells its k a b p q = and-true (holds table its c) (In its a && In its b) (told its) (and-true (In its a) (In its b) p q)

    if-tells : (b : Bool) (its : List ℕ) (k : Key) (e : Expr) (s t : Stmt) → tells table its e ≡ true → tells_in table its s ≡ true → tells_in table its t ≡ true → tells_in table its (if_hoisted b c k e s t) ≡ true
    if-tells true its k e s t h p q = and-true (Ex its e) (In its s && In its t) h (and-true (In its s) (In its t) p q)
    if-tells false its k e s t h p q = set-tells its k e (If k (asked c) s t) h (asked-tells its k s t p q)

    for-tells : (b : Bool) (its : List ℕ) (k : Key) (at : Place) (hd : Head) (e : Expr) (s : Stmt) → takes_nodes table hd.iterator ≡ true → tells table (hd.iterator ∷ its) e ≡ true → tells_in table (hd.iterator ∷ its) s ≡ true → tells_in table its (for_hoisted b c k at hd e s) ≡ true
    for-tells true its k at hd e s n h p = let i = hd.iterator in and-true (takes_nodes table i) (Ex (i ∷ its) e && In (i ∷ its) s) n (and-true (Ex (i ∷ its) e) (In (i ∷ its) s) h p)
    for-tells false its k at hd e s n h p =
        let i = hd.iterator in
        let t = If k (asked c) s Skip in
        and-true (takes_nodes table i) (In (i ∷ its) (sequence (set_to c k e ∷ t ∷ []))) n (set-tells (i ∷ its) k e t h (asked-tells (i ∷ its) k s Skip p refl))

    while-tells : (b : Bool) (its : List ℕ) (k : Key) (at : Place) (e : Expr) (s : Stmt) → tells table its e ≡ true → tells_in table its s ≡ true → tells_in table its (while_hoisted b c k at e s) ≡ true
    while-tells true its k at e s h p = and-true (Ex its e) (In its s) h p
    while-tells false its k at e s h p =
        let t = sequence (s ∷ set_to c k e ∷ []) in
        set-tells its k e (While k at (asked c) t) h (and-true (holds table its c) (In its t) (told its) (after-tells its k e s h p))

    do-tells : (b : Bool) (its : List ℕ) (k : Key) (at : Place) (s : Stmt) (e : Expr) → tells_in table its s ≡ true → tells table its e ≡ true → tells_in table its (do_hoisted b c k at s e) ≡ true
    do-tells true its k at s e p h = and-true (In its s) (Ex its e) p h
    do-tells false its k at s e p h = and-true (In its (sequence (s ∷ set_to c k e ∷ []))) (holds table its c) (after-tells its k e s h p) (told its)

    pub conditions-tell : (s : Stmt) (its : List ℕ) → tells_in table its s ≡ true → tells_in table its (hoisted c s) ≡ true
    conditions-tell (Then a b) its h = both-kept (In its a) (In its b) (In its (hoisted c a)) (In its (hoisted c b)) (conditions-tell a its) (conditions-tell b its) h
    conditions-tell (For k at hd e s) its h =
        let i = hd.iterator in
        let q = both-true (takes_nodes table i) (Ex (i ∷ its) e && In (i ∷ its) s) h in
        let r = both-true (Ex (i ∷ its) e) (In (i ∷ its) s) q.1 in
        for-tells (is_told e) its k at hd e (hoisted c s) q.0 r.0 (conditions-tell s (i ∷ its) r.1)
    conditions-tell (If k e a b) its h =
        let q = both-true (Ex its e) (In its a && In its b) h in
        let r = both-true (In its a) (In its b) q.1 in
        if-tells (is_told e) its k e (hoisted c a) (hoisted c b) q.0 (conditions-tell a its r.0) (conditions-tell b its r.1)
    conditions-tell (While k at e s) its h = let q = both-true (Ex its e) (In its s) h in while-tells (is_told e) its k at e (hoisted c s) q.0 (conditions-tell s its q.1)
    conditions-tell (Do k at s e) its h = let q = both-true (In its s) (Ex its e) h in do-tells (is_told e) its k at (hoisted c s) e (conditions-tell s its q.0) q.1
    conditions-tell s its h = h

  -- ---- reads

  after-reads-tell : (alone : Bool) (its : List ℕ) (n : ℕ) (k : Key) (e : Expr) (s : Expr → Stmt) → table.inputs ≤ n → tells table its e ≡ true → ((d : Expr) → tells table its d ≡ true → tells_in table its (s d) ≡ true) → tells_in table its (after_reads alone n k e s) ≡ true
  after-reads-tell true its n k e s low h each = each e h
  after-reads-tell false its n k e s low h each = sequences-tell table its (reads_set n k e) (s (told_from n e) ∷ []) (reads-tell table e its n k h) (and-true (In its (s (told_from n e))) true (each (told_from n e) (told-tells table e its n low h)) refl)

  pub apart-tell : (s : Stmt) (its : List ℕ) (n : ℕ) → table.inputs ≤ n → tells_in table its s ≡ true → tells_in table its (apart n s) ≡ true
  apart-tell (Then a b) its n low h = both-kept (In its a) (In its b) (In its (apart n a)) (In its (apart (n + count_reads a) b)) (apart-tell a its n low) (apart-tell b its (n + count_reads a) (omega (arith, low))) h
  apart-tell (Declare k x (Some e)) its n low h = after-reads-tell (is_single x e) its n k e (λ d. Declare k x (Some d)) low h (λ d r. r)
  apart-tell (Assign k t e) its n low h = after-reads-tell (stays_alone t e) its n k e (Assign k t) low h (λ d r. r)
  apart-tell (For k at hd e s) its n low h = let i = hd.iterator in last-kept (takes_nodes table i) (Ex (i ∷ its) e) (In (i ∷ its) s) (In (i ∷ its) (apart n s)) (apart-tell s (i ∷ its) n low) h
  apart-tell (If k e a b) its n low h =
      both-kept (Ex its e) (In its a && In its b) (Ex its e) (In its (apart n a) && In its (apart (n + count_reads a) b)) (λ q. q)
      (both-kept (In its a) (In its b) (In its (apart n a)) (In its (apart (n + count_reads a) b)) (apart-tell a its n low) (apart-tell b its (n + count_reads a) (omega (arith, low)))) h
  apart-tell (While k at e s) its n low h = both-kept (Ex its e) (In its s) (Ex its e) (In its (apart n s)) (λ q. q) (apart-tell s its n low) h
  apart-tell (Do k at s e) its n low h = both-kept (In its s) (Ex its e) (In its (apart n s)) (Ex its e) (apart-tell s its n low) (λ q. q) h
  apart-tell (Return k at (Some e)) its n low h = after-reads-tell (is_told e) its n k e (λ d. Return k at (Some d)) low h (λ d r. r)
  apart-tell s its n low h = h

-- ---- negative literals

-- the value of a minus before a constant is below the limit of all nodes
negative-below : (v : Value) → IfOk (result1 Neg v) (λ n. is_below all_below n ≡ true)
negative-below (Values.I32 z) = by (fits V.I32 (neg_ℤ z))
  where
    by : (b : Bool) → IfOk (if b then Ok (value_at V.I32 (neg_ℤ z)) else Err Overflow) (λ n. is_below all_below n ≡ true)
    by true = refl
    by false = tt
negative-below (Values.I64 z) = by (fits V.I64 (neg_ℤ z))
  where
    by : (b : Bool) → IfOk (if b then Ok (value_at V.I64 (neg_ℤ z)) else Err Overflow) (λ n. is_below all_below n ≡ true)
    by true = refl
    by false = tt
negative-below (Values.Flag true) = tt
negative-below (Values.Flag false) = refl
negative-below (Values.At None) = refl
negative-below (Values.At (Some zero)) = refl
negative-below (Values.At (Some (suc k))) = by (fits V.Node (neg_ℤ (pos (suc k))))
  where
    by : (b : Bool) → IfOk (if b then Ok (value_at V.Node (neg_ℤ (pos (suc k)))) else Err Overflow) (λ n. is_below all_below n ≡ true)
    by true = refl
    by false = tt

module _ (table : TypeTable) (limit : table.limit ≡ all_below) where
  constant-tells : (its : List ℕ) (at : Place) (v : Value) (x : Result Value FaultKind) → is_below table.limit v ≡ true → IfOk x (λ n. is_below all_below n ≡ true) → tells table its (constant_or at v x) ≡ true
  constant-tells its at v (Ok n) h k = ap (λ l. is_below l n) limit ∙ k
  constant-tells its at v (Err f) h k = h

  negated-tells : (its : List ℕ) (at : Place) (e : Expr) → tells table its e ≡ true → tells table its (negated at e) ≡ true
  negated-tells its at (Const v) h = constant-tells its at v (result1 Neg v) h (negative-below v)
  negated-tells its at e h = h

  applied-tells : (its : List ℕ) (op : Op1) (at : Place) (e : Expr) → tells table its e ≡ true → tells table its (applied op at e) ≡ true
  applied-tells its Neg at e h = negated-tells its at e h
  applied-tells its op at e h = h

  pub literal-tells : (e : Expr) (its : List ℕ) → tells table its e ≡ true → tells table its (with_literals e) ≡ true
  literal-tells (Unary op at e) its h = applied-tells its op at (with_literals e) (literal-tells e its h)
  literal-tells (Binary op at a b) its h = both-kept (tells table its a) (tells table its b) (tells table its (with_literals a)) (tells table its (with_literals b)) (literal-tells a its) (literal-tells b its) h
  literal-tells (Both a b) its h = both-kept (tells table its a) (tells table its b) (tells table its (with_literals a)) (tells table its (with_literals b)) (literal-tells a its) (literal-tells b its) h
  literal-tells (Either a b) its h = both-kept (tells table its a) (tells table its b) (tells table its (with_literals a)) (tells table its (with_literals b)) (literal-tells a its) (literal-tells b its) h
  literal-tells (Choose c a b) its h =
      both-kept (tells table its c) (tells table its a && tells table its b) (tells table its (with_literals c)) (tells table its (with_literals a) && tells table its (with_literals b)) (literal-tells c its)
      (both-kept (tells table its a) (tells table its b) (tells table its (with_literals a)) (tells table its (with_literals b)) (literal-tells a its) (literal-tells b its)) h
  literal-tells (Folded f hd test e) its h =
      let i = hd.iterator in
      both-kept (takes_nodes table i) (tells table (i ∷ its) test && tells table (i ∷ its) e) (takes_nodes table i) (tells table (i ∷ its) (with_literals test) && tells table (i ∷ its) (with_literals e)) (λ q. q)
      (both-kept (tells table (i ∷ its) test) (tells table (i ∷ its) e) (tells table (i ∷ its) (with_literals test)) (tells table (i ∷ its) (with_literals e)) (literal-tells test (i ∷ its)) (literal-tells e (i ∷ its))) h
  literal-tells e its h = h
