-- Picks onto scalars stay so, and what is left of a sequential phase with them computes with scalars alone: it is desugared where its loops are flat.
use Rattle.std.proofs.Common.{◌≡◌, ◌+◌, ℕ, Bool, true, false, List, [], ◌∷◌, ◌++◌, refl, Some, None, arith}
use Rattle.std.specs.Prelude.{◌&&◌, ◌||◌, nat_eq, nat_le}
use Rattle.std.specs.List.{list_all}
use Rattle.std.proofs.lemmas.Bool.{both_ways, eq-eqb, leb-true}
use Rattle.gm_base.specs.declared.places.Place.{Place}
use Rattle.gm_ast.specs.declared.tree.Declaration.{Declaration}
use Rattle.gm_ast.specs.declared.tree.Key.{Key}
use Rattle.gm_ast.specs.declared.tree.Search.{Search}
use Rattle.gm_ast.specs.declared.tree.Target.{Target}
use Rattle.gm_ast.specs.declared.tree.Target.TheVariants as T
use Rattle.gm_ast.specs.Loops.{is_nodes}
use Rattle.gm_ast.specs.Ways.{is_in}
use Rattle.gm_ast.specs.Program.{Expr, Property, Degree, Live, Folded, Stmt, Skip, Then, Declare, DeclareEdge, Assign, Defer, Combine, Group, Foreach, For, If, While, Do, InBfs, InBfsBoth, Return, Program, sequence}
use Rattle.gm_forms.specs.Forms.{depth_at, is_within, is_told, is_set, is_flat_loop, is_plain, is_phase}
use Rattle.gm_forms.specs.Ready.{is_outer_expr, is_outer_code, is_outer_loop, is_phase_expr, is_phase_code, Ready1}
use Rattle.gm_forms.specs.Typing.{type_at, keeps_tuples}
use Rattle.gm_forms.proofs.Named.{both-true}
use Rattle.gm_forms.proofs.Weaker.{and-true}
use Rattle.gm_desugar.specs.Compounds.{has_no_compounds}
use Rattle.gm_desugar.specs.Conditions.{set_to, has_told_conditions}
use Rattle.gm_desugar.specs.Groups.{has_no_groups}
use Rattle.gm_desugar.specs.Reads.{is_single, has_reads_apart}
use Rattle.gm_reductions.specs.declared.accesses.Fresh.{Fresh}
use Rattle.gm_reductions.specs.Accesses.{holder, compared, checks, after_check, write_there, by_loops, has_no_accesses}
use Rattle.gm_reductions.specs.Folds.{folds_out, has_no_folds}
use Rattle.gm_reductions.specs.Phases.{has_flat_loops, is_search_code, is_desugared_outside}
use Rattle.gm_reductions.specs.Stages.{WithLoopsAlone}
use Rattle.gm_picks.specs.Picks.{is_scalar, has_plain_picks}
use Rattle.gm_hoisting.specs.Hoisting.{is_sure, count_phase, root_checked, phase_out}

-- ---- the passes behind keep them

after-plain : (it : Bool) (f : Fresh) (k : Key) (y : ℕ) (at : Place) (s : Stmt) → has_plain_picks s ≡ true → has_plain_picks (after_check it f k y at s) ≡ true
after-plain true f k y at s h = h
after-plain false f k y at s h = and-true (has_plain_picks s) true h refl

checks-plain : (it : Bool) (f : Fresh) (k : Key) (y : ℕ) (at : Place) (ss : List Stmt) → has_plain_picks (sequence ss) ≡ true → has_plain_picks (sequence (checks it f k y at ++ ss)) ≡ true
checks-plain true f k y at ss h = h
checks-plain false f k y at ss h = h

pub accesses-plain : (ds : List Declaration) (f : Fresh) (its : List ℕ) (s : Stmt) → has_plain_picks s ≡ true → has_plain_picks (by_loops ds f its s) ≡ true
accesses-plain ds f its (Then a b) h =
    let q = both-true (has_plain_picks a) (has_plain_picks b) h in
    and-true (has_plain_picks (by_loops ds f its a)) (has_plain_picks (by_loops ds f its b)) (accesses-plain ds f its a q.0) (accesses-plain ds f its b q.1)
accesses-plain ds f its (Declare k x (Some (Property y p at))) h = after-plain (is_in its y) f k y at _ refl
accesses-plain ds f its (Declare k x (Some (Degree d y at))) h = after-plain (is_in its y) f k y at _ refl
accesses-plain ds f its (Assign k (T.Scalar x g) (Property y p at)) h = after-plain (is_in its y) f k y at _ refl
accesses-plain ds f its (Assign k (T.Scalar x g) (Degree d y at)) h = after-plain (is_in its y) f k y at _ refl
accesses-plain ds f its (Assign k (T.Scalar x g) e) h = refl
accesses-plain ds f its (Assign k (T.Property y p at) e) h =
    let x = holder f (type_at ds p) in checks-plain (is_in its y) f k y at (set_to x k e ∷ write_there f (compared (is_in its y) f y) p x ∷ []) refl
accesses-plain ds f its (For k at hd e s) h = accesses-plain ds f (hd.iterator ∷ its) s h
accesses-plain ds f its (If k e a b) h =
    let q = both-true (has_plain_picks a) (has_plain_picks b) h in
    and-true (has_plain_picks (by_loops ds f its a)) (has_plain_picks (by_loops ds f its b)) (accesses-plain ds f its a q.0) (accesses-plain ds f its b q.1)
accesses-plain ds f its (While k at e s) h = accesses-plain ds f its s h
accesses-plain ds f its (Do k at s e) h = accesses-plain ds f its s h
accesses-plain ds f its s h = h

pub folds-plain : (s : Stmt) → has_plain_picks s ≡ true → has_plain_picks (folds_out s) ≡ true
folds-plain (Then a b) h = let q = both-true (has_plain_picks a) (has_plain_picks b) h in and-true (has_plain_picks (folds_out a)) (has_plain_picks (folds_out b)) (folds-plain a q.0) (folds-plain b q.1)
folds-plain (Declare k x (Some (Folded f hd test e))) h = refl
folds-plain (Assign k (T.Scalar x at) (Folded f hd test e)) h = refl
folds-plain (For k at hd c s) h = folds-plain s h
folds-plain (If k c a b) h = let q = both-true (has_plain_picks a) (has_plain_picks b) h in and-true (has_plain_picks (folds_out a)) (has_plain_picks (folds_out b)) (folds-plain a q.0) (folds-plain b q.1)
folds-plain (While k at c s) h = folds-plain s h
folds-plain (Do k at s c) h = folds-plain s h
folds-plain s h = h

checked-plain : (none : Bool) (n : ℕ) (k : Key) (s : Search) (t : Stmt) → has_plain_picks t ≡ true → has_plain_picks (root_checked none n k s t) ≡ true
checked-plain true n k s t h = h
checked-plain false n k s t h = and-true (has_plain_picks t) true h refl

-- so does the one that makes inner loops of reductions, which changes parallel loops and searches alone
pub inner-plain : (s : Stmt) (its : List ℕ) (n : ℕ) → has_plain_picks s ≡ true → has_plain_picks (phase_out its n s) ≡ true
inner-plain (Then a b) its n h =
    let q = both-true (has_plain_picks a) (has_plain_picks b) h in
    and-true (has_plain_picks (phase_out its n a)) (has_plain_picks (phase_out its (n + count_phase its a) b)) (inner-plain a its n q.0) (inner-plain b its (n + count_phase its a) q.1)
inner-plain (Foreach k at hd test body) its n h = refl
inner-plain (For k at hd e s) its n h = inner-plain s (hd.iterator ∷ its) n h
inner-plain (If k e a b) its n h =
    let q = both-true (has_plain_picks a) (has_plain_picks b) h in
    and-true (has_plain_picks (phase_out its n a)) (has_plain_picks (phase_out its (n + count_phase its a) b)) (inner-plain a its n q.0) (inner-plain b its (n + count_phase its a) q.1)
inner-plain (While k at e s) its n h = inner-plain s its n h
inner-plain (Do k at s e) its n h = inner-plain s its n h
inner-plain (InBfs k at s test body) its n h = checked-plain (is_sure its s test) n k s _ refl
inner-plain (InBfsBoth k at s test body back_key back_test back) its n h = checked-plain (is_sure its s test) n k s _ refl
inner-plain s its n h = h

-- ---- what is left

or-false : (b : Bool) → b || false ≡ true → b ≡ true
or-false true h = refl
or-false false h = h

-- what stands alone and is neither an access nor a reduction is told, or a check
declared-set : (k : Key) (x : ℕ) (e : Expr) → is_single x e ≡ true → has_no_folds (Declare k x (Some e)) ≡ true → has_no_accesses (Declare k x (Some e)) ≡ true → is_set e ≡ true
declared-set k x (Property y p at) h f a = absurd (both_ways false refl a)
declared-set k x (Degree d y at) h f a = absurd (both_ways false refl a)
declared-set k x (Live y at) h f a = refl
declared-set k x (Folded fold hd test e) h f a = absurd (both_ways false refl f)
declared-set k x e h f a = or-false (is_told e) h

assigned-set : (k : Key) (x : ℕ) (g : Place) (e : Expr) → is_single x e ≡ true → has_no_folds (Assign k (T.Scalar x g) e) ≡ true → has_no_accesses (Assign k (T.Scalar x g) e) ≡ true → is_set e ≡ true
assigned-set k x g (Property y p at) h f a = absurd (both_ways false refl a)
assigned-set k x g (Degree d y at) h f a = absurd (both_ways false refl a)
assigned-set k x g (Live y at) h f a = refl
assigned-set k x g (Folded fold hd test e) h f a = absurd (both_ways false refl f)
assigned-set k x g e h f a = or-false (is_told e) h

depth-none : (d : ℕ) → nat_le d 0 ≡ true → nat_eq d 0 ≡ true
depth-none d h = eq-eqb d 0 (let l = leb-true d 0 h in omega arith)

module _ (ds : List Declaration) where
  -- a scalar of the procedure takes a pick
  targets-plain : (ts : List Target) → list_all (is_within ds 0) ts ≡ true → list_all is_scalar ts ≡ true → list_all (is_plain ds) ts ≡ true
  targets-plain [] w h = refl
  targets-plain (T.Scalar x at ∷ ts) w h =
      let q = both-true (nat_le (depth_at ds x) 0) (list_all (is_within ds 0) ts) w in
      and-true (nat_eq (depth_at ds x) 0) (list_all (is_plain ds) ts) (depth-none (depth_at ds x) q.0) (targets-plain ts q.1 h)
  targets-plain (T.Property y p at ∷ ts) w h = absurd (both_ways false refl h)

  -- what is known of a statement
  record Bare (s : Stmt) : Type 0 where
    form : is_phase_code ds s ≡ true
    compounds : has_no_compounds ds s ≡ true
    apart : has_reads_apart s ≡ true
    conditions : has_told_conditions s ≡ true
    groups : has_no_groups s ≡ true
    folds : has_no_folds s ≡ true
    accesses : has_no_accesses s ≡ true
    picks : has_plain_picks s ≡ true

  -- of two statements, where something more is known of the form and the condition
  two-bare : (s t : Stmt) → is_phase_code ds s && is_phase_code ds t ≡ true → has_no_compounds ds s && has_no_compounds ds t ≡ true → has_reads_apart s && has_reads_apart t ≡ true
      → has_told_conditions s && has_told_conditions t ≡ true → has_no_groups s && has_no_groups t ≡ true → has_no_folds s && has_no_folds t ≡ true → has_no_accesses s && has_no_accesses t ≡ true
      → has_plain_picks s && has_plain_picks t ≡ true → Bare s × Bare t
  two-bare s t form compounds apart conditions groups folds accesses picks =
      let a = both-true (is_phase_code ds s) (is_phase_code ds t) form in
      let b = both-true (has_no_compounds ds s) (has_no_compounds ds t) compounds in
      let c = both-true (has_reads_apart s) (has_reads_apart t) apart in
      let d = both-true (has_told_conditions s) (has_told_conditions t) conditions in
      let e = both-true (has_no_groups s) (has_no_groups t) groups in
      let f = both-true (has_no_folds s) (has_no_folds t) folds in
      let g = both-true (has_no_accesses s) (has_no_accesses t) accesses in
      let h = both-true (has_plain_picks s) (has_plain_picks t) picks in (
        record { form = a.0; compounds = b.0; apart = c.0; conditions = d.0; groups = e.0; folds = f.0; accesses = g.0; picks = h.0 },
        record { form = a.1; compounds = b.1; apart = c.1; conditions = d.1; groups = e.1; folds = f.1; accesses = g.1; picks = h.1 },
      )

  abbrev Outside : Stmt → Bool
  Outside s = is_phase (is_outer_loop ds false) (is_search_code ds) ds s

  searches : (a b c d : Bool) → a && (b && (c && d)) ≡ true → (a && b) && (c && d) ≡ true
  searches true true c d h = h
  searches true false c d h = h
  searches false b c d h = h

  phase-form : (s : Stmt) → Bare s → Outside s ≡ true
  phase-form Skip h = refl
  phase-form (Then a b) h =
      let q = two-bare a b h.form h.compounds h.apart h.conditions h.groups h.folds h.accesses h.picks in and-true (Outside a) (Outside b) (phase-form a q.0) (phase-form b q.1)
  phase-form (Declare k x None) h = (both-true (nat_eq (depth_at ds x) 0) true h.form).0
  phase-form (Declare k x (Some e)) h = and-true (nat_eq (depth_at ds x) 0) (is_set e) (both-true (nat_eq (depth_at ds x) 0) (is_phase_expr e) h.form).0 (declared-set k x e h.apart h.folds h.accesses)
  phase-form (DeclareEdge x y at) h = absurd (both_ways false refl h.form)
  phase-form (Assign k (T.Scalar x g) e) h =
      and-true (nat_eq (depth_at ds x) 0) (is_set e) (depth-none (depth_at ds x) (both-true (nat_le (depth_at ds x) 0) (is_phase_expr e) h.form).0) (assigned-set k x g e h.apart h.folds h.accesses)
  phase-form (Assign k (T.Property y p at) e) h = absurd (both_ways false refl h.accesses)
  phase-form (Defer k t e) h = absurd (both_ways false refl h.form)
  phase-form (Combine k total r ts es) h =
      let f = both-true (list_all (is_within ds 0) ts) (list_all is_phase_expr es) h.form in
      let q = both-true (list_all is_scalar ts) (list_all is_told es) h.picks in
      and-true (keeps_tuples r) (list_all (is_plain ds) ts && list_all is_told es) h.compounds (and-true (list_all (is_plain ds) ts) (list_all is_told es) (targets-plain ts f.0 q.0) q.1)
  phase-form (Group k at g p e) h = absurd (both_ways false refl h.groups)
  phase-form (Foreach k at hd test body) h = h.form
  phase-form (For k at hd test body) h =
      let f = both-true (is_nodes hd.domain) (is_phase_expr test && is_phase_code ds body) h.form in
      let g = both-true (is_phase_expr test) (is_phase_code ds body) f.1 in
      let c = both-true (is_told test) (has_told_conditions body) h.conditions in
      let known : Bare body = record { form = g.1; compounds = h.compounds; apart = h.apart; conditions = c.1; groups = h.groups; folds = h.folds; accesses = h.accesses; picks = h.picks } in
      and-true (is_told test) (Outside body) c.0 (phase-form body known)
  phase-form (If k e a b) h =
      let f = both-true (is_phase_expr e) (is_phase_code ds a && is_phase_code ds b) h.form in
      let c = both-true (is_told e) (has_told_conditions a && has_told_conditions b) h.conditions in
      let q = two-bare a b f.1 h.compounds h.apart c.1 h.groups h.folds h.accesses h.picks in
      and-true (is_told e) (Outside a && Outside b) c.0 (and-true (Outside a) (Outside b) (phase-form a q.0) (phase-form b q.1))
  phase-form (While k at e body) h =
      let f = both-true (is_phase_expr e) (is_phase_code ds body) h.form in
      let c = both-true (is_told e) (has_told_conditions body) h.conditions in
      let known : Bare body = record { form = f.1; compounds = h.compounds; apart = h.apart; conditions = c.1; groups = h.groups; folds = h.folds; accesses = h.accesses; picks = h.picks } in
      and-true (is_told e) (Outside body) c.0 (phase-form body known)
  phase-form (Do k at body e) h =
      let f = both-true (is_phase_code ds body) (is_phase_expr e) h.form in
      let c = both-true (has_told_conditions body) (is_told e) h.conditions in
      let known : Bare body = record { form = f.0; compounds = h.compounds; apart = h.apart; conditions = c.0; groups = h.groups; folds = h.folds; accesses = h.accesses; picks = h.picks } in
      and-true (Outside body) (is_told e) (phase-form body known) c.1
  phase-form (InBfs k at s test body) h = h.form
  phase-form (InBfsBoth k at s test body back_key back_test back) h = searches (is_outer_expr false s.iterator test) (is_outer_code ds true s.iterator body) (is_outer_expr false s.iterator back_test) (is_outer_code ds true s.iterator back) h.form
  phase-form (Return k at None) h = refl
  phase-form (Return k at (Some e)) h = h.apart

  abbrev Flat : Stmt → Bool
  Flat s = is_phase (is_flat_loop ds false) (is_flat_loop ds true) ds s

  flat-form : (s : Stmt) → Outside s ≡ true → has_flat_loops ds s ≡ true → Flat s ≡ true
  flat-form (Then a b) h l =
      let q = both-true (Outside a) (Outside b) h in
      let r = both-true (has_flat_loops ds a) (has_flat_loops ds b) l in
      and-true (Flat a) (Flat b) (flat-form a q.0 r.0) (flat-form b q.1 r.1)
  flat-form (Foreach k at hd test body) h l =
      let q = both-true (is_nodes hd.domain) (is_outer_loop ds false hd.iterator test body) h in and-true (is_nodes hd.domain) (is_flat_loop ds false hd.iterator test body) q.0 l
  flat-form (For k at hd test body) h l = let q = both-true (is_told test) (Outside body) h in and-true (is_told test) (Flat body) q.0 (flat-form body q.1 l)
  flat-form (If k e a b) h l =
      let q = both-true (is_told e) (Outside a && Outside b) h in
      let o = both-true (Outside a) (Outside b) q.1 in
      let r = both-true (has_flat_loops ds a) (has_flat_loops ds b) l in
      and-true (is_told e) (Flat a && Flat b) q.0 (and-true (Flat a) (Flat b) (flat-form a o.0 r.0) (flat-form b o.1 r.1))
  flat-form (While k at e body) h l = let q = both-true (is_told e) (Outside body) h in and-true (is_told e) (Flat body) q.0 (flat-form body q.1 l)
  flat-form (Do k at body e) h l = let q = both-true (Outside body) (is_told e) h in and-true (Flat body) (is_told e) (flat-form body q.0 l) q.1
  flat-form (InBfs k at s test body) h l = l
  flat-form (InBfsBoth k at s test body back_key back_test back) h l = l
  flat-form (Declare k x None) h l = h
  flat-form (Declare k x (Some e)) h l = h
  flat-form (Assign k (T.Scalar x g) e) h l = h
  flat-form (Assign k (T.Property y p at) e) h l = h
  flat-form (Return k at e) h l = h
  flat-form s h l = h

-- where neither an access nor a reduction is left, and picks are onto scalars, a program is desugared but for its parallel loops and searches
pub outside : (p : Program) → WithLoopsAlone p → has_plain_picks p.body ≡ true → is_desugared_outside p ≡ true
outside p r picks =
    let apart = r.without_folds.with_reads_apart in
    let compounds = apart.with_conditions.with_literals.without_compounds in
    let groups = compounds.without_groups in
    phase-form p.declarations p.body (record {
      form = groups.ready.form;
      compounds = compounds.no_compounds;
      apart = apart.apart;
      conditions = apart.with_conditions.conditions;
      groups = groups.no_groups;
      folds = r.without_folds.no_folds;
      accesses = r.no_accesses;
      picks = picks;
    })

-- and it is desugared where these are flat
pub flat : (p : Program) → WithLoopsAlone p → has_plain_picks p.body ≡ true → has_flat_loops p.declarations p.body ≡ true → Ready1 p
flat p r picks l =
    record { sane = r.without_folds.with_reads_apart.with_conditions.with_literals.without_compounds.without_groups.ready.sane; form = flat-form p.declarations p.body (outside p r picks) l }
