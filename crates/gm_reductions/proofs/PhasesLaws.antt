-- What is left of a sequential phase computes with scalars alone.
use Rattle.std.proofs.Common.{◌≡◌, ℕ, Bool, true, false, List, [], ◌∷◌, refl, Option, Some, None}
use Rattle.std.specs.Prelude.{◌&&◌, ◌||◌, nat_eq, nat_le}
use Rattle.std.proofs.lemmas.Bool.{both_ways, eq-eqb, leb-true}
use Rattle.std.proofs.Common.{◌∙◌, ap, arith}
use Rattle.gm_ast.specs.declared.tree.Declaration.{Declaration}
use Rattle.gm_ast.specs.declared.tree.Key.{Key}
use Rattle.gm_ast.specs.declared.tree.Target.TheVariants as T
use Rattle.gm_base.specs.declared.places.Place.{Place}
use Rattle.gm_ast.specs.Loops.{is_nodes}
use Rattle.gm_ast.specs.Program.{Expr, Const, Var, Property, EdgeProperty, Degree, NodeCount, EdgeCount, Live, Unary, Binary, Both, Either, Choose, Folded, Stmt, Skip, Then, Declare, DeclareEdge, Assign, Defer, Combine, Group, Foreach, For, If, While, Do, InBfs, InBfsBoth, Return, Program}
use Rattle.gm_forms.specs.Forms.{depth_at, may, is_told, is_set, is_flat_loop, is_phase, is_desugared}
use Rattle.gm_forms.specs.Ready.{is_outer_expr, is_outer_code, is_outer_loop, is_phase_expr, is_phase_code, Ready1}
use Rattle.gm_forms.proofs.Named.{both-true}
use Rattle.gm_forms.proofs.Weaker.{and-true}
use Rattle.gm_desugar.specs.Conditions.{has_told_conditions}
use Rattle.gm_desugar.specs.Groups.{has_no_groups}
use Rattle.gm_desugar.specs.Reads.{is_single, has_reads_apart}
use Rattle.gm_reductions.specs.Accesses.{has_no_accesses}
use Rattle.gm_reductions.specs.Folds.{has_no_folds}
use Rattle.gm_reductions.specs.Phases.{has_no_picks, has_flat_loops, is_search_code, is_desugared_outside}
use Rattle.gm_reductions.specs.Stages.{WithLoopsAlone}

or-false : (b : Bool) → b || false ≡ true → b ≡ true
or-false true h = refl
or-false false h = h

-- what stands alone and is neither an access nor a reduction is told, or a check
declared-set : (k : Key) (x : ℕ) (e : Expr) → is_single x e ≡ true → has_no_folds (Declare k x (Some e)) ≡ true → has_no_accesses (Declare k x (Some e)) ≡ true → is_set e ≡ true
declared-set k x (Const v) h f a = refl
declared-set k x (Var y at) h f a = refl
declared-set k x (Property y p at) h f a = absurd (both_ways false refl a)
declared-set k x (EdgeProperty y p at) h f a = h
declared-set k x (Degree d y at) h f a = absurd (both_ways false refl a)
declared-set k x NodeCount h f a = refl
declared-set k x EdgeCount h f a = refl
declared-set k x (Live y at) h f a = refl
declared-set k x (Unary op at e) h f a = or-false (is_told e) h
declared-set k x (Binary op at b c) h f a = or-false (is_told b && is_told c) h
declared-set k x (Both b c) h f a = or-false (is_told b && is_told c) h
declared-set k x (Either b c) h f a = or-false (is_told b && is_told c) h
declared-set k x (Choose t b c) h f a = or-false (is_told t && (is_told b && is_told c)) h
declared-set k x (Folded fold hd test e) h f a = absurd (both_ways false refl f)

assigned-set : (k : Key) (x : ℕ) (g : Place) (e : Expr) → is_single x e ≡ true → has_no_folds (Assign k (T.Scalar x g) e) ≡ true → has_no_accesses (Assign k (T.Scalar x g) e) ≡ true → is_set e ≡ true
assigned-set k x g (Const v) h f a = refl
assigned-set k x g (Var y at) h f a = refl
assigned-set k x g (Property y p at) h f a = absurd (both_ways false refl a)
assigned-set k x g (EdgeProperty y p at) h f a = h
assigned-set k x g (Degree d y at) h f a = absurd (both_ways false refl a)
assigned-set k x g NodeCount h f a = refl
assigned-set k x g EdgeCount h f a = refl
assigned-set k x g (Live y at) h f a = refl
assigned-set k x g (Unary op at e) h f a = or-false (is_told e) h
assigned-set k x g (Binary op at b c) h f a = or-false (is_told b && is_told c) h
assigned-set k x g (Both b c) h f a = or-false (is_told b && is_told c) h
assigned-set k x g (Either b c) h f a = or-false (is_told b && is_told c) h
assigned-set k x g (Choose t b c) h f a = or-false (is_told t && (is_told b && is_told c)) h
assigned-set k x g (Folded fold hd test e) h f a = absurd (both_ways false refl f)

depth-none : (d : ℕ) → nat_le d 0 ≡ true → nat_eq d 0 ≡ true
depth-none d h = eq-eqb d 0 (let l = leb-true d 0 h in omega arith)

module _ (ds : List Declaration) where
  -- what is known of a statement
  record Bare (s : Stmt) : Type 0 where
    form : is_phase_code ds s ≡ true
    apart : has_reads_apart s ≡ true
    conditions : has_told_conditions s ≡ true
    groups : has_no_groups s ≡ true
    folds : has_no_folds s ≡ true
    accesses : has_no_accesses s ≡ true
    picks : has_no_picks s ≡ true

  -- of two statements, where something more is known of the form and the condition
  two-bare : (s t : Stmt) → is_phase_code ds s && is_phase_code ds t ≡ true → has_reads_apart s && has_reads_apart t ≡ true → has_told_conditions s && has_told_conditions t ≡ true → has_no_groups s && has_no_groups t ≡ true
      → has_no_folds s && has_no_folds t ≡ true → has_no_accesses s && has_no_accesses t ≡ true → has_no_picks s && has_no_picks t ≡ true → Bare s × Bare t
  two-bare s t form apart conditions groups folds accesses picks =
      let a = both-true (is_phase_code ds s) (is_phase_code ds t) form in
      let b = both-true (has_reads_apart s) (has_reads_apart t) apart in
      let c = both-true (has_told_conditions s) (has_told_conditions t) conditions in
      let d = both-true (has_no_groups s) (has_no_groups t) groups in
      let e = both-true (has_no_folds s) (has_no_folds t) folds in
      let f = both-true (has_no_accesses s) (has_no_accesses t) accesses in
      let g = both-true (has_no_picks s) (has_no_picks t) picks in
      (record { form = a.0; apart = b.0; conditions = c.0; groups = d.0; folds = e.0; accesses = f.0; picks = g.0 }, record { form = a.1; apart = b.1; conditions = c.1; groups = d.1; folds = e.1; accesses = f.1; picks = g.1 })

  abbrev Outside : Stmt → Bool
  Outside s = is_phase (is_outer_loop ds false) (is_search_code ds) ds s

  searches : (a b c d : Bool) → a && (b && (c && d)) ≡ true → (a && b) && (c && d) ≡ true
  searches true true c d h = h
  searches true false c d h = h
  searches false b c d h = h

  phase-form : (s : Stmt) → Bare s → Outside s ≡ true
  phase-form Skip h = refl
  phase-form (Then a b) h = let q = two-bare a b h.form h.apart h.conditions h.groups h.folds h.accesses h.picks in and-true (Outside a) (Outside b) (phase-form a q.0) (phase-form b q.1)
  phase-form (Declare k x None) h = (both-true (nat_eq (depth_at ds x) 0) true h.form).0
  phase-form (Declare k x (Some e)) h = and-true (nat_eq (depth_at ds x) 0) (is_set e) (both-true (nat_eq (depth_at ds x) 0) (is_phase_expr e) h.form).0 (declared-set k x e h.apart h.folds h.accesses)
  phase-form (DeclareEdge x y at) h = absurd (both_ways false refl h.form)
  phase-form (Assign k (T.Scalar x g) e) h =
      and-true (nat_eq (depth_at ds x) 0) (is_set e) (depth-none (depth_at ds x) (both-true (nat_le (depth_at ds x) 0) (is_phase_expr e) h.form).0) (assigned-set k x g e h.apart h.folds h.accesses)
  phase-form (Assign k (T.Property y p at) e) h = absurd (both_ways false refl h.accesses)
  phase-form (Defer k t e) h = absurd (both_ways false refl h.form)
  phase-form (Combine k total r ts es) h = absurd (both_ways false refl h.picks)
  phase-form (Group k at g p e) h = absurd (both_ways false refl h.groups)
  phase-form (Foreach k at hd test body) h = h.form
  phase-form (For k at hd test body) h =
      let f = both-true (is_nodes hd.domain) (is_phase_expr test && is_phase_code ds body) h.form in
      let g = both-true (is_phase_expr test) (is_phase_code ds body) f.1 in
      let c = both-true (is_told test) (has_told_conditions body) h.conditions in
      and-true (is_told test) (Outside body) c.0 (phase-form body (record { form = g.1; apart = h.apart; conditions = c.1; groups = h.groups; folds = h.folds; accesses = h.accesses; picks = h.picks }))
  phase-form (If k e a b) h =
      let f = both-true (is_phase_expr e) (is_phase_code ds a && is_phase_code ds b) h.form in
      let c = both-true (is_told e) (has_told_conditions a && has_told_conditions b) h.conditions in
      let q = two-bare a b f.1 h.apart c.1 h.groups h.folds h.accesses h.picks in
      and-true (is_told e) (Outside a && Outside b) c.0 (and-true (Outside a) (Outside b) (phase-form a q.0) (phase-form b q.1))
  phase-form (While k at e body) h =
      let f = both-true (is_phase_expr e) (is_phase_code ds body) h.form in
      let c = both-true (is_told e) (has_told_conditions body) h.conditions in
      and-true (is_told e) (Outside body) c.0 (phase-form body (record { form = f.1; apart = h.apart; conditions = c.1; groups = h.groups; folds = h.folds; accesses = h.accesses; picks = h.picks }))
  phase-form (Do k at body e) h =
      let f = both-true (is_phase_code ds body) (is_phase_expr e) h.form in
      let c = both-true (has_told_conditions body) (is_told e) h.conditions in
      and-true (Outside body) (is_told e) (phase-form body (record { form = f.0; apart = h.apart; conditions = c.0; groups = h.groups; folds = h.folds; accesses = h.accesses; picks = h.picks })) c.1
  phase-form (InBfs k at s test body) h = h.form
  phase-form (InBfsBoth k at s test body back_key back_test back) h = searches (is_outer_expr false s.iterator test) (is_outer_code ds true s.iterator body) (is_outer_expr false s.iterator back_test) (is_outer_code ds true s.iterator back) h.form
  phase-form (Return k at None) h = refl
  phase-form (Return k at (Some e)) h = h.apart

  abbrev Flat : Stmt → Bool
  Flat s = is_phase (is_flat_loop ds false) (is_flat_loop ds true) ds s

  flat-form : (s : Stmt) → Outside s ≡ true → has_flat_loops ds s ≡ true → Flat s ≡ true
  flat-form Skip h l = refl
  flat-form (Then a b) h l =
      let q = both-true (Outside a) (Outside b) h in let r = both-true (has_flat_loops ds a) (has_flat_loops ds b) l in and-true (Flat a) (Flat b) (flat-form a q.0 r.0) (flat-form b q.1 r.1)
  flat-form (Declare k x None) h l = h
  flat-form (Declare k x (Some e)) h l = h
  flat-form (DeclareEdge x y at) h l = h
  flat-form (Assign k (T.Scalar x g) e) h l = h
  flat-form (Assign k (T.Property y p at) e) h l = h
  flat-form (Defer k t e) h l = h
  flat-form (Combine k total r ts es) h l = h
  flat-form (Group k at g p e) h l = h
  flat-form (Foreach k at hd test body) h l =
      let q = both-true (is_nodes hd.domain) (is_outer_loop ds false hd.iterator test body) h in and-true (is_nodes hd.domain) (is_flat_loop ds false hd.iterator test body) q.0 l
  flat-form (For k at hd test body) h l = let q = both-true (is_told test) (Outside body) h in and-true (is_told test) (Flat body) q.0 (flat-form body q.1 l)
  flat-form (If k e a b) h l =
      let q = both-true (is_told e) (Outside a && Outside b) h in
      let o = both-true (Outside a) (Outside b) q.1 in
      let r = both-true (has_flat_loops ds a) (has_flat_loops ds b) l in
      and-true (is_told e) (Flat a && Flat b) q.0 (and-true (Flat a) (Flat b) (flat-form a o.0 r.0) (flat-form b o.1 r.1))
  flat-form (While k at e body) h l = let q = both-true (is_told e) (Outside body) h in and-true (is_told e) (Flat body) q.0 (flat-form body q.1 l)
  flat-form (Do k at body e) h l = let q = both-true (Outside body) (is_told e) h in and-true (Flat body) (is_told e) (flat-form body q.0 l) q.1
  flat-form (InBfs k at s test body) h l = l
  flat-form (InBfsBoth k at s test body back_key back_test back) h l = l
  flat-form (Return k at None) h l = refl
  flat-form (Return k at (Some e)) h l = h

pub outside : (p : Program) → WithLoopsAlone p → has_no_picks p.body ≡ true → is_desugared_outside p ≡ true
outside p r picks =
    let apart = r.without_folds.with_reads_apart in
    let groups = apart.with_conditions.with_literals.without_compounds.without_groups in
    phase-form p.declarations p.body (record { form = groups.ready.form; apart = apart.apart; conditions = apart.with_conditions.conditions; groups = groups.no_groups; folds = r.without_folds.no_folds; accesses = r.no_accesses; picks = picks })

pub flat : (p : Program) → WithLoopsAlone p → has_no_picks p.body ≡ true → has_flat_loops p.declarations p.body ≡ true → Ready1 p
flat p r picks l =
    record { sane = r.without_folds.with_reads_apart.with_conditions.with_literals.without_compounds.without_groups.ready.sane; form = flat-form p.declarations p.body (outside p r picks) l }
