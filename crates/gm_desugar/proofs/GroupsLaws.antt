-- A program without its group assignments means the same, and keeps what every pass keeps.
use Rattle.std.proofs.Common.{◌≡◌, Option, ℕ, true, false, List, [], ◌∷◌, ◌++◌, refl, ap, sym, subst}
use Rattle.std.specs.Prelude.{◌&&◌, ◌||◌, not, nat_eq, nat_lt}
use Rattle.std.proofs.lemmas.Bool.{eq-eqb, both_ways}
use Rattle.gm_base.specs.declared.places.Place.{Place}
use Rattle.gm_value.specs.declared.values.VType.{VType}
use Rattle.gm_ast.specs.declared.tree.Declaration.{Declaration}
use Rattle.gm_ast.specs.declared.tree.Key.{Key}
use Rattle.gm_ast.specs.declared.tree.Sort.{Sort}
use Rattle.gm_ast.specs.declared.tree.Sort.TheVariants as Sorts
use Rattle.gm_ast.specs.declared.tree.Target.TheVariants as T
use Rattle.gm_ast.specs.declared.tree.Variable.{Variable}
use Rattle.gm_ast.specs.Names.{is_node_type, sort_eq}
use Rattle.gm_ast.specs.Program.{Expr, always, Stmt, Skip, Then, Assign, Group, For, If, While, Do, Program}
use Rattle.gm_forms.specs.Meanings.{SameMeaning}
use Rattle.gm_forms.specs.Order.{first_key, are_numbered, lie_before, fault_if, fault_of, hoisted_in, faults_in, in_order, target_faults, faults_of, body_in_order, loop_in_order, begins}
use Rattle.gm_forms.specs.Ready.{is_outer_expr, Ready0}
use Rattle.gm_forms.specs.Uses.{Iterates, Owner, NodeValue, Anything, has_role, suits, use_as, uses_in}
use Rattle.gm_forms.proofs.Named.{both-true, all-append}
use Rattle.gm_forms.proofs.Leading.{first-begins}
use Rattle.gm_forms.proofs.Weaker.{and-true}
use Rattle.gm_desugar.specs.Groups.{ungrouped, without_groups, has_no_groups}
use Rattle.gm_desugar.specs.Stages.{WithoutGroups}
use Rattle.gm_desugar.proofs.Fewer.{nothing-before}
use Rattle.gm_desugar.proofs.Replacing.{append-true, use-as, expr-same, ForPhase, phase-same, phase-then, phase-for, phase-if, phase-while, phase-do, means-same, ready-same}

-- what iterates may own
owns : (v : Variable) → has_role v Iterates ≡ true → has_role v Owner ≡ true
owns v h = by v.sort refl h
  where
    by : (s : Sort) → v.sort ≡ s → sort_eq Sorts.Iterator s || sort_eq Sorts.Graph s ≡ true → (sort_eq Sorts.Iterator s || (sort_eq Sorts.Scalar s && is_node_type v.vtype)) || sort_eq Sorts.Graph s ≡ true
    by Sorts.Graph e h = refl
    by Sorts.Iterator e h = refl
    by Sorts.Scalar e h = absurd (both_ways false refl h)
    by Sorts.Edge e h = absurd (both_ways false refl h)
    by Sorts.NodeProperty e h = absurd (both_ways false refl h)
    by Sorts.EdgeProperty e h = absurd (both_ways false refl h)

module _ (ds : List Declaration) (res : Option VType) where
  -- a group assignment's loop in its place
  for-group : (k : Key) (at : Place) (g p : ℕ) (e : Expr) → ForPhase ds res (Group k at g p e) (ungrouped (Group k at g p e))
  for-group k at g p e = record {
    same = λ graph bound u. refl;
    named = λ h.
        let r = all-append (suits ds) (use_as Iterates g) (use_as NodeValue p ++ uses_in e) h in
        let s = all-append (suits ds) (use_as NodeValue p) (uses_in e) r.1 in
        append-true (suits ds) (use_as Iterates g ++ use_as Anything g) ((use_as Owner g ++ use_as NodeValue p) ++ uses_in e)
        (append-true (suits ds) (use_as Iterates g) (use_as Anything g) r.0 (use-as ds Iterates Anything g (λ v h. refl) r.0))
        (append-true (suits ds) (use_as Owner g ++ use_as NodeValue p) (uses_in e) (append-true (suits ds) (use_as Owner g) (use_as NodeValue p) (use-as ds Iterates Owner g owns r.0) s.0) s.1);
    typed = λ h. h;
    order = λ h.
        let s = Assign k (T.Property g p at) e in
        let its = g ∷ [] in
        let u = both-true (are_numbered (fault_of k at ∷ faults_in e k)) (in_order e k && lie_before (hoisted_in e) (fault_of k at ∷ [])) h in
        let none : target_faults its (T.Property g p at) k ≡ [] = ap (λ b. fault_if (not (b || false)) k at) (eq-eqb g g refl) in
        let numbered : are_numbered (faults_of its s) ≡ true =
        subst (λ fs. are_numbered (fs ++ faults_in e k) ≡ true) (sym none) (both-true (nat_lt 0 k.statement) (are_numbered (faults_in e k)) u.0).1 in
        let ordered : body_in_order its s ≡ true =
        subst (λ fs. in_order e k && lie_before (hoisted_in e) fs ≡ true) (sym none) (and-true (in_order e k) true (both-true (in_order e k) (lie_before (hoisted_in e) (fault_of k at ∷ [])) u.1).0 refl) in
        and-true (begins its first_key at always s) (loop_in_order its first_key always s) (first-begins its at always s refl refl numbered)
        (and-true (body_in_order its s) (lie_before [] (faults_of its s)) ordered (nothing-before (faults_of its s)));
    share = λ h. h;
    form = λ h. and-true (nat_eq g g) (is_outer_expr false g e) (eq-eqb g g refl) h;
  }

  for-ungrouped : (s : Stmt) → ForPhase ds res s (ungrouped s)
  for-ungrouped Skip = phase-same ds res Skip
  for-ungrouped (Then a b) = phase-then ds res a (ungrouped a) b (ungrouped b) (for-ungrouped a) (for-ungrouped b)
  for-ungrouped (Group k at g p e) = for-group k at g p e
  for-ungrouped (For k at h c s) = phase-for ds res k at h c c s (ungrouped s) (expr-same ds c) (for-ungrouped s)
  for-ungrouped (If k c a b) = phase-if ds res k c c a (ungrouped a) b (ungrouped b) (expr-same ds c) (for-ungrouped a) (for-ungrouped b)
  for-ungrouped (While k at c s) = phase-while ds res k at c c s (ungrouped s) (expr-same ds c) (for-ungrouped s)
  for-ungrouped (Do k at s c) = phase-do ds res k at c c s (ungrouped s) (expr-same ds c) (for-ungrouped s)
  for-ungrouped s = phase-same ds res s

pub same-without_groups : (p : Program) → SameMeaning p (without_groups p)
same-without_groups p = means-same p (ungrouped p.body) (for-ungrouped p.declarations p.result p.body)

no-groups : (s : Stmt) → has_no_groups (ungrouped s) ≡ true
no-groups (Then a b) = and-true (has_no_groups (ungrouped a)) (has_no_groups (ungrouped b)) (no-groups a) (no-groups b)
no-groups (For k at hd test body) = no-groups body
no-groups (If k c a b) = and-true (has_no_groups (ungrouped a)) (has_no_groups (ungrouped b)) (no-groups a) (no-groups b)
no-groups (While k at c body) = no-groups body
no-groups (Do k at body c) = no-groups body
no-groups s = refl

pub kept : (p : Program) → Ready0 p → WithoutGroups (without_groups p)
kept p r = record { ready = ready-same p (ungrouped p.body) (for-ungrouped p.declarations p.result p.body) r; no_groups = no-groups p.body }
