-- What is known of a statement of a sequential phase and of its parts.
use Rattle.std.proofs.Common.{◌≡◌, ◌<◌, ◌++◌, ℕ, Bool, true, false, cond, List, [], ◌∷◌, refl, sym, ap, subst, ◌∙◌, Option, Some}
use Rattle.std.specs.Prelude.{◌&&◌, ◌||◌, length, nat_eq, nat_lt}
use Rattle.std.specs.List.{list_all}
use Rattle.std.proofs.lemmas.Bool.{both_ways, eq-eqb, eqb-true, ne_eqb}
use Rattle.gm_base.specs.declared.places.Place.{Place}
use Rattle.gm_value.specs.declared.values.VType.{VType}
use Rattle.gm_value.specs.declared.values.VType.TheVariants as V
use Rattle.gm_value.specs.declared.values.Value.TheVariants.{At}
use Rattle.gm_model.specs.Graphs.{NumberedGraph, node_count}
use Rattle.gm_ast.specs.declared.tree.Declaration.{Declaration}
use Rattle.gm_ast.specs.declared.tree.Head.{Head}
use Rattle.gm_ast.specs.declared.tree.Key.{Key}
use Rattle.gm_ast.specs.declared.tree.Sort.{Sort}
use Rattle.gm_ast.specs.declared.tree.Sort.TheVariants as Sorts
use Rattle.gm_ast.specs.declared.tree.Variable.{Variable}
use Rattle.gm_ast.specs.Loops.{is_nodes}
use Rattle.gm_ast.specs.Names.{is, sort_eq}
use Rattle.gm_ast.specs.Program.{Expr, Stmt, Then, For, If, While, Do}
use Rattle.gm_ast.specs.Ways.{is_in}
use Rattle.gm_semantics.specs.declared.slots.Slot.TheVariants.{Scalar}
use Rattle.gm_semantics.specs.Stores.{Store, write}
use Rattle.gm_semantics.specs.Statements.{variable_at}
use Rattle.gm_forms.specs.Doing.{IsNode, Held}
use Rattle.gm_forms.specs.Forms.{is_told}
use Rattle.gm_forms.specs.Order.{folds_in_order, loops_in_order}
use Rattle.gm_forms.specs.Ready.{is_phase_expr, is_phase_code}
use Rattle.gm_forms.specs.Sharing.{loops_share}
use Rattle.gm_forms.specs.Typing.{has_type, is_typed_in}
use Rattle.gm_forms.specs.Uses.{Iterates, suits, has_role, use_as, uses_in, uses_of_head, uses_of}
use Rattle.gm_forms.proofs.Named.{both-true, all-append}
use Rattle.gm_forms.proofs.Weaker.{and-true}
use Rattle.gm_typed_stores.specs.Tells.{TypeTable, takes_nodes, tells, tells_in}
use Rattle.gm_desugar.specs.Compounds.{has_no_compounds}
use Rattle.gm_desugar.specs.Conditions.{has_told_conditions}
use Rattle.gm_desugar.specs.Groups.{has_no_groups}
use Rattle.gm_desugar.specs.Literals.{has_literals, all_exprs}
use Rattle.gm_desugar.specs.Reads.{has_reads_apart}
use Rattle.gm_desugar.proofs.Replacing.{append-true}
use Rattle.gm_reductions.specs.Keys.{rises, all_rise}

-- an iterator of a loop over nodes
pub record IsIterator (table : TypeTable) (y : ℕ) : Type 0 where
  pub named : list_all (suits table.declarations) (use_as Iterates y) ≡ true
  pub takes : takes_nodes table y ≡ true

abbrev pub AreIterators : TypeTable → List ℕ → Type 0
AreIterators table its = (y : ℕ) → is_in its y ≡ true → IsIterator table y

pub no-iterators : (table : TypeTable) → AreIterators table []
no-iterators table y i = absurd (both_ways false refl i)

pub one-more : (table : TypeTable) (n : ℕ) (its : List ℕ) → IsIterator table n → AreIterators table its → AreIterators table (n ∷ its)
one-more table n its new known y i = by (nat_eq y n) refl i
  where
    by : (b : Bool) → nat_eq y n ≡ b → b || is_in its y ≡ true → IsIterator table y
    by true e i = subst (IsIterator table) (sym (eqb-true y n e)) new
    by false e i = known y i

-- it may be iterated, so it is no scalar
pub iterates : (table : TypeTable) (y : ℕ) → IsIterator table y → has_role (variable_at table.declarations y) Iterates ≡ true
iterates table y h =
    let s = both-true (suits table.declarations (record { variable = y; role = Iterates })) true h.named in (both-true (nat_lt y (length table.declarations)) (has_role (variable_at table.declarations y) Iterates) s.0).1

pub no-scalar : (table : TypeTable) (y : ℕ) → IsIterator table y → is Sorts.Scalar (variable_at table.declarations y) ≡ false
no-scalar table y h = by (variable_at table.declarations y) (iterates table y h)
  where
    by : (v : Variable) → has_role v Iterates ≡ true → is Sorts.Scalar v ≡ false
    by v h = at v.sort h
      where
        at : (s : Sort) → sort_eq Sorts.Iterator s || sort_eq Sorts.Graph s ≡ true → sort_eq Sorts.Scalar s ≡ false
        at Sorts.Graph h = refl
        at Sorts.Iterator h = refl
        at Sorts.Scalar h = absurd (both_ways false refl h)
        at Sorts.Edge h = refl
        at Sorts.NodeProperty h = refl
        at Sorts.EdgeProperty h = refl

-- iterators that hold nodes, and one more that is set to a node
pub enter-held : (g : NumberedGraph) (n m : ℕ) (its : List ℕ) (s : Store) → m < node_count g → Held g its s → Held g (n ∷ its) (write s (Scalar n) (At (Some m)))
enter-held g n m its s low held y i = by (nat_eq n y) refl
  where
    by : (b : Bool) → nat_eq n y ≡ b → IsNode g (cond b (At (Some m)) (s.scalar y))
    by true e = (m, refl, low)
    by false e = held y (sym (ap (λ b. b || is_in its y) (ne_eqb y n (λ same. both_ways (nat_eq n y) e (eq-eqb n y (sym same))))) ∙ i)

module _ (table : TypeTable) (res : Option VType) where
  abbrev es : List Declaration
  es = table.declarations

  -- what is known of a statement inside some iterators
  pub record Kept (its : List ℕ) (s : Stmt) : Type 0 where
    pub named : list_all (suits es) (uses_of s) ≡ true
    pub typed : is_typed_in es res s ≡ true
    pub ordered : loops_in_order s ≡ true
    pub share : loops_share es s ≡ true
    pub form : is_phase_code es s ≡ true
    pub groups : has_no_groups s ≡ true
    pub compounds : has_no_compounds es s ≡ true
    pub literals : all_exprs has_literals s ≡ true
    pub conditions : has_told_conditions s ≡ true
    pub apart : has_reads_apart s ≡ true
    pub rising : all_rise s ≡ true
    pub tells : tells_in table its s ≡ true

  -- what is known of a condition
  pub record Asked (its : List ℕ) (e : Expr) : Type 0 where
    pub named : list_all (suits es) (uses_in e) ≡ true
    pub typed : has_type es V.Flag e ≡ true
    pub ordered : folds_in_order e ≡ true
    pub form : is_phase_expr e ≡ true
    pub literals : has_literals e ≡ true
    pub conditions : is_told e ≡ true
    pub rising : rises e ≡ true
    pub tells : tells table its e ≡ true

  -- what is known of the head of a For
  pub record Ranges (hd : Head) : Type 0 where
    pub named : list_all (suits es) (uses_of_head hd) ≡ true
    pub nodes : is_nodes hd.domain ≡ true
    pub takes : takes_nodes table hd.iterator ≡ true

  pub then-parts : (its : List ℕ) (s t : Stmt) → Kept its (Then s t) → Kept its s × Kept its t
  then-parts its s t h =
      let named = all-append (suits es) (uses_of s) (uses_of t) h.named in
      let typed = both-true (is_typed_in es res s) (is_typed_in es res t) h.typed in
      let ordered = both-true (loops_in_order s) (loops_in_order t) h.ordered in
      let share = both-true (loops_share es s) (loops_share es t) h.share in
      let form = both-true (is_phase_code es s) (is_phase_code es t) h.form in
      let groups = both-true (has_no_groups s) (has_no_groups t) h.groups in
      let compounds = both-true (has_no_compounds es s) (has_no_compounds es t) h.compounds in
      let literals = both-true (all_exprs has_literals s) (all_exprs has_literals t) h.literals in
      let conditions = both-true (has_told_conditions s) (has_told_conditions t) h.conditions in
      let apart = both-true (has_reads_apart s) (has_reads_apart t) h.apart in
      let rising = both-true (all_rise s) (all_rise t) h.rising in
      let tells = both-true (tells_in table its s) (tells_in table its t) h.tells in
      (record { named = named.0; typed = typed.0; ordered = ordered.0; share = share.0; form = form.0; groups = groups.0; compounds = compounds.0; literals = literals.0; conditions = conditions.0; apart = apart.0; rising = rising.0; tells = tells.0 }, record { named = named.1; typed = typed.1; ordered = ordered.1; share = share.1; form = form.1; groups = groups.1; compounds = compounds.1; literals = literals.1; conditions = conditions.1; apart = apart.1; rising = rising.1; tells = tells.1 })

  pub then-kept : (its : List ℕ) (s t : Stmt) → Kept its s → Kept its t → Kept its (Then s t)
  then-kept its s t p q = record {
    named = append-true (suits es) (uses_of s) (uses_of t) p.named q.named;
    typed = and-true (is_typed_in es res s) (is_typed_in es res t) p.typed q.typed;
    ordered = and-true (loops_in_order s) (loops_in_order t) p.ordered q.ordered;
    share = and-true (loops_share es s) (loops_share es t) p.share q.share;
    form = and-true (is_phase_code es s) (is_phase_code es t) p.form q.form;
    groups = and-true (has_no_groups s) (has_no_groups t) p.groups q.groups;
    compounds = and-true (has_no_compounds es s) (has_no_compounds es t) p.compounds q.compounds;
    literals = and-true (all_exprs has_literals s) (all_exprs has_literals t) p.literals q.literals;
    conditions = and-true (has_told_conditions s) (has_told_conditions t) p.conditions q.conditions;
    apart = and-true (has_reads_apart s) (has_reads_apart t) p.apart q.apart;
    rising = and-true (all_rise s) (all_rise t) p.rising q.rising;
    tells = and-true (tells_in table its s) (tells_in table its t) p.tells q.tells;
  }

  pub if-parts : (its : List ℕ) (k : Key) (e : Expr) (s t : Stmt) → Kept its (If k e s t) → Asked its e × Kept its s × Kept its t
  if-parts its k e s t h =
      let c_named = all-append (suits es) (uses_in e) (uses_of s ++ uses_of t) h.named in
      let named = all-append (suits es) (uses_of s) (uses_of t) c_named.1 in
      let c_typed = both-true (has_type es V.Flag e) (is_typed_in es res s && is_typed_in es res t) h.typed in
      let typed = both-true (is_typed_in es res s) (is_typed_in es res t) c_typed.1 in
      let c_ordered = both-true (folds_in_order e) (loops_in_order s && loops_in_order t) h.ordered in
      let ordered = both-true (loops_in_order s) (loops_in_order t) c_ordered.1 in
      let share = both-true (loops_share es s) (loops_share es t) h.share in
      let c_form = both-true (is_phase_expr e) (is_phase_code es s && is_phase_code es t) h.form in
      let form = both-true (is_phase_code es s) (is_phase_code es t) c_form.1 in
      let groups = both-true (has_no_groups s) (has_no_groups t) h.groups in
      let compounds = both-true (has_no_compounds es s) (has_no_compounds es t) h.compounds in
      let c_literals = both-true (has_literals e) (all_exprs has_literals s && all_exprs has_literals t) h.literals in
      let literals = both-true (all_exprs has_literals s) (all_exprs has_literals t) c_literals.1 in
      let c_conditions = both-true (is_told e) (has_told_conditions s && has_told_conditions t) h.conditions in
      let conditions = both-true (has_told_conditions s) (has_told_conditions t) c_conditions.1 in
      let apart = both-true (has_reads_apart s) (has_reads_apart t) h.apart in
      let c_rising = both-true (rises e) (all_rise s && all_rise t) h.rising in
      let rising = both-true (all_rise s) (all_rise t) c_rising.1 in
      let c_tells = both-true (tells table its e) (tells_in table its s && tells_in table its t) h.tells in
      let tells = both-true (tells_in table its s) (tells_in table its t) c_tells.1 in
      (record { named = c_named.0; typed = c_typed.0; ordered = c_ordered.0; form = c_form.0; literals = c_literals.0; conditions = c_conditions.0; rising = c_rising.0; tells = c_tells.0 }, record { named = named.0; typed = typed.0; ordered = ordered.0; share = share.0; form = form.0; groups = groups.0; compounds = compounds.0; literals = literals.0; conditions = conditions.0; apart = apart.0; rising = rising.0; tells = tells.0 }, record { named = named.1; typed = typed.1; ordered = ordered.1; share = share.1; form = form.1; groups = groups.1; compounds = compounds.1; literals = literals.1; conditions = conditions.1; apart = apart.1; rising = rising.1; tells = tells.1 })

  pub if-kept : (its : List ℕ) (k : Key) (e : Expr) (s t : Stmt) → Asked its e → Kept its s → Kept its t → Kept its (If k e s t)
  if-kept its k e s t c p q = record {
    named = append-true (suits es) (uses_in e) (uses_of s ++ uses_of t) c.named (append-true (suits es) (uses_of s) (uses_of t) p.named q.named);
    typed = and-true (has_type es V.Flag e) (is_typed_in es res s && is_typed_in es res t) c.typed (and-true (is_typed_in es res s) (is_typed_in es res t) p.typed q.typed);
    ordered = and-true (folds_in_order e) (loops_in_order s && loops_in_order t) c.ordered (and-true (loops_in_order s) (loops_in_order t) p.ordered q.ordered);
    share = and-true (loops_share es s) (loops_share es t) p.share q.share;
    form = and-true (is_phase_expr e) (is_phase_code es s && is_phase_code es t) c.form (and-true (is_phase_code es s) (is_phase_code es t) p.form q.form);
    groups = and-true (has_no_groups s) (has_no_groups t) p.groups q.groups;
    compounds = and-true (has_no_compounds es s) (has_no_compounds es t) p.compounds q.compounds;
    literals = and-true (has_literals e) (all_exprs has_literals s && all_exprs has_literals t) c.literals (and-true (all_exprs has_literals s) (all_exprs has_literals t) p.literals q.literals);
    conditions = and-true (is_told e) (has_told_conditions s && has_told_conditions t) c.conditions (and-true (has_told_conditions s) (has_told_conditions t) p.conditions q.conditions);
    apart = and-true (has_reads_apart s) (has_reads_apart t) p.apart q.apart;
    rising = and-true (rises e) (all_rise s && all_rise t) c.rising (and-true (all_rise s) (all_rise t) p.rising q.rising);
    tells = and-true (tells table its e) (tells_in table its s && tells_in table its t) c.tells (and-true (tells_in table its s) (tells_in table its t) p.tells q.tells);
  }

  pub while-parts : (its : List ℕ) (k : Key) (at : Place) (e : Expr) (s : Stmt) → Kept its (While k at e s) → Asked its e × Kept its s
  while-parts its k at e s h =
      let c_named = all-append (suits es) (uses_in e) (uses_of s) h.named in
      let c_typed = both-true (has_type es V.Flag e) (is_typed_in es res s) h.typed in
      let c_ordered = both-true (folds_in_order e) (loops_in_order s) h.ordered in
      let c_form = both-true (is_phase_expr e) (is_phase_code es s) h.form in
      let c_literals = both-true (has_literals e) (all_exprs has_literals s) h.literals in
      let c_conditions = both-true (is_told e) (has_told_conditions s) h.conditions in
      let c_rising = both-true (rises e) (all_rise s) h.rising in
      let c_tells = both-true (tells table its e) (tells_in table its s) h.tells in
      (record { named = c_named.0; typed = c_typed.0; ordered = c_ordered.0; form = c_form.0; literals = c_literals.0; conditions = c_conditions.0; rising = c_rising.0; tells = c_tells.0 }, record { named = c_named.1; typed = c_typed.1; ordered = c_ordered.1; share = h.share; form = c_form.1; groups = h.groups; compounds = h.compounds; literals = c_literals.1; conditions = c_conditions.1; apart = h.apart; rising = c_rising.1; tells = c_tells.1 })

  pub while-kept : (its : List ℕ) (k : Key) (at : Place) (e : Expr) (s : Stmt) → Asked its e → Kept its s → Kept its (While k at e s)
  while-kept its k at e s c p = record {
    named = append-true (suits es) (uses_in e) (uses_of s) c.named p.named;
    typed = and-true (has_type es V.Flag e) (is_typed_in es res s) c.typed p.typed;
    ordered = and-true (folds_in_order e) (loops_in_order s) c.ordered p.ordered;
    share = p.share;
    form = and-true (is_phase_expr e) (is_phase_code es s) c.form p.form;
    groups = p.groups;
    compounds = p.compounds;
    literals = and-true (has_literals e) (all_exprs has_literals s) c.literals p.literals;
    conditions = and-true (is_told e) (has_told_conditions s) c.conditions p.conditions;
    apart = p.apart;
    rising = and-true (rises e) (all_rise s) c.rising p.rising;
    tells = and-true (tells table its e) (tells_in table its s) c.tells p.tells;
  }

  pub do-parts : (its : List ℕ) (k : Key) (at : Place) (e : Expr) (s : Stmt) → Kept its (Do k at s e) → Asked its e × Kept its s
  do-parts its k at e s h =
      let c_named = all-append (suits es) (uses_of s) (uses_in e) h.named in
      let c_typed = both-true (is_typed_in es res s) (has_type es V.Flag e) h.typed in
      let c_ordered = both-true (loops_in_order s) (folds_in_order e) h.ordered in
      let c_form = both-true (is_phase_code es s) (is_phase_expr e) h.form in
      let c_literals = both-true (all_exprs has_literals s) (has_literals e) h.literals in
      let c_conditions = both-true (has_told_conditions s) (is_told e) h.conditions in
      let c_rising = both-true (all_rise s) (rises e) h.rising in
      let c_tells = both-true (tells_in table its s) (tells table its e) h.tells in
      (record { named = c_named.1; typed = c_typed.1; ordered = c_ordered.1; form = c_form.1; literals = c_literals.1; conditions = c_conditions.1; rising = c_rising.1; tells = c_tells.1 }, record { named = c_named.0; typed = c_typed.0; ordered = c_ordered.0; share = h.share; form = c_form.0; groups = h.groups; compounds = h.compounds; literals = c_literals.0; conditions = c_conditions.0; apart = h.apart; rising = c_rising.0; tells = c_tells.0 })

  pub do-kept : (its : List ℕ) (k : Key) (at : Place) (e : Expr) (s : Stmt) → Asked its e → Kept its s → Kept its (Do k at s e)
  do-kept its k at e s c p = record {
    named = append-true (suits es) (uses_of s) (uses_in e) p.named c.named;
    typed = and-true (is_typed_in es res s) (has_type es V.Flag e) p.typed c.typed;
    ordered = and-true (loops_in_order s) (folds_in_order e) p.ordered c.ordered;
    share = p.share;
    form = and-true (is_phase_code es s) (is_phase_expr e) p.form c.form;
    groups = p.groups;
    compounds = p.compounds;
    literals = and-true (all_exprs has_literals s) (has_literals e) p.literals c.literals;
    conditions = and-true (has_told_conditions s) (is_told e) p.conditions c.conditions;
    apart = p.apart;
    rising = and-true (all_rise s) (rises e) p.rising c.rising;
    tells = and-true (tells_in table its s) (tells table its e) p.tells c.tells;
  }

  pub for-parts : (its : List ℕ) (k : Key) (at : Place) (hd : Head) (e : Expr) (s : Stmt) → Kept its (For k at hd e s) → Ranges hd × Asked (hd.iterator ∷ its) e × Kept (hd.iterator ∷ its) s
  for-parts its k at hd e s h =
      let head = all-append (suits es) (uses_of_head hd) (uses_in e ++ uses_of s) h.named in
      let range = both-true (is_nodes hd.domain) (is_phase_expr e && is_phase_code es s) h.form in
      let takes = both-true (takes_nodes table hd.iterator) (tells table (hd.iterator ∷ its) e && tells_in table (hd.iterator ∷ its) s) h.tells in
      let c_named = all-append (suits es) (uses_in e) (uses_of s) head.1 in
      let c_typed = both-true (has_type es V.Flag e) (is_typed_in es res s) h.typed in
      let c_ordered = both-true (folds_in_order e) (loops_in_order s) h.ordered in
      let c_form = both-true (is_phase_expr e) (is_phase_code es s) range.1 in
      let c_literals = both-true (has_literals e) (all_exprs has_literals s) h.literals in
      let c_conditions = both-true (is_told e) (has_told_conditions s) h.conditions in
      let c_rising = both-true (rises e) (all_rise s) h.rising in
      let c_tells = both-true (tells table (hd.iterator ∷ its) e) (tells_in table (hd.iterator ∷ its) s) takes.1 in
      (record { named = head.0; nodes = range.0; takes = takes.0 }, record { named = c_named.0; typed = c_typed.0; ordered = c_ordered.0; form = c_form.0; literals = c_literals.0; conditions = c_conditions.0; rising = c_rising.0; tells = c_tells.0 }, record { named = c_named.1; typed = c_typed.1; ordered = c_ordered.1; share = h.share; form = c_form.1; groups = h.groups; compounds = h.compounds; literals = c_literals.1; conditions = c_conditions.1; apart = h.apart; rising = c_rising.1; tells = c_tells.1 })

  pub for-kept : (its : List ℕ) (k : Key) (at : Place) (hd : Head) (e : Expr) (s : Stmt) → Ranges hd → Asked (hd.iterator ∷ its) e → Kept (hd.iterator ∷ its) s → Kept its (For k at hd e s)
  for-kept its k at hd e s r c p = record {
    named = append-true (suits es) (uses_of_head hd) (uses_in e ++ uses_of s) r.named (append-true (suits es) (uses_in e) (uses_of s) c.named p.named);
    typed = and-true (has_type es V.Flag e) (is_typed_in es res s) c.typed p.typed;
    ordered = and-true (folds_in_order e) (loops_in_order s) c.ordered p.ordered;
    share = p.share;
    form = and-true (is_nodes hd.domain) (is_phase_expr e && is_phase_code es s) r.nodes (and-true (is_phase_expr e) (is_phase_code es s) c.form p.form);
    groups = p.groups;
    compounds = p.compounds;
    literals = and-true (has_literals e) (all_exprs has_literals s) c.literals p.literals;
    conditions = and-true (is_told e) (has_told_conditions s) c.conditions p.conditions;
    apart = p.apart;
    rising = and-true (rises e) (all_rise s) c.rising p.rising;
    tells = and-true (takes_nodes table hd.iterator) (tells table (hd.iterator ∷ its) e && tells_in table (hd.iterator ∷ its) s) r.takes (and-true (tells table (hd.iterator ∷ its) e) (tells_in table (hd.iterator ∷ its) s) c.tells p.tells);
  }
