-- Each pass leaves the declarations of a program as they are, and may add some behind them.
use Rattle.std.proofs.Common.{◌≡◌, ℕ, zero, suc, Bool, true, false, List, [], ◌∷◌, ◌++◌, length, map, refl}
use Rattle.std.specs.Prelude.{if◌then◌else◌}
use Rattle.std.proofs.lemmas.Bool.{and_from}
use Rattle.gm_value.specs.declared.values.VType.TheVariants as V
use Rattle.gm_ast.specs.declared.tree.Declaration.{Declaration}
use Rattle.gm_ast.specs.Program as S
use Rattle.gm_ast.specs.Program.{Expr, Stmt, Program}
use Rattle.gm_forms.proofs.Named.{both-true}
use Rattle.gm_desugar.specs.Compounds.{without_compounds}
use Rattle.gm_desugar.specs.Conditions.{fresh, with_conditions}
use Rattle.gm_desugar.specs.Groups.{without_groups}
use Rattle.gm_desugar.specs.Literals.{with_negative_literals}
use Rattle.gm_desugar.specs.Reads.{types_apart, with_reads_apart}
use Rattle.gm_reductions.specs.Accesses.{without_accesses}
use Rattle.gm_reductions.specs.Accesses as Accesses
use Rattle.gm_reductions.specs.Folds.{without_folds}
use Rattle.gm_picks.specs.Picks.{types_picked, with_plain_picks}
use Rattle.gm_hoisting.specs.Hoisting.{fold_types, body_types, local, check_added, loop_added, phase_added, is_sure, without_inner_folds}
use Rattle.gm_desugaring.specs.Desugaring.{with_reads_alone, with_picks_alone, with_loops_alone, with_plain_loops}
use Rattle.gm_bfs.specs.Levelled.{searches_out, has_search, levelled}
use Rattle.gm_bfs.specs.Variables.{fresh_from, fresh_declarations, copy_declaration, with_fresh}
use Rattle.gm_dissect.specs.AllDeferred.{some_defers, without_each, deferred_in, without_deferred}
use Rattle.gm_dissect.specs.Conditions.{flag_locals, with_saved_conditions}
use Rattle.gm_dissect.specs.Conditions as Saved
use Rattle.gm_dissect.specs.Deferred.{copy_of, without_deferred_to}
use Rattle.gm_cut.specs.Lean.{in_lean_slices}
use Rattle.gm_cut.specs.Parts.{in_pieces}
use Rattle.gm_flip.specs.Flipped.{without_pulls}
use Rattle.gm_outward.specs.Outward.{outward}
use Rattle.gm_locals.specs.AllGroups.{groups_in, with_groups_kept}
use Rattle.gm_parting.specs.Apart.{most_ifs, inner_flags, with_statements_apart}
use Rattle.gm_parting.specs.Declared.{with_locals_declared}
use Rattle.gm_parting.specs.Filters.{flag_property, with_saved_filters}
use Rattle.gm_parting.specs.Iterators.{with_iterators_placed}
use Rattle.gm_parting.specs.Nodes.{all_nodes_in, node_locals, with_nodes_read}
use Rattle.gm_parting.specs.Lasting.{has_numbered_ifs}
use Rattle.gm_parting.specs.Numbers.{with_own_numbers, with_conditions_apart}
use Rattle.gm_parting.specs.Passes.{prepared, dissected}
use Rattle.gm_interface.proofs.Widened.{is_added, Widens, all_added, appended, unchanged, further}

added-both : (xs ys : List Declaration) → all_added xs ≡ true → all_added ys ≡ true → all_added (xs ++ ys) ≡ true
added-both [] ys h k = k
added-both (d ∷ xs) ys h k = let b = both-true (is_added d.variable) (all_added xs) h in and_from (is_added d.variable) (all_added (xs ++ ys)) b.0 (added-both xs ys b.1 k)

added-mapped : {A : Type 0} (f : A → Declaration) → ((x : A) → is_added (f x).variable ≡ true) → (xs : List A) → all_added (map f xs) ≡ true
added-mapped f h [] = refl
added-mapped f h (x ∷ xs) = and_from (is_added (f x).variable) (all_added (map f xs)) (h x) (added-mapped f h xs)

-- ---- to plain loops

pub groups : (p : Program) → Widens p (without_groups p)
groups p = unchanged p (without_groups p) refl refl refl refl refl

pub compounds : (p : Program) → Widens p (without_compounds p)
compounds p = unchanged p (without_compounds p) refl refl refl refl refl

pub literals : (p : Program) → Widens p (with_negative_literals p)
literals p = unchanged p (with_negative_literals p) refl refl refl refl refl

pub conditions : (p : Program) → Widens p (with_conditions p)
conditions p = appended p (with_conditions p) (fresh V.Flag ∷ []) refl refl refl refl refl refl

pub reads : (p : Program) → Widens p (with_reads_apart p)
reads p = appended p (with_reads_apart p) (map fresh (types_apart p.declarations p.body)) refl refl refl refl refl (added-mapped fresh (λ t. refl) (types_apart p.declarations p.body))

pub picks : (p : Program) → Widens p (with_plain_picks p)
picks p = appended p (with_plain_picks p) (map fresh (types_picked p.declarations [] p.body)) refl refl refl refl refl (added-mapped fresh (λ t. refl) (types_picked p.declarations [] p.body))

pub accesses : (p : Program) → Widens p (without_accesses p)
accesses p = appended p (without_accesses p) Accesses.added refl refl refl refl refl refl

pub folds : (p : Program) → Widens p (without_folds p)
folds p = unchanged p (without_folds p) refl refl refl refl refl

loop-fits : (test : Expr) (body : Stmt) → all_added (loop_added test body) ≡ true
loop-fits test body = added-mapped local (λ t. refl) (fold_types test ++ body_types body)

check-fits : (sure : Bool) → all_added (check_added sure) ≡ true
check-fits true = refl
check-fits false = refl

phase-fits : (its : List ℕ) (s : Stmt) → all_added (phase_added its s) ≡ true
phase-fits its (S.Then a b) = added-both (phase_added its a) (phase_added its b) (phase-fits its a) (phase-fits its b)
phase-fits its (S.Foreach k at h test body) = loop-fits test body
phase-fits its (S.For k at h test body) = phase-fits (h.iterator ∷ its) body
phase-fits its (S.If k c a b) = added-both (phase_added its a) (phase_added its b) (phase-fits its a) (phase-fits its b)
phase-fits its (S.While k at c body) = phase-fits its body
phase-fits its (S.Do k at body c) = phase-fits its body
phase-fits its (S.InBfs k at s test body) = added-both (check_added (is_sure its s test)) (loop_added test body) (check-fits (is_sure its s test)) (loop-fits test body)
phase-fits its (S.InBfsBoth k at s test body back_key back_test back) =
    added-both (check_added (is_sure its s test)) (loop_added test body ++ loop_added back_test back) (check-fits (is_sure its s test)) (added-both (loop_added test body) (loop_added back_test back) (loop-fits test body) (loop-fits back_test back))
phase-fits its _ = refl

pub inner-folds : (p : Program) → Widens p (without_inner_folds p)
inner-folds p = appended p (without_inner_folds p) (phase_added [] p.body) refl refl refl refl refl (phase-fits [] p.body)

pub plain-loops : (p : Program) → Widens p (with_plain_loops p)
plain-loops p =
    let g = without_groups p in
    let c = without_compounds g in
    let l = with_negative_literals c in
    let d = with_conditions l in
    let r = with_reads_alone p in
    let k = with_picks_alone p in
    let a = without_accesses k in
    let f = with_loops_alone p in
    let w : Widens p f =
    further p g f (groups p)
    (further g c f (compounds g) (further c l f (literals c) (further l d f (conditions l) (further d r f (reads d) (further r k f (picks r) (further k a f (accesses k) (folds a))))))) in
    further p f (with_plain_loops p) w (inner-folds f)

-- ---- searches

pub searches : (p : Program) → Widens p (levelled p)
searches p = by (has_search p.body) where
  wide : Widens p (record p { declarations = with_fresh p.declarations; body = searches_out (fresh_from (length p.declarations)) (length p.declarations) p.body })
  wide =
      appended p (record p { declarations = with_fresh p.declarations; body = searches_out (fresh_from (length p.declarations)) (length p.declarations) p.body }) (fresh_declarations ++ map copy_declaration p.declarations) refl refl refl refl refl
      (added-both fresh_declarations (map copy_declaration p.declarations) refl (added-mapped copy_declaration (λ d. refl) p.declarations))

  by : (b : Bool) → Widens p (if b then record p { declarations = with_fresh p.declarations; body = searches_out (fresh_from (length p.declarations)) (length p.declarations) p.body } else p)
  by true = wide
  by false = unchanged p p refl refl refl refl refl

-- ---- to loops that are cut

pub declared : (p : Program) → Widens p (with_locals_declared p)
declared p = unchanged p (with_locals_declared p) refl refl refl refl refl

deferred-each : (xs : List ℕ) (p : Program) → Widens p (without_each xs p)
deferred-each [] p = unchanged p p refl refl refl refl refl
deferred-each (x ∷ xs) p =
    by (some_defers x p.body) (further p (without_deferred_to x p) (without_each xs (without_deferred_to x p)) (appended p (without_deferred_to x p) (copy_of p.declarations x ∷ []) refl refl refl refl refl refl) (deferred-each xs (without_deferred_to x p))) (deferred-each xs p) where
      by : (b : Bool) → Widens p (without_each xs (without_deferred_to x p)) → Widens p (without_each xs p) → Widens p (without_each xs (if b then without_deferred_to x p else p))
      by true h k = h
      by false h k = k

pub deferred : (p : Program) → Widens p (without_deferred p)
deferred p = deferred-each (deferred_in p.body) p

pub filters : (p : Program) → Widens p (with_saved_filters p)
filters p = appended p (with_saved_filters p) (flag_property ∷ []) refl refl refl refl refl refl

pub saved-conditions : (p : Program) → Widens p (with_saved_conditions p)
saved-conditions p = appended p (with_saved_conditions p) (flag_locals (Saved.numbers_in p.body)) refl refl refl refl refl (added-mapped (λ x. Saved.flag_local) (λ x. refl) (Saved.numbers_in p.body))

pub conditions-apart : (p : Program) → Widens p (with_conditions_apart p)
conditions-apart p = by (has_numbered_ifs p) where
  twice : Widens p (with_saved_conditions (with_own_numbers (with_saved_conditions p)))
  twice =
      let s = with_saved_conditions p in
      let n = with_own_numbers s in
      further p s (with_saved_conditions n) (saved-conditions p) (further s n (with_saved_conditions n) (unchanged s n refl refl refl refl refl) (saved-conditions n))

  by : (b : Bool) → Widens p (if b then with_saved_conditions p else with_saved_conditions (with_own_numbers (with_saved_conditions p)))
  by true = saved-conditions p
  by false = twice

locals-fit : (depth n : ℕ) → all_added (node_locals depth n) ≡ true
locals-fit depth zero = refl
locals-fit depth (suc n) = locals-fit depth n

pub nodes : (p : Program) → Widens p (with_nodes_read p)
nodes p =
    let n = all_nodes_in p.declarations p.body in
    appended p (with_nodes_read p) (node_locals 1 n ++ node_locals 2 n) refl refl refl refl refl (added-both (node_locals 1 n) (node_locals 2 n) (locals-fit 1 n) (locals-fit 2 n))

pub groups-kept : (p : Program) → Widens p (with_groups_kept p)
groups-kept p =
    let xs = groups_in p.declarations p.body in
    appended p (with_groups_kept p) (map (copy_of p.declarations) xs) refl refl refl refl refl (added-mapped (copy_of p.declarations) (λ x. refl) xs)

pub pieces : (p : Program) → Widens p (in_pieces p)
pieces p = unchanged p (in_pieces p) refl refl refl refl refl

flags-fit : (n : ℕ) → all_added (inner_flags n) ≡ true
flags-fit zero = refl
flags-fit (suc n) = flags-fit n

pub statements : (p : Program) → Widens p (with_statements_apart p)
statements p = appended p (with_statements_apart p) (inner_flags (most_ifs p.body)) refl refl refl refl refl (flags-fit (most_ifs p.body))

pub slices : (p : Program) → Widens p (in_lean_slices p)
slices p = unchanged p (in_lean_slices p) refl refl refl refl refl

pub pulls : (p : Program) → Widens p (without_pulls p)
pulls p = unchanged p (without_pulls p) refl refl refl refl refl

pub asked : (p : Program) → Widens p (outward p)
asked p = unchanged p (outward p) refl refl refl refl refl

-- what dissects, behind the pass that places iterators
pub behind-placed : (p : Program) → Widens (with_iterators_placed p) (prepared p)
behind-placed p =
    let i = with_iterators_placed p in
    let l = with_locals_declared i in
    let d = without_deferred l in
    let f = with_saved_filters d in
    let c = with_conditions_apart f in
    let n = with_nodes_read c in
    let g = prepared p in
    further i l g (declared i) (further l d g (deferred l) (further d f g (filters d) (further f c g (conditions-apart f) (further c n g (nodes c) (groups-kept n)))))

pub behind-prepared : (p : Program) → Widens (prepared p) (dissected p)
behind-prepared p =
    let r = prepared p in
    let c = in_pieces r in
    let s = with_statements_apart c in
    further r c (dissected p) (pieces r) (further c s (dissected p) (statements c) (slices s))
