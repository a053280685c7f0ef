-- A program with its accesses as checks and loops: it means the same, and is ready for the next pass.
use Rattle.std.proofs.Common.{◌≡◌, ◌≤◌, ◌<◌, ◌+◌, ℕ, true, false, List, [], ◌∷◌, ◌++◌, length, map, refl, sym, ap, subst, ◌∙◌, arith, append_assoc}
use Rattle.std.specs.Prelude.{nat_eq, nat_le}
use Rattle.std.specs.List.{list_all}
use Rattle.std.proofs.lemmas.Bool.{both_ways, leb-true, le-leb, ne_eqb}
use Rattle.std.proofs.lemmas.List.{length-append}
use Rattle.gm_value.specs.declared.values.VType.{VType}
use Rattle.gm_value.specs.declared.values.VType.TheVariants as V
use Rattle.gm_ast.specs.declared.tree.Declaration.{Declaration}
use Rattle.gm_ast.specs.declared.tree.Variable.{Variable}
use Rattle.gm_ast.specs.Program.{Stmt, Then, Program, sequence}
use Rattle.gm_semantics.specs.Frames.{NamesBelow}
use Rattle.gm_semantics.specs.Statements.{variable_at}
use Rattle.gm_forms.specs.Extends.{Extends, run_of, start_of}
use Rattle.gm_forms.specs.Meanings.{SameMeaning}
use Rattle.gm_forms.specs.Typing.{type_at}
use Rattle.gm_forms.specs.Uses.{suits, uses_of, is_named}
use Rattle.gm_forms.proofs.Named.{both-true, names-below}
use Rattle.gm_forms.proofs.Tables.{same-alike}
use Rattle.gm_forms.proofs.Weaker.{and-true}
use Rattle.gm_typed_stores.specs.Tells.{TypeTable, table_of}
use Rattle.gm_typed_stores.proofs.Outcomes.{first-typed, fits-below}
use Rattle.gm_desugar.specs.Conditions.{fresh}
use Rattle.gm_desugar.proofs.Appended.{variable-appended, variable-next, next-below, all-suit-appended}
use Rattle.gm_desugar.proofs.ConditionsOut.{compounds-longer}
use Rattle.gm_desugar.proofs.Longer.{typed-longer, loops-longer, phase-form-longer}
use Rattle.gm_desugar.proofs.ReadsLaws.{agree-itself}
use Rattle.gm_reductions.specs.declared.accesses.Fresh.{Fresh}
use Rattle.gm_reductions.specs.Accesses.{an_iterator, added, added_at, holder, by_loops, without_accesses}
use Rattle.gm_reductions.specs.Phases.{KeepsNoPicks}
use Rattle.gm_reductions.specs.Stages.{all_below, WithTypedRuns, WithoutAccesses}
use Rattle.gm_reductions.proofs.AccessesKept.{Stand, Stands, loops-kept, none-left, picks-stay}
use Rattle.gm_reductions.proofs.AccessesLaws.{Beyond, Fine, loops-alike}
use Rattle.gm_reductions.proofs.Known.{no-iterators, Kept}
use Rattle.gm_reductions.proofs.Telling.{tells_in-longer}

-- a declaration behind others at the end of a table
stand-at : (ds front : List Declaration) (d : Declaration) (more : List Declaration) (n : ℕ) → n ≡ length ds + length front → Stand (ds ++ (front ++ (d ∷ more))) n d.variable
stand-at ds front d more n e =
    subst (λ x. Stand (ds ++ (front ++ (d ∷ more))) x d.variable) (length-append ds front ∙ sym e)
    (subst (λ l. Stand l (length (ds ++ front)) d.variable) (append_assoc ds front (d ∷ more)) (next-below (ds ++ front) d more, variable-next (ds ++ front) d more))

-- the added variables are new, and stand in the table
beyond : (k : ℕ) → Beyond k (added_at k)
beyond k = record {
  checked = (let e : k ≤ k = omega arith in e);
  iterator = (let e : k ≤ k + 1 = omega arith in e);
  held = low;
  iterator_checked = ne_eqb (k + 1) k (λ e. omega arith);
  iterator_held = apart;
  held_checked = other;
}
  where
    low : (t : VType) → k ≤ holder (added_at k) t
    low V.I32 = omega arith
    low V.I64 = omega arith
    low V.Flag = omega arith
    low V.Node = omega arith

    apart : (t : VType) → nat_eq (k + 1) (holder (added_at k) t) ≡ false
    apart V.I32 = ne_eqb (k + 1) (k + 2) (λ e. omega arith)
    apart V.I64 = ne_eqb (k + 1) (k + 3) (λ e. omega arith)
    apart V.Flag = ne_eqb (k + 1) (k + 4) (λ e. omega arith)
    apart V.Node = ne_eqb (k + 1) (k + 5) (λ e. omega arith)

    other : (t : VType) → nat_eq (holder (added_at k) t) k ≡ false
    other V.I32 = ne_eqb (k + 2) k (λ e. omega arith)
    other V.I64 = ne_eqb (k + 3) k (λ e. omega arith)
    other V.Flag = ne_eqb (k + 4) k (λ e. omega arith)
    other V.Node = ne_eqb (k + 5) k (λ e. omega arith)

stands : (ds : List Declaration) → Stands (ds ++ added) (added_at (length ds))
stands ds = record {
  checked = stand-at ds [] (fresh V.Node) (an_iterator ∷ (fresh V.I32 ∷ (fresh V.I64 ∷ (fresh V.Flag ∷ (fresh V.Node ∷ []))))) (length ds) (let e : length ds ≡ length ds + 0 = omega arith in e);
  iterator = stand-at ds (fresh V.Node ∷ []) an_iterator (fresh V.I32 ∷ (fresh V.I64 ∷ (fresh V.Flag ∷ (fresh V.Node ∷ [])))) (length ds + 1) refl;
  held = held;
}
  where
    held : (t : VType) → Stand (ds ++ added) (holder (added_at (length ds)) t) (fresh t).variable
    held V.I32 = stand-at ds (fresh V.Node ∷ (an_iterator ∷ [])) (fresh V.I32) (fresh V.I64 ∷ (fresh V.Flag ∷ (fresh V.Node ∷ []))) (length ds + 2) refl
    held V.I64 = stand-at ds (fresh V.Node ∷ (an_iterator ∷ (fresh V.I32 ∷ []))) (fresh V.I64) (fresh V.Flag ∷ (fresh V.Node ∷ [])) (length ds + 3) refl
    held V.Flag = stand-at ds (fresh V.Node ∷ (an_iterator ∷ (fresh V.I32 ∷ (fresh V.I64 ∷ [])))) (fresh V.Flag) (fresh V.Node ∷ []) (length ds + 4) refl
    held V.Node = stand-at ds (fresh V.Node ∷ (an_iterator ∷ (fresh V.I32 ∷ (fresh V.I64 ∷ (fresh V.Flag ∷ []))))) (fresh V.Node) [] (length ds + 5) refl

module _ (p : Program) (r : WithTypedRuns p) where
  abbrev ds : List Declaration
  ds = p.declarations

  abbrev es : List Declaration
  es = ds ++ added

  abbrev k : ℕ
  k = length ds

  abbrev table : TypeTable
  table = table_of all_below (without_accesses p)

  parts : (nat_le (p.inputs + p.outputs) k ≡ true) × (list_all (suits ds) (uses_of p.body) ≡ true)
  parts = both-true (nat_le (p.inputs + p.outputs) k) (list_all (suits ds) (uses_of p.body)) r.with_rising_keys.with_reads_apart.with_conditions.with_literals.without_compounds.without_groups.ready.sane.named

  names : NamesBelow k p.body
  names = names-below ds p.body parts.1

  same : (x : ℕ) → x < k → variable_at es x ≡ variable_at ds x
  same = variable-appended ds added

  types : (x : ℕ) → x < k → type_at ds x ≡ type_at es x
  types x below = sym (ap (λ (v : Variable). v.vtype) (same x below))

  extends : Extends k p (without_accesses p)
  extends = record {
    inputs = refl;
    outputs = refl;
    result = refl;
    within = leb-true (p.inputs + p.outputs) k parts.0;
    variables = same;
  }

  -- what is known of the program, in the longer table
  known : Kept table p.result [] p.body
  known =
      let conditions = r.with_rising_keys.with_reads_apart.with_conditions in
      let compounds = conditions.with_literals.without_compounds in
      let ready = compounds.without_groups.ready in
      record {
        named = all-suit-appended ds added (uses_of p.body) parts.1;
        typed = typed-longer ds es k same p.result p.body names ∙ ready.sane.typed;
        ordered = ready.sane.ordered;
        share = loops-longer ds es k same p.body names ∙ ready.sane.race_free;
        form = phase-form-longer ds es k same p.body names ∙ ready.form;
        groups = compounds.without_groups.no_groups;
        compounds = compounds-longer ds es k same p.body names ∙ compounds.no_compounds;
        literals = conditions.with_literals.literals;
        conditions = conditions.conditions;
        apart = r.with_rising_keys.with_reads_apart.apart;
        rising = r.with_rising_keys.rising;
        tells = tells_in-longer all_below p.inputs ds es same p.body [] parts.1 ∙ r.tells;
      }

  fine : Fine table p.result k [] p.body
  fine = record { typed = known.typed; named = known.named; tells = known.tells; apart = known.apart; below = names; iterators = no-iterators table }

  pub same-without_accesses : SameMeaning p (without_accesses p)
  same-without_accesses =
      same-alike k p (without_accesses p) extends names
      (λ g args bound fits.
      let q = without_accesses p in
      let below = fits-below q g args fits in
      let start = start_of q g args in
      loops-alike table p.result (run_of q g bound) below.graph refl k ds types (added_at k) (beyond k) p.body [] start start fine (record { typed = first-typed all_below q g args below; nodes = λ y i. absurd (both_ways false refl i) }) (agree-itself k start))

  kept-all : Kept table p.result [] (by_loops ds (added_at k) [] p.body)
  kept-all =
      let few : p.inputs ≤ k = (let b = leb-true (p.inputs + p.outputs) k parts.0 in omega arith) in
      loops-kept table p.result k few ds types (added_at k) (beyond k) (stands ds) p.body [] names (no-iterators table) known

  pub kept : WithoutAccesses (without_accesses p)
  kept =
      let s = kept-all in
      let within : p.inputs + p.outputs ≤ length es = (let e = length-append ds added in let b = leb-true (p.inputs + p.outputs) k parts.0 in omega arith) in
      record {
        with_typed_runs = record {
          with_rising_keys = record {
            with_reads_apart = record {
              with_conditions = record {
                with_literals = record {
                  without_compounds = record {
                    without_groups = record {
                      ready = record {
                        sane = record {
                          named = and-true (nat_le (p.inputs + p.outputs) (length es)) (list_all (suits es) (uses_of (by_loops ds (added_at k) [] p.body))) (le-leb (p.inputs + p.outputs) (length es) within) s.named;
                          typed = s.typed;
                          ordered = s.ordered;
                          race_free = s.share;
                        };
                        form = s.form;
                      };
                      no_groups = s.groups;
                    };
                    no_compounds = s.compounds;
                  };
                  literals = s.literals;
                };
                conditions = s.conditions;
              };
              apart = s.apart;
            };
            rising = s.rising;
          };
          tells = s.tells;
        };
        no_accesses = none-left ds (added_at k) [] p.body r.with_rising_keys.with_reads_apart.apart;
      }

pub no-picks : (p : Program) → KeepsNoPicks p (without_accesses p)
no-picks p h = picks-stay p.declarations (added_at (length p.declarations)) [] p.body h

-- statements one after another
pub loops-sequence : {A : Type 0} (declarations : List Declaration) (f : Fresh) (its : List ℕ) (g : A → Stmt) (xs : List A) → by_loops declarations f its (sequence (map g xs)) ≡ sequence (map (λ x. by_loops declarations f its (g x)) xs)
loops-sequence declarations f its g [] = refl
loops-sequence declarations f its g (x ∷ xs) = ap (Then (by_loops declarations f its (g x))) (loops-sequence declarations f its g xs)
