-- A program with its reads apart: it means the same, and is ready for the next pass.
use Rattle.std.proofs.Common.{◌≡◌, ◌≤◌, ◌+◌, true, List, [], ◌∷◌, ◌++◌, length, map, refl, subst, ◌∙◌, arith, append_assoc}
use Rattle.std.specs.Prelude.{nat_le}
use Rattle.std.specs.List.{list_all}
use Rattle.std.proofs.lemmas.Bool.{leb-true, le-leb}
use Rattle.std.proofs.lemmas.List.{length-append}
use Rattle.gm_value.specs.declared.values.VType.{VType}
use Rattle.gm_ast.specs.declared.tree.Declaration.{Declaration}
use Rattle.gm_ast.specs.Program.{Program}
use Rattle.gm_semantics.specs.Frames.{NamesBelow}
use Rattle.gm_forms.specs.Extends.{Extends, run_of, start_of}
use Rattle.gm_forms.specs.Meanings.{SameMeaning}
use Rattle.gm_forms.specs.Uses.{suits, uses_of, is_named}
use Rattle.gm_forms.proofs.Named.{both-true, names-below}
use Rattle.gm_forms.proofs.Tables.{same-alike}
use Rattle.gm_forms.proofs.Weaker.{and-true}
use Rattle.gm_desugar.specs.Conditions.{fresh}
use Rattle.gm_desugar.specs.Reads.{types_apart, apart, with_reads_apart}
use Rattle.gm_desugar.specs.Stages.{WithConditions, WithReadsApart}
use Rattle.gm_desugar.proofs.Appended.{variable-appended, variable-next, next-below, all-suit-appended}
use Rattle.gm_desugar.proofs.ConditionsOut.{compounds-longer}
use Rattle.gm_desugar.proofs.Longer.{typed-longer, loops-longer, phase-form-longer}
use Rattle.gm_desugar.proofs.ReadsApart.{apart-alike}
use Rattle.gm_desugar.proofs.ReadsKept.{Placed, Known, Set, apart-kept}
use Rattle.gm_desugar.proofs.ReadsLaws.{agree-itself}

-- variables of some types at the end of a table
placed-at-end : (ds front : List Declaration) (ts : List VType) → Placed ds (front ++ map fresh ts) (length front) ts
placed-at-end ds front [] = tt
placed-at-end ds front (t ∷ ts) =
    let rest = placed-at-end ds (front ++ (fresh t ∷ [])) ts in
    let tables : (front ++ (fresh t ∷ [])) ++ map fresh ts ≡ front ++ (fresh t ∷ map fresh ts) = append_assoc front (fresh t ∷ []) (map fresh ts) in (
      (next-below front (fresh t) (map fresh ts), variable-next front (fresh t) (map fresh ts)),
      subst (λ n. Placed ds (front ++ (fresh t ∷ map fresh ts)) n ts) (length-append front (fresh t ∷ []))
          (subst (λ es. Placed ds es (length (front ++ (fresh t ∷ []))) ts) tables rest),
    )

module _ (p : Program) (named : is_named p ≡ true) where
  abbrev others : List Declaration
  others = map fresh (types_apart p.declarations p.body)

  parts : (nat_le (p.inputs + p.outputs) (length p.declarations) ≡ true) × (list_all (suits p.declarations) (uses_of p.body) ≡ true)
  parts = both-true (nat_le (p.inputs + p.outputs) (length p.declarations)) (list_all (suits p.declarations) (uses_of p.body)) named

  names : NamesBelow (length p.declarations) p.body
  names = names-below p.declarations p.body parts.1

  extends : Extends (length p.declarations) p (with_reads_apart p)
  extends = record {
    inputs = refl;
    outputs = refl;
    result = refl;
    within = leb-true (p.inputs + p.outputs) (length p.declarations) parts.0;
    variables = variable-appended p.declarations others;
  }

  pub same-with_reads_apart : SameMeaning p (with_reads_apart p)
  same-with_reads_apart =
      let k = length p.declarations in
      let least : k ≤ k = omega arith in
      same-alike k p (with_reads_apart p) extends names
      (λ g args bound fits. apart-alike k (run_of (with_reads_apart p) g bound) p.body k least names (start_of (with_reads_apart p) g args) (start_of (with_reads_apart p) g args) (agree-itself k (start_of (with_reads_apart p) g args)))

  -- what is known of the program, in the longer table
  known : WithConditions p → Known p.declarations (p.declarations ++ others) p.result p.body
  known r =
      let ds = p.declarations in
      let es = ds ++ others in
      let k = length ds in
      let same = variable-appended ds others in
      let c = r.with_literals.without_compounds in
      let ready = c.without_groups.ready in
      record {
        named = all-suit-appended ds others (uses_of p.body) parts.1;
        typed = typed-longer ds es k same p.result p.body names ∙ ready.sane.typed;
        ordered = ready.sane.ordered;
        share = loops-longer ds es k same p.body names ∙ ready.sane.race_free;
        form = phase-form-longer ds es k same p.body names ∙ ready.form;
        groups = c.without_groups.no_groups;
        compounds = compounds-longer ds es k same p.body names ∙ c.no_compounds;
        literals = r.with_literals.literals;
        conditions = r.conditions;
      }

  kept-named : WithConditions p → WithReadsApart (with_reads_apart p)
  kept-named r =
      let ds = p.declarations in
      let es = ds ++ others in
      let s : Set ds es p.result (apart (length ds) p.body) = apart-kept ds es (variable-appended ds others) p.result p.body (length ds) (let e : length ds ≤ length ds = omega arith in e) names (placed-at-end ds ds (types_apart ds p.body)) (known r) in
      let within : p.inputs + p.outputs ≤ length es = (let e = length-append ds others in let b = leb-true (p.inputs + p.outputs) (length ds) parts.0 in omega arith) in
      record {
        with_conditions = record {
          with_literals = record {
            without_compounds = record {
              without_groups = record {
                ready = record {
                  sane = record {
                    named = and-true (nat_le (p.inputs + p.outputs) (length es)) (list_all (suits es) (uses_of (apart (length ds) p.body))) (le-leb (p.inputs + p.outputs) (length es) within) s.named;
                    typed = s.typed;
                    ordered = s.ordered;
                    race_free = s.share;
                  };
                  form = s.form;
                };
                no_groups = s.groups;
              };
              no_compounds = s.compounds;
            };
            literals = s.literals;
          };
          conditions = s.conditions;
        };
        apart = s.apart;
      }

pub kept : (p : Program) → WithConditions p → WithReadsApart (with_reads_apart p)
kept p r = kept-named p r.with_literals.without_compounds.without_groups.ready.sane.named r
