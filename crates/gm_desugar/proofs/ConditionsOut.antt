-- A program with its conditions hoisted to one more variable: it means the same, and is ready for the next pass.
use Rattle.std.proofs.Common.{◌≡◌, ◌<◌, ◌≤◌, ◌+◌, ℕ, Bool, true, false, List, [], ◌∷◌, ◌++◌, length, refl, ap, ◌∙◌, arith}
use Rattle.std.specs.Prelude.{◌||◌, not, nat_le}
use Rattle.std.specs.List.{list_all}
use Rattle.std.proofs.lemmas.Bool.{leb-true, le-leb}
use Rattle.std.proofs.lemmas.List.{length-append}
use Rattle.gm_value.specs.declared.values.VType.TheVariants.{Flag}
use Rattle.gm_ast.specs.declared.tree.Declaration.{Declaration}
use Rattle.gm_ast.specs.declared.tree.Variable.{Variable}
use Rattle.gm_ast.specs.Program.{Stmt, Then, Combine, Foreach, For, If, While, Do, InBfs, InBfsBoth, Program}
use Rattle.gm_semantics.specs.Frames.{NamesBelow, AlikeStates}
use Rattle.gm_semantics.specs.Statements.{State, variable_at}
use Rattle.gm_forms.specs.Extends.{Extends, run_of, start_of}
use Rattle.gm_forms.specs.Meanings.{SameMeaning}
use Rattle.gm_forms.specs.Typing.{keeps_tuples}
use Rattle.gm_forms.specs.Uses.{Written, Told, suits, uses_of, is_named}
use Rattle.gm_forms.proofs.Named.{both-true, names-below}
use Rattle.gm_forms.proofs.Tables.{same-alike}
use Rattle.gm_forms.proofs.Weaker.{and-true}
use Rattle.gm_desugar.specs.Compounds.{has_no_compounds_in, has_no_compounds}
use Rattle.gm_desugar.specs.Conditions.{fresh, hoisted, with_conditions}
use Rattle.gm_desugar.specs.Stages.{WithLiterals, WithConditions}
use Rattle.gm_desugar.proofs.Appended.{variable-appended, variable-next, all-suit-appended, next-suits}
use Rattle.gm_desugar.proofs.ConditionsKept.{hoisted-named, hoisted-form, hoisted-typed, hoisted-ordered, hoisted-shares, hoisted-groups, hoisted-compounds, hoisted-literals, hoisted-told}
use Rattle.gm_desugar.proofs.ConditionsLaws.{hoisted-alike}
use Rattle.gm_desugar.proofs.Longer.{both, all-once-longer, typed-longer, loops-longer, phase-form-longer}

module _ (ds es : List Declaration) (k : ℕ) (same : (x : ℕ) → x < k → variable_at es x ≡ variable_at ds x) where
  compounds-in-longer : (n : ℕ) (inner : Bool) (s : Stmt) → NamesBelow k s → has_no_compounds_in es n inner s ≡ has_no_compounds_in ds n inner s
  compounds-in-longer n inner (Then s t) b = both (has_no_compounds_in es n inner s) (has_no_compounds_in ds n inner s) (has_no_compounds_in es n inner t) (has_no_compounds_in ds n inner t) (compounds-in-longer n inner s b.0) (compounds-in-longer n inner t b.1)
  compounds-in-longer n inner (Combine key total r ts vs) b = ap (λ c. not c || keeps_tuples r) (all-once-longer ds es k same n inner ts b.0)
  compounds-in-longer n inner (If key c s t) b = both (has_no_compounds_in es n inner s) (has_no_compounds_in ds n inner s) (has_no_compounds_in es n inner t) (has_no_compounds_in ds n inner t) (compounds-in-longer n inner s b.1) (compounds-in-longer n inner t b.2)
  compounds-in-longer n inner (Foreach key at h test body) b = compounds-in-longer n true body b.3
  compounds-in-longer n inner s b = refl

  pub compounds-longer : (s : Stmt) → NamesBelow k s → has_no_compounds es s ≡ has_no_compounds ds s
  compounds-longer (Then s t) b = both (has_no_compounds es s) (has_no_compounds ds s) (has_no_compounds es t) (has_no_compounds ds t) (compounds-longer s b.0) (compounds-longer t b.1)
  compounds-longer (Foreach key at h test body) b = compounds-in-longer h.iterator false body b.3
  compounds-longer (For key at h test s) b = compounds-longer s b.3
  compounds-longer (If key c s t) b = both (has_no_compounds es s) (has_no_compounds ds s) (has_no_compounds es t) (has_no_compounds ds t) (compounds-longer s b.1) (compounds-longer t b.2)
  compounds-longer (While key at c s) b = compounds-longer s b.1
  compounds-longer (Do key at s c) b = compounds-longer s b.0
  compounds-longer (InBfs key at h test body) b = compounds-in-longer h.iterator false body b.3
  compounds-longer (InBfsBoth key at h test body back_key back_test back) b =
      both (has_no_compounds_in es h.iterator false body) (has_no_compounds_in ds h.iterator false body) (has_no_compounds_in es h.iterator false back) (has_no_compounds_in ds h.iterator false back) (compounds-in-longer h.iterator false body b.3) (compounds-in-longer h.iterator false back b.5)
  compounds-longer s b = refl

module _ (p : Program) (named : is_named p ≡ true) where
  parts : (nat_le (p.inputs + p.outputs) (length p.declarations) ≡ true) × (list_all (suits p.declarations) (uses_of p.body) ≡ true)
  parts = both-true (nat_le (p.inputs + p.outputs) (length p.declarations)) (list_all (suits p.declarations) (uses_of p.body)) named

  names : NamesBelow (length p.declarations) p.body
  names = names-below p.declarations p.body parts.1

  -- the program under the longer table
  extends : Extends (length p.declarations) p (with_conditions p)
  extends = record {
    inputs = refl;
    outputs = refl;
    result = refl;
    within = leb-true (p.inputs + p.outputs) (length p.declarations) parts.0;
    variables = variable-appended p.declarations (fresh Flag ∷ []);
  }

  itself : (k : ℕ) (s : State) → AlikeStates k s s
  itself k s = record { store = record { scalar = λ x b. refl; node = λ x n b. refl; edge = λ x e b. refl }; turns = refl }

  pub same-with_conditions : SameMeaning p (with_conditions p)
  same-with_conditions =
      let k = length p.declarations in
      let least : k ≤ k = omega arith in
      same-alike k p (with_conditions p) extends names
      (λ g args bound fits. hoisted-alike k k least (run_of (with_conditions p) g bound) p.body names (start_of (with_conditions p) g args) (start_of (with_conditions p) g args) (itself k (start_of (with_conditions p) g args)))

  kept-named : WithLiterals p → WithConditions (with_conditions p)
  kept-named r =
      let ds = p.declarations in
      let c = length ds in
      let es = ds ++ (fresh Flag ∷ []) in
      let same = variable-appended ds (fresh Flag ∷ []) in
      let within : p.inputs + p.outputs ≤ length es = (let e = length-append ds (fresh Flag ∷ []) in let b = leb-true (p.inputs + p.outputs) (length ds) parts.0 in omega arith) in
      let use_written = and-true (suits es (record { variable = c; role = Written })) true (next-suits ds (fresh Flag) [] Written refl) refl in
      let use_told = and-true (suits es (record { variable = c; role = Told })) true (next-suits ds (fresh Flag) [] Told refl) refl in
      record {
        with_literals = record {
          without_compounds = record {
            without_groups = record {
              ready = record {
                sane = record {
                  named = and-true (nat_le (p.inputs + p.outputs) (length es)) (list_all (suits es) (uses_of (hoisted c p.body))) (le-leb (p.inputs + p.outputs) (length es) within) (hoisted-named es c use_written use_told p.body (all-suit-appended ds (fresh Flag ∷ []) (uses_of p.body) parts.1));
                  typed = hoisted-typed es p.result c (ap (λ (v : Variable). v.vtype) (variable-next ds (fresh Flag) [])) p.body (typed-longer ds es c same p.result p.body names ∙ r.without_compounds.without_groups.ready.sane.typed);
                  ordered = hoisted-ordered c p.body r.without_compounds.without_groups.ready.sane.ordered;
                  race_free = hoisted-shares es c p.body (loops-longer ds es c same p.body names ∙ r.without_compounds.without_groups.ready.sane.race_free);
                };
                form = hoisted-form es c (ap (λ (v : Variable). v.depth) (variable-next ds (fresh Flag) [])) p.body (phase-form-longer ds es c same p.body names ∙ r.without_compounds.without_groups.ready.form);
              };
              no_groups = hoisted-groups c p.body r.without_compounds.without_groups.no_groups;
            };
            no_compounds = hoisted-compounds es c p.body (compounds-longer ds es c same p.body names ∙ r.without_compounds.no_compounds);
          };
          literals = hoisted-literals c p.body r.literals;
        };
        conditions = hoisted-told c p.body;
      }

pub kept : (p : Program) → WithLiterals p → WithConditions (with_conditions p)
kept p r = kept-named p r.without_compounds.without_groups.ready.sane.named r
