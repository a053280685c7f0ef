-- A program with its picks onto scalars is ready for the next pass.
use Rattle.std.proofs.Common.{◌≡◌, ◌≤◌, ◌+◌, ◌++◌, ℕ, Bool, true, false, List, [], ◌∷◌, length, map, refl, subst, ◌∙◌, arith, append_assoc}
use Rattle.std.specs.Prelude.{◌&&◌, nat_le}
use Rattle.std.specs.List.{list_all}
use Rattle.std.proofs.lemmas.Bool.{both_ways, leb-true, le-leb}
use Rattle.std.proofs.lemmas.List.{length-append}
use Rattle.gm_base.specs.declared.places.Place.{Place}
use Rattle.gm_value.specs.declared.values.VType.{VType}
use Rattle.gm_ast.specs.declared.tree.Declaration.{Declaration}
use Rattle.gm_ast.specs.declared.tree.Target.{Target}
use Rattle.gm_ast.specs.declared.tree.Target.TheVariants as T
use Rattle.gm_ast.specs.Loops.{is_nodes}
use Rattle.gm_ast.specs.Ways.{is_in}
use Rattle.gm_ast.specs.Program.{Expr, Const, Var, Property, EdgeProperty, Degree, NodeCount, EdgeCount, Live, Unary, Binary, Both, Either, Choose, Folded, Stmt, Then, Combine, For, If, While, Do, Program, sequence}
use Rattle.gm_semantics.specs.Frames.{NamesBelow}
use Rattle.gm_forms.specs.Forms.{is_within, is_told}
use Rattle.gm_forms.specs.Ready.{is_phase_expr, is_phase_code}
use Rattle.gm_forms.specs.Uses.{suits, uses_of}
use Rattle.gm_forms.proofs.Named.{both-true, names-below}
use Rattle.gm_forms.proofs.Weaker.{and-true}
use Rattle.gm_typed_stores.specs.Tells.{TypeTable, table_of}
use Rattle.gm_desugar.specs.Conditions.{fresh}
use Rattle.gm_desugar.specs.Reads.{count_read, reads_set, told_from}
use Rattle.gm_desugar.proofs.Appended.{variable-appended, variable-next, next-below, all-suit-appended}
use Rattle.gm_desugar.proofs.ConditionsOut.{compounds-longer}
use Rattle.gm_desugar.proofs.Longer.{typed-longer, loops-longer, phase-form-longer}
use Rattle.gm_desugar.proofs.ReadsKept.{Placed}
use Rattle.gm_ast.specs.declared.tree.Key.{Key}
use Rattle.gm_reductions.specs.Stages.{all_below, WithTypedRuns}
use Rattle.gm_reductions.proofs.Known.{Kept}
use Rattle.gm_reductions.proofs.Telling.{tells_in-longer}
use Rattle.gm_picks.specs.Picks.{taken, property_set, all_set, all_told, count_held, held_set, held, written_back, count_picks, types_picked, onto_scalars, with_plain_picks, is_scalar, has_plain_picks}
use Rattle.gm_picks.specs.Laws.{WithPlainPicks}
use Rattle.gm_picks.proofs.PicksKept.{onto-kept}

-- ---- picks are plain

told-from : (e : Expr) (n : ℕ) → is_phase_expr e ≡ true → is_told (told_from n e) ≡ true
told-from (Const v) n h = refl
told-from (Var x at) n h = refl
told-from (Property x p at) n h = refl
told-from (EdgeProperty x p at) n h = absurd (both_ways false refl h)
told-from (Degree d x at) n h = refl
told-from NodeCount n h = refl
told-from EdgeCount n h = refl
told-from (Live x at) n h = refl
told-from (Unary op at e) n h = told-from e n h
told-from (Binary op at a b) n h = let q = both-true (is_phase_expr a) (is_phase_expr b) h in and-true (is_told (told_from n a)) (is_told (told_from (n + count_read a) b)) (told-from a n q.0) (told-from b (n + count_read a) q.1)
told-from (Both a b) n h = let q = both-true (is_phase_expr a) (is_phase_expr b) h in and-true (is_told (told_from n a)) (is_told (told_from (n + count_read a) b)) (told-from a n q.0) (told-from b (n + count_read a) q.1)
told-from (Either a b) n h = let q = both-true (is_phase_expr a) (is_phase_expr b) h in and-true (is_told (told_from n a)) (is_told (told_from (n + count_read a) b)) (told-from a n q.0) (told-from b (n + count_read a) q.1)
told-from (Choose c a b) n h =
    let m = n + count_read c in
    let p = both-true (is_phase_expr c) (is_phase_expr a && is_phase_expr b) h in
    let q = both-true (is_phase_expr a) (is_phase_expr b) p.1 in
    and-true (is_told (told_from n c)) (is_told (told_from m a) && is_told (told_from (m + count_read a) b)) (told-from c n p.0) (and-true (is_told (told_from m a)) (is_told (told_from (m + count_read a) b)) (told-from a m q.0) (told-from b (m + count_read a) q.1))
told-from (Folded f hd test e) n h = refl

all-plain : (es : List Expr) (n : ℕ) → list_all is_phase_expr es ≡ true → list_all is_told (all_told n es) ≡ true
all-plain [] n h = refl
all-plain (e ∷ es) n h = let q = both-true (is_phase_expr e) (list_all is_phase_expr es) h in and-true (is_told (told_from n e)) (list_all is_told (all_told (n + count_read e) es)) (told-from e n q.0) (all-plain es (n + count_read e) q.1)

held-scalars : (its : List ℕ) (ts : List Target) (n : ℕ) → list_all is_scalar (held its n ts) ≡ true
held-scalars its [] n = refl
held-scalars its (T.Scalar x at ∷ ts) n = held-scalars its ts n
held-scalars its (T.Property y p at ∷ ts) n = held-scalars its ts (n + taken (is_in its y))

plain-both : (xs ys : List Stmt) → has_plain_picks (sequence xs) ≡ true → has_plain_picks (sequence ys) ≡ true → has_plain_picks (sequence (xs ++ ys)) ≡ true
plain-both [] ys h k = k
plain-both (x ∷ xs) ys h k = let q = both-true (has_plain_picks x) (has_plain_picks (sequence xs)) h in and-true (has_plain_picks x) (has_plain_picks (sequence (xs ++ ys))) q.0 (plain-both xs ys q.1 k)

plain-read : (e : Expr) (n : ℕ) (k : Key) → has_plain_picks (sequence (reads_set n k e)) ≡ true
plain-read (Const v) n k = refl
plain-read (Var x at) n k = refl
plain-read (Property x p at) n k = refl
plain-read (EdgeProperty x p at) n k = refl
plain-read (Degree d x at) n k = refl
plain-read NodeCount n k = refl
plain-read EdgeCount n k = refl
plain-read (Live x at) n k = refl
plain-read (Unary op at e) n k = plain-read e n k
plain-read (Binary op at a b) n k = plain-both (reads_set n k a) (reads_set (n + count_read a) k b) (plain-read a n k) (plain-read b (n + count_read a) k)
plain-read (Both a b) n k = plain-both (reads_set n k a) (reads_set (n + count_read a) k b) (plain-read a n k) (plain-read b (n + count_read a) k)
plain-read (Either a b) n k = plain-both (reads_set n k a) (reads_set (n + count_read a) k b) (plain-read a n k) (plain-read b (n + count_read a) k)
plain-read (Choose c a b) n k =
    let m = n + count_read c in
    plain-both (reads_set n k c) (reads_set m k a ++ reads_set (m + count_read a) k b) (plain-read c n k) (plain-both (reads_set m k a) (reads_set (m + count_read a) k b) (plain-read a m k) (plain-read b (m + count_read a) k))
plain-read (Folded f hd test e) n k = refl

plain-set : (es : List Expr) (n : ℕ) (k : Key) → has_plain_picks (sequence (all_set n k es)) ≡ true
plain-set [] n k = refl
plain-set (e ∷ es) n k = plain-both (reads_set n k e) (all_set (n + count_read e) k es) (plain-read e n k) (plain-set es (n + count_read e) k)

plain-property : (i : Bool) (n : ℕ) (k : Key) (y p : ℕ) (at : Place) (rest : List Stmt) → has_plain_picks (sequence rest) ≡ true → has_plain_picks (sequence (property_set i n k y p at ++ rest)) ≡ true
plain-property true n k y p at rest h = h
plain-property false n k y p at rest h = h

plain-held : (its : List ℕ) (ts : List Target) (n : ℕ) (k : Key) → has_plain_picks (sequence (held_set its n k ts)) ≡ true
plain-held its [] n k = refl
plain-held its (T.Scalar x at ∷ ts) n k = plain-held its ts n k
plain-held its (T.Property y p at ∷ ts) n k = let i = is_in its y in plain-property i n k y p at (held_set its (n + taken i) k ts) (plain-held its ts (n + taken i) k)

plain-back : (its : List ℕ) (ts : List Target) (n : ℕ) (k : Key) → has_plain_picks (sequence (written_back its n k ts)) ≡ true
plain-back its [] n k = refl
plain-back its (T.Scalar x at ∷ ts) n k = plain-back its ts n k
plain-back its (T.Property y p at ∷ ts) n k = plain-back its ts (n + taken (is_in its y)) k

onto-plain : (ds : List Declaration) (s : Stmt) (its : List ℕ) (n : ℕ) → is_phase_code ds s ≡ true → has_plain_picks (onto_scalars its n s) ≡ true
onto-plain ds (Then a b) its n h =
    let q = both-true (is_phase_code ds a) (is_phase_code ds b) h in
    let m = n + count_picks its a in
    and-true (has_plain_picks (onto_scalars its n a)) (has_plain_picks (onto_scalars its m b)) (onto-plain ds a its n q.0) (onto-plain ds b its m q.1)
onto-plain ds (Combine k total r ts es) its n h =
    let m = n + count_held its ts in
    let q = both-true (list_all (is_within ds 0) ts) (list_all is_phase_expr es) h in
    let gs = held its n ts in
    let us = all_told m es in
    let back = written_back its n k ts in
    plain-both (held_set its n k ts) (all_set m k es ++ (Combine k total r gs us ∷ back)) (plain-held its ts n k)
    (plain-both (all_set m k es) (Combine k total r gs us ∷ back) (plain-set es m k)
    (and-true (list_all is_scalar gs && list_all is_told us) (has_plain_picks (sequence back)) (and-true (list_all is_scalar gs) (list_all is_told us) (held-scalars its ts n) (all-plain es m q.1)) (plain-back its ts n k)))
onto-plain ds (For k at hd e s) its n h =
    onto-plain ds s (hd.iterator ∷ its) n (both-true (is_phase_expr e) (is_phase_code ds s) (both-true (is_nodes hd.domain) (is_phase_expr e && is_phase_code ds s) h).1).1
onto-plain ds (If k e a b) its n h =
    let p = both-true (is_phase_expr e) (is_phase_code ds a && is_phase_code ds b) h in
    let q = both-true (is_phase_code ds a) (is_phase_code ds b) p.1 in
    let m = n + count_picks its a in
    and-true (has_plain_picks (onto_scalars its n a)) (has_plain_picks (onto_scalars its m b)) (onto-plain ds a its n q.0) (onto-plain ds b its m q.1)
onto-plain ds (While k at e s) its n h = onto-plain ds s its n (both-true (is_phase_expr e) (is_phase_code ds s) h).1
onto-plain ds (Do k at s e) its n h = onto-plain ds s its n (both-true (is_phase_code ds s) (is_phase_expr e) h).0
onto-plain ds s its n h = refl

-- ---- variables of some types at the end of a table

placed-at-end : (ds front : List Declaration) (ts : List VType) → Placed ds (front ++ map fresh ts) (length front) ts
placed-at-end ds front [] = tt
placed-at-end ds front (t ∷ ts) =
    let rest = placed-at-end ds (front ++ (fresh t ∷ [])) ts in
    let tables : (front ++ (fresh t ∷ [])) ++ map fresh ts ≡ front ++ (fresh t ∷ map fresh ts) = append_assoc front (fresh t ∷ []) (map fresh ts) in (
      (next-below front (fresh t) (map fresh ts), variable-next front (fresh t) (map fresh ts)),
      subst (λ n. Placed ds (front ++ (fresh t ∷ map fresh ts)) n ts) (length-append front (fresh t ∷ []))
          (subst (λ es. Placed ds es (length (front ++ (fresh t ∷ []))) ts) tables rest),
    )

module _ (p : Program) (r : WithTypedRuns p) where
  abbrev ds : List Declaration
  ds = p.declarations

  abbrev others : List Declaration
  others = map fresh (types_picked ds [] p.body)

  abbrev es : List Declaration
  es = ds ++ others

  abbrev k : ℕ
  k = length ds

  abbrev table : TypeTable
  table = table_of all_below (with_plain_picks p)

  parts : (nat_le (p.inputs + p.outputs) k ≡ true) × (list_all (suits ds) (uses_of p.body) ≡ true)
  parts = both-true (nat_le (p.inputs + p.outputs) k) (list_all (suits ds) (uses_of p.body)) r.with_rising_keys.with_reads_apart.with_conditions.with_literals.without_compounds.without_groups.ready.sane.named

  names : NamesBelow k p.body
  names = names-below ds p.body parts.1

  -- what is known of the program, in the longer table
  known : Kept table p.result [] p.body
  known =
      let conditions = r.with_rising_keys.with_reads_apart.with_conditions in
      let compounds = conditions.with_literals.without_compounds in
      let ready = compounds.without_groups.ready in
      let same = variable-appended ds others in
      record {
        named = all-suit-appended ds others (uses_of p.body) parts.1;
        typed = typed-longer ds es k same p.result p.body names ∙ ready.sane.typed;
        ordered = ready.sane.ordered;
        share = loops-longer ds es k same p.body names ∙ ready.sane.race_free;
        form = phase-form-longer ds es k same p.body names ∙ ready.form;
        groups = compounds.without_groups.no_groups;
        compounds = compounds-longer ds es k same p.body names ∙ compounds.no_compounds;
        literals = conditions.with_literals.literals;
        conditions = conditions.conditions;
        apart = r.with_rising_keys.with_reads_apart.apart;
        rising = r.with_rising_keys.rising;
        tells = tells_in-longer all_below p.inputs ds es same p.body [] parts.1 ∙ r.tells;
      }

  kept-all : Kept table p.result [] (onto_scalars [] k p.body)
  kept-all =
      let few : p.inputs ≤ k = (let b = leb-true (p.inputs + p.outputs) k parts.0 in omega arith) in
      let least : k ≤ k = omega arith in
      onto-kept table p.result ds few (variable-appended ds others) p.body k [] least names (placed-at-end ds ds (types_picked ds [] p.body)) known

  pub picks-kept : WithPlainPicks (with_plain_picks p)
  picks-kept =
      let s = kept-all in
      let within : p.inputs + p.outputs ≤ length es = (let e = length-append ds others in let b = leb-true (p.inputs + p.outputs) k parts.0 in omega arith) in
      record {
        with_typed_runs = record {
          with_rising_keys = record {
            with_reads_apart = record {
              with_conditions = record {
                with_literals = record {
                  without_compounds = record {
                    without_groups = record {
                      ready = record {
                        sane = record {
                          named = and-true (nat_le (p.inputs + p.outputs) (length es)) (list_all (suits es) (uses_of (onto_scalars [] k p.body))) (le-leb (p.inputs + p.outputs) (length es) within) s.named;
                          typed = s.typed;
                          ordered = s.ordered;
                          race_free = s.share;
                        };
                        form = s.form;
                      };
                      no_groups = s.groups;
                    };
                    no_compounds = s.compounds;
                  };
                  literals = s.literals;
                };
                conditions = s.conditions;
              };
              apart = s.apart;
            };
            rising = s.rising;
          };
          tells = s.tells;
        };
        plain = onto-plain ds p.body [] k r.with_rising_keys.with_reads_apart.with_conditions.with_literals.without_compounds.without_groups.ready.form;
      }
