-- A sequential phase with its picks onto scalars keeps what the passes before it gave.
use Rattle.std.proofs.Common.{◌≡◌, ◌≤◌, ◌<◌, ◌+◌, ◌++◌, ℕ, Bool, true, false, List, [], ◌∷◌, length, map, refl, sym, ap, subst, ◌∙◌, arith, Option, Some}
use Rattle.std.specs.Prelude.{◌&&◌, nat_lt, nat_le}
use Rattle.std.specs.List.{list_all}
use Rattle.std.proofs.lemmas.Bool.{both_ways, lt-ltb}
use Rattle.std.proofs.lemmas.List.{length-append}
use Rattle.gm_base.specs.declared.places.Place.{Place}
use Rattle.gm_value.specs.declared.reductions.Reduce.{Reduce}
use Rattle.gm_value.specs.declared.values.VType.{VType}
use Rattle.gm_value.specs.declared.values.VType.TheVariants as V
use Rattle.gm_value.specs.Operations.{is_numeric}
use Rattle.gm_value.specs.Reductions.{reduces}
use Rattle.gm_ast.specs.declared.tree.Declaration.{Declaration}
use Rattle.gm_ast.specs.declared.tree.Key.{Key}
use Rattle.gm_ast.specs.declared.tree.Target.{Target}
use Rattle.gm_ast.specs.declared.tree.Target.TheVariants as T
use Rattle.gm_ast.specs.declared.tree.TotalKey.{TotalKey}
use Rattle.gm_ast.specs.declared.tree.Variable.{Variable}
use Rattle.gm_ast.specs.Ways.{is_in}
use Rattle.gm_ast.specs.Program.{Expr, Property, Live, Stmt, Skip, Then, Assign, Combine, For, If, While, Do, sequence}
use Rattle.gm_semantics.specs.Frames.{AllReadBelow, TargetsBelow, NamesBelow}
use Rattle.gm_semantics.specs.Statements.{variable_at}
use Rattle.gm_forms.specs.Forms.{depth_at, is_within, is_told}
use Rattle.gm_forms.specs.Order.{folds_in_order, all_folds}
use Rattle.gm_forms.specs.Ready.{is_phase_expr}
use Rattle.gm_forms.specs.Typing.{type_at, is_type, type_in, has_type, target_type, all_have_types, keeps_tuples, fits_targets}
use Rattle.gm_forms.specs.Uses as Uses
use Rattle.gm_forms.specs.Uses.{Role, Written, Owner, NodeValue, suits, use_as, has_role, uses_in, uses_in_all, uses_of_targets}
use Rattle.gm_forms.proofs.Named.{both-true, all-append}
use Rattle.gm_forms.proofs.Weaker.{and-true}
use Rattle.gm_typed_stores.specs.Tells.{TypeTable, tells, all_tell}
use Rattle.gm_desugar.specs.Conditions.{fresh, set_to, asked}
use Rattle.gm_desugar.specs.Literals.{has_literals}
use Rattle.gm_desugar.specs.Reads.{types_read, count_read, reads_set, told_from}
use Rattle.gm_desugar.proofs.ReadsKept.{length-read, Placed, placed-both, Sound, set-sequence, reads-kept, told-kept}
use Rattle.gm_desugar.proofs.Replacing.{append-true, is-type, type-itself}
use Rattle.gm_reductions.specs.Keys.{rises}
use Rattle.gm_reductions.proofs.Known.{Kept, then-parts, then-kept, if-parts, if-kept, while-parts, while-kept, do-parts, do-kept, for-parts, for-kept}
use Rattle.gm_picks.specs.Picks.{taken, node_variable, value_variable, property_types, property_set, count_all, types_all, all_set, all_told, count_held, types_held, held_set, held, written_back, picked, count_picks, types_picked, onto_scalars}
use Rattle.gm_picks.proofs.ReadsRise.{reads-rise, told-rises}
use Rattle.gm_picks.proofs.ReadsTell.{behind-inputs, reads-tell, told-tells}

-- ---- counts are lengths

length-all : (ds : List Declaration) (vs : List Expr) → length (types_all ds vs) ≡ count_all vs
length-all ds [] = refl
length-all ds (e ∷ vs) = length-append (types_read ds e) (types_all ds vs) ∙ ap (λ n. n + length (types_all ds vs)) (length-read ds e) ∙ ap (λ n. count_read e + n) (length-all ds vs)

length-types : (i : Bool) (t : VType) → length (property_types i t) ≡ taken i
length-types true t = refl
length-types false t = refl

length-both : {A : Type 0} (xs ys : List A) (n m : ℕ) → length xs ≡ n → length ys ≡ m → length (xs ++ ys) ≡ n + m
length-both xs ys n m p q = length-append xs ys ∙ ap (λ z. z + length ys) p ∙ ap (λ z. n + z) q

length-held : (ds : List Declaration) (its : List ℕ) (ts : List Target) → length (types_held ds its ts) ≡ count_held its ts
length-held ds its [] = refl
length-held ds its (T.Scalar x at ∷ ts) = length-held ds its ts
length-held ds its (T.Property y p at ∷ ts) =
    let i = is_in its y in let t = type_at ds p in length-both (property_types i t) (types_held ds its ts) (taken i) (count_held its ts) (length-types i t) (length-held ds its ts)

pub length-picked : (ds : List Declaration) (its : List ℕ) (s : Stmt) → length (types_picked ds its s) ≡ count_picks its s
length-picked ds its (Then a b) = length-both (types_picked ds its a) (types_picked ds its b) (count_picks its a) (count_picks its b) (length-picked ds its a) (length-picked ds its b)
length-picked ds its (Combine k total r ts es) = length-both (types_held ds its ts) (types_all ds es) (count_held its ts) (count_all es) (length-held ds its ts) (length-all ds es)
length-picked ds its (For k at h e s) = length-picked ds (h.iterator ∷ its) s
length-picked ds its (If k e a b) = length-both (types_picked ds its a) (types_picked ds its b) (count_picks its a) (count_picks its b) (length-picked ds its a) (length-picked ds its b)
length-picked ds its (While k at e s) = length-picked ds its s
length-picked ds its (Do k at s e) = length-picked ds its s
length-picked ds its s = refl

-- ---- types of targets

abbrev have_types : List Declaration → List VType → List Expr → Bool
have_types es [] [] = true
have_types es (t ∷ ts) (e ∷ vs) = has_type es t e && have_types es ts vs
have_types es _ _ = false

have-types : (es : List Declaration) (ts : List Target) (vs : List Expr) → all_have_types es ts vs ≡ have_types es (map (target_type es) ts) vs
have-types es [] [] = refl
have-types es [] (e ∷ vs) = refl
have-types es (t ∷ ts) [] = refl
have-types es (t ∷ ts) (e ∷ vs) = ap (λ b. has_type es (target_type es t) e && b) (have-types es ts vs)

abbrev fits_types : Reduce → List VType → Bool
fits_types r [] = false
fits_types r (t ∷ []) = reduces r t
fits_types r (t ∷ (u ∷ ts)) = keeps_tuples r && is_numeric t

fits-types : (es : List Declaration) (r : Reduce) (ts : List Target) → fits_targets es r ts ≡ fits_types r (map (target_type es) ts)
fits-types es r [] = refl
fits-types es r (t ∷ []) = refl
fits-types es r (t ∷ (u ∷ ts)) = refl

module _ (table : TypeTable) (res : Option VType) (ds : List Declaration) (few : table.inputs ≤ length ds) (same : (x : ℕ) → x < length ds → variable_at table.declarations x ≡ variable_at ds x) where
  abbrev es : List Declaration
  es = table.declarations

  abbrev k : ℕ
  k = length ds

  -- ---- statements one after another

  skip-kept : (its : List ℕ) → Kept table res its Skip
  skip-kept its = record { named = refl; typed = refl; ordered = refl; share = refl; form = refl; groups = refl; compounds = refl; literals = refl; conditions = refl; apart = refl; rising = refl; tells = refl }

  both-sequences : (its : List ℕ) (xs ys : List Stmt) → Kept table res its (sequence xs) → Kept table res its (sequence ys) → Kept table res its (sequence (xs ++ ys))
  both-sequences its [] ys h q = q
  both-sequences its (x ∷ xs) ys h q = let p = then-parts table res its x (sequence xs) h in then-kept table res its x (sequence (xs ++ ys)) p.0 (both-sequences its xs ys p.1 q)

  -- a variable of a type that was added
  suited : (n : ℕ) (t : VType) (role : Role) → n < length es → variable_at es n ≡ (fresh t).variable → has_role (fresh t).variable role ≡ true → list_all (suits es) (use_as role n) ≡ true
  suited n t role below e h = and-true (suits es (record { variable = n; role = role })) true (and-true (nat_lt n (length es)) (has_role (variable_at es n) role) (lt-ltb n (length es) below) (ap (λ v. has_role v role) e ∙ h)) refl

  type-below : (p : ℕ) → p < k → type_at es p ≡ type_at ds p
  type-below p l = ap (λ (v : Variable). v.vtype) (same p l)

  -- ---- values

  abbrev AllSound : List Expr → Type 0
  AllSound [] = Unit {0}
  AllSound (e ∷ vs) = Sound ds es e × AllSound vs

  all-sound : (ts : List Target) (vs : List Expr) → list_all (suits es) (uses_in_all vs) ≡ true → all_have_types es ts vs ≡ true → all_folds vs ≡ true → list_all is_phase_expr vs ≡ true → list_all has_literals vs ≡ true → AllSound vs
  all-sound [] [] n t o f l = tt
  all-sound [] (e ∷ vs) n t o f l = absurd (both_ways false refl t)
  all-sound (g ∷ ts) [] n t o f l = tt
  all-sound (g ∷ ts) (e ∷ vs) n t o f l =
      let named = all-append (suits es) (uses_in e) (uses_in_all vs) n in
      let typed = both-true (has_type es (target_type es g) e) (all_have_types es ts vs) t in
      let ordered = both-true (folds_in_order e) (all_folds vs) o in
      let form = both-true (is_phase_expr e) (list_all is_phase_expr vs) f in
      let literals = both-true (has_literals e) (list_all has_literals vs) l in
      (record { named = named.0; typed = (target_type es g, is-type (target_type es g) (type_in es e) typed.0); folds = ordered.0; phase = form.0; literals = literals.0 }, all-sound ts vs named.1 typed.1 ordered.1 form.1 literals.1)

  placed-read : (n : ℕ) (e : Expr) (vs : List Expr) → Placed ds es n (types_read ds e ++ types_all ds vs) → Placed ds es n (types_read ds e) × Placed ds es (n + count_read e) (types_all ds vs)
  placed-read n e vs h = let q = placed-both ds es n (types_read ds e) (types_all ds vs) h in (q.0, subst (λ m. Placed ds es (n + m) (types_all ds vs)) (length-read ds e) q.1)

  -- the reads of values
  all-set-kept : (its : List ℕ) (key : Key) (vs : List Expr) (n : ℕ) → k ≤ n → AllReadBelow k vs → Placed ds es n (types_all ds vs) → AllSound vs → list_all rises vs ≡ true → all_tell table its vs ≡ true → Kept table res its (sequence (all_set n key vs))
  all-set-kept its key [] n l b h s u t = skip-kept its
  all-set-kept its key (e ∷ vs) n l b h s u t =
      let p = placed-read n e vs h in
      let rising = both-true (rises e) (list_all rises vs) u in
      let tell = both-true (tells table its e) (all_tell table its vs) t in
      let reads = reads_set n key e in
      let set = set-sequence ds es res reads (reads-kept ds es same res e n key l b.0 p.0 s.0) in
      both-sequences its reads (all_set (n + count_read e) key vs)
      (record {
        named = set.named;
        typed = set.typed;
        ordered = set.ordered;
        share = set.share;
        form = set.form;
        groups = set.groups;
        compounds = set.compounds;
        literals = set.literals;
        conditions = set.conditions;
        apart = set.apart;
        rising = reads-rise n key e rising.0;
        tells = reads-tell table e its n key tell.0;
      })
      (all-set-kept its key vs (n + count_read e) (omega (arith, l)) b.1 p.1 s.1 rising.1 tell.1)

  -- what is known of the values with these variables
  record AllAreTold (its : List ℕ) (vs us : List Expr) : Type 0 where
    named : list_all (suits es) (uses_in_all us) ≡ true
    typed : (ts : List VType) → have_types es ts vs ≡ true → have_types es ts us ≡ true
    folds : all_folds us ≡ true
    phase : list_all is_phase_expr us ≡ true
    literals : list_all has_literals us ≡ true
    told : list_all is_told us ≡ true
    rising : list_all rises us ≡ true
    tell : all_tell table its us ≡ true

  all-told-kept : (its : List ℕ) (vs : List Expr) (n : ℕ) → k ≤ n → AllReadBelow k vs → Placed ds es n (types_all ds vs) → AllSound vs → all_tell table its vs ≡ true → AllAreTold its vs (all_told n vs)
  all-told-kept its [] n l b h s t = record { named = refl; typed = λ ts i. i; folds = refl; phase = refl; literals = refl; told = refl; rising = refl; tell = refl }
  all-told-kept its (e ∷ vs) n l b h s t =
      let p = placed-read n e vs h in
      let tell = both-true (tells table its e) (all_tell table its vs) t in
      let d = told-kept ds es same e n b.0 p.0 s.0 in
      let m = n + count_read e in
      let more : k ≤ m = omega (arith, l) in
      let q = all-told-kept its vs m more b.1 p.1 s.1 tell.1 in
      let x = told_from n e in
      let us = all_told m vs in
      record {
        named = append-true (suits es) (uses_in x) (uses_in_all us) d.named q.named;
        typed = typed x us d.typed q.typed;
        folds = and-true (folds_in_order x) (all_folds us) d.folds q.folds;
        phase = and-true (is_phase_expr x) (list_all is_phase_expr us) d.phase q.phase;
        literals = and-true (has_literals x) (list_all has_literals us) d.literals q.literals;
        told = and-true (is_told x) (list_all is_told us) d.told q.told;
        rising = and-true (rises x) (list_all rises us) (told-rises n e) q.rising;
        tell = and-true (tells table its x) (all_tell table its us) (told-tells table e its n (omega (arith, l, few)) tell.0) q.tell;
      }
    where
      typed : (x : Expr) (us : List Expr) → type_in es x ≡ type_in es e → ((ts : List VType) → have_types es ts vs ≡ true → have_types es ts us ≡ true) → (ts : List VType) → have_types es ts (e ∷ vs) ≡ true → have_types es ts (x ∷ us) ≡ true
      typed x us eq f [] i = i
      typed x us eq f (g ∷ ts) i = let r = both-true (has_type es g e) (have_types es ts vs) i in and-true (has_type es g x) (have_types es ts us) (ap (is_type g) eq ∙ r.0) (f ts r.1)

  -- ---- targets

  -- a property's variables, and those of the targets behind it
  placed-held : (its : List ℕ) (i : Bool) (t : VType) (ts : List Target) (n : ℕ) → Placed ds es n (property_types i t ++ types_held ds its ts) → Placed ds es n (property_types i t) × Placed ds es (n + taken i) (types_held ds its ts)
  placed-held its i t ts n p =
      let q = placed-both ds es n (property_types i t) (types_held ds its ts) p in (q.0, subst (λ m. Placed ds es (n + m) (types_held ds its ts)) (length-types i t) q.1)

  -- the variable with the value
  abbrev StandsAt : ℕ → VType → Type 0
  StandsAt x t = (x < length es) × (variable_at es x ≡ (fresh t).variable)

  value-stands : (i : Bool) (t : VType) (n : ℕ) → Placed ds es n (property_types i t) → StandsAt (value_variable i n) t
  value-stands true t n p = p.0
  value-stands false t n p = p.1.0

  -- the read of a property's value
  read-kept : (its : List ℕ) (key : Key) (x y q : ℕ) (at : Place) → q < k → StandsAt x (type_at ds q) → list_all (suits es) (use_as Owner y ++ use_as NodeValue q) ≡ true → Kept table res its (set_to x key (Property y q at))
  read-kept its key x y q at low p u =
      let t = type_at ds q in
      record {
        named = append-true (suits es) (use_as Written x) (use_as Owner y ++ use_as NodeValue q) (suited x t Written p.0 p.1 refl) u;
        typed = ap (λ (v : Variable). is_type v.vtype (Some (type_at es q))) p.1 ∙ ap (λ z. is_type t (Some z)) (type-below q low) ∙ type-itself t;
        ordered = refl;
        share = refl;
        form = and-true (nat_le (depth_at es x) 0) true (ap (λ (v : Variable). nat_le v.depth 0) p.1) refl;
        groups = refl;
        compounds = refl;
        literals = refl;
        conditions = refl;
        apart = refl;
        rising = refl;
        tells = refl;
      }

  -- what is held of a property: its node, checked, unless an iterator holds it, and its value
  property-kept : (i : Bool) (its : List ℕ) (key : Key) (y q : ℕ) (at : Place) (n : ℕ) (rest : List Stmt) → q < k → list_all (suits es) (use_as Owner y ++ use_as NodeValue q) ≡ true → Placed ds es n (property_types i (type_at ds q))
      → Kept table res its (sequence rest) → Kept table res its (sequence (property_set i n key y q at ++ rest))
  property-kept true its key y q at n rest low u p h = then-kept table res its (set_to n key (Property y q at)) (sequence rest) (read-kept its key n y q at low p.0 u) h
  property-kept false its key y q at n rest low u p h =
      let owner = all-append (suits es) (use_as Owner y) (use_as NodeValue q) u in
      let value = set_to (n + 1) key (Property y q at) in
      then-kept table res its (set_to n key (Live y at)) (sequence (value ∷ rest))
      (record {
        named = append-true (suits es) (use_as Written n) (use_as Owner y) (suited n V.Node Written p.0.0 p.0.1 refl) owner.0;
        typed = ap (λ (v : Variable). is_type v.vtype (Some V.Node)) p.0.1;
        ordered = refl;
        share = refl;
        form = and-true (nat_le (depth_at es n) 0) true (ap (λ (v : Variable). nat_le v.depth 0) p.0.1) refl;
        groups = refl;
        compounds = refl;
        literals = refl;
        conditions = refl;
        apart = refl;
        rising = refl;
        tells = refl;
      })
      (then-kept table res its value (sequence rest) (read-kept its key (n + 1) y q at low p.1.0 u) h)

  held-kept : (its : List ℕ) (key : Key) (ts : List Target) (n : ℕ) → TargetsBelow k ts → list_all (suits es) (uses_of_targets ts) ≡ true → Placed ds es n (types_held ds its ts) → Kept table res its (sequence (held_set its n key ts))
  held-kept its key [] n b h p = skip-kept its
  held-kept its key (T.Scalar x at ∷ ts) n b h p = held-kept its key ts n b.1 (all-append (suits es) (use_as Written x) (uses_of_targets ts) h).1 p
  held-kept its key (T.Property y q at ∷ ts) n b h p =
      let i = is_in its y in
      let u = all-append (suits es) (use_as Owner y ++ use_as NodeValue q) (uses_of_targets ts) h in
      let z = placed-held its i (type_at ds q) ts n p in
      property-kept i its key y q at n (held_set its (n + taken i) key ts) b.0.1 u.0 z.0 (held-kept its key ts (n + taken i) b.1 u.1 z.1)

  -- the scalars that take the pick
  held-types : (its : List ℕ) (ts : List Target) (n : ℕ) → TargetsBelow k ts → Placed ds es n (types_held ds its ts) → map (target_type es) (held its n ts) ≡ map (target_type es) ts
  held-types its [] n b p = refl
  held-types its (T.Scalar x at ∷ ts) n b p = ap (λ l. type_at es x ∷ l) (held-types its ts n b.1 p)
  held-types its (T.Property y q at ∷ ts) n b p =
      let i = is_in its y in
      let z = placed-held its i (type_at ds q) ts n p in
      let value = value-stands i (type_at ds q) n z.0 in
      ap (λ w. w ∷ map (target_type es) (held its (n + taken i) ts)) (ap (λ (v : Variable). v.vtype) value.1 ∙ sym (type-below q b.0.1)) ∙ ap (λ l. type_at es q ∷ l) (held-types its ts (n + taken i) b.1 z.1)

  held-named : (its : List ℕ) (ts : List Target) (n : ℕ) → list_all (suits es) (uses_of_targets ts) ≡ true → Placed ds es n (types_held ds its ts) → list_all (suits es) (uses_of_targets (held its n ts)) ≡ true
  held-named its [] n h p = refl
  held-named its (T.Scalar x at ∷ ts) n h p = let u = all-append (suits es) (use_as Written x) (uses_of_targets ts) h in append-true (suits es) (use_as Written x) (uses_of_targets (held its n ts)) u.0 (held-named its ts n u.1 p)
  held-named its (T.Property y q at ∷ ts) n h p =
      let i = is_in its y in
      let x = value_variable i n in
      let u = all-append (suits es) (use_as Owner y ++ use_as NodeValue q) (uses_of_targets ts) h in
      let z = placed-held its i (type_at ds q) ts n p in
      let value = value-stands i (type_at ds q) n z.0 in
      append-true (suits es) (use_as Written x) (uses_of_targets (held its (n + taken i) ts)) (suited x (type_at ds q) Written value.0 value.1 refl) (held-named its ts (n + taken i) u.1 z.1)

  held-within : (its : List ℕ) (ts : List Target) (n : ℕ) → list_all (is_within es 0) ts ≡ true → Placed ds es n (types_held ds its ts) → list_all (is_within es 0) (held its n ts) ≡ true
  held-within its [] n h p = refl
  held-within its (T.Scalar x at ∷ ts) n h p =
      let u = both-true (is_within es 0 (T.Scalar x at)) (list_all (is_within es 0) ts) h in and-true (is_within es 0 (T.Scalar x at)) (list_all (is_within es 0) (held its n ts)) u.0 (held-within its ts n u.1 p)
  held-within its (T.Property y q at ∷ ts) n h p =
      let i = is_in its y in
      let z = placed-held its i (type_at ds q) ts n p in
      let value = value-stands i (type_at ds q) n z.0 in
      and-true (nat_le (depth_at es (value_variable i n)) 0) (list_all (is_within es 0) (held its (n + taken i) ts)) (ap (λ (v : Variable). nat_le v.depth 0) value.1) (held-within its ts (n + taken i) h z.1)

  -- and what is written back, at the node that was checked or that an iterator holds
  node-named : (i : Bool) (t : VType) (y n : ℕ) → list_all (suits es) (use_as Owner y) ≡ true → Placed ds es n (property_types i t) → list_all (suits es) (use_as Owner (node_variable i n y)) ≡ true
  node-named true t y n h p = h
  node-named false t y n h p = suited n V.Node Owner p.0.0 p.0.1 refl

  value-after : (i : Bool) (n : ℕ) → k ≤ n → k ≤ value_variable i n
  value-after true n l = l
  value-after false n l = omega (arith, l)

  back-kept : (its : List ℕ) (key : Key) (ts : List Target) (n : ℕ) → k ≤ n → TargetsBelow k ts → list_all (suits es) (uses_of_targets ts) ≡ true → Placed ds es n (types_held ds its ts) → Kept table res its (sequence (written_back its n key ts))
  back-kept its key [] n l b h p = skip-kept its
  back-kept its key (T.Scalar x at ∷ ts) n l b h p = back-kept its key ts n l b.1 (all-append (suits es) (use_as Written x) (uses_of_targets ts) h).1 p
  back-kept its key (T.Property y q at ∷ ts) n l b h p =
      let i = is_in its y in
      let c = node_variable i n y in
      let x = value_variable i n in
      let u = all-append (suits es) (use_as Owner y ++ use_as NodeValue q) (uses_of_targets ts) h in
      let owner = all-append (suits es) (use_as Owner y) (use_as NodeValue q) u.0 in
      let t = type_at ds q in
      let z = placed-held its i t ts n p in
      let value = value-stands i t n z.0 in
      then-kept table res its (Assign key (T.Property c q at) (asked x)) (sequence (written_back its (n + taken i) key ts))
      (record {
        named = append-true (suits es) (use_as Owner c ++ use_as NodeValue q) (use_as Uses.Told x) (append-true (suits es) (use_as Owner c) (use_as NodeValue q) (node-named i t y n owner.0 z.0) owner.1) (suited x t Uses.Told value.0 value.1 refl);
        typed = ap (λ (v : Variable). is_type (type_at es q) (Some v.vtype)) value.1 ∙ ap (λ z. is_type z (Some t)) (type-below q b.0.1) ∙ type-itself t;
        ordered = refl;
        share = refl;
        form = refl;
        groups = refl;
        compounds = refl;
        literals = refl;
        conditions = refl;
        apart = refl;
        rising = refl;
        tells = behind-inputs table its x (let above = value-after i n l in omega (arith, above, few));
      })
      (back-kept its key ts (n + taken i) (omega (arith, l)) b.1 u.1 z.1)

  -- ---- a pick

  pick-kept : (its : List ℕ) (key : Key) (total : TotalKey) (r : Reduce) (ts : List Target) (vs : List Expr) (n : ℕ) → k ≤ n → TargetsBelow k ts → AllReadBelow k vs → Placed ds es n (types_held ds its ts ++ types_all ds vs)
      → Kept table res its (Combine key total r ts vs) → Kept table res its (picked its n key total r ts vs)
  pick-kept its key total r ts vs n l b c p h =
      let m = n + count_held its ts in
      let more : k ≤ m = omega (arith, l) in
      let q = placed-both ds es n (types_held ds its ts) (types_all ds vs) p in
      let behind : Placed ds es m (types_all ds vs) = subst (λ z. Placed ds es (n + z) (types_all ds vs)) (length-held ds its ts) q.1 in
      let named = all-append (suits es) (uses_of_targets ts) (uses_in_all vs) h.named in
      let typed = both-true (all_have_types es ts vs) (fits_targets es r ts) h.typed in
      let form = both-true (list_all (is_within es 0) ts) (list_all is_phase_expr vs) h.form in
      let sound = all-sound ts vs named.1 typed.0 h.ordered form.1 h.literals in
      let told = all-told-kept its vs m more c behind sound h.tells in
      let us = all_told m vs in
      let gs = held its n ts in
      both-sequences its (held_set its n key ts) (all_set m key vs ++ (Combine key total r gs us ∷ written_back its n key ts)) (held-kept its key ts n b named.0 q.0)
      (both-sequences its (all_set m key vs) (Combine key total r gs us ∷ written_back its n key ts) (all-set-kept its key vs m more c behind sound h.rising h.tells)
      (then-kept table res its (Combine key total r gs us) (sequence (written_back its n key ts))
      (record {
        named = append-true (suits es) (uses_of_targets gs) (uses_in_all us) (held-named its ts n named.0 q.0) told.named;
        typed = and-true (all_have_types es gs us) (fits_targets es r gs)
            (have-types es gs us ∙ ap (λ z. have_types es z us) (held-types its ts n b q.0) ∙ told.typed (map (target_type es) ts) (sym (have-types es ts vs) ∙ typed.0))
            (fits-types es r gs ∙ ap (fits_types r) (held-types its ts n b q.0) ∙ sym (fits-types es r ts) ∙ typed.1);
        ordered = told.folds;
        share = refl;
        form = and-true (list_all (is_within es 0) gs) (list_all is_phase_expr us) (held-within its ts n form.0 q.0) told.phase;
        groups = refl;
        compounds = h.compounds;
        literals = told.literals;
        conditions = refl;
        apart = refl;
        rising = told.rising;
        tells = told.tell;
      })
      (back-kept its key ts n l b named.0 q.0)))

  placed-parts : (n : ℕ) (its : List ℕ) (a b : Stmt) → Placed ds es n (types_picked ds its a ++ types_picked ds its b) → Placed ds es n (types_picked ds its a) × Placed ds es (n + count_picks its a) (types_picked ds its b)
  placed-parts n its a b h = let q = placed-both ds es n (types_picked ds its a) (types_picked ds its b) h in (q.0, subst (λ m. Placed ds es (n + m) (types_picked ds its b)) (length-picked ds its a) q.1)

  pub onto-kept : (s : Stmt) (n : ℕ) (its : List ℕ) → k ≤ n → NamesBelow k s → Placed ds es n (types_picked ds its s) → Kept table res its s → Kept table res its (onto_scalars its n s)
  onto-kept (Then a b) n its l w p h =
      let q = then-parts table res its a b h in
      let z = placed-parts n its a b p in
      then-kept table res its (onto_scalars its n a) (onto_scalars its (n + count_picks its a) b) (onto-kept a n its l w.0 z.0 q.0) (onto-kept b (n + count_picks its a) its (omega (arith, l)) w.1 z.1 q.1)
  onto-kept (Combine key total r ts vs) n its l w p h = pick-kept its key total r ts vs n l w.0 w.1 p h
  onto-kept (For key at hd e s) n its l w p h =
      let more = hd.iterator ∷ its in let q = for-parts table res its key at hd e s h in for-kept table res its key at hd e (onto_scalars more n s) q.0 q.1 (onto-kept s n more l w.3 p q.2)
  onto-kept (If key e a b) n its l w p h =
      let q = if-parts table res its key e a b h in
      let z = placed-parts n its a b p in
      if-kept table res its key e (onto_scalars its n a) (onto_scalars its (n + count_picks its a) b) q.0 (onto-kept a n its l w.1 z.0 q.1) (onto-kept b (n + count_picks its a) its (omega (arith, l)) w.2 z.1 q.2)
  onto-kept (While key at e s) n its l w p h = let q = while-parts table res its key at e s h in while-kept table res its key at e (onto_scalars its n s) q.0 (onto-kept s n its l w.1 p q.1)
  onto-kept (Do key at s e) n its l w p h = let q = do-parts table res its key at e s h in do-kept table res its key at e (onto_scalars its n s) q.0 (onto-kept s n its l w.0 p q.1)
  onto-kept s n its l w p h = h
