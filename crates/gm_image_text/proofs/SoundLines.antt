-- What soundness says of lines: their numbers being in range, they have a spelling.
use Rattle.std.proofs.Common.{◌≡◌, ◌<◌, ◌≤◌, ℕ, zero, suc, Bool, true, false, not, ◌&&◌, ◌||◌, eqb, List, [], ◌∷◌, ◌++◌, length, refl, ap, sym, ◌∙◌, subst, arith}
use Rattle.std.specs.Prelude.{nat_lt, slice_get, Option, Some, None, is_some}
use Rattle.std.specs.List.{list_all, list_any, AllByRecursion, IsDistinct}
use Rattle.std.proofs.lemmas.List.{length-map}
use Rattle.std.proofs.lemmas.Map.Steps.{length-le_from_distinct_below}
use Rattle.std.proofs.lemmas.Bool.{eqb-true, eq-eqb}
use Rattle.std.proofs.lemmas.Bool.Decides.{nat_tests}
use Rattle.std.proofs.lemmas.List.Folds.{list_all-append}
use Rattle.gm_value.specs.declared.values.VType.{VType}
use Rattle.gm_value.specs.declared.values.VType.TheVariants as types
use Rattle.gm_value.specs.declared.reductions.Reduce.{Reduce}
use Rattle.gm_value.specs.Operations.{is_numeric}
use Rattle.gm_image.specs.declared.images.Kind.{Kind}
use Rattle.gm_image.specs.Term.{Term}
use Rattle.gm_image.specs.Program.{Program, Target, Line, SetField, Fold, SetRegister, Put, Send, Skip, Each, Command, SetGlobal, Step, Jump, Test, Turn, Back, Finish}
use Rattle.gm_image.specs.Parts.{is_shallow, is_among, slots_of, line_terms, command_terms}
use Rattle.gm_image.specs.Sorts.{expects, sort_of}
use Rattle.gm_image.specs.Indices.{in_range, term_in_range, indices_in_range}
use Rattle.gm_image.specs.Fits.{has_type, has_slot_type, type_holds, is_extreme, differ_after, all_differ, values_fit, message_fits, reduction_fits, targets_fit, types_fit}
use Rattle.gm_image.specs.Names.{names_keep}
use Rattle.gm_image.specs.Rows.{Row, Site, LineRow, CommandRow}
use Rattle.gm_image.specs.Soundness.{keeps, keeps_all, image_rules}
use Rattle.gm_image_text.specs.Fits.{TermFits, TargetFits, TargetsFit, LineFits, CommandFits}
use Rattle.gm_image_text.specs.declared.heads.Version.TheVariants as version
use Rattle.gm_image.specs.Ranges.{IsIndex, InRange, TargetRanged, LineRanged, CommandRanged}
use Rattle.gm_image_text.proofs.SoundTerms.{both, term_fits}

pub split : {X : Type 0} (p : X → Bool) (xs ys : List X) → list_all p (xs ++ ys) ≡ true → (list_all p xs ≡ true) × (list_all p ys ≡ true)
split p xs ys h = both (list_all p xs) (list_all p ys) (sym (list_all-append p xs ys) ∙ h)

all_true : {X : Type 0} (p : X → Bool) (xs : List X) → list_all p xs ≡ true → AllByRecursion (λ x. p x ≡ true) xs
all_true p [] h = tt
all_true p (x ∷ xs) h = let it = both (p x) (list_all p xs) h in (it.0, all_true p xs it.1)

-- what a line keeps
pub record Keeps (p : Program) (row : Row) : Type 0 where
  pub indices : indices_in_range p row ≡ true
  pub fitting : types_fit p row ≡ true
  pub names : names_keep p row ≡ true

pub kept : (p : Program) (row : Row) → keeps_all p row ≡ true → Keeps p row
kept p row h =
    let it = all_true (keeps p row) image_rules h in
    record { indices = it.0; fitting = it.1.0; names = it.1.1.1.1.1.1.1.1.1.0 }

below : (n m : ℕ) → nat_lt n m ≡ true → n < m
below n m h = grind (arith, nat_tests)

-- what is in range is there
some_at : {X : Type 0} (xs : List X) (i : ℕ) → i < length xs → is_some (slice_get xs i) ≡ true
some_at [] i h = absurd (omega arith)
some_at (x ∷ xs) zero h = refl
some_at (x ∷ xs) (suc i) h = some_at xs i (omega arith)

there : {X : Type 0} (xs : List X) (i : ℕ) → in_range xs i ≡ true → is_some (slice_get xs i) ≡ true
there xs i h = some_at xs i (below i (length xs) h)

-- distinct numbers below one are no more than it
or_right : (a b : Bool) → b ≡ true → (a || b) ≡ true
or_right true b e = refl
or_right false b e = e

other : (before : List ℕ) (b x : ℕ) (t : Bool) → eqb b x ≡ t → is_among b before ≡ true → not (is_among x before) ≡ true → t ≡ false
other before b x true is among new =
    let P : ℕ → Type 0 = λ n. is_among n before ≡ true in
    let again : not (is_among x before) ≡ false = ap not (subst P (eqb-true b x is) among) in
    let bad : true ≡ false = sym new ∙ again in
    cc
other before b x false is among new = refl

apart : (before xs : List ℕ) → differ_after before xs ≡ true → (b : ℕ) → is_among b before ≡ true → AllByRecursion (λ y. eqb b y ≡ false) xs
apart before [] d b h = tt
apart before (x ∷ xs) d b h =
    let it = both (not (is_among x before)) (differ_after (x ∷ before) xs) d in
    (other before b x (eqb b x) refl h it.0, apart (x ∷ before) xs it.1 b (or_right (eqb x b) (is_among b before) h))

distinct : (before xs : List ℕ) → differ_after before xs ≡ true → IsDistinct eqb xs
unfolding IsDistinct
distinct before [] d = tt
distinct before (x ∷ xs) d =
    let it = both (not (is_among x before)) (differ_after (x ∷ before) xs) d in
    let here : is_among x (x ∷ before) ≡ true = ap (λ b. b || is_among x before) (eq-eqb x x refl) in
    (apart (x ∷ before) xs it.1 x here, distinct (x ∷ before) xs it.1)

slot_below : (n : ℕ) (ts : List Target) → list_all (λ t. nat_lt t.slot n) ts ≡ true → (q : ℕ) → list_any (eqb q) (slots_of ts) ≡ true → q < n
slot_below n [] i q h = let bad : false ≡ true = h in cc
slot_below n (t ∷ ts) i q h =
    let it = both (nat_lt t.slot n) (list_all (λ t. nat_lt t.slot n) ts) i in
    by_first (eqb q t.slot) refl (below t.slot n it.0) (slot_below n ts it.1 q) h where
      by_first : (b : Bool) → eqb q t.slot ≡ b → t.slot < n → (list_any (eqb q) (slots_of ts) ≡ true → q < n) → (b || list_any (eqb q) (slots_of ts)) ≡ true → q < n
      by_first true is less more e =
          let P : ℕ → Type 0 = λ m. m < n in
          subst P (sym (eqb-true q t.slot is)) less
      by_first false is less more e = more e

few_differ : (n : ℕ) (ts : List Target) → list_all (λ t. nat_lt t.slot n) ts ≡ true → all_differ (slots_of ts) ≡ true → length ts ≤ n
few_differ n ts i d =
    let few : length (slots_of ts) ≤ n = length-le_from_distinct_below (slots_of ts) n (distinct [] (slots_of ts) d) (slot_below n ts i) in
    omega (arith, few, length-map ts (λ t. t.slot))

module _ (p : Program) (k : Option ℕ) where
  typed : (t : VType) (a : Term) → has_type p k t a ≡ true → InRange a → TermFits a
  typed t a h r = let it = both (is_shallow a) (expects t (sort_of p k a)) h in term_fits p k t a r it.0 it.1

  by_slot : (o : Option VType) (a : Term) → is_some o ≡ true → has_slot_type p k o a ≡ true → InRange a → TermFits a
  by_slot None a e h r = let bad : false ≡ true = e in cc
  by_slot (Some t) a e h r = typed t a h r

  in_slot : (ts : List VType) (i : ℕ) (a : Term) → in_range ts i ≡ true → has_slot_type p k (slice_get ts i) a ≡ true → InRange a → TermFits a
  in_slot ts i a e h r = by_slot (slice_get ts i) a (there ts i e) h r

  values : (ts : List VType) (vs : List Term) → values_fit p k ts vs ≡ true → AllByRecursion InRange vs → AllByRecursion TermFits vs
  values [] [] h r = tt
  values [] (a ∷ more) h r = let bad : false ≡ true = h in cc
  values (t ∷ ts) [] h r = tt
  values (t ∷ ts) (a ∷ more) h r =
      let it = both (has_type p k t a) (values_fit p k ts more) h in
      (typed t a it.0 r.0, values ts more it.1 r.1)

  message : (o : Option Kind) (vs : List Term) → is_some o ≡ true → message_fits p k o vs ≡ true → AllByRecursion InRange vs → AllByRecursion TermFits vs
  message None vs e h r = let bad : false ≡ true = e in cc
  message (Some kind) vs e h r = values kind.values vs h r

  all_targets : (ts : List VType) (xs : List Target) → list_all (λ t. in_range ts t.slot) xs ≡ true → targets_fit p k ts xs ≡ true → AllByRecursion TargetRanged xs → AllByRecursion TargetFits xs
  all_targets ts [] i h r = tt
  all_targets ts (x ∷ xs) i h r =
      let here = both (in_range ts x.slot) (list_all (λ t. in_range ts t.slot) xs) i in
      let fit = both (has_slot_type p k (slice_get ts x.slot) x.term) (targets_fit p k ts xs) h in
      ((r.0.0, in_slot ts x.slot x.term here.0 fit.0 r.0.1), all_targets ts xs here.1 fit.1 r.1)

  slots_ok : (ts : List VType) (q : Reduce) (xs : List Target) → IsIndex (length ts) → reduction_fits ts q xs ≡ true → list_all (λ t. in_range ts t.slot) xs ≡ true → targets_fit p k ts xs ≡ true → AllByRecursion TargetRanged xs
      → TargetsFit version.Two q xs
  slots_ok ts q [] few d i h r = let bad : false ≡ true = d in cc
  slots_ok ts q (x ∷ []) few d i h r = (all_targets ts (x ∷ []) i h r).0
  slots_ok ts q (x ∷ (y ∷ zs)) few d i h r =
      let xs = x ∷ (y ∷ zs) in
      let one = both (is_extreme q && type_holds is_numeric (slice_get ts x.slot)) (all_differ (slots_of xs)) d in
      let two = both (is_extreme q) (type_holds is_numeric (slice_get ts x.slot)) one.0 in
      let most : length xs ≤ length ts = few_differ (length ts) xs i one.1 in
      (tt, (two.0, (omega (arith, few, most), all_targets ts xs i h r)))

-- as many globals and fields as an index can say
pub record Few (p : Program) : Type 0 where
  pub globals : IsIndex (length p.globals)
  pub fields : IsIndex (length p.fields)

pub line_ok : (p : Program) (s : Site) (l : Line) → LineRanged l → Few p → Keeps p (LineRow s l) → LineFits version.Two l
line_ok p s (SetField f a) r few k =
    let i = both (in_range p.fields f) (list_all (term_in_range p s.kind) (line_terms (SetField f a))) k.indices in
    (r.0, in_slot p s.kind p.fields f a i.0 k.fitting r.1)
line_ok p s (Fold q place ts) r few k =
    let i = both (in_range p.places place && list_all (λ t. in_range p.fields t.slot) ts) (list_all (term_in_range p s.kind) (line_terms (Fold q place ts))) k.indices in
    let j = both (in_range p.places place) (list_all (λ t. in_range p.fields t.slot) ts) i.0 in
    let f = both (reduction_fits p.fields q ts) (targets_fit p s.kind p.fields ts) k.fitting in
    (r.0, slots_ok p s.kind p.fields q ts few.fields f.0 j.1 f.1 r.1)
line_ok p s (SetRegister x a) r few k =
    let i = both (in_range p.registers x) (list_all (term_in_range p s.kind) (line_terms (SetRegister x a))) k.indices in
    (r.0, in_slot p s.kind p.registers x a i.0 k.fitting r.1)
line_ok p s (Put q place ts) r few k =
    let i = both (in_range p.places place && list_all (λ t. in_range p.globals t.slot) ts) (list_all (term_in_range p s.kind) (line_terms (Put q place ts))) k.indices in
    let j = both (in_range p.places place) (list_all (λ t. in_range p.globals t.slot) ts) i.0 in
    let f = both (reduction_fits p.globals q ts) (targets_fit p s.kind p.globals ts) k.fitting in
    (r.0, slots_ok p s.kind p.globals q ts few.globals f.0 j.1 f.1 r.1)
line_ok p s (Send m to vs) r few k =
    let i = both (in_range p.kinds m) (list_all (term_in_range p s.kind) (line_terms (Send m to vs))) k.indices in
    let f = both (has_type p s.kind types.Node to) (message_fits p s.kind (slice_get p.kinds m) vs) k.fitting in
    (r.0, typed p s.kind types.Node to f.0 r.1, message p s.kind (slice_get p.kinds m) vs (there p.kinds m i.0) f.1 r.2)
line_ok p s (Skip n a) r few k = (r.0, typed p s.kind types.Flag a k.fitting r.1)
line_ok p s (Each d n) r few k = r

pub command_ok : (p : Program) (j : ℕ) (c : Command) → CommandRanged c → Keeps p (CommandRow j c) → CommandFits c
command_ok p j (SetGlobal g a) r k =
    let i = both (in_range p.globals g) (list_all (term_in_range p None) (command_terms (SetGlobal g a))) k.indices in
    (r.0, in_slot p None p.globals g a i.0 k.fitting r.1)
command_ok p j (Step q) r k = r
command_ok p j (Jump to) r k = r
command_ok p j (Test to a) r k = (r.0, typed p None types.Flag a k.fitting r.1)
command_ok p j (Turn x a) r k = (r.0, typed p None types.Flag a k.fitting r.1)
command_ok p j (Back h) r k = r
command_ok p j Finish r k = tt
