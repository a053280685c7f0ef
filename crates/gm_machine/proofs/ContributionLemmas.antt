-- Parts behind parts stand for contributions behind contributions.
use Rattle.std.proofs.Common.{◌≡◌, ◌<◌, ◌≤◌, ◌+◌, ℕ, zero, suc, Option, Some, None, Result, Ok, Err, List, [], ◌∷◌, ◌++◌, map, length, take, drop, get_or, refl, sym, ap, ◌∙◌, subst, arith}
use Rattle.gm_value.specs.declared.values.Value.{Value}
use Rattle.gm_value.specs.declared.reductions.Reduce.{Reduce}
use Rattle.gm_image.specs.Program.{Target}
use Rattle.gm_image.specs.Parts.{terms_of, slots_of}
use Rattle.gm_machine.specs.declared.faults.Fault.{Fault}
use Rattle.gm_machine.specs.declared.contributions.ContributionPart.{ContributionPart}
use Rattle.gm_machine.specs.Faults.{then_go}
use Rattle.gm_machine.specs.Expressions.{View, value, values}
use Rattle.gm_machine.specs.Taking.{Contribution, contributed}
use Rattle.gm_machine.specs.Contributions.{contribution_of, begins, contributions_of, AreWhole, gives_parts}
use Rattle.gm_machine.specs.Vertex.{gives}

take-front : {A : Type 0} (n : ℕ) (xs ys : List A) → n ≤ length xs → take n (xs ++ ys) ≡ take n xs
take-front zero xs ys h = refl
take-front (suc n) [] ys h = absurd (omega arith)
take-front (suc n) (x ∷ xs) ys h = let l : n ≤ length xs = omega arith in ap (λ zs. x ∷ zs) (take-front n xs ys l)

begins-append : (n : ℕ) (p : ContributionPart) (xs ys : List ContributionPart) (cs ds : List Contribution) → n ≤ suc (length xs) →
    begins n p (xs ++ ys) (cs ++ ds) ≡ begins n p xs cs ++ ds
begins-append zero p xs ys cs ds h = refl
begins-append (suc more) p xs ys cs ds h =
    let l : more ≤ length xs = omega arith in ap (λ zs. contribution_of p (p ∷ zs) ∷ (cs ++ ds)) (take-front more xs ys l)

pub contributions-append : (xs ys : List ContributionPart) → AreWhole xs → contributions_of (xs ++ ys) ≡ contributions_of xs ++ contributions_of ys
contributions-append [] ys whole = refl
contributions-append (p ∷ xs) ys whole =
    ap (begins p.width p (xs ++ ys)) (contributions-append xs ys whole.1)
    ∙ begins-append p.width p xs ys (contributions_of xs) (contributions_of ys) whole.0

length-longer : {A : Type 0} (xs ys : List A) → length xs ≤ length (xs ++ ys)
length-longer [] ys = omega arith
length-longer (x ∷ xs) ys = let l : length xs ≤ length (xs ++ ys) = length-longer xs ys in omega arith

pub whole-append : (xs ys : List ContributionPart) → AreWhole xs → AreWhole ys → AreWhole (xs ++ ys)
whole-append [] ys some other = other
whole-append (p ∷ xs) ys some other = (omega (arith, some.0, length-longer xs ys), whole-append xs ys some.1 other)

-- one more contribution, to one slot
pub one-added : (place : ℕ) (reduce : Reduce) (slot : ℕ) (v : Value) (parts new : List ContributionPart) (old : List Contribution) → AreWhole parts → contributions_of parts ≡ old →
    new ≡ parts ++ record { place = place; reduce = reduce; width = 1; slot = slot; value = v } ∷ [] →
    contributions_of new ≡ old ++ record { place = place; reduce = reduce; slots = slot ∷ []; values = v ∷ [] } ∷ []
one-added place reduce slot v parts new old whole is pushed =
    let p : ContributionPart = record { place = place; reduce = reduce; width = 1; slot = slot; value = v } in
    ap contributions_of pushed ∙ contributions-append parts (p ∷ []) whole
    ∙ ap (λ cs. cs ++ record { place = place; reduce = reduce; slots = slot ∷ []; values = v ∷ [] } ∷ []) is

pub one-whole : (place : ℕ) (reduce : Reduce) (slot : ℕ) (v : Value) (parts new : List ContributionPart) → AreWhole parts →
    new ≡ parts ++ record { place = place; reduce = reduce; width = 1; slot = slot; value = v } ∷ [] → AreWhole new
one-whole place reduce slot v parts new whole pushed =
    let p : ContributionPart = record { place = place; reduce = reduce; width = 1; slot = slot; value = v } in
    subst AreWhole (sym pushed) (whole-append parts (p ∷ []) whole (omega arith, tt))

-- several more
pub parts-added : (more parts new : List ContributionPart) (old : List Contribution) → AreWhole parts → contributions_of parts ≡ old → new ≡ parts ++ more →
    contributions_of new ≡ old ++ contributions_of more
parts-added more parts new old whole is pushed =
    ap contributions_of pushed ∙ contributions-append parts more whole ∙ ap (λ cs. cs ++ contributions_of more) is

pub parts-whole : (more parts new : List ContributionPart) → AreWhole parts → AreWhole more → new ≡ parts ++ more → AreWhole new
parts-whole more parts new whole also pushed = subst AreWhole (sym pushed) (whole-append parts more whole also)

-- the parts of some slots and values
abbrev parts_from : ℕ → Reduce → ℕ → List ℕ → List Value → List ContributionPart
parts_from place reduce width [] values = []
parts_from place reduce width (slot ∷ slots) [] = []
parts_from place reduce width (slot ∷ slots) (v ∷ values) = record { place = place; reduce = reduce; width = width; slot = slot; value = v } ∷ parts_from place reduce 0 slots values

-- what targets give, by the values of their expressions
gives-from : (w : View) (reduce : Reduce) (place width : ℕ) (ts : List Target) →
    gives_parts w reduce place width ts ≡ then_go (values w (terms_of ts)) (λ vs. Ok (parts_from place reduce width (slots_of ts) vs))
gives-from w reduce place width [] = refl
gives-from w reduce place width (t ∷ ts) = first (gives-from w reduce place 0 ts) (value w t.term) where
  rest : (v : Value) (r : Result (List Value) Fault) →
      then_go (then_go r (λ vs. Ok (parts_from place reduce 0 (slots_of ts) vs))) (λ parts. Ok (record { place = place; reduce = reduce; width = width; slot = t.slot; value = v } ∷ parts))
      ≡ then_go (then_go r (λ vs. Ok (v ∷ vs))) (λ vs. Ok (parts_from place reduce width (t.slot ∷ slots_of ts) vs))
  rest v (Ok vs) = refl
  rest v (Err f) = refl

  first : gives_parts w reduce place 0 ts ≡ then_go (values w (terms_of ts)) (λ vs. Ok (parts_from place reduce 0 (slots_of ts) vs)) → (a : Result Value Fault) →
      then_go a (λ v. then_go (gives_parts w reduce place 0 ts) (λ parts. Ok (record { place = place; reduce = reduce; width = width; slot = t.slot; value = v } ∷ parts)))
      ≡ then_go (then_go a (λ v. then_go (values w (terms_of ts)) (λ vs. Ok (v ∷ vs)))) (λ vs. Ok (parts_from place reduce width (t.slot ∷ slots_of ts) vs))
  first others (Ok v) =
      ap (λ r. then_go r (λ parts. Ok (record { place = place; reduce = reduce; width = width; slot = t.slot; value = v } ∷ parts))) others
      ∙ rest v (values w (terms_of ts))
  first others (Err f) = refl

-- there are as many values as expressions
abbrev AsLong : {A : Type 0} → List A → Result (List Value) Fault → Type 0
AsLong ts (Ok vs) = length ts ≡ length vs
AsLong ts (Err f) = Unit {0}

values-length : (w : View) (ts : List Target) → AsLong ts (values w (terms_of ts))
values-length w [] = refl
values-length w (t ∷ ts) = first (values-length w ts) (value w t.term) where
  rest : (v : Value) (r : Result (List Value) Fault) → AsLong ts r → AsLong (t ∷ ts) (then_go r (λ vs. Ok (v ∷ vs)))
  rest v (Ok vs) same = ap suc same
  rest v (Err f) same = tt

  first : AsLong ts (values w (terms_of ts)) → (a : Result Value Fault) → AsLong (t ∷ ts) (then_go a (λ v. then_go (values w (terms_of ts)) (λ vs. Ok (v ∷ vs))))
  first others (Ok v) = rest v (values w (terms_of ts)) others
  first others (Err f) = tt

-- parts of width 0 stand for nothing
module _ (place : ℕ) (reduce : Reduce) where
  none-begin : (slots : List ℕ) (vs : List Value) → contributions_of (parts_from place reduce 0 slots vs) ≡ []
  none-begin [] vs = refl
  none-begin (slot ∷ slots) [] = refl
  none-begin (slot ∷ slots) (v ∷ vs) = none-begin slots vs

  rest-whole : (slots : List ℕ) (vs : List Value) → AreWhole (parts_from place reduce 0 slots vs)
  rest-whole [] vs = tt
  rest-whole (slot ∷ slots) [] = tt
  rest-whole (slot ∷ slots) (v ∷ vs) = (omega arith, rest-whole slots vs)

  rest-slots : (ts : List Target) (vs : List Value) → length ts ≡ length vs → map (λ p. p.slot) (take (length ts) (parts_from place reduce 0 (slots_of ts) vs)) ≡ slots_of ts
  rest-slots [] vs same = refl
  rest-slots (t ∷ ts) [] same = absurd (omega arith)
  rest-slots (t ∷ ts) (v ∷ vs) same = let l : length ts ≡ length vs = omega arith in ap (λ l. t.slot ∷ l) (rest-slots ts vs l)

  rest-values : (ts : List Target) (vs : List Value) → length ts ≡ length vs → map (λ p. p.value) (take (length ts) (parts_from place reduce 0 (slots_of ts) vs)) ≡ vs
  rest-values [] [] same = refl
  rest-values [] (v ∷ vs) same = absurd (omega arith)
  rest-values (t ∷ ts) [] same = absurd (omega arith)
  rest-values (t ∷ ts) (v ∷ vs) same = let l : length ts ≡ length vs = omega arith in ap (λ l. v ∷ l) (rest-values ts vs l)

  rest-length : (ts : List Target) (vs : List Value) → length ts ≡ length vs → length (parts_from place reduce 0 (slots_of ts) vs) ≡ length ts
  rest-length [] vs same = refl
  rest-length (t ∷ ts) [] same = absurd (omega arith)
  rest-length (t ∷ ts) (v ∷ vs) same = let l : length ts ≡ length vs = omega arith in ap suc (rest-length ts vs l)

  from-whole : (ts : List Target) (vs : List Value) → length ts ≡ length vs → AreWhole (parts_from place reduce (length ts) (slots_of ts) vs)
  from-whole [] vs same = tt
  from-whole (t ∷ ts) [] same = tt
  from-whole (t ∷ ts) (v ∷ vs) same =
      let l : length ts ≡ length vs = omega arith in
      (omega (arith, rest-length ts vs l), rest-whole (slots_of ts) vs)

  from-given : (ts : List Target) (vs : List Value) → length ts ≡ length vs → contributions_of (parts_from place reduce (length ts) (slots_of ts) vs) ≡ contributed place reduce (slots_of ts) vs
  from-given [] vs same = refl
  from-given (t ∷ ts) [] same = absurd (omega arith)
  from-given (t ∷ ts) (v ∷ vs) same =
      let l : length ts ≡ length vs = omega arith in
      let rest : List ContributionPart = parts_from place reduce 0 (slots_of ts) vs in
      let made : List ℕ → List Value → List Contribution → List Contribution = λ ss us cs. record { place = place; reduce = reduce; slots = t.slot ∷ ss; values = v ∷ us } ∷ cs in
      ap (made (map (λ p. p.slot) (take (length ts) rest)) (map (λ p. p.value) (take (length ts) rest))) (none-begin (slots_of ts) vs)
      ∙ ap (λ ss. made ss (map (λ p. p.value) (take (length ts) rest)) []) (rest-slots ts vs l)
      ∙ ap (λ us. made (slots_of ts) us []) (rest-values ts vs l)

-- the parts that targets gave stand for what they give
pub parts-given : (w : View) (reduce : Reduce) (place : ℕ) (ts : List Target) (parts : List ContributionPart) → Ok parts ≡ gives_parts w reduce place (length ts) ts →
    AreWhole parts × (gives w reduce place ts ≡ Ok (contributions_of parts))
parts-given w reduce place ts parts is = by (values w (terms_of ts)) refl (values-length w ts) where
  by : (r : Result (List Value) Fault) → values w (terms_of ts) ≡ r → AsLong ts r → AreWhole parts × (gives w reduce place ts ≡ Ok (contributions_of parts))
  by (Ok vs) found long =
      let made : Ok parts ≡ Ok (parts_from place reduce (length ts) (slots_of ts) vs) =
      is ∙ gives-from w reduce place (length ts) ts ∙ ap (λ r. then_go r (λ us. Ok (parts_from place reduce (length ts) (slots_of ts) us))) found in
      let same : parts ≡ parts_from place reduce (length ts) (slots_of ts) vs = cc in (
        subst AreWhole (sym same) (from-whole place reduce ts vs long),
        ap (λ r. then_go r (λ us. Ok (contributed place reduce (slots_of ts) us))) found
            ∙ ap Ok (sym (ap contributions_of same ∙ from-given place reduce ts vs long)),
      )
  by (Err f) found long =
      let made : Ok parts ≡ Err f =
      is ∙ gives-from w reduce place (length ts) ts ∙ ap (λ r. then_go r (λ us. Ok (parts_from place reduce (length ts) (slots_of ts) us))) found in cc

-- a fault of the parts is the fault of what is given
pub parts-faulted : (w : View) (reduce : Reduce) (place : ℕ) (ts : List Target) (f : Fault) → Err f ≡ gives_parts w reduce place (length ts) ts → gives w reduce place ts ≡ Err f
parts-faulted w reduce place ts f is = by (values w (terms_of ts)) refl where
  by : (r : Result (List Value) Fault) → values w (terms_of ts) ≡ r → gives w reduce place ts ≡ Err f
  by (Ok vs) found =
      let made : Err f ≡ Ok (parts_from place reduce (length ts) (slots_of ts) vs) =
      is ∙ gives-from w reduce place (length ts) ts ∙ ap (λ r. then_go r (λ us. Ok (parts_from place reduce (length ts) (slots_of ts) us))) found in cc
  by (Err g) found =
      let made : Err f ≡ Err g =
      is ∙ gives-from w reduce place (length ts) ts ∙ ap (λ r. then_go r (λ us. Ok (parts_from place reduce (length ts) (slots_of ts) us))) found in
      let same : g ≡ f = cc in
      ap (λ r. then_go r (λ us. Ok (contributed place reduce (slots_of ts) us))) found ∙ ap Err same
