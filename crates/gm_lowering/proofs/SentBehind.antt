-- What receivers send comes behind what they reduce to the same properties.
use Rattle.std.proofs.Common.{◌≡◌, ◌<◌, ◌⊎◌, inl, inr, ℕ, Bool, true, false, List, [], ◌∷◌, map, refl, ap, ◌∙◌, sym, subst, ⊎_elim}
use Rattle.std.specs.Prelude.{◌&&◌, ◌||◌, not, nat_eq, nat_lt}
use Rattle.std.specs.List.{list_all}
use Rattle.std.proofs.lemmas.Bool.{both_ways, eqb-true, ltb-true, not-true}
use Rattle.gm_value.specs.Bag.{IsIn}
use Rattle.gm_ast.specs.Ways.{is_in}
use Rattle.gm_forms.specs.Sharing.{targets_alike, are_distinct}
use Rattle.gm_forms.proofs.Named.{both-true}
use Rattle.gm_semantics.specs.declared.slots.Slot.{Slot}
use Rattle.gm_semantics.specs.declared.slots.Slot.TheVariants.{Scalar, Node}
use Rattle.gm_semantics.specs.Contributions.{Contribution, statement_of}
use Rattle.gm_semantics.specs.Laws.{Distinct}
use Rattle.gm_semantics.specs.Stores.{has_slot}
use Rattle.gm_semantics.proofs.ContributionLaws.{has_first}
use Rattle.gm_lowering.specs.Phases.{given_in}
use Rattle.gm_lowering.specs.Made.{Made, made}
use Rattle.gm_lowering.specs.ReceiverSends.{is_part, are_sent_slots, is_sent}
use Rattle.gm_lowering.specs.SentBehind.{stands, made_stands, LoopsSendBehind}
use Rattle.gm_lowering.proofs.Made.{at_node, AreOf, IsMade, made-in, all-of, loops-give-apart}
use Rattle.gm_lowering.proofs.Receiving.{or-cases}

-- a part has its statement
part-found : (out : List (ℕ × ℕ)) (k p : ℕ) → is_part out k p ≡ true → (e : ℕ × ℕ) × IsIn e out × (nat_eq e.0 p ≡ true) × (nat_eq e.1 k ≡ true)
part-found [] k p h = absurd (both_ways false refl h)
part-found (e ∷ out) k p h =
    or-cases (nat_eq e.0 p && nat_eq e.1 k) (is_part out k p) h
    (λ z. let q = both-true (nat_eq e.0 p) (nat_eq e.1 k) z in (e, inl refl, q.0, q.1))
    (λ z. let w = part-found out k p z in (w.0, inr w.1, w.2, w.3))

-- slots of variables are distinct where these are
not-or : (a b : Bool) → a || b ≡ false → (a ≡ false) × (b ≡ false)
not-or true b h = absurd (both_ways true h refl)
not-or false b h = (refl, h)

at-scalars : (x : ℕ) (vs : List ℕ) → is_in vs x ≡ false → has_slot (Scalar x) (map Scalar vs) ≡ false
at-scalars x [] h = refl
at-scalars x (v ∷ vs) h = let q = not-or (nat_eq x v) (is_in vs x) h in ap (λ b. b || has_slot (Scalar x) (map Scalar vs)) q.0 ∙ at-scalars x vs q.1

at-nodes : (j p : ℕ) (vs : List ℕ) → is_in vs p ≡ false → has_slot (Node p j) (map (at_node j) vs) ≡ false
at-nodes j p [] h = refl
at-nodes j p (v ∷ vs) h = let q = not-or (nat_eq p v) (is_in vs p) h in ap (λ b. (b && nat_eq j j) || has_slot (Node p j) (map (at_node j) vs)) q.0 ∙ at-nodes j p vs q.1

scalars-distinct : (vs : List ℕ) → are_distinct vs ≡ true → Distinct (map Scalar vs)
scalars-distinct [] h = tt
scalars-distinct (v ∷ vs) h = let q = both-true (not (is_in vs v)) (are_distinct vs) h in (at-scalars v vs (not-true (is_in vs v) q.0), scalars-distinct vs q.1)

nodes-distinct : (j : ℕ) (vs : List ℕ) → are_distinct vs ≡ true → Distinct (map (at_node j) vs)
nodes-distinct j [] h = tt
nodes-distinct j (v ∷ vs) h = let q = both-true (not (is_in vs v)) (are_distinct vs) h in (at-nodes j v vs (not-true (is_in vs v) q.0), nodes-distinct j vs q.1)

slots-distinct : (ss : List Slot) (vs : List ℕ) → AreOf ss vs → are_distinct vs ≡ true → Distinct ss
slots-distinct ss vs a h =
    ⊎_elim (λ (e : ss ≡ map Scalar vs). subst Distinct (sym e) (scalars-distinct vs h)) (λ (e : (j : ℕ) × (ss ≡ map (at_node j) vs)). subst Distinct (sym e.1) (nodes-distinct e.0 vs h)) a

-- the first of some slots that are properties is the first variable's
first-variable : (p m : ℕ) (rest ss : List Slot) (vs : List ℕ) → AreOf ss vs → ss ≡ Node p m ∷ rest → (t : ℕ → Bool) → list_all t vs ≡ true → t p ≡ true
first-variable p m rest ss vs a e t h = ⊎_elim (λ (f : ss ≡ map Scalar vs). at_scalars vs (sym f ∙ e)) (λ (f : (j : ℕ) × (ss ≡ map (at_node j) vs)). at_properties f.0 vs (sym f.1 ∙ e) h) a where
  number : List Slot → ℕ
  number (Node q n ∷ ss) = q
  number _ = p

  is_node : List Slot → Bool
  is_node (Node q n ∷ ss) = true
  is_node _ = false

  at_scalars : (vs : List ℕ) → map Scalar vs ≡ Node p m ∷ rest → t p ≡ true
  at_scalars [] f = absurd (both_ways false refl (ap is_node f))
  at_scalars (v ∷ vs) f = absurd (both_ways false refl (ap is_node f))

  at_properties : (j : ℕ) (vs : List ℕ) → map (at_node j) vs ≡ Node p m ∷ rest → list_all t vs ≡ true → t p ≡ true
  at_properties j [] f k = absurd (both_ways false refl (ap is_node f))
  at_properties j (v ∷ vs) f k = ap t (sym (ap number f)) ∙ (both-true (t v) (list_all t vs) k).0

pub loops-send-behind : LoopsSendBehind
loops-send-behind ds loop key test body r out depths apart behind = record { later = λ x y i j f g e. by x y i j f g x.slots refl (sym e); distinct = λ x i. distinct x i } where
  ms : List Made
  ms = made ds loop.outer false body

  alike : targets_alike body ≡ true
  alike = (both-true (targets_alike body) _ apart).0

  made-by : (x : Contribution) → IsIn x (given_in loop key test body r) → IsMade ms x
  made-by x i = made-in ds loop key test body r depths alike x i

  standing : (x : Contribution) (i : IsIn x (given_in loop key test body r)) → (are_distinct (made-by x i).by.variables ≡ true) × (list_all (stands out (made-by x i).by.total.key.statement) (made-by x i).by.variables ≡ true)
  standing x i =
      let m = made-by x i in
      both-true (are_distinct m.by.variables) (list_all (stands out m.by.total.key.statement) m.by.variables) (all-of (made_stands out) ms m.by behind m.member)

  distinct : (x : Contribution) → IsIn x (given_in loop key test body r) → Distinct x.slots
  distinct x i = let m = made-by x i in slots-distinct x.slots m.by.variables m.slots (standing x i).0

  by : (x y : Contribution) → IsIn x (given_in loop key test body r) → IsIn y (given_in loop key test body r) → is_sent out x ≡ false → is_sent out y ≡ true → (ss : List Slot) → x.slots ≡ ss → y.slots ≡ x.slots
      → (statement_of x < statement_of y) × (x.reduce ≡ y.reduce)
  by x y i j f g [] e same = absurd (both_ways false refl (sym (ap (are_sent_slots out (statement_of y)) (same ∙ e)) ∙ g))
  by x y i j f g (Scalar z ∷ ss) e same = absurd (both_ways false refl (sym (ap (are_sent_slots out (statement_of y)) (same ∙ e)) ∙ g))
  by x y i j f g (Node p n ∷ ss) e same =
      let m = made-by x i in
      let k = m.by.total.key.statement in
      let number : statement_of x ≡ k = ap (λ t. t.key.statement) m.total in
      let here : is_part out (statement_of x) p ≡ false = sym (ap (are_sent_slots out (statement_of x)) e) ∙ f in
      let there : is_part out (statement_of y) p ≡ true = sym (ap (are_sent_slots out (statement_of y)) (same ∙ e)) ∙ g in
      let w = part-found out (statement_of y) p there in
      let told : stands out k p ≡ true = first-variable p n ss x.slots m.by.variables m.slots e (stands out k) (standing x i).1 in
      let less : nat_lt k w.0.1 ≡ true =
      or-cases (is_part out k p) (list_all (λ e'. not (nat_eq e'.0 p) || nat_lt k e'.1) out) told
      (λ z. absurd (both_ways (is_part out (statement_of x) p) here (ap (λ t. is_part out t p) number ∙ z)))
      (λ z. ap (λ b. not b || nat_lt k w.0.1) (sym w.2) ∙ all-of (λ e'. not (nat_eq e'.0 p) || nat_lt k e'.1) out w.0 z w.1) in
      let has : has_slot (Node p n) x.slots ≡ true = ap (has_slot (Node p n)) e ∙ has_first (Node p n) ss in (
        subst (λ a. a < statement_of y) (sym number) (subst (λ b. k < b) (eqb-true w.0.1 (statement_of y) w.3) (ltb-true k w.0.1 less)),
        ((loops-give-apart ds loop key test body r depths apart).one x y (Node p n) i j has (ap (has_slot (Node p n)) same ∙ has)).0,
      )
