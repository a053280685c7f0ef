-- The least fault does not depend on the order of a bag of faults.
use Rattle.std.proofs.Common.{◌≡◌, ℕ, zero, suc, true, false, cond, List, [], ◌∷◌, length, refl, sym, ap, subst, ◌∙◌, arith, Option, Some, None, ⊎_elim, inl, inr}
use Rattle.std.specs.Prelude.{◌⊎◌}
use Rattle.std.proofs.lemmas.Bool.{cases_Bool, both_ways}
use Rattle.std.proofs.lemmas.Bool.Decides.{nat_tests}
use Rattle.gm_value.specs.declared.faults.FaultKind.{FaultKind}
use Rattle.gm_value.specs.declared.faults.FaultKind.TheVariants.{DivideByZero, NilNode, Overflow}
use Rattle.gm_value.specs.Bag.{SameBag}
use Rattle.gm_value.proofs.BagLaws.{SameBag-folded}
use Rattle.gm_value.specs.Faults.{fault_number}
use Rattle.gm_ast.specs.declared.tree.Stage.{Stage}
use Rattle.gm_ast.specs.declared.tree.Stage.TheVariants.{Inner, Operator, Total}
use Rattle.gm_ast.specs.Keys.{stage_rank}
use Rattle.gm_semantics.specs.declared.faults.Fault.{Fault}
use Rattle.gm_semantics.specs.Faults.{rank_of, comes_before, lower, lesser, least}

-- lists of numbers in lexicographic order
before_itself : (xs : List ℕ) → comes_before xs xs ≡ false
before_itself [] = refl
before_itself (x ∷ xs) = let rest = before_itself xs in grind (arith, nat_tests)

before_trans : (xs ys zs : List ℕ) → comes_before xs ys ≡ true → comes_before ys zs ≡ true → comes_before xs zs ≡ true
before_trans [] ys zs h k = absurd (both_ways false refl h)
before_trans (x ∷ xs) [] zs h k = absurd (both_ways false refl h)
before_trans (x ∷ xs) (y ∷ ys) [] h k = absurd (both_ways false refl k)
before_trans (x ∷ xs) (y ∷ ys) (z ∷ zs) h k = let rest = before_trans xs ys zs in grind (arith, nat_tests)

before_tie : (xs ys : List ℕ) → length xs ≡ length ys → comes_before xs ys ≡ false → comes_before ys xs ≡ false → xs ≡ ys
before_tie [] [] e h k = refl
before_tie [] (y ∷ ys) e h k = absurd (omega arith)
before_tie (x ∷ xs) [] e h k = absurd (omega arith)
before_tie (x ∷ xs) (y ∷ ys) e h k = let rest = before_tie xs ys in grind (arith, nat_tests)

-- the kind of a number
kind_of : ℕ → FaultKind
kind_of zero = DivideByZero
kind_of (suc zero) = DivideByZero
kind_of (suc (suc zero)) = NilNode
kind_of (suc (suc (suc n))) = Overflow

kind_of-fault_number : (k : FaultKind) → kind_of (fault_number k) ≡ k
unfolding kind_of
kind_of-fault_number DivideByZero = refl
kind_of-fault_number NilNode = refl
kind_of-fault_number Overflow = refl

-- the stage of a number
stage_of : ℕ → Stage
stage_of zero = Inner
stage_of (suc zero) = Operator
stage_of (suc (suc n)) = Total

stage_of-stage_rank : (s : Stage) → stage_of (stage_rank s) ≡ s
unfolding stage_of
stage_of-stage_rank Inner = refl
stage_of-stage_rank Operator = refl
stage_of-stage_rank Total = refl

-- the fault of a rank
fault_of : List ℕ → Fault → Fault
fault_of (a ∷ (b ∷ (c ∷ (d ∷ (k ∷ (l ∷ (m ∷ []))))))) f = record {
  kind = kind_of k;
  shown = record { line = l; col = m };
  key = record { statement = a; stage = stage_of b };
  place = record { line = c; col = d };
}
fault_of _ f = f

fault_of-rank_of : (f g : Fault) → fault_of (rank_of f) g ≡ f
unfolding fault_of
fault_of-rank_of f g =
    ap (λ k. record { kind = k; shown = f.shown; key = record { statement = f.key.statement; stage = stage_of (stage_rank f.key.stage) }; place = f.place }) (kind_of-fault_number f.kind)
    ∙ ap (λ s. record f { key = record { statement = f.key.statement; stage = s } }) (stage_of-stage_rank f.key.stage)

-- one fault does not come after another
record NotAfter (f g : Fault) : Type 0 where
  is : comes_before (rank_of g) (rank_of f) ≡ false

same_rank : (f g : Fault) → rank_of f ≡ rank_of g → f ≡ g
same_rank f g e = sym (fault_of-rank_of f f) ∙ ap (λ r. fault_of r f) e ∙ fault_of-rank_of g f

NotAfter-tie : (f g : Fault) → NotAfter f g → NotAfter g f → f ≡ g
NotAfter-tie f g h k = same_rank f g (before_tie (rank_of f) (rank_of g) refl k.is h.is)

NotAfter-itself : (f : Fault) → NotAfter f f
NotAfter-itself f = record { is = before_itself (rank_of f) }

NotAfter-trans : (f g h : Fault) → NotAfter f g → NotAfter g h → NotAfter f h
NotAfter-trans f g h p q =
    ⊎_elim
    (λ (hf : comes_before (rank_of h) (rank_of f) ≡ true).
    ⊎_elim
    (λ (fg : comes_before (rank_of f) (rank_of g) ≡ true). absurd (both_ways _ q.is (before_trans (rank_of h) (rank_of f) (rank_of g) hf fg)))
    (λ (fg : comes_before (rank_of f) (rank_of g) ≡ false). subst (λ x. NotAfter x h) (sym (NotAfter-tie f g p (record { is = fg }))) q)
    (cases_Bool (comes_before (rank_of f) (rank_of g))))
    (λ (hf : comes_before (rank_of h) (rank_of f) ≡ false). record { is = hf })
    (cases_Bool (comes_before (rank_of h) (rank_of f)))

pub lower-second : (f g : Fault) → comes_before (rank_of g) (rank_of f) ≡ true → lower f g ≡ g
lower-second f g e = ap (λ b. cond b g f) e

pub lower-first : (f g : Fault) → comes_before (rank_of g) (rank_of f) ≡ false → lower f g ≡ f
lower-first f g e = ap (λ b. cond b g f) e

lower_is : (f g : Fault) → (lower f g ≡ f) ⊎ (lower f g ≡ g)
lower_is f g =
    ⊎_elim (λ (e : comes_before (rank_of g) (rank_of f) ≡ true). inr (lower-second f g e)) (λ (e : comes_before (rank_of g) (rank_of f) ≡ false). inl (lower-first f g e)) (cases_Bool (comes_before (rank_of g) (rank_of f)))

lower_left : (f g : Fault) → NotAfter (lower f g) f
lower_left f g =
    ⊎_elim
    (λ (e : comes_before (rank_of g) (rank_of f) ≡ true).
    let no_way : comes_before (rank_of f) (rank_of g) ≡ false =
    ⊎_elim (λ (k : comes_before (rank_of f) (rank_of g) ≡ true). absurd (both_ways _ (before_itself (rank_of g)) (before_trans (rank_of g) (rank_of f) (rank_of g) e k))) (λ (k : comes_before (rank_of f) (rank_of g) ≡ false). k) (cases_Bool (comes_before (rank_of f) (rank_of g))) in
    subst (λ x. NotAfter x f) (sym (lower-second f g e)) (record { is = no_way }))
    (λ (e : comes_before (rank_of g) (rank_of f) ≡ false). subst (λ x. NotAfter x f) (sym (lower-first f g e)) (NotAfter-itself f))
    (cases_Bool (comes_before (rank_of g) (rank_of f)))

lower_right : (f g : Fault) → NotAfter (lower f g) g
lower_right f g =
    ⊎_elim
    (λ (e : comes_before (rank_of g) (rank_of f) ≡ true). subst (λ x. NotAfter x g) (sym (lower-second f g e)) (NotAfter-itself g))
    (λ (e : comes_before (rank_of g) (rank_of f) ≡ false). subst (λ x. NotAfter x g) (sym (lower-first f g e)) (record { is = e }))
    (cases_Bool (comes_before (rank_of g) (rank_of f)))

-- what comes after neither comes not after the lower
lower_both : (x f g : Fault) → NotAfter x f → NotAfter x g → NotAfter x (lower f g)
lower_both x f g p q = ⊎_elim (λ (e : lower f g ≡ f). subst (NotAfter x) (sym e) p) (λ (e : lower f g ≡ g). subst (NotAfter x) (sym e) q) (lower_is f g)

lower_half : (f g h : Fault) → NotAfter (lower f (lower g h)) (lower g (lower f h))
lower_half f g h =
    let p = lower f (lower g h) in
    let under_f = lower_left f (lower g h) in
    let under_gh = lower_right f (lower g h) in
    let under_g = NotAfter-trans p (lower g h) g under_gh (lower_left g h) in
    let under_h = NotAfter-trans p (lower g h) h under_gh (lower_right g h) in
    lower_both p g (lower f h) under_g (lower_both p f h under_f under_h)

pub lower-exchange : (f g h : Fault) → lower f (lower g h) ≡ lower g (lower f h)
lower-exchange f g h = NotAfter-tie _ _ (lower_half f g h) (lower_half g f h)

pub lower_comm : (f g : Fault) → lower f g ≡ lower g f
lower_comm f g = NotAfter-tie _ _ (lower_both (lower f g) g f (lower_right f g) (lower_left f g)) (lower_both (lower g f) f g (lower_right g f) (lower_left g f))

pub lesser-exchange : (f g : Fault) (o : Option Fault) → lesser f (lesser g o) ≡ lesser g (lesser f o)
lesser-exchange f g None = ap Some (lower_comm f g)
lesser-exchange f g (Some h) = ap Some (lower-exchange f g h)

pub least-same : {fs gs : List Fault} → SameBag fs gs → least fs ≡ least gs
least-same same = SameBag-folded least lesser (λ f fs. refl) lesser-exchange same
