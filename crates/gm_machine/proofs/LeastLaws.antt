-- The least fault does not depend on an order.
use Rattle.std.proofs.Common.{◌≡◌, ◌<◌, ◌≤◌, ◌+◌, ◌*◌, ℕ, false, cond, ◌&&◌, ◌||◌, nat_eq, nat_lt, Option, Some, None, List, [], ◌∷◌, inl, inr, refl, sym, ap, ◌∙◌, arith, ⊎_elim}
use Rattle.std.proofs.lemmas.Bool.{cases_order, cases_lt, eq-eqb, ne_eqb, lt-ltb, le-ltb}
use Rattle.gm_value.specs.declared.faults.FaultKind.{FaultKind}
use Rattle.gm_value.specs.declared.faults.FaultKind.TheVariants.{DivideByZero, NilNode, Overflow}
use Rattle.gm_value.specs.Faults.{fault_number}
use Rattle.gm_value.specs.Bag.{SameBag}
use Rattle.gm_value.proofs.BagLaws.{SameBag-folded}
use Rattle.gm_machine.specs.declared.faults.Fault.{Fault}
use Rattle.gm_machine.specs.Faults.{is_earlier, lesser, least_from}

-- a number that orders faults as they are ordered
abbrev key_of : ℕ → ℕ → ℕ
key_of place number = place * 4 + number

abbrev key : Fault → ℕ
key f = key_of f.place (fault_number f.kind)

small : (kind : FaultKind) → fault_number kind < 4
small DivideByZero = omega arith
small NilNode = omega arith
small Overflow = omega arith

by_key : (p q m n : ℕ) → m < 4 → n < 4 → nat_lt p q || (nat_eq p q && nat_lt m n) ≡ nat_lt (key_of p m) (key_of q n)
by_key p q m n a b =
    elim (cases_order p q) [
      | inl is ↦ (
          let no : nat_lt p q ≡ false = le-ltb p q (omega arith) in
          ap (λ x. x || (nat_eq p q && nat_lt m n)) no ∙ ap (λ x. x && nat_lt m n) (eq-eqb p q is)
          ∙ ⊎_elim
          (λ (l : m < n). lt-ltb m n l ∙ sym (lt-ltb (key_of p m) (key_of q n) (omega arith)))
          (λ (l : n ≤ m). le-ltb m n l ∙ sym (le-ltb (key_of p m) (key_of q n) (omega arith)))
          (cases_lt m n))
      | inr (inl up) ↦ ap (λ x. x || (nat_eq p q && nat_lt m n)) (lt-ltb p q up) ∙ sym (lt-ltb (key_of p m) (key_of q n) (omega arith))
      | inr (inr down) ↦ (
          let no : nat_lt p q ≡ false = le-ltb p q (omega arith) in
          ap (λ x. x || (nat_eq p q && nat_lt m n)) no ∙ ap (λ x. x && nat_lt m n) (ne_eqb p q (λ e. omega arith))
          ∙ sym (le-ltb (key_of p m) (key_of q n) (omega arith)))
    ]

earlier-key : (f g : Fault) → is_earlier f g ≡ nat_lt (key f) (key g)
earlier-key f g = by_key f.place g.place (fault_number f.kind) (fault_number g.kind) (small f.kind) (small g.kind)

-- the second is the lesser, or the first is
picks-second : (f g : Fault) → key g < key f → lesser (Some f) (Some g) ≡ Some g
picks-second f g l = ap (λ b. cond b (Some g) (Some f)) (earlier-key g f ∙ lt-ltb (key g) (key f) l)

picks-first : (f g : Fault) → key f ≤ key g → lesser (Some f) (Some g) ≡ Some f
picks-first f g l = ap (λ b. cond b (Some g) (Some f)) (earlier-key g f ∙ le-ltb (key g) (key f) l)

same_kind : (a b : FaultKind) → fault_number a ≡ fault_number b → a ≡ b
same_kind DivideByZero DivideByZero e = refl
same_kind DivideByZero NilNode e = absurd (omega arith)
same_kind DivideByZero Overflow e = absurd (omega arith)
same_kind NilNode DivideByZero e = absurd (omega arith)
same_kind NilNode NilNode e = refl
same_kind NilNode Overflow e = absurd (omega arith)
same_kind Overflow DivideByZero e = absurd (omega arith)
same_kind Overflow NilNode e = absurd (omega arith)
same_kind Overflow Overflow e = refl

same_fault : (f g : Fault) → key f ≡ key g → f ≡ g
same_fault f g e =
    let a : fault_number f.kind < 4 = small f.kind in
    let b : fault_number g.kind < 4 = small g.kind in
    let places : f.place ≡ g.place = omega arith in
    let numbers : fault_number f.kind ≡ fault_number g.kind = omega arith in
    let made : ℕ → FaultKind → Fault = λ p k. record { place = p; kind = k } in
    ap (λ p. made p f.kind) places ∙ ap (made g.place) (same_kind f.kind g.kind numbers)

pub lesser-comm : (f g : Option Fault) → lesser f g ≡ lesser g f
lesser-comm None None = refl
lesser-comm None (Some g) = refl
lesser-comm (Some f) None = refl
lesser-comm (Some f) (Some g) =
    elim (cases_order (key f) (key g)) [
      | inl is ↦ picks-first f g (omega arith) ∙ ap Some (same_fault f g is) ∙ sym (picks-first g f (omega arith))
      | inr (inl up) ↦ picks-first f g (omega arith) ∙ sym (picks-second g f up)
      | inr (inr down) ↦ picks-second f g down ∙ sym (picks-first g f (omega arith))
    ]

pub lesser-assoc : (f g h : Option Fault) → lesser (lesser f g) h ≡ lesser f (lesser g h)
lesser-assoc None g h = refl
lesser-assoc (Some f) None h = refl
lesser-assoc (Some f) (Some g) None = ⊎_elim
    (λ (l : key g < key f). ap (λ o. lesser o None) (picks-second f g l) ∙ sym (picks-second f g l))
    (λ (l : key f ≤ key g). ap (λ o. lesser o None) (picks-first f g l) ∙ sym (picks-first f g l))
    (cases_lt (key g) (key f))
lesser-assoc (Some f) (Some g) (Some h) = ⊎_elim
    (λ (l : key g < key f). ap (λ o. lesser o (Some h)) (picks-second f g l) ∙ ⊎_elim
    (λ (m : key h < key g). picks-second g h m ∙ sym (ap (lesser (Some f)) (picks-second g h m) ∙ picks-second f h (omega arith)))
    (λ (m : key g ≤ key h). picks-first g h m ∙ sym (ap (lesser (Some f)) (picks-first g h m) ∙ picks-second f g l))
    (cases_lt (key h) (key g)))
    (λ (l : key f ≤ key g). ap (λ o. lesser o (Some h)) (picks-first f g l) ∙ ⊎_elim
    (λ (m : key h < key g). sym (ap (lesser (Some f)) (picks-second g h m)))
    (λ (m : key g ≤ key h). picks-first f h (omega arith) ∙ sym (ap (lesser (Some f)) (picks-first g h m) ∙ picks-first f g l))
    (cases_lt (key h) (key g)))
    (cases_lt (key g) (key f))

-- the least as it comes from the end
abbrev pub least_right : List (Option Fault) → Option Fault
least_right [] = None
least_right (g ∷ gs) = lesser g (least_right gs)

pub lesser-none : (f : Option Fault) → lesser f None ≡ f
lesser-none None = refl
lesser-none (Some f) = refl

pub least_from-right : (f : Option Fault) (gs : List (Option Fault)) → least_from f gs ≡ lesser f (least_right gs)
least_from-right f [] = sym (lesser-none f)
least_from-right f (g ∷ gs) = least_from-right (lesser f g) gs ∙ lesser-assoc f g (least_right gs)

lesser-exchange : (f g h : Option Fault) → lesser f (lesser g h) ≡ lesser g (lesser f h)
lesser-exchange f g h = sym (lesser-assoc f g h) ∙ ap (λ o. lesser o h) (lesser-comm f g) ∙ lesser-assoc g f h

-- the least fault does not depend on the order
pub least-permuted : {fs gs : List (Option Fault)} → SameBag fs gs → least_from None fs ≡ least_from None gs
least-permuted {fs} {gs} same =
    least_from-right None fs ∙ SameBag-folded least_right lesser (λ f rest. refl) lesser-exchange same ∙ sym (least_from-right None gs)
