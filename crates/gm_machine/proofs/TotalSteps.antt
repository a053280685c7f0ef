-- Totals of numbers of 64 bits stand for the values that have them.
use Rattle.std.proofs.Common.{◌≡◌, ◌<◌, ◌+◌, ℕ, ℤ, pos, negsuc, true, false, cond, Result, Ok, Err, List, [], ◌∷◌, ◌++◌, map, length, take, get_or, sym, ap, ◌∙◌, arith, ⊎_elim, subst}
use Rattle.std.specs.Prelude.{IsTrue, if◌then◌else◌, nat_eq}
use Rattle.std.proofs.lemmas.Bool.{cases_Bool, both_ways, eq-eqb, ne_eqb}
use Rattle.std.proofs.lemmas.List.{append-nil, map-append, take_more}
use Rattle.std.proofs.lemmas.List.Elements.{filter-append}
use Rattle.gm_value.specs.declared.values.VType.{VType}
use Rattle.gm_value.specs.declared.values.VType.TheVariants.{I32, I64, Flag, Node}
use Rattle.gm_value.specs.declared.values.Value.{Value}
use Rattle.gm_value.specs.declared.faults.FaultKind.{FaultKind}
use Rattle.gm_value.specs.declared.faults.FaultKind.TheVariants.{Overflow}
use Rattle.gm_value.specs.declared.reductions.Reduce.{Reduce}
use Rattle.gm_value.specs.declared.totals.Total.{Total}
use Rattle.gm_value.specs.Numbers.{type_of, number_of, value_at, fits, checked}
use Rattle.gm_value.specs.Reductions.{combined, unit_of, total, close}
use Rattle.gm_value.specs.Taking.{of_rank}
use Rattle.gm_value.specs.Totals.{IsTotal, AddsMember}
use Rattle.gm_value.specs.Laws.{HasUnit}
use Rattle.gm_value.proofs.BagLaws.{SameBag-last}
use Rattle.gm_value.proofs.MonoidLaws.{combined_comm, combined_exchange}
use Rattle.gm_machine.specs.declared.contributions.ContributionPart.{ContributionPart}
use Rattle.gm_machine.specs.Settling.{is_to, to_slot, long_of, longs_of, place_of}

-- each number of a type is one of 64 bits
wide : (t : VType) (z : ℤ) → IsTrue (fits t z) → IsTrue (fits I64 z)
wide I32 (pos n) inside = grind arith
wide I32 (negsuc n) inside = grind arith
wide I64 z inside = inside
wide Flag (pos n) inside = grind arith
wide Flag (negsuc n) inside = grind arith
wide Node (pos n) inside = grind arith
wide Node (negsuc n) inside = grind arith

-- with a number of the type the totals of both types come to the same
total-longs : ((r : Reduce) → HasUnit r) → (r : Reduce) (t : VType) (z : ℤ) → IsTrue (fits t z) → (bag : List Value) →
    combined r z (total r I64 (map long_of bag)) ≡ combined r z (total r t bag)
total-longs units r t z inside [] =
    combined_comm r z (unit_of r I64) ∙ (units r I64).1 z (wide t z inside)
    ∙ sym (combined_comm r z (unit_of r t) ∙ (units r t).1 z inside)
total-longs units r t z inside (v ∷ bag) =
    combined_exchange r z (number_of v) (total r I64 (map long_of bag))
    ∙ ap (combined r (number_of v)) (total-longs units r t z inside bag)
    ∙ combined_exchange r (number_of v) z (total r t bag)

-- an answer of 64 bits as one of a type
abbrev pub narrowed : VType → Result Value FaultKind → Result Value FaultKind
narrowed t (Ok v) = checked t (number_of v)
narrowed t (Err kind) = Err kind

narrowed-checked : (t : VType) (z : ℤ) → narrowed t (checked I64 z) ≡ checked t z
narrowed-checked t z =
    ⊎_elim
    (λ (inside : fits I64 z ≡ true). ap (λ b. narrowed t (if b then Ok (value_at I64 z) else Err Overflow)) inside)
    (λ (outside : fits I64 z ≡ false).
    let out : fits t z ≡ false = ⊎_elim (λ (h : fits t z ≡ true). absurd (both_ways (fits I64 z) outside (wide t z h))) (λ (h : fits t z ≡ false). h) (cases_Bool (fits t z)) in
    ap (λ b. narrowed t (if b then Ok (value_at I64 z) else Err Overflow)) outside ∙ sym (ap (λ b. if b then Ok (value_at t z) else Err Overflow) out))
    (cases_Bool (fits I64 z))

-- a closing may be done with numbers of 64 bits
pub closed-long : ((r : Reduce) → HasUnit r) → (r : Reduce) (held : Value) (bag : List Value) → IsTrue (fits (type_of held) (number_of held)) →
    (answer : Result Value FaultKind) → answer ≡ close r (long_of held) (map long_of bag) → narrowed (type_of held) answer ≡ close r held bag
closed-long units r held bag inside answer is =
    ap (narrowed (type_of held)) (is ∙ ap (checked I64) (total-longs units r (type_of held) (number_of held) inside bag))
    ∙ narrowed-checked (type_of held) (combined r (number_of held) (total r (type_of held) bag))

pub closed-at : ((r : Reduce) → HasUnit r) → (r : Reduce) (held long : Value) (a : Total) (bag : List Value) (answer : Result Value FaultKind) →
    long ≡ long_of held → IsTrue (fits (type_of held) (number_of held)) →
    ((numbers : List Value) → IsTotal r (type_of long) a numbers → answer ≡ close r long numbers) →
    IsTotal r I64 a (map long_of bag) → narrowed (type_of held) answer ≡ close r held bag
closed-at units r held long a bag answer is inside closes held_total =
    let closes_long : (numbers : List Value) → IsTotal r I64 a numbers → answer ≡ close r (long_of held) numbers =
    subst (λ x. (numbers : List Value) → IsTotal r (type_of x) a numbers → answer ≡ close r x numbers) is closes in
    closed-long units r held bag inside answer (closes_long (map long_of bag) held_total)

-- the parts to a slot at a place
abbrev pub members : ℕ → ℕ → List ContributionPart → List ContributionPart
members slot place cs = of_rank place_of place (to_slot slot cs)

-- one part alone
only-member : (slot place : ℕ) (c : ContributionPart) → is_to slot c ≡ true → c.place ≡ place → members slot place (c ∷ []) ≡ c ∷ []
only-member slot place c is at =
    ap (λ b. of_rank place_of place (cond b (c ∷ []) [])) is
    ∙ ap (λ b. cond b (c ∷ []) []) (eq-eqb c.place place at)

no-member : (slot place : ℕ) (c : ContributionPart) → (is_to slot c ≡ true → c.place ≡ place → ⊥) → members slot place (c ∷ []) ≡ []
no-member slot place c not =
    ⊎_elim
    (λ (is : is_to slot c ≡ true).
    ap (λ b. of_rank place_of place (cond b (c ∷ []) [])) is
    ∙ ap (λ b. cond b (c ∷ []) []) (ne_eqb c.place place (not is)))
    (λ (differs : is_to slot c ≡ false). ap (λ b. of_rank place_of place (cond b (c ∷ []) [])) differs)
    (cases_Bool (is_to slot c))

-- the members of a list and then of another
members-append : (slot place : ℕ) (cs ds : List ContributionPart) → members slot place (cs ++ ds) ≡ members slot place cs ++ members slot place ds
members-append slot place cs ds =
    ap (of_rank place_of place) (filter-append (is_to slot) cs ds)
    ∙ filter-append (λ c. nat_eq c.place place) (to_slot slot cs) (to_slot slot ds)

-- the total of one more part
pub total-more : (slot place : ℕ) (r : Reduce) (a new : Total) (b : Value) (cs : List ContributionPart) (i : ℕ) (d : ContributionPart) →
    i < length cs → is_to slot (get_or cs i d) ≡ true → (get_or cs i d).place ≡ place → b ≡ long_of (get_or cs i d).value → AddsMember r a b new →
    IsTotal r I64 a (longs_of (members slot place (take i cs))) → IsTotal r I64 new (longs_of (members slot place (take (i + 1) cs)))
total-more slot place r a new b cs i d within is at long adds held =
    let c : ContributionPart = get_or cs i d in
    let adds_long : AddsMember r a (long_of c.value) new = subst (λ x. AddsMember r a x new) long adds in
    let before : List Value = longs_of (members slot place (take i cs)) in
    let more : members slot place (take (i + 1) cs) ≡ members slot place (take i cs) ++ c ∷ [] =
    ap (members slot place) (take_more cs i d within)
    ∙ members-append slot place (take i cs) (c ∷ [])
    ∙ ap (λ l. members slot place (take i cs) ++ l) (only-member slot place c is at) in
    let longs : longs_of (members slot place (take (i + 1) cs)) ≡ before ++ long_of c.value ∷ [] =
    ap longs_of more
    ∙ ap (map long_of) (map-append (λ d. d.value) (members slot place (take i cs)) (c ∷ []))
    ∙ map-append long_of (map (λ d. d.value) (members slot place (take i cs))) (c.value ∷ []) in
    subst (λ bag. IsTotal r I64 new bag) (sym longs) (adds_long I64 before (before ++ long_of c.value ∷ []) held (SameBag-last before (long_of c.value)))

-- a part to another slot or at another place changes nothing
pub total-same : (slot place : ℕ) (r : Reduce) (a : Total) (cs : List ContributionPart) (i : ℕ) (d : ContributionPart) →
    i < length cs → (is_to slot (get_or cs i d) ≡ true → (get_or cs i d).place ≡ place → ⊥) →
    IsTotal r I64 a (longs_of (members slot place (take i cs))) → IsTotal r I64 a (longs_of (members slot place (take (i + 1) cs)))
total-same slot place r a cs i d within not held =
    let c : ContributionPart = get_or cs i d in
    let same : members slot place (take (i + 1) cs) ≡ members slot place (take i cs) =
    ap (members slot place) (take_more cs i d within)
    ∙ members-append slot place (take i cs) (c ∷ [])
    ∙ ap (λ l. members slot place (take i cs) ++ l) (no-member slot place c not)
    ∙ append-nil (members slot place (take i cs)) in
    subst (λ l. IsTotal r I64 a (longs_of l)) (sym same) held
