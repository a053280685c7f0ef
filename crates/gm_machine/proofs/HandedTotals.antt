-- Messages that have a total.
use Rattle.std.proofs.Common.{inl, inr, ◌<◌, ◌^◌, unsigned_abs, ◌≡◌, ℕ, ℤ, ◌+ℤ◌, ◌-ℤ◌, ◌*ℤ◌, cond, nat_eq, Option, Some, None, List, [], ◌∷◌, ◌++◌, map, refl, sym, ap, subst, ◌∙◌, append_assoc, arith, ⊎_elim}
use Rattle.std.specs.Prelude.{IsTrue}
use Rattle.std.proofs.lemmas.Bool.{cases_eq, eq-eqb, ne_eqb}
use Rattle.std.proofs.lemmas.Int.{ints}
use Rattle.std.proofs.lemmas.List.{append-nil, map-append}
use Rattle.std.proofs.lemmas.List.Elements.{filter-append}
use Rattle.gm_value.specs.declared.reductions.Reduce.{Reduce}
use Rattle.gm_value.specs.declared.reductions.Reduce.TheVariants.{Sum, Product, Min, Max, And, Or}
use Rattle.gm_value.specs.declared.totals.Total.{Total}
use Rattle.gm_value.specs.declared.totals.Total.TheVariants.{Small}
use Rattle.gm_value.specs.declared.values.Value.{Value}
use Rattle.gm_value.specs.declared.values.Value.TheVariants.{I64}
use Rattle.gm_value.specs.Numbers.{number_of}
use Rattle.gm_value.specs.Totals.{Shows}
use Rattle.gm_image.specs.Program.{Program}
use Rattle.gm_image.specs.Soundness.{is_sound}
use Rattle.gm_machine.specs.Combining.{combiner, carried, of_kind, more_exact, exact_of, SameTotal, SameKind, SameInboxes}
use Rattle.gm_machine.specs.HandedTotals.{each_to, AddsTotal, AddsSome, AreOfKind}
use Rattle.gm_machine.specs.Laws.{SameStep}
use Rattle.gm_machine.specs.Machine.{block_at}
use Rattle.gm_machine.specs.Vertex.{Message, VertexContext, vertex_after}
use Rattle.gm_machine.proofs.BagLemmas.{same_as}
use Rattle.gm_machine.proofs.CombiningLemmas.{exact-append, vertex-combined}
use Rattle.gm_machine.proofs.SameTotals.{joined, joined-alike, totals-as}

-- messages were added so far, and with any whose sum is what is left they have a sum
pub record SumsTo (old : List Message) (to kind : ℕ) (sum left : ℤ) (now : List Message) : Type 0 where
  pub values : List Value
  pub behind : now ≡ old ++ each_to to kind values
  pub with_rest : (rest : List Value) → exact_of Sum rest ≡ Some left → exact_of Sum (values ++ rest) ≡ Some sum

pub sums-none : (old : List Message) (to kind : ℕ) (sum : ℤ) → SumsTo old to kind sum sum old
sums-none old to kind sum = record { values = []; behind = sym (append-nil old); with_rest = λ rest is. is }

behind-more : (old now new : List Message) (to kind : ℕ) (values : List Value) (v : Value) → now ≡ old ++ each_to to kind values → new ≡ now ++ each_to to kind (v ∷ []) → new ≡ old ++ each_to to kind (values ++ v ∷ [])
behind-more old now new to kind values v now_is new_is =
    new_is
    ∙ ap (λ ms. ms ++ each_to to kind (v ∷ [])) now_is
    ∙ append_assoc old (each_to to kind values) (each_to to kind (v ∷ []))
    ∙ ap (λ ms. old ++ ms) (sym (map-append (λ u. record { to = to; kind = kind; values = u ∷ [] }) values (v ∷ [])))

pub sums-more : (old now new : List Message) (to kind : ℕ) (sum left next rest : ℤ) → new ≡ now ++ each_to to kind (I64 next ∷ []) → rest ≡ left -ℤ next → SumsTo old to kind sum left now → SumsTo old to kind sum rest new
sums-more old now new to kind sum left next rest new_is rest_is so_far = record {
  values = so_far.values ++ I64 next ∷ [];
  behind = behind-more old now new to kind so_far.values (I64 next) so_far.behind new_is;
  with_rest = λ others is.
      ap (exact_of Sum) (append_assoc so_far.values (I64 next ∷ []) others)
      ∙ so_far.with_rest (I64 next ∷ others) (ap (λ o. Some (more_exact Sum next o)) is ∙ ap Some (let whole : next +ℤ rest ≡ left = omega (arith, ints, rest_is) in whole));
}

pub sums-all : (old now new : List Message) (to kind : ℕ) (sum whole left next : ℤ) → new ≡ now ++ each_to to kind (I64 next ∷ []) → next ≡ left → sum ≡ whole → SumsTo old to kind sum left now → AddsTotal old to kind Sum whole new
sums-all old now new to kind sum whole left next new_is last whole_is so_far = record {
  values = so_far.values ++ I64 next ∷ [];
  behind = behind-more old now new to kind so_far.values (I64 next) so_far.behind new_is;
  total = inl (so_far.with_rest (I64 next ∷ []) (ap Some last) ∙ ap Some whole_is);
}

pub sums-some : (old now new : List Message) (to kind : ℕ) (sum left : ℤ) → new ≡ now → SumsTo old to kind sum left now → AddsSome old to kind new
sums-some old now new to kind sum left same so_far = record { values = so_far.values; behind = same ∙ so_far.behind }

-- a value that shows a number
shown : (r : Reduce) (v : Value) (exact : ℤ) → Shows r (Small v) exact → number_of v ≡ exact
shown Sum v exact no_way = absurd no_way
shown Product v exact no_way = absurd no_way
shown Min v exact is = is
shown Max v exact is = is
shown And v exact is = is
shown Or v exact is = is

pub small-total : (old new : List Message) (to kind : ℕ) (r : Reduce) (v : Value) (total : Total) (exact : ℤ) → new ≡ old ++ record { to = to; kind = kind; values = v ∷ [] } ∷ [] → total ≡ Small v → Shows r total exact → AddsTotal old to kind r exact new
small-total old new to kind r v total exact new_is total_is shows = record {
  values = v ∷ [];
  behind = new_is;
  total = inl (ap Some (shown r v exact (subst (λ t. Shows r t exact) total_is shows)));
}

-- one number, and two
pub one-product : (old new : List Message) (to kind : ℕ) (number product : ℤ) → new ≡ old ++ each_to to kind (I64 number ∷ []) → number ≡ product → AddsTotal old to kind Product product new
one-product old new to kind number product new_is is = record { values = I64 number ∷ []; behind = new_is; total = inl (ap Some is) }

pub two-product : (old new : List Message) (to kind : ℕ) (first second product : ℤ) → new ≡ old ++ each_to to kind (I64 first ∷ I64 second ∷ []) → first *ℤ second ≡ product → AddsTotal old to kind Product product new
two-product old new to kind first second product new_is is = record { values = I64 first ∷ I64 second ∷ []; behind = new_is; total = inl (ap Some is) }

-- two whose product is far, as another is
pub two-far : (old new : List Message) (to kind : ℕ) (first second product : ℤ) → new ≡ old ++ each_to to kind (I64 first ∷ I64 second ∷ []) → 2 ^ 63 < unsigned_abs (first *ℤ second) → 2 ^ 63 < unsigned_abs product →
    AddsTotal old to kind Product product new
two-far old new to kind first second product new_is one other = record { values = I64 first ∷ I64 second ∷ []; behind = new_is; total = inr (one, other) }

pub two-added : (old mid new : List Message) (to kind : ℕ) (first second one other : ℤ) → mid ≡ old ++ each_to to kind (I64 one ∷ []) → new ≡ mid ++ each_to to kind (I64 other ∷ []) → one ≡ first → other ≡ second →
    new ≡ old ++ each_to to kind (I64 first ∷ I64 second ∷ [])
two-added old mid new to kind first second one other mid_is new_is one_is other_is =
    behind-more old mid new to kind (I64 one ∷ []) (I64 other) mid_is new_is
    ∙ ap (λ n. old ++ each_to to kind (I64 n ∷ I64 other ∷ [])) one_is
    ∙ ap (λ n. old ++ each_to to kind (I64 first ∷ I64 n ∷ [])) other_is

pub some-of-two : (old mid new : List Message) (to kind : ℕ) (first : ℤ) → mid ≡ old ++ each_to to kind (I64 first ∷ []) → new ≡ mid → AddsSome old to kind new
some-of-two old mid new to kind first mid_is new_is = record { values = I64 first ∷ []; behind = new_is ∙ mid_is }

-- messages of a kind are left as they are, and others fall away
each-of : (to k : ℕ) (values : List Value) → of_kind k (each_to to k values) ≡ each_to to k values
each-of to k [] = refl
each-of to k (v ∷ values) =
    let m : Message = record { to = to; kind = k; values = v ∷ [] } in
    ap (λ b. cond b (m ∷ of_kind k (each_to to k values)) (of_kind k (each_to to k values))) (eq-eqb k k refl) ∙ ap (λ ms. m ∷ ms) (each-of to k values)

carried-each : (to k : ℕ) (values : List Value) → map carried (each_to to k values) ≡ values
carried-each to k [] = refl
carried-each to k (v ∷ values) = ap (λ vs. v ∷ vs) (carried-each to k values)

none-of : (j k : ℕ) → (j ≡ k → ⊥) → (ms : List Message) → of_kind j (of_kind k ms) ≡ []
none-of j k differs [] = refl
none-of j k differs (m ∷ ms) =
    ⊎_elim
    (λ (here : m.kind ≡ k).
    let away : m.kind ≡ j → ⊥ = λ e. differs (sym e ∙ here) in
    ap (λ b. of_kind j (cond b (m ∷ of_kind k ms) (of_kind k ms))) (eq-eqb m.kind k here)
    ∙ ap (λ b. cond b (m ∷ of_kind j (of_kind k ms)) (of_kind j (of_kind k ms))) (ne_eqb m.kind j away)
    ∙ none-of j k differs ms)
    (λ (other : m.kind ≡ k → ⊥).
    ap (λ b. of_kind j (cond b (m ∷ of_kind k ms) (of_kind k ms))) (ne_eqb m.kind k other) ∙ none-of j k differs ms)
    (cases_eq m.kind k)

alone : (j k : ℕ) → (j ≡ k → ⊥) → (inbox some : List Message) → AreOfKind k some → of_kind j (inbox ++ some) ≡ of_kind j inbox
alone j k differs inbox some are =
    filter-append (λ m. nat_eq m.kind j) inbox some
    ∙ ap (λ l. of_kind j inbox ++ l) (ap (of_kind j) (sym are) ∙ none-of j k differs some)
    ∙ append-nil (of_kind j inbox)

same-kind : (o : Option Reduce) (some other : List Message) → some ≡ other → SameKind o some other
same-kind None some other same = same_as same
same-kind (Some r) some other same = inl (ap (λ ms. exact_of r (map carried ms)) same)

exact-with : (r : Reduce) (k : ℕ) (inbox some : List Message) → AreOfKind k some → exact_of r (map carried (of_kind k (inbox ++ some))) ≡ joined r (exact_of r (map carried (of_kind k inbox))) (exact_of r (map carried some))
exact-with r k inbox some are =
    ap (λ ms. exact_of r (map carried ms)) (filter-append (λ m. nat_eq m.kind k) inbox some ∙ ap (λ l. of_kind k inbox ++ l) are)
    ∙ ap (exact_of r) (map-append carried (of_kind k inbox) some)
    ∙ exact-append r (map carried (of_kind k inbox)) (map carried some)

-- what is left out may be handed in by others that have its total
pub step-handed : (p : Program) (q : ℕ) (s : VertexContext) (inbox left_out : List Message) (fields : List Value) (to kind : ℕ) (r : Reduce) (values : List Value) →
    IsTrue (is_sound p) → combiner p kind ≡ Some r → AreOfKind kind left_out → SameTotal r (exact_of r values) (exact_of r (map carried left_out)) →
    SameStep (vertex_after p (block_at p q) s (inbox ++ each_to to kind values) fields) (vertex_after p (block_at p q) s (inbox ++ left_out) fields)
step-handed p q s inbox left_out fields to kind r values sound has are same = vertex-combined p q s (inbox ++ handed) (inbox ++ left_out) fields sound alike where
  handed : List Message
  handed = each_to to kind values

  there : Option ℤ
  there = exact_of r (map carried (of_kind kind inbox))

  own : SameKind (combiner p kind) (of_kind kind (inbox ++ handed)) (of_kind kind (inbox ++ left_out))
  own =
      subst (λ o. SameKind o (of_kind kind (inbox ++ handed)) (of_kind kind (inbox ++ left_out))) (sym has)
      (totals-as r r (exact_of r (map carried (of_kind kind (inbox ++ handed)))) (exact_of r (map carried (of_kind kind (inbox ++ left_out)))) (joined r there (exact_of r values)) (joined r there (exact_of r (map carried left_out))) refl
      (exact-with r kind inbox handed (each-of to kind values) ∙ ap (λ vs. joined r there (exact_of r vs)) (carried-each to kind values))
      (exact-with r kind inbox left_out are)
      (joined-alike r there there (exact_of r values) (exact_of r (map carried left_out)) (inl refl) same))

  alike : SameInboxes p (inbox ++ handed) (inbox ++ left_out)
  alike j =
      ⊎_elim
      (λ (here : j ≡ kind). subst (λ n. SameKind (combiner p n) (of_kind n (inbox ++ handed)) (of_kind n (inbox ++ left_out))) (sym here) own)
      (λ (other : j ≡ kind → ⊥).
      same-kind (combiner p j) (of_kind j (inbox ++ handed)) (of_kind j (inbox ++ left_out))
      (alone j kind other inbox handed (each-of to kind values) ∙ sym (alone j kind other inbox left_out are)))
      (cases_eq j kind)
