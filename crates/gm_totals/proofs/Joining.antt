-- An entry with one more contribution.
use Rattle.std.proofs.Common.{◌≡◌, ◌≢◌, ℕ, suc, ◌<◌, arith, ℤ, Bool, true, false, cond, List, [], ◌∷◌, ◌++◌, length, get_or, map, refl, sym, ap, subst, ◌∙◌, Option, Some, None, Result, Ok, Err}
use Rattle.std.specs.Prelude.{IsTrue}
use Rattle.std.specs.declared.alloc.Global.{Global}
use Rattle.std.specs.declared.vec.Vec.{Vec}
use Rattle.std.proofs.lemmas.List.{map-append}
use Rattle.gm_value.specs.declared.values.Value.{Value}
use Rattle.gm_value.specs.declared.faults.FaultKind.{FaultKind}
use Rattle.gm_value.specs.declared.reductions.Reduce.{Reduce}
use Rattle.gm_value.specs.declared.totals.Total.{Total}
use Rattle.gm_value.specs.Numbers.{number_of, type_of, fits, checked}
use Rattle.gm_value.specs.Reductions.{combined, total, close, unit_of}
use Rattle.gm_value.specs.Totals.{Shows, ShowsMore}
use Rattle.gm_value.specs.Tuples.{replaces, kept, with_value, values_at, first_or, close_slots}
use Rattle.gm_value.specs.Laws.{HasUnit}
use Rattle.gm_value.proofs.BagLaws.{SameBag-map, SameBag-last}
use Rattle.gm_value.proofs.MonoidLaws.{combined_comm, combined_exchange, total-permuted}
use Rattle.gm_value.proofs.TupleLaws.{best-permuted, kept-parts}
use Rattle.gm_ast.specs.declared.tree.TotalKey.{TotalKey}
use Rattle.gm_semantics.specs.Contributions.{Contribution, statement_of, close_by}
use Rattle.gm_semantics.specs.Faults.{least, lower, lesser, total_fault}
use Rattle.gm_semantics.proofs.LeastLaws.{least-same, lower_comm}
use Rattle.gm_totals.specs.declared.entries.Accumulator.TheVariants.{One, Several}
use Rattle.gm_totals.specs.declared.entries.Entry.{Entry}
use Rattle.gm_totals.specs.Pots.{values_of, CountsAs, CountsAlone, KeptAs, Counts, CountsMore, TotalStands, Joins}

-- the least fault with one more contribution of a statement
fault-more : (c : Contribution) (key new : TotalKey) (bag : List Contribution) → total_fault new ≡ lower (total_fault key) (total_fault c.total)
    → least (map (λ (x : Contribution). total_fault x.total) bag) ≡ Some (total_fault key) → least (map (λ (x : Contribution). total_fault x.total) (bag ++ c ∷ [])) ≡ Some (total_fault new)
fault-more c key new bag low is =
    least-same (SameBag-map (λ (x : Contribution). total_fault x.total) (SameBag-last bag c))
    ∙ ap (lesser (total_fault c.total)) is ∙ ap Some (lower_comm (total_fault c.total) (total_fault key) ∙ sym low)

-- an entry of one contribution
pub joins-first : (several : Bool) (r : Reduce) (c : Contribution) (e : Entry) → e.statement ≡ statement_of c → e.key ≡ c.total → Counts several r e.accumulator (c.values ∷ []) → Joins several r None c e
joins-first several r c e same key counts = (same, λ bag none. subst (λ (b : List Contribution). TotalStands several r e (b ++ c ∷ [])) (sym none) one)
  where
    one : TotalStands several r e (c ∷ [])
    one = record { counts = counts; fault = ap (λ (k : TotalKey). Some (total_fault k)) (sym key) }

-- an entry with one more contribution of its statement
pub joins-next : (several : Bool) (r : Reduce) (c : Contribution) (old new : Entry) → new.statement ≡ statement_of c → total_fault new.key ≡ lower (total_fault old.key) (total_fault c.total)
    → CountsMore r old.accumulator c.values new.accumulator → Joins several r (Some old) c new
joins-next several r c old new same low counts = (
  same,
  λ bag is. record {
    counts = subst (Counts several r new.accumulator) (sym (map-append (λ (x : Contribution). x.values) bag (c ∷ []))) (counts several (values_of bag) is.counts);
    fault = fault-more c old.key new.key bag low is.fault;
  },
)

module _ (r : Reduce) (values : List Value) (v : Value) (first : (other : Value) → first_or other values ≡ v) where
  -- one value's number counts as the total of that value
  counts-one : HasUnit r → CountsAs r (number_of v) (values ∷ [])
  counts-one unit held inside =
      let h = number_of held in
      let n = number_of v in
      let u = unit_of r (type_of held) in
      ap (λ (x : Value). combined r h (combined r (number_of x) u)) (first held)
      ∙ combined_exchange r h n u ∙ ap (combined r n) (combined_comm r h u ∙ (unit (type_of held)).1 h inside) ∙ combined_comm r n h

  -- a number with one more counts as the bag with one more
  counts-more : (number : ℤ) (bag : List (List Value)) → CountsAs r number bag → CountsAs r (combined r (number_of v) number) (bag ++ values ∷ [])
  counts-more number bag counts held inside =
      let h = number_of held in
      let n = number_of v in
      let rest = total r (type_of held) (map (first_or held) bag) in
      ap (combined r h) (total-permuted r (type_of held) (SameBag-map (first_or held) (SameBag-last bag values)))
      ∙ ap (λ (x : Value). combined r h (combined r (number_of x) rest)) (first held)
      ∙ combined_exchange r h n rest ∙ ap (combined r n) (counts held inside) ∙ combined_exchange r n h number

  -- the total of one value
  pub one-first : (shown unit : Total) → HasUnit r → IsTrue (fits (type_of v) (number_of v)) → Shows r unit (unit_of r (type_of v)) → ShowsMore r unit (number_of v) shown → CountsAlone r shown (values ∷ [])
  one-first shown unit units inside shows more = record {
    number = number_of v;
    shows = subst (Shows r shown) (combined_comm r (number_of v) (unit_of r (type_of v)) ∙ (units (type_of v)).1 (number_of v) inside) (more (unit_of r (type_of v)) shows);
    counts = counts-one units;
  }

  -- a total with one more value
  pub one-more : (old new : Total) → ShowsMore r old (number_of v) new → CountsMore r (One old) values (One new)
  one-more old new more true bag is = is
  one-more old new more false bag is = record { number = combined r (number_of v) is.number; shows = more is.number is.shows; counts = counts-more is.number bag is.counts }

-- the tuple of one contribution
pub several-first : (r : Reduce) (values tuple : List Value) → tuple ≡ values → KeptAs r (map number_of tuple) (map number_of values ∷ [])
several-first r values tuple is = subst (λ (vs : List Value). KeptAs r (map number_of vs) (map number_of values ∷ [])) (sym is) (λ held. refl)

-- the tuple that is kept with one more
kept-more : (r : Reduce) (values : List Value) (tuple : List ℤ) (bag : List (List Value)) → KeptAs r tuple (map (map number_of) bag)
    → KeptAs r (kept r tuple (map number_of values)) (map (map number_of) (bag ++ values ∷ []))
kept-more r values tuple bag is held =
    best-permuted r held (SameBag-map (map number_of) (SameBag-last bag values))
    ∙ ap (λ (b : List ℤ). kept r b (map number_of values)) (is held) ∙ kept-parts r held tuple (map number_of values)

pub several-more : (r : Reduce) (values : List Value) (old new : Vec Value Global) → map number_of new.items ≡ kept r (map number_of old.items) (map number_of values)
    → CountsMore r (Several old) values (Several new)
several-more r values old new tuple true bag is = subst (λ (t : List ℤ). KeptAs r t (map (map number_of) (bag ++ values ∷ []))) (sym tuple) (kept-more r values (map number_of old.items) bag is)
several-more r values old new tuple false bag is = is

-- what a total closes to is what its contributions close to
pub closes-one : (r : Reduce) (shown : Total) (held : Value) (answer : Result Value FaultKind) → IsTrue (fits (type_of held) (number_of held))
    → ((exact : ℤ) → Shows r shown exact → answer ≡ checked (type_of held) (combined r (number_of held) exact))
    → (bag : List Contribution) → CountsAlone r shown (values_of bag) → with_value answer (Some []) ≡ close_by r (held ∷ []) bag
closes-one r shown held answer inside exact bag is =
    ap (λ (a : Result Value FaultKind). with_value a (Some [])) (exact is.number is.shows ∙ ap (checked (type_of held)) (sym (is.counts held inside)))

-- what a tuple closes to
pub closes-several : (r : Reduce) (tuple held : List Value) → length held ≢ 1 → (bag : List Contribution) → KeptAs r (map number_of tuple) (map (map number_of) (values_of bag))
    → values_at held (kept r (map number_of held) (map number_of tuple)) ≡ close_by r held bag
closes-several r tuple [] many bag is = refl
closes-several r tuple (h ∷ []) many bag is = absurd (many refl)
closes-several r tuple (h ∷ (n ∷ rest)) many bag is = ap (values_at (h ∷ (n ∷ rest))) (sym (is (map number_of (h ∷ (n ∷ rest)))))

-- the first of some values
pub first_of : (other : Value) (vs : List Value) (d : Value) → 0 < length vs → first_or other vs ≡ get_or vs 0 d
first_of other [] d h = absurd (empty (omega (arith, h)))
  where
    empty : ⊥ → ⊥
    empty e = e
first_of other (v ∷ vs) d h = refl

-- the entry of a tuple closes what it replaces, or what is held
pub kept-new : (r : Reduce) (held tuple : List ℤ) → replaces r held tuple ≡ true → kept r held tuple ≡ tuple
kept-new r held tuple e = ap (λ b. cond b tuple held) e

pub kept-held : (r : Reduce) (held tuple : List ℤ) → replaces r held tuple ≡ false → kept r held tuple ≡ held
kept-held r held tuple e = ap (λ b. cond b tuple held) e

-- one contribution to several slots
pub tuple-once : (r : Reduce) (held vs : List Value) → length held ≢ 1 → values_at held (kept r (map number_of held) (map number_of vs)) ≡ close_slots r held (vs ∷ [])
tuple-once r [] vs many = refl
tuple-once r (h ∷ []) vs many = absurd (many refl)
tuple-once r (h ∷ (n ∷ rest)) vs many = refl

-- one slot is closed alone
pub one-once : (r : Reduce) (held vs : List Value) (h : Value) (answer : Result Value FaultKind) → length held ≡ 1 → ((d : Value) → h ≡ get_or held 0 d)
    → answer ≡ close r h (first_or h vs ∷ []) → with_value answer (Some []) ≡ close_slots r held (vs ∷ [])
one-once r [] vs h answer one is closed = absurd (omega (arith, one))
one-once r (x ∷ []) vs h answer one is closed = ap (λ a. with_value a (Some [])) (closed ∙ ap (λ v. close r v (first_or v vs ∷ [])) (is h))
one-once r (x ∷ (y ∷ held)) vs h answer one is closed = absurd (omega (arith, one))

pub first-none : (other : Value) (vs : List Value) → length vs ≡ 0 → first_or other vs ≡ other
first-none other [] none = refl
first-none other (v ∷ vs) none = absurd (omega (arith, none))

-- held slots stay as many
abbrev IfAll : ℕ → Option (List Value) → Type 0
IfAll n None = Unit {0}
IfAll n (Some vs) = length vs ≡ n

values-many : (held : List Value) (tuple : List ℤ) → IfAll (length held) (values_at held tuple)
values-many [] tuple = refl
values-many (v ∷ held) [] = refl
values-many (v ∷ held) (n ∷ tuple) = by (checked (type_of v) n) (values_at held tuple) (values-many held tuple)
  where
    by : (r : Result Value FaultKind) (o : Option (List Value)) → IfAll (length held) o → IfAll (suc (length held)) (with_value r o)
    by (Ok x) None h = tt
    by (Ok x) (Some vs) h = ap suc h
    by (Err k) o h = tt

pub after-length : (held : List Value) (tuple : List ℤ) (after : List Value) → Some after ≡ values_at held tuple → length after ≡ length held
after-length held tuple after is = subst (IfAll (length held)) (sym is) (values-many held tuple)
