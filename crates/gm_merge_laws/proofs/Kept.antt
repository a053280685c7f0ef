-- What a step keeps: where it may fault, what it puts, that it sends nothing, and the registers that it does not set.
use Rattle.std.proofs.Common.{◌≡◌, ℕ, zero, suc, Bool, true, false, cond, ◌&&◌, nat_eq, Option, Some, None, Result, Ok, Err, List, [], ◌∷◌, ◌++◌, map, filter, refl, subst}
use Rattle.std.specs.Prelude.{slice_set}
use Rattle.std.specs.List.{AllByRecursion, list_all, enumerate_from}
use Rattle.std.proofs.lemmas.Bool.{and_parts, eqb-true}
use Rattle.gm_value.specs.declared.values.Value.{Value}
use Rattle.gm_value.specs.declared.faults.FaultKind.{FaultKind}
use Rattle.gm_value.specs.declared.operations.Op1.{Op1}
use Rattle.gm_value.specs.declared.operations.Op1.TheVariants as one
use Rattle.gm_value.specs.declared.operations.Op2.{Op2}
use Rattle.gm_value.specs.declared.operations.Op2.TheVariants as two
use Rattle.gm_value.specs.declared.reductions.Reduce.{Reduce}
use Rattle.gm_value.specs.Numbers.{number_of}
use Rattle.gm_value.specs.Operations.{is_true, result1, result2}
use Rattle.gm_value.specs.Taking.{of_rank, then_take, at_rank, taken_bag, taken}
use Rattle.gm_value.specs.declared.values.Value.TheVariants.{I32, I64, Flag, At}
use Rattle.gm_image.specs.Term.{Term, Const, Global, NodeCount, EdgeCount, Field, Self, OutDegree, InDegree, Register, Message, Neighbour, Column, NodeAt, Live, Unary, Binary, And, Or, Choose}
use Rattle.gm_image.specs.Program.{Line, Target, SetField, Fold, SetRegister, Put, Send, Skip, Each}
use Rattle.gm_image.specs.Parts.{all_places, place_holds, terms_of, slots_of}
use Rattle.gm_image.specs.Folds.{Reduction, puts_of, same_numbers}
use Rattle.gm_image.specs.Ranges.{InRange, LineRanged, TargetRanged, PlaceFits, has_place1, has_place2}
use Rattle.gm_machine.specs.declared.faults.Fault.{Fault}
use Rattle.gm_machine.specs.Faults.{then_go, at_place, lesser, is_earlier, least_from}
use Rattle.gm_machine.specs.Expressions.{View, value, values, value_at, node_with, live, place_of}
use Rattle.gm_machine.specs.Taking.{Contribution, contributed, settled, target_after, slot_by, slot_after, fault_after, fault_of, first_reduction, closed, overflow_at, to_target, entry_of}
use Rattle.gm_machine.specs.Vertex.{VertexContext, VertexState, After, view, messages_to, line_ends, leaves, line_after, ended, folded}
use Rattle.gm_merge_laws.specs.Joins.{line_places}

module _ (t : ℕ → Bool) where
  -- a fault, if there is one, at a place that passes
  abbrev pub Fine : Option Fault → Type 0
  Fine None = Unit {0}
  Fine (Some f) = t f.place ≡ true

  abbrev pub IfErr : {A : Type 0} → Result A Fault → Type 0
  IfErr (Ok x) = Unit {0}
  IfErr (Err f) = t f.place ≡ true

  then-fine : {A B : Type 0} (r : Result A Fault) (go : A → Result B Fault) → IfErr r → ((x : A) → IfErr (go x)) → IfErr (then_go r go)
  then-fine (Ok x) go h on = on x
  then-fine (Err f) go h on = h

  at-fine : {A : Type 0} (place : ℕ) (r : Result A FaultKind) → t place ≡ true → IfErr (at_place place r)
  at-fine place (Ok x) h = tt
  at-fine place (Err kind) h = h

  live-fine : (place : ℕ) (v : Value) → t place ≡ true → IfErr (live place v)
  live-fine place (At (Some k)) h = tt
  live-fine place (At None) h = h
  live-fine place (I32 z) h = h
  live-fine place (I64 z) h = h
  live-fine place (Flag b) h = h

  one-fine : (op : Op1) (place : Option ℕ) (x : Value) → PlaceFits (has_place1 op) place → place_holds t place ≡ true → IfErr (at_place (place_of place) (result1 op x))
  one-fine op (Some place) x fits h = at-fine place (result1 op x) h
  one-fine one.Neg None x fits h = absurd fits
  one-fine one.Not None x fits h = tt
  one-fine one.ToI32 None x fits h = absurd fits
  one-fine one.ToI64 None x fits h = tt

  two-fine : (op : Op2) (place : Option ℕ) (x y : Value) → PlaceFits (has_place2 op) place → place_holds t place ≡ true → IfErr (at_place (place_of place) (result2 op x y))
  two-fine op (Some place) x y fits h = at-fine place (result2 op x y) h
  two-fine two.Add None x y fits h = absurd fits
  two-fine two.Sub None x y fits h = absurd fits
  two-fine two.Mul None x y fits h = absurd fits
  two-fine two.Div None x y fits h = absurd fits
  two-fine two.Rem None x y fits h = absurd fits
  two-fine two.Eq None x y fits h = tt
  two-fine two.Ne None x y fits h = tt
  two-fine two.Lt None x y fits h = tt
  two-fine two.Le None x y fits h = tt
  two-fine two.Gt None x y fits h = tt
  two-fine two.Ge None x y fits h = tt

  choice-fine : {A : Type 0} (b : Bool) (r q : Result A Fault) → IfErr r → IfErr q → IfErr (cond b r q)
  choice-fine true r q h k = h
  choice-fine false r q h k = k

  pub value-fine : (w : View) (a : Term) → InRange a → all_places t a ≡ true → IfErr (value w a)
  value-fine w (Const v) is h = tt
  value-fine w (Global g) is h = tt
  value-fine w NodeCount is h = tt
  value-fine w EdgeCount is h = tt
  value-fine w (Field f) is h = tt
  value-fine w Self is h = tt
  value-fine w OutDegree is h = tt
  value-fine w InDegree is h = tt
  value-fine w (Register r) is h = tt
  value-fine w (Message i) is h = tt
  value-fine w Neighbour is h = tt
  value-fine w (Column c) is h = tt
  value-fine w (NodeAt a) is h = then-fine (value w a) (λ x. Ok (node_with w.graph (number_of x))) (value-fine w a is h) (λ x. tt)
  value-fine w (Live place a) is h =
      let parts = and_parts (t place) (all_places t a) h in
      then-fine (value w a) (live place) (value-fine w a is.1 parts.1) (λ x. live-fine place x parts.0)
  value-fine w (Unary op place a) is h =
      let parts = and_parts (place_holds t place) (all_places t a) h in
      then-fine (value w a) (λ x. at_place (place_of place) (result1 op x)) (value-fine w a is.1 parts.1) (λ x. one-fine op place x is.0 parts.0)
  value-fine w (Binary op place a b) is h =
      let parts = and_parts (place_holds t place && all_places t a) (all_places t b) h in
      let more = and_parts (place_holds t place) (all_places t a) parts.0 in
      then-fine (value w a) (λ x. then_go (value w b) (λ y. at_place (place_of place) (result2 op x y))) (value-fine w a is.1 more.1)
      (λ x. then-fine (value w b) (λ y. at_place (place_of place) (result2 op x y)) (value-fine w b is.2 parts.1) (λ y. two-fine op place x y is.0 more.0))
  value-fine w (And a b) is h =
      let parts = and_parts (all_places t a) (all_places t b) h in
      then-fine (value w a) (λ x. cond (is_true x) (value w b) (Ok x)) (value-fine w a is.0 parts.0) (λ x. choice-fine (is_true x) (value w b) (Ok x) (value-fine w b is.1 parts.1) tt)
  value-fine w (Or a b) is h =
      let parts = and_parts (all_places t a) (all_places t b) h in
      then-fine (value w a) (λ x. cond (is_true x) (Ok x) (value w b)) (value-fine w a is.0 parts.0) (λ x. choice-fine (is_true x) (Ok x) (value w b) tt (value-fine w b is.1 parts.1))
  value-fine w (Choose c a b) is h =
      let parts = and_parts (all_places t c && all_places t a) (all_places t b) h in
      let more = and_parts (all_places t c) (all_places t a) parts.0 in
      then-fine (value w c) (λ x. cond (is_true x) (value w a) (value w b)) (value-fine w c is.0 more.0) (λ x. choice-fine (is_true x) (value w a) (value w b) (value-fine w a is.1 more.1) (value-fine w b is.2 parts.1))

  pub values-fine : (w : View) (ts : List Term) → AllByRecursion InRange ts → list_all (all_places t) ts ≡ true → IfErr (values w ts)
  values-fine w [] is h = tt
  values-fine w (a ∷ ts) is h =
      let parts = and_parts (all_places t a) (list_all (all_places t) ts) h in
      then-fine (value w a) (λ x. then_go (values w ts) (λ xs. Ok (x ∷ xs))) (value-fine w a is.0 parts.0)
      (λ x. then-fine (values w ts) (λ xs. Ok (x ∷ xs)) (values-fine w ts is.1 parts.1) (λ xs. tt))

  terms-ranged : (ts : List Target) → AllByRecursion TargetRanged ts → AllByRecursion InRange (terms_of ts)
  terms-ranged [] is = tt
  terms-ranged (x ∷ ts) is = (is.0.1, terms-ranged ts is.1)

  -- contributions at places that pass
  abbrev pub FineFolds : List Contribution → Type 0
  FineFolds cs = AllByRecursion (λ (c : Contribution). t c.place ≡ true) cs

  -- such contributions to slots that pass another test
  abbrev pub FinePuts : (ℕ → Bool) → List Contribution → Type 0
  FinePuts u cs = AllByRecursion (λ (c : Contribution). (t c.place ≡ true) × (list_all u c.slots ≡ true)) cs

  pub every-append : {A : Type 0} (P : A → Type 0) (xs ys : List A) → AllByRecursion P xs → AllByRecursion P ys → AllByRecursion P (xs ++ ys)
  every-append P [] ys h k = k
  every-append P (x ∷ xs) ys h k = (h.0, every-append P xs ys h.1 k)

  pub contributed-fine : (place : ℕ) (r : Reduce) (slots : List ℕ) (vs : List Value) (u : ℕ → Bool) → t place ≡ true → list_all u slots ≡ true → FinePuts u (contributed place r slots vs)
  contributed-fine place r [] vs u h k = tt
  contributed-fine place r (slot ∷ slots) vs u h k = ((h, k), tt)

  folds-of : (place : ℕ) (r : Reduce) (slots : List ℕ) (vs : List Value) → t place ≡ true → FineFolds (contributed place r slots vs)
  folds-of place r [] vs h = tt
  folds-of place r (slot ∷ slots) vs h = (h, tt)

  -- what a line of a step may be
  abbrev pub FineLine : (ℕ → Bool) → Line → Type 0
  FineLine u l = (line_places t l ≡ true) × LineRanged l × (list_all (λ r. list_all u r.slots) (puts_of l) ≡ true)

  abbrev pub FineState : (ℕ → Bool) → VertexState → Type 0
  FineState u w = FinePuts u w.puts × FineFolds w.folds

  pub least-fine : (f g : Option Fault) → Fine f → Fine g → Fine (lesser f g)
  least-fine None g h k = k
  least-fine (Some f) None h k = h
  least-fine (Some f) (Some g) h k = one (is_earlier g f) where
    one : (b : Bool) → Fine (cond b (Some g) (Some f))
    one true = k
    one false = h

  pub leasts-fine : (f : Option Fault) (fs : List (Option Fault)) → Fine f → AllByRecursion Fine fs → Fine (least_from f fs)
  leasts-fine f [] h k = h
  leasts-fine f (g ∷ fs) h k = leasts-fine (lesser f g) fs (least-fine f g h k.0) k.1

  ends-fine : {A : Type 0} (u : ℕ → Bool) (w : VertexState) (r : Result A Fault) (go : A → After) → IfErr r → FineState u w → ((x : A) → FineState u (go x).state × Fine (go x).fault) →
      FineState u (line_ends w r go).state × Fine (line_ends w r go).fault
  ends-fine u w (Ok x) go h q on = on x
  ends-fine u w (Err f) go h q on = (q, h)

  given-fine : (u : ℕ → Bool) (w : VertexState) (r : Result (List Value) Fault) (made : List Value → List Contribution) (go : List Contribution → After) → IfErr r → FineState u w →
      ((vs : List Value) → FineState u (go (made vs)).state × Fine (go (made vs)).fault) →
      FineState u (line_ends w (then_go r (λ vs. Ok (made vs))) go).state × Fine (line_ends w (then_go r (λ vs. Ok (made vs))) go).fault
  given-fine u w (Ok vs) made go h q on = on vs
  given-fine u w (Err f) made go h q on = (q, h)

  pub line-fine : (u : ℕ → Bool) (s : VertexContext) (l : Line) (w : VertexState) → FineLine u l → FineState u w → FineState u (line_after s l w).state × Fine (line_after s l w).fault
  line-fine u s (SetField f a) w h q =
      ends-fine u w (value (view s w) a) (λ v. leaves (record w { fields = slice_set w.fields f v })) (value-fine (view s w) a h.1.1 (and_parts (all_places t a) true h.0).0) q (λ v. (q, tt))
  line-fine u s (Fold r place ts) w h q =
      let parts = and_parts (t place) (list_all (all_places t) (terms_of ts)) h.0 in
      given-fine u w (values (view s w) (terms_of ts)) (λ vs. contributed place r (slots_of ts) vs) (λ given. leaves (record w { folds = w.folds ++ given }))
      (values-fine (view s w) (terms_of ts) (terms-ranged ts h.1.1) parts.1) q
      (λ vs. ((q.0, every-append (λ (c : Contribution). t c.place ≡ true) w.folds (contributed place r (slots_of ts) vs) q.1 (folds-of place r (slots_of ts) vs parts.0)), tt))
  line-fine u s (SetRegister r a) w h q =
      ends-fine u w (value (view s w) a) (λ v. leaves (record w { registers = slice_set w.registers r v })) (value-fine (view s w) a h.1.1 (and_parts (all_places t a) true h.0).0) q (λ v. (q, tt))
  line-fine u s (Put r place ts) w h q =
      let parts = and_parts (t place) (list_all (all_places t) (terms_of ts)) h.0 in
      given-fine u w (values (view s w) (terms_of ts)) (λ vs. contributed place r (slots_of ts) vs) (λ given. leaves (record w { puts = w.puts ++ given }))
      (values-fine (view s w) (terms_of ts) (terms-ranged ts h.1.1) parts.1) q
      (λ vs. (
        (
          every-append (λ (c : Contribution). (t c.place ≡ true) × (list_all u c.slots ≡ true)) w.puts (contributed place r (slots_of ts) vs) q.0
              (contributed-fine place r (slots_of ts) vs u parts.0 (and_parts (list_all u (slots_of ts)) true h.2).0),
          q.1,
        ),
        tt,
      ))
  line-fine u s (Send kind to ts) w h q =
      let parts = and_parts (all_places t to) (list_all (all_places t) ts) h.0 in
      ends-fine u w (value (view s w) to) (λ v. line_ends w (values (view s w) ts) (λ vs. leaves (record w { messages = w.messages ++ messages_to v kind vs })))
      (value-fine (view s w) to h.1.1 parts.0) q
      (λ v. ends-fine u w (values (view s w) ts) (λ vs. leaves (record w { messages = w.messages ++ messages_to v kind vs })) (values-fine (view s w) ts h.1.2 parts.1) q (λ vs. (q, tt)))
  line-fine u s (Skip n a) w h q =
      ends-fine u w (value (view s w) a) (λ v. record { state = w; fault = None; skip = cond (is_true v) 0 n }) (value-fine (view s w) a h.1.1 (and_parts (all_places t a) true h.0).0) q (λ v. (q, tt))
  line-fine u s (Each d n) w h q = (q, tt)

  -- the taking of contributions faults at a place of one of them
  abbrev IfRank : {V : Type 0} → Result V ℕ → Type 0
  IfRank (Ok v) = Unit {0}
  IfRank (Err place) = t place ≡ true

  at-rank : {V : Type 0} (place : ℕ) (o : Option V) → t place ≡ true → IfRank (at_rank place o)
  at-rank place (Some v) h = tt
  at-rank place None h = h

  -- the contributions of a place
  rank-bag : {V : Type 0} (close : V → List Contribution → Option V) (place : ℕ) (held : V) (cs : List Contribution) → FineFolds cs → IfRank (taken_bag close place held (of_rank (λ (c : Contribution). c.place) place cs))
  rank-bag close place held [] h = tt
  rank-bag close place held (c ∷ cs) h = one (nat_eq c.place place) (λ e. subst (λ n. t n ≡ true) (eqb-true c.place place e) h.0) (rank-bag close place held cs h.1) where
    one : (b : Bool) → (b ≡ true → t place ≡ true) → IfRank (taken_bag close place held (of_rank (λ (c : Contribution). c.place) place cs)) →
        IfRank (taken_bag close place held (cond b (c ∷ of_rank (λ (c : Contribution). c.place) place cs) (of_rank (λ (c : Contribution). c.place) place cs)))
    one true at rest = at-rank place (close held (c ∷ of_rank (λ (c : Contribution). c.place) place cs)) (at refl)
    one false at rest = rest

  then-rank : {V : Type 0} (r : Result V ℕ) (go : V → Result V ℕ) → IfRank r → ((v : V) → IfRank (go v)) → IfRank (then_take r go)
  then-rank (Ok v) go h on = on v
  then-rank (Err place) go h on = h

  taken-fine : {V : Type 0} (close : V → List Contribution → Option V) (bound : ℕ) (held : V) (cs : List Contribution) → FineFolds cs → IfRank (taken (λ (c : Contribution). c.place) close bound held cs)
  taken-fine close zero held cs h = tt
  taken-fine close (suc bound) held cs h =
      then-rank (taken (λ (c : Contribution). c.place) close bound held cs) (λ v. taken_bag close bound v (of_rank (λ (c : Contribution). c.place) bound cs))
      (taken-fine close bound held cs h) (λ v. rank-bag close bound v cs h)

  filter-fine : (test : Contribution → Bool) (cs : List Contribution) → FineFolds cs → FineFolds (filter test cs)
  filter-fine test [] h = tt
  filter-fine test (c ∷ cs) h = one (test c) h.0 (filter-fine test cs h.1) where
    one : (b : Bool) → t c.place ≡ true → FineFolds (filter test cs) → FineFolds (cond b (c ∷ filter test cs) (filter test cs))
    one true h k = (h, k)
    one false h k = k

  overflow-fine : {V : Type 0} (r : Result V ℕ) → IfRank r → IfErr (overflow_at r)
  overflow-fine (Ok v) h = tt
  overflow-fine (Err place) h = h

  fault-of-fine : (r : Result Value Fault) → IfErr r → Fine (fault_of r)
  fault-of-fine (Ok v) h = tt
  fault-of-fine (Err f) h = h

  slot-fine : (places : ℕ) (cs : List Contribution) (held : List Value) (slot : ℕ) (o : Option Reduction) → FineFolds cs → IfErr (slot_by places cs held slot o)
  slot-fine places cs held slot None h = tt
  slot-fine places cs held slot (Some r) h =
      then-fine (target_after places cs held r) (λ vs. Ok (entry_of slot r.slots vs (value_at held slot)))
      (overflow-fine (taken (λ (c : Contribution). c.place) (closed r.reduce) places (map (value_at held) r.slots) (to_target r.slots cs)) (taken-fine (closed r.reduce) places (map (value_at held) r.slots) (to_target r.slots cs) (filter-fine (λ c. same_numbers c.slots r.slots) cs h)))
      (λ vs. tt)

  faults-fine : (places : ℕ) (cs : List Contribution) (held : List Value) (ats : List (ℕ × Value)) → FineFolds cs → AllByRecursion Fine (map (fault_after places cs held) ats)
  faults-fine places cs held [] h = tt
  faults-fine places cs held (at ∷ ats) h = (fault-of-fine (slot_after places cs held at.0) (slot-fine places cs held at.0 (first_reduction at.0 cs) h), faults-fine places cs held ats h)

  pub settled-fine : (places : ℕ) (cs : List Contribution) (held : List Value) → FineFolds cs → Fine (settled places cs held).fault
  settled-fine places cs held h = leasts-fine None (map (fault_after places cs held) (enumerate_from 0 held)) tt (faults-fine places cs held (enumerate_from 0 held) h)

  ended-fine : (u : ℕ → Bool) (w : VertexState) (f : Option Fault) (n : ℕ) → FineState u w → Fine f → FineState u (ended w f n).state × Fine (ended w f n).fault
  ended-fine u w None n q h = (q, h)
  ended-fine u w (Some f) n q h = (q, h)

  pub fold-fine : (u : ℕ → Bool) (places : ℕ) (w : VertexState) (f : Option Fault) (skip : ℕ) → FineState u w → Fine f →
      FineState u (folded places (record { state = w; fault = f; skip = skip })).state × Fine (folded places (record { state = w; fault = f; skip = skip })).fault
  fold-fine u places w f skip q h =
      ended-fine u (record w { folds = []; fields = (settled places w.folds w.fields).values }) (lesser f (settled places w.folds w.fields).fault) skip (q.0, tt)
      (least-fine f (settled places w.folds w.fields).fault h (settled-fine places w.folds w.fields q.1))

  pub puts-are-folds : (u : ℕ → Bool) (cs : List Contribution) → FinePuts u cs → FineFolds cs
  puts-are-folds u [] h = tt
  puts-are-folds u (c ∷ cs) h = (h.0.0, puts-are-folds u cs h.1)
