-- Locals are kept in properties.
use Rattle.std.proofs.Common.{◌≡◌, ◌≢◌, ◌<◌, ◌≤◌, ℕ, Bool, true, false, cond, List, [], ◌∷◌, map, refl, sym, ap, ◌∙◌, Option, Some, None, Result, Ok, Err}
use Rattle.std.proofs.Math.Path.{fun_ext}
use Rattle.std.specs.Prelude.{◌&&◌, not, nat_eq}
use Rattle.std.specs.List.{list_all}
use Rattle.std.proofs.lemmas.Bool.{eq-eqb, eqb-true, ne_eqb, both_ways}
use Rattle.gm_base.specs.declared.places.Place.{Place}
use Rattle.gm_value.specs.declared.values.Value.{Value}
use Rattle.gm_value.specs.declared.values.Value.TheVariants.{At}
use Rattle.gm_value.specs.declared.reductions.Reduce.{Reduce}
use Rattle.gm_value.specs.declared.reductions.Reduce.TheVariants.{Sum, Product, Min, Max, And, Or}
use Rattle.gm_value.specs.Numbers.{zero_of}
use Rattle.gm_value.specs.Operations.{result1, result2}
use Rattle.gm_value.specs.Reductions.{close}
use Rattle.gm_value.specs.Tuples.{close_slots}
use Rattle.gm_model.specs.Graphs.{node_count}
use Rattle.gm_ast.specs.declared.tree.Direction.{Direction}
use Rattle.gm_ast.specs.declared.tree.Direction.TheVariants.{Out, In}
use Rattle.gm_ast.specs.declared.tree.Domain.{Domain}
use Rattle.gm_ast.specs.declared.tree.Domain.TheVariants as D
use Rattle.gm_ast.specs.declared.tree.Head.{Head}
use Rattle.gm_ast.specs.declared.tree.Key.{Key}
use Rattle.gm_ast.specs.declared.tree.Target.{Target}
use Rattle.gm_ast.specs.declared.tree.Target.TheVariants as T
use Rattle.gm_ast.specs.Program.{Expr, Const, Var, Property, EdgeProperty, Degree, NodeCount, EdgeCount, Live, Unary, Binary, Both, Either, Choose, Folded, Stmt}
use Rattle.gm_semantics.specs.declared.faults.Fault.{Fault}
use Rattle.gm_semantics.specs.declared.slots.Slot.{Slot}
use Rattle.gm_semantics.specs.declared.slots.Slot.TheVariants.{Scalar, Node}
use Rattle.gm_semantics.specs.Stores.{Store, read}
use Rattle.gm_semantics.specs.Levels.{node_in}
use Rattle.gm_semantics.specs.Faults.{first, then_with, unless_fault}
use Rattle.gm_semantics.specs.Expressions.{View, Answer, Evaluated, AllEvaluated, and_all, node_held, node_of, at_node, located, degree_of, plain, one_of, two_of, both, either, choice, evaluated, evaluated_all, steps_of, steps_in}
use Rattle.gm_semantics.specs.Contributions.{Contribution}
use Rattle.gm_semantics.specs.Iterations.{Loop, Mode, begun, view_in, slot_of, slots_of, assigned, assigned_all, target_value, combined_by, tuple_held, closed_by, together, alone, at_once}
use Rattle.gm_semantics.specs.Frames.{ReadsBelow, AllReadBelow, TargetBelow, TargetsBelow}
use Rattle.gm_semantics.proofs.ExpressionFrames.{held-moved, located-moved}
use Rattle.gm_forms.proofs.Named.{both-true}
use Rattle.gm_forms.proofs.CutTests.{not-true}
use Rattle.gm_loop_laws.specs.Localised.{moved_in, moved_target, moved, names_plainly, is_apart}
use Rattle.gm_loop_laws.proofs.Masks.{outer-held}
use Rattle.gm_loop_laws.proofs.Renamed.{ren, renamed, Shows}

module _ (j : ℕ) (loop : Loop) (x q k : ℕ) (at : Place) (local : x < j) (iterates : loop.outer < j) (apart : x ≢ loop.outer) (fresh : j ≤ q) (deep : loop.depth x ≡ 1) (quiet : loop.pushed q ≡ false) (less : k < node_count loop.graph) where
  abbrev n : ℕ
  n = loop.outer

  abbrev pub first_value : Value
  first_value = zero_of (loop.vtype x)

  abbrev pub mi : Expr → Expr
  mi = moved_in x q n at first_value

  abbrev pub mt : Target → Target
  mt = moved_target x q n at first_value

  abbrev pub mv : Stmt → Stmt
  mv = moved x q n at first_value

  abbrev pub R : Slot → Slot
  R = ren j x q k fresh

  abbrev pub RC : Contribution → Contribution
  RC = renamed j x q k fresh

  -- a name that is kept
  pub other-name : (y : ℕ) → nat_eq y x ≡ false → R (Scalar y) ≡ Scalar y
  other-name y e = ap (λ c. cond c (Node q k) (Scalar y)) e

  pub iterator-kept : nat_eq n x ≡ false
  iterator-kept = ne_eqb n x (λ e. apart (sym e))

  -- two stores, where the node is in the iterator
  module _ (s t : Store) (shows : Shows j x q k fresh s t) (edges : (p e : ℕ) → p < j → t.edge p e ≡ s.edge p e) (held : s.scalar n ≡ At (Some k)) where
    pub scalar-same : (y : ℕ) → y < j → nat_eq y x ≡ false → t.scalar y ≡ s.scalar y
    scalar-same y b e = sym (ap (read t) (other-name y e)) ∙ shows (Scalar y) b

    pub local-same : t.node q k ≡ s.scalar x
    local-same = sym (ap (λ c. read t (cond c (Node q k) (Scalar x))) (eq-eqb x x refl)) ∙ shows (Scalar x) local

    pub node-same : (p y : ℕ) → p < j → t.node p y ≡ s.node p y
    node-same p y b = shows (Node p y) b

    pub held-too : t.scalar n ≡ At (Some k)
    held-too = scalar-same n iterates iterator-kept ∙ held

    module _ (m : Mode) (key : Key) where
      abbrev w : View
      w = view_in loop m (begun s) key

      abbrev u : View
      u = view_in loop m (begun t) key

      at-held : (place : Place) (f : ℕ → Value) → at_node u n place f ≡ Ok (f k)
      at-held place f = outer-held loop m (begun t) key k less held-too n place f (eq-eqb n n refl)

      pub node_of-held : (place : Place) → node_of u n place ≡ Ok k
      node_of-held place = by (node_of u n place) (at-held place (λ z. At (Some z)))
        where
          by : (r : Result ℕ Fault) → then_with r (λ z. Ok (At (Some z))) ≡ Ok (At (Some k)) → r ≡ Ok k
          by (Ok z) h = let same : z ≡ k = cc in ap Ok same
          by (Err f) h = absurd (cc)

      pub node_of-same : (y : ℕ) (place : Place) → y < j → nat_eq y x ≡ false → node_of u y place ≡ node_of w y place
      node_of-same y place b e = held-moved w t place (node_in loop.graph (t.scalar y)) ∙ ap (λ v. node_held w place (node_in loop.graph v)) (scalar-same y b e)

      at_node-same : (y : ℕ) (place : Place) (f g : ℕ → Value) → y < j → nat_eq y x ≡ false → f ≡ g → at_node u y place f ≡ at_node w y place g
      at_node-same y place f g b e h = ap (λ r. then_with r (λ z. Ok (f z))) (node_of-same y place b e) ∙ ap (λ f. then_with (node_of w y place) (λ z. Ok (f z))) h

      degree-same : (d : Direction) → degree_of u d ≡ degree_of w d
      degree-same Out = refl
      degree-same In = refl

      -- an expression has its value
      pub moved-value : (e : Expr) → names_plainly x e ≡ true → ReadsBelow j e → evaluated (mi e) u ≡ evaluated e w
      moved-value (Const v) h b = refl
      moved-value (Var y place) h b = by (nat_eq y x) refl
        where
          by : (c : Bool) → nat_eq y x ≡ c → evaluated (cond c (Property n q place) (Var y place)) u ≡ plain (Ok (s.scalar y))
          by true e = ap plain (at-held place (t.node q)) ∙ ap (λ v. plain (Ok v)) (local-same ∙ sym (ap s.scalar (eqb-true y x e)))
          by false e = ap (λ v. plain (Ok v)) (scalar-same y b e)
      moved-value (Property y p place) h b = ap plain (at_node-same y place (t.node p) (s.node p) b.0 (not-true (nat_eq y x) h) (fun_ext (λ z. node-same p z b.1)))
      moved-value (EdgeProperty y p place) h b = ap (λ v. plain (Ok v)) (edges p w.edge b)
      moved-value (Degree d y place) h b = ap plain (at_node-same y place (degree_of u d) (degree_of w d) b (not-true (nat_eq y x) h) (degree-same d))
      moved-value NodeCount h b = refl
      moved-value EdgeCount h b = refl
      moved-value (Live y place) h b = ap plain (at_node-same y place (λ z. At (Some z)) (λ z. At (Some z)) b (not-true (nat_eq y x) h) refl)
      moved-value (Unary op place e) h b =
          ap (λ a. one_of a (λ v. located u place (result1 op v))) (moved-value e h b) ∙ ap (λ f. one_of (evaluated e w) f) (fun_ext (λ v. located-moved w t place (result1 op v)))
      moved-value (Binary op place a c) h b =
          let r = both-true (names_plainly x a) (names_plainly x c) h in
          ap (λ z. two_of z (evaluated (mi c) u) (λ v y. located u place (result2 op v y))) (moved-value a r.0 b.0)
          ∙ ap (λ z. two_of (evaluated a w) z (λ v y. located u place (result2 op v y))) (moved-value c r.1 b.1)
          ∙ ap (two_of (evaluated a w) (evaluated c w)) (fun_ext (λ v. fun_ext (λ y. located-moved w t place (result2 op v y))))
      moved-value (Both a c) h b =
          let r = both-true (names_plainly x a) (names_plainly x c) h in ap (λ z. both z (evaluated (mi c) u)) (moved-value a r.0 b.0) ∙ ap (both (evaluated a w)) (moved-value c r.1 b.1)
      moved-value (Either a c) h b =
          let r = both-true (names_plainly x a) (names_plainly x c) h in ap (λ z. either z (evaluated (mi c) u)) (moved-value a r.0 b.0) ∙ ap (either (evaluated a w)) (moved-value c r.1 b.1)
      moved-value (Choose o a c) h b =
          let r = both-true (names_plainly x o) (names_plainly x a && names_plainly x c) h in
          let d = both-true (names_plainly x a) (names_plainly x c) r.1 in
          ap (λ z. choice z (evaluated (mi a) u) (evaluated (mi c) u)) (moved-value o r.0 b.0) ∙ ap (λ z. choice (evaluated o w) z (evaluated (mi c) u)) (moved-value a d.0 b.1)
          ∙ ap (choice (evaluated o w) (evaluated a w)) (moved-value c d.1 b.2)
      moved-value (Folded f head test e) h b = absurd (both_ways false refl h)

      pub moved-values : (es : List Expr) → list_all (names_plainly x) es ≡ true → AllReadBelow j es → evaluated_all (map mi es) u ≡ evaluated_all es w
      moved-values [] h b = refl
      moved-values (e ∷ es) h b =
          let r = both-true (names_plainly x e) (list_all (names_plainly x) es) h in
          ap (λ a. and_all a (evaluated_all (map mi es) u)) (moved-value e r.0 b.0) ∙ ap (and_all (evaluated e w)) (moved-values es r.1 b.1)

      -- a target that is no property through the local
      abbrev pub Reached : Target → Type 0
      Reached (T.Scalar y place) = Unit {0}
      Reached (T.Property y p place) = nat_eq y x ≡ false

      abbrev pub AllReached : List Target → Type 0
      AllReached [] = Unit {0}
      AllReached (t ∷ ts) = Reached t × AllReached ts

      abbrev renamed_slot : Slot → Result Slot Fault
      renamed_slot z = Ok (R z)

      abbrev renamed_slots : List Slot → Result (List Slot) Fault
      renamed_slots zs = Ok (map R zs)

      abbrev pub renamed_pair : Slot × Value → Result (Slot × Value) Fault
      renamed_pair p = Ok (R p.0, p.1)

      abbrev pub renamed_pairs : List Slot × List Value → Result (List Slot × List Value) Fault
      renamed_pairs p = Ok (map R p.0, p.1)

      slot-moved : (o : Target) → Reached o → TargetBelow j o → slot_of u (mt o) ≡ then_with (slot_of w o) renamed_slot
      slot-moved (T.Scalar y place) r b = by (nat_eq y x)
        where
          by : (c : Bool) → slot_of u (cond c (T.Property n q place) (T.Scalar y place)) ≡ Ok (cond c (Node q k) (Scalar y))
          by true = ap (λ o. then_with o (λ z. Ok (Node q z))) (node_of-held place)
          by false = refl
      slot-moved (T.Property y p place) r b = ap (λ o. then_with o (λ z. Ok (Node p z))) (node_of-same y place b.0 r) ∙ by (node_of w y place)
        where
          by : (o : Result ℕ Fault) → then_with o (λ z. Ok (Node p z)) ≡ then_with (then_with o (λ z. Ok (Node p z))) renamed_slot
          by (Ok z) = refl
          by (Err f) = refl

      pub slots-moved : (os : List Target) → AllReached os → TargetsBelow j os → slots_of u (map mt os) ≡ then_with (slots_of w os) renamed_slots
      slots-moved [] r b = refl
      slots-moved (o ∷ os) r b =
          ap (λ a. then_with a (λ z. then_with (slots_of u (map mt os)) (λ zs. Ok (z ∷ zs)))) (slot-moved o r.0 b.0)
          ∙ ap (λ a. then_with (then_with (slot_of w o) renamed_slot) (λ z. then_with a (λ zs. Ok (z ∷ zs)))) (slots-moved os r.1 b.1)
          ∙ by (slot_of w o) (slots_of w os)
        where
          by : (a : Result Slot Fault) (c : Result (List Slot) Fault) → then_with (then_with a renamed_slot) (λ z. then_with (then_with c renamed_slots) (λ zs. let l : List Slot = z ∷ zs in let r : Result (List Slot) Fault = Ok l in r)) ≡ then_with (then_with a (λ z. then_with c (λ zs. let l : List Slot = z ∷ zs in let r : Result (List Slot) Fault = Ok l in r))) renamed_slots
          by (Ok z) (Ok zs) = refl
          by (Ok z) (Err f) = refl
          by (Err f) c = refl

      pub assigned-moved : (o : Target) (v : Evaluated) → Reached o → TargetBelow j o → assigned u (mt o) v ≡ then_with (assigned w o v) renamed_pair
      assigned-moved o v r b =
          ap (λ a. unless_fault v.hoisted (then_with a (λ z. then_with v.rest (λ y. Ok (z, y))))) (slot-moved o r b) ∙ by v.hoisted (slot_of w o) v.rest
        where
          by : (h : Option Fault) (a : Result Slot Fault) (c : Answer) → unless_fault h (then_with (then_with a renamed_slot) (λ z. then_with c (λ y. let p : Slot × Value = (z, y) in let r : Result (Slot × Value) Fault = Ok p in r))) ≡ then_with (unless_fault h (then_with a (λ z. then_with c (λ y. let p : Slot × Value = (z, y) in let r : Result (Slot × Value) Fault = Ok p in r)))) renamed_pair
          by (Some f) a c = refl
          by None (Ok z) (Ok y) = refl
          by None (Ok z) (Err f) = refl
          by None (Err f) c = refl

      pub assigned_all-moved : (os : List Target) (v : AllEvaluated) → AllReached os → TargetsBelow j os → assigned_all u (map mt os) v ≡ then_with (assigned_all w os v) renamed_pairs
      assigned_all-moved os v r b =
          ap (λ a. unless_fault v.hoisted (then_with a (λ zs. then_with v.rest (λ ys. Ok (zs, ys))))) (slots-moved os r b) ∙ by v.hoisted (slots_of w os) v.rest
        where
          by : (h : Option Fault) (a : Result (List Slot) Fault) (c : Result (List Value) Fault) → unless_fault h (then_with (then_with a renamed_slots) (λ zs. then_with c (λ ys. let p : List Slot × List Value = (zs, ys) in let r : Result (List Slot × List Value) Fault = Ok p in r))) ≡ then_with (unless_fault h (then_with a (λ zs. then_with c (λ ys. let p : List Slot × List Value = (zs, ys) in let r : Result (List Slot × List Value) Fault = Ok p in r)))) renamed_pairs
          by (Some f) a c = refl
          by None (Ok z) (Ok y) = refl
          by None (Ok z) (Err f) = refl
          by None (Err f) c = refl

      combined-same : (r : Reduce) (place : Place) (a c : Evaluated) → combined_by r u place a c ≡ combined_by r w place a c
      combined-same Sum place a c = ap (two_of a c) (fun_ext (λ v. fun_ext (λ y. located-moved w t place (close Sum v (y ∷ [])))))
      combined-same Product place a c = ap (two_of a c) (fun_ext (λ v. fun_ext (λ y. located-moved w t place (close Product v (y ∷ [])))))
      combined-same Min place a c = ap (two_of a c) (fun_ext (λ v. fun_ext (λ y. located-moved w t place (close Min v (y ∷ [])))))
      combined-same Max place a c = ap (two_of a c) (fun_ext (λ v. fun_ext (λ y. located-moved w t place (close Max v (y ∷ [])))))
      combined-same And place a c = refl
      combined-same Or place a c = refl

      tuple-same : (place : Place) (o : Option (List Value)) → tuple_held u place o ≡ tuple_held w place o
      tuple-same place (Some vs) = refl
      tuple-same place None = refl

      closed-same : (r : Reduce) (place : Place) (a c : AllEvaluated) → closed_by r u place a c ≡ closed_by r w place a c
      closed-same r place a c = ap (λ f. record { hoisted = first a.hoisted c.hoisted; rest = then_with a.rest (λ held. then_with c.rest (f held)) }) (fun_ext (λ held. fun_ext (λ vs. tuple-same place (close_slots r held (vs ∷ [])))))

      -- what a target holds
      held-is : (o : Target) → target_value (mt o) ≡ mi (target_value o)
      held-is (T.Scalar y place) = by (nat_eq y x)
        where
          by : (c : Bool) → target_value (cond c (T.Property n q place) (T.Scalar y place)) ≡ cond c (Property n q place) (Var y place)
          by true = refl
          by false = refl
      held-is (T.Property y p place) = refl

      held-plain : (o : Target) → Reached o → names_plainly x (target_value o) ≡ true
      held-plain (T.Scalar y place) r = refl
      held-plain (T.Property y p place) r = ap not r

      held-below : (o : Target) → TargetBelow j o → ReadsBelow j (target_value o)
      held-below (T.Scalar y place) b = b
      held-below (T.Property y p place) b = b

      held-value : (o : Target) → Reached o → TargetBelow j o → evaluated (target_value (mt o)) u ≡ evaluated (target_value o) w
      held-value o r b = ap (λ e. evaluated e u) (held-is o) ∙ moved-value (target_value o) (held-plain o r) (held-below o b)

      held-values : (os : List Target) → AllReached os → TargetsBelow j os → evaluated_all (map target_value (map mt os)) u ≡ evaluated_all (map target_value os) w
      held-values [] r b = refl
      held-values (o ∷ os) r b = ap (λ a. and_all a (evaluated_all (map target_value (map mt os)) u)) (held-value o r.0 b.0) ∙ ap (and_all (evaluated (target_value o) w)) (held-values os r.1 b.1)

      together-moved : (place : Place) (r : Reduce) (os : List Target) (es : List Expr) → AllReached os → TargetsBelow j os → list_all (names_plainly x) es ≡ true → AllReadBelow j es →
          together u place r (map mt os) (map mi es) ≡ then_with (together w place r os es) renamed_pairs
      together-moved place r os es o b h c =
          ap (λ a. assigned_all u (map mt os) (closed_by r u place a (evaluated_all (map mi es) u))) (held-values os o b)
          ∙ ap (λ a. assigned_all u (map mt os) (closed_by r u place (evaluated_all (map target_value os) w) a)) (moved-values es h c)
          ∙ ap (assigned_all u (map mt os)) (closed-same r place (evaluated_all (map target_value os) w) (evaluated_all es w))
          ∙ assigned_all-moved os (closed_by r w place (evaluated_all (map target_value os) w) (evaluated_all es w)) o b

      pub at_once-moved : (place : Place) (r : Reduce) (os : List Target) (es : List Expr) → AllReached os → TargetsBelow j os → list_all (names_plainly x) es ≡ true → AllReadBelow j es →
          at_once u place r (map mt os) (map mi es) ≡ then_with (at_once w place r os es) renamed_pairs
      at_once-moved place r [] es o b h c = together-moved place r [] es o b h c
      at_once-moved place r (a ∷ []) [] o b h c = together-moved place r (a ∷ []) [] o b h c
      at_once-moved place r (a ∷ []) (e ∷ []) o b h c =
          let p = both-true (names_plainly x e) true h in
          ap (λ z. alone (assigned u (mt a) (combined_by r u place z (evaluated (mi e) u)))) (held-value a o.0 b.0)
          ∙ ap (λ z. alone (assigned u (mt a) (combined_by r u place (evaluated (target_value a) w) z))) (moved-value e p.0 c.0)
          ∙ ap (λ z. alone (assigned u (mt a) z)) (combined-same r place (evaluated (target_value a) w) (evaluated e w))
          ∙ ap alone (assigned-moved a (combined_by r w place (evaluated (target_value a) w) (evaluated e w)) o.0 b.0)
          ∙ by (assigned w a (combined_by r w place (evaluated (target_value a) w) (evaluated e w)))
        where
          by : (z : Result (Slot × Value) Fault) → alone (then_with z renamed_pair) ≡ then_with (alone z) renamed_pairs
          by (Ok p) = refl
          by (Err f) = refl
      at_once-moved place r (a ∷ []) (e ∷ (d ∷ es)) o b h c = together-moved place r (a ∷ []) (e ∷ (d ∷ es)) o b h c
      at_once-moved place r (a ∷ (d ∷ os)) es o b h c = together-moved place r (a ∷ (d ∷ os)) es o b h c

      -- targets that are not the local stay
      pub slots-kept : (os : List Target) → list_all (is_apart x n) os ≡ true → TargetsBelow j os → slots_of u os ≡ slots_of w os
      slots-kept [] h b = refl
      slots-kept (T.Scalar y place ∷ os) h b = ap (λ a. then_with a (λ zs. Ok (Scalar y ∷ zs))) (slots-kept os (both-true (not (nat_eq y x) && not (nat_eq y n)) (list_all (is_apart x n) os) h).1 b.1)
      slots-kept (T.Property y p place ∷ os) h b =
          let r = both-true (not (nat_eq y x)) (list_all (is_apart x n) os) h in
          ap (λ a. then_with (then_with a (λ z. Ok (Node p z))) (λ z. then_with (slots_of u os) (λ zs. Ok (z ∷ zs)))) (node_of-same y place b.0.0 (not-true (nat_eq y x) r.0))
          ∙ ap (λ a. then_with (then_with (node_of w y place) (λ z. Ok (Node p z))) (λ z. then_with a (λ zs. Ok (z ∷ zs)))) (slots-kept os r.1 b.1)

      steps-same : (d : Domain) (o : Option ℕ) → steps_of u d o ≡ steps_of w d o
      steps-same D.Nodes o = refl
      steps-same D.OutNbrs o = refl
      steps-same D.InNbrs o = refl
      steps-same D.UpNbrs o = refl
      steps-same D.DownNbrs o = refl

      pub steps-moved : (head : Head) → head.owner < j → nat_eq head.owner x ≡ false → steps_in u head ≡ steps_in w head
      steps-moved head b e = steps-same head.domain (node_in loop.graph (t.scalar head.owner)) ∙ ap (λ v. steps_of w head.domain (node_in loop.graph v)) (scalar-same head.owner b e)
