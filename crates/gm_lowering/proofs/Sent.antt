-- What is sent: how reductions to other nodes are lowered, and the messages that carry what they give.
use Rattle.std.proofs.Common.{◌≡◌, ℕ, zero, suc, Bool, true, false, cond, Some, Result, Ok, Err, List, [], ◌∷◌, ◌++◌, length, refl, ap, ◌∙◌, arith}
use Rattle.std.specs.Prelude.{◌+◌, ◌&&◌, ◌||◌, not, if◌then◌else◌, nat_eq, slice_get, filter}
use Rattle.std.specs.List.{list_all, list_any}
use Rattle.std.proofs.lemmas.Bool.{both_ways, eqb-true}
use Rattle.gm_value.specs.declared.values.Value.{Value}
use Rattle.gm_model.specs.Graphs.{NumberedGraph}
use Rattle.gm_ast.specs.declared.tree.Target.{Target}
use Rattle.gm_ast.specs.declared.tree.Target.TheVariants as T
use Rattle.gm_ast.specs.Program.{Expr}
use Rattle.gm_forms.proofs.Named.{both-true}
use Rattle.gm_semantics.specs.declared.faults.Fault.{Fault}
use Rattle.gm_semantics.specs.declared.slots.Slot.TheVariants.{Node}
use Rattle.gm_semantics.specs.Contributions.{Contribution}
use Rattle.gm_semantics.specs.Expressions.{View, evaluated, evaluated_all}
use Rattle.gm_semantics.specs.Faults.{then_with}
use Rattle.gm_machine.specs.Vertex.{Message}
use Rattle.gm_lowering.specs.Layouts.{Layout}
use Rattle.gm_lowering.specs.Plans.{Away, Folds, Sends, Picks, way_of, is_property_of, is_property_off}
use Rattle.gm_lowering.specs.Sites.{same_length}
use Rattle.gm_lowering.specs.Takings.{slots_at}
use Rattle.gm_lowering.specs.Sent.{AreSent}
use Rattle.gm_lowering.proofs.Givens.{node_slots, are_kept}

-- reductions to properties of another node are sent
pub sends-way : (c : Layout) (n i : ℕ) (t : Target) (ts : List Target) → nat_eq i n ≡ false → are_kept c i (t ∷ ts) ≡ true → way_of c.declarations n (t ∷ ts) ≡ Sends
sends-way c n i (T.Scalar x at) ts e h = absurd (both_ways false refl h)
sends-way c n i (T.Property x p at) ts e h =
    let q = both-true (nat_eq x i && c.is_kept p) (are_kept c i ts) h in
    let off : nat_eq x n ≡ false = ap (λ z. nat_eq z n) (eqb-true x i (both-true (nat_eq x i) (c.is_kept p) q.0).0) ∙ e in
    ap (λ b. if b && list_all (is_property_of n) ts then Folds else (if not b || list_any (is_property_off n) ts then Sends else Picks)) off

pub same-slots : (j : ℕ) (ts : List Target) → node_slots j ts ≡ slots_at j ts
same-slots j [] = refl
same-slots j (T.Scalar x at ∷ ts) = same-slots j ts
same-slots j (T.Property x p at ∷ ts) = ap (λ l. Node p j ∷ l) (same-slots j ts)

-- as many values as expressions
abbrev pub LongAs : {A : Type 0} → List A → Result (List Value) Fault → Type 0
LongAs ts (Ok xs) = same_length ts xs ≡ true
LongAs ts (Err f) = Unit {0}

pub long-values : {A : Type 0} (w : View) (ts : List A) (es : List Expr) → same_length ts es ≡ true → LongAs ts (evaluated_all es w).rest
long-values w [] [] h = refl
long-values w [] (e ∷ es) h = absurd (both_ways false refl h)
long-values w (t ∷ ts) [] h = absurd (both_ways false refl h)
long-values w (t ∷ ts) (e ∷ es) h = first (evaluated e w).rest (long-values w ts es h) where
  more : (x : Value) (r : Result (List Value) Fault) → LongAs ts r → LongAs (t ∷ ts) (then_with r (λ xs. Ok (x ∷ xs)))
  more x (Ok xs) o = o
  more x (Err f) o = tt

  first : (r : Result Value Fault) → LongAs ts (evaluated_all es w).rest → LongAs (t ∷ ts) (then_with r (λ x. then_with (evaluated_all es w).rest (λ xs. Ok (x ∷ xs))))
  first (Ok x) o = more x (evaluated_all es w).rest o
  first (Err f) o = tt

pub filter-last : (p : Contribution → Bool) (xs : List Contribution) (a : Contribution) (b : Bool) → p a ≡ b → filter p (xs ++ a ∷ []) ≡ filter p xs ++ cond b (a ∷ []) []
filter-last p [] a b e = ap (λ z. cond z (a ∷ []) []) e
filter-last p (x ∷ xs) a b e = by (p x) (filter-last p xs a b e) where
  by : (z : Bool) → filter p (xs ++ a ∷ []) ≡ filter p xs ++ cond b (a ∷ []) [] → cond z (x ∷ filter p (xs ++ a ∷ [])) (filter p (xs ++ a ∷ [])) ≡ cond z (x ∷ filter p xs) (filter p xs) ++ cond b (a ∷ []) []
  by true h = ap (λ l. x ∷ l) h
  by false h = h

pub get-left : {A : Type 0} (xs ys : List A) (i : ℕ) (x : A) → slice_get xs i ≡ Some x → slice_get (xs ++ ys) i ≡ Some x
get-left [] ys i x e = cc
get-left (z ∷ xs) ys zero x e = e
get-left (z ∷ xs) ys (suc i) x e = get-left xs ys i x e

pub get-right : {A : Type 0} (xs ys : List A) (i : ℕ) (x : A) → slice_get ys i ≡ Some x → slice_get (xs ++ ys) (length xs + i) ≡ Some x
get-right [] ys i x e = ap (slice_get ys) (let z : 0 + i ≡ i = omega arith in z) ∙ e
get-right (y ∷ xs) ys i x e = ap (slice_get (y ∷ (xs ++ ys))) (let z : suc (length xs) + i ≡ suc (length xs + i) = omega arith in z) ∙ get-right xs ys i x e

pub sent-both : (kind : ℕ) (as' : List Away) (g : NumberedGraph) (xs ys : List Contribution) (ms ns : List Message) → AreSent kind as' g xs ms → AreSent kind as' g ys ns → AreSent kind as' g (xs ++ ys) (ms ++ ns)
sent-both kind as' g [] ys [] ns h k = k
sent-both kind as' g [] ys (m ∷ ms) ns h k = absurd h
sent-both kind as' g (x ∷ xs) ys [] ns h k = absurd h
sent-both kind as' g (x ∷ xs) ys (m ∷ ms) ns h k = (h.0, h.1, sent-both kind as' g xs ys ms ns h.2 k)
