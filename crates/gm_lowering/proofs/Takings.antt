-- The handler of a reduction through a node variable takes what was sent.
use Rattle.std.proofs.Common.{◌≡◌, ℕ, suc, true, false, Ok, List, [], ◌∷◌, ◌++◌, length, map, refl, ap, ◌∙◌, sym, append_assoc}
use Rattle.std.specs.Prelude.{◌&&◌, nat_eq}
use Rattle.std.specs.List.{list_all}
use Rattle.std.proofs.lemmas.Bool.{both_ways}
use Rattle.gm_value.specs.declared.values.Value.{Value}
use Rattle.gm_ast.specs.declared.tree.Target.{Target}
use Rattle.gm_ast.specs.declared.tree.Target.TheVariants as T
use Rattle.gm_forms.proofs.Named.{both-true}
use Rattle.gm_image.specs.Parts as parts
use Rattle.gm_image.specs.Program as image
use Rattle.gm_image.specs.Term.{Term}
use Rattle.gm_machine.specs.Expressions.{values, value_at}
use Rattle.gm_machine.specs.Faults.{then_go}
use Rattle.gm_machine.specs.Taking.{contributed}
use Rattle.gm_machine.specs.Vertex.{VertexContext, VertexState, view, line_ends, leaves, goes_on, lines_after}
use Rattle.gm_lowering.specs.Layouts.{Layout}
use Rattle.gm_lowering.specs.Places.{place_index}
use Rattle.gm_lowering.specs.Bodies.{slot_number, image_targets}
use Rattle.gm_lowering.specs.Blocks.{message_values}
use Rattle.gm_lowering.specs.Sites.{same_length, slot_at}
use Rattle.gm_lowering.specs.OwnLoops.{are_any, is_kept_property}
use Rattle.gm_lowering.specs.Takings.{slots_at, TakingHandlersTake}
use Rattle.gm_lowering.proofs.Givens.{terms-of, slots-of}

-- the value behind others
value-behind : (front : List Value) (m : Value) (ms : List Value) → value_at (front ++ (m ∷ ms)) (length front) ≡ m
value-behind [] m ms = refl
value-behind (x ∷ front) m ms = value-behind front m ms

length-push : (front : List Value) (m : Value) → length (front ++ m ∷ []) ≡ suc (length front)
length-push [] m = refl
length-push (x ∷ front) m = ap suc (length-push front m)

-- the values of a message, from one on
message-behind : (s : VertexContext) (w : VertexState) (ts : List Target) (front ms : List Value) → s.message ≡ front ++ ms → same_length ts ms ≡ true
    → values (view s w) (message_values (length front) ts) ≡ Ok ms
message-behind s w [] front [] e o = refl
message-behind s w [] front (m ∷ ms) e o = absurd (both_ways false refl o)
message-behind s w (t ∷ ts) front [] e o = absurd (both_ways false refl o)
message-behind s w (t ∷ ts) front (m ∷ ms) e o =
    ap (λ z. then_go (values (view s w) (message_values (suc (length front)) ts)) (λ vs. Ok (z ∷ vs))) (ap (λ l. value_at l (length front)) e ∙ value-behind front m ms)
    ∙ ap (λ k. then_go (values (view s w) (message_values k ts)) (λ vs. Ok (m ∷ vs))) (sym (length-push front m))
    ∙ ap (λ a. then_go a (λ vs. Ok (m ∷ vs))) (message-behind s w ts (front ++ m ∷ []) ms (e ∙ sym (append_assoc front (m ∷ []) ms)) o)

same-terms : (i : ℕ) (ts : List Target) → same_length ts (message_values i ts) ≡ true
same-terms i [] = refl
same-terms i (t ∷ ts) = same-terms (suc i) ts

-- the numbers of the slots
numbers-at : (c : Layout) (i j : ℕ) (ts : List Target) → list_all (is_kept_property c i) ts ≡ true → map (slot_at c) (slots_at j ts) ≡ map (slot_number c) ts
numbers-at c i j [] h = refl
numbers-at c i j (T.Scalar x at ∷ ts) h = absurd (both_ways false refl h)
numbers-at c i j (T.Property x p at ∷ ts) h = ap (λ l. c.field p ∷ l) (numbers-at c i j ts (both-true (nat_eq x i && c.is_kept p) (list_all (is_kept_property c i) ts) h).1)

pub takings-take : TakingHandlersTake
takings-take c seg v kind i j a s w place some kept long =
    ap (λ u. goes_on (line_ends w u (λ g. leaves (record w { folds = w.folds ++ g }))) (λ k u2. lines_after s [] k u2))
    (ap (λ ys. then_go (values (view s w) ys) (λ vs. Ok (contributed at a.reduce (parts.slots_of targets) vs))) (terms-of c a.targets terms same)
    ∙ ap (λ u. then_go u (λ vs. Ok (contributed at a.reduce (parts.slots_of targets) vs))) (message-behind s w a.targets [] s.message refl long)
    ∙ ap (λ ss. Ok (contributed at a.reduce ss s.message)) (slots-of c a.targets terms same ∙ sym (numbers-at c i j a.targets kept))
    ∙ ap Ok (one a.targets some kept ∙ ap (λ f. record { place = f a.total.key a.total.place; reduce = a.reduce; slots = map (slot_at c) (slots_at j a.targets); values = s.message } ∷ []) (sym place))) where
      terms : List Term
      terms = message_values 0 a.targets

      targets : List image.Target
      targets = image_targets c a.targets (message_values 0 a.targets)

      at : ℕ
      at = place_index seg a.total.key a.total.place

      same : same_length a.targets (message_values 0 a.targets) ≡ true
      same = same-terms 0 a.targets

      one : (ts : List Target) → are_any ts ≡ true → list_all (is_kept_property c i) ts ≡ true
          → contributed at a.reduce (map (slot_at c) (slots_at j ts)) s.message ≡ record { place = at; reduce = a.reduce; slots = map (slot_at c) (slots_at j ts); values = s.message } ∷ []
      one [] o h = absurd (both_ways false refl o)
      one (T.Scalar x p ∷ ts) o h = absurd (both_ways false refl h)
      one (T.Property x p q ∷ ts) o h = refl
