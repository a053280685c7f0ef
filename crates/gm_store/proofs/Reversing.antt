-- Writes that are taken back: laws of `undone`, and what stays the same over a course of logged writes.
use Rattle.std.proofs.Common.{◌≡◌, ◌≤◌, ℕ, Bool, true, false, nat_eq, ◌&&◌, if◌then◌else◌, List, [], ◌∷◌, ◌++◌, length, take, drop, refl, ap, sym, ◌∙◌, arith, append_assoc, length-append}
use Rattle.std.proofs.Math.Path.{fun_ext}
use Rattle.std.proofs.lemmas.Bool.{eqb-true}
use Rattle.std.proofs.lemmas.List.{append-nil, take_at, drop_at}
use Rattle.gm_value.specs.declared.values.Value.{Value}
use Rattle.gm_semantics.specs.declared.slots.Slot.{Slot}
use Rattle.gm_semantics.specs.declared.slots.Slot.TheVariants.{Scalar, Node}
use Rattle.gm_semantics.specs.declared.slots.Write.{Write}
use Rattle.gm_semantics.specs.Stores as S
use Rattle.gm_store.specs.Held.{Held, held_at, store_of, shape_of, undone, Reversible, Restored}

-- of two logs, one after the other, the second is taken back first
pub undone-append : (s : S.Store) (ws us : List Write) → undone s (ws ++ us) ≡ undone (undone s us) ws
undone-append s [] us = refl
undone-append s (w ∷ ws) us = ap (λ t. S.write t w.slot w.value) (undone-append s ws us)

-- writing back what a slot held gives the store before the write
pub write-back : (s : S.Store) (slot : Slot) (v : Value) → S.write (S.write s slot v) slot (S.read s slot) ≡ s
write-back s (Scalar x) v = ap (λ f. record s { scalar = f }) (fun_ext (λ y. by_test y (nat_eq x y) refl)) where
  by_test : (y : ℕ) (b : Bool) → nat_eq x y ≡ b → (if b then s.scalar x else (if b then v else s.scalar y)) ≡ s.scalar y
  by_test y true same = ap s.scalar (eqb-true x y same)
  by_test y false other = refl
write-back s (Node p n) v = ap (λ f. record s { node = f }) (fun_ext (λ q. fun_ext (λ m. by_tests q m (nat_eq p q) (nat_eq n m) refl refl))) where
  by_tests : (q m : ℕ) (b d : Bool) → nat_eq p q ≡ b → nat_eq n m ≡ d →
      (if b && d then s.node p n else (if b && d then v else s.node q m)) ≡ s.node q m
  by_tests q m true true same_row same_node = ap (λ k. s.node k n) (eqb-true p q same_row) ∙ ap (s.node q) (eqb-true n m same_node)
  by_tests q m true false same_row other = refl
  by_tests q m false d other any = refl

-- what a slot holds is what is read of the store that is held
pub read-held : (edge : ℕ → ℕ → Value) (h : Held) (slot : Slot) → S.read (store_of edge h) slot ≡ held_at h slot
read-held edge h (Scalar x) = refl
read-held edge h (Node p n) = refl

-- nothing was written
pub Reversible-refl : (h : Held) → Reversible h h
Reversible-refl h = record { shape = refl; more = []; logged = sym (append-nil h.undo); back = λ edge. refl }

-- one course after another
pub Reversible-trans : (a b c : Held) → Reversible a b → Reversible b c → Reversible a c
Reversible-trans a b c first second = record {
  shape = second.shape ∙ first.shape;
  more = first.more ++ second.more;
  logged = second.logged ∙ ap (λ ws. ws ++ second.more) first.logged ∙ append_assoc a.undo first.more second.more;
  back = λ edge.
      undone-append (store_of edge c) first.more second.more
      ∙ ap (λ s. undone s first.more) (second.back edge)
      ∙ first.back edge;
}

-- a logged write
pub Reversible-write : (old new : Held) (slot : Slot) (v : Value) →
    ((edge : ℕ → ℕ → Value) → store_of edge new ≡ S.write (store_of edge old) slot v) →
    new.undo ≡ old.undo ++ record { slot = slot; value = held_at old slot } ∷ [] → shape_of new ≡ shape_of old → Reversible old new
Reversible-write old new slot v written logged shape = record {
  shape = shape;
  more = record { slot = slot; value = held_at old slot } ∷ [];
  logged = logged;
  back = λ edge.
      ap (λ s. S.write s slot (held_at old slot)) (written edge)
      ∙ ap (λ u. S.write (S.write (store_of edge old) slot v) slot u) (sym (read-held edge old slot))
      ∙ write-back (store_of edge old) slot v;
}

-- the log has not become shorter
pub Reversible-mark : (old new : Held) → Reversible old new → length old.undo ≤ length new.undo
Reversible-mark old new course = omega (arith, ap length course.logged, length-append old.undo course.more)

-- the writes of a course are what stands in the log from its mark on
pub Reversible-drop : (old new : Held) (course : Reversible old new) → drop (length old.undo) new.undo ≡ course.more
Reversible-drop old new course = ap (drop (length old.undo)) course.logged ∙ drop_at old.undo course.more (length old.undo) refl

-- rolling back to the mark at which a course began gives what was
pub Restored-rolled_back : (old mid new : Held) → Reversible old mid →
    ((edge : ℕ → ℕ → Value) → store_of edge new ≡ undone (store_of edge mid) (drop (length old.undo) mid.undo)) →
    new.undo ≡ take (length old.undo) mid.undo → shape_of new ≡ shape_of mid → Restored old new
Restored-rolled_back old mid new course store undo shape = record {
  store = λ edge. store edge ∙ ap (undone (store_of edge mid)) (Reversible-drop old mid course) ∙ course.back edge;
  undo = undo ∙ ap (take (length old.undo)) course.logged ∙ take_at old.undo course.more (length old.undo) refl;
  shape = shape ∙ course.shape;
}
