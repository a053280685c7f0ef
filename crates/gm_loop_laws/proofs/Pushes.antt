-- What rewritten bodies push is what they pushed.
use Rattle.std.proofs.Common.{◌≡◌, ℕ, Bool, true, false, cond, List, [], ◌∷◌, map, refl, sym, ap, ◌∙◌, Option, Some, None}
use Rattle.std.specs.Prelude.{◌||◌, ◌&&◌, not, nat_eq}
use Rattle.std.specs.List.{list_any}
use Rattle.std.proofs.lemmas.Bool.{eq-eqb, both_ways}
use Rattle.gm_base.specs.declared.places.Place.{Place}
use Rattle.gm_value.specs.declared.values.Value.{Value}
use Rattle.gm_ast.specs.declared.tree.Key.{Key}
use Rattle.gm_ast.specs.declared.tree.Target.{Target}
use Rattle.gm_ast.specs.declared.tree.Target.TheVariants as T
use Rattle.gm_ast.specs.Program.{Const, Stmt, Skip, Then, Declare, DeclareEdge, Assign, Defer, Combine, Group, Foreach, For, If, While, Do, InBfs, InBfsBoth, Return}
use Rattle.gm_semantics.specs.Loops.{is_elsewhere, pushes}
use Rattle.gm_forms.proofs.Named.{both-true}
use Rattle.gm_loop_laws.specs.Masks.{is_certain}
use Rattle.gm_loop_laws.specs.Conditions.{saved_if, conditions_saved}
use Rattle.gm_loop_laws.specs.Deferring.{undeferred}
use Rattle.gm_loop_laws.specs.Localised.{moved_in, moved_target, moved}
use Rattle.gm_loop_laws.specs.Slices.{is_idle, sliced}

either-same : (a b c d : Bool) → a ≡ c → b ≡ d → a || b ≡ c || d
either-same a b c d p q = ap (λ z. z || b) p ∙ ap (λ z. c || z) q

-- with saved conditions
pub saved-pushes : (local : Key → Option ℕ) (place : Place) (n p : ℕ) (s : Stmt) → pushes (conditions_saved local place s) n p ≡ pushes s n p
saved-pushes local place n p Skip = refl
saved-pushes local place n p (Then a b) = either-same _ _ _ _ (saved-pushes local place n p a) (saved-pushes local place n p b)
saved-pushes local place n p (Declare k y e) = refl
saved-pushes local place n p (DeclareEdge y z at) = refl
saved-pushes local place n p (Assign k t e) = refl
saved-pushes local place n p (Defer k t e) = refl
saved-pushes local place n p (Combine k total r ts es) = refl
saved-pushes local place n p (Group k at g o e) = refl
saved-pushes local place n p (Foreach k at h test body) = refl
saved-pushes local place n p (For k at h test body) = refl
saved-pushes local place n p (If k c a b) = by (local k) ∙ either-same _ _ _ _ (saved-pushes local place n p a) (saved-pushes local place n p b)
  where
    by : (o : Option ℕ) → pushes (saved_if o place k c (conditions_saved local place a) (conditions_saved local place b)) n p ≡ pushes (conditions_saved local place a) n p || pushes (conditions_saved local place b) n p
    by None = refl
    by (Some y) = refl
saved-pushes local place n p (While k at c body) = refl
saved-pushes local place n p (Do k at body c) = refl
saved-pushes local place n p (InBfs k at h c body) = refl
saved-pushes local place n p (InBfsBoth k at h c body back_key d back) = refl
saved-pushes local place n p (Return k at e) = refl

-- with deferred writes moved
pub undeferred-pushes : (r q n p : ℕ) (s : Stmt) → pushes (undeferred r q s) n p ≡ pushes s n p
undeferred-pushes r q n p Skip = refl
undeferred-pushes r q n p (Then a b) = either-same _ _ _ _ (undeferred-pushes r q n p a) (undeferred-pushes r q n p b)
undeferred-pushes r q n p (Declare k y e) = refl
undeferred-pushes r q n p (DeclareEdge y z at) = refl
undeferred-pushes r q n p (Assign k t e) = refl
undeferred-pushes r q n p (Defer k (T.Scalar y at) e) = refl
undeferred-pushes r q n p (Defer k (T.Property y o at) e) = by (nat_eq o r)
  where
    by : (b : Bool) → pushes (cond b (Assign k (T.Property y q at) e) (Defer k (T.Property y o at) e)) n p ≡ false
    by true = refl
    by false = refl
undeferred-pushes r q n p (Combine k total o ts es) = refl
undeferred-pushes r q n p (Group k at g o e) = refl
undeferred-pushes r q n p (Foreach k at h test body) = refl
undeferred-pushes r q n p (For k at h test body) = refl
undeferred-pushes r q n p (If k c a b) = either-same _ _ _ _ (undeferred-pushes r q n p a) (undeferred-pushes r q n p b)
undeferred-pushes r q n p (While k at c body) = refl
undeferred-pushes r q n p (Do k at body c) = refl
undeferred-pushes r q n p (InBfs k at h c body) = refl
undeferred-pushes r q n p (InBfsBoth k at h c body back_key d back) = refl
undeferred-pushes r q n p (Return k at e) = refl

-- with a local in a property of the iterator
targets-moved : (x q n p : ℕ) (place : Place) (zero : Value) (ts : List Target) → list_any (is_elsewhere n p) (map (moved_target x q n place zero) ts) ≡ list_any (is_elsewhere n p) ts
targets-moved x q n p place zero [] = refl
targets-moved x q n p place zero (T.Scalar y at ∷ ts) = either-same _ _ _ _ (by (nat_eq y x)) (targets-moved x q n p place zero ts)
  where
    by : (b : Bool) → is_elsewhere n p (cond b (T.Property n q at) (T.Scalar y at)) ≡ false
    by true = ap (λ c. not c && nat_eq q p) (eq-eqb n n refl)
    by false = refl
targets-moved x q n p place zero (T.Property y o at ∷ ts) = ap (λ c. is_elsewhere n p (T.Property y o at) || c) (targets-moved x q n p place zero ts)

pub moved-pushes : (x q n p : ℕ) (place : Place) (zero : Value) (s : Stmt) → pushes (moved x q n place zero s) n p ≡ pushes s n p
moved-pushes x q n p place zero Skip = refl
moved-pushes x q n p place zero (Then a b) = either-same _ _ _ _ (moved-pushes x q n p place zero a) (moved-pushes x q n p place zero b)
moved-pushes x q n p place zero (Declare k y None) = by (nat_eq y x)
  where
    by : (b : Bool) → pushes (cond b (Assign k (T.Property n q place) (Const zero)) (Declare k y None)) n p ≡ false
    by true = refl
    by false = refl
moved-pushes x q n p place zero (Declare k y (Some e)) = by (nat_eq y x)
  where
    by : (b : Bool) → pushes (cond b (Assign k (T.Property n q place) (moved_in x q n place zero e)) (Declare k y (Some (moved_in x q n place zero e)))) n p ≡ false
    by true = refl
    by false = refl
moved-pushes x q n p place zero (DeclareEdge y z at) = refl
moved-pushes x q n p place zero (Assign k t e) = refl
moved-pushes x q n p place zero (Defer k t e) = refl
moved-pushes x q n p place zero (Combine k total r ts es) = targets-moved x q n p place zero ts
moved-pushes x q n p place zero (Group k at g o e) = refl
moved-pushes x q n p place zero (Foreach k at h test body) = moved-pushes x q n p place zero body
moved-pushes x q n p place zero (For k at h test body) = refl
moved-pushes x q n p place zero (If k c a b) = either-same _ _ _ _ (moved-pushes x q n p place zero a) (moved-pushes x q n p place zero b)
moved-pushes x q n p place zero (While k at c body) = refl
moved-pushes x q n p place zero (Do k at body c) = refl
moved-pushes x q n p place zero (InBfs k at h c body) = refl
moved-pushes x q n p place zero (InBfsBoth k at h c body back_key d back) = refl
moved-pushes x q n p place zero (Return k at e) = refl

-- an idle statement pushes nothing
idle-pushes : (gone its : List ℕ) (n p : ℕ) (s : Stmt) → is_idle gone its s ≡ true → pushes s n p ≡ false
idle-pushes gone its n p Skip h = refl
idle-pushes gone its n p (Then a b) h = let r = both-true (is_idle gone its a) (is_idle gone its b) h in either-same _ _ _ _ (idle-pushes gone its n p a r.0) (idle-pushes gone its n p b r.1)
idle-pushes gone its n p (Declare k y e) h = refl
idle-pushes gone its n p (DeclareEdge y z at) h = refl
idle-pushes gone its n p (Assign k t e) h = refl
idle-pushes gone its n p (Defer k t e) h = refl
idle-pushes gone its n p (Combine k total r ts es) h = absurd (both_ways false refl h)
idle-pushes gone its n p (Group k at g o e) h = refl
idle-pushes gone its n p (Foreach k at head test body) h = absurd (both_ways false refl h)
idle-pushes gone its n p (For k at head test body) h = refl
idle-pushes gone its n p (If k c a b) h =
    let q = both-true (is_certain its c) (is_idle gone its a && is_idle gone its b) h in
    let r = both-true (is_idle gone its a) (is_idle gone its b) q.1 in
    either-same _ _ _ _ (idle-pushes gone its n p a r.0) (idle-pushes gone its n p b r.1)
idle-pushes gone its n p (While k at c body) h = refl
idle-pushes gone its n p (Do k at body c) h = refl
idle-pushes gone its n p (InBfs k at head c body) h = refl
idle-pushes gone its n p (InBfsBoth k at head c body back_key d back) h = refl
idle-pushes gone its n p (Return k at e) h = refl

-- and so does a slice
pub sliced-pushes : (gone its : List ℕ) (n p : ℕ) (s : Stmt) → pushes (sliced gone its s) n p ≡ pushes s n p
sliced-pushes gone its n p Skip = refl
sliced-pushes gone its n p (Then a b) = either-same _ _ _ _ (sliced-pushes gone its n p a) (sliced-pushes gone its n p b)
sliced-pushes gone its n p (Declare k y e) = by (is_idle gone its (Declare k y e))
  where
    by : (b : Bool) → pushes (cond b Skip (Declare k y e)) n p ≡ false
    by true = refl
    by false = refl
sliced-pushes gone its n p (DeclareEdge y z at) = refl
sliced-pushes gone its n p (Assign k t e) = by (is_idle gone its (Assign k t e))
  where
    by : (b : Bool) → pushes (cond b Skip (Assign k t e)) n p ≡ false
    by true = refl
    by false = refl
sliced-pushes gone its n p (Defer k t e) = refl
sliced-pushes gone its n p (Combine k total r ts es) = refl
sliced-pushes gone its n p (Group k at g o e) = refl
sliced-pushes gone its n p (Foreach k at head test body) = sliced-pushes gone (head.iterator ∷ its) n p body
sliced-pushes gone its n p (For k at h test body) = refl
sliced-pushes gone its n p (If k c a b) = by (is_idle gone its (If k c a b)) refl (either-same _ _ _ _ (sliced-pushes gone its n p a) (sliced-pushes gone its n p b))
  where
    by : (o : Bool) → is_idle gone its (If k c a b) ≡ o → pushes (sliced gone its a) n p || pushes (sliced gone its b) n p ≡ pushes a n p || pushes b n p → pushes (cond o Skip (If k c (sliced gone its a) (sliced gone its b))) n p ≡ pushes a n p || pushes b n p
    by true e h = sym (idle-pushes gone its n p (If k c a b) e)
    by false e h = h
sliced-pushes gone its n p (While k at c body) = refl
sliced-pushes gone its n p (Do k at body c) = refl
sliced-pushes gone its n p (InBfs k at h c body) = refl
sliced-pushes gone its n p (InBfsBoth k at h c body back_key d back) = refl
sliced-pushes gone its n p (Return k at e) = refl
