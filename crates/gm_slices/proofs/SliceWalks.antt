-- The walk over an inner body comes to the loops of its slices.
use Rattle.std.proofs.Common.{◌≡◌, Bool, true, false, true≢false, List, [], ◌∷◌, ◌++◌, map, append-nil, refl, sym, ap, ◌∙◌, Result, Ok, Err}
use Rattle.std.specs.Prelude.{◌||◌, if◌then◌else◌, OnOk}
use Rattle.std.proofs.lemmas.List.{append_assoc}
use Rattle.gm_base.specs.declared.places.Place.{Place}
use Rattle.gm_ast.specs.declared.tree.Declaration.{Declaration}
use Rattle.gm_ast.specs.declared.tree.Head.{Head}
use Rattle.gm_ast.specs.declared.tree.Key.{Key}
use Rattle.gm_ast.specs.Program.{Expr, Stmt, Skip, Then, Declare, DeclareEdge, Assign, Defer, Combine, Group, Foreach, For, If, While, Do, InBfs, InBfsBoth, Return, sequence}
use Rattle.gm_cut.specs.Lean.{lean_groups, lean_slices, lean_loop}
use Rattle.gm_cut.specs.Slices.{is_new, statements_of}
use Rattle.gm_slices.specs.SliceWalks.{Nest, goes, waits, is_leaf, is_loop, loops_behind, loops_joined, nested, placed, placed_behind, slice_to, sliced_nest, slices_behind}

module _ (ds : List Declaration) (nest : Nest) where
  abbrev fresh : List Stmt → Bool
  fresh group = is_new ds nest.head.iterator nest.inner_head.iterator group

  abbrev cut : List Stmt → List Stmt → List Stmt → List Stmt → List (List Stmt)
  cut done group wait ss = lean_groups ds nest.head.iterator nest.inner_head.iterator (goes ds nest) done group wait ss

  abbrev slices_from : List Stmt → List (List Stmt) → List Stmt
  slices_from done gs = lean_slices ds nest.head.iterator nest.inner_head.iterator done gs

  abbrev walk : Bool → List Stmt → List Stmt → List Stmt → List Stmt → List Stmt
  walk new done group wait ss = slices_behind ds nest new done group wait ss

  new-more : (group wait : List Stmt) (s : Stmt) → fresh (group ++ (wait ++ (s ∷ []))) ≡ false
  new-more [] [] s = refl
  new-more [] (w ∷ wait) s = refl
  new-more (g ∷ group) wait s = refl

  -- one more statement waits, goes on with the group, or begins another
  step : (done group next ss : List Stmt) (b c : Bool) → slices_from done (cut done group next ss) ≡ walk (fresh group) done group next ss → slices_from done (cut done (group ++ next) [] ss) ≡ walk false done (group ++ next) [] ss →
      slices_from (done ++ group) (cut (done ++ group) next [] ss) ≡ walk false (done ++ group) next [] ss →
      slices_from done (if b then cut done group next ss else if c then cut done (group ++ next) [] ss else group ∷ cut (done ++ group) next [] ss)
      ≡ (if b then walk (fresh group) done group next ss else if c then walk false done (group ++ next) [] ss else slice_to ds nest done group ∷ walk false (done ++ group) next [] ss)
  step done group next ss true c p q r = p
  step done group next ss false true p q r = q
  step done group next ss false false p q r = ap (λ l. slice_to ds nest done group ∷ l) r

  -- the groups of what is left, and then their slices, are what the walk comes to
  groups-walk : (done group wait ss : List Stmt) → slices_from done (cut done group wait ss) ≡ walk (fresh group) done group wait ss
  groups-walk done group wait [] = refl
  groups-walk done group wait (s ∷ ss) =
      let next = wait ++ (s ∷ []) in
      step done group next ss (waits ds nest s) (fresh group || goes ds nest (slice_to ds nest done (group ++ next))) (groups-walk done group next ss)
      (groups-walk done (group ++ next) [] ss ∙ ap (λ b. walk b done (group ++ next) [] ss) (new-more group wait s))
      (groups-walk (done ++ group) next [] ss ∙ ap (λ b. walk b (done ++ group) next [] ss) (new-more [] wait s))

  -- a loop whose body is an inner loop
  pub nest_sliced : (body : Stmt) → sliced_nest ds nest body ≡ lean_loop ds nest.key nest.place nest.head nest.mask (Foreach nest.inner_key nest.inner_place nest.inner_head nest.test body)
  nest_sliced body =
      ap (λ l. if goes ds nest body then nested nest body else sequence (map (nested nest) l)) (sym (groups-walk [] [] [] (statements_of body)))

module _ (ds : List Declaration) (nest : Nest) where
  -- what a walk has come to, and what is left
  abbrev all : List Stmt → Bool → List Stmt → List Stmt → List Stmt → List Stmt → List Stmt
  all loops new done group wait ss = loops ++ loops_behind ds nest new done group wait ss

  -- the statements that wait are joined to the group
  pub joins : (l d g g' w w' ss : List Stmt) (new : Bool) → g' ≡ g ++ w → w' ≡ [] → new ≡ false → all l new d g' w' ss ≡ l ++ loops_joined ds nest d (g ++ w) ss
  joins l d g g' w w' ss new e f h = ap (λ x. all l x d g' w' ss) h ∙ ap (λ x. all l false d x w' ss) e ∙ ap (λ x. all l false d (g ++ w) x ss) f

  -- a group ends
  pub ends : (l l' d d' g g' nothing w ss : List Stmt) → l' ≡ l ++ (nested nest (slice_to ds nest d (g ++ nothing)) ∷ []) → nothing ≡ [] → d' ≡ d ++ g → g' ≡ [] →
      l' ++ loops_joined ds nest d' (g' ++ w) ss ≡ l ++ (nested nest (slice_to ds nest d g) ∷ loops_joined ds nest (d ++ g) w ss)
  ends l l' d d' g g' nothing w ss e f h i =
      ap (λ x. x ++ loops_joined ds nest d' (g' ++ w) ss) e ∙ ap (λ x. (l ++ (nested nest (slice_to ds nest d (g ++ nothing)) ∷ [])) ++ loops_joined ds nest x (g' ++ w) ss) h
      ∙ ap (λ x. (l ++ (nested nest (slice_to ds nest d (g ++ nothing)) ∷ [])) ++ loops_joined ds nest (d ++ g) (x ++ w) ss) i
      ∙ append_assoc l (nested nest (slice_to ds nest d (g ++ nothing)) ∷ []) (loops_joined ds nest (d ++ g) w ss)
      ∙ ap (λ x. l ++ (nested nest (slice_to ds nest d x) ∷ loops_joined ds nest (d ++ g) w ss)) (ap (λ x. g ++ x) f ∙ append-nil g)

  -- those that wait go on with the group
  pub goes-on : (l d g w ss : List Stmt) (new : Bool) → new || goes ds nest (slice_to ds nest d (g ++ w)) ≡ true → l ++ loops_joined ds nest d (g ++ w) ss ≡ l ++ placed ds nest new d g w ss
  goes-on l d g w ss new e =
      ap (λ x. l ++ map (nested nest) (if x then slices_behind ds nest false d (g ++ w) [] ss else slice_to ds nest d g ∷ slices_behind ds nest false (d ++ g) w [] ss)) (sym e)

  -- or begin another
  pub begins : (l d g w ss : List Stmt) (new : Bool) → new || goes ds nest (slice_to ds nest d (g ++ w)) ≡ false →
      l ++ (nested nest (slice_to ds nest d g) ∷ loops_joined ds nest (d ++ g) w ss) ≡ l ++ placed ds nest new d g w ss
  begins l d g w ss new e =
      ap (λ x. l ++ map (nested nest) (if x then slices_behind ds nest false d (g ++ w) [] ss else slice_to ds nest d g ∷ slices_behind ds nest false (d ++ g) w [] ss)) (sym e)

  -- a statement that only sets locals waits
  pub waits-more : (l d g w ss : List Stmt) (s : Stmt) (new : Bool) → waits ds nest s ≡ true → all l new d g (w ++ (s ∷ [])) ss ≡ all l new d g w (s ∷ ss)
  waits-more l d g w ss s new e =
      ap (λ x. l ++ map (nested nest) (if x then slices_behind ds nest new d g (w ++ (s ∷ [])) ss else placed_behind ds nest new d g (w ++ (s ∷ [])) ss)) (sym e)

  -- one that does more is placed with those that wait
  pub places : (l d g w ss : List Stmt) (s : Stmt) (new : Bool) → waits ds nest s ≡ false → l ++ placed ds nest new d g (w ++ (s ∷ [])) ss ≡ all l new d g w (s ∷ ss)
  places l d g w ss s new e =
      ap (λ x. l ++ map (nested nest) (if x then slices_behind ds nest new d g (w ++ (s ∷ [])) ss else placed_behind ds nest new d g (w ++ (s ∷ [])) ss)) (sym e)

-- a loop whose body is no inner loop
pub whole_other : (ds : List Declaration) (k : Key) (at : Place) (h : Head) (mask : Expr) (s : Stmt) → is_loop s ≡ false → Foreach k at h mask s ≡ lean_loop ds k at h mask s
whole_other ds k at h mask Skip e = refl
whole_other ds k at h mask (Then a b) e = refl
whole_other ds k at h mask (Declare j x v) e = refl
whole_other ds k at h mask (DeclareEdge x y here) e = refl
whole_other ds k at h mask (Assign j t v) e = refl
whole_other ds k at h mask (Defer j t v) e = refl
whole_other ds k at h mask (Combine j total r ts es) e = refl
whole_other ds k at h mask (Group j here g p v) e = refl
whole_other ds k at h mask (Foreach j here inner test body) e = absurd (true≢false e)
whole_other ds k at h mask (For j here inner test body) e = refl
whole_other ds k at h mask (If j c a b) e = refl
whole_other ds k at h mask (While j here c body) e = refl
whole_other ds k at h mask (Do j here body c) e = refl
whole_other ds k at h mask (InBfs j here s test body) e = refl
whole_other ds k at h mask (InBfsBoth j here s test body back_key back_test back) e = refl
whole_other ds k at h mask (Return j here v) e = refl

pub whole_block : (ds : List Declaration) (k : Key) (at : Place) (h : Head) (mask : Expr) (xs : List Stmt) → Foreach k at h mask (sequence xs) ≡ lean_loop ds k at h mask (sequence xs)
whole_block ds k at h mask [] = refl
whole_block ds k at h mask (x ∷ xs) = refl

-- a statement that is neither a block nor an If is opened alone
pub opened_leaf : (s : Stmt) → is_leaf s ≡ true → s ∷ [] ≡ statements_of s
opened_leaf Skip e = absurd (true≢false (sym e))
opened_leaf (Then a b) e = absurd (true≢false (sym e))
opened_leaf (Declare k x v) e = refl
opened_leaf (DeclareEdge x y at) e = refl
opened_leaf (Assign k t v) e = refl
opened_leaf (Defer k t v) e = refl
opened_leaf (Combine k total r ts es) e = refl
opened_leaf (Group k at g p v) e = refl
opened_leaf (Foreach k at h test body) e = refl
opened_leaf (For k at h test body) e = refl
opened_leaf (If k c a b) e = absurd (true≢false (sym e))
opened_leaf (While k at c body) e = refl
opened_leaf (Do k at body c) e = refl
opened_leaf (InBfs k at s test body) e = refl
opened_leaf (InBfsBoth k at s test body back_key back_test back) e = refl
opened_leaf (Return k at v) e = refl

-- what is there goes on with a statement's, and then what is left
pub opened-more : {A : Type 0} (xs ys first rest all : List A) → ys ≡ xs ++ first → xs ++ (first ++ rest) ≡ all → ys ++ rest ≡ all
opened-more xs ys first rest all e f = ap (λ l. l ++ rest) e ∙ append_assoc xs first rest ∙ f

-- what is made where all went well follows from what else is
pub on-then : {A E : Type 0} {P Q : Type 0} (r : Result A E) → OnOk r P → (P → Q) → OnOk r Q
on-then (Ok x) p f = f p
on-then (Err e) p f = tt
