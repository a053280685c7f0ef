-- A condition that stands for values at the nodes, and what a body with it may be cut as.
use Rattle.std.proofs.Common.{int_eq, ◌≡◌, ◌<◌, ℕ, Bool, true, false, cond, List, [], ◌∷◌, ◌++◌, refl, sym, ap, subst, ◌∙◌, append-nil, Some, Ok, ⊎_elim, inl, inr, pos}
use Rattle.std.specs.Prelude.{◌⊎◌, ◌&&◌, not, nat_lt}
use Rattle.std.specs.List.{list_all}
use Rattle.std.proofs.lemmas.Bool.{both_ways}
use Rattle.std.proofs.lemmas.Bool.Decides.{Decides-int_eq}
use Rattle.gm_base.specs.declared.places.Place.{Place}
use Rattle.gm_value.specs.declared.values.Value.{Value}
use Rattle.gm_value.specs.declared.values.Value.TheVariants.{At, Flag}
use Rattle.gm_value.specs.declared.operations.Op2.TheVariants.{Eq}
use Rattle.gm_value.specs.Bag.{IsIn}
use Rattle.gm_value.specs.Numbers.{number_of}
use Rattle.gm_ast.specs.declared.tree.Declaration.{Declaration}
use Rattle.gm_ast.specs.declared.tree.Key.{Key}
use Rattle.gm_ast.specs.Keys as K
use Rattle.gm_ast.specs.Ways.{is_in}
use Rattle.gm_ast.specs.Program.{Expr, Const, Var, Property, Binary, Choose, Stmt, Skip, Then, If}
use Rattle.gm_semantics.specs.Expressions.{Answer, settled, plain, choice, evaluated, value}
use Rattle.gm_semantics.specs.Iterations.{Loop, Mode, Iteration, view_in}
use Rattle.gm_model.specs.Graphs.{node_count}
use Rattle.gm_forms.specs.Forms.{depth_at, is_flat, is_outer_body}
use Rattle.gm_forms.specs.Cut.{keeps_iterators}
use Rattle.gm_forms.specs.Order.{lie_before, rest_in, hoisted_in, hoists_in_order, faults_in, in_order, faults_of, body_in_order, loop_in_order}
use Rattle.gm_forms.specs.Sharing.{Read, Sights, with_reads, reads_in, told_in, sights_in, sights_of, read_elsewhere, read_anywhere, deferred, Reduced, reduced, pushed_in, owned_in, disjoint}
use Rattle.gm_forms.specs.Fission.{left, changed, reduced_locals, pushed_properties, all_agree_with, reduces_whole, is_nil, can_cut}
use Rattle.gm_forms.proofs.Named.{both-true}
use Rattle.gm_forms.proofs.Weaker.{and-true}
use Rattle.gm_forms.proofs.Doings.{in-left, in-right, in-either}
use Rattle.gm_forms.proofs.CutTests.{found, finds, not-true}
use Rattle.gm_loop_laws.specs.Masks.{is_certain}
use Rattle.gm_loop_laws.proofs.Masks.{certain}

-- the value of each node among some, by what the iterator holds
abbrev pub chosen : ℕ → Place → (ℕ → Value) → List ℕ → Expr
chosen n at f [] = Const (Flag false)
chosen n at f (k ∷ ks) = Choose (Binary Eq at (Var n at) (Const (At (Some k)))) (Const (f k)) (chosen n at f ks)

pub chosen-certain : (n : ℕ) (at : Place) (f : ℕ → Value) (ks : List ℕ) → is_certain (n ∷ []) (chosen n at f ks) ≡ true
chosen-certain n at f [] = refl
chosen-certain n at f (k ∷ ks) = chosen-certain n at f ks

-- which it is
pub chosen-value : (loop : Loop) (m : Mode) (it : Iteration) (key : Key) (x : ℕ) → x < node_count loop.graph → it.store.scalar loop.outer ≡ At (Some x) → (at : Place) (f : ℕ → Value) (ks : List ℕ) → IsIn x ks →
    value (chosen loop.outer at f ks) (view_in loop m it key) ≡ Ok (f x)
chosen-value loop m it key x less holds at f [] i = absurd i
chosen-value loop m it key x less holds at f (k ∷ ks) i =
    let w = view_in loop m it key in
    let rest = certain loop m it key x less holds (chosen loop.outer at f ks) (chosen-certain loop.outer at f ks) in
    ap (λ v. settled (choice (plain (Ok (Flag (int_eq (number_of v) (pos k))))) (plain (Ok (f k))) (evaluated (chosen loop.outer at f ks) w))) holds
    ∙ ap (λ e. settled (choice (plain (Ok (Flag (int_eq (pos x) (pos k))))) (plain (Ok (f k))) e)) rest.1
    ∙ by (int_eq (pos x) (pos k)) refl rest.0
    (λ r. sym (ap settled rest.1) ∙ chosen-value loop m it key x less holds at f ks r) i
  where
    by : (b : Bool) → int_eq (pos x) (pos k) ≡ b → (v : Value) → (IsIn x ks → ◌≡◌ {A = Answer} (Ok v) (Ok (f x))) → IsIn x (k ∷ ks) → settled (choice (plain (Ok (Flag b))) (plain (Ok (f k))) (plain (Ok v))) ≡ Ok (f x)
    by true e v h i = let same : pos x ≡ pos k = (Decides-int_eq (pos x) (pos k)).0 e in let one : x ≡ k = cc in let ok : Value → Answer = λ v. Ok v in ap (λ z. ok (f z)) (sym one)
    by false e v h i = ⊎_elim (λ (one : x ≡ k). absurd (both_ways (int_eq (pos x) (pos k)) e ((Decides-int_eq (pos x) (pos k)).1 (ap pos one)))) (λ r. h r) i

-- it reads the iterator alone, and has no fault
module _ (n : ℕ) (at : Place) (f : ℕ → Value) where
  pub chosen-flat : (ks : List ℕ) → is_flat (n ∷ []) false (chosen n at f ks) ≡ true
  chosen-flat [] = refl
  chosen-flat (k ∷ ks) = chosen-flat ks

  pub chosen-reads : (ks : List ℕ) → reads_in (chosen n at f ks) ≡ []
  chosen-reads [] = refl
  chosen-reads (k ∷ ks) = chosen-reads ks

  pub chosen-told : (ks : List ℕ) (y : ℕ) → IsIn y (told_in (chosen n at f ks)) → y ≡ n
  chosen-told [] y i = absurd i
  chosen-told (k ∷ ks) y i = ⊎_elim (λ (e : y ≡ n). e) (λ r. chosen-told ks y r) i

  pub chosen-rest : (ks : List ℕ) (k : Key) → rest_in (chosen n at f ks) k ≡ []
  chosen-rest [] k = refl
  chosen-rest (j ∷ ks) k = chosen-rest ks k

  pub chosen-hoisted : (ks : List ℕ) → hoisted_in (chosen n at f ks) ≡ []
  chosen-hoisted [] = refl
  chosen-hoisted (j ∷ ks) = chosen-hoisted ks

  pub chosen-hoists : (ks : List ℕ) → hoists_in_order (chosen n at f ks) ≡ true
  chosen-hoists [] = refl
  chosen-hoists (j ∷ ks) =
      ap (λ b. b && (lie_before [] (hoisted_in (chosen n at f ks)) && lie_before [] (hoisted_in (chosen n at f ks)))) (chosen-hoists ks)
      ∙ ap (λ l. lie_before [] l && lie_before [] l) (chosen-hoisted ks)

-- lists with no number in common
pub disjoint-apart : (xs ys : List ℕ) (y : ℕ) → disjoint xs ys ≡ true → IsIn y xs → IsIn y ys → ⊥
disjoint-apart [] ys y h i j = i
disjoint-apart (x ∷ xs) ys y h i j =
    let r = both-true (not (is_in ys x)) (disjoint xs ys) h in
    ⊎_elim (λ (e : y ≡ x). both_ways (is_in ys x) (not-true (is_in ys x) r.0) (finds ys x (subst (λ z. IsIn z ys) e j))) (λ k. disjoint-apart xs ys y r.1 k j) i

pub apart-disjoint : (xs ys : List ℕ) → ((y : ℕ) → IsIn y xs → IsIn y ys → ⊥) → disjoint xs ys ≡ true
apart-disjoint [] ys h = refl
apart-disjoint (x ∷ xs) ys h = and-true (not (is_in ys x)) (disjoint xs ys) (out (is_in ys x) refl) (apart-disjoint xs ys (λ y i j. h y (inr i) j))
  where
    out : (b : Bool) → is_in ys x ≡ b → not b ≡ true
    out true e = absurd (h x (inl refl) (found ys x e))
    out false e = refl

-- the parts of a cut's test
module _ (ds : List Declaration) (n m : ℕ) (key : Key) (at : Place) (pushed : List ℕ) (a b : Stmt) where
  abbrev mask : Expr
  mask = Property n m at

  abbrev seen : Sights
  seen = with_reads (sights_in mask) (sights_of ds n false (Then a b))

  abbrev all : List Reduced
  all = reduced ds n false (Then a b)

  pub record CutParts : Type 0 where
    pub outer : is_outer_body ds false n (Then a b) ≡ true
    pub nothing : is_nil (deferred (Then a b)) ≡ true
    pub order : loop_in_order (n ∷ []) key mask (Then a b) ≡ true
    pub agree : all_agree_with pushed all ≡ true
    pub pushes : list_all (is_in pushed) (pushed_properties n (Then a b)) ≡ true
    pub quiet : disjoint (pushed_in all ++ pushed) (read_anywhere seen.properties ++ (seen.scalars ++ left ds n (Then a b))) ≡ true
    pub away : disjoint (changed ds n (Then a b)) (read_elsewhere n seen.properties) ≡ true
    pub shallow : nat_lt (depth_at ds n) 2 ≡ true
    pub iterator : not (is_in (changed ds n (Then a b)) n) ≡ true
    pub saved : not (is_in (changed ds n a) m) ≡ true
    pub locals : disjoint (changed ds n a) ((sights_of ds n false b).scalars ++ reduced_locals ds b) ≡ true
    pub whole : reduces_whole ds n pushed false (Then a b) ≡ true
    pub keeps : keeps_iterators (Then a b) ≡ true

  pub cut-parts : can_cut ds n m key at pushed a b ≡ true → CutParts
  cut-parts h =
      let c1 = both-true (is_outer_body ds false n (Then a b)) _ h in
      let c2 = both-true (is_nil (deferred (Then a b))) _ c1.1 in
      let c3 = both-true (loop_in_order (n ∷ []) key mask (Then a b)) _ c2.1 in
      let c4 = both-true (all_agree_with pushed all) _ c3.1 in
      let c5 = both-true (list_all (is_in pushed) (pushed_properties n (Then a b))) _ c4.1 in
      let c6 = both-true (disjoint (pushed_in all ++ pushed) (read_anywhere seen.properties ++ (seen.scalars ++ left ds n (Then a b)))) _ c5.1 in
      let c7 = both-true (disjoint (changed ds n (Then a b)) (read_elsewhere n seen.properties)) _ c6.1 in
      let c8 = both-true (nat_lt (depth_at ds n) 2) _ c7.1 in
      let c9 = both-true (not (is_in (changed ds n (Then a b)) n)) _ c8.1 in
      let c10 = both-true (not (is_in (changed ds n a) m)) _ c9.1 in
      let c11 = both-true (disjoint (changed ds n a) ((sights_of ds n false b).scalars ++ reduced_locals ds b)) _ c10.1 in
      let c12 = both-true (reduces_whole ds n pushed false (Then a b)) (keeps_iterators (Then a b)) c11.1 in
      record { outer = c1.0; nothing = c2.0; order = c3.0; agree = c4.0; pushes = c5.0; quiet = c6.0; away = c7.0; shallow = c8.0; iterator = c9.0; saved = c10.0; locals = c11.0; whole = c12.0; keeps = c12.1 }

  pub parts-cut : CutParts → can_cut ds n m key at pushed a b ≡ true
  parts-cut p =
      and-true _ _ p.outer (and-true _ _ p.nothing (and-true _ _ p.order (and-true _ _ p.agree (and-true _ _ p.pushes (and-true _ _ p.quiet (and-true _ _ p.away (and-true _ _ p.shallow (and-true _ _ p.iterator (and-true _ _ p.saved (and-true _ _ p.locals (and-true _ _ p.whole p.keeps)))))))))))

-- an If with one branch under such a condition is cut as its branch
module _ (ds : List Declaration) (n m : ℕ) (key : Key) (at : Place) (pushed : List ℕ) (k : Key) (place : Place) (f g : ℕ → Value) (ks : List ℕ) (a b : Stmt) where
  abbrev C : Expr
  C = chosen n place f ks

  abbrev D : Expr
  D = chosen n place g ks

  abbrev pub when_first : Stmt
  when_first = If k C a Skip

  abbrev pub when_second : Stmt
  when_second = If k D b Skip

  abbrev both : Stmt
  both = Then when_first when_second

  ends : {A : Type 0} (xs ys : List A) → (xs ++ []) ++ (ys ++ []) ≡ xs ++ ys
  ends xs ys = ap (λ l. l ++ (ys ++ [])) (append-nil xs) ∙ ap (λ l. xs ++ l) (append-nil ys)

  left-same : left ds n both ≡ left ds n (Then a b)
  left-same = ends (left ds n a) (left ds n b)

  reduced-same : reduced ds n false both ≡ reduced ds n false (Then a b)
  reduced-same = ends (reduced ds n false a) (reduced ds n false b)

  changed-same : changed ds n both ≡ changed ds n (Then a b)
  changed-same = ap (λ l. l ++ owned_in (reduced ds n false both)) left-same ∙ ap (λ rs. left ds n (Then a b) ++ owned_in rs) reduced-same

  changed-first : changed ds n when_first ≡ changed ds n a
  changed-first = ap (λ l. l ++ owned_in (reduced ds n false a ++ [])) (append-nil (left ds n a)) ∙ ap (λ rs. left ds n a ++ owned_in rs) (append-nil (reduced ds n false a))

  faults-of : (E : ℕ → Value) (s : Stmt) → faults_of (n ∷ []) (If k (chosen n place E ks) s Skip) ≡ faults_of (n ∷ []) s
  faults-of E s =
      ap (λ l. (l ++ rest_in (chosen n place E ks) k) ++ (faults_of (n ∷ []) s ++ [])) (chosen-hoisted n place E ks)
      ∙ ap (λ l. l ++ (faults_of (n ∷ []) s ++ [])) (chosen-rest n place E ks k)
      ∙ append-nil (faults_of (n ∷ []) s)

  in-order : (E : ℕ → Value) → in_order (chosen n place E ks) k ≡ true
  in-order E =
      ap (λ b. b && lie_before (hoisted_in (chosen n place E ks)) (rest_in (chosen n place E ks) k)) (chosen-hoists n place E ks)
      ∙ ap (λ l. lie_before (hoisted_in (chosen n place E ks)) l) (chosen-rest n place E ks k)

  before-nothing : (xs ys : List K.Fault) → xs ≡ [] → lie_before xs ys ≡ true
  before-nothing xs [] e = refl
  before-nothing xs (y ∷ ys) e = ap (λ l. lie_before l (y ∷ ys)) e ∙ none ys
    where
      none : (ys : List K.Fault) → lie_before [] ys ≡ true
      none [] = refl
      none (z ∷ zs) = none zs

  part-order : (E : ℕ → Value) (s : Stmt) → body_in_order (n ∷ []) s ≡ true → body_in_order (n ∷ []) (If k (chosen n place E ks) s Skip) ≡ true
  part-order E s h =
      let c = chosen n place E ks in
      and-true (in_order c k) _ (in-order E) (and-true (body_in_order (n ∷ []) s) _ h
      (and-true (lie_before (faults_in c k) (faults_of (n ∷ []) s ++ [])) (lie_before (faults_of (n ∷ []) s) [])
      (before-nothing (faults_in c k) (faults_of (n ∷ []) s ++ []) (ap (λ l. l ++ rest_in c k) (chosen-hoisted n place E ks) ∙ chosen-rest n place E ks k)) refl))

  abbrev old : Sights
  old = seen ds n m key at pushed a b

  abbrev new : Sights
  new = seen ds n m key at pushed when_first when_second

  properties-same : new.properties ≡ old.properties
  properties-same =
      let here = reads_in (Property n m at) in
      ap (λ l. here ++ ((l ++ ((sights_of ds n false a).properties ++ [])) ++ (reads_in D ++ ((sights_of ds n false b).properties ++ [])))) (chosen-reads n place f ks)
      ∙ ap (λ l. here ++ (((sights_of ds n false a).properties ++ []) ++ (l ++ ((sights_of ds n false b).properties ++ [])))) (chosen-reads n place g ks)
      ∙ ap (λ l. here ++ l) (ends (sights_of ds n false a).properties (sights_of ds n false b).properties)

  second-scalars : (y : ℕ) → IsIn y (sights_of ds n false when_second).scalars → (y ≡ n) ⊎ IsIn y (sights_of ds n false b).scalars
  second-scalars y i = ⊎_elim (λ l. inl (chosen-told n place g ks y l)) (λ r. inr (subst (IsIn y) (append-nil (sights_of ds n false b).scalars) r)) (in-either y (told_in D) ((sights_of ds n false b).scalars ++ []) i)

  first-scalars : (y : ℕ) → IsIn y (sights_of ds n false when_first).scalars → (y ≡ n) ⊎ IsIn y (sights_of ds n false a).scalars
  first-scalars y i = ⊎_elim (λ l. inl (chosen-told n place f ks y l)) (λ r. inr (subst (IsIn y) (append-nil (sights_of ds n false a).scalars) r)) (in-either y (told_in C) ((sights_of ds n false a).scalars ++ []) i)

  -- what is told is told before, but for the iterator, which the saved filter tells
  scalars-same : (y : ℕ) → IsIn y new.scalars → IsIn y old.scalars
  scalars-same y i =
      let sa = (sights_of ds n false a).scalars in
      let sb = (sights_of ds n false b).scalars in
      ⊎_elim
      (λ l. in-left y (told_in (Property n m at)) (sa ++ sb) l)
      (λ r.
      ⊎_elim
      (λ l. ⊎_elim (λ (e : y ≡ n). inl e) (λ j. in-right y (told_in (Property n m at)) (sa ++ sb) (in-left y sa sb j)) (first-scalars y l))
      (λ l. ⊎_elim (λ (e : y ≡ n). inl e) (λ j. in-right y (told_in (Property n m at)) (sa ++ sb) (in-right y sa sb j)) (second-scalars y l))
      (in-either y (sights_of ds n false when_first).scalars (sights_of ds n false when_second).scalars r))
      (in-either y (told_in (Property n m at)) (sights_of ds n false both).scalars i)

  owned-left : (xs ys : List Reduced) (y : ℕ) → IsIn y (owned_in xs) → IsIn y (owned_in (xs ++ ys))
  owned-left [] ys y i = absurd i
  owned-left (x ∷ xs) ys y i = by x.own (owned-left xs ys y) i
    where
      by : (b : Bool) → (IsIn y (owned_in xs) → IsIn y (owned_in (xs ++ ys))) → IsIn y (cond b (x.variables ++ owned_in xs) (owned_in xs)) → IsIn y (cond b (x.variables ++ owned_in (xs ++ ys)) (owned_in (xs ++ ys)))
      by true h i = ⊎_elim (λ l. in-left y x.variables (owned_in (xs ++ ys)) l) (λ r. in-right y x.variables (owned_in (xs ++ ys)) (h r)) (in-either y x.variables (owned_in xs) i)
      by false h i = h i

  changed-left : (y : ℕ) → IsIn y (changed ds n a) → IsIn y (changed ds n (Then a b))
  changed-left y i =
      ⊎_elim
      (λ l. in-left y (left ds n (Then a b)) (owned_in (reduced ds n false (Then a b))) (in-left y (left ds n a) (left ds n b) l))
      (λ r. in-right y (left ds n (Then a b)) (owned_in (reduced ds n false (Then a b))) (owned-left (reduced ds n false a) (reduced ds n false b) y r))
      (in-either y (left ds n a) (owned_in (reduced ds n false a)) i)

  more : CutParts ds n m key at pushed a b → CutParts ds n m key at pushed when_first when_second
  more p =
      let bodies = both-true (is_outer_body ds false n a) (is_outer_body ds false n b) p.outer in
      let o1 = both-true (in_order (Property n m at) key) (body_in_order (n ∷ []) (Then a b) && lie_before (faults_in (Property n m at) key) (faults_of (n ∷ []) (Then a b))) p.order in
      let o2 = both-true (body_in_order (n ∷ []) (Then a b)) (lie_before (faults_in (Property n m at) key) (faults_of (n ∷ []) (Then a b))) o1.1 in
      let o3 = both-true (body_in_order (n ∷ []) a) (body_in_order (n ∷ []) b && lie_before (faults_of (n ∷ []) a) (faults_of (n ∷ []) b)) o2.0 in
      let o4 = both-true (body_in_order (n ∷ []) b) (lie_before (faults_of (n ∷ []) a) (faults_of (n ∷ []) b)) o3.1 in
      let w = both-true (reduces_whole ds n pushed false a) (reduces_whole ds n pushed false b) p.whole in
      let z = both-true (keeps_iterators a) (keeps_iterators b) p.keeps in
      let off : IsIn n (changed ds n (Then a b)) → ⊥ = λ i. both_ways (is_in (changed ds n (Then a b)) n) (not-true (is_in (changed ds n (Then a b)) n) p.iterator) (finds (changed ds n (Then a b)) n i) in
      record {
        outer = and-true _ _ (and-true _ _ (chosen-flat n place f ks) (and-true _ _ bodies.0 refl)) (and-true _ _ (chosen-flat n place g ks) (and-true _ _ bodies.1 refl));
        nothing = ap is_nil (ends (deferred a) (deferred b)) ∙ p.nothing;
        order = and-true _ _ o1.0 (and-true _ _
            (and-true _ _ (part-order f a o3.0) (and-true _ _ (part-order g b o4.0) (ap (λ l. lie_before l (faults_of (n ∷ []) when_second)) (faults-of f a) ∙ ap (lie_before (faults_of (n ∷ []) a)) (faults-of g b) ∙ o4.1)))
            (ap (λ l. lie_before (faults_in (Property n m at) key) (l ++ faults_of (n ∷ []) when_second)) (faults-of f a) ∙ ap (λ l. lie_before (faults_in (Property n m at) key) (faults_of (n ∷ []) a ++ l)) (faults-of g b) ∙ o2.1));
        agree = ap (all_agree_with pushed) reduced-same ∙ p.agree;
        pushes = ap (list_all (is_in pushed)) (ends (pushed_properties n a) (pushed_properties n b)) ∙ p.pushes;
        quiet = apart-disjoint _ _ (λ y i j.
            let i' = subst (λ (rs : List Reduced). IsIn y (pushed_in rs ++ pushed)) reduced-same i in
            disjoint-apart _ _ y p.quiet i'
            (⊎_elim
            (λ l. in-left y (read_anywhere old.properties) (old.scalars ++ left ds n (Then a b)) (subst (λ (rs : List Read). IsIn y (read_anywhere rs)) properties-same l))
            (λ r. in-right y (read_anywhere old.properties) (old.scalars ++ left ds n (Then a b))
            (⊎_elim (λ l. in-left y old.scalars (left ds n (Then a b)) (scalars-same y l)) (λ q. in-right y old.scalars (left ds n (Then a b)) (subst (IsIn y) left-same q)) (in-either y new.scalars (left ds n both) r)))
            (in-either y (read_anywhere new.properties) (new.scalars ++ left ds n both) j)));
        away = ap (λ l. disjoint l (read_elsewhere n new.properties)) changed-same ∙ ap (λ rs. disjoint (changed ds n (Then a b)) (read_elsewhere n rs)) properties-same ∙ p.away;
        shallow = p.shallow;
        iterator = ap (λ l. not (is_in l n)) changed-same ∙ p.iterator;
        saved = ap (λ l. not (is_in l m)) changed-first ∙ p.saved;
        locals = apart-disjoint _ _ (λ y i j.
            let i' = subst (IsIn y) changed-first i in
            ⊎_elim
            (λ l. ⊎_elim (λ (e : y ≡ n). off (subst (λ z. IsIn z (changed ds n (Then a b))) e (changed-left y i'))) (λ q. disjoint-apart _ _ y p.locals i' (in-left y (sights_of ds n false b).scalars (reduced_locals ds b) q)) (second-scalars y l))
            (λ r. disjoint-apart _ _ y p.locals i' (in-right y (sights_of ds n false b).scalars (reduced_locals ds b) (subst (IsIn y) (append-nil (reduced_locals ds b)) r)))
            (in-either y (sights_of ds n false when_second).scalars (reduced_locals ds when_second) j));
        whole = and-true _ _ (and-true _ _ w.0 refl) (and-true _ _ w.1 refl);
        keeps = and-true _ _ (and-true _ _ z.0 refl) (and-true _ _ z.1 refl);
      }

  pub when-cut : can_cut ds n m key at pushed a b ≡ true → can_cut ds n m key at pushed when_first when_second ≡ true
  when-cut h = parts-cut ds n m key at pushed when_first when_second (more (cut-parts ds n m key at pushed a b h))
