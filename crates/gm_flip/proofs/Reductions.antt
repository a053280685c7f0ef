-- The reductions of an inner body, by either end's iterator.
use Rattle.std.proofs.Common.{◌≡◌, ℕ, Bool, true, false, cond, List, [], ◌∷◌, ◌++◌, refl, sym, ap, subst, ◌∙◌, ⊎_elim, inl, inr}
use Rattle.std.specs.Prelude.{◌&&◌, ◌||◌, ◌⊎◌, not, nat_eq, nat_lt}
use Rattle.std.specs.List.{list_all}
use Rattle.std.proofs.lemmas.Bool.{both_ways, cases_Bool}
use Rattle.gm_value.specs.Bag.{IsIn}
use Rattle.gm_ast.specs.declared.tree.Declaration.{Declaration}
use Rattle.gm_ast.specs.declared.tree.Target.{Target}
use Rattle.gm_ast.specs.declared.tree.Target.TheVariants as T
use Rattle.gm_ast.specs.Ways.{is_in}
use Rattle.gm_ast.specs.Program.{Stmt, Skip, Then, Declare, DeclareEdge, Assign, Defer, Combine, Group, Foreach, For, If, While, Do, InBfs, InBfsBoth, Return}
use Rattle.gm_forms.specs.Cut.{touched, can_overflow, is_there, is_calm, adds_elsewhere, adds_last, is_outer_local, spares_locals}
use Rattle.gm_forms.specs.Order.{cannot_fail}
use Rattle.gm_forms.specs.Forms.{depth_at, is_flat, is_off, avoids, is_inner_body}
use Rattle.gm_forms.specs.Sharing.{with_reads, sights_in, sights_in_all, sights_of_target, sights_at_target, sights_by, sights_of, is_at_once, are_at_once, variables_of, written_by, written, is_owned, is_kept, variables_where, Reduced, reduced_by, all_reduced_by, reduced, shared_in, kept_in, lasting, disjoint, does_same, agrees, all_agree, is_one, all_one, lasts_one_way, all_last_one_way}
use Rattle.gm_forms.proofs.Named.{both-true}
use Rattle.gm_forms.proofs.Weaker.{and-true}
use Rattle.gm_forms.proofs.Doings.{in-left, in-right, in-either}
use Rattle.gm_loop_laws.proofs.Chosen.{disjoint-apart, apart-disjoint}
use Rattle.gm_flip.proofs.Basics.{none}

-- a variable among those of the targets that pass a test
where-out : (f : Target → Bool) (ts : List Target) (y : ℕ) → IsIn y (variables_where f ts) → (u : Target) × IsIn u ts × (f u ≡ true) × IsIn y (written_by u)
where-out f [] y i = absurd i
where-out f (u ∷ ts) y i = by (f u) refl (λ j. where-out f ts y j) i
  where
    more : (v : Target) × IsIn v ts × (f v ≡ true) × IsIn y (written_by v) → (v : Target) × IsIn v (u ∷ ts) × (f v ≡ true) × IsIn y (written_by v)
    more r = (r.0, inr r.1, r.2, r.3)

    by : (b : Bool) → f u ≡ b → (IsIn y (variables_where f ts) → (v : Target) × IsIn v ts × (f v ≡ true) × IsIn y (written_by v)) → IsIn y (cond b (written_by u ++ variables_where f ts) (variables_where f ts)) → (v : Target) × IsIn v (u ∷ ts) × (f v ≡ true) × IsIn y (written_by v)
    by true e rest i = ⊎_elim (λ l. (u, inl refl, e, l)) (λ j. more (rest j)) (in-either y (written_by u) (variables_where f ts) i)
    by false e rest i = more (rest i)

where-into : (f : Target → Bool) (ts : List Target) (y : ℕ) (u : Target) → IsIn u ts → f u ≡ true → IsIn y (written_by u) → IsIn y (variables_where f ts)
where-into f [] y u i e w = absurd i
where-into f (v ∷ ts) y u i e w =
    ⊎_elim
    (λ (s : u ≡ v). subst (λ b. IsIn y (cond b (written_by v ++ variables_where f ts) (variables_where f ts))) (sym (ap f (sym s) ∙ e)) (in-left y (written_by v) (variables_where f ts) (subst (λ z. IsIn y (written_by z)) s w)))
    (λ j. by (f v) (where-into f ts y u j e w)) i
  where
    by : (b : Bool) → IsIn y (variables_where f ts) → IsIn y (cond b (written_by v ++ variables_where f ts) (variables_where f ts))
    by true j = in-right y (written_by v) (variables_where f ts) j
    by false j = j

variable-into : (ts : List Target) (y : ℕ) (u : Target) → IsIn u ts → IsIn y (written_by u) → IsIn y (variables_of ts)
variable-into [] y u i w = absurd i
variable-into (v ∷ ts) y u i w =
    ⊎_elim (λ (s : u ≡ v). in-left y (written_by v) (variables_of ts) (subst (λ z. IsIn y (written_by z)) s w)) (λ j. in-right y (written_by v) (variables_of ts) (variable-into ts y u j w)) i

each-target : (f : Target → Bool) (ts : List Target) → list_all f ts ≡ true → (u : Target) → IsIn u ts → f u ≡ true
each-target f [] h u i = absurd i
each-target f (t ∷ ts) h u i = let q = both-true (f t) (list_all f ts) h in ⊎_elim (λ (e : u ≡ t). ap f e ∙ q.0) (λ j. each-target f ts q.1 u j) i

-- what reductions share and keep
pub shared-out : (rs : List Reduced) (y : ℕ) → IsIn y (shared_in rs) → (r : Reduced) × IsIn r rs × IsIn y r.shared
shared-out [] y i = absurd i
shared-out (r ∷ rs) y i = ⊎_elim (λ l. (r, inl refl, l)) (λ j. let q = shared-out rs y j in (q.0, inr q.1, q.2)) (in-either y r.shared (shared_in rs) i)

pub shared-into : (rs : List Reduced) (r : Reduced) (y : ℕ) → IsIn r rs → IsIn y r.shared → IsIn y (shared_in rs)
shared-into [] r y i j = absurd i
shared-into (q ∷ rs) r y i j = ⊎_elim (λ (e : r ≡ q). in-left y q.shared (shared_in rs) (subst (λ (z : Reduced). IsIn y z.shared) e j)) (λ k. in-right y q.shared (shared_in rs) (shared-into rs r y k j)) i

pub kept-out : (rs : List Reduced) (y : ℕ) → IsIn y (kept_in rs) → (r : Reduced) × IsIn r rs × IsIn y r.kept
kept-out [] y i = absurd i
kept-out (r ∷ rs) y i = ⊎_elim (λ l. (r, inl refl, l)) (λ j. let q = kept-out rs y j in (q.0, inr q.1, q.2)) (in-either y r.kept (kept_in rs) i)

pub kept-into : (rs : List Reduced) (r : Reduced) (y : ℕ) → IsIn r rs → IsIn y r.kept → IsIn y (kept_in rs)
kept-into [] r y i j = absurd i
kept-into (q ∷ rs) r y i j = ⊎_elim (λ (e : r ≡ q). in-left y q.kept (kept_in rs) (subst (λ (z : Reduced). IsIn y z.kept) e j)) (λ k. in-right y q.kept (kept_in rs) (kept-into rs r y k j)) i

-- reductions that differ in what is their own alone; what the second ones keep is among their variables
abbrev pub Like : List Reduced → List Reduced → Type 0
Like [] [] = Unit {0}
Like (a ∷ rs) (b ∷ qs) = ((b.variables ≡ a.variables) × (b.reduce ≡ a.reduce) × (b.number ≡ a.number) × ((y : ℕ) → IsIn y (lasting b) → IsIn y b.variables)) × Like rs qs
Like _ _ = ⊥

like-append : (rs qs us vs : List Reduced) → Like rs qs → Like us vs → Like (rs ++ us) (qs ++ vs)
like-append [] [] us vs h k = k
like-append (a ∷ rs) (b ∷ qs) us vs h k = (h.0, like-append rs qs us vs h.1 k)
like-append [] (b ∷ qs) us vs h k = absurd h
like-append (a ∷ rs) [] us vs h k = absurd h

module _ (ds : List Declaration) (n t : ℕ) where
  -- which reductions of an inner body are done at once does not depend on the outer iterator
  once-same : (ts : List Target) → are_at_once ds t true ts ≡ are_at_once ds n true ts
  once-same [] = refl
  once-same (T.Scalar x at ∷ ts) = ap (λ b. is_at_once ds n true (T.Scalar x at) && b) (once-same ts)
  once-same (T.Property x p at ∷ ts) = refl

  pub written-same : (s : Stmt) → written ds t true s ≡ written ds n true s
  written-same (Then a b) = ap (λ l. l ++ written ds t true b) (written-same a) ∙ ap (λ l. written ds n true a ++ l) (written-same b)
  written-same (Combine k total r ts es) = ap (λ b. cond b (variables_of ts) []) (once-same ts)
  written-same (If k c a b) = ap (λ l. l ++ written ds t true b) (written-same a) ∙ ap (λ l. written ds n true a ++ l) (written-same b)
  written-same (Foreach k at h c s) = written-same s
  written-same s = refl

  pub sights-same : (s : Stmt) → sights_of ds t true s ≡ sights_of ds n true s
  sights-same (Then a b) = ap (λ l. with_reads l (sights_of ds t true b)) (sights-same a) ∙ ap (with_reads (sights_of ds n true a)) (sights-same b)
  sights-same (Combine k total r ts es) = ap (λ b. with_reads (sights_by (cond b sights_at_target sights_of_target) ts) (sights_in_all es)) (once-same ts)
  sights-same (If k c a b) = ap (λ l. with_reads (sights_in c) (with_reads l (sights_of ds t true b))) (sights-same a) ∙ ap (λ l. with_reads (sights_in c) (with_reads (sights_of ds n true a) l)) (sights-same b)
  sights-same (Foreach k at h c s) = ap (λ l. with_reads (record { properties = []; scalars = h.owner ∷ [] }) (with_reads (sights_in c) l)) (sights-same s)
  sights-same s = refl

  pub like : (s : Stmt) → Like (reduced ds n true s) (reduced ds t true s)
  like (Then a b) = like-append (reduced ds n true a) (reduced ds t true a) (reduced ds n true b) (reduced ds t true b) (like a) (like b)
  like (Combine k total r ts es) = subst (λ b. Like (all_reduced_by ds n true total.key.statement r ts) (cond b [] (reduced_by ds t total.key.statement r ts ∷ []))) (sym (once-same ts)) (by (are_at_once ds n true ts))
    where
      inside : (y : ℕ) → IsIn y (lasting (reduced_by ds t total.key.statement r ts)) → IsIn y (variables_of ts)
      inside y i =
          ⊎_elim
          (λ l. let q = where-out (λ u. not (is_owned ds t u)) ts y l in variable-into ts y q.0 q.1 q.3)
          (λ l. let q = where-out (is_kept ds t) ts y l in variable-into ts y q.0 q.1 q.3)
          (in-either y (variables_where (λ u. not (is_owned ds t u)) ts) (variables_where (is_kept ds t) ts) i)

      by : (b : Bool) → Like (cond b [] (reduced_by ds n total.key.statement r ts ∷ [])) (cond b [] (reduced_by ds t total.key.statement r ts ∷ []))
      by true = tt
      by false = ((refl, refl, refl, inside), tt)
  like (If k c a b) = like-append (reduced ds n true a) (reduced ds t true a) (reduced ds n true b) (reduced ds t true b) (like a) (like b)
  like (Foreach k at h c s) = like s
  like s = tt

  -- where a reduction of the turned loop comes from
  pub record Comes (s : Stmt) (r : Reduced) : Type 0 where
    pub none_kept : (y : ℕ) → IsIn y r.kept → ⊥
    pub shared_from : (y : ℕ) → IsIn y r.shared → IsIn y (touched s) × (IsIn y (shared_in (reduced ds n true s)) ⊎ IsIn y (kept_in (reduced ds n true s)))

  shared-append : (rs qs : List Reduced) (y : ℕ) → IsIn y (shared_in rs) ⊎ IsIn y (shared_in qs) → IsIn y (shared_in (rs ++ qs))
  shared-append rs qs y c =
      ⊎_elim (λ i. let q = shared-out rs y i in shared-into (rs ++ qs) q.0 y (in-left q.0 rs qs q.1) q.2) (λ i. let q = shared-out qs y i in shared-into (rs ++ qs) q.0 y (in-right q.0 rs qs q.1) q.2) c

  kept-append : (rs qs : List Reduced) (y : ℕ) → IsIn y (kept_in rs) ⊎ IsIn y (kept_in qs) → IsIn y (kept_in (rs ++ qs))
  kept-append rs qs y c =
      ⊎_elim (λ i. let q = kept-out rs y i in kept-into (rs ++ qs) q.0 y (in-left q.0 rs qs q.1) q.2) (λ i. let q = kept-out qs y i in kept-into (rs ++ qs) q.0 y (in-right q.0 rs qs q.1) q.2) c

  -- from a part to the whole
  module _ (s a b : Stmt) (r : Reduced) (touches : touched s ≡ touched a ++ touched b) (reduces : reduced ds n true s ≡ reduced ds n true a ++ reduced ds n true b) where
    back : (y : ℕ) → IsIn y (touched a ++ touched b) × (IsIn y (shared_in (reduced ds n true a ++ reduced ds n true b)) ⊎ IsIn y (kept_in (reduced ds n true a ++ reduced ds n true b))) → IsIn y (touched s) × (IsIn y (shared_in (reduced ds n true s)) ⊎ IsIn y (kept_in (reduced ds n true s)))
    back y q = (subst (IsIn y) (sym touches) q.0, subst (λ (l : List Reduced). IsIn y (shared_in l) ⊎ IsIn y (kept_in l)) (sym reduces) q.1)

    comes-left : Comes a r → Comes s r
    comes-left c = record {
      none_kept = c.none_kept;
      shared_from = λ y i.
          let q = c.shared_from y i in
          back y (in-left y (touched a) (touched b) q.0, ⊎_elim (λ l. inl (shared-append (reduced ds n true a) (reduced ds n true b) y (inl l))) (λ l. inr (kept-append (reduced ds n true a) (reduced ds n true b) y (inl l))) q.1);
    }

    comes-right : Comes b r → Comes s r
    comes-right c = record {
      none_kept = c.none_kept;
      shared_from = λ y i.
          let q = c.shared_from y i in
          back y (in-right y (touched a) (touched b) q.0, ⊎_elim (λ l. inl (shared-append (reduced ds n true a) (reduced ds n true b) y (inr l))) (λ l. inr (kept-append (reduced ds n true a) (reduced ds n true b) y (inr l))) q.1);
    }

  pub comes : (its : List ℕ) (edge : Bool) (s : Stmt) → is_inner_body ds its edge s ≡ true → avoids t s ≡ true → spares_locals ds s ≡ true → (r : Reduced) → IsIn r (reduced ds t true s) → Comes s r
  comes its edge (Then a b) h v p r i =
      let q = both-true (is_inner_body ds its edge a) (is_inner_body ds its edge b) h in
      let w = both-true (avoids t a) (avoids t b) v in
      let o = both-true (spares_locals ds a) (spares_locals ds b) p in
      ⊎_elim (λ l. comes-left (Then a b) a b r refl refl (comes its edge a q.0 w.0 o.0 r l)) (λ l. comes-right (Then a b) a b r refl refl (comes its edge b q.1 w.1 o.1 r l)) (in-either r (reduced ds t true a) (reduced ds t true b) i)
  comes its edge (If k c a b) h v p r i =
      let f = both-true (is_flat its edge c) (is_inner_body ds its edge a && is_inner_body ds its edge b) h in
      let q = both-true (is_inner_body ds its edge a) (is_inner_body ds its edge b) f.1 in
      let w = both-true (avoids t a) (avoids t b) v in
      let o = both-true (spares_locals ds a) (spares_locals ds b) p in
      ⊎_elim (λ l. comes-left (If k c a b) a b r refl refl (comes its edge a q.0 w.0 o.0 r l)) (λ l. comes-right (If k c a b) a b r refl refl (comes its edge b q.1 w.1 o.1 r l)) (in-either r (reduced ds t true a) (reduced ds t true b) i)
  comes its edge (Combine k total op ts es) h v p r i = by (are_at_once ds t true ts) refl i
    where
      here : are_at_once ds n true ts ≡ false → (q : Reduced) → q ≡ reduced_by ds n total.key.statement op ts → IsIn q (reduced ds n true (Combine k total op ts es))
      here e q s = subst (λ b. IsIn q (cond b [] (reduced_by ds n total.key.statement op ts ∷ []))) (sym e) (inl s)

      keeps-none : (u : Target) → is_off t u ≡ true → not (is_outer_local ds u) ≡ true → is_kept ds t u ≡ true → ⊥
      keeps-none (T.Scalar x at) o l e = both_ways (nat_eq (depth_at ds x) 1) (not-true' (nat_eq (depth_at ds x) 1) l) e
        where
          not-true' : (b : Bool) → not b ≡ true → b ≡ false
          not-true' true h = none h
          not-true' false h = refl
      keeps-none (T.Property x q at) o l e = both_ways (nat_eq x t) (not-true' (nat_eq x t) o) e
        where
          not-true' : (b : Bool) → not b ≡ true → b ≡ false
          not-true' true h = none h
          not-true' false h = refl

      either : (u : Target) → not (is_owned ds t u) ≡ true → (not (is_owned ds n u) ≡ true) ⊎ (is_kept ds n u ≡ true)
      either (T.Scalar x at) e = inl e
      either (T.Property x q at) e = ⊎_elim (λ (f : nat_eq x n ≡ true). inr f) (λ (f : nat_eq x n ≡ false). inl (ap not f)) (cases_Bool (nat_eq x n))

      by : (b : Bool) → are_at_once ds t true ts ≡ b → IsIn r (cond b [] (reduced_by ds t total.key.statement op ts ∷ [])) → Comes (Combine k total op ts es) r
      by true e i = absurd i
      by false e i =
          ⊎_elim
          (λ (is : r ≡ reduced_by ds t total.key.statement op ts).
          subst (Comes (Combine k total op ts es)) (sym is) (record {
            none_kept = λ y j. let q = where-out (is_kept ds t) ts y j in keeps-none q.0 (each-target (is_off t) ts v q.0 q.1) (each-target (λ u. not (is_outer_local ds u)) ts p q.0 q.1) q.2;
            shared_from = λ y j.
                let q = where-out (λ u. not (is_owned ds t u)) ts y j in
                let at-n = here (sym (once-same ts) ∙ e) (reduced_by ds n total.key.statement op ts) refl in (
                  variable-into ts y q.0 q.1 q.3,
                  ⊎_elim
                      (λ f. inl (shared-into (reduced ds n true (Combine k total op ts es)) (reduced_by ds n total.key.statement op ts) y at-n (where-into (λ u. not (is_owned ds n u)) ts y q.0 q.1 f q.3)))
                      (λ f. inr (kept-into (reduced ds n true (Combine k total op ts es)) (reduced_by ds n total.key.statement op ts) y at-n (where-into (is_kept ds n) ts y q.0 q.1 f q.3)))
                      (either q.0 q.2),
                );
          }))
          (λ none. absurd none) i
  comes its edge Skip h v p r i = absurd i
  comes its edge (Declare k x e) h v p r i = absurd i
  comes its edge (DeclareEdge x y at) h v p r i = absurd i
  comes its edge (Assign k u e) h v p r i = absurd i
  comes its edge (Defer k u e) h v p r i = absurd i
  comes its edge (Group k at g q e) h v p r i = none h
  comes its edge (Foreach k at hd c s) h v p r i = none h
  comes its edge (For k at hd c s) h v p r i = none h
  comes its edge (While k at c s) h v p r i = none h
  comes its edge (Do k at s c) h v p r i = none h
  comes its edge (InBfs k at hd c s) h v p r i = none h
  comes its edge (InBfsBoth k at hd c s bk d u) h v p r i = none h
  comes its edge (Return k at e) h v p r i = none h

  -- what an inner body writes it touches
  pub written-touched : (s : Stmt) (y : ℕ) → IsIn y (written ds n true s) → IsIn y (touched s)
  written-touched (Then a b) y i = ⊎_elim (λ l. in-left y (touched a) (touched b) (written-touched a y l)) (λ l. in-right y (touched a) (touched b) (written-touched b y l)) (in-either y (written ds n true a) (written ds n true b) i)
  written-touched (Declare k x e) y i = i
  written-touched (Assign k t e) y i = i
  written-touched (Combine k total r ts es) y i = by (are_at_once ds n true ts) i
    where
      by : (b : Bool) → IsIn y (cond b (variables_of ts) []) → IsIn y (variables_of ts)
      by true i = i
      by false i = absurd i
  written-touched (If k c a b) y i = ⊎_elim (λ l. in-left y (touched a) (touched b) (written-touched a y l)) (λ l. in-right y (touched a) (touched b) (written-touched b y l)) (in-either y (written ds n true a) (written ds n true b) i)
  written-touched (Foreach k at h c s) y i = written-touched s y i
  written-touched s y i = absurd i

-- reductions that are one, and agree, still do
same-does : (a b c d : Reduced) → c.variables ≡ a.variables → c.reduce ≡ a.reduce → d.variables ≡ b.variables → d.reduce ≡ b.reduce → does_same a b ≡ true → does_same c d ≡ true
same-does a b c d e f g h s =
    ap (λ l. does_same c (record d { variables = l })) g ∙ ap (λ w. does_same c (record d { variables = b.variables; reduce = w })) h
    ∙ ap (λ l. does_same (record c { variables = l }) (record d { variables = b.variables; reduce = b.reduce })) e ∙ ap (λ w. does_same (record c { variables = a.variables; reduce = w }) (record d { variables = b.variables; reduce = b.reduce })) f ∙ s

less-same : (a b c d : Reduced) → c.number ≡ a.number → d.number ≡ b.number → nat_lt a.number b.number ≡ true → nat_lt c.number d.number ≡ true
less-same a b c d e f h = ap (λ x. nat_lt x d.number) e ∙ ap (nat_lt a.number) f ∙ h

apart-same : (a b c d : Reduced) → c.variables ≡ a.variables → d.variables ≡ b.variables → disjoint a.variables b.variables ≡ true → disjoint c.variables d.variables ≡ true
apart-same a b c d e f h = ap (λ x. disjoint x d.variables) e ∙ ap (disjoint a.variables) f ∙ h

two : (x l o s : Bool) → x || (l && (o || s)) ≡ true → x || s ≡ true → (x ≡ true) ⊎ ((l ≡ true) × (s ≡ true))
two true l o s h k = inl refl
two false true o s h k = inr (refl, k)
two false false o s h k = none h

so : (x l o s : Bool) → (x ≡ true) ⊎ ((l ≡ true) × (s ≡ true)) → x || (l && (o || s)) ≡ true
so true l o s h = refl
so false l o s h = ⊎_elim (λ (e : false ≡ true). none e) (λ q. and-true l (o || s) q.0 (right o s q.1)) h
  where
    right : (a b : Bool) → b ≡ true → a || b ≡ true
    right true b h = refl
    right false b h = h

agrees-like : (a c : Reduced) (rs qs : List Reduced) → c.variables ≡ a.variables → c.reduce ≡ a.reduce → c.number ≡ a.number → Like rs qs → agrees a rs ≡ true → is_one a rs ≡ true → agrees c qs ≡ true
agrees-like a c [] [] v r m l h k = refl
agrees-like a c [] (d ∷ qs) v r m l h k = absurd l
agrees-like a c (b ∷ rs) [] v r m l h k = absurd l
agrees-like a c (b ∷ rs) (d ∷ qs) v r m l h k =
    let o = (disjoint a.shared b.variables && disjoint b.shared a.variables) in
    let x = both-true (disjoint a.variables b.variables || (nat_lt a.number b.number && (o || does_same a b))) (agrees a rs) h in
    let y = both-true (disjoint a.variables b.variables || does_same a b) (is_one a rs) k in
    let p = (disjoint c.shared d.variables && disjoint d.shared c.variables) in
    and-true (disjoint c.variables d.variables || (nat_lt c.number d.number && (p || does_same c d))) (agrees c qs)
    (so (disjoint c.variables d.variables) (nat_lt c.number d.number) p (does_same c d)
    (⊎_elim (λ e. inl (apart-same a b c d v l.0.0 e)) (λ q. inr (less-same a b c d m l.0.2 q.0, same-does a b c d v r l.0.0 l.0.1 q.1)) (two (disjoint a.variables b.variables) (nat_lt a.number b.number) o (does_same a b) x.0 y.0)))
    (agrees-like a c rs qs v r m l.1 x.1 y.1)

pub agree-like : (rs qs : List Reduced) → Like rs qs → all_agree rs ≡ true → all_one rs ≡ true → all_agree qs ≡ true
agree-like [] [] l h k = refl
agree-like [] (d ∷ qs) l h k = absurd l
agree-like (a ∷ rs) [] l h k = absurd l
agree-like (a ∷ rs) (c ∷ qs) l h k =
    let x = both-true (agrees a rs) (all_agree rs) h in
    let y = both-true (is_one a rs) (all_one rs) k in
    and-true (agrees c qs) (all_agree qs) (agrees-like a c rs qs l.0.0 l.0.1 l.0.2 l.1 x.0 y.0) (agree-like rs qs l.1 x.1 y.1)

lasts-like : (a c : Reduced) (rs qs : List Reduced) → c.variables ≡ a.variables → c.reduce ≡ a.reduce → ((y : ℕ) → IsIn y (lasting c) → IsIn y c.variables) → Like rs qs → is_one a rs ≡ true → lasts_one_way c qs ≡ true
lasts-like a c [] [] v r m l k = refl
lasts-like a c [] (d ∷ qs) v r m l k = absurd l
lasts-like a c (b ∷ rs) [] v r m l k = absurd l
lasts-like a c (b ∷ rs) (d ∷ qs) v r m l k =
    let y = both-true (disjoint a.variables b.variables || does_same a b) (is_one a rs) k in
    and-true (disjoint (lasting c) (lasting d) || does_same c d) (lasts_one_way c qs)
    (by (disjoint a.variables b.variables) (does_same a b) y.0
    (λ e. apart-disjoint (lasting c) (lasting d) (λ z i j. disjoint-apart c.variables d.variables z (apart-same a b c d v l.0.0 e) (m z i) (l.0.3 z j)))
    (same-does a b c d v r l.0.0 l.0.1))
    (lasts-like a c rs qs v r m l.1 y.1)
  where
    by : (x s : Bool) → x || s ≡ true → (x ≡ true → disjoint (lasting c) (lasting d) ≡ true) → (s ≡ true → does_same c d ≡ true) → disjoint (lasting c) (lasting d) || does_same c d ≡ true
    by true s h f g = ap (λ z. z || does_same c d) (f refl)
    by false s h f g = right (disjoint (lasting c) (lasting d)) (does_same c d) (g h)
      where
        right : (a b : Bool) → b ≡ true → a || b ≡ true
        right true b h = refl
        right false b h = h

pub last-like : (rs qs : List Reduced) → Like rs qs → all_one rs ≡ true → all_last_one_way qs ≡ true
last-like [] [] l k = refl
last-like [] (d ∷ qs) l k = absurd l
last-like (a ∷ rs) [] l k = absurd l
last-like (a ∷ rs) (c ∷ qs) l k =
    let y = both-true (is_one a rs) (all_one rs) k in
    and-true (lasts_one_way c qs) (all_last_one_way qs) (lasts-like a c rs qs l.0.0 l.0.1 l.0.3 l.1 y.0) (last-like rs qs l.1 y.1)

ones-like : (a c : Reduced) (rs qs : List Reduced) → c.variables ≡ a.variables → c.reduce ≡ a.reduce → Like rs qs → is_one a rs ≡ true → is_one c qs ≡ true
ones-like a c [] [] v r l k = refl
ones-like a c [] (d ∷ qs) v r l k = absurd l
ones-like a c (b ∷ rs) [] v r l k = absurd l
ones-like a c (b ∷ rs) (d ∷ qs) v r l k =
    let y = both-true (disjoint a.variables b.variables || does_same a b) (is_one a rs) k in
    and-true (disjoint c.variables d.variables || does_same c d) (is_one c qs)
    (by (disjoint a.variables b.variables) (does_same a b) y.0 (apart-same a b c d v l.0.0) (same-does a b c d v r l.0.0 l.0.1)) (ones-like a c rs qs v r l.1 y.1)
  where
    by : (x s : Bool) → x || s ≡ true → (x ≡ true → disjoint c.variables d.variables ≡ true) → (s ≡ true → does_same c d ≡ true) → disjoint c.variables d.variables || does_same c d ≡ true
    by true s h f g = ap (λ z. z || does_same c d) (f refl)
    by false s h f g = right (disjoint c.variables d.variables) (does_same c d) (g h)
      where
        right : (a b : Bool) → b ≡ true → a || b ≡ true
        right true b h = refl
        right false b h = h

pub one-like : (rs qs : List Reduced) → Like rs qs → all_one rs ≡ true → all_one qs ≡ true
one-like [] [] l k = refl
one-like [] (d ∷ qs) l k = absurd l
one-like (a ∷ rs) [] l k = absurd l
one-like (a ∷ rs) (c ∷ qs) l k =
    let y = both-true (is_one a rs) (all_one rs) k in
    and-true (is_one c qs) (all_one qs) (ones-like a c rs qs l.0.0 l.0.1 l.1 y.0) (one-like rs qs l.1 y.1)

-- ---- what can fault, by the same iterators in another order

there-same : (its more : List ℕ) → ((x : ℕ) → is_in more x ≡ is_in its x) → (ts : List Target) → list_all (is_there more) ts ≡ list_all (is_there its) ts
there-same its more h [] = refl
there-same its more h (T.Scalar x at ∷ ts) = there-same its more h ts
there-same its more h (T.Property x p at ∷ ts) = ap (λ b. b && list_all (is_there more) ts) (h x) ∙ ap (λ b. is_in its x && b) (there-same its more h ts)

target-there : (its more : List ℕ) → ((x : ℕ) → is_in more x ≡ is_in its x) → (t : Target) → is_there more t ≡ is_there its t
target-there its more h (T.Scalar x at) = refl
target-there its more h (T.Property x p at) = h x

calm-same : (its more : List ℕ) → ((x : ℕ) → is_in more x ≡ is_in its x) → (s : Stmt) → is_calm more s ≡ is_calm its s
calm-same its more h (Then a b) = ap (λ x. x && is_calm more b) (calm-same its more h a) ∙ ap (λ x. is_calm its a && x) (calm-same its more h b)
calm-same its more h (Assign k t e) = ap (λ x. x && cannot_fail e) (target-there its more h t)
calm-same its more h (Defer k t e) = ap (λ x. x && cannot_fail e) (target-there its more h t)
calm-same its more h (Combine k total r ts es) = ap (λ x. not (can_overflow r) && (x && list_all cannot_fail es)) (there-same its more h ts)
calm-same its more h (If k c a b) = ap (λ x. cannot_fail c && (x && is_calm more b)) (calm-same its more h a) ∙ ap (λ x. cannot_fail c && (is_calm its a && x)) (calm-same its more h b)
calm-same its more h (Foreach k at hd test body) = ap (λ x. cannot_fail test && x) (calm-same (hd.iterator ∷ its) (hd.iterator ∷ more) (λ x. ap (λ b. nat_eq x hd.iterator || b) (h x)) body)
calm-same its more h s = refl

elsewhere-same : (its more : List ℕ) → ((x : ℕ) → is_in more x ≡ is_in its x) → (s : Stmt) → adds_elsewhere more s ≡ adds_elsewhere its s
elsewhere-same its more h (Then a b) = ap (λ x. x || adds_elsewhere more b) (elsewhere-same its more h a) ∙ ap (λ x. adds_elsewhere its a || x) (elsewhere-same its more h b)
elsewhere-same its more h (Combine k total r ts es) = ap (λ x. can_overflow r && not x) (there-same its more h ts)
elsewhere-same its more h (If k c a b) = ap (λ x. x || adds_elsewhere more b) (elsewhere-same its more h a) ∙ ap (λ x. adds_elsewhere its a || x) (elsewhere-same its more h b)
elsewhere-same its more h s = refl

pub adds-same : (its more : List ℕ) → ((x : ℕ) → is_in more x ≡ is_in its x) → (s : Stmt) → adds_last more s ≡ adds_last its s
adds-same its more h (Then a b) =
    ap (λ x. x && (adds_last more b && (not (adds_elsewhere more a) || is_calm more b))) (adds-same its more h a)
    ∙ ap (λ x. adds_last its a && (x && (not (adds_elsewhere more a) || is_calm more b))) (adds-same its more h b)
    ∙ ap (λ x. adds_last its a && (adds_last its b && (not x || is_calm more b))) (elsewhere-same its more h a)
    ∙ ap (λ x. adds_last its a && (adds_last its b && (not (adds_elsewhere its a) || x))) (calm-same its more h b)
adds-same its more h (If k c a b) = ap (λ x. x && adds_last more b) (adds-same its more h a) ∙ ap (λ x. adds_last its a && x) (adds-same its more h b)
adds-same its more h s = refl
