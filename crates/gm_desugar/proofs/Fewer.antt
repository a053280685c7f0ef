-- Parts that have fewer faults, or read less, than others.
use Rattle.std.proofs.Common.{◌≡◌, ℕ, Bool, true, false, cond, List, [], ◌∷◌, ◌++◌, refl, sym, ap, subst, ◌∙◌, ⊎_elim, inl, inr}
use Rattle.std.specs.Prelude.{not, nat_eq, nat_lt}
use Rattle.std.proofs.lemmas.Bool.{both_ways}
use Rattle.gm_value.specs.Bag.{IsIn}
use Rattle.gm_ast.specs.Keys as K
use Rattle.gm_ast.specs.Keys.{fault_lt, all_before}
use Rattle.gm_ast.specs.Ways.{is_in}
use Rattle.gm_forms.specs.Order.{lie_before, are_numbered}
use Rattle.gm_forms.specs.Sharing.{Read, Sights, with_reads, disjoint, read_at, read_elsewhere, read_anywhere, not_through, at_level}
use Rattle.gm_ast.specs.declared.tree.Head.{Head}
use Rattle.gm_ast.specs.Loops.{asks_levels}
use Rattle.gm_forms.proofs.Named.{both-true}
use Rattle.gm_forms.proofs.Weaker.{and-true}
use Rattle.gm_forms.proofs.Doings.{in-left, in-right, in-either}
use Rattle.gm_forms.proofs.CutTests.{found, finds, not-true}
use Rattle.gm_forms.proofs.CutReads.{anywhere-member, elsewhere-member}
use Rattle.gm_forms.proofs.CutLaws.{lies-in}

-- each of some faults is among others, so the order of faults is kept
abbrev pub Fewer : List K.Fault → List K.Fault → Type 0
Fewer fs gs = (f : K.Fault) → IsIn f fs → IsIn f gs

pub before-from : (xs : List K.Fault) (g : K.Fault) → ((f : K.Fault) → IsIn f xs → fault_lt f g ≡ true) → all_before xs g ≡ true
before-from [] g h = refl
before-from (x ∷ xs) g h = and-true (fault_lt x g) (all_before xs g) (h x (inl refl)) (before-from xs g (λ f i. h f (inr i)))

pub lie-from : (xs ys : List K.Fault) → ((f g : K.Fault) → IsIn f xs → IsIn g ys → fault_lt f g ≡ true) → lie_before xs ys ≡ true
lie-from xs [] h = refl
lie-from xs (y ∷ ys) h = and-true (all_before xs y) (lie_before xs ys) (before-from xs y (λ f i. h f y i (inl refl))) (lie-from xs ys (λ f g i j. h f g i (inr j)))

pub lie-fewer : (xs ys us vs : List K.Fault) → Fewer us xs → Fewer vs ys → lie_before xs ys ≡ true → lie_before us vs ≡ true
lie-fewer xs ys us vs p q h = lie-from us vs (λ f g i j. lies-in xs ys f g h (p f i) (q g j))

pub fewer-both : (xs ys us vs : List K.Fault) → Fewer us xs → Fewer vs ys → Fewer (us ++ vs) (xs ++ ys)
fewer-both xs ys us vs p q f i = ⊎_elim (λ l. in-left f xs ys (p f l)) (λ r. in-right f xs ys (q f r)) (in-either f us vs i)

pub numbered-in : (xs : List K.Fault) (f : K.Fault) → are_numbered xs ≡ true → IsIn f xs → nat_lt 0 f.key.statement ≡ true
numbered-in [] f h i = absurd i
numbered-in (x ∷ xs) f h (inl e) = subst (λ (g : K.Fault). nat_lt 0 g.key.statement ≡ true) (sym e) (both-true (nat_lt 0 x.key.statement) (are_numbered xs) h).0
numbered-in (x ∷ xs) f h (inr i) = numbered-in xs f (both-true (nat_lt 0 x.key.statement) (are_numbered xs) h).1 i

pub numbered-fewer : (xs us : List K.Fault) → Fewer us xs → are_numbered xs ≡ true → are_numbered us ≡ true
numbered-fewer xs [] p h = refl
numbered-fewer xs (u ∷ us) p h = and-true (nat_lt 0 u.key.statement) (are_numbered us) (numbered-in xs u h (p u (inl refl))) (numbered-fewer xs us (λ f i. p f (inr i)) h)

pub nothing-before : (ys : List K.Fault) → lie_before [] ys ≡ true
nothing-before [] = refl
nothing-before (y ∷ ys) = nothing-before ys

-- what a part reads is among what another does
pub record FewerSights (a b : Sights) : Type 0 where
  pub properties : (r : Read) → IsIn r a.properties → IsIn r b.properties
  pub scalars : (x : ℕ) → IsIn x a.scalars → IsIn x b.scalars

pub same-sights : (a : Sights) → FewerSights a a
same-sights a = record { properties = λ r i. i; scalars = λ x i. i }

pub sights-both : (a b c d : Sights) → FewerSights a c → FewerSights b d → FewerSights (with_reads a b) (with_reads c d)
sights-both a b c d p q = record {
  properties = λ r i. ⊎_elim (λ l. in-left r c.properties d.properties (p.properties r l)) (λ m. in-right r c.properties d.properties (q.properties r m)) (in-either r a.properties b.properties i);
  scalars = λ x i. ⊎_elim (λ l. in-left x c.scalars d.scalars (p.scalars x l)) (λ m. in-right x c.scalars d.scalars (q.scalars x m)) (in-either x a.scalars b.scalars i);
}

-- fewer members are as disjoint
pub disjoint-fewer : (xs ys zs : List ℕ) → ((y : ℕ) → IsIn y ys → IsIn y zs) → disjoint xs zs ≡ true → disjoint xs ys ≡ true
disjoint-fewer [] ys zs f h = refl
disjoint-fewer (x ∷ xs) ys zs f h =
    let r = both-true (not (is_in zs x)) (disjoint xs zs) h in
    and-true (not (is_in ys x)) (disjoint xs ys) (by (is_in ys x) refl (not-true (is_in zs x) r.0)) (disjoint-fewer xs ys zs f r.1)
  where
    by : (b : Bool) → is_in ys x ≡ b → is_in zs x ≡ false → not b ≡ true
    by true e n = absurd (both_ways (is_in zs x) n (finds zs x (f x (found ys x e))))
    by false e n = refl

pub members-both : (xs ys us vs : List ℕ) → ((y : ℕ) → IsIn y us → IsIn y xs) → ((y : ℕ) → IsIn y vs → IsIn y ys) → (y : ℕ) → IsIn y (us ++ vs) → IsIn y (xs ++ ys)
members-both xs ys us vs p q y i = ⊎_elim (λ l. in-left y xs ys (p y l)) (λ r. in-right y xs ys (q y r)) (in-either y us vs i)

pub anywhere-fewer : (rs qs : List Read) → ((r : Read) → IsIn r rs → IsIn r qs) → (p : ℕ) → IsIn p (read_anywhere rs) → IsIn p (read_anywhere qs)
anywhere-fewer [] qs f p i = absurd i
anywhere-fewer (r ∷ rs) qs f p i =
    ⊎_elim (λ (e : p ≡ r.property). subst (λ z. IsIn z (read_anywhere qs)) (sym e) (anywhere-member qs r (f r (inl refl)))) (λ j. anywhere-fewer rs qs (λ q k. f q (inr k)) p j) i

pub elsewhere-fewer : (n : ℕ) (rs qs : List Read) → ((r : Read) → IsIn r rs → IsIn r qs) → (p : ℕ) → IsIn p (read_elsewhere n rs) → IsIn p (read_elsewhere n qs)
elsewhere-fewer n [] qs f p i = absurd i
elsewhere-fewer n (r ∷ rs) qs f p i = by (nat_eq r.owner n) refl (elsewhere-fewer n rs qs (λ q k. f q (inr k)) p) i
  where
    by : (b : Bool) → nat_eq r.owner n ≡ b → (IsIn p (read_elsewhere n rs) → IsIn p (read_elsewhere n qs)) → IsIn p (cond b (read_elsewhere n rs) (r.property ∷ read_elsewhere n rs)) → IsIn p (read_elsewhere n qs)
    by true e rest i = rest i
    by false e rest i = ⊎_elim (λ (s : p ≡ r.property). subst (λ z. IsIn z (read_elsewhere n qs)) (sym s) (elsewhere-member n qs r (f r (inl refl)) e)) rest i

pub at-member : (n : ℕ) (rs : List Read) (r : Read) → IsIn r rs → nat_eq r.owner n ≡ true → IsIn r.property (read_at n rs)
at-member n [] r i e = absurd i
at-member n (q ∷ rs) r i e =
    ⊎_elim
    (λ (s : r ≡ q). subst (IsIn r.property) (sym (ap (λ b. cond b (q.property ∷ read_at n rs) (read_at n rs)) (ap (λ (z : Read). nat_eq z.owner n) (sym s) ∙ e))) (inl (ap (λ (z : Read). z.property) s)))
    (λ j. by (nat_eq q.owner n) (at-member n rs r j e)) i
  where
    by : (b : Bool) → IsIn r.property (read_at n rs) → IsIn r.property (cond b (q.property ∷ read_at n rs) (read_at n rs))
    by true j = inr j
    by false j = j

pub at-fewer : (n : ℕ) (rs qs : List Read) → ((r : Read) → IsIn r rs → IsIn r qs) → (p : ℕ) → IsIn p (read_at n rs) → IsIn p (read_at n qs)
at-fewer n [] qs f p i = absurd i
at-fewer n (r ∷ rs) qs f p i = by (nat_eq r.owner n) refl (at-fewer n rs qs (λ q k. f q (inr k)) p) i
  where
    by : (b : Bool) → nat_eq r.owner n ≡ b → (IsIn p (read_at n rs) → IsIn p (read_at n qs)) → IsIn p (cond b (r.property ∷ read_at n rs) (read_at n rs)) → IsIn p (read_at n qs)
    by true e rest i = ⊎_elim (λ (s : p ≡ r.property). subst (λ z. IsIn z (read_at n qs)) (sym s) (at-member n qs r (f r (inl refl)) e)) rest i
    by false e rest i = rest i

-- what is read is among what was
abbrev pub FewerReads : List Read → List Read → Type 0
FewerReads rs qs = (r : Read) → IsIn r rs → IsIn r qs

pub reads-both : (rs qs us vs : List Read) → FewerReads us rs → FewerReads vs qs → FewerReads (us ++ vs) (rs ++ qs)
reads-both rs qs us vs p q r i = ⊎_elim (λ l. in-left r rs qs (p r l)) (λ m. in-right r rs qs (q r m)) (in-either r us vs i)

through-member : (x : ℕ) (qs : List Read) (r : Read) → IsIn r qs → nat_eq r.owner x ≡ false → IsIn r (not_through x qs)
through-member x [] r i e = absurd i
through-member x (q ∷ qs) r i e =
    ⊎_elim
    (λ (s : r ≡ q). subst (IsIn r) (sym (ap (λ b. cond b (not_through x qs) (q ∷ not_through x qs)) (ap (λ (z : Read). nat_eq z.owner x) (sym s) ∙ e))) (inl s))
    (λ j. by (nat_eq q.owner x) (through-member x qs r j e)) i
  where
    by : (b : Bool) → IsIn r (not_through x qs) → IsIn r (cond b (not_through x qs) (q ∷ not_through x qs))
    by true j = j
    by false j = inr j

through-fewer : (x : ℕ) (rs qs : List Read) → FewerReads rs qs → FewerReads (not_through x rs) (not_through x qs)
through-fewer x [] qs f r i = absurd i
through-fewer x (q ∷ rs) qs f r i = by (nat_eq q.owner x) refl (through-fewer x rs qs (λ y k. f y (inr k)) r) i
  where
    by : (b : Bool) → nat_eq q.owner x ≡ b → (IsIn r (not_through x rs) → IsIn r (not_through x qs)) → IsIn r (cond b (not_through x rs) (q ∷ not_through x rs)) → IsIn r (not_through x qs)
    by true e rest i = rest i
    by false e rest i = ⊎_elim (λ (s : r ≡ q). subst (λ z. IsIn z (not_through x qs)) (sym s) (through-member x qs q (f q (inl refl)) e)) rest i

pub at-level-fewer : (h : Head) (rs qs : List Read) → FewerReads rs qs → FewerReads (at_level h rs) (at_level h qs)
at-level-fewer h rs qs f = by (asks_levels h.domain)
  where
    by : (b : Bool) → FewerReads (cond b (not_through h.iterator rs) rs) (cond b (not_through h.iterator qs) qs)
    by true = through-fewer h.iterator rs qs f
    by false = f
