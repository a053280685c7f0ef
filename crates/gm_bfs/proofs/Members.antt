-- Lists of variables: what is in none of them, and what is true of each member.
use Rattle.std.proofs.Common.{◌≡◌, ℕ, Bool, true, false, cond, List, [], ◌∷◌, ◌++◌, refl, sym, ap, subst, ◌∙◌, arith}
use Rattle.std.specs.Prelude.{◌||◌, not, nat_eq}
use Rattle.std.proofs.lemmas.Bool.{eqb-true, or_parts, or_from, or_right, not_from_false}
use Rattle.gm_ast.specs.Ways.{is_in}
use Rattle.gm_semantics.proofs.TargetLaws.{never}
use Rattle.gm_forms.specs.Sharing.{Read, read_at, read_elsewhere, read_anywhere, disjoint}
use Rattle.gm_forms.proofs.CutTests.{not-true}
use Rattle.gm_forms.proofs.Named.{both-true}
use Rattle.gm_forms.proofs.Weaker.{and-true}

self-eq : (n : ℕ) → nat_eq n n ≡ true
self-eq n = grind (arith)

-- a variable that is not in a list
abbrev pub Off : List ℕ → ℕ → Type 0
Off xs v = is_in xs v ≡ false

pub off-both : (xs ys : List ℕ) (v : ℕ) → Off xs v → Off ys v → Off (xs ++ ys) v
off-both [] ys v p q = q
off-both (x ∷ xs) ys v p q =
    let r = or_parts (nat_eq v x) (is_in xs v) p in
    or_from (nat_eq v x) (is_in (xs ++ ys) v) r.0 (off-both xs ys v r.1 q)

pub off-parts : (xs ys : List ℕ) (v : ℕ) → Off (xs ++ ys) v → Off xs v × Off ys v
off-parts [] ys v h = (refl, h)
off-parts (x ∷ xs) ys v h =
    let r = or_parts (nat_eq v x) (is_in (xs ++ ys) v) h in
    let q = off-parts xs ys v r.1 in
    (or_from (nat_eq v x) (is_in xs v) r.0 q.0, q.1)

-- what is true of each member
abbrev pub Each : (ℕ → Type 0) → List ℕ → Type 0
Each P [] = Unit {0}
Each P (x ∷ xs) = P x × Each P xs

pub each-both : (P : ℕ → Type 0) (xs ys : List ℕ) → Each P xs → Each P ys → Each P (xs ++ ys)
each-both P [] ys p q = q
each-both P (x ∷ xs) ys p q = (p.0, each-both P xs ys p.1 q)

pub each-in : (P : ℕ → Type 0) (xs : List ℕ) → Each P xs → (v : ℕ) → is_in xs v ≡ true → P v
each-in P [] e v i = never i refl
each-in P (x ∷ xs) e v i = by (nat_eq v x) refl (each-in P xs e.1 v) i
  where
    by : (b : Bool) → nat_eq v x ≡ b → (is_in xs v ≡ true → P v) → b || is_in xs v ≡ true → P v
    by true is rest i = subst P (sym (eqb-true v x is)) e.0
    by false is rest i = rest i

-- lists without a common member
pub disjoint-off : (xs ys : List ℕ) → disjoint xs ys ≡ true → (v : ℕ) → is_in xs v ≡ true → Off ys v
disjoint-off [] ys h v i = never i refl
disjoint-off (x ∷ xs) ys h v i =
    let r = both-true (not (is_in ys x)) (disjoint xs ys) h in
    by (nat_eq v x) refl (not-true (is_in ys x) r.0) (disjoint-off xs ys r.1 v) i
  where
    by : (b : Bool) → nat_eq v x ≡ b → Off ys x → (is_in xs v ≡ true → Off ys v) → b || is_in xs v ≡ true → Off ys v
    by true is out rest i = ap (is_in ys) (eqb-true v x is) ∙ out
    by false is out rest i = rest i

pub off-disjoint : (xs ys : List ℕ) → ((v : ℕ) → is_in xs v ≡ true → Off ys v) → disjoint xs ys ≡ true
off-disjoint [] ys h = refl
off-disjoint (x ∷ xs) ys h =
    and-true (not (is_in ys x)) (disjoint xs ys) (not_from_false (is_in ys x) (h x (ap (λ b. b || is_in xs x) (self-eq x))))
    (off-disjoint xs ys (λ v i. h v (or_right (nat_eq v x) (is_in xs v) i)))

pub disjoint-nothing : (xs : List ℕ) → disjoint xs [] ≡ true
disjoint-nothing [] = refl
disjoint-nothing (x ∷ xs) = disjoint-nothing xs

-- a property that is not read through variables that pass a test
module _ (v : ℕ) where
  abbrev pub Unread : (ℕ → Bool) → List Read → Type 0
  Unread test [] = Unit {0}
  Unread test (r ∷ rs) = (test r.owner ≡ true → nat_eq v r.property ≡ false) × Unread test rs

  pub unread-both : (test : ℕ → Bool) (rs qs : List Read) → Unread test rs → Unread test qs → Unread test (rs ++ qs)
  unread-both test [] qs p q = q
  unread-both test (r ∷ rs) qs p q = (p.0, unread-both test rs qs p.1 q)

  pub unread-parts : (test : ℕ → Bool) (rs qs : List Read) → Unread test (rs ++ qs) → Unread test rs × Unread test qs
  unread-parts test [] qs h = (tt, h)
  unread-parts test (r ∷ rs) qs h = let q = unread-parts test rs qs h.1 in ((h.0, q.0), q.1)

  -- the tests of all variables, of one, and of all but one
  abbrev pub any-owner : ℕ → Bool
  any-owner o = true

  abbrev pub owner-is : ℕ → ℕ → Bool
  owner-is n o = nat_eq o n

  abbrev pub owner-other : ℕ → ℕ → Bool
  owner-other n o = not (nat_eq o n)

  pub anywhere-unread : (rs : List Read) → Off (read_anywhere rs) v → Unread any-owner rs
  anywhere-unread [] h = tt
  anywhere-unread (r ∷ rs) h = let p = or_parts (nat_eq v r.property) (is_in (read_anywhere rs) v) h in (λ t. p.0, anywhere-unread rs p.1)

  pub unread-anywhere : (rs : List Read) → Unread any-owner rs → Off (read_anywhere rs) v
  unread-anywhere [] u = refl
  unread-anywhere (r ∷ rs) u = or_from (nat_eq v r.property) (is_in (read_anywhere rs) v) (u.0 refl) (unread-anywhere rs u.1)

  module _ (n : ℕ) where
    pub at-unread : (rs : List Read) → Off (read_at n rs) v → Unread (owner-is n) rs
    at-unread [] h = tt
    at-unread (r ∷ rs) h = by (nat_eq r.owner n) refl (at-unread rs) h
      where
        by : (b : Bool) → nat_eq r.owner n ≡ b → (Off (read_at n rs) v → Unread (owner-is n) rs) → Off (cond b (r.property ∷ read_at n rs) (read_at n rs)) v → (nat_eq r.owner n ≡ true → nat_eq v r.property ≡ false) × Unread (owner-is n) rs
        by true e rest h = let p = or_parts (nat_eq v r.property) (is_in (read_at n rs) v) h in (λ t. p.0, rest p.1)
        by false e rest h = (λ t. never t e, rest h)

    pub unread-at : (rs : List Read) → Unread (owner-is n) rs → Off (read_at n rs) v
    unread-at [] u = refl
    unread-at (r ∷ rs) u = by (nat_eq r.owner n) refl (unread-at rs u.1)
      where
        by : (b : Bool) → nat_eq r.owner n ≡ b → Off (read_at n rs) v → Off (cond b (r.property ∷ read_at n rs) (read_at n rs)) v
        by true e rest = or_from (nat_eq v r.property) (is_in (read_at n rs) v) (u.0 e) rest
        by false e rest = rest

    pub elsewhere-unread : (rs : List Read) → Off (read_elsewhere n rs) v → Unread (owner-other n) rs
    elsewhere-unread [] h = tt
    elsewhere-unread (r ∷ rs) h = by (nat_eq r.owner n) refl (elsewhere-unread rs) h
      where
        by : (b : Bool) → nat_eq r.owner n ≡ b → (Off (read_elsewhere n rs) v → Unread (owner-other n) rs) → Off (cond b (read_elsewhere n rs) (r.property ∷ read_elsewhere n rs)) v → (not (nat_eq r.owner n) ≡ true → nat_eq v r.property ≡ false) × Unread (owner-other n) rs
        by true e rest h = (λ t. never t (ap not e), rest h)
        by false e rest h = let p = or_parts (nat_eq v r.property) (is_in (read_elsewhere n rs) v) h in (λ t. p.0, rest p.1)

    pub unread-elsewhere : (rs : List Read) → Unread (owner-other n) rs → Off (read_elsewhere n rs) v
    unread-elsewhere [] u = refl
    unread-elsewhere (r ∷ rs) u = by (nat_eq r.owner n) refl (unread-elsewhere rs u.1)
      where
        by : (b : Bool) → nat_eq r.owner n ≡ b → Off (read_elsewhere n rs) v → Off (cond b (read_elsewhere n rs) (r.property ∷ read_elsewhere n rs)) v
        by true e rest = rest
        by false e rest = or_from (nat_eq v r.property) (is_in (read_elsewhere n rs) v) (u.0 (ap not e)) rest
