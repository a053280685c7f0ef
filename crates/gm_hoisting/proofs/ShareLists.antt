-- What statements one after another share.
use Rattle.std.proofs.Common.{◌≡◌, ◌++◌, ℕ, Bool, true, false, List, [], ◌∷◌, refl, sym, ap, ◌∙◌, append_assoc, append-nil, ⊎_elim, inl, inr}
use Rattle.std.specs.Prelude.{◌&&◌, ◌||◌, not, nat_lt}
use Rattle.gm_value.specs.Bag.{IsIn}
use Rattle.gm_ast.specs.declared.tree.Declaration.{Declaration}
use Rattle.gm_ast.specs.Ways.{is_in}
use Rattle.gm_ast.specs.Program.{Stmt, sequence}
use Rattle.gm_forms.specs.Sharing.{Read, Sights, with_reads, sights_of, written, deferred, Reduced, reduced, disjoint, does_same, agrees, all_agree, targets_alike, inners_share, level_reads_of}
use Rattle.gm_forms.proofs.CutTests.{found}
use Rattle.gm_forms.proofs.Doings.{in-left, in-right, in-either}
use Rattle.gm_forms.proofs.Named.{both-true}
use Rattle.gm_forms.proofs.Weaker.{and-true}
use Rattle.gm_hoisting.specs.Hoisting.{behind}

-- ---- lists of variables

pub disjoint-from : (xs ys : List ℕ) → ((x : ℕ) → IsIn x xs → IsIn x ys → ⊥) → disjoint xs ys ≡ true
disjoint-from [] ys h = refl
disjoint-from (x ∷ xs) ys h = and-true (not (is_in ys x)) (disjoint xs ys) (by (is_in ys x) refl) (disjoint-from xs ys (λ z i j. h z (inr i) j))
  where
    by : (b : Bool) → is_in ys x ≡ b → not b ≡ true
    by true e = absurd (h x (inl refl) (found ys x e))
    by false e = refl

-- ---- reductions that agree

abbrev pub agree_two : Reduced → Reduced → Bool
agree_two a b = disjoint a.variables b.variables || (nat_lt a.number b.number && ((disjoint a.shared b.variables && disjoint b.shared a.variables) || does_same a b))

agrees-in : (a : Reduced) (bs : List Reduced) (b : Reduced) → agrees a bs ≡ true → IsIn b bs → agree_two a b ≡ true
agrees-in a [] b h i = absurd i
agrees-in a (c ∷ bs) b h i =
    let q = both-true (agree_two a c) (agrees a bs) h in
    ⊎_elim (λ (e : b ≡ c). ap (agree_two a) e ∙ q.0) (λ j. agrees-in a bs b q.1 j) i

agrees-from : (a : Reduced) (bs : List Reduced) → ((b : Reduced) → IsIn b bs → agree_two a b ≡ true) → agrees a bs ≡ true
agrees-from a [] h = refl
agrees-from a (b ∷ bs) h = and-true (agree_two a b) (agrees a bs) (h b (inl refl)) (agrees-from a bs (λ c i. h c (inr i)))

abbrev pub Agree : List Reduced → List Reduced → Type 0
Agree xs ys = (a b : Reduced) → IsIn a xs → IsIn b ys → agree_two a b ≡ true

pub agree-both : (xs ys : List Reduced) → all_agree xs ≡ true → all_agree ys ≡ true → Agree xs ys → all_agree (xs ++ ys) ≡ true
agree-both [] ys p q h = q
agree-both (x ∷ xs) ys p q h =
    let r = both-true (agrees x xs) (all_agree xs) p in
    and-true (agrees x (xs ++ ys)) (all_agree (xs ++ ys))
    (agrees-from x (xs ++ ys) (λ b i. ⊎_elim (λ l. agrees-in x xs b r.0 l) (λ m. h x b (inl refl) m) (in-either b xs ys i))) (agree-both xs ys r.1 q (λ a b i j. h a b (inr i) j))

pub agree-parts : (xs ys : List Reduced) → all_agree (xs ++ ys) ≡ true → (all_agree xs ≡ true) × (all_agree ys ≡ true) × Agree xs ys
agree-parts [] ys h = (refl, h, λ a b i j. absurd i)
agree-parts (x ∷ xs) ys h =
    let q = both-true (agrees x (xs ++ ys)) (all_agree (xs ++ ys)) h in
    let r = agree-parts xs ys q.1 in (
      and-true (agrees x xs) (all_agree xs) (agrees-from x xs (λ b i. agrees-in x (xs ++ ys) b q.0 (in-left b xs ys i))) r.0,
      r.1,
      λ a b i j. ⊎_elim (λ (e : a ≡ x). ap (λ c. agree_two c b) e ∙ agrees-in x (xs ++ ys) b q.0 (in-right b xs ys j)) (λ m. r.2 a b m j) i,
    )

-- those of other variables agree
pub apart-agree : (a b : Reduced) → disjoint a.variables b.variables ≡ true → agree_two a b ≡ true
apart-agree a b h = ap (λ c. c || (nat_lt a.number b.number && ((disjoint a.shared b.variables && disjoint b.shared a.variables) || does_same a b))) h

-- ---- statements in two parts

module _ (es : List Declaration) (n : ℕ) (inner : Bool) where
  sights-assoc : (a b c : Sights) → with_reads a (with_reads b c) ≡ with_reads (with_reads a b) c
  sights-assoc a b c =
      ap (λ (ps : List Read). let s : Sights = record { properties = ps; scalars = a.scalars ++ (b.scalars ++ c.scalars) } in s) (sym (append_assoc a.properties b.properties c.properties))
      ∙ ap (λ (xs : List ℕ). let s : Sights = record { properties = (a.properties ++ b.properties) ++ c.properties; scalars = xs } in s) (sym (append_assoc a.scalars b.scalars c.scalars))

  pub sights-both : (xs ys : List Stmt) → sights_of es n inner (sequence (xs ++ ys)) ≡ with_reads (sights_of es n inner (sequence xs)) (sights_of es n inner (sequence ys))
  sights-both [] ys = refl
  sights-both (x ∷ xs) ys = ap (with_reads (sights_of es n inner x)) (sights-both xs ys) ∙ sights-assoc (sights_of es n inner x) (sights_of es n inner (sequence xs)) (sights_of es n inner (sequence ys))

  pub written-both : (xs ys : List Stmt) → written es n inner (sequence (xs ++ ys)) ≡ written es n inner (sequence xs) ++ written es n inner (sequence ys)
  written-both [] ys = refl
  written-both (x ∷ xs) ys = ap (λ l. written es n inner x ++ l) (written-both xs ys) ∙ sym (append_assoc (written es n inner x) (written es n inner (sequence xs)) (written es n inner (sequence ys)))

  pub reduced-both : (xs ys : List Stmt) → reduced es n inner (sequence (xs ++ ys)) ≡ reduced es n inner (sequence xs) ++ reduced es n inner (sequence ys)
  reduced-both [] ys = refl
  reduced-both (x ∷ xs) ys = ap (λ l. reduced es n inner x ++ l) (reduced-both xs ys) ∙ sym (append_assoc (reduced es n inner x) (reduced es n inner (sequence xs)) (reduced es n inner (sequence ys)))

pub deferred-both : (xs ys : List Stmt) → deferred (sequence (xs ++ ys)) ≡ deferred (sequence xs) ++ deferred (sequence ys)
deferred-both [] ys = refl
deferred-both (x ∷ xs) ys = ap (λ l. deferred x ++ l) (deferred-both xs ys) ∙ sym (append_assoc (deferred x) (deferred (sequence xs)) (deferred (sequence ys)))

pub levels-both : (es : List Declaration) (n : ℕ) (xs ys : List Stmt) → level_reads_of es n (sequence (xs ++ ys)) ≡ level_reads_of es n (sequence xs) ++ level_reads_of es n (sequence ys)
levels-both es n [] ys = refl
levels-both es n (x ∷ xs) ys = ap (λ l. level_reads_of es n x ++ l) (levels-both es n xs ys) ∙ sym (append_assoc (level_reads_of es n x) (level_reads_of es n (sequence xs)) (level_reads_of es n (sequence ys)))

pub inners-both : (es : List Declaration) (n : ℕ) (xs ys : List Stmt) → inners_share es n (sequence xs) ≡ true → inners_share es n (sequence ys) ≡ true → inners_share es n (sequence (xs ++ ys)) ≡ true
inners-both es n [] ys p q = q
inners-both es n (x ∷ xs) ys p q =
    let r = both-true (inners_share es n x) (inners_share es n (sequence xs)) p in
    and-true (inners_share es n x) (inners_share es n (sequence (xs ++ ys))) r.0 (inners-both es n xs ys r.1 q)

pub alike-both : (xs ys : List Stmt) → targets_alike (sequence xs) ≡ true → targets_alike (sequence ys) ≡ true → targets_alike (sequence (xs ++ ys)) ≡ true
alike-both [] ys p q = q
alike-both (x ∷ xs) ys p q = let r = both-true (targets_alike x) (targets_alike (sequence xs)) p in and-true (targets_alike x) (targets_alike (sequence (xs ++ ys))) r.0 (alike-both xs ys r.1 q)

-- ---- a statement behind others

module _ (es : List Declaration) (n : ℕ) (inner : Bool) (t : Stmt) where
  sights-end : (s : Sights) → with_reads s (record { properties = []; scalars = [] }) ≡ s
  sights-end s =
      ap (λ (ps : List Read). let z : Sights = record { properties = ps; scalars = s.scalars ++ [] } in z) (append-nil s.properties) ∙ ap (λ (xs : List ℕ). let z : Sights = record { properties = s.properties; scalars = xs } in z) (append-nil s.scalars)

  pub sights-behind : (xs : List Stmt) → sights_of es n inner (behind xs t) ≡ with_reads (sights_of es n inner (sequence xs)) (sights_of es n inner t)
  sights-behind [] = refl
  sights-behind (x ∷ xs) = sights-both es n inner (x ∷ xs) (t ∷ []) ∙ ap (with_reads (sights_of es n inner (sequence (x ∷ xs)))) (sights-end (sights_of es n inner t))

  pub written-behind : (xs : List Stmt) → written es n inner (behind xs t) ≡ written es n inner (sequence xs) ++ written es n inner t
  written-behind [] = refl
  written-behind (x ∷ xs) = written-both es n inner (x ∷ xs) (t ∷ []) ∙ ap (λ l. written es n inner (sequence (x ∷ xs)) ++ l) (append-nil (written es n inner t))

  pub reduced-behind : (xs : List Stmt) → reduced es n inner (behind xs t) ≡ reduced es n inner (sequence xs) ++ reduced es n inner t
  reduced-behind [] = refl
  reduced-behind (x ∷ xs) = reduced-both es n inner (x ∷ xs) (t ∷ []) ∙ ap (λ l. reduced es n inner (sequence (x ∷ xs)) ++ l) (append-nil (reduced es n inner t))

pub deferred-behind : (xs : List Stmt) (t : Stmt) → deferred (behind xs t) ≡ deferred (sequence xs) ++ deferred t
deferred-behind [] t = refl
deferred-behind (x ∷ xs) t = deferred-both (x ∷ xs) (t ∷ []) ∙ ap (λ l. deferred (sequence (x ∷ xs)) ++ l) (append-nil (deferred t))

pub levels-behind : (es : List Declaration) (n : ℕ) (xs : List Stmt) (t : Stmt) → level_reads_of es n (behind xs t) ≡ level_reads_of es n (sequence xs) ++ level_reads_of es n t
levels-behind es n [] t = refl
levels-behind es n (x ∷ xs) t = levels-both es n (x ∷ xs) (t ∷ []) ∙ ap (λ l. level_reads_of es n (sequence (x ∷ xs)) ++ l) (append-nil (level_reads_of es n t))

pub inners-behind : (es : List Declaration) (n : ℕ) (xs : List Stmt) (t : Stmt) → inners_share es n (sequence xs) ≡ true → inners_share es n t ≡ true → inners_share es n (behind xs t) ≡ true
inners-behind es n [] t p q = q
inners-behind es n (x ∷ xs) t p q = inners-both es n (x ∷ xs) (t ∷ []) p (and-true (inners_share es n t) true q refl)

pub alike-behind : (xs : List Stmt) (t : Stmt) → targets_alike (sequence xs) ≡ true → targets_alike t ≡ true → targets_alike (behind xs t) ≡ true
alike-behind [] t p q = q
alike-behind (x ∷ xs) t p q = alike-both (x ∷ xs) (t ∷ []) p (and-true (targets_alike t) true q refl)
