-- What is known of a body stays where its conditions are saved in fresh locals.
use Rattle.std.proofs.Common.{◌≡◌, ◌≤◌, arith, ℕ, Bool, true, false, cond, List, [], ◌∷◌, ◌++◌, append-nil, refl, sym, ap, subst, ◌∙◌, Option, Some, None, ⊎_elim, inl, inr}
use Rattle.std.specs.Prelude.{◌⊎◌, ◌&&◌, ◌||◌, not, nat_eq, nat_lt}
use Rattle.gm_base.specs.declared.places.Place.{Place}
use Rattle.gm_value.specs.Bag.{IsIn}
use Rattle.gm_ast.specs.declared.tree.Declaration.{Declaration}
use Rattle.gm_ast.specs.declared.tree.Key.{Key}
use Rattle.gm_ast.specs.Program.{Expr, Var, Stmt, Skip, Then, Declare, If}
use Rattle.gm_ast.specs.Ways.{is_in}
use Rattle.gm_semantics.specs.Frames.{NamesBelow}
use Rattle.gm_forms.specs.Cut.{touched, is_calm, adds_elsewhere, adds_last, is_own_body, is_own_code, is_own_loop}
use Rattle.gm_forms.specs.Forms.{depth_at}
use Rattle.gm_forms.specs.Order.{cannot_fail}
use Rattle.gm_forms.proofs.Doings.{in-left, in-right, in-either}
use Rattle.gm_forms.proofs.Named.{both-true}
use Rattle.gm_forms.proofs.Weaker.{and-true}
use Rattle.gm_loop_laws.proofs.Kept.{touched-below}
use Rattle.gm_dissect.specs.AllDeferred.{deferred_of, is_empty}
use Rattle.gm_dissect.specs.Conditions.{holds_cut, numbers_of, saved_first, with_saved}
use Rattle.gm_cut.proofs.Grouped.{and-one, two-same}
use Rattle.gm_parting.specs.InnerLoops.{inner_iterators_deep}
use Rattle.gm_parting.specs.Lasting.{may_be_repeated, conditions_repeat, if_numbers, ifs_are_numbered}
use Rattle.gm_parting.specs.Locals.{checks_none, checks_nothing}
use Rattle.gm_parting.specs.Tuples.{reduces_evenly}
use Rattle.gm_parting.proofs.Lasting.{not-in, out-of}

or-none : (x : Bool) → x || false ≡ x
or-none true = refl
or-none false = refl

-- local: the local of each If; q: a number that all names are below, and no such local
module _ (local : Key → Option ℕ) (at : Place) where
  abbrev sv : Stmt → Stmt
  sv s = with_saved local at s

  -- ---- tests that ask nothing of conditions

  module _ (f : Stmt → Bool) (skip : f Skip ≡ true) (then : (a b : Stmt) → f (Then a b) ≡ f a && f b) (ifs : (k : Key) (c : Expr) (a b : Stmt) → f (If k c a b) ≡ f a && f b) (declared : (k : Key) (y : ℕ) (e : Expr) → f (Declare k y (Some e)) ≡ true) where
    both-same : (a b : Stmt) → f (sv a) ≡ f a → f (sv b) ≡ f b → f (sv a) && f (sv b) ≡ f a && f b
    both-same a b p q = two-same (λ x y. x && y) (f (sv a)) (f a) (f (sv b)) (f b) p q

    if-same : (k : Key) (c : Expr) (a b : Stmt) → f (sv a) ≡ f a → f (sv b) ≡ f b → f (sv (If k c a b)) ≡ f (If k c a b)
    if-same k c a b p q = by (local k)
      where
        by : (o : Option ℕ) → f (saved_first o at k c (sv a) (sv b)) ≡ f (If k c a b)
        by None = ifs k c (sv a) (sv b) ∙ both-same a b p q ∙ sym (ifs k c a b)
        by (Some y) =
            let r = If k (Var y at) (sv a) (sv b) in
            then (Declare k y (Some c)) (Then r Skip) ∙ ap (λ x. x && f (Then r Skip)) (declared k y c) ∙ then r Skip ∙ ap (λ x. f r && x) skip ∙ and-one (f r) ∙ ifs k (Var y at) (sv a) (sv b) ∙ both-same a b p q ∙ sym (ifs k c a b)

    pub test-saved : (s : Stmt) → f (sv s) ≡ f s
    test-saved (Then a b) = then (sv a) (sv b) ∙ both-same a b (test-saved a) (test-saved b) ∙ sym (then a b)
    test-saved (If k c a b) = if-same k c a b (test-saved a) (test-saved b)
    test-saved s = refl

  pub body-saved : (n : ℕ) (s : Stmt) → is_own_body n (sv s) ≡ is_own_body n s
  body-saved n = test-saved (is_own_body n) refl (λ a b. refl) (λ k c a b. refl) (λ k y e. refl)

  pub deep-saved : (ds : List Declaration) (s : Stmt) → inner_iterators_deep ds (sv s) ≡ inner_iterators_deep ds s
  deep-saved ds = test-saved (inner_iterators_deep ds) refl (λ a b. refl) (λ k c a b. refl) (λ k y e. refl)

  pub even-saved : (ds : List Declaration) (s : Stmt) → reduces_evenly ds (sv s) ≡ reduces_evenly ds s
  even-saved ds = test-saved (reduces_evenly ds) refl (λ a b. refl) (λ k c a b. refl) (λ k y e. refl)

  empty-both : (xs ys : List ℕ) → is_empty (xs ++ ys) ≡ is_empty xs && is_empty ys
  empty-both [] ys = refl
  empty-both (x ∷ xs) ys = refl

  pub none-saved : (s : Stmt) → is_empty (deferred_of (sv s)) ≡ is_empty (deferred_of s)
  none-saved = test-saved (λ s. is_empty (deferred_of s)) refl (λ a b. empty-both (deferred_of a) (deferred_of b)) (λ k c a b. empty-both (deferred_of a) (deferred_of b)) (λ k y e. refl)

  pub checks-saved : (s : Stmt) → checks_nothing s ≡ true → checks_nothing (sv s) ≡ true
  checks-saved (Then a b) h = let r = both-true (checks_nothing a) (checks_nothing b) h in and-true (checks_nothing (sv a)) (checks_nothing (sv b)) (checks-saved a r.0) (checks-saved b r.1)
  checks-saved (If k c a b) h =
      let r = both-true (checks_none c) (checks_nothing a && checks_nothing b) h in
      let p = both-true (checks_nothing a) (checks_nothing b) r.1 in
      by (local k) r.0 (and-true (checks_nothing (sv a)) (checks_nothing (sv b)) (checks-saved a p.0) (checks-saved b p.1))
    where
      by : (o : Option ℕ) → checks_none c ≡ true → checks_nothing (sv a) && checks_nothing (sv b) ≡ true → checks_nothing (saved_first o at k c (sv a) (sv b)) ≡ true
      by None e f = and-true (checks_none c) (checks_nothing (sv a) && checks_nothing (sv b)) e f
      by (Some y) e f = and-true (checks_none c) ((checks_nothing (sv a) && checks_nothing (sv b)) && true) e (and-true (checks_nothing (sv a) && checks_nothing (sv b)) true f refl)
  checks-saved s h = h

  -- ---- what is own

  pub holds-saved : (n : ℕ) (s : Stmt) → holds_cut n (sv s) ≡ holds_cut n s
  holds-saved n (Then a b) = two-same (λ x y. x || y) (holds_cut n (sv a)) (holds_cut n a) (holds_cut n (sv b)) (holds_cut n b) (holds-saved n a) (holds-saved n b)
  holds-saved n (If k c a b) = by (local k) (two-same (λ x y. x || y) (holds_cut n (sv a)) (holds_cut n a) (holds_cut n (sv b)) (holds_cut n b) (holds-saved n a) (holds-saved n b))
    where
      by : (o : Option ℕ) → holds_cut n (sv a) || holds_cut n (sv b) ≡ holds_cut n a || holds_cut n b → holds_cut n (saved_first o at k c (sv a) (sv b)) ≡ holds_cut n a || holds_cut n b
      by None e = e
      by (Some y) e = or-none (holds_cut n (sv a) || holds_cut n (sv b)) ∙ e
  holds-saved n s = refl

  adds-saved : (its : List ℕ) (s : Stmt) → adds_elsewhere its (sv s) ≡ adds_elsewhere its s
  adds-saved its (Then a b) = two-same (λ x y. x || y) (adds_elsewhere its (sv a)) (adds_elsewhere its a) (adds_elsewhere its (sv b)) (adds_elsewhere its b) (adds-saved its a) (adds-saved its b)
  adds-saved its (If k c a b) = by (local k) (two-same (λ x y. x || y) (adds_elsewhere its (sv a)) (adds_elsewhere its a) (adds_elsewhere its (sv b)) (adds_elsewhere its b) (adds-saved its a) (adds-saved its b))
    where
      by : (o : Option ℕ) → adds_elsewhere its (sv a) || adds_elsewhere its (sv b) ≡ adds_elsewhere its a || adds_elsewhere its b → adds_elsewhere its (saved_first o at k c (sv a) (sv b)) ≡ adds_elsewhere its a || adds_elsewhere its b
      by None e = e
      by (Some y) e = or-none (adds_elsewhere its (sv a) || adds_elsewhere its (sv b)) ∙ e
  adds-saved its s = refl

  calm-saved : (its : List ℕ) (s : Stmt) → is_calm its (sv s) ≡ is_calm its s
  calm-saved its (Then a b) = two-same (λ x y. x && y) (is_calm its (sv a)) (is_calm its a) (is_calm its (sv b)) (is_calm its b) (calm-saved its a) (calm-saved its b)
  calm-saved its (If k c a b) = by (local k) (two-same (λ x y. x && y) (is_calm its (sv a)) (is_calm its a) (is_calm its (sv b)) (is_calm its b) (calm-saved its a) (calm-saved its b))
    where
      by : (o : Option ℕ) → is_calm its (sv a) && is_calm its (sv b) ≡ is_calm its a && is_calm its b → is_calm its (saved_first o at k c (sv a) (sv b)) ≡ cannot_fail c && (is_calm its a && is_calm its b)
      by None e = ap (λ x. cannot_fail c && x) e
      by (Some y) e = ap (λ x. cannot_fail c && x) (and-one (is_calm its (sv a) && is_calm its (sv b)) ∙ e)
  calm-saved its s = refl

  last-saved : (its : List ℕ) (s : Stmt) → adds_last its (sv s) ≡ adds_last its s
  last-saved its (Then a b) =
      two-same (λ x y. x && y) (adds_last its (sv a)) (adds_last its a) (adds_last its (sv b) && (not (adds_elsewhere its (sv a)) || is_calm its (sv b))) (adds_last its b && (not (adds_elsewhere its a) || is_calm its b)) (last-saved its a)
      (two-same (λ x y. x && y) (adds_last its (sv b)) (adds_last its b) (not (adds_elsewhere its (sv a)) || is_calm its (sv b)) (not (adds_elsewhere its a) || is_calm its b) (last-saved its b)
      (two-same (λ x y. not x || y) (adds_elsewhere its (sv a)) (adds_elsewhere its a) (is_calm its (sv b)) (is_calm its b) (adds-saved its a) (calm-saved its b)))
  last-saved its (If k c a b) = by (local k) (two-same (λ x y. x && y) (adds_last its (sv a)) (adds_last its a) (adds_last its (sv b)) (adds_last its b) (last-saved its a) (last-saved its b))
    where
      tail : (x y : Bool) → (x && (true && (not y || true))) && true ≡ x
      tail true true = refl
      tail true false = refl
      tail false y = refl

      by : (o : Option ℕ) → adds_last its (sv a) && adds_last its (sv b) ≡ adds_last its a && adds_last its b → adds_last its (saved_first o at k c (sv a) (sv b)) ≡ adds_last its a && adds_last its b
      by None e = e
      by (Some y) e = tail (adds_last its (sv a) && adds_last its (sv b)) (adds_elsewhere its (sv a) || adds_elsewhere its (sv b)) ∙ e
  last-saved its s = refl

  code-saved : (n : ℕ) (s : Stmt) → is_own_code n (sv s) ≡ is_own_code n s
  code-saved n (Then a b) = two-same (λ x y. x && y) (is_own_code n (sv a)) (is_own_code n a) (is_own_code n (sv b)) (is_own_code n b) (code-saved n a) (code-saved n b)
  code-saved n (If k c a b) = by (local k) (two-same (λ x y. x && y) (is_own_body n (sv a)) (is_own_body n a) (is_own_body n (sv b)) (is_own_body n b) (body-saved n a) (body-saved n b))
    where
      by : (o : Option ℕ) → is_own_body n (sv a) && is_own_body n (sv b) ≡ is_own_body n a && is_own_body n b → is_own_code n (saved_first o at k c (sv a) (sv b)) ≡ is_own_body n a && is_own_body n b
      by None e = e
      by (Some y) e = and-one (is_own_body n (sv a) && is_own_body n (sv b)) ∙ e
  code-saved n s = refl

  pub own-saved : (n : ℕ) (s : Stmt) → is_own_loop n (sv s) ≡ is_own_loop n s
  own-saved n s = two-same (λ x y. x && y) (is_own_code n (sv s)) (is_own_code n s) (adds_last (n ∷ []) (sv s)) (adds_last (n ∷ []) s) (code-saved n s) (last-saved (n ∷ []) s)

  -- ---- what is written

  -- a local of an If of a body
  pub record New (s : Stmt) (y : ℕ) : Type 0 where
    pub key : Key
    pub is : local key ≡ Some y
    pub listed : IsIn key.statement (if_numbers s)

  abbrev Now : Stmt → ℕ → Type 0
  Now s y = IsIn y (touched s) ⊎ New s y

  now-left : (a b : Stmt) (y : ℕ) → Now a y → IsIn y (touched a ++ touched b) ⊎ New (Then a b) y
  now-left a b y w = ⊎_elim (λ i. inl (in-left y (touched a) (touched b) i)) (λ r. inr (record { key = r.key; is = r.is; listed = in-left r.key.statement (if_numbers a) (if_numbers b) r.listed })) w

  now-right : (a b : Stmt) (y : ℕ) → Now b y → IsIn y (touched a ++ touched b) ⊎ New (Then a b) y
  now-right a b y w = ⊎_elim (λ i. inl (in-right y (touched a) (touched b) i)) (λ r. inr (record { key = r.key; is = r.is; listed = in-right r.key.statement (if_numbers a) (if_numbers b) r.listed })) w

  pub touched-saved : (s : Stmt) (y : ℕ) → IsIn y (touched (sv s)) → Now s y
  touched-saved (Then a b) y i = ⊎_elim (λ j. now-left a b y (touched-saved a y j)) (λ j. now-right a b y (touched-saved b y j)) (in-either y (touched (sv a)) (touched (sv b)) i)
  touched-saved (If k c a b) y i = by (local k) refl i (λ j. ⊎_elim (λ l. now-left a b y (touched-saved a y l)) (λ l. now-right a b y (touched-saved b y l)) (in-either y (touched (sv a)) (touched (sv b)) j))
    where
      up : IsIn y (touched a ++ touched b) ⊎ New (Then a b) y → Now (If k c a b) y
      up w = ⊎_elim (λ j. inl j) (λ r. inr (record { key = r.key; is = r.is; listed = inr r.listed })) w

      by : (o : Option ℕ) → local k ≡ o → IsIn y (touched (saved_first o at k c (sv a) (sv b))) → (IsIn y (touched (sv a) ++ touched (sv b)) → IsIn y (touched a ++ touched b) ⊎ New (Then a b) y) → Now (If k c a b) y
      by None e i rest = up (rest i)
      by (Some z) e i rest =
          ⊎_elim (λ (f : y ≡ z). inr (record { key = k; is = e ∙ ap Some (sym f); listed = inl refl })) (λ j. up (rest (subst (IsIn y) (append-nil (touched (sv a) ++ touched (sv b))) j))) i
  touched-saved s y i = inl i

  -- ---- conditions

  -- dt: the table
  module _ (dt : List Declaration) (n q : ℕ) (fresh : (k : Key) (y : ℕ) → local k ≡ Some y → q ≤ y) (shallow : (k : Key) (y : ℕ) → local k ≡ Some y → nat_lt (depth_at dt y) 2 ≡ true) (one : (k j : Key) (y : ℕ) → local k ≡ Some y → local j ≡ Some y → j.statement ≡ k.statement) where
    abbrev Listed : Stmt → Type 0
    Listed s = (k : Key) → IsIn k.statement (numbers_of n s) → local k ≡ None → ⊥

    unwritten : (k : Key) (a : Stmt) (y : ℕ) → NamesBelow q a → local k ≡ Some y → (IsIn k.statement (if_numbers a) → ⊥) → IsIn y (touched (sv a)) → ⊥
    unwritten k a y l e out i =
        ⊎_elim (λ j. let low = touched-below q a l y j in let high = fresh k y e in omega (arith, low, high)) (λ (r : New a y). out (subst (λ m. IsIn m (if_numbers a)) (one k r.key y e r.is) r.listed)) (touched-saved a y i)

    pub repeat-saved : (s : Stmt) → Listed s → NamesBelow q s → ifs_are_numbered n s ≡ true → conditions_repeat dt n (sv s) ≡ true
    repeat-saved (Then a b) all l h =
        let r = both-true (ifs_are_numbered n a) (ifs_are_numbered n b) h in
        and-true (conditions_repeat dt n (sv a)) (conditions_repeat dt n (sv b)) (repeat-saved a (λ k i. all k (in-left k.statement (numbers_of n a) (numbers_of n b) i)) l.0 r.0)
        (repeat-saved b (λ k i. all k (in-right k.statement (numbers_of n a) (numbers_of n b) i)) l.1 r.1)
    repeat-saved (If k c a b) all l h =
        let holds = holds_cut n a || holds_cut n b in
        let here = cond holds (k.statement ∷ []) [] in
        let p = both-true (not holds || not (is_in (if_numbers a ++ if_numbers b) k.statement)) (ifs_are_numbered n a && ifs_are_numbered n b) h in
        let r = both-true (ifs_are_numbered n a) (ifs_are_numbered n b) p.1 in
        let same : holds_cut n (sv a) || holds_cut n (sv b) ≡ holds = two-same (λ x y. x || y) (holds_cut n (sv a)) (holds_cut n a) (holds_cut n (sv b)) (holds_cut n b) (holds-saved n a) (holds-saved n b) in
        by (local k) refl holds refl (in-either-listed holds) p.0 same
        (and-true (conditions_repeat dt n (sv a)) (conditions_repeat dt n (sv b))
        (repeat-saved a (λ j i. all j (in-right j.statement here (numbers_of n a ++ numbers_of n b) (in-left j.statement (numbers_of n a) (numbers_of n b) i))) l.1 r.0)
        (repeat-saved b (λ j i. all j (in-right j.statement here (numbers_of n a ++ numbers_of n b) (in-right j.statement (numbers_of n a) (numbers_of n b) i))) l.2 r.1))
      where
        ys : List ℕ
        ys = touched (sv a) ++ touched (sv b)

        in-either-listed : (g : Bool) → holds_cut n a || holds_cut n b ≡ g → g ≡ true → local k ≡ None → ⊥
        in-either-listed g f t e = all k (in-left k.statement (cond (holds_cut n a || holds_cut n b) (k.statement ∷ []) []) (numbers_of n a ++ numbers_of n b) (subst (λ z. IsIn k.statement (cond z (k.statement ∷ []) [])) (sym (f ∙ t)) (inl refl))) e

        first : (g g' m : Bool) → g' ≡ g → (g ≡ true → m ≡ true) → not g' || m ≡ true
        first true g' m e f = ap (λ z. not z || m) e ∙ f refl
        first false g' m e f = ap (λ z. not z || m) e

        by : (o : Option ℕ) → local k ≡ o → (g : Bool) → holds_cut n a || holds_cut n b ≡ g → (holds_cut n a || holds_cut n b ≡ g → g ≡ true → local k ≡ None → ⊥) → not g || not (is_in (if_numbers a ++ if_numbers b) k.statement) ≡ true → holds_cut n (sv a) || holds_cut n (sv b) ≡ g →
            conditions_repeat dt n (sv a) && conditions_repeat dt n (sv b) ≡ true → conditions_repeat dt n (saved_first o at k c (sv a) (sv b)) ≡ true
        by None e g f found p same branches =
            and-true (not (holds_cut n (sv a) || holds_cut n (sv b)) || may_be_repeated dt n ys c) (conditions_repeat dt n (sv a) && conditions_repeat dt n (sv b))
            (first g (holds_cut n (sv a) || holds_cut n (sv b)) (may_be_repeated dt n ys c) same (λ t. absurd (found f t e))) branches
        by (Some y) e g f found p same branches =
            let asks = (nat_eq y n || nat_lt (depth_at dt y) 2) && true in
            let known : asks ≡ true = and-true (nat_eq y n || nat_lt (depth_at dt y) 2) true (second (nat_eq y n) (nat_lt (depth_at dt y) 2) (shallow k y e)) refl in
            and-true ((not (holds_cut n (sv a) || holds_cut n (sv b)) || (not (is_in ys y) && asks)) && (conditions_repeat dt n (sv a) && conditions_repeat dt n (sv b))) true
            (and-true (not (holds_cut n (sv a) || holds_cut n (sv b)) || (not (is_in ys y) && asks)) (conditions_repeat dt n (sv a) && conditions_repeat dt n (sv b))
            (first g (holds_cut n (sv a) || holds_cut n (sv b)) (not (is_in ys y) && asks) same (λ t. and-true (not (is_in ys y)) asks (not-in ys y (λ i. out t (in-either y (touched (sv a)) (touched (sv b)) i))) known)) branches) refl
          where
            second : (a b : Bool) → b ≡ true → a || b ≡ true
            second true b h = refl
            second false b h = h

            numbered : g ≡ true → IsIn k.statement (if_numbers a ++ if_numbers b) → ⊥
            numbered t i = out-of (if_numbers a ++ if_numbers b) k.statement (subst (λ z. not z || not (is_in (if_numbers a ++ if_numbers b) k.statement) ≡ true) t p) i

            out : g ≡ true → IsIn y (touched (sv a)) ⊎ IsIn y (touched (sv b)) → ⊥
            out t i =
                ⊎_elim (λ j. unwritten k a y l.1 e (λ m. numbered t (in-left k.statement (if_numbers a) (if_numbers b) m)) j) (λ j. unwritten k b y l.2 e (λ m. numbered t (in-right k.statement (if_numbers a) (if_numbers b) m)) j) i
    repeat-saved s all l h = refl
