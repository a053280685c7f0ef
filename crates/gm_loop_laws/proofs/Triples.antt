-- Turns of a loop, of its first part, and of its second part, all together.
use Rattle.std.proofs.Common.{◌≡◌, List, [], ◌∷◌, ◌++◌, map, refl, sym, ap, subst, ◌∙◌, append_assoc, Option, Some, None, ⊎_elim}
use Rattle.gm_value.specs.Bag.{IsIn, SameBag, same_nil, same_cons, same_trans}
use Rattle.gm_value.proofs.BagLaws.{SameBag-sym, SameBag-append_left, SameBag-middle}
use Rattle.gm_semantics.specs.declared.faults.Fault.{Fault}
use Rattle.gm_semantics.specs.Faults.{somes, joined}
use Rattle.gm_semantics.specs.Contributions.{Contribution}
use Rattle.gm_semantics.specs.Iterations.{Iteration}
use Rattle.gm_forms.proofs.Doings.{in-either}
use Rattle.gm_loop_laws.proofs.Joins.{exchanged}

-- F: the faults that the second part may have; G: what it may give
module _ (F : Fault → Type 0) (G : Contribution → Type 0) where
  -- a turn of the first part, of the whole, and of the second part from the store between them
  pub record Triple (a w s : Iteration) : Type 0 where
    pub failed : (f : Fault) → a.fault ≡ Some f → (w.fault ≡ Some f) × (w.with_outermost ≡ a.with_outermost)
    pub fault : a.fault ≡ None → w.fault ≡ s.fault
    pub gives : a.fault ≡ None → w.with_outermost ≡ a.with_outermost ++ s.with_outermost
    pub late : a.fault ≡ None → (f : Fault) → s.fault ≡ Some f → F f
    pub total : a.fault ≡ None → (c : Contribution) → IsIn c s.with_outermost → G c

  abbrev pub Triples : List Iteration → List Iteration → List Iteration → Type 0
  Triples [] [] [] = Unit {0}
  Triples (a ∷ as') (w ∷ ws) (s ∷ ss) = Triple a w s × Triples as' ws ss
  Triples _ _ _ = ⊥

  pub triples-append : (as' ws ss bs us ts : List Iteration) → Triples as' ws ss → Triples bs us ts → Triples (as' ++ bs) (ws ++ us) (ss ++ ts)
  triples-append [] [] [] bs us ts p q = q
  triples-append [] [] (s ∷ ss) bs us ts p q = absurd p
  triples-append [] (w ∷ ws) ss bs us ts p q = absurd p
  triples-append (a ∷ as') [] ss bs us ts p q = absurd p
  triples-append (a ∷ as') (w ∷ ws) [] bs us ts p q = absurd p
  triples-append (a ∷ as') (w ∷ ws) (s ∷ ss) bs us ts p q = (p.0, triples-append as' ws ss bs us ts p.1 q)

  abbrev fails : List Iteration → List Fault
  fails its = somes (map (λ (it : Iteration). it.fault) its)

  abbrev given : List Iteration → List Contribution
  given its = joined (map (λ (it : Iteration). it.with_outermost) its)

  -- the whole by the first part and more
  pub record Parted (as' ws ss : List Iteration) : Type 0 where
    pub faults : List Fault
    pub gives : List Contribution
    pub same_faults : SameBag (fails ws) (fails as' ++ faults)
    pub same_gives : SameBag (given ws) (given as' ++ gives)
    pub late : (f : Fault) → IsIn f faults → F f
    pub total : (c : Contribution) → IsIn c gives → G c
    -- where the first part has no fault, that is the second part's
    pub all : fails as' ≡ [] → (faults ≡ fails ss) × (gives ≡ given ss)

  pub parted : (as' ws ss : List Iteration) → Triples as' ws ss → Parted as' ws ss
  parted [] [] [] t = record { faults = []; gives = []; same_faults = same_nil; same_gives = same_nil; late = λ f i. absurd i; total = λ c i. absurd i; all = λ e. (refl, refl) }
  parted [] [] (s ∷ ss) t = absurd t
  parted [] (w ∷ ws) ss t = absurd t
  parted (a ∷ as') [] ss t = absurd t
  parted (a ∷ as') (w ∷ ws) [] t = absurd t
  parted (a ∷ as') (w ∷ ws) (s ∷ ss) t = by a.fault refl (parted as' ws ss t.1)
    where
      moved : {A : Type 0} (x y xs ys zs : List A) → SameBag zs (xs ++ ys) → SameBag ((x ++ y) ++ zs) ((x ++ xs) ++ (y ++ ys))
      moved x y xs ys zs h =
          subst (λ l. SameBag l ((x ++ xs) ++ (y ++ ys))) (sym (append_assoc x y zs))
          (subst (λ l. SameBag (x ++ (y ++ zs)) l) (sym (append_assoc x xs (y ++ ys)))
          (SameBag-append_left x (same_trans (SameBag-append_left y h) (exchanged y xs ys))))

      joined-in : (x xs ys zs : List Contribution) → SameBag zs (xs ++ ys) → SameBag (x ++ zs) ((x ++ xs) ++ ys)
      joined-in x xs ys zs h = subst (λ l. SameBag (x ++ zs) l) (sym (append_assoc x xs ys)) (SameBag-append_left x h)

      -- the second part's fault, or none
      add : Option Fault → List Fault → List Fault
      add o fs = somes (o ∷ map (λ f. Some f) fs)

      some-list : (fs : List Fault) → somes (map (λ f. Some f) fs) ≡ fs
      some-list [] = refl
      some-list (f ∷ fs) = ap (λ l. f ∷ l) (some-list fs)

      put : (o : Option Fault) (fs xs ys : List Fault) → SameBag xs (ys ++ fs) → (rest : List (Option Fault)) → somes rest ≡ xs → SameBag (somes (o ∷ rest)) (ys ++ add o fs)
      put None fs xs ys h rest e = subst (λ l. SameBag l (ys ++ add None fs)) (sym e) (subst (λ l. SameBag xs (ys ++ l)) (sym (some-list fs)) h)
      put (Some f) fs xs ys h rest e =
          subst (λ l. SameBag (f ∷ l) (ys ++ add (Some f) fs)) (sym e)
          (subst (λ l. SameBag (f ∷ xs) (ys ++ (f ∷ l))) (sym (some-list fs)) (same_trans (same_cons f h) (SameBag-sym (SameBag-middle ys f fs))))

      in-add : (o : Option Fault) (fs : List Fault) (f : Fault) → IsIn f (add o fs) → ((o ≡ Some f) → F f) → ((g : Fault) → IsIn g fs → F g) → F f
      in-add None fs f i h k = k f (subst (IsIn f) (some-list fs) i)
      in-add (Some g) fs f i h k = ⊎_elim (λ (e : f ≡ g). h (ap Some (sym e))) (λ r. k f (subst (IsIn f) (some-list fs) r)) i

      by : (o : Option Fault) → a.fault ≡ o → Parted as' ws ss → Parted (a ∷ as') (w ∷ ws) (s ∷ ss)
      by (Some f) e p =
          let r = t.0.failed f e in
          record {
            faults = p.faults;
            gives = p.gives;
            same_faults = subst (λ l. SameBag l (fails (a ∷ as') ++ p.faults)) (sym (ap (λ o. somes (o ∷ map (λ (it : Iteration). it.fault) ws)) r.0))
                (subst (λ l. SameBag (f ∷ fails ws) (l ++ p.faults)) (sym (ap (λ o. somes (o ∷ map (λ (it : Iteration). it.fault) as')) e)) (same_cons f p.same_faults));
            same_gives = subst (λ l. SameBag (l ++ given ws) (given (a ∷ as') ++ p.gives)) (sym r.1) (joined-in a.with_outermost (given as') p.gives (given ws) p.same_gives);
            late = p.late;
            total = p.total;
            all = λ z. let some : fails (a ∷ as') ≡ f ∷ fails as' = ap (λ o. somes (o ∷ map (λ (it : Iteration). it.fault) as')) e in let bad : f ∷ fails as' ≡ [] = sym some ∙ z in absurd (cc);
          }
      by None e p =
          let here : fails (a ∷ as') ≡ fails as' = ap (λ o. somes (o ∷ map (λ (it : Iteration). it.fault) as')) e in
          record {
            faults = add s.fault p.faults;
            gives = s.with_outermost ++ p.gives;
            same_faults = subst (λ l. SameBag l (fails (a ∷ as') ++ add s.fault p.faults)) (sym (ap (λ o. somes (o ∷ map (λ (it : Iteration). it.fault) ws)) (t.0.fault e)))
                (subst (λ l. SameBag (somes (s.fault ∷ map (λ (it : Iteration). it.fault) ws)) (l ++ add s.fault p.faults)) (sym here)
                (put s.fault p.faults (fails ws) (fails as') p.same_faults (map (λ (it : Iteration). it.fault) ws) refl));
            same_gives = subst (λ l. SameBag (l ++ given ws) (given (a ∷ as') ++ (s.with_outermost ++ p.gives))) (sym (t.0.gives e)) (moved a.with_outermost s.with_outermost (given as') p.gives (given ws) p.same_gives);
            late = λ f i. in-add s.fault p.faults f i (λ h. t.0.late e f h) p.late;
            total = λ c i. ⊎_elim (λ l. t.0.total e c l) (λ r. p.total c r) (in-either c s.with_outermost p.gives i);
            all = λ z. let q = p.all (sym here ∙ z) in (two s.fault p.faults q.0, ap (λ l. s.with_outermost ++ l) q.1);
          }
        where
          two : (o : Option Fault) (fs : List Fault) → fs ≡ fails ss → add o fs ≡ somes (o ∷ map (λ (it : Iteration). it.fault) ss)
          two None fs h = some-list fs ∙ h
          two (Some f) fs h = ap (λ l. f ∷ l) (some-list fs ∙ h)
