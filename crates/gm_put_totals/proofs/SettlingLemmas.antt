-- Contributions that settle as others may be exchanged for them anywhere.
use Rattle.std.proofs.Common.{◌≡◌, ℕ, List, [], ◌∷◌, ◌++◌, refl, sym, ap, subst, ◌∙◌, append_assoc}
use Rattle.std.specs.List.{flat_map}
use Rattle.std.proofs.lemmas.List.{append-nil}
use Rattle.gm_value.specs.declared.values.Value.{Value}
use Rattle.gm_value.specs.Bag.{SameBag}
use Rattle.gm_value.proofs.BagLaws.{SameBag-append_left, SameBag-append_right}
use Rattle.gm_image.specs.Folds.{Reduction}
use Rattle.gm_machine.specs.Taking.{Contribution, settled}
use Rattle.gm_machine.proofs.OrderLaws.{AreBy, settled-permuted}
use Rattle.gm_machine.proofs.SoundPuts.{AreBy-permuted}
use Rattle.gm_put_totals.specs.Settling.{ReduceBy, SettleAs}

module _ (reduction : ℕ → Reduction) where
  pub by-front : (cs ds : List Contribution) → ReduceBy reduction (cs ++ ds) → ReduceBy reduction cs
  by-front [] ds by = tt
  by-front (c ∷ cs) ds by = (by.0, by-front cs ds by.1)

  pub by-back : (cs ds : List Contribution) → ReduceBy reduction (cs ++ ds) → ReduceBy reduction ds
  by-back [] ds by = by
  by-back (c ∷ cs) ds by = by-back cs ds by.1

  pub by-append : (cs ds : List Contribution) → ReduceBy reduction cs → ReduceBy reduction ds → ReduceBy reduction (cs ++ ds)
  by-append [] ds some more = more
  by-append (c ∷ cs) ds some more = (some.0, by-append cs ds some.1 more)

  -- between others
  pub by-between : (before some other behind : List Contribution) → (ReduceBy reduction some → ReduceBy reduction other) → ReduceBy reduction (before ++ (some ++ behind)) →
      ReduceBy reduction (before ++ (other ++ behind))
  by-between before some other behind also by =
      let rest : ReduceBy reduction (some ++ behind) = by-back before (some ++ behind) by in
      by-append before (other ++ behind) (by-front before (some ++ behind) by)
      (by-append other behind (also (by-front some behind rest)) (by-back some behind rest))

pub settles-itself : (cs : List Contribution) → SettleAs cs cs
settles-itself cs = record { reduce = λ reduction by. by; settle = λ reduction places before behind held by. refl }

pub settles-through : (some other more : List Contribution) → SettleAs some other → SettleAs other more → SettleAs some more
settles-through some other more first next = record {
  reduce = λ reduction by. next.reduce reduction (first.reduce reduction by);
  settle = λ reduction places before behind held by.
      first.settle reduction places before behind held by
      ∙ next.settle reduction places before behind held (by-between reduction before some other behind (first.reduce reduction) by);
}

-- with more behind
settles-front : (some other more : List Contribution) → SettleAs some other → SettleAs (some ++ more) (other ++ more)
settles-front some other more is = record {
  reduce = λ reduction by. by-append reduction other more (is.reduce reduction (by-front reduction some more by)) (by-back reduction some more by);
  settle = λ reduction places before behind held by.
      let there : before ++ ((some ++ more) ++ behind) ≡ before ++ (some ++ (more ++ behind)) = ap (λ l. before ++ l) (append_assoc some more behind) in
      let then : before ++ ((other ++ more) ++ behind) ≡ before ++ (other ++ (more ++ behind)) = ap (λ l. before ++ l) (append_assoc other more behind) in
      ap (λ l. settled places l held) there
      ∙ is.settle reduction places before (more ++ behind) held (subst (ReduceBy reduction) there by)
      ∙ ap (λ l. settled places l held) (sym then);
}

-- with more before
settles-back : (more some other : List Contribution) → SettleAs some other → SettleAs (more ++ some) (more ++ other)
settles-back more some other is = record {
  reduce = λ reduction by. by-append reduction more other (by-front reduction more some by) (is.reduce reduction (by-back reduction more some by));
  settle = λ reduction places before behind held by.
      let there : before ++ ((more ++ some) ++ behind) ≡ (before ++ more) ++ (some ++ behind) =
      ap (λ l. before ++ l) (append_assoc more some behind) ∙ sym (append_assoc before more (some ++ behind)) in
      let then : before ++ ((more ++ other) ++ behind) ≡ (before ++ more) ++ (other ++ behind) =
      ap (λ l. before ++ l) (append_assoc more other behind) ∙ sym (append_assoc before more (other ++ behind)) in
      ap (λ l. settled places l held) there
      ∙ is.settle reduction places (before ++ more) behind held (subst (ReduceBy reduction) there by)
      ∙ ap (λ l. settled places l held) (sym then);
}

pub settles-together : (some other more also : List Contribution) → SettleAs some other → SettleAs more also → SettleAs (some ++ more) (other ++ also)
settles-together some other more also first next =
    settles-through (some ++ more) (other ++ more) (other ++ also) (settles-front some other more first) (settles-back other more also next)

pub settles-each : {A : Type 0} (some other : A → List Contribution) (members : List A) → ((a : A) → SettleAs (some a) (other a)) →
    SettleAs (flat_map some members) (flat_map other members)
settles-each some other [] each = settles-itself []
settles-each some other (a ∷ members) each =
    settles-together (some a) (other a) (flat_map some members) (flat_map other members) (each a) (settles-each some other members each)

-- contributions that settle as others, alone
pub settles-alone : (reduction : ℕ → Reduction) (places : ℕ) (some other : List Contribution) (held : List Value) → SettleAs some other → ReduceBy reduction some →
    settled places some held ≡ settled places other held
settles-alone reduction places some other held is by =
    ap (λ l. settled places l held) (sym (append-nil some))
    ∙ is.settle reduction places [] [] held (subst (ReduceBy reduction) (sym (append-nil some)) by)
    ∙ ap (λ l. settled places l held) (append-nil other)

-- the same in the words of the machine's laws
pub as-by : (reduction : ℕ → Reduction) (cs : List Contribution) → ReduceBy reduction cs → AreBy reduction cs
as-by reduction [] by = tt
as-by reduction (c ∷ cs) by = (by.0, as-by reduction cs by.1)

pub of-by : (reduction : ℕ → Reduction) (cs : List Contribution) → AreBy reduction cs → ReduceBy reduction cs
of-by reduction [] by = tt
of-by reduction (c ∷ cs) by = (by.0, of-by reduction cs by.1)

-- contributions in another order
pub settles-permuted : {some other : List Contribution} → SameBag some other → SettleAs some other
settles-permuted {some} {other} same = record {
  reduce = λ reduction by. of-by reduction other ((AreBy-permuted reduction same).0 (as-by reduction some by));
  settle = λ reduction places before behind held by.
      let there : SameBag (before ++ (some ++ behind)) (before ++ (other ++ behind)) = SameBag-append_left before (SameBag-append_right behind same) in
      let of_some : AreBy reduction (before ++ (some ++ behind)) = as-by reduction (before ++ (some ++ behind)) by in
      settled-permuted reduction places held of_some ((AreBy-permuted reduction there).0 of_some) there;
}
