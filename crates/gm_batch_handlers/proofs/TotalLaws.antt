-- What slots hold after gifts, where a line gives to one of them.
use Rattle.std.proofs.Common.{◌≡◌, ◌≢◌, ◌∙◌, ◌<◌, ℕ, nat_eq, List, [], ◌∷◌, ◌++◌, Option, Some, None, refl, ap, sym, subst, length, get_or, set, arith, length-set, append_assoc, ⊎_elim}
use Rattle.std.specs.List.{AllByRecursion, flat_map}
use Rattle.std.proofs.lemmas.Bool.{cases_eq}
use Rattle.std.proofs.lemmas.List.{append-nil, get_or-set_same, get_or-set_other}
use Rattle.std.proofs.lemmas.List.Elements.{filter-append}
use Rattle.gm_value.specs.declared.values.Value.{Value}
use Rattle.gm_value.specs.declared.reductions.Reduce.{Reduce}
use Rattle.gm_value.specs.Bag.{SameBag, same_trans}
use Rattle.gm_value.specs.Laws.{HasUnit}
use Rattle.gm_value.proofs.BagLaws.{SameBag-refl, SameBag-filter, SameBag-sym, SameBag-append_left}
use Rattle.gm_columns.specs.TypedRows.{typed_row}
use Rattle.gm_machine.proofs.BagLemmas.{lists_past, same_as}
use Rattle.gm_batch_handlers.specs.declared.row_states.SlotTotal.{SlotTotal}
use Rattle.gm_batch_handlers.specs.Gifts.{Gift, to_slot, gifts_of, AllClose, AreBy, IsSome, IsTotal, AreTotals, IsBy, Adds, held_in}
use Rattle.gm_batch_handlers.proofs.GiftLaws.{all-close-same, by-both, by-same, close-all, close-nothing, gifts-by, gifts-here, gifts-other, no-gifts}

-- gifts in another order
pub total-same : (places : ℕ) (held : List Value) (xs ys : List Gift) (t : Option SlotTotal) → SameBag xs ys → IsTotal places held xs t → IsTotal places held ys t
total-same places held xs ys None s h = no-gifts s h
total-same places held xs ys (Some t) s h = record {
  way = by-same t.reduce t.place s h.way;
  within = h.within;
  closed = all-close-same t.reduce held (typed_row t.cells).values xs ys s h.closed;
}

pub totals-same : (places : ℕ) (columns : List (List Value)) (xs ys : List Gift) (totals : List (Option SlotTotal)) → SameBag xs ys → AreTotals places columns xs totals → AreTotals places columns ys totals
totals-same places columns xs ys totals s h = record {
  wide = h.wide;
  each = λ slot lt. total-same places (get_or columns slot []) (to_slot slot xs) (to_slot slot ys) (get_or totals slot None) (SameBag-filter (λ g. nat_eq g.slot slot) s) (h.each slot lt);
}

-- what a slot holds so far is closed with what was given
started : (places place : ℕ) (r : Reduce) (held : List Value) (gs : List Gift) (old : Option SlotTotal) → IsBy r place old → IsTotal places held gs old
    → AllClose r held gs (held_in held old) × AreBy r place gs
started places place r held gs None way h =
    (subst (λ l. AllClose r held l held) (sym h) (close-nothing r held), subst (λ l. AreBy r place l) (sym h) tt)
started places place r held gs (Some t) way h = (
  subst (λ q. AllClose q held gs (typed_row t.cells).values) way.0 h.closed,
  subst (λ q. AreBy q place gs) way.0 (subst (λ k. AreBy t.reduce k gs) way.1 h.way),
)

pub held-long : (places : ℕ) (held : List Value) (gs : List Gift) (t : Option SlotTotal) → IsTotal places held gs t → length (held_in held t) ≡ length held
held-long places held gs None h = refl
held-long places held gs (Some t) h = h.closed.long

-- a slot to which nodes give
pub total-more : ((r : Reduce) → HasUnit r) → (places place slot : ℕ) (r : Reduce) (held : List Value) (gs : List Gift) (old new : Option SlotTotal) (at : List ℕ) (vs : List Value)
    → place < places → AllByRecursion (λ k. k < length held) at → Adds r place held old at vs new → IsTotal places held gs old
    → IsTotal places held (gs ++ gifts_of r place slot at vs) new
total-more units places place slot r held gs old new at vs lt within adds h =
    let so = started places place r held gs old adds.way h in
    let t : SlotTotal = adds.total in
    let here : IsSome places held (gs ++ gifts_of r place slot at vs) t = record {
      way = subst (λ q. AreBy q t.place (gs ++ gifts_of r place slot at vs)) (sym adds.by.0)
          (subst (λ k. AreBy r k (gs ++ gifts_of r place slot at vs)) (sym adds.by.1) (by-both r place gs (gifts_of r place slot at vs) so.1 (gifts-by r place slot at vs)));
      within = subst (λ k. k < places) (sym adds.by.1) lt;
      closed = subst (λ q. AllClose q held (gs ++ gifts_of r place slot at vs) (typed_row t.cells).values) (sym adds.by.0)
          (close-all units r place slot held at vs (held_in held old) (typed_row t.cells).values gs within so.0 adds.folded);
    } in
    subst (λ o. IsTotal places held (gs ++ gifts_of r place slot at vs) o) (sym adds.is) here

-- all slots, where one of them is given to
pub totals-more : ((r : Reduce) → HasUnit r) → (places place slot : ℕ) (r : Reduce) (columns : List (List Value)) (gs more : List Gift) (old totals : List (Option SlotTotal)) (new : Option SlotTotal)
    (at : List ℕ) (vs : List Value) → place < places → slot < length columns → AllByRecursion (λ k. k < length (get_or columns slot [])) at
    → Adds r place (get_or columns slot []) (get_or old slot None) at vs new → totals ≡ set old slot new
    → AreTotals places columns gs old → SameBag more (gs ++ gifts_of r place slot at vs) → AreTotals places columns more totals
totals-more units places place slot r columns gs more old totals new at vs lt there within adds is h same =
    totals-same places columns (gs ++ gifts_of r place slot at vs) more totals (SameBag-sym same)
    (subst (λ l. AreTotals places columns (gs ++ gifts_of r place slot at vs) l) (sym is) (record {
      wide = length-set old slot new ∙ h.wide;
      each = λ k below.
          ⊎_elim
          (λ (here : slot ≡ k).
          subst (λ l. IsTotal places (get_or columns k []) l (get_or (set old slot new) k None)) (sym (filter-append (λ g. nat_eq g.slot k) gs (gifts_of r place slot at vs)))
          (subst (λ j. IsTotal places (get_or columns j []) (to_slot j gs ++ to_slot j (gifts_of r place slot at vs)) (get_or (set old slot new) j None)) here
          (subst (λ l. IsTotal places (get_or columns slot []) (to_slot slot gs ++ l) (get_or (set old slot new) slot None)) (sym (gifts-here r place slot at vs))
          (subst (λ o. IsTotal places (get_or columns slot []) (to_slot slot gs ++ gifts_of r place slot at vs) o) (sym (get_or-set_same old slot new None (omega (arith, there, h.wide))))
          (total-more units places place slot r (get_or columns slot []) (to_slot slot gs) (get_or old slot None) new at vs lt within adds (h.each slot there))))))
          (λ (other : slot ≢ k).
          subst (λ l. IsTotal places (get_or columns k []) l (get_or (set old slot new) k None))
          (sym (filter-append (λ g. nat_eq g.slot k) gs (gifts_of r place slot at vs) ∙ ap (λ l. to_slot k gs ++ l) (gifts-other r place slot k at vs other) ∙ append-nil (to_slot k gs)))
          (subst (λ o. IsTotal places (get_or columns k []) (to_slot k gs) o) (sym (get_or-set_other old slot k new None (λ e. other (sym e)))) (h.each k below)))
          (cases_eq slot k);
    }))

-- what is given line by line, and row by row
pub flat-both : {A B : Type 0} (f g : A → List B) (xs : List A) → SameBag (flat_map (λ x. f x ++ g x) xs) (flat_map f xs ++ flat_map g xs)
flat-both f g [] = SameBag-refl []
flat-both f g (x ∷ xs) =
    same_trans (SameBag-append_left (f x ++ g x) (flat-both f g xs))
    (same_trans (same_as (append_assoc (f x) (g x) (flat_map f xs ++ flat_map g xs)))
    (same_trans (SameBag-append_left (f x) (lists_past (g x) (flat_map f xs) (flat_map g xs)))
    (same_as (sym (append_assoc (f x) (flat_map f xs) (g x ++ flat_map g xs))))))
