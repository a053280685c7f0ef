-- Values that were folded into what a slot holds.
use Rattle.std.proofs.Common.{◌≡◌, ◌∙◌, ℕ, Bool, true, false, not, List, Option, Some, None, refl, ap, subst, sym, if◌then◌else◌}
use Rattle.std.specs.Prelude.{IfSome}
use Rattle.std.proofs.lemmas.Bool.{true≢false}
use Rattle.gm_value.specs.declared.values.Value.{Value}
use Rattle.gm_value.specs.declared.reductions.Reduce.{Reduce}
use Rattle.gm_columns.specs.declared.columns.TypedCells.{TypedCells}
use Rattle.gm_columns.specs.TypedRows.{typed_row}
use Rattle.gm_kernels.specs.Folding.{folded_at}
use Rattle.gm_batch_handlers.specs.declared.row_states.SlotTotal.{SlotTotal}
use Rattle.gm_batch_handlers.specs.Gifts.{Adds, IsBy}

not-true : (b : Bool) → not b ≡ true → b ≡ false
not-true true e = absurd (true≢false (sym e))
not-true false e = refl

-- into what was given before
pub adds-more : (r : Reduce) (place : ℕ) (t : SlotTotal) (at : List ℕ) (vs : List Value) (cells : TypedCells) (out : Bool) → IsBy r place (Some t)
    → folded_at r (typed_row t.cells).values at vs ≡ (if out then None else Some (typed_row cells).values) → not out ≡ true
    → Adds r place (typed_row t.cells).values (Some t) at vs (Some (record { reduce = t.reduce; place = t.place; cells = cells }))
adds-more r place t at vs cells out by folded fine = record {
  way = by;
  total = record { reduce = t.reduce; place = t.place; cells = cells };
  is = refl;
  by = by;
  folded = folded ∙ ap (λ b. if b then None else Some (typed_row cells).values) (not-true out fine);
}

-- into what the slot held
pub adds-first : (r : Reduce) (place : ℕ) (held : List Value) (first cells : TypedCells) (at : List ℕ) (vs : List Value) (o : Option TypedCells) (out : Bool) → o ≡ Some first
    → IfSome o (λ typed. (typed_row typed).values ≡ held)
    → folded_at r (typed_row first).values at vs ≡ (if out then None else Some (typed_row cells).values) → out ≡ false
    → Adds r place held None at vs (Some (record { reduce = r; place = place; cells = cells }))
adds-first r place held first cells at vs o out is same folded fine = record {
  way = tt;
  total = record { reduce = r; place = place; cells = cells };
  is = refl;
  by = (refl, refl);
  folded = ap (λ xs. folded_at r xs at vs) (sym (subst (λ (o : Option TypedCells). IfSome o (λ typed. (typed_row typed).values ≡ held)) is same))
      ∙ folded ∙ ap (λ b. if b then None else Some (typed_row cells).values) fine;
}

-- what the slot held at first does not count then
pub adds-other : (r : Reduce) (place : ℕ) (some other : List Value) (t : SlotTotal) (at : List ℕ) (vs : List Value) (new : Option SlotTotal) → Adds r place some (Some t) at vs new → Adds r place other (Some t) at vs new
adds-other r place some other t at vs new h = record { way = h.way; total = h.total; is = h.is; by = h.by; folded = h.folded }

-- the same written otherwise
pub adds-same : (r : Reduce) (place : ℕ) (vs : List Value) (new : Option SlotTotal) {held held' : List Value} {old old' : Option SlotTotal} {at at' : List ℕ}
    → held ≡ held' → old ≡ old' → at ≡ at' → Adds r place held old at vs new → Adds r place held' old' at' vs new
adds-same r place vs new {held' = held'} {old = old} {old' = old'} {at = at} e f g h =
    subst (λ l. Adds r place held' old' l vs new) g (subst (λ o. Adds r place held' o at vs new) f (subst (λ xs. Adds r place xs old at vs new) e h))
