use Rattle.std.proofs.Common.{◌≡◌, ◌∙◌, ◌<◌, ◌≤◌, ◌+◌, ◌++◌, ◌∷◌, [], List, get_or, length, take, ap, sym, subst, pos}
use Rattle.std.proofs.lemmas.List.{append-nil, take_all, take_more}
use Rattle.std.specs.Prelude.{All}
use Rattle.gm_value.specs.declared.values.Value.{Value}
use Rattle.gm_value.specs.declared.values.Value.TheVariants.{I32}
use Rattle.gm_semantics.specs.declared.slots.Slot.TheVariants.{Scalar}
use Rattle.gm_semantics.specs.declared.slots.Write.{Write}
use Rattle.gm_store.specs.Held.{HasSlot, held_at, shape_of}
use Rattle.gm_loops.specs.Own.{is_at, kept}
use Rattle.gm_loops.proofs.Keeping.{all-push, kept-more, kept-same}
use Rattle.gm_loops.proofs.own.keep_own.Goals as goal
use Rattle.gm_loops.proofs.own.keep_own.Goals.{then-is_at+in_ok-push, else-is_at}

-- what stands where there is no write
abbrev no_write : Write
no_write = record { slot = Scalar 0; value = I32 (pos 0) }

pub loop-write-init : goal.loop-write-init
loop-write-init c = record { kept = sym (append-nil c.args.own.now.items); slots = c.requires }

pub loop-write-preserved : goal.loop-write-preserved
loop-write-preserved c =
    let undo = c.args.store.now.undo in
    let i = c.loop-write.write-index in
    let lt : i < length undo = subst (λ (l : List Write). i < length l) c.undo-write-items.ensures.logged c.loop-write-test.true in
    let w : Write = get_or undo i no_write in
    let read : get_or c.undo-write-items.result.now i no_write ≡ w = ap (λ (l : List Write). get_or l i no_write) c.undo-write-items.ensures.logged in
    let at : c.is_at.result ≡ is_at c.args.node w.slot = c.is_at.ensures ∙ ap (λ (u : Write). is_at c.args.node u.slot) read in
    let next : take (i + 1) undo ≡ take i undo ++ w ∷ [] = take_more undo i no_write lt in
    let store = c.args.store.now in
    let here : HasSlot (shape_of store) w.slot = subst (λ (l : List Write). HasSlot (shape_of store) (get_or l i no_write).slot) c.undo-write-items.ensures.logged (c.undo-write-items.ensures.slots i no_write c.loop-write-test.true) in
    elim c.if-is_at.branch [
      | then-is_at+in_ok-push b ↦
          (let kept_value : Write = record { slot = w.slot; value = held_at store w.slot } in
          let items : c.if-is_at.own.items ≡ c.loop-write.own.items ++ kept_value ∷ [] =
          ap (λ v. v.items) b.own-is ∙ b.in_ok-push.ensures.items ∙ ap (λ (u : Write). c.loop-write.own.items ++ u ∷ [])
          (ap (λ (v : Value). let u : Write = record { slot = (get_or c.undo-write-items.result.now i no_write).slot; value = v } in u) b.read-value.ensures
          ∙ ap (λ (u : Write). let k : Write = record { slot = u.slot; value = held_at store u.slot } in k) read) in
          record {
            kept = items ∙ kept-more c.args.node store c.args.own.now.items (take i undo) w c.loop-write.own.items c.loop-write.invariant.kept (sym at ∙ b.if-is_at.true)
                ∙ ap (λ (ws : List Write). c.args.own.now.items ++ kept c.args.node store ws) (sym next);
            slots = subst (λ (ws : List Write). All (λ (u : Write). HasSlot (shape_of store) u.slot) ws) (sym items)
                (all-push (λ (u : Write). HasSlot (shape_of store) u.slot) c.loop-write.own.items kept_value c.loop-write.invariant.slots here);
          })
      | else-is_at b ↦
          (record {
            kept = ap (λ v. v.items) b.own-is ∙ kept-same c.args.node store c.args.own.now.items (take i undo) w c.loop-write.own.items c.loop-write.invariant.kept (sym at ∙ b.if-is_at.false)
                ∙ ap (λ (ws : List Write). c.args.own.now.items ++ kept c.args.node store ws) (sym next);
            slots = subst (λ (ws : List Write). All (λ (u : Write). HasSlot (shape_of store) u.slot) ws) (ap (λ v. v.items) (sym b.own-is)) c.loop-write.invariant.slots;
          })
    ]

pub returns-clause-kept : goal.returns-clause-kept
returns-clause-kept c = c.loop-write.invariant.kept ∙ ap (λ (ws : List Write). c.args.own.now.items ++ kept c.args.node c.args.store.now ws)
    (take_all c.loop-write.write-index c.args.store.now.undo (subst (λ (l : List Write). length l ≤ c.loop-write.write-index) c.undo-write-items.ensures.logged c.loop-write-test.false))
