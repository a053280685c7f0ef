-- Where no messages are sorted none wait.
use Rattle.std.proofs.Common.{◌≡◌, ◌∙◌, ◌+◌, ℕ, zero, suc, List, [], ◌∷◌, length, map, get_or, refl, ap, arith}
use Rattle.std.specs.List.{range_with_len}
use Rattle.gm_machine.specs.Machine.{inbox}
use Rattle.gm_machine.specs.Vertex.{Message}
use Rattle.gm_node_batches.specs.Inboxes.{AllEmpty}

none-sorted : (a n place : ℕ) → get_or (map (inbox []) (range_with_len a n)) place [] ≡ []
none-sorted a zero place = refl
none-sorted a (suc n) zero = refl
none-sorted a (suc n) (suc place) = none-sorted (a + 1) n place

pub empty-sorted : (sent : List Message) (places : ℕ) (boxes : List (List Message)) → length sent ≡ 0 → boxes ≡ map (inbox sent) (range_with_len 0 places) → AllEmpty boxes
empty-sorted [] places boxes none is place = ap (λ l. get_or l place []) is ∙ none-sorted 0 places place
empty-sorted (m ∷ sent) places boxes none is place = absurd (omega (arith, none))
