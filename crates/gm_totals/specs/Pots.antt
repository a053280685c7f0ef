-- What running totals say of the contributions for which they stand.
use Rattle.std.specs.Prelude.{◌≡◌, ◌<◌, ◌≤◌, ℕ, suc, ℤ, nat_eq, Bool, true, false, List, [], ◌∷◌, ◌++◌, map, Option, Some, None, Result, Ok, Err, if◌then◌else◌, IsTrue, length, slice_index_or}
use Rattle.std.specs.declared.alloc.Global.{Global}
use Rattle.std.specs.declared.vec.Vec.{Vec}
use Rattle.gm_value.specs.declared.values.Value.{Value}
use Rattle.gm_value.specs.declared.reductions.Reduce.{Reduce}
use Rattle.gm_value.specs.declared.totals.Total.{Total}
use Rattle.gm_value.specs.Numbers.{number_of, type_of, fits}
use Rattle.gm_value.specs.Reductions.{combined, total}
use Rattle.gm_value.specs.Taking.{of_rank}
use Rattle.gm_value.specs.Totals.{Shows}
use Rattle.gm_value.specs.Tuples.{first_or, kept, best}
use Rattle.gm_semantics.specs.declared.faults.Fault.{Fault}
use Rattle.gm_semantics.specs.Contributions.{Contribution, statement_of, taken_onto, values_or, fault_in}
use Rattle.gm_semantics.specs.Faults.{least, total_fault, fault_of}
use Rattle.gm_totals.specs.declared.entries.Accumulator.{Accumulator}
use Rattle.gm_totals.specs.declared.entries.Accumulator.TheVariants.{One, Several}
use Rattle.gm_totals.specs.declared.entries.Entry.{Entry}
use Rattle.gm_totals.specs.declared.pots.Pot.{Pot}

-- the values of contributions
abbrev pub values_of : List Contribution → List (List Value)
values_of cs = map (λ c. c.values) cs

-- an exact number counts as the total of the first values of a bag does, whatever value it is combined with
abbrev pub CountsAs : Reduce → ℤ → List (List Value) → Type 0
CountsAs r number bag =
    (held : Value) → IsTrue (fits (type_of held) (number_of held))
    → combined r (number_of held) (total r (type_of held) (map (first_or held) bag)) ≡ combined r (number_of held) number

-- a total shows a number that counts as a bag does
pub record CountsAlone (r : Reduce) (shown : Total) (bag : List (List Value)) : Type 0 where
  pub number : ℤ
  pub shows : Shows r shown number
  pub counts : CountsAs r number bag

-- a tuple is kept as those of a bag are, whatever tuple is held
abbrev pub KeptAs : Reduce → List ℤ → List (List ℤ) → Type 0
KeptAs r tuple bag = (held : List ℤ) → best r held bag ≡ kept r held tuple

-- what contributions to a target of one slot, or of several, come to: a total, or a tuple
abbrev pub Counts : Bool → Reduce → Accumulator → List (List Value) → Type 0
Counts false r (One shown) bag = CountsAlone r shown bag
Counts false r (Several tuple) bag = ⊥
Counts true r (One shown) bag = ⊥
Counts true r (Several tuple) bag = KeptAs r (map number_of tuple.items) (map (map number_of) bag)

-- one more contribution counts, whatever bag counted before
abbrev pub CountsMore : Reduce → Accumulator → List Value → Accumulator → Type 0
CountsMore r old values new = (several : Bool) (bag : List (List Value)) → Counts several r old bag → Counts several r new (bag ++ values ∷ [])

-- an entry stands for contributions of one statement: it counts as they do, and its key is that of their least fault
pub record TotalStands (several : Bool) (r : Reduce) (e : Entry) (bag : List Contribution) : Type 0 where
  pub counts : Counts several r e.accumulator (values_of bag)
  pub fault : least (map (λ c. total_fault c.total) bag) ≡ Some (total_fault e.key)

-- an entry stands for contributions, or there is none and no contribution
abbrev pub RankStands : Bool → Reduce → Option Entry → List Contribution → Type 0
RankStands several r None bag = bag ≡ []
RankStands several r (Some e) bag = TotalStands several r e bag

-- an entry is that of a contribution's statement, and stands for one more contribution than what was there
abbrev pub Joins : Bool → Reduce → Option Entry → Contribution → Entry → Type 0
Joins several r o c e = (e.statement ≡ statement_of c) × ((bag : List Contribution) → RankStands several r o bag → TotalStands several r e (bag ++ c ∷ []))

-- entries are of ascending statements, from a number on
abbrev pub AreFrom : ℕ → List Entry → Type 0
AreFrom low [] = Unit {0}
AreFrom low (e ∷ es) = (low ≤ e.statement) × AreFrom (suc e.statement) es

-- the entry of a statement
abbrev pub entry_at : ℕ → List Entry → Option Entry
entry_at s [] = None
entry_at s (e ∷ es) = if nat_eq e.statement s then Some e else entry_at s es

-- the entries before a place are of earlier statements, and the one at the place is not
abbrev pub IsPlace : ℕ → List Entry → ℕ → Type 0
IsPlace s es place =
    ((k : ℕ) (d : Entry) → k < place → (slice_index_or es k d).statement < s) × ((d : Entry) → place < length es → s ≤ (slice_index_or es place d).statement)

-- contributions with one more, if it is of a statement
abbrev pub with_own : ℕ → List Contribution → Contribution → List Contribution
with_own s bag c = if nat_eq (statement_of c) s then bag ++ c ∷ [] else bag

-- entries stand for one more contribution than before, and are of ascending statements as before
abbrev pub Gains : Bool → Reduce → List Entry → List Entry → Contribution → Type 0
Gains several r old new c =
    (low : ℕ) → AreFrom low old
    → (low ≤ statement_of c → AreFrom low new) × ((s : ℕ) (bag : List Contribution) → RankStands several r (entry_at s old) bag → RankStands several r (entry_at s new) (with_own s bag c))

-- the entries of a pot
abbrev pub entries_of : Pot → List Entry
entries_of pot = pot.first ∷ pot.more.items

-- contributions begin with one by a reduction
abbrev pub BeginBy : Reduce → List Contribution → Type 0
BeginBy r [] = ⊥
BeginBy r (c ∷ cs) = c.reduce ≡ r

-- a pot stands for the contributions to its target: it has the first one's reduction, and for each statement the total
pub record PotStands (several : Bool) (pot : Pot) (cs : List Contribution) : Type 0 where
  pub reduce : BeginBy pot.reduce cs
  pub ascending : AreFrom 0 (entries_of pot)
  pub ranks : (s : ℕ) → RankStands several pot.reduce (entry_at s (entries_of pot)) (of_rank statement_of s cs)

-- a pot stands for the contributions to a target, or there is none and no contribution
abbrev pub TargetStands : Bool → Option Pot → List Contribution → Type 0
TargetStands several None cs = cs ≡ []
TargetStands several (Some pot) cs = PotStands several pot cs

-- a pot stands for one more contribution than what was there
abbrev pub PotGains : Bool → Option Pot → Pot → Contribution → Type 0
PotGains several o pot c = (cs : List Contribution) → TargetStands several o cs → PotStands several pot (cs ++ c ∷ [])

-- a value as a list, and the values of a list
abbrev pub listed : Value → List Value
listed v = v ∷ []

abbrev pub items_in : Vec Value Global → List Value
items_in vs = vs.items

-- one more value before others, if there are all
abbrev pub before : Option Value → Option (List Value) → Option (List Value)
before None rest = None
before (Some v) None = None
before (Some v) (Some vs) = Some (v ∷ vs)

-- what closing one slot, or several, answers
abbrev pub answer_of_one : Result Value Fault → Result (List Value) Fault
answer_of_one (Ok v) = Ok (v ∷ [])
answer_of_one (Err f) = Err f

abbrev pub answer_of_several : Result (Vec Value Global) Fault → Result (List Value) Fault
answer_of_several (Ok vs) = Ok vs.items
answer_of_several (Err f) = Err f

-- the values of an answer, or what was held
abbrev pub kept_values : List Value → Result (List Value) Fault → List Value
kept_values held (Ok vs) = vs
kept_values held (Err f) = held

-- an answer is what a taking of contributions onto held values gives, with its fault
pub record IsTaking (held : List Value) (cs : List Contribution) (answer : Result (List Value) Fault) : Type 0 where
  pub values : values_or held (taken_onto held cs) ≡ kept_values held answer
  pub fault : fault_in cs (taken_onto held cs) ≡ fault_of answer
