-- The forms in which a place and the entries of a call are kept, literally, and that nothing is lost between the rule's form and these (docs/REGISTER.md, 2 and 9).
-- Assumes nothing.
use Rattle.std.specs.Prelude.{ℕ, ◌-◌, ◌<◌, ◌≤◌, ◌≡◌, ◌↔◌, true, false, List, [], ◌∷◌, ◌++◌, map, length, take, drop, replicate}
use Rattle.std.proofs.Math.Option.{none, some}
use Rattle.rule.specs.Rule as rule
use Rattle.events.specs.declared.Event.{Event}
use Rattle.events.specs.declared.Event.TheVariants.{Open}
use Rattle.filing.specs.declared.Filed.{Filed}
use Rattle.filing.specs.declared.Decision.TheVariants.{Undecided, Committed}
use Rattle.filing.specs.declared.Slot.{Slot}
use Rattle.filing.specs.declared.Verdict.TheVariants.{Accepted, Rejected, Held}
use Rattle.filing.specs.declared.Weighing.{Weighing}
use Rattle.filing.specs.declared.Told.TheVariants.{Voted, Noted, Applied, Dropped}
use Rattle.filing.specs.declared.Entries.{Entries}
use Rattle.filing.specs.Slots.{RuleSlot, is_undecided, slot_of, place_of, committed_slot, is_blank}
use Rattle.filing.specs.Entries.{RuleEntry, is_accepted, is_held, weighing_of, weighing_in, entry_of, entries_of, only_entry, pushed}

-- each field of a slot in the place's own
pub record SlotForm : Type 0 where
  pub undecided : (t : ℕ) (g : Filed) (e : Event) → place_of (rule.slot t g e rule.undecided) ≡ record { transaction = t; filed = g; event = e; decision = Undecided }
  pub committed : (t : ℕ) (g : Filed) (e : Event) → place_of (rule.slot t g e rule.committed) ≡ record { transaction = t; filed = g; event = e; decision = Committed }
  pub back : (x : Slot) → place_of (slot_of x) ≡ x
  pub forth : (x : RuleSlot) → slot_of (place_of x) ≡ x
  -- committing decides and does nothing else
  pub commits : (t : ℕ) (g : Filed) (e : Event) (d : rule.Decision) → slot_of (committed_slot (place_of (rule.slot t g e d))) ≡ rule.slot t g e rule.committed
  -- one place alone is blank: that of zeros, with an open of 0 that is undecided (2.5)
  pub blanks : (x : Slot) → (is_blank x ≡ true) ↔ (x ≡ record { transaction = 0; filed = record { second = 0 }; event = Open 0; decision = Undecided })

-- an entry of each kind, a vote by its verdict
pub record EntryForm (t : ℕ) (g : Filed) (e : Event) (n k : ℕ) : Type 0 where
  pub accepted : entry_of (rule.voted t g e (record { verdict = rule.accept; weighed = n; reason = none })) ≡ record { transaction = t; filed = g; told = Voted e (record { verdict = Accepted; weighed = n; reason = 0 }) }
  pub rejected : entry_of (rule.voted t g e (record { verdict = rule.reject; weighed = n; reason = some k })) ≡ record { transaction = t; filed = g; told = Voted e (record { verdict = Rejected; weighed = n; reason = k }) }
  pub held : entry_of (rule.voted t g e (record { verdict = rule.hold; weighed = n; reason = none })) ≡ record { transaction = t; filed = g; told = Voted e (record { verdict = Held; weighed = n; reason = 0 }) }
  pub noted : entry_of (rule.noted t g) ≡ record { transaction = t; filed = g; told = Noted }
  pub applied : entry_of (rule.applied t g e n) ≡ record { transaction = t; filed = g; told = Applied e n }
  pub dropped : entry_of (rule.dropped t g e) ≡ record { transaction = t; filed = g; told = Dropped e }

-- a weighing keeps its verdict, its count and its reason, but that a reason of 0 is none
pub record WeighingForm : Type 0 where
  pub back : (w : Weighing) → weighing_in (weighing_of w) ≡ w
  pub forth : (w : rule.Weighing) → (w.reason ≡ some 0 → ⊥) → weighing_of (weighing_in w) ≡ w

-- the entries of a call, in the order in which they were written
pub record EntriesForm (xs : List RuleEntry) (entries : Entries) : Type 0 where
  pub count : entries.count ≡ length xs
  pub used : take (length xs) entries.at ≡ map entry_of xs
  pub unused : drop (length xs) entries.at ≡ replicate (17 - length xs) (record { transaction = 0; filed = record { second = 0 }; told = Noted })
  pub seventeen : length xs ≤ 17 → length entries.at ≡ 17

-- one entry more is the newest; where seventeen are there, there is none more
pub record PushedForm (xs : List RuleEntry) (x : RuleEntry) : Type 0 where
  pub more : length xs < 17 → pushed (entries_of xs) (entry_of x) ≡ entries_of (xs ++ (x ∷ []))
  pub full : 17 ≤ length xs → pushed (entries_of xs) (entry_of x) ≡ entries_of xs

-- what is asked of a decision and of a verdict
pub record TestForm : Type 0 where
  pub undecided : map is_undecided (Undecided ∷ Committed ∷ []) ≡ true ∷ false ∷ []
  pub accepted : map is_accepted (Accepted ∷ Rejected ∷ Held ∷ []) ≡ true ∷ false ∷ false ∷ []
  pub held : map is_held (Accepted ∷ Rejected ∷ Held ∷ []) ≡ false ∷ false ∷ true ∷ []

pub record FormsHold : Type 0 where
  pub slots : SlotForm
  pub entry : (t : ℕ) (g : Filed) (e : Event) (n k : ℕ) → EntryForm t g e n k
  pub weighing : WeighingForm
  pub entries : (xs : List RuleEntry) → EntriesForm xs (entries_of xs)
  pub pushes : (xs : List RuleEntry) (x : RuleEntry) → PushedForm xs x
  pub only : (x : RuleEntry) → EntriesForm (x ∷ []) (only_entry (entry_of x))
  pub tests : TestForm
