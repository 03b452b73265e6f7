-- What the table says of each entry, by the cases of what it tells, a vote by its verdict: the only place where they are gone through for the layout. Of its rows it is
-- computed that their widths make up their lengths. Of the kinds in which an entry can stand: the numbers that the kind has are the first of the entry's.
-- Assumes nothing.
use Prim.Native.Nat.{ℕ, ◌<◌, ◌^◌}
use mathlib.Core.Path.{◌≡◌, refl}
use mathlib.Core.Logic.{inl, inr}
use mathlib.Core.Bool.{true}
use lib.Dec.{lit<}
use native.Mathlib.Omega.{arith}
use mathlib.Core.List.{List, [], ◌∷◌, ◌++◌}
use mathlib.Core.Option.{some}
use lib.ListN.{length, get_or, set, take}
use Rattle.events.specs.declared.Event.{Event}
use Rattle.events.specs.declared.Event.TheVariants.{Open, Withdraw, Deposit, Close}
use Rattle.filing.specs.declared.Filed.{Filed}
use Rattle.filing.specs.declared.Verdict.{Verdict}
use Rattle.filing.specs.declared.Verdict.TheVariants.{Accepted, Rejected, Held}
use Rattle.filing.specs.declared.Told.{Told}
use Rattle.filing.specs.declared.Told.TheVariants.{Voted, Noted, Applied, Dropped}
use Rattle.layout.specs.Fields.{kind_row, row_of_kind, whole_of, then_of, widths_of, total}
use Rattle.layout.specs.Heading.{heading_numbers}
use Rattle.layout.specs.Shapes.{padded}
use Rattle.events.specs.Kinds.{event_kind, amount_of, event_of}
use Rattle.layout.specs.Inverse.{Fit, none, one}
use Rattle.events.proofs.Table.{event-is, kind_fits}
use Rattle.layout.proofs.Fields.{fit-head, fit-tail}
use Rattle.layout.proofs.Shapes.{Hold}
use Rattle.entry.specs.Bytes.{entry_rows, kind_of, then_numbers, length_of_told, verdict_by, told_by}
use Rattle.entry.specs.Numbers.{then_in}
use Rattle.entry.specs.Answers.{event_fits, then_fits}
use Rattle.entry.specs.Inverse.{amount_in, weighed_in, balance_in, reason_in, IsRejection, StandsAs}
use Rattle.entry.specs.Plain.{vote, length_in}

pub rows-hold : Hold entry_rows
unfolding entry_rows
rows-hold = record { sums = refl; widths = refl }

pub event-fits : (e : Event) → event_fits (event_kind e) (amount_of e) ≡ true
event-fits (Open a) = refl
event-fits (Withdraw a) = refl
event-fits (Deposit a) = refl
event-fits Close = refl

-- an entry in its own kind
pub record Shaped (told : Told) : Type 0 where
  -- there is a number for each width, and 0 in the places behind them
  pub paired : length (then_of (row_of_kind entry_rows (kind_of told))) ≡ length (then_numbers told)
  pub places : (t a : ℕ) (g : Filed)
      → set (set (set (set (padded (heading_numbers (kind_of told) t a g)) 4 (then_in told).event) 5 (then_in told).amount) 6 (then_in told).number) 7 (then_in told).reason
      ≡ padded (heading_numbers (kind_of told) t a g ++ then_numbers told)
  -- the widths make up the whole length
  pub whole : total (widths_of (row_of_kind entry_rows (kind_of told))) ≡ length_of_told told
  -- which is the plain one
  pub length' : length_of_told told ≡ length_in told

vote-shaped : (v : Verdict) (e : Event) (n k : ℕ) → Shaped (vote v e n k)
unfolding row_of_kind entry_rows length_of_told
vote-shaped Accepted e n k = record { paired = refl; places = λ t a g. refl; whole = refl; length' = refl }
vote-shaped Rejected e n k = record { paired = refl; places = λ t a g. refl; whole = refl; length' = refl }
vote-shaped Held e n k = record { paired = refl; places = λ t a g. refl; whole = refl; length' = refl }

pub shaped : (told : Told) → Shaped told
unfolding row_of_kind entry_rows length_of_told
shaped (Voted e w) = vote-shaped w.verdict e w.weighed w.reason
shaped Noted = record { paired = refl; places = λ t a g. refl; whole = refl; length' = refl }
shaped (Applied e n) = record { paired = refl; places = λ t a g. refl; whole = refl; length' = refl }
shaped (Dropped e) = record { paired = refl; places = λ t a g. refl; whole = refl; length' = refl }

-- the numbers behind the heading that a kind has
abbrev pub then_as : (kind : ℕ) → Told → List ℕ
then_as kind told = take (length (then_of (row_of_kind entry_rows kind))) (then_numbers told)

-- an entry in a kind in which it can stand
pub record Standing (kind : ℕ) (told : Told) : Type 0 where
  -- the kind is a byte and has a row, and there is a number for each width
  pub byte : kind < 256 ^ 1
  pub positive : 0 < whole_of (row_of_kind entry_rows kind)
  pub paired : length (then_of (row_of_kind entry_rows kind)) ≡ length (then_as kind told)
  -- the entry is what its numbers say, and they fit
  pub numbers : told_by kind (event_of (get_or (then_as kind told) 0 0) (get_or (then_as kind told) 1 0)) (get_or (then_as kind told) 2 0) (get_or (then_as kind told) 3 0) ≡ told
  pub fitting : then_fits (then_as kind told) ≡ true
  -- what fits its widths fits its bytes, both ways
  pub bounds : Fit (then_of (row_of_kind entry_rows kind)) (then_as kind told)
      → (amount_in told < 256 ^ 4) × (weighed_in told < 256 ^ 2) × (balance_in told < 256 ^ 4) × (reason_in told < 256 ^ 1)
  pub fits : amount_in told < 256 ^ 4 → weighed_in told < 256 ^ 2 → balance_in told < 256 ^ 4 → reason_in told < 256 ^ 1
      → Fit (then_of (row_of_kind entry_rows kind)) (then_as kind told)

-- no vote but a rejection has a reason
abbrev pub Alone : Told → Type 0
Alone told = (IsRejection told → ⊥) → reason_in told ≡ 0

-- a vote in a kind whose row has no reason
short-stands : (kind : ℕ) (v : Verdict) (e : Event) (n : ℕ) → kind < 256 ^ 1 → row_of_kind entry_rows kind ≡ some (kind_row kind 18 (1 ∷ 4 ∷ 2 ∷ []))
    → told_by kind e n 0 ≡ vote v e n 0 → Standing kind (vote v e n 0)
short-stands kind v e n byte row told =
    record {
      byte = byte;
      positive = rw row (lit< tt);
      paired = rw row;
      numbers = rw (row, event-is e) told;
      fitting = rw row (event-fits e);
      bounds = λ f. let f' = rw row at f in (fit-head (fit-tail f'), fit-head (fit-tail (fit-tail f')), lit< tt, lit< tt);
      fits = λ a w b r. rw row (one (kind_fits e) (one a (one w none)));
    }

accepted-stands : (e : Event) (n : ℕ) → Standing 17 (vote Accepted e n 0)
unfolding row_of_kind entry_rows told_by verdict_by
accepted-stands e n = short-stands 17 Accepted e n (lit< tt) refl refl

older-stands : (e : Event) (n : ℕ) → Standing 18 (vote Rejected e n 0)
unfolding row_of_kind entry_rows told_by verdict_by
older-stands e n = short-stands 18 Rejected e n (lit< tt) refl refl

held-stands : (e : Event) (n : ℕ) → Standing 19 (vote Held e n 0)
unfolding row_of_kind entry_rows told_by verdict_by
held-stands e n = short-stands 19 Held e n (lit< tt) refl refl

rejected-stands : (e : Event) (n k : ℕ) → Standing 23 (vote Rejected e n k)
unfolding row_of_kind entry_rows told_by verdict_by
rejected-stands e n k =
    record {
      byte = lit< tt;
      positive = lit< tt;
      paired = refl;
      numbers = rw (event-is e);
      fitting = event-fits e;
      bounds = λ f. (fit-head (fit-tail f), fit-head (fit-tail (fit-tail f)), lit< tt, fit-head (fit-tail (fit-tail (fit-tail f))));
      fits = λ a w b r. one (kind_fits e) (one a (one w (one r none)));
    }

noted-stands : Standing 20 Noted
unfolding row_of_kind entry_rows told_by
noted-stands =
    record {
      byte = lit< tt;
      positive = lit< tt;
      paired = refl;
      numbers = refl;
      fitting = refl;
      bounds = λ f. (lit< tt, lit< tt, lit< tt, lit< tt);
      fits = λ a w b r. none;
    }

applied-stands : (e : Event) (n : ℕ) → Standing 21 (Applied e n)
unfolding row_of_kind entry_rows told_by
applied-stands e n =
    record {
      byte = lit< tt;
      positive = lit< tt;
      paired = refl;
      numbers = rw (event-is e);
      fitting = event-fits e;
      bounds = λ f. (fit-head (fit-tail f), lit< tt, fit-head (fit-tail (fit-tail f)), lit< tt);
      fits = λ a w b r. one (kind_fits e) (one a (one b none));
    }

dropped-stands : (e : Event) → Standing 22 (Dropped e)
unfolding row_of_kind entry_rows told_by
dropped-stands e =
    record {
      byte = lit< tt;
      positive = lit< tt;
      paired = refl;
      numbers = rw (event-is e);
      fitting = event-fits e;
      bounds = λ f. (fit-head (fit-tail f), lit< tt, lit< tt, lit< tt);
      fits = λ a w b r. one (kind_fits e) (one a none);
    }

pub accepted-apart : Accepted ≡ Rejected → ⊥
accepted-apart e = let z : ◌≡◌ {A = ℕ} 0 1 = cc in omega arith

pub held-apart : Held ≡ Rejected → ⊥
held-apart e = let z : ◌≡◌ {A = ℕ} 0 1 = cc in omega arith

vote-standing : (v : Verdict) (kind : ℕ) (e : Event) (n k : ℕ) → StandsAs kind (vote v e n k) → Alone (vote v e n k) → Standing kind (vote v e n k)
vote-standing Accepted kind e n k (inl p) alone = rw (p, alone accepted-apart) (accepted-stands e n)
vote-standing Accepted kind e n k (inr q) alone = absurd (accepted-apart q.1)
vote-standing Rejected kind e n k (inl p) alone = rw p (rejected-stands e n k)
vote-standing Rejected kind e n k (inr q) alone = rw (q.0, q.2) (older-stands e n)
vote-standing Held kind e n k (inl p) alone = rw (p, alone held-apart) (held-stands e n)
vote-standing Held kind e n k (inr q) alone = absurd (held-apart q.1)

pub standing : (kind : ℕ) (told : Told) → StandsAs kind told → Alone told → Standing kind told
standing kind (Voted e w) s alone = vote-standing w.verdict kind e w.weighed w.reason s alone
standing kind Noted (inl p) alone = rw p noted-stands
standing kind Noted (inr q) alone = absurd q.1
standing kind (Applied e n) (inl p) alone = rw p (applied-stands e n)
standing kind (Applied e n) (inr q) alone = absurd q.1
standing kind (Dropped e) (inl p) alone = rw p (dropped-stands e)
standing kind (Dropped e) (inr q) alone = absurd q.1
