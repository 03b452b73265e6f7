-- By the definitions: each is the other.
-- Assumes nothing.
use Prim.Native.Nat.{ℕ}
use mathlib.Core.List.{List}
use Rattle.rule.specs.Rule.{Rule, Account, Message, Weighing, Entry}
use Rattle.rule.specs.History.{Fate, Line, Seen}
use Rattle.rule.specs.Meaning.{OwnedMeans, HistoryMeans, RefusalMeans, WritesMeans, FollowingMeans, EndMeans}

pub owned-means : {G S E B : Type 0} (R : Rule S E B) (lines : List (Line G E)) (t : ℕ) (g : G) (e : E) (w : Weighing) (b : B) → OwnedMeans R lines t g e w b
owned-means R lines t g e w b = record { vote = (λ x. x, λ x. x); noting = (λ x. x, λ x. x); applying = (λ x. x, λ x. x); dropping = (λ x. x, λ x. x) }

pub history-means : {G S E B : Type 0} (R : Rule S E B) (lines : List (Line G E)) (m : Message G E) (n : ℕ) (x : Entry G E B) (xs : List (Entry G E B)) (seen : Seen G E B) (rest : List (Seen G E B))
    → HistoryMeans R lines m n x xs seen rest
history-means R lines m n x xs seen rest = record { entries = (λ p. p, λ p. p); answers = (λ p. p, λ p. p); calls = (λ p. p, λ p. p) }

pub refusal-means : {G S E B : Type 0} (R : Rule S E B) (a : Account G S E) (t n : ℕ) (m : Message G E) → RefusalMeans R a t n m
refusal-means R a t n m =
    record {
      in_progress' = (λ x. x, λ x. x);
      on_hold' = (λ x. x, λ x. x);
      is_committed = (λ x. x, λ x. x);
      gives = (λ x. x, λ x. x);
      leaves = (λ x. x, λ x. x);
    }

pub writes-means : {G E B : Type 0} (progressing holding t : ℕ) (g : G) (e : E) (xs : List (Entry G E B)) → WritesMeans progressing holding t g e xs
writes-means progressing holding t g e xs = record { request' = (λ x. x, λ x. x); commit' = (λ x. x, λ x. x); abort' = (λ x. x, λ x. x) }

pub following-means : {G E B : Type 0} (most-applied most-decided : ℕ) (xs : List (Entry G E B)) → FollowingMeans most-applied most-decided xs
following-means most-applied most-decided xs =
    record {
      following = (
        λ f. (f.applications, f.decisions, f.split, f.only_applied, f.only_decided, f.few, f.few_decided),
        λ f. record { applications = f.0; decisions = f.1; split = f.2; only_applied = f.3; only_decided = f.4; few = f.5; few_decided = f.6 },
      );
    }

pub end-means : {G E : Type 0} (t k : ℕ) (g : G) (e : E) (f : Fate) (lines : List (Line G E)) → EndMeans t k g e f lines
end-means t k g e f lines = record { end = (λ x. x, λ x. x) }
