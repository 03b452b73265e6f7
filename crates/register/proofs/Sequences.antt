-- A sequence is its calls, and an account sees those that name it: each by a law on two sequences one after the other.
-- Assumes nothing.
use Prim.Native.Nat.{ℕ}
use mathlib.Core.Path.{◌≡◌, refl, sym, ◌∙◌, ap}
use mathlib.Core.List.{List, [], ◌∷◌, ◌++◌, append-nil, append_assoc}
use mathlib.Core.Option.{none, some}
use borrow.Author.Tests.{eq-eqb, ne_eqb}
use Rattle.std.specs.Prelude.{Result, Ok, Err}
use Rattle.refusal.specs.declared.Refusal.{Refusal}
use Rattle.rule.specs.Rule.{Rule}
use Rattle.rule.specs.Call as Rule-Call
use Rattle.rule.specs.History.{Seen}
use Rattle.events.specs.declared.Event.{Event}
use Rattle.events.specs.declared.State.{State}
use Rattle.filing.specs.declared.Filed.{Filed}
use Rattle.message.specs.declared.Message.{Message}
use Rattle.message.specs.Bytes.{heading_of}
use Rattle.message.specs.Answers.{read_of}
use Rattle.register.specs.declared.Register.{Register}
use Rattle.register.specs.Register.{rule_message}
use Rattle.register.specs.Call.{refusal_of, called_by, Reply}
use Rattle.register.specs.Refusals.{account_in}
use Rattle.register.specs.Sequence.{Input, Exchange, after, exchanges, answer_in, seen_of, seen_by, entries_in, written_in, OneMoreCall, Sight}
use Rattle.register.proofs.ReadAs.{account-read}

module _ (R : Rule State Event ℕ) where
  after-append : (xs ys : List Input) (r : Register) → after R r (xs ++ ys) ≡ after R (after R r xs) ys
  after-append [] ys r = refl
  after-append (x ∷ xs) ys r = after-append xs ys (called_by R r x.message x.buffer).register

  exchanges-append : (xs ys : List Input) (r : Register) → exchanges R r (xs ++ ys) ≡ exchanges R r xs ++ exchanges R (after R r xs) ys
  exchanges-append [] ys r = refl
  exchanges-append (x ∷ xs) ys r =
      let called = called_by R r x.message x.buffer in
      ap (λ (l : List Exchange). record { message = x.message; reply = called.reply; buffer = called.buffer } ∷ l) (exchanges-append xs ys called.register)

  pub each-call : (r : Register) (x : Input) (xs : List Input) → OneMoreCall R r x xs
  each-call r x xs =
      record {
        none_after = refl;
        last_after = after-append xs (x ∷ []) r;
        none_seen = refl;
        last_seen = exchanges-append xs (x ∷ []) r;
      }

seen-append : (i : ℕ) (xs ys : List Exchange) → seen_by i (xs ++ ys) ≡ seen_by i xs ++ seen_by i ys
seen-append i [] ys = refl
seen-append i (x ∷ xs) ys =
    ap (λ (l : List (Seen Filed Event ℕ)). seen_of i x.reply x.buffer (read_of x.message) ++ l) (seen-append i xs ys)
    ∙ sym (append_assoc (seen_of i x.reply x.buffer (read_of x.message)) (seen_by i xs) (seen_by i ys))

-- the answer to an account, by what is said of it
answer-refused : (x : Reply) (buffer : List ℕ) (n : ℕ) → refusal_of x ≡ some n → answer_in x buffer ≡ Rule-Call.refused n
answer-refused (Err k) buffer n h = cc
answer-refused (Ok taken) buffer n h = cc

answer-taken : (x : Reply) (message buffer : List ℕ) → refusal_of x ≡ none
    → answer_in x buffer ≡ Rule-Call.taken (entries_in (written_in (record { message = message; reply = x; buffer = buffer })))
answer-taken (Err k) message buffer h = cc
answer-taken (Ok taken) message buffer h = refl

module _ (i : ℕ) (xs : List Exchange) (x : Exchange) where
  -- one exchange more, by what the account sees of it
  one_more : (seen : List (Seen Filed Event ℕ)) → seen_of i x.reply x.buffer (read_of x.message) ≡ seen → seen_by i (xs ++ (x ∷ [])) ≡ seen_by i xs ++ seen
  one_more seen h =
      seen-append i xs (x ∷ [])
      ∙ ap (λ (l : List (Seen Filed Event ℕ)). seen_by i xs ++ l) (append-nil (seen_of i x.reply x.buffer (read_of x.message)) ∙ h)

  not_seen : seen_of i x.reply x.buffer (read_of x.message) ≡ [] → seen_by i (xs ++ (x ∷ [])) ≡ seen_by i xs
  not_seen h = one_more [] h ∙ append-nil (seen_by i xs)

  another-named : (account_in x.message ≡ i → ⊥) → (y : Result (Message × ℕ) Refusal) → read_of x.message ≡ y → seen_of i x.reply x.buffer y ≡ []
  another-named other (Err n) q = refl
  another-named other (Ok (m, consumed)) q =
      rw (ne_eqb (heading_of m).account i (λ e. other (sym (account-read x.message m consumed q) ∙ e)))

  seen-named : (m : Message) (consumed : ℕ) → read_of x.message ≡ Ok (m, consumed) → account_in x.message ≡ i
      → seen_of i x.reply x.buffer (read_of x.message) ≡ record { message = rule_message m; answer = answer_in x.reply x.buffer } ∷ []
  seen-named m consumed q e = rw (q, eq-eqb (heading_of m).account i (account-read x.message m consumed q ∙ e))

  pub each-sight : Sight i xs x
  each-sight =
      record {
        nothing = refl;
        unread = λ n q. not_seen (rw q);
        another = λ other. not_seen (another-named other (read_of x.message) refl);
        refused =
            λ m consumed n q e h.
            one_more (record { message = rule_message m; answer = Rule-Call.refused n } ∷ []) (rw (← answer-refused x.reply x.buffer n h) (seen-named m consumed q e));
        taken =
            λ m consumed q e h.
            one_more (record { message = rule_message m; answer = Rule-Call.taken (entries_in (written_in x)) } ∷ [])
            (rw (← answer-taken x.reply x.message x.buffer h) (seen-named m consumed q e));
      }
