-- Every list of messages to a new account, taken or refused, leads to an account at rest, every entry on the way has its owner, and every message that is taken its own entries:
-- by induction on the messages.
-- Assumes nothing.
use Prim.Native.Nat.{ℕ}
use mathlib.Core.Path.{◌≡◌, refl}
use mathlib.Core.List.{List, [], ◌∷◌, ◌++◌}
use mathlib.Core.Option.{Option, none, some}
use native.Mathlib.Omega.{arith}
use Rattle.rule.specs.Rule.{Rule, Account, Message, new_account}
use Rattle.rule.specs.Step.{step}
use Rattle.rule.specs.Call.{Called, refusal, refused, written, call_by, call, reached}
use Rattle.rule.specs.History.{Line, begun, after_call, Seen, history, lines_from}
use Rattle.rule.specs.Demand.{AllOwned, Answers, HistoryOwned}
use Rattle.rule.specs.Written.{Shape}
use Rattle.rule.proofs.Ties.{no_more, held_then, live_then}
use Rattle.rule.proofs.Tells.{past-progress, past-held}
use Rattle.rule.proofs.Good.{Rest}
use Rattle.rule.proofs.Taken.{step-good}
use Rattle.rule.proofs.Written.{step-shape}

module _ {G S E B : Type 0} (R : Rule S E B) where
  -- what one call keeps
  abbrev pub Kept : List (Line G E) → Message G E → Called G S E B → Type 0
  Kept lines m r = Rest R r.account (after_call lines m r.answer) × AllOwned R (begun lines m r.answer) (written r.answer) × Answers R lines m r.answer

  -- one call on an account at rest
  pub call_kept : (a : Account G S E) (m : Message G E) (lines : List (Line G E)) → Rest R a lines → Kept lines m (call R a m)
  unfolding call
  call_kept a m lines h = by (refusal R a m) refl
    where
      by : (o : Option ℕ) → refusal R a m ≡ o → Kept lines m (call_by o a (step R a m))
      by (some n) q = (h, tt, tt)
      by none q =
          let r = step-good R a m lines h q in
          (r.0, r.1, rw (← past-progress R h.tied.past, ← past-held R h.tied.past) (step-shape R a m h.tied.transactions q))

  calls-kept : (ms : List (Message G E)) (a : Account G S E) (lines : List (Line G E)) → Rest R a lines
      → Rest R (reached R a ms) (lines_from lines (history R a ms)) × HistoryOwned R lines (history R a ms)
  calls-kept [] a lines h = (h, tt)
  calls-kept (m ∷ ms) a lines h =
      let k = call_kept a m lines h in
      let r = calls-kept ms (call R a m).account (after_call lines m (call R a m).answer) k.0 in
      (r.0, (k.1, k.2, r.1))

  -- a new account is at rest, with no lines
  pub new-rest : Rest R (new_account R G) []
  new-rest =
      record {
        tied = record { past = live_then (held_then no_more); safe = tt; transactions = refl; few = omega arith; few_held = omega arith };
        oldest = refl;
        stays = refl;
      }

  pub reached-rest : (ms : List (Message G E)) → (lines : List (Line G E)) × Rest R (reached R (new_account R G) ms) lines
  reached-rest ms = (lines_from [] (history R (new_account R G) ms), (calls-kept ms (new_account R G) [] new-rest).0)

  pub history-kept : (ms : List (Message G E))
      → Rest R (reached R (new_account R G) ms) (lines_from [] (history R (new_account R G) ms)) × HistoryOwned R [] (history R (new_account R G) ms)
  history-kept ms = calls-kept ms (new_account R G) [] new-rest

  -- so the entries of every call after any list of messages have their shape
  pub reached-shape : (ms : List (Message G E)) (m : Message G E)
      → refusal R (reached R (new_account R G) ms) m ≡ none → Shape (reached R (new_account R G) ms) m (step R (reached R (new_account R G) ms) m).entries
  reached-shape ms m free = step-shape R (reached R (new_account R G) ms) m (reached-rest ms).1.tied.transactions free

-- One call more at the end of what has been seen.
lines_more : {G E B : Type 0} (seen : List (Seen G E B)) (x : Seen G E B) (lines : List (Line G E))
    → lines_from lines (seen ++ (x ∷ [])) ≡ after_call (lines_from lines seen) x.message x.answer
lines_more [] x lines = refl
lines_more (y ∷ seen) x lines = lines_more seen x (after_call lines y.message y.answer)

owned-more : {G S E B : Type 0} (R : Rule S E B) (seen : List (Seen G E B)) (x : Seen G E B) (lines : List (Line G E)) → HistoryOwned R lines seen
    → AllOwned R (begun (lines_from lines seen) x.message x.answer) (written x.answer) → Answers R (lines_from lines seen) x.message x.answer
    → HistoryOwned R lines (seen ++ (x ∷ []))
owned-more R [] x lines h k j = (k, j, tt)
owned-more R (y ∷ seen) x lines h k j = (h.0, h.1, owned-more R seen x (after_call lines y.message y.answer) h.2 k j)

-- at rest, and every entry seen has its owner
pub record Told {G S E B : Type 0} (R : Rule S E B) (a : Account G S E) (seen : List (Seen G E B)) : Type 0 where
  pub rest : Rest R a (lines_from [] seen)
  pub owned : HistoryOwned R [] seen

module _ {G S E B : Type 0} (R : Rule S E B) where
  pub new_told : Told R (new_account R G) []
  new_told = record { rest = new-rest R; owned = tt }

  -- a call of the rule is seen,
  pub call-told : (a : Account G S E) (seen : List (Seen G E B)) (m : Message G E) → Told R a seen
      → Told R (call R a m).account (seen ++ (record { message = m; answer = (call R a m).answer } ∷ []))
  call-told a seen m h =
      let x : Seen G E B = record { message = m; answer = (call R a m).answer } in
      let k = call_kept R a m (lines_from [] seen) h.rest in
      record { rest = rw (lines_more seen x []) k.0; owned = owned-more R seen x [] h.owned k.1 k.2 }

  -- and so is a refusal of any number, which changes nothing
  pub refusal-told : (a : Account G S E) (seen : List (Seen G E B)) (m : Message G E) (n : ℕ) → Told R a seen
      → Told R a (seen ++ (record { message = m; answer = refused n } ∷ []))
  refusal-told a seen m n h =
      let x : Seen G E B = record { message = m; answer = refused n } in
      record { rest = rw (lines_more seen x []) h.rest; owned = owned-more R seen x [] h.owned tt tt }
