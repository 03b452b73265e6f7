-- A call's own entry beside its message. A message and an entry both begin with kind, transaction, account and what is filed, in the same widths, so that equal numbers have equal bytes;
-- the shape of a call says which entry comes first.
-- Assumes nothing.
use Prim.Native.Nat.{ℕ, ◌≤◌}
use mathlib.Core.Path.{◌≡◌, refl, sym, ◌∙◌, ap}
use mathlib.Core.Logic.{◌⊎◌, inl, inr}
use mathlib.Core.List.{List, [], ◌∷◌, ◌++◌, map}
use mathlib.Core.Option.{none}
use native.Mathlib.Omega.{arith}
use lib.ListN.{length, get_or, take, drop, take-append-drop}
use Rattle.rule.specs.Rule as rule
use Rattle.rule.specs.Written.{Shape}
use Rattle.rule.proofs.InOrder.{order-clauses}
use Rattle.rule.proofs.Written.{step-shape}
use Rattle.events.specs.declared.Event.{Event}
use Rattle.events.specs.declared.Event.TheVariants.{Open, Withdraw, Deposit, Close}
use Rattle.events.specs.declared.State.{State}
use Rattle.filing.specs.declared.Filed.{Filed}
use Rattle.filing.specs.Entries.{RuleEntry, weighing_in, entry_of}
use Rattle.account.specs.Places.{RuleAccount}
use Rattle.account.proofs.Kept.{order-lists}
use Rattle.filing.specs.declared.Verdict.{Verdict}
use Rattle.filing.specs.declared.Verdict.TheVariants.{Accepted, Rejected, Held}
use Rattle.filing.specs.declared.Weighing.{Weighing}
use Rattle.filing.specs.declared.Told.TheVariants.{Voted}
use Rattle.layout.specs.Number.{bytes_of, AreBytes}
use Rattle.layout.specs.Heading.{heading_numbers}
use Rattle.layout.specs.Fields.{row_of_kind, heading, written}
use Rattle.events.specs.Kinds.{event_kind, amount_of}
use Rattle.message.specs.declared.Heading.{Heading}
use Rattle.message.specs.declared.Message.{Message}
use Rattle.message.specs.declared.Message.TheVariants.{Request, Commit, Abort}
use Rattle.message.specs.Bytes.{messages, heading_of, bytes_of_message}
use Rattle.message.proofs.Inverse.{writes-read}
use Rattle.entry.specs.Bytes.{entry_rows, vote_kind, reason_numbers, bytes_as, bytes_of_entry, bytes_of_entries}
use Rattle.register.specs.declared.Register.{Register}
use Rattle.register.specs.Register.{account_at, rule_message}
use Rattle.register.specs.Call.{Called, refusal_of, written_of}
use Rattle.register.specs.Own.{OwnEntry, EachOwnEntry}
use Rattle.register.proofs.Sending.{lists, taking}
use Rattle.register.proofs.Calling.{Calling, refused, taken, calling}

-- the reason's width, of a rejection alone
reason_widths : Verdict → List ℕ
reason_widths Accepted = []
reason_widths Rejected = 1 ∷ []
reason_widths Held = []

-- a vote's bytes
vote : (kind t i : ℕ) (g : Filed) (amount : ℕ) (v : Verdict) (n r : ℕ) → List ℕ
vote kind t i g amount v n r = written (heading ++ (1 ∷ 4 ∷ 2 ∷ reason_widths v)) (heading_numbers (vote_kind v) t i g ++ (kind ∷ amount ∷ n ∷ reason_numbers v r))

-- A request of a kind 1 to 4 beside its vote: `more` are the bytes of its amount, if it has one, and what follows.
module _ (kind t i : ℕ) (g : Filed) (amount n r : ℕ) (more tail : List ℕ) where
  asked : List ℕ
  asked = written heading (heading_numbers kind t i g) ++ more

  -- kind and length by the verdict
  own-kind : (v : Verdict) → let own = vote kind t i g amount v n r in
      ((get_or (own ++ tail) 0 0 ≡ 17) × (length own ≡ 18)) ⊎ (((get_or (own ++ tail) 0 0 ≡ 19) × (length own ≡ 18)) ⊎ ((get_or (own ++ tail) 0 0 ≡ 23) × (length own ≡ 19)))
  unfolding vote reason_widths written bytes_of
  own-kind Accepted = inl (refl, refl)
  own-kind Rejected = inr (inr (refl, refl))
  own-kind Held = inr (inl (refl, refl))

  own-vote : (v : Verdict) → let own = vote kind t i g amount v n r in
      1 ≤ kind → kind ≤ 4 → (kind ≤ 3 → take 4 more ≡ bytes_of 4 amount) → (kind ≡ 4 → amount ≡ 0) → OwnEntry asked (length own) (own ++ tail)
  unfolding asked vote written bytes_of
  own-vote v low high brought none-brought =
      record {
        heading = refl;
        filed = λ l. refl;
        vote = λ l. own-kind v;
        event = λ l. refl;
        amount = λ l. sym (brought (omega arith));
        close = λ e. rw (none-brought (omega arith));
        noted = λ e. absurd (omega arith);
        dropped = λ e. absurd (omega arith);
      }

-- A commit, or an abort, beside its own entry, of that kind and with that filing.
module _ (kind own t i : ℕ) (g g' : Filed) (more then : List ℕ) where
  sent : List ℕ
  sent = written heading (heading_numbers kind t i g) ++ more

  filed : List ℕ
  filed = written heading (heading_numbers own t i g') ++ then

  own-decided : 5 ≤ kind → kind ≤ 6 → (kind ≡ 5 → (own ≡ 20) × (g' ≡ g)) → (kind ≡ 6 → own ≡ 22) → (written' : ℕ) → OwnEntry sent written' filed
  unfolding sent filed written bytes_of
  own-decided low high commit abort written' =
      record {
        heading = refl;
        filed = λ l. rw (commit (omega arith)).1;
        vote = λ l. absurd (omega arith);
        event = λ l. absurd (omega arith);
        amount = λ l. absurd (omega arith);
        close = λ e. absurd (omega arith);
        noted = λ e. rw (commit (omega arith)).0;
        dropped = λ e. rw (abort (omega arith));
      }

-- which a call writes
vote-bytes : (t i : ℕ) (g : Filed) (e : Event) (w : Weighing)
    → bytes_of_entries i (record { transaction = t; filed = g; told = Voted e w } ∷ []) ≡ vote (event_kind e) t i g (amount_of e) w.verdict w.weighed w.reason
unfolding bytes_of_entries bytes_of_entry bytes_as row_of_kind entry_rows vote reason_widths written bytes_of
vote-bytes t i g e w = by w.verdict
  where
    by : (v : Verdict) → bytes_of_entries i (record { transaction = t; filed = g; told = Voted e (record { verdict = v; weighed = w.weighed; reason = w.reason }) } ∷ [])
        ≡ vote (event_kind e) t i g (amount_of e) v w.weighed w.reason
    by Accepted = refl
    by Rejected = refl
    by Held = refl

-- A message's bytes beside the bytes that a call of its shape writes.
module _ (h : Heading) (rest tail : List ℕ) where
  abbrev entries_of : List RuleEntry → List ℕ
  entries_of xs = bytes_of_entries h.account (map entry_of xs)

  own-request : (e : Event) (w : Weighing)
      → let own = vote (event_kind e) h.transaction h.account h.filed (amount_of e) w.verdict w.weighed w.reason in
      OwnEntry (bytes_of_message (Request h e) ++ rest) (length own) (own ++ tail)
  unfolding bytes_of_message row_of_kind messages asked written bytes_of
  own-request (Open a) w =
      own-vote 1 h.transaction h.account h.filed a w.weighed w.reason (bytes_of 4 a ++ rest) tail w.verdict (omega arith) (omega arith) (λ l. refl) (λ e. absurd (omega arith))
  own-request (Withdraw a) w =
      own-vote 2 h.transaction h.account h.filed a w.weighed w.reason (bytes_of 4 a ++ rest) tail w.verdict (omega arith) (omega arith) (λ l. refl) (λ e. absurd (omega arith))
  own-request (Deposit a) w =
      own-vote 3 h.transaction h.account h.filed a w.weighed w.reason (bytes_of 4 a ++ rest) tail w.verdict (omega arith) (omega arith) (λ l. refl) (λ e. absurd (omega arith))
  own-request Close w = own-vote 4 h.transaction h.account h.filed 0 w.weighed w.reason rest tail w.verdict (omega arith) (omega arith) (λ l. absurd (omega arith)) (λ e. refl)

  own-commit : (xs : List RuleEntry) (n : ℕ) → OwnEntry (bytes_of_message (Commit h) ++ rest) n (entries_of (rule.noted h.transaction h.filed ∷ xs) ++ tail)
  unfolding bytes_of_message bytes_of_entries bytes_as bytes_of_entry row_of_kind messages entry_rows sent filed written bytes_of
  own-commit xs n =
      own-decided 5 20 h.transaction h.account h.filed h.filed rest (entries_of xs ++ tail)
      (omega arith) (omega arith) (λ e. (refl, refl)) (λ e. absurd (omega arith)) n

  own-abort : (g : Filed) (e : Event) (xs : List RuleEntry) (n : ℕ)
      → OwnEntry (bytes_of_message (Abort h) ++ rest) n (entries_of (rule.dropped h.transaction g e ∷ xs) ++ tail)
  unfolding bytes_of_message bytes_of_entries bytes_as bytes_of_entry row_of_kind messages entry_rows sent filed written bytes_of
  own-abort g e xs n =
      own-decided 6 22 h.transaction h.account h.filed g rest (written (1 ∷ 4 ∷ []) (event_kind e ∷ amount_of e ∷ []) ++ (entries_of xs ++ tail))
      (omega arith) (omega arith) (λ e. absurd (omega arith)) (λ e. refl) n

own-shape : (m : Message) (a : RuleAccount) (xs : List RuleEntry) (rest tail : List ℕ) → Shape a (rule_message m) xs
    → let bytes = bytes_of_entries (heading_of m).account (map entry_of xs) in
    OwnEntry (bytes_of_message m ++ rest) (length bytes) (bytes ++ tail)
own-shape (Request h e) a xs rest tail s =
    let w = weighing_in s.0 in
    rw (s.1, vote-bytes h.transaction h.account h.filed e w) (own-request h rest tail e w)
own-shape (Commit h) a xs rest tail s = rw s.1 (own-commit h rest tail s.0 _)
own-shape (Abort h) a xs rest tail s = rw s.5 (own-abort h rest tail s.0 s.1 s.2 _)

module _ (R : rule.Rule State Event ℕ) where
  -- of a call that is taken
  own-taken : (r : Register) (bytes buffer : List ℕ) → AreBytes bytes → {x : Called} → Calling R r bytes buffer x → refusal_of x.reply ≡ none
      → OwnEntry bytes (written_of x.reply) x.buffer
  own-taken r bytes buffer b (refused n why) h = cc
  own-taken r bytes buffer b (taken m whole t) h =
      let a = lists R r m in
      let xs = (taking R r m).entries in
      let free = t.free in
      let shape = step-shape R a (rule_message m) (order-clauses R a (order-lists R (account_at r (heading_of m).account) free.in_order)).transactions free.unrefused in
      let read : bytes_of_message m ++ drop whole bytes ≡ bytes = ap (λ (l : List ℕ). l ++ drop whole bytes) (sym (writes-read bytes m whole b t.read).bytes') ∙ take-append-drop whole bytes in
      rw read at (own-shape m a xs (drop whole bytes) (drop (length (bytes_of_entries (heading_of m).account (map entry_of xs))) buffer) shape)

  pub each-own-entry : EachOwnEntry R
  each-own-entry r bytes buffer b h = own-taken r bytes buffer b (calling R r bytes buffer) h
