-- Demand 3 on bytes: each of the sixteen accounts is the account of lists that have been told as it sees the exchanges. A call keeps that, by what it comes to; a sequence keeps it by
-- induction.
-- Assumes nothing.
use Prim.Native.Nat.{ℕ, ◌<◌}
use mathlib.Core.Path.{◌≡◌, refl, sym, ◌∙◌, ap}
use mathlib.Core.Bool.{Bool, true, false, cond}
use mathlib.Core.List.{List, [], ◌∷◌, ◌++◌, map, append-nil, append_assoc}
use mathlib.Core.Option.{none}
use native.Mathlib.Omega.{arith}
use lib.Dec.{eqb}
use lib.ListN.{length, take, drop, length-set, get_or-replicate}
use lib.Seq.{take_at, get_or-set_same, get_or-set_other}
use borrow.Author.Tests.{eqb-true, eqb-false}
use Rattle.register.proofs.Apart.{same-read}
use Rattle.refusal.specs.Numbers.{number_of}
use Rattle.std.specs.Prelude.{Result, Ok, Err}
use Rattle.refusal.specs.declared.Refusal.{Refusal}
use Rattle.rule.specs.Rule as rule
use Rattle.rule.specs.Call as Rule-Call
use Rattle.rule.specs.History.{Seen}
use Rattle.rule.specs.Says.{MessageSays, AccountSays, EntriesSay}
use Rattle.rule.proofs.Reached.{Told, new_told, call-told, refusal-told}
use Rattle.rule.proofs.Says.{call-says}
use Rattle.rule.proofs.Demand.{kept-demand3}
use Rattle.events.specs.declared.Event.{Event}
use Rattle.events.specs.declared.State.{State}
use Rattle.filing.specs.declared.Filed.{Filed}
use Rattle.filing.specs.Entries.{RuleEntry, entry_of}
use Rattle.account.specs.declared.Account.{Account}
use Rattle.account.specs.Places.{RuleAccount, lists_of, account_of}
use Rattle.account.proofs.Padded.{lists-account}
use Rattle.layout.specs.Number.{AreBytes}
use Rattle.layout.specs.Writes.{laid_over}
use Rattle.message.specs.declared.Message.{Message}
use Rattle.message.specs.declared.Message.TheVariants.{Request, Commit, Abort}
use Rattle.message.specs.Bytes.{heading_of}
use Rattle.message.specs.Answers.{read_of}
use Rattle.message.specs.Inverse.{Writable}
use Rattle.message.proofs.Inverse.{writes-read}
use Rattle.entry.specs.Bytes.{bytes_of_entries}
use Rattle.register.specs.declared.Register.{Register}
use Rattle.register.specs.Register.{nowhere, account_at, rule_message, fresh_by}
use Rattle.register.specs.Call.{Called, refusal_of, written_of, refused_with, called_by}
use Rattle.register.specs.Fits.{EventFits, CommitFits, StateFits, BalanceFits}
use Rattle.register.specs.Sequence.{rule_entry, Input, ByteStrings, after, exchanges, answer_in, seen_of, seen_by, entries_in, OnlyEntries, EachOnlyEntries, SerialPast}
use Rattle.register.proofs.Suits.{Suits}
use Rattle.register.proofs.ReadAs.{account-read}
use Rattle.register.proofs.ReadBack.{values-back, entries-back}
use Rattle.register.proofs.Sending.{lists, taking, Free}
use Rattle.register.proofs.Calling.{taken_as, Calling, refused, taken, calling}

-- what a message that was read brings fits
pub message-fits : (m : Message) → Writable m → MessageSays EventFits CommitFits (rule_message m)
message-fits (Request h e) w = (w.transaction, w.filed, w.amount)
message-fits (Commit h) w = (w.transaction, w.filed)
message-fits (Abort h) w = tt

-- these bytes are those of the entries that they hold, under that account
abbrev WholeUnder : ℕ → List ℕ → Type 0
WholeUnder i bytes = bytes ≡ bytes_of_entries i (map entry_of (entries_in bytes))

module _ (R : rule.Rule State Event ℕ) (k : Suits R) where
  -- an account of lists that have been told so
  pub record Keeps (a : Account) (seen : List (Seen Filed Event ℕ)) : Type 0 where
    pub lists : RuleAccount
    pub same : a ≡ account_of lists
    pub told : Told R lists seen
    pub fit : AccountSays R EventFits CommitFits StateFits BalanceFits lists

  -- Its own lists have been told.
  module _ (a : Account) (seen : List (Seen Filed Event ℕ)) (h : Keeps a seen) where
    same_lists : lists_of a ≡ h.lists
    same_lists = ap lists_of h.same ∙ lists-account h.lists

    pub lists-told : Told R (lists_of a) seen
    lists-told = rw same_lists h.told

    pub lists-fit : AccountSays R EventFits CommitFits StateFits BalanceFits (lists_of a)
    lists-fit = rw same_lists h.fit

  -- One message that is taken: the account that follows, and its entries, which read back.
  module _ (r : Register) (m : Message) (free : Free R r m) (w : Writable m) (seen : List (Seen Filed Event ℕ)) (h : Keeps (account_at r (heading_of m).account) seen) where
    abbrev xs : List RuleEntry
    xs = (taking R r m).entries

    said : AccountSays R EventFits CommitFits StateFits BalanceFits (taking R r m).account × EntriesSay R EventFits CommitFits StateFits BalanceFits xs
    unfolding Rule-Call.call
    said =
        rw free.unrefused at
        (call-says R EventFits CommitFits StateFits BalanceFits k.kept k.shown (lists R r m) (rule_message m) (lists-fit (account_at r (heading_of m).account) seen h) (message-fits m w))

    pub taken_back : entries_in (bytes_of_entries (heading_of m).account (map entry_of xs)) ≡ xs
    taken_back = entries-back R k (heading_of m).account w.account xs said.1

    pub taken-values : map rule_entry (map entry_of xs) ≡ xs
    taken-values = values-back R k (heading_of m).account w.account xs said.1

    taken-keeps : Keeps (account_of (taking R r m).account) (seen ++ (record { message = rule_message m; answer = Rule-Call.taken xs } ∷ []))
    unfolding Rule-Call.call
    taken-keeps =
        record {
          lists = (taking R r m).account;
          same = refl;
          told = rw free.unrefused at (call-told R (lists R r m) seen (rule_message m) (lists-told (account_at r (heading_of m).account) seen h));
          fit = said.0;
        }

  -- One call on the account that it names.
  module _ (r : Register) (bytes buffer : List ℕ) (m : Message) (w : Writable m) (seen : List (Seen Filed Event ℕ))
      (sixteen : length r.accounts ≡ 16) (h : Keeps (account_at r (heading_of m).account) seen) where
    record Kept (x : Called) : Type 0 where
      size : length x.register.accounts ≡ 16
      others : (i : ℕ) → (i ≡ (heading_of m).account → ⊥) → account_at x.register i ≡ account_at r i
      named : Keeps (account_at x.register (heading_of m).account) (seen ++ (record { message = rule_message m; answer = answer_in x.reply x.buffer } ∷ []))
      whole : refusal_of x.reply ≡ none → WholeUnder (heading_of m).account (take (written_of x.reply) x.buffer)

    kept-refused : (n : Refusal) → Kept (refused_with r buffer n)
    kept-refused n =
        record {
          size = sixteen;
          others = λ i other. refl;
          named = record { lists = h.lists; same = h.same; told = refusal-told R h.lists seen (rule_message m) (number_of n) h.told; fit = h.fit };
          whole = λ e. cc;
        }

    kept-taken : (consumed : ℕ) → Free R r m → Kept (taken_as r buffer (heading_of m).account consumed (taking R r m).account (taking R r m).entries)
    kept-taken consumed free =
        let i = (heading_of m).account in
        let next = account_of (taking R r m).account in
        let written = bytes_of_entries i (map entry_of (taking R r m).entries) in
        let first : take (length written) (laid_over written buffer) ≡ written = take_at written (drop (length written) buffer) (length written) refl in
        let back : entries_in written ≡ (taking R r m).entries = taken_back r m free w seen h in
        let there : account_at (taken_as r buffer i consumed (taking R r m).account (taking R r m).entries).register i ≡ next =
        get_or-set_same r.accounts i next nowhere (omega (arith, w.account)) in
        record {
          size = length-set r.accounts i next ∙ sixteen;
          others = λ j other. get_or-set_other r.accounts i j next nowhere other;
          named = rw (there, first, back) (taken-keeps r m free w seen h);
          whole = λ e. rw (first, back) refl;
        }

    kept : (consumed : ℕ) → read_of bytes ≡ Ok (m, consumed) → {x : Called} → Calling R r bytes buffer x → Kept x
    kept consumed q (refused n why) = kept-refused n
    kept consumed q (taken m' consumed' t) =
        let same : m' ≡ m = (same-read m' m consumed' consumed (sym t.read ∙ q)).0 in
        rw same (kept-taken consumed' (rw same at t.free))

  -- One call, on every account.
  pub record Sees (r : Register) (seen : ℕ → List (Seen Filed Event ℕ)) : Type 0 where
    pub sixteen : length r.accounts ≡ 16
    pub each : (i : ℕ) → i < 16 → Keeps (account_at r i) (seen i)

  call_kept : (r : Register) (bytes buffer : List ℕ) (seen : ℕ → List (Seen Filed Event ℕ)) → AreBytes bytes → Sees r seen
      → Sees (called_by R r bytes buffer).register (λ (i : ℕ). seen i ++ seen_of i (called_by R r bytes buffer).reply (called_by R r bytes buffer).buffer (read_of bytes))
      × OnlyEntries (record { message = bytes; reply = (called_by R r bytes buffer).reply; buffer = (called_by R r bytes buffer).buffer })
  call_kept r bytes buffer seen b h = by (read_of bytes) refl (calling R r bytes buffer)
    where
      by : (y : Result (Message × ℕ) Refusal) → read_of bytes ≡ y → {x : Called} → Calling R r bytes buffer x
          → Sees x.register (λ (i : ℕ). seen i ++ seen_of i x.reply x.buffer y) × OnlyEntries (record { message = bytes; reply = x.reply; buffer = x.buffer })
      by (Err n) q (refused n' why) =
          (record { sixteen = h.sixteen; each = λ i l. rw (append-nil (seen i)) (h.each i l) }, λ e. cc)
      by (Err n) q (taken m consumed t) =
          let y : ◌≡◌ {A = Result (Message × ℕ) Refusal} (Err n) (Ok (m, consumed)) = sym q ∙ t.read in
          cc
      by (Ok (m, consumed)) q {x} c =
          (record { sixteen = one.size; each = λ i l. named i l (eqb (heading_of m).account i) refl }, λ e. rw (← account-read bytes m consumed q) (one.whole e))
        where
          w : Writable m
          w = (writes-read bytes m consumed b q).writable

          one : Kept r bytes buffer m w (seen (heading_of m).account) h.sixteen (h.each (heading_of m).account (omega (arith, w.account))) x
          one = kept r bytes buffer m w (seen (heading_of m).account) h.sixteen (h.each (heading_of m).account (omega (arith, w.account))) consumed q c

          named : (i : ℕ) → i < 16 → (d : Bool) → eqb (heading_of m).account i ≡ d
              → Keeps (account_at x.register i) (seen i ++ cond d (record { message = rule_message m; answer = answer_in x.reply x.buffer } ∷ []) [])
          named i l true e = rw (← eqb-true (heading_of m).account i e) one.named
          named i l false e = rw (append-nil (seen i), one.others i (λ z. eqb-false (heading_of m).account i e (sym z))) (h.each i l)

  -- A sequence of calls.
  calls-kept : (inputs : List Input) (r : Register) (seen : ℕ → List (Seen Filed Event ℕ)) → ByteStrings inputs → Sees r seen
      → Sees (after R r inputs) (λ (i : ℕ). seen i ++ seen_by i (exchanges R r inputs)) × EachOnlyEntries (exchanges R r inputs)
  calls-kept [] r seen b h = (record { sixteen = h.sixteen; each = λ i l. rw (append-nil (seen i)) (h.each i l) }, tt)
  calls-kept (x ∷ inputs) r seen b h =
      let result = called_by R r x.message x.buffer in
      let one : ℕ → List (Seen Filed Event ℕ) = λ i. seen_of i result.reply result.buffer (read_of x.message) in
      let first = call_kept r x.message x.buffer seen b.0 h in
      let rest = calls-kept inputs result.register (λ (i : ℕ). seen i ++ one i) b.1 first.0 in (
        record {
          sixteen = rest.0.sixteen;
          each = λ i l. rw (append_assoc (seen i) (one i) (seen_by i (exchanges R result.register inputs))) at (rest.0.each i l);
        },
        (first.1, rest.1),
      )

  -- a fresh register
  fresh_kept : Sees (fresh_by R) (λ (i : ℕ). [])
  unfolding fresh_by
  fresh_kept =
      record {
        sixteen = refl;
        each =
            λ i l.
            record {
              lists = rule.new_account R Filed;
              same = get_or-replicate 16 i (account_of (rule.new_account R Filed)) nowhere l;
              told = new_told R;
              fit = record { state = k.fresh; progress = tt; held = tt };
            };
      }

  pub reached-sees : (inputs : List Input) → ByteStrings inputs → Sees (after R (fresh_by R) inputs) (λ (i : ℕ). seen_by i (exchanges R (fresh_by R) inputs))
  reached-sees inputs b = (calls-kept inputs (fresh_by R) (λ (i : ℕ). []) b fresh_kept).0

  pub serial-past : (inputs : List Input) → ByteStrings inputs → (i : ℕ) → i < 16 → SerialPast R inputs i
  serial-past inputs b i l =
      let seen = seen_by i (exchanges R (fresh_by R) inputs) in
      let a = account_at (after R (fresh_by R) inputs) i in
      let told = lists-told a seen ((reached-sees inputs b).each i l) in
      kept-demand3 R k.roomy (lists_of a) seen told.rest told.owned

  pub only-entries : (inputs : List Input) → ByteStrings inputs → EachOnlyEntries (exchanges R (fresh_by R) inputs)
  only-entries inputs b = (calls-kept inputs (fresh_by R) (λ (i : ℕ). []) b fresh_kept).1
