-- Each message that is taken leads from an account at rest to an account at rest, and every entry that it writes has its owner.
-- A request is put behind the held ones and, where it is the only one, decided as the oldest of them; a commit marks and settles; an abort takes out and settles.
-- Assumes nothing.
use Prim.Native.Nat.{ℕ, ◌<◌}
use mathlib.Core.Path.{◌≡◌, refl, sym, ◌∙◌}
use mathlib.Core.Logic.{◌⊎◌, inl, inr, ⊎_elim}
use mathlib.Core.Bool.{Bool, true, false, cond, not, ◌||◌, true≢false}
use mathlib.Core.List.{List, [], ◌∷◌, ◌++◌, append_assoc}
use mathlib.Core.Option.{Option, none, some}
use native.Mathlib.Omega.{arith}
use lib.Dec.{leb}
use lib.ListN.{length, length-append, length-map}
use borrow.Author.Tests.{leb-false, eq-eqb}
use Rattle.rule.specs.Lists.{some_of}
use Rattle.rule.specs.Rule.{Rule, undecided, committed, Slot, slot, Account, Message, request, commit, abort, Verdict, accept, reject, hold, Weighing, Entry, noted, dropped}
use Rattle.rule.specs.Weigh.{unweighed, decide, decide_behind}
use Rattle.rule.specs.Step.{named, mark_one, mark, without, settle, asked, asked_by, committing, aborting, step}
use Rattle.rule.specs.Call.{named_committed, refusal, taken}
use Rattle.rule.specs.History.{fate_by, waiting, ongoing, was_dropped, Line, line, owners, note, begun}
use Rattle.rule.specs.Demand.{Voted}
use Rattle.rule.proofs.Lists.{either, or-neither, keep-none, keep_append, some-append}
use Rattle.rule.proofs.Apart.{length-keep, apart_snoc, apart-mark, apart-without, apart-left, apart-right, apart_other, only_one}
use Rattle.rule.proofs.Safe.{safe-mark, safe-without}
use Rattle.rule.proofs.Vote.{vote-is}
use Rattle.rule.proofs.Turns.{turns_at, turns}
use Rattle.rule.proofs.Tells.{past-progress, past-held, past-applied}
use Rattle.rule.proofs.Ties.{live-commit, live-drop, live-hold, past-noting, past-append, past-owners}
use Rattle.rule.proofs.Good.{Tied, Rest, Done, vote, accepted, rejected, oldest-append, settled}

-- What "not refused" says, of each message.
pub free-request : (a b c : Bool) → ◌≡◌ {A = Option ℕ} (cond (a || b) (some 6) (cond c (some 7) none)) none → (a ≡ false) × (b ≡ false) × (c ≡ false)
free-request true b c h = let z : ◌≡◌ {A = ℕ} 0 1 = cc in absurd (omega arith)
free-request false true c h = let z : ◌≡◌ {A = ℕ} 0 1 = cc in absurd (omega arith)
free-request false false true h = let z : ◌≡◌ {A = ℕ} 0 1 = cc in absurd (omega arith)
free-request false false false h = (refl, refl, refl)

pub free-commit : (a b c : Bool) → ◌≡◌ {A = Option ℕ} (cond (not (a || b)) (some 8) (cond b (some 9) (cond c (some 10) none))) none → (a ≡ true) × (b ≡ false) × (c ≡ false)
free-commit false false c h = let z : ◌≡◌ {A = ℕ} 0 1 = cc in absurd (omega arith)
free-commit false true c h = let z : ◌≡◌ {A = ℕ} 0 1 = cc in absurd (omega arith)
free-commit true true c h = let z : ◌≡◌ {A = ℕ} 0 1 = cc in absurd (omega arith)
free-commit true false true h = let z : ◌≡◌ {A = ℕ} 0 1 = cc in absurd (omega arith)
free-commit true false false h = (refl, refl, refl)

pub free-abort : (a b c : Bool) → ◌≡◌ {A = Option ℕ} (cond (not (a || b)) (some 8) (cond c (some 11) none)) none → ((a ≡ true) ⊎ (b ≡ true)) × (c ≡ false)
free-abort false false c h = let z : ◌≡◌ {A = ℕ} 0 1 = cc in absurd (omega arith)
free-abort false true true h = let z : ◌≡◌ {A = ℕ} 0 1 = cc in absurd (omega arith)
free-abort false true false h = (inr refl, refl)
free-abort true b true h = let z : ◌≡◌ {A = ℕ} 0 1 = cc in absurd (omega arith)
free-abort true b false h = (inl refl, refl)

module _ {G S E B : Type 0} (R : Rule S E B) where
  abbrev at : S → List (Slot G E) → List (Slot G E) → Account G S E
  at s progress held = record { state = s; progress = progress; held = held }

  module _ (s : S) (progress : List (Slot G E)) (t : ℕ) (g : G) (e : E) (lines : List (Line G E)) (fresh-there : some_of (named t) progress ≡ false) where
    -- a request behind the held ones: tied,
    behind : (held : List (Slot G E)) → Tied R s progress held lines → some_of (named t) held ≡ false → length held < R.held_limit
        → Tied R s progress (held ++ (slot t g e undecided ∷ [])) (lines ++ (line t g e waiting 0 ∷ []))
    behind held h q few =
        record {
          past = past-append R t g e h.past;
          safe = h.safe;
          transactions =
              rw (← append_assoc progress held (slot t g e undecided ∷ []))
              (apart_snoc (progress ++ held) t g e undecided h.transactions
              (some-append (named t) progress held ∙ or-neither (some_of (named t) progress) (some_of (named t) held) fresh-there q));
          few = h.few;
          few_held = rw (length-append held (slot t g e undecided ∷ [])) (omega arith);
        }

    -- the one owner of its own entry,
    behind-owner : (held : List (Slot G E)) → Tied R s progress held lines → some_of (named t) held ≡ false → length held < R.held_limit
        → owners t (lines ++ (line t g e waiting 0 ∷ [])) ≡ line t g e waiting 0 ∷ []
    behind-owner held h q few =
        past-owners R t (behind held h q few).past
        ∙ rw (keep-none (named t) progress fresh-there, keep_append (named t) held (slot t g e undecided ∷ []), keep-none (named t) held q, eq-eqb t t refl)

    -- which is the vote on it behind those held before,
    behind-vote : (held : List (Slot G E)) (w : Weighing) → Tied R s progress held lines → some_of (named t) held ≡ false → length held < R.held_limit
        → decide_behind R held e s progress ≡ w → Voted R (lines ++ (line t g e waiting 0 ∷ [])) t g e w
    behind-vote held w h q few is =
        let past = (behind held h q few).past in (
          turns_at t g e waiting (fate_by w.verdict) 0 (lines ++ (line t g e waiting 0 ∷ [])) lines [] refl refl (behind-owner held h q few),
          rw (← past-held R h.past, ← past-progress R past, past-applied R past) (vote-is R e s progress held w is),
        )

    -- and tied as before when it is held
    behind-held : (held : List (Slot G E)) (w : Weighing) → Tied R s progress held lines → some_of (named t) held ≡ false → length held < R.held_limit → w.verdict ≡ hold
        → Tied R s progress (held ++ (slot t g e undecided ∷ [])) (note (lines ++ (line t g e waiting 0 ∷ [])) (vote R t g e w))
    behind-held held w h q few v =
        let k = behind held h q few in
        record {
          past = rw v (past-noting R t waiting 0 (λ lines' l. live-hold t l fresh-there) k.past);
          safe = k.safe;
          transactions = k.transactions;
          few = k.few;
          few_held = k.few_held;
        }

  abbrev drop_entry : ℕ → G → E → Entry G E B
  drop_entry t g e = dropped t g e

  -- A request.
  requested : (s : S) (progress held : List (Slot G E)) (t : ℕ) (g : G) (e : E) (lines : List (Line G E))
      → Rest R (at s progress held) lines → some_of (named t) progress ≡ false → some_of (named t) held ≡ false → length held < R.held_limit
      → Done R (lines ++ (line t g e waiting 0 ∷ [])) (asked R (at s progress held) t g e)
  unfolding asked
  requested s progress [] t g e lines h p q few = by w.verdict refl
    where
      w : Weighing
      w = decide R e s progress

      first : Tied R s progress (slot t g e undecided ∷ []) (lines ++ (line t g e waiting 0 ∷ []))
      first = behind s progress t g e lines p [] h.tied q few

      by : (v : Verdict) → w.verdict ≡ v
          → Done R (lines ++ (line t g e waiting 0 ∷ [])) (record { account = asked_by v s progress [] (slot t g e undecided); entries = vote R t g e w ∷ [] })
      by accept v =
          let k = accepted R s progress [] t g e (lines ++ (line t g e waiting 0 ∷ [])) w first refl v in
          (record { tied = k.0; oldest = oldest-append R progress t g e h.oldest; stays = refl }, (k.1, tt))
      by reject v =
          let k = rejected R s progress [] t g e (lines ++ (line t g e waiting 0 ∷ [])) w first refl v in
          (record { tied = k.0; oldest = h.oldest; stays = refl }, (k.1, tt))
      by hold v = (
        record { tied = behind-held s progress t g e lines p [] w h.tied q few v; oldest = h.oldest; stays = rw v },
        (behind-vote s progress t g e lines p [] w h.tied q few refl, tt),
      )
  requested s progress (slot t' g' e' d' ∷ held) t g e lines h p q few = (
    record {
      tied = behind-held s progress t g e lines p (slot t' g' e' d' ∷ held) unweighed h.tied q few refl;
      oldest = h.oldest;
      stays = h.stays;
    },
    (behind-vote s progress t g e lines p (slot t' g' e' d' ∷ held) unweighed h.tied q few refl, tt),
  )

  -- A commit.
  committed-good : (s : S) (progress held : List (Slot G E)) (t : ℕ) (g : G) (lines : List (Line G E))
      → Rest R (at s progress held) lines → some_of (named t) progress ≡ true → some_of (named t) held ≡ false → some_of (named_committed t) progress ≡ false
      → Done R lines (committing R (at s progress held) t g)
  unfolding committing
  committed-good s progress held t g lines h p q c =
      let one = only_one t progress (apart-left progress held h.tied.transactions) p in
      let d : one.2 ≡ undecided = one.4 c in
      let r =
      settled R (mark t progress) s held (note lines (noting-of t g))
      (record {
        past = past-noting R t (ongoing committed) 0 (λ lines' l. live-commit t l q) h.tied.past;
        safe = safe-mark R t progress s h.tied.safe;
        transactions = apart-mark t progress held ∙ h.tied.transactions;
        few = rw (length-map progress (mark_one t)) h.tied.few;
        few_held = h.tied.few_held;
      })
      in (
        r.0,
        (
          (
            one.0,
            one.1,
            turns t one.0 one.1 (ongoing undecided) (ongoing committed) 0 lines refl (past-owners R t h.tied.past ∙ rw (one.3, keep-none (named t) held q, d)),
          ),
          r.1,
        ),
      )
    where
      noting-of : ℕ → G → Entry G E B
      noting-of t' g' = noted t' g'

  -- An abort: what is left when the transaction's slot is taken out,
  taken_out : (s : S) (progress held : List (Slot G E)) (t : ℕ) (g : G) (e : E) (lines : List (Line G E))
      → Tied R s progress held lines → some_of (named_committed t) progress ≡ false
      → Done R (note lines (drop_entry t g e)) (settle R s (without t progress) (without t held))
  taken_out s progress held t g e lines h c =
      settled R (without t progress) s (without t held) (note lines (drop_entry t g e))
      (record {
        past = past-noting R t was_dropped 1 (λ lines' l. live-drop t l) h.past;
        safe = safe-without R t progress s c h.safe;
        transactions = apart-without t progress held h.transactions;
        few = omega (arith, length-keep (λ (x : Slot G E). not (named t x)) progress, h.few);
        few_held = omega (arith, length-keep (λ (x : Slot G E). not (named t x)) held, h.few_held);
      })

  -- and the one entry, of the slot in progress or held.
  aborted-good : (s : S) (progress held : List (Slot G E)) (t : ℕ) (lines : List (Line G E))
      → Rest R (at s progress held) lines → (some_of (named t) progress ≡ true) ⊎ (some_of (named t) held ≡ true) → some_of (named_committed t) progress ≡ false
      → Done R lines (aborting R (at s progress held) t)
  unfolding aborting
  aborted-good s progress held t lines h (inl p) c =
      let one = only_one t progress (apart-left progress held h.tied.transactions) p in
      let q = apart_other t progress held h.tied.transactions p in
      let d : one.2 ≡ undecided = one.4 c in
      let r = taken_out s progress held t one.0 one.1 lines h.tied c in
      rw (one.3, keep-none (named t) held q)
      (r.0, (inl (turns t one.0 one.1 (ongoing undecided) was_dropped 1 lines refl (past-owners R t h.tied.past ∙ rw (one.3, keep-none (named t) held q, d))), r.1))
  aborted-good s progress held t lines h (inr p) c =
      let one = only_one t held (apart-right progress held h.tied.transactions) p in
      let q : some_of (named t) progress ≡ false =
      ⊎_elim (λ k. absurd (true≢false (sym p ∙ apart_other t progress held h.tied.transactions k))) (λ k. k) (either (some_of (named t) progress))
      in
      let r = taken_out s progress held t one.0 one.1 lines h.tied c in
      rw (one.3, keep-none (named t) progress q)
      (r.0, (inr (turns t one.0 one.1 waiting was_dropped 1 lines refl (past-owners R t h.tied.past ∙ rw (one.3, keep-none (named t) progress q))), r.1))

  -- Any message that is not refused.
  pub step-good : (a : Account G S E) (m : Message G E) (lines : List (Line G E))
      → Rest R a lines → refusal R a m ≡ none → Done R (begun lines m (taken (step R a m).entries)) (step R a m)
  step-good a (request t g e) lines h free =
      let k = free-request (some_of (named t) a.progress) (some_of (named t) a.held) (leb R.held_limit (length a.held)) free in
      requested a.state a.progress a.held t g e lines h k.0 k.1 (leb-false R.held_limit (length a.held) k.2)
  step-good a (commit t g) lines h free =
      let k = free-commit (some_of (named t) a.progress) (some_of (named t) a.held) (some_of (named_committed t) a.progress) free in
      committed-good a.state a.progress a.held t g lines h k.0 k.1 k.2
  step-good a (abort t g) lines h free =
      let k = free-abort (some_of (named t) a.progress) (some_of (named t) a.held) (some_of (named_committed t) a.progress) free in
      aborted-good a.state a.progress a.held t lines h k.0 k.1
