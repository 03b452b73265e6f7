-- What every step of an account keeps: the lines tied to the account, its events safe, its transactions apart, its counts within limits; and at rest, that the oldest event is
-- undecided and the oldest held request stays held. Each message that is taken leads from one account at rest to the next, and every entry on the way has its owner.
-- Settling goes by induction on the events in progress, draining by induction on the requests held.
-- Assumes nothing.
use Prim.Native.Nat.{ℕ, ◌≤◌, ◌<◌}
use mathlib.Core.Path.{◌≡◌, refl, sym, ◌∙◌, ap, subst}
use mathlib.Core.Bool.{Bool, true, false, cond, ◌||◌, false≢true}
use mathlib.Core.List.{List, [], ◌∷◌, ◌++◌, append_assoc}
use native.Mathlib.Omega.{arith}
use lib.Dec.{leb}
use lib.ListN.{length, length-append}
use borrow.Author.Tests.{leb-false, eq-eqb}
use Rattle.rule.specs.Lists.{every, some_of}
use Rattle.rule.specs.Rule.{Rule, guard, Decision, undecided, committed, Slot, slot, Account, Verdict, accept, reject, hold, Weighing, Entry, voted, applied}
use Rattle.rule.specs.Outcome.{outcomes}
use Rattle.rule.specs.Weigh.{unweighed, weigh, weighing, decide}
use Rattle.rule.specs.Step.{Step, named, drain_by, drain, settle}
use Rattle.rule.specs.InOrder.{apart, oldest_undecided, oldest_stays_held}
use Rattle.rule.specs.History.{waiting, voted_no, ongoing, was_applied, fate_by, Line, line, owners, note, notes}
use Rattle.rule.specs.Demand.{applied_events, Voted, Owned, AllOwned}
use Rattle.rule.proofs.Lists.{or_left, or_right, keep-none, some-append}
use Rattle.rule.proofs.Apart.{apart-at, apart-less}
use Rattle.rule.proofs.Safe.{Safe, safe-accept}
use Rattle.rule.proofs.Ways.{every_way}
use Rattle.rule.proofs.Vote.{vote-is}
use Rattle.rule.proofs.Turns.{turns_at}
use Rattle.rule.proofs.Tells.{past-progress, past-applied, past_first, past-oldest, run-last}
use Rattle.rule.proofs.Ties.{Past, live-accept, live-reject, past-noting, past-apply, past-owners, past-undecided}

module _ {G S E B : Type 0} (R : Rule S E B) where
  pub record Tied (s : S) (progress held : List (Slot G E)) (lines : List (Line G E)) : Type 0 where
    pub past : Past R R.fresh lines s progress held
    pub safe : Safe R progress s
    pub transactions : apart (progress ++ held) ≡ true
    pub few : length progress ≤ R.progress_limit
    pub few_held : length held ≤ R.held_limit

  pub record Rest (a : Account G S E) (lines : List (Line G E)) : Type 0 where
    pub tied : Tied a.state a.progress a.held lines
    pub oldest : oldest_undecided a.progress ≡ true
    pub stays : oldest_stays_held R a.state a.progress a.held ≡ true

  -- a step that ends at rest, every entry of which has its owner
  abbrev pub Done : List (Line G E) → Step G S E B → Type 0
  Done lines r = Rest r.account (notes lines r.entries) × AllOwned R lines r.entries

  -- What a verdict says: an acceptance, that a place is free and the guard holds in every outcome.
  pub decide-accept : (e : E) (s : S) (progress : List (Slot G E))
      → (decide R e s progress).verdict ≡ accept → (length progress < R.progress_limit) × (every (guard R e) (outcomes R progress s) ≡ true)
  unfolding decide weigh
  decide-accept e s progress h = full (leb R.progress_limit (length progress)) refl h
    where
      chosen : (a b : Bool) → cond a accept (cond b hold reject) ≡ accept → a ≡ true
      chosen true b k = refl
      chosen false true k = let z : ◌≡◌ {A = ℕ} 0 1 = cc in absurd (omega arith)
      chosen false false k = let z : ◌≡◌ {A = ℕ} 0 1 = cc in absurd (omega arith)

      full : (b : Bool) → leb R.progress_limit (length progress) ≡ b
          → (cond b unweighed (weighing R e s progress)).verdict ≡ accept
          → (length progress < R.progress_limit) × (every (guard R e) (outcomes R progress s) ≡ true)
      full true q k = let z : ◌≡◌ {A = ℕ} 0 1 = cc in absurd (omega arith)
      full false q k = (leb-false R.progress_limit (length progress) q, chosen (every (guard R e) (outcomes R progress s)) (some_of (guard R e) (outcomes R progress s)) k)

  -- a vote of these accounts
  abbrev pub vote : ℕ → G → E → Weighing → Entry G E B
  vote t g e w = voted t g e w

  module _ (s : S) (progress held : List (Slot G E)) (t : ℕ) (g : G) (e : E) (lines : List (Line G E)) where
    -- the oldest held request is the one owner of an entry of its transaction
    oldest-owner : Tied s progress (slot t g e undecided ∷ held) lines → owners t lines ≡ line t g e waiting 0 ∷ []
    oldest-owner h =
        let p = apart-at progress t g e undecided held h.transactions in
        past-owners R t h.past
        ∙ rw (keep-none (named t) progress p.0, eq-eqb t t refl, keep-none (named t) held p.1)

    -- and the vote on it, with nothing held before it, is the entry's
    oldest-vote : (w : Weighing) → Tied s progress (slot t g e undecided ∷ held) lines → decide R e s progress ≡ w → Voted R lines t g e w
    oldest-vote w h q =
        let first = past_first R t g e undecided h.past in (
          turns_at t g e waiting (fate_by w.verdict) 0 lines first.0 first.1 refl first.2 (oldest-owner h),
          rw (first.3, ← past-progress R h.past, past-applied R h.past) (vote-is R e s progress [] w q),
        )

    -- The oldest held request is accepted,
    pub accepted : (w : Weighing) → Tied s progress (slot t g e undecided ∷ held) lines → decide R e s progress ≡ w → w.verdict ≡ accept
        → Tied s (progress ++ (slot t g e undecided ∷ [])) held (note lines (vote t g e w)) × Owned R lines (voted t g e w)
    accepted w h is v =
        let p = apart-at progress t g e undecided held h.transactions in
        let q = decide-accept e s progress (ap (λ (x : Weighing). x.verdict) is ∙ v) in (
          record {
            past = rw v (past-noting R t (ongoing undecided) 0 (λ lines' l. live-accept t g e undecided l p.0 p.1) h.past);
            safe = safe-accept R t g e undecided progress s h.safe (every_way R (guard R e) progress s q.1);
            transactions = rw (append_assoc progress (slot t g e undecided ∷ []) held) h.transactions;
            few = rw (length-append progress (slot t g e undecided ∷ [])) (omega (arith, q.0));
            few_held = omega (arith, h.few_held);
          },
          oldest-vote w h is,
        )

    -- or it is rejected.
    pub rejected : (w : Weighing) → Tied s progress (slot t g e undecided ∷ held) lines → decide R e s progress ≡ w → w.verdict ≡ reject
        → Tied s progress held (note lines (vote t g e w)) × Owned R lines (voted t g e w)
    rejected w h is v =
        let p = apart-at progress t g e undecided held h.transactions in (
          record {
            past = rw v (past-noting R t voted_no 0 (λ lines' l. live-reject t g e undecided l p.0 p.1) h.past);
            safe = h.safe;
            transactions = apart-less progress (slot t g e undecided) held h.transactions;
            few = h.few;
            few_held = omega (arith, h.few_held);
          },
          oldest-vote w h is,
        )

  pub oldest-append : (progress : List (Slot G E)) (t : ℕ) (g : G) (e : E) → oldest_undecided progress ≡ true → oldest_undecided (progress ++ (slot t g e undecided ∷ [])) ≡ true
  oldest-append [] t g e h = refl
  oldest-append (slot t' g' e' undecided ∷ progress) t g e h = refl
  oldest-append (slot t' g' e' committed ∷ progress) t g e h = absurd (false≢true h)

  -- Draining: the oldest held request by its verdict, and the rest by induction.
  drained : (s : S) (held progress : List (Slot G E)) (lines : List (Line G E))
      → Tied s progress held lines → oldest_undecided progress ≡ true → Done lines (drain R s progress held)
  drained s [] progress lines h o = (record { tied = h; oldest = o; stays = refl }, tt)
  drained s (slot t g e d ∷ held) progress lines h o =
      decided (sym (past-undecided R h.past)) w.verdict refl h
      (λ progress' lines' h' o'. drained s held progress' lines' h' o')
    where
      w : Weighing
      w = decide R e s progress

      Goal : Decision → Verdict → Type 0
      Goal d' v = Done lines (drain_by v w (slot t g e d') s progress held (λ (progress' : List (Slot G E)). drain R s progress' held))

      by : (v : Verdict) → w.verdict ≡ v → Tied s progress (slot t g e undecided ∷ held) lines
          → ((progress' : List (Slot G E)) (lines' : List (Line G E)) → Tied s progress' held lines' → oldest_undecided progress' ≡ true → Done lines' (drain R s progress' held))
          → Goal undecided v
      by accept v h' rest =
          let k = accepted s progress held t g e lines w h' refl v in
          let r = rest (progress ++ (slot t g e undecided ∷ [])) (note lines (vote t g e w)) k.0 (oldest-append progress t g e o) in
          (r.0, (k.1, r.1))
      by reject v h' rest =
          let k = rejected s progress held t g e lines w h' refl v in
          let r = rest progress (note lines (vote t g e w)) k.0 o in
          (r.0, (k.1, r.1))
      by hold v h' rest = (record { tied = h'; oldest = o; stays = rw v }, tt)

      decided : undecided ≡ d → (v : Verdict) → w.verdict ≡ v → Tied s progress (slot t g e d ∷ held) lines
          → ((progress' : List (Slot G E)) (lines' : List (Line G E)) → Tied s progress' held lines' → oldest_undecided progress' ≡ true → Done lines' (drain R s progress' held))
          → Goal d v
      decided same v k h' rest =
          subst (λ (d' : Decision). Goal d' v) same
          (by v k (subst (λ (d' : Decision). Tied s progress (slot t g e d' ∷ held) lines) (sym same) h') rest)

  -- Settling: the oldest event, if committed, is applied, and the rest by induction; then the held requests are drained.
  pub settled : (progress : List (Slot G E)) (s : S) (held : List (Slot G E)) (lines : List (Line G E))
      → Tied s progress held lines → Done lines (settle R s progress held)
  unfolding settle
  settled [] s held lines h = drained s held [] lines h refl
  settled (slot t g e undecided ∷ progress) s held lines h = drained s held (slot t g e undecided ∷ progress) lines h refl
  settled (slot t g e committed ∷ progress) s held lines h =
      let far = (apart-at [] t g e committed (progress ++ held) h.transactions).1 in
      let both : (some_of (named t) progress || some_of (named t) held) ≡ false = sym (some-append (named t) progress held) ∙ far in
      let p = or_left (some_of (named t) progress) (some_of (named t) held) both in
      let q = or_right (some_of (named t) progress) (some_of (named t) held) both in
      let first = past-oldest R t g e committed h.past in
      let r =
      settled progress (R.effect e s) held (note lines (ending t g e (R.shown (R.effect e s))))
      (record {
        past = past-apply R t g e h.past h.safe.0 p q;
        safe = h.safe.1;
        transactions = apart-less [] (slot t g e committed) (progress ++ held) h.transactions;
        few = omega (arith, h.few);
        few_held = h.few_held;
      })
      in (
        r.0,
        (
          (
            turns_at t g e (ongoing committed) was_applied 1 lines first.0 first.1 refl first.2
                (past-owners R t h.past ∙ rw (eq-eqb t t refl, keep-none (named t) progress p, keep-none (named t) held q)),
            first.3,
            ap R.shown (sym (run-last R (applied_events lines) e R.fresh ∙ ap (R.effect e) (past-applied R h.past))),
          ),
          r.1,
        ),
      )
    where
      ending : ℕ → G → E → B → Entry G E B
      ending t' g' e' b = applied t' g' e' b
