-- Every account reached from fresh is in order, and every account in order could have been reached, so that a call leaves an account in order: what is kept at rest says each clause, by its name. The state's own clause comes from the run of the events applied,
-- each of which found its guard true.
-- Assumes nothing.
use mathlib.Core.Path.{◌≡◌, refl}
use mathlib.Core.Bool.{true, ◌&&◌, false≢true}
use mathlib.Core.List.{List, [], ◌∷◌, ◌++◌}
use lib.Dec.{leb}
use lib.ListN.{length}
use borrow.Author.Tests.{le-leb, leb-true}
use Rattle.rule.specs.Lists.{every}
use Rattle.rule.specs.Rule.{Rule, undecided, committed, Slot, slot, Account, Message, request, commit, abort, new_account}
use Rattle.rule.specs.Call.{call, reached}
use Rattle.rule.specs.Run.{run, GuardsHold}
use Rattle.rule.specs.InOrder.{apart, oldest_undecided, without_decision, counts_within, guarded, oldest_stays_held, is_in_order, InOrder, Sound}
use Rattle.rule.specs.History.{waiting, ongoing, was_applied, Line, line, after_call}
use Rattle.rule.proofs.Lists.{and_left, and_right, and_both}
use Rattle.rule.proofs.Safe.{safe-guarded, guarded-safe}
use Rattle.rule.proofs.Ties.{Wait, no_more, gone, waits, Live, held_then, no-then, dropped-then, going-then, Past, live_then, no-past, dropped-past, applied-past}
use Rattle.rule.proofs.Good.{Rest}
use Rattle.rule.proofs.Reached.{reached-rest, call_kept}

module _ {G E : Type 0} where
  wait-decisions : {lines : List (Line G E)} {held : List (Slot G E)} → Wait lines held → every without_decision held ≡ true
  wait-decisions no_more = refl
  wait-decisions (gone w) = wait-decisions w
  wait-decisions (waits w) = wait-decisions w

  live-decisions : {lines : List (Line G E)} {progress held : List (Slot G E)} → Live lines progress held → every without_decision held ≡ true
  live-decisions (held_then w) = wait-decisions w
  live-decisions (no-then l) = live-decisions l
  live-decisions (dropped-then l) = live-decisions l
  live-decisions (going-then l) = live-decisions l

module _ {G S E B : Type 0} (R : Rule S E B) where
  past-decisions : {s s' : S} {lines : List (Line G E)} {progress held : List (Slot G E)} → Past R s lines s' progress held → every without_decision held ≡ true
  past-decisions (live_then l) = live-decisions l
  past-decisions (no-past l) = past-decisions l
  past-decisions (dropped-past l) = past-decisions l
  past-decisions (applied-past q l) = past-decisions l

  past_fits : Sound R → {s s' : S} {lines : List (Line G E)} {progress held : List (Slot G E)} → Past R s lines s' progress held → R.fits s ≡ true → R.fits s' ≡ true
  past_fits sound (live_then l) h = h
  past_fits sound (no-past l) h = past_fits sound l h
  past_fits sound (dropped-past l) h = past_fits sound l h
  past_fits sound (applied-past {e = e} {s = s} q l) h = past_fits sound l (sound.kept e s q h)

  pub rest-order : Sound R → (a : Account G S E) (lines : List (Line G E)) → Rest R a lines → InOrder R a
  rest-order sound a lines h =
      record {
        counts =
            and_both (leb (length a.progress) R.progress_limit) (leb (length a.held) R.held_limit)
            (le-leb (length a.progress) R.progress_limit h.tied.few) (le-leb (length a.held) R.held_limit h.tied.few_held);
        state = past_fits sound h.tied.past sound.fresh;
        transactions = h.tied.transactions;
        decisions = past-decisions h.tied.past;
        guards = safe-guarded R a.state [] a.progress h.tied.safe;
        oldest = h.oldest;
        stays = h.stays;
      }

  -- every account reached from fresh is in order, clause by clause,
  pub reached-clauses : Sound R → (ms : List (Message G E)) → InOrder R (reached R (new_account R G) ms)
  reached-clauses sound ms = rest-order sound (reached R (new_account R G) ms) (reached-rest R ms).0 (reached-rest R ms).1

  -- the clauses are the whole of it,
  pub clauses-order : (a : Account G S E) → InOrder R a → is_in_order R a ≡ true
  unfolding is_in_order
  clauses-order a h = rw (h.counts, h.state, h.transactions, h.decisions, h.guards, h.oldest, h.stays)

  pub order-clauses : (a : Account G S E) → is_in_order R a ≡ true → InOrder R a
  unfolding is_in_order
  order-clauses a h =
      let c1 = counts_within R a in
      let c2 = R.fits a.state in
      let c3 = apart (a.progress ++ a.held) in
      let c4 = every without_decision a.held in
      let c5 = guarded R a.state [] a.progress in
      let c6 = oldest_undecided a.progress in
      let c7 = oldest_stays_held R a.state a.progress a.held in
      let h6 = and_left (c1 && c2 && c3 && c4 && c5 && c6) c7 h in
      let h5 = and_left (c1 && c2 && c3 && c4 && c5) c6 h6 in
      let h4 = and_left (c1 && c2 && c3 && c4) c5 h5 in
      let h3 = and_left (c1 && c2 && c3) c4 h4 in
      let h2 = and_left (c1 && c2) c3 h3 in
      record {
        counts = and_left c1 c2 h2;
        state = and_right c1 c2 h2;
        transactions = and_right (c1 && c2) c3 h3;
        decisions = and_right (c1 && c2 && c3) c4 h4;
        guards = and_right (c1 && c2 && c3 && c4) c5 h5;
        oldest = and_right (c1 && c2 && c3 && c4 && c5) c6 h6;
        stays = and_right (c1 && c2 && c3 && c4 && c5 && c6) c7 h;
      }

  -- so the test is true
  pub reached-order : Sound R → (ms : List (Message G E)) → is_in_order R (reached R (new_account R G) ms) ≡ true
  reached-order sound ms = clauses-order (reached R (new_account R G) ms) (reached-clauses sound ms)

  -- An account in order has lines: of a run that leads to its state, of its events in progress, of its requests held.
  waits-lines : (held : List (Slot G E)) → every without_decision held ≡ true → (lines : List (Line G E)) × Wait lines held
  waits-lines [] h = ([], no_more)
  waits-lines (slot t g e undecided ∷ held) h = let r = waits-lines held h in (line t g e waiting 0 ∷ r.0, waits r.1)
  waits-lines (slot t g e committed ∷ held) h = absurd (false≢true h)

  goes_lines : (progress held : List (Slot G E)) → every without_decision held ≡ true → (lines : List (Line G E)) × Live lines progress held
  goes_lines [] held h = let r = waits-lines held h in (r.0, held_then r.1)
  goes_lines (slot t g e d ∷ progress) held h = let r = goes_lines progress held h in (line t g e (ongoing d) 0 ∷ r.0, going-then r.1)

  past-lines : (g : G) (es : List E) (s : S) (progress held : List (Slot G E)) (lines : List (Line G E))
      → GuardsHold R es s → Live lines progress held → (lines' : List (Line G E)) × Past R s lines' (run R es s) progress held
  past-lines g [] s progress held lines h l = (lines, live_then l)
  past-lines g (e ∷ es) s progress held lines h l =
      let r = past-lines g es (R.effect e s) progress held lines h.1 l in
      (line 0 g e was_applied 1 ∷ r.0, applied-past h.0 r.1)

  pub order-rest : Sound R → G → (a : Account G S E) → is_in_order R a ≡ true → (lines : List (Line G E)) × Rest R a lines
  order-rest sound g a h =
      let k = order-clauses a h in
      let es = sound.reachable a.state k.state in
      let l = goes_lines a.progress a.held k.decisions in
      let p = past-lines g es.0 R.fresh a.progress a.held l.0 es.1 l.1 in (
        p.0,
        record {
          tied =
              record {
                past = rw es.2 at p.1;
                safe = guarded-safe R a.state [] a.progress tt k.guards;
                transactions = k.transactions;
                few = leb-true (length a.progress) R.progress_limit (and_left (leb (length a.progress) R.progress_limit) (leb (length a.held) R.held_limit) k.counts);
                few_held = leb-true (length a.held) R.held_limit (and_right (leb (length a.progress) R.progress_limit) (leb (length a.held) R.held_limit) k.counts);
              };
          oldest = k.oldest;
          stays = k.stays;
        },
      )

  filed_with : Message G E → G
  filed_with (request t g e) = g
  filed_with (commit t g) = g
  filed_with (abort t g) = g

  -- a call, taken or refused, leaves an account in order
  pub call-order : Sound R → (a : Account G S E) (m : Message G E) → is_in_order R a ≡ true → is_in_order R (call R a m).account ≡ true
  call-order sound a m h =
      let r = order-rest sound (filed_with m) a h in
      let k = call_kept R a m r.0 r.1 in
      clauses-order (call R a m).account (rest-order sound (call R a m).account (after_call r.0 m (call R a m).answer) k.0)
