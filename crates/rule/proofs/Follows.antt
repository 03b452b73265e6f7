-- One more at the end of a sequence: by induction on what stands before it.
-- Assumes nothing.
use mathlib.Core.Path.{◌≡◌, refl, ap}
use mathlib.Core.Bool.{true}
use mathlib.Core.List.{List, [], ◌∷◌, ◌++◌}
use Rattle.rule.specs.Rule.{Rule, guard, Account, Message}
use Rattle.rule.specs.Run.{run, GuardsHold}
use Rattle.rule.specs.Call.{call, reached}
use Rattle.rule.specs.History.{Seen, history}
use Rattle.rule.specs.Follows.{RunsOn, CallsOn}
use Rattle.rule.proofs.Tells.{run-last}

module _ {S E B : Type 0} (R : Rule S E B) where
  guards-parts : (es : List E) (s : S) → GuardsHold R es s → (before behind : List E) (e : E) → es ≡ before ++ (e ∷ behind) → guard R e (run R before s) ≡ true
  guards-parts es s h before behind e q = at before s (rw q at h)
    where
      at : (before' : List E) (s' : S) → GuardsHold R (before' ++ (e ∷ behind)) s' → guard R e (run R before' s') ≡ true
      at [] s' k = k.0
      at (e' ∷ before') s' k = at before' (R.effect e' s') k.1

  parts-guards : (es : List E) (s : S) → ((before behind : List E) (e : E) → es ≡ before ++ (e ∷ behind) → guard R e (run R before s) ≡ true) → GuardsHold R es s
  parts-guards [] s h = tt
  parts-guards (e ∷ es) s h =
      (h [] es e refl, parts-guards es (R.effect e s) (λ before behind e' q. h (e ∷ before) behind e' (ap (λ (l : List E). e ∷ l) q)))

  pub runs_on : (es : List E) (s : S) → RunsOn R es s
  runs_on es s = record { none = refl; more = λ e. run-last R es e s; guards = (guards-parts es s, parts-guards es s) }

module _ {G S E B : Type 0} (R : Rule S E B) where
  reached-more : (ms : List (Message G E)) (a : Account G S E) (m : Message G E) → reached R a (ms ++ (m ∷ [])) ≡ (call R (reached R a ms) m).account
  reached-more [] a m = refl
  reached-more (m' ∷ ms) a m = reached-more ms (call R a m').account m

  seen_more : (ms : List (Message G E)) (a : Account G S E) (m : Message G E)
      → history R a (ms ++ (m ∷ [])) ≡ history R a ms ++ (record { message = m; answer = (call R (reached R a ms) m).answer } ∷ [])
  seen_more [] a m = refl
  seen_more (m' ∷ ms) a m = ap (λ (l : List (Seen G E B)). record { message = m'; answer = (call R a m').answer } ∷ l) (seen_more ms (call R a m').account m)

  pub calls-on : (a : Account G S E) (ms : List (Message G E)) → CallsOn R a ms
  calls-on a ms = record { none = refl; none_seen = refl; more = reached-more ms a; more_seen = seen_more ms a }
