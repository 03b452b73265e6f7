-- What is refused is refused by what judging found; what is taken goes by its vote.
-- Assumes nothing.
use Rattle.std.proofs.Common.{◌≡◌, ℕ, List, length, Result, Ok, ap, ◌∙◌, arith}
use Rattle.std.proofs.lemmas.Result.{err_from_is_err_and}
use Rattle.rule.specs.Rule.{Message, request, voted}
use Rattle.filing.specs.Entries.{is_accepted, weighing_of, entry_of, only_entry}
use Rattle.account.specs.Places.{lists_of}
use Rattle.events.specs.declared.Event.{Event}
use Rattle.filing.specs.declared.Filed.{Filed}
use Rattle.account.specs.Steps.{Stepped, taken_step}
use Rattle.account.specs.First.{step_of}
use Rattle.account.specs.inside.First.{Judges, Decides, request_answer}
use Rattle.account.specs.declared.Account.{Account}
use Rattle.account.specs.declared.judging.Judged.{Judged}
use Rattle.refusal.specs.declared.Refusal.{Refusal}
use Rattle.filing.specs.declared.Weighing.{Weighing}
use Rattle.filing.specs.Slots.{RuleSlot, places}
use Rattle.account.proofs.First.{first-ranged, Weighed}
use Rattle.account.proofs.Ordered.{ordered}
use Rattle.account.proofs.Judged.{number_in, request-refusal}
use Rattle.account.proofs.Answered.{step-disorder, step-refused, is-taken, step-taken}
use Rattle.account.proofs.Asked.{request-weighed, asked-accept, asked-reject, asked-hold}
use Rattle.account.proofs.Account.request.Goals as goal
use Rattle.account.proofs.Account.request.Goals.{in-Accepted, in-Rejected, in-Held}

-- where a request is taken its weighing is the rule's, and there is a place for it
taken-weighed : (self : Account) → length self.progress ≡ places → length self.held ≡ places → (t : ℕ) (g : Filed) (e : Event) → (j : Judged) → Judges self t (Ok j)
    → (answer : Result (Unit {0}) Refusal) → answer ≡ request_answer j.found self.holding → (x : Unit {0}) → answer ≡ Ok x
    → (w : Weighing) → ((requests : List RuleSlot) → self.holding ≡ length requests → Decides requests e self.progressing j.outcomes w) → Weighed self e w
taken-weighed self many many_held t g e j judges answer is x takes w decides =
    let o = judges.0 in
    let judged = judges.1 in
    let own = ordered _ self first-ranged many many_held o in
    let says = ap number_in is ∙ request-refusal _ self (omega (arith, own.holding)) t g o e j.found judged.finds in
    request-weighed _ first-ranged self many many_held t g e o (is-taken _ self (request t g e) o answer says x takes) j.outcomes judged.knows w decides

pub returns-in_err-judged : goal.returns-in_err-judged
returns-in_err-judged c =
    let h = c.in_err-judged.ensures in
    let same = step-disorder _ c.args.self.now (request c.args.transaction c.args.filed c.args.event) h.0 in
    let p = err_from_is_err_and c.from_residual.result c.from_residual.ensures.1 in
    record { answer = rw (p.1, p.2, h.1) (ap (λ (s : Stepped). s.answer) same); account = ap (λ (s : Stepped). s.account) same }

pub returns-in_err-for_request : goal.returns-in_err-for_request
returns-in_err-for_request c =
    let a = c.args in
    let self = a.self.now in
    let m : Message Filed Event = request c.args.transaction c.args.filed c.args.event in
    let o = c.in_ok-judged.ensures.0 in
    let j = c.in_ok-judged.ensures.1 in
    let found = c.in_ok-judged.judged.found in
    let r = c.for_request in
    let own = ordered _ self first-ranged (omega arith) (omega arith) o in
    let says = ap number_in r.ensures ∙ request-refusal _ self (omega arith) a.transaction a.filed o a.event found j.finds in
    let same = step-refused _ self m o r.result says _ c.in_err-for_request.was in
    let p = err_from_is_err_and c.from_residual-in_err-for_request.result c.from_residual-in_err-for_request.ensures.1 in
    record { answer = rw (p.1, p.2) (ap (λ (s : Stepped). s.answer) same); account = ap (λ (s : Stepped). s.account) same }

-- where it is accepted a place is free in progress
pub begin-requires : goal.begin-requires
begin-requires c =
    let a = c.args in
    let self = a.self.now in
    let r = c.for_request in
    let w = c.decide_behind-weighing in
    let known = taken-weighed self (omega arith) (omega arith) a.transaction a.filed a.event _ c.in_ok-judged.ensures r.result r.ensures _ c.in_ok-for_request.was w.result w.ensures in
    let free = known.free (ap is_accepted c.in-Accepted.is) in
    omega (arith, free)

pub returns : goal.returns
returns c =
    let a = c.args in
    let self = a.self.now in
    let m : Message Filed Event = request c.args.transaction c.args.filed c.args.event in
    let o = c.in_ok-judged.ensures.0 in
    let j = c.in_ok-judged.ensures.1 in
    let found = c.in_ok-judged.judged.found in
    let r = c.for_request in
    let own = ordered _ self first-ranged (omega arith) (omega arith) o in
    let says = ap number_in r.ensures ∙ request-refusal _ self (omega arith) a.transaction a.filed o a.event found j.finds in
    let w = c.decide_behind-weighing in
    let known = taken-weighed self (omega arith) (omega arith) a.transaction a.filed a.event _ c.in_ok-judged.ensures r.result r.ensures _ c.in_ok-for_request.was w.result w.ensures in
    let lists = lists_of self in
    let v = w.result in
    let entries : c.only.result ≡ only_entry (entry_of (voted a.transaction a.filed a.event (weighing_of v))) = c.only.ensures ∙ ap only_entry c.voted.ensures in
    let taken = step-taken _ self m o r.result says _ c.in_ok-for_request.was in
    let same : taken_step c.match-weighing.self c.only.result ≡ step_of self m =
    elim c.match-weighing.branch [
      | in-Accepted u ↦ rw (u.self-is, u.begin.ensures) (asked-accept _ self lists known.lists a.transaction a.filed a.event v known.decided c.only.result entries u.in-Accepted.is (known.free (ap is_accepted u.in-Accepted.is)) ∙ taken)
      | in-Rejected u ↦ rw u.self-is (asked-reject _ self lists known.lists a.transaction a.filed a.event v known.decided c.only.result entries u.in-Rejected.is ∙ taken)
      | in-Held u ↦ rw u.self-is (asked-hold _ self lists known.lists a.transaction a.filed a.event v known.decided c.only.result entries u.in-Held.is known.room ∙ taken)
    ] in
    record { answer = ap (λ (s : Stepped). s.answer) same; account = ap (λ (s : Stepped). s.account) same }
