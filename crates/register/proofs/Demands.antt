-- The three demands and what is promised of a run, proved: each law, which is over any rule that suits the register, applied to the first panel's.
-- Assumes nothing.
use mathlib.Core.Path.{refl}
use Rattle.rule.proofs.Exact.{numbered, choices, exact, decided}
use Rattle.rule.proofs.Vote.{vote-exactly}
use Rattle.account.specs.First.{panel}
use Rattle.account.specs.Places.{account_of}
use Rattle.account.proofs.First.{table-holds, outcomes-of-the-table}
use Rattle.message.proofs.Refusals.{reader-refuses, writer-refuses}
use Rattle.message.proofs.Inverse.{reads-written, writes-read}
use Rattle.register.specs.Register.{fresh_by}
use Rattle.register.specs.Demands.{Demand1, Demand2, Demand3, RunHolds}
use Rattle.register.proofs.Suits.{first-suits}
use Rattle.register.proofs.Unchanged.{send-leaves, refusal, call-takes}
use Rattle.register.proofs.Refusals.{send-refuses, call-refuses, outlook-tells}
use Rattle.register.proofs.Longest.{longest}
use Rattle.register.proofs.AsTheRule.{as-the-rule, sent-as-the-rule}
use Rattle.register.proofs.Sends.{call-is-send, sent-reads-back}
use Rattle.register.proofs.Own.{each-own-entry}
use Rattle.register.proofs.Filed.{filed-never-matters}
use Rattle.register.proofs.Seconds.{seconds-never-matter}
use Rattle.register.proofs.Demand3.{serial-past, only-entries}
use Rattle.register.proofs.Sequences.{each-call, each-sight}
use Rattle.register.proofs.InOrder.{always-in-order, never_five, never_asked_five}
use Rattle.register.proofs.RunCalls.{run-is-its-calls, run-demand3}
use Rattle.register.proofs.WholeRuns.{empty-run, bound-never-matters, each-run-kept}
use Rattle.register.proofs.Alike.{buffer-never-shows}
use Rattle.register.proofs.RunSeconds.{run-seconds-never-matter}

pub demand1 : Demand1
unfolding fresh_by account_of
demand1 =
    record {
      fresh = refl;
      limits = (refl, refl);
      sends = send-refuses panel;
      exactly = call-refuses panel;
      leaves = send-leaves panel;
      refused = refusal panel first-suits;
      taken = call-takes panel first-suits;
      longest = longest;
      asked = outlook-tells panel;
      read = reader-refuses;
      written = writer-refuses;
    }

pub demand2 : Demand2
demand2 =
    record {
      decided = as-the-rule panel;
      decided_sent = sent-as-the-rule panel;
      sent = call-is-send panel;
      back = sent-reads-back panel first-suits;
      brought = λ t i g. record { request = λ e. refl; commit = refl; abort = refl };
      own = each-own-entry panel;
      weighed = exact panel;
      counted = λ e s progress held. decided panel e s progress held;
      voted = λ ahead progress s e w. vote-exactly panel e s progress ahead w;
      numbers = numbered panel;
      choices = choices;
      table = table-holds;
      outcomes = outcomes-of-the-table;
      written_read = reads-written;
      read_written = writes-read;
      filed = filed-never-matters panel first-suits;
      seconds = seconds-never-matter panel first-suits;
    }

pub demand3 : Demand3
demand3 =
    record {
      history = serial-past panel first-suits;
      calls = each-call panel;
      sight = each-sight;
      whole = only-entries panel first-suits;
      in_order = λ inputs i l. always-in-order panel first-suits inputs i;
      never_five = never_five panel first-suits;
      never_asked_five = never_asked_five panel first-suits;
    }

pub run_holds : RunHolds
run_holds =
    record {
      calls = run-is-its-calls panel first-suits;
      demand3 = run-demand3 panel first-suits;
      empty = empty-run panel first-suits;
      bound = bound-never-matters panel first-suits;
      kept = each-run-kept panel first-suits;
      buffer = buffer-never-shows panel first-suits;
      seconds = run-seconds-never-matter panel first-suits;
    }
