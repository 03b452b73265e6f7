-- By computing; the writer by its two tests.
-- Assumes nothing.
use Prim.Native.Nat.{ℕ, ◌+◌}
use native.Mathlib.Omega.{arith}
use mathlib.Core.Path.{◌≡◌, refl}
use mathlib.Core.Logic.{inl, inr, ⊎_elim}
use mathlib.Core.Bool.{Bool, true, false, cond}
use mathlib.Core.List.{List, ◌∷◌}
use borrow.Author.Tests.{lt-ltb, le-ltb}
use lib.ListN.{length}
use Rattle.rule.specs.Lists.{keep}
use Rattle.filing.specs.declared.Entry.{Entry}
use Rattle.entry.specs.Bytes.{bytes_of_entries, wholes_of}
use Rattle.entry.specs.Answers.{longest_call, write_of}
use Rattle.entry.specs.Longest.{is_rejection, rejections}
use Rattle.entry.specs.Literal.{WriterLiteral, LiteralHolds}
use Rattle.entry.proofs.Shapes.{accepted-apart, held-apart}

writer-literal : (entries : List Entry) (account : ℕ) (buffer : List ℕ) → WriterLiteral entries account buffer
unfolding write_of
writer-literal entries account buffer =
    let bytes = bytes_of_entries account entries in
    record {
      short = λ h. rw (lt-ltb (length buffer) longest_call h) refl;
      roomless = λ h k. rw (le-ltb (length buffer) longest_call h, lt-ltb (length buffer) (length bytes) k) refl;
      written = λ h k. rw (le-ltb (length buffer) longest_call h, le-ltb (length buffer) (length bytes) k) refl;
    }

-- one rejection more, by whether the first is one
more-rejections : (e : Entry) (es : List Entry) (b : Bool)
    → length (cond b (e ∷ keep (λ (x : Entry). is_rejection x.told) es) (keep (λ (x : Entry). is_rejection x.told) es)) ≡ cond b (1 + rejections es) (rejections es)
more-rejections e es true = omega arith
more-rejections e es false = refl

pub literal-holds : LiteralHolds
unfolding bytes_of_entries wholes_of
literal-holds =
    record {
      kinds =
          λ e n k.
          record {
            kinds = refl;
            each = refl;
            lengths = refl;
            by_kind = refl;
            older = refl;
            own = refl;
            are_applied = refl;
            are_votes = refl;
            are_rejections = refl;
          };
      standing =
          λ kind e n k.
          record {
            accepted = (⊎_elim (λ p. p) (λ q. absurd (accepted-apart q.1)), λ p. inl p);
            rejected = (⊎_elim (λ p. inl p) (λ q. inr (q.0, q.2)), ⊎_elim (λ p. inl p) (λ q. inr (q.0, refl, q.1)));
            held = (⊎_elim (λ p. p) (λ q. absurd (held-apart q.1)), λ p. inl p);
            noted = (⊎_elim (λ p. p) (λ q. absurd q.1), λ p. inl p);
            applied = (⊎_elim (λ p. p) (λ q. absurd q.1), λ p. inl p);
            dropped = (⊎_elim (λ p. p) (λ q. absurd q.1), λ p. inl p);
          };
      event =
          λ a bytes.
          record {
            opens = refl;
            withdraws = refl;
            deposits = refl;
            closes = refl;
            open_stands = (λ s. s, λ s. s);
            withdraw_stands = (λ s. s, λ s. s);
            deposit_stands = (λ s. s, λ s. s);
            close_stands = (λ s. s, λ s. s);
          };
      stands =
          λ bytes e n k.
          record {
            accepted = (λ x. x, λ x. x);
            rejected = (λ x. x, λ x. x);
            held = (λ x. x, λ x. x);
            noted = (λ x. x, λ x. x);
            applied = (λ x. x, λ x. x);
            dropped = (λ x. x, λ x. x);
          };
      then' = λ a n k. record { accepted = refl; rejected = refl; held = refl; noted = refl; applied = refl; dropped = refl; closed = refl };
      row =
          λ account e es x xs bytes.
          record {
            none_together = refl;
            more_together = refl;
            no_bytes = refl;
            more_bytes = refl;
            no_length = (refl, refl);
            more_length = (refl, refl);
            no_rejection = refl;
            more_rejections = more-rejections e es (is_rejection e.told);
            none_writable = tt;
            more_writable = (λ w. w, λ w. w);
            more_read = (λ w. w, λ w. w);
          };
      answers = λ e kind account whole entries. record { found' = refl; as' = refl; nothing' = refl; used = refl; longest = refl };
      writer = writer-literal;
    }
