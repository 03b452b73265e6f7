-- What was stored, by computing; the line of an entry by reading what was written.
-- Assumes nothing.
use Prim.Native.Nat.{ℕ, ◌<◌}
use mathlib.Core.Path.{◌≡◌, refl}
use mathlib.Core.Logic.{inr}
use mathlib.Core.Bool.{false}
use mathlib.Core.List.{List}
use borrow.Author.Tests.{lt-ltb, le-ltb}
use lib.ListN.{length}
use Rattle.filing.specs.declared.Verdict.{Verdict}
use Rattle.filing.specs.declared.Verdict.TheVariants.{Accepted, Rejected, Held}
use Rattle.filing.specs.declared.Told.{Told}
use Rattle.filing.specs.declared.Told.TheVariants.{Voted, Noted, Applied, Dropped}
use Rattle.layout.specs.Fields.{row_of_kind}
use Rattle.std.specs.Prelude.{Option, Some, None}
use Rattle.entry.specs.declared.Found.{Found}
use Rattle.entry.specs.Bytes.{entry_rows, vote_kind, kind_of}
use Rattle.entry.specs.Answers.{read_of}
use Rattle.entry.proofs.Inverse.{reads-standing, reads-written}
use Rattle.entry.proofs.Stored.{length-entry}
use Rattle.text.specs.Text.{is_older, write_line_of}
use Rattle.live.specs.Lines.{no_line, line_found, line_of_entry}
use Rattle.live.specs.Forms.{LineHolds, FormsHold}

line-none : (bytes buffer : List ℕ) → read_of bytes ≡ None → line_of_entry bytes buffer ≡ no_line buffer
unfolding line_of_entry
line-none bytes buffer e = rw e refl

line-short : (bytes buffer : List ℕ) → length buffer < 72 → line_of_entry bytes buffer ≡ no_line buffer
unfolding line_of_entry write_line_of
line-short bytes buffer h = go (read_of bytes)
  where
    go : (x : Option (Found × ℕ)) → line_found buffer x ≡ no_line buffer
    go None = refl
    go (Some (found, whole)) = rw (lt-ltb (length buffer) 72 h) refl

-- no entry is written in kind 18
own-kind : (told : Told) → is_older (kind_of told) ≡ false
own-kind (Voted e w) = vote w.verdict
  where
    vote : (v : Verdict) → is_older (vote_kind v) ≡ false
    vote Accepted = refl
    vote Rejected = refl
    vote Held = refl
own-kind Noted = refl
own-kind (Applied e n) = refl
own-kind (Dropped e) = refl

line-holds : LineHolds
unfolding line_of_entry write_line_of row_of_kind entry_rows
line-holds =
    record {
      line =
          λ account e rest buffer w h.
          rw (reads-written account e rest w, le-ltb (length buffer) 72 h, own-kind e.told, length-entry account e) refl;
      older =
          λ account e rest buffer w rejects none h.
          rw (reads-standing 18 account e rest w (inr (refl, rejects, none)), le-ltb (length buffer) 72 h) refl;
      none = line-none;
      short = line-short;
    }

pub forms-hold : FormsHold
forms-hold =
    record {
      call = λ image buffer r a b c n m. record { refused = refl; taken = refl; one = refl; none = refl };
      look = λ r a b c d n m. record { refused = refl; new = refl; opened = refl; closed = refl; two = refl };
      stored = λ buffer a b c n m. record { stored = refl; none = refl; one = refl };
      line = line-holds;
    }
