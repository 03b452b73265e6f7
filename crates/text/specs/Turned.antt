-- What a message that was sent comes to, by its refusal or by its entries, their account and the message's length (a contract of a private function; the law
-- does not need it).
-- Assumes nothing.
use Rattle.std.specs.Prelude.{ℕ, ◌≡◌, Result, Ok, Err}
use Rattle.refusal.specs.declared.Refusal.{Refusal}
use Rattle.refusal.specs.Numbers.{number_of}
use Rattle.filing.specs.declared.Entries.{Entries}
use Rattle.entry.specs.Bytes.{list_of}
use Rattle.text.specs.Text.{lines_of}
use Rattle.text.specs.Output.{refused_line, Turn}

abbrev pub Sends : Result (Entries × ℕ × ℕ) Refusal → Turn → Type 0
Sends (Err refusal) turn = (turn.reply ≡ Err refusal) × (turn.text ≡ refused_line (number_of refusal))
Sends (Ok (entries, account, consumed)) turn =
    (turn.reply ≡ Ok (record { consumed = consumed; written = 0 })) × (turn.text ≡ lines_of account (list_of entries))
