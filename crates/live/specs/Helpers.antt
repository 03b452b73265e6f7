-- What a call comes to by what the account answers, in words and bytes: the law does not need it.
-- Assumes nothing.
use Rattle.std.specs.Prelude.{ℕ, List, Result, Ok, Err, length}
use Rattle.refusal.specs.declared.Refusal.{Refusal}
use Rattle.filing.specs.declared.Entries.{Entries}
use Rattle.account.specs.declared.Account.{Account}
use Rattle.account.specs.Steps.{Stepped}
use Rattle.layout.specs.Writes.{laid_over}
use Rattle.entry.specs.Bytes.{bytes_of_entries, list_of}
use Rattle.image.specs.Words.{stored_in}
use Rattle.live.specs.Registers.{word_at}
use Rattle.live.specs.Live.{Live}

-- a refusal changes nothing, else the entries stand in the buffer and the account's words in the image
abbrev pub finished_by : (image buffer : List ℕ) (account consumed : ℕ) → Result Entries Refusal → Account → Live
finished_by image buffer i consumed (Err refusal) next = record { reply = Err refusal; image = image; buffer = buffer }
finished_by image buffer i consumed (Ok entries) next =
    record {
      reply = Ok (record { consumed = consumed; written = length (bytes_of_entries i (list_of entries)) });
      image = stored_in image (word_at i) next;
      buffer = laid_over (bytes_of_entries i (list_of entries)) buffer;
    }

abbrev pub finished_of : (image buffer : List ℕ) (account consumed : ℕ) → Stepped → Live
finished_of image buffer i consumed stepped = finished_by image buffer i consumed stepped.answer stepped.account
