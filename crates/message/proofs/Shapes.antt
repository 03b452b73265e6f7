-- What the table says of each message, by the message's six cases: the only place where they are gone through for the layout. Of its rows it is
-- computed that their widths make up their lengths.
-- Assumes nothing.
use Prim.Native.Nat.{◌<◌, ◌^◌}
use mathlib.Core.Path.{◌≡◌, refl}
use lib.Dec.{lit<}
use lib.ListN.{length, get_or, set}
use Rattle.events.specs.declared.Event.TheVariants.{Open, Withdraw, Deposit, Close}
use Rattle.layout.specs.Fields.{row_of_kind, then_of, widths_of, total}
use Rattle.layout.specs.Heading.{heading_numbers}
use Rattle.layout.specs.Shapes.{padded}
use Rattle.events.specs.Kinds.{event_of}
use Rattle.layout.specs.Inverse.{Fit, none, one}
use Rattle.layout.proofs.Shapes.{Hold}
use Rattle.message.specs.declared.Message.{Message}
use Rattle.message.specs.declared.Message.TheVariants.{Request, Commit, Abort}
use Rattle.message.specs.Bytes.{messages, kind_of, heading_of, amounts_of, amount_in, numbers_of, message_by, message_of, length_of_message}
use Rattle.message.specs.Plain.{length_in}

pub rows-hold : Hold messages
unfolding messages
rows-hold = record { sums = refl; widths = refl }

pub record Shaped (m : Message) : Type 0 where
  -- it is what its numbers say
  pub numbers : message_of (numbers_of m) ≡ m
  -- it has a number for each width, and 0 in the places behind them
  pub paired : length (widths_of (row_of_kind messages (kind_of m))) ≡ length (numbers_of m)
  pub places : set (padded (heading_numbers (kind_of m) (heading_of m).transaction (heading_of m).account (heading_of m).filed)) 4 (amount_in m) ≡ padded (numbers_of m)
  -- the widths make up the whole length
  pub whole : total (widths_of (row_of_kind messages (kind_of m))) ≡ length_of_message m
  -- which is the plain one
  pub length' : length_of_message m ≡ length_in m
  -- its amount stands after the heading, where it has one
  pub amounts : amount_in m ≡ get_or (amounts_of m) 0 0
  -- the kind is a byte, and an amount that fits four bytes fits its width
  pub kind : kind_of m < 256 ^ 1
  pub amount : amount_in m < 256 ^ 4 → Fit (then_of (row_of_kind messages (kind_of m))) (amounts_of m)

pub shaped : (m : Message) → Shaped m
unfolding row_of_kind messages message_by event_of length_of_message
shaped (Request h (Open a)) = record { numbers = refl; paired = refl; places = refl; whole = refl; length' = refl; amounts = refl; kind = lit< tt; amount = λ p. one p none }
shaped (Request h (Withdraw a)) = record { numbers = refl; paired = refl; places = refl; whole = refl; length' = refl; amounts = refl; kind = lit< tt; amount = λ p. one p none }
shaped (Request h (Deposit a)) = record { numbers = refl; paired = refl; places = refl; whole = refl; length' = refl; amounts = refl; kind = lit< tt; amount = λ p. one p none }
shaped (Request h Close) = record { numbers = refl; paired = refl; places = refl; whole = refl; length' = refl; amounts = refl; kind = lit< tt; amount = λ p. none }
shaped (Commit h) = record { numbers = refl; paired = refl; places = refl; whole = refl; length' = refl; amounts = refl; kind = lit< tt; amount = λ p. none }
shaped (Abort h) = record { numbers = refl; paired = refl; places = refl; whole = refl; length' = refl; amounts = refl; kind = lit< tt; amount = λ p. none }
