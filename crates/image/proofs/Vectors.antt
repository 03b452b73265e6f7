-- By computing.
-- Assumes nothing.
use mathlib.Core.Path.{refl}
use Rattle.rule.specs.InOrder.{is_in_order}
use Rattle.events.specs.Kinds.{event_of}
use Rattle.account.specs.Places.{lists_of}
use Rattle.account.specs.InOrder.{in_order_by}
use Rattle.image.specs.Words.{words_of_slot, words_of_slots, words_of, stored_in}
use Rattle.image.specs.Reading.{slot_from, is_slot, slots_from, are_slots, is_account, fields_from, account_from}
use Rattle.image.specs.Vectors.{VectorsHold}

pub vectors-hold : VectorsHold
unfolding is_in_order event_of lists_of in_order_by words_of_slot words_of_slots words_of stored_in slot_from is_slot slots_from are_slots is_account fields_from account_from
vectors-hold =
    record {
      image = refl;
      reads = refl;
      stores = refl;
      high = refl;
      fresh = refl;
      life = refl;
      event = refl;
      amount = refl;
      decision = refl;
      last_decision = refl;
      short = refl;
    }
