-- The forms of a place and of the entries of a call: by the laws on a list that is filled up to a size, the rest by computing.
-- Assumes nothing.
use mathlib.Core.Path.{refl, sym, ap}
use mathlib.Core.List.{[], ◌∷◌}
use lib.ListN.{length, length-append}
use borrow.Author.Tests.{lt-ltb, le-ltb}
use Rattle.filing.specs.Slots.{is_blank}
use Rattle.filing.specs.Entries.{entry_of, blank_entry, entries_of}
use Rattle.filing.specs.Forms.{FormsHold}
use Rattle.filing.proofs.Slots.{slot-place, place-slot, weighing-back, weighing-forth, blank-place}
use Rattle.filing.proofs.Filled.{first-filled, rest-filled, length-filled, fill-next}

pub forms-hold : FormsHold
unfolding entries_of
forms-hold =
    record {
      slots =
          record {
            undecided = λ t g e. refl;
            committed = λ t g e. refl;
            back = place-slot;
            forth = slot-place;
            commits = λ t g e d. refl;
            blanks = λ x. (blank-place x, λ e. ap is_blank e);
          };
      entry = λ t g e n k. record { accepted = refl; rejected = refl; held = refl; noted = refl; applied = refl; dropped = refl };
      weighing = record { back = weighing-back; forth = weighing-forth };
      entries =
          λ xs.
          record {
            count = refl;
            used = first-filled entry_of blank_entry 17 xs;
            unused = rest-filled entry_of blank_entry 17 xs;
            seventeen = length-filled entry_of blank_entry 17 xs;
          };
      pushes =
          λ xs x.
          record {
            more = λ h. rw (lt-ltb (length xs) 17 h) (λ i. record { at = fill-next entry_of blank_entry 17 xs x h i; count = sym (length-append xs (x ∷ [])) i });
            full = λ h. rw (le-ltb (length xs) 17 h) refl;
          };
      only = λ x. record { count = refl; used = refl; unused = refl; seventeen = λ h. refl };
      tests = record { undecided = refl; accepted = refl; held = refl };
    }
