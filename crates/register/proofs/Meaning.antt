-- By the definitions: each is the other. Two seconds have four bytes behind the same seven, before the same rest.
-- Assumes nothing.
use Prim.Native.Nat.{ℕ, ◌+◌, ◌≤◌}
use mathlib.Core.Path.{◌≡◌, refl, ap, sym, ◌∙◌}
use mathlib.Core.Logic.{◌⊎◌, inl, inr}
use mathlib.Core.List.{List, [], ◌∷◌, ◌++◌, append_assoc}
use lib.ListN.{length, get_or, take, drop, length-append}
use lib.Seq.{take_at, drop_at}
use Rattle.filing.specs.declared.Entry.{Entry}
use Rattle.entry.specs.Bytes.{bytes_of_entry}
use Rattle.register.specs.Sequence.{Input, Exchange}
use Rattle.register.specs.Run.{Run}
use Rattle.register.specs.Whole.{Whole, with_amount, without_amount}
use Rattle.register.specs.Seconds.{OtherSecond, SameMessage, OtherSeconds, none, one_more, SameEntries, nothing_written, entry, SameExchange, SameExchanges, none_seen, one_seen}
use Rattle.register.specs.RunSeconds.{SameMessages, same_messages}
use Rattle.register.specs.Meaning.{SecondMeans, SequencesMean, EntriesMean, RunsMean, MeaningHolds}
use Rattle.register.proofs.OtherSecond.{whole-strings}

-- ---- the second

module _ (front rest : List ℕ) (h : length front ≡ 7) where
  begins : (tail : List ℕ) → take 7 (front ++ tail) ≡ front
  begins tail = take_at front tail 7 h

  ends : (a b c d : ℕ) → drop 11 (front ++ (a ∷ b ∷ c ∷ d ∷ rest)) ≡ rest
  ends a b c d =
      let four : List ℕ = a ∷ b ∷ c ∷ d ∷ [] in
      ap (drop 11) (sym (append_assoc front four rest)) ∙ drop_at (front ++ four) rest 11 (length-append front four ∙ ap (λ (n : ℕ). n + 4) h)

  any-second : (a b c d a' b' c' d' : ℕ) → OtherSecond (front ++ (a ∷ b ∷ c ∷ d ∷ rest)) (front ++ (a' ∷ b' ∷ c' ∷ d' ∷ rest))
  any-second a b c d a' b' c' d' =
      record {
        size = length-append front (a ∷ b ∷ c ∷ d ∷ rest) ∙ sym (length-append front (a' ∷ b' ∷ c' ∷ d' ∷ rest));
        front = begins (a ∷ b ∷ c ∷ d ∷ rest) ∙ sym (begins (a' ∷ b' ∷ c' ∷ d' ∷ rest));
        back = ends a b c d ∙ sym (ends a' b' c' d');
      }

whole_is : (bytes : List ℕ) (whole : ℕ) → Whole bytes whole
    → ((1 ≤ get_or bytes 0 0) × (get_or bytes 0 0 ≤ 3) × (whole ≡ 15)) ⊎ ((4 ≤ get_or bytes 0 0) × (get_or bytes 0 0 ≤ 6) × (whole ≡ 11))
whole_is bytes whole (with_amount l h) = inl (l, h, refl)
whole_is bytes whole (without_amount l h) = inr (l, h, refl)

is_whole : (bytes : List ℕ) (whole : ℕ)
    → ((1 ≤ get_or bytes 0 0) × (get_or bytes 0 0 ≤ 3) × (whole ≡ 15)) ⊎ ((4 ≤ get_or bytes 0 0) × (get_or bytes 0 0 ≤ 6) × (whole ≡ 11)) → Whole bytes whole
is_whole bytes whole (inl p) = rw p.2 (with_amount p.0 p.1)
is_whole bytes whole (inr p) = rw p.2 (without_amount p.0 p.1)

second-means : (front rest : List ℕ) (a b c d a' b' c' d' : ℕ) (bytes bytes' : List ℕ) → SecondMeans front rest a b c d a' b' c' d' bytes bytes'
second-means front rest a b c d a' b' c' d' bytes bytes' =
    record {
      any = λ h. any-second front rest h a b c d a' b' c' d';
      any_message =
          λ h. whole-strings (front ++ (a ∷ b ∷ c ∷ d ∷ rest)) (front ++ (a' ∷ b' ∷ c' ∷ d' ∷ rest)) (any-second front rest h a b c d a' b' c' d');
      other = (λ o. (o.size, o.front, o.back), λ o. record { size = o.0; front = o.1; back = o.2 });
      message = (λ o. (o.front, o.back, o.reached), λ o. record { front = o.0; back = o.1; reached = o.2 });
      whole' = λ whole. (whole_is bytes whole, is_whole bytes whole);
    }

-- ---- sequences

more-is : {x y : Input} {xs ys : List Input} → OtherSeconds (x ∷ xs) (y ∷ ys) → SameMessage x.message y.message × (x.buffer ≡ y.buffer) × OtherSeconds xs ys
more-is (one_more m b o) = (m, b, o)

fewer-is : {x : Input} {xs : List Input} → OtherSeconds (x ∷ xs) [] → ⊥
fewer-is = elim [ ]

further-is : {y : Input} {ys : List Input} → OtherSeconds [] (y ∷ ys) → ⊥
further-is = elim [ ]

seen-is : {u v : Exchange} {us vs : List Exchange} → SameExchanges (u ∷ us) (v ∷ vs) → SameExchange u v × SameExchanges us vs
seen-is (one_seen s o) = (s, o)

fewer-seen : {u : Exchange} {us : List Exchange} → SameExchanges (u ∷ us) [] → ⊥
fewer-seen = elim [ ]

further-seen : {v : Exchange} {vs : List Exchange} → SameExchanges [] (v ∷ vs) → ⊥
further-seen = elim [ ]

sequences-mean : (x y : Input) (xs ys : List Input) (u v : Exchange) (us vs : List Exchange) → SequencesMean x y xs ys u v us vs
sequences-mean x y xs ys u v us vs =
    record {
      none = none;
      more = (more-is, λ o. one_more o.0 o.1 o.2);
      fewer = fewer-is;
      further = further-is;
      none_seen = none_seen;
      more_seen = (seen-is, λ o. one_seen o.0 o.1);
      fewer_seen = fewer-seen;
      further_seen = further-seen;
      exchange = (λ s. (s.replies, s.entries, s.rest), λ s. record { replies = s.0; entries = s.1; rest = s.2 });
    }

-- ---- entries

abbrev OneEntry : (bytes bytes' : List ℕ) → Type 0
OneEntry bytes bytes' =
    (account : ℕ) × (e : Entry) × (e' : Entry) × (rest : List ℕ) × (rest' : List ℕ) × (bytes ≡ bytes_of_entry account e ++ rest) × (bytes' ≡ bytes_of_entry account e' ++ rest')
    × OtherSecond (bytes_of_entry account e) (bytes_of_entry account e') × SameEntries rest rest'

entries-are : {bytes bytes' : List ℕ} → SameEntries bytes bytes' → ((bytes ≡ []) × (bytes' ≡ [])) ⊎ OneEntry bytes bytes'
entries-are nothing_written = inl (refl, refl)
entries-are (entry account e e' {rest = rest} {rest' = rest'} other more) = inr (account, e, e', rest, rest', refl, refl, other, more)

are-entries : (bytes bytes' : List ℕ) → ((bytes ≡ []) × (bytes' ≡ [])) ⊎ OneEntry bytes bytes' → SameEntries bytes bytes'
are-entries bytes bytes' (inl p) = rw (p.0, p.1) nothing_written
are-entries bytes bytes' (inr p) = rw (p.5, p.6) (entry p.0 p.1 p.2 p.7 p.8)

entries-mean : (bytes bytes' : List ℕ) → EntriesMean bytes bytes'
entries-mean bytes bytes' = (entries-are, are-entries bytes bytes')

-- ---- runs

messages-are : {bytes bytes' : List ℕ} → SameMessages bytes bytes'
    → SameMessage bytes bytes' × ((whole : ℕ) → Whole bytes whole → whole ≤ length bytes → SameMessages (drop whole bytes) (drop whole bytes'))
messages-are (same_messages m o) = (m, o)

runs-mean : (bytes bytes' : List ℕ) (x y : Run) → RunsMean bytes bytes' x y
runs-mean bytes bytes' x y =
    record {
      messages = (messages-are, λ m. same_messages m.0 m.1);
      runs = (λ s. (s.counts, s.entries, s.rest), λ s. record { counts = s.0; entries = s.1; rest = s.2 });
    }

pub meaning-holds : MeaningHolds
meaning-holds =
    record {
      second = second-means;
      sequences = sequences-mean;
      entries = entries-mean;
      runs = runs-mean;
      filed =
          λ R f a a' r r' x y.
          record {
            account = (λ s. (s.in_order, s.in_order', s.lists), λ s. record { in_order = s.0; in_order' = s.1; lists = s.2 });
            register = (λ s. (s.sixteen, s.sixteen', s.accounts), λ s. record { sixteen = s.0; sixteen' = s.1; accounts = s.2 });
            sent = (λ s. (s.answers, s.entries, s.registers), λ s. record { answers = s.0; entries = s.1; registers = s.2 });
          };
      past = λ R inputs i. (λ d. d, λ d. d);
    }
