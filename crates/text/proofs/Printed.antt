-- Lines as they are printed: the pieces of a line put in one row; digits, names and spaces are not below a space.
-- Assumes nothing.
use Prim.Native.Nat.{ℕ, zero, suc, ◌+◌, ◌-◌, ◌/◌, ◌%◌}
use native.Mathlib.Nat.{le_trans}
use native.Mathlib.Omega.{arith}
use mathlib.Core.Path.{◌≡◌, refl, ap, ap₂, ◌∙◌}
use mathlib.Core.Bool.{Bool, true, false, cond}
use mathlib.Core.List.{List, [], ◌∷◌, ◌++◌, append-nil, append_assoc}
use borrow.Author.Tests.{le-leb, le-ltb, ltb-false}
use lib.Dec.{eqb, leb, ltb}
use lib.ListN.{length, drop, length-append}
use lib.Seq.{take_at, drop_at}
use Rattle.rule.specs.Lists.{every}
use Rattle.events.specs.declared.Event.{Event}
use Rattle.events.specs.declared.Event.TheVariants.{Open, Withdraw, Deposit, Close}
use Rattle.events.specs.Kinds.{amount_of}
use Rattle.filing.specs.declared.Verdict.{Verdict}
use Rattle.filing.specs.declared.Verdict.TheVariants.{Accepted, Rejected, Held}
use Rattle.filing.specs.declared.Told.{Told}
use Rattle.filing.specs.declared.Told.TheVariants.{Voted, Noted, Applied, Dropped}
use Rattle.refusal.specs.declared.Refusal.TheVariants.{NoRoom}
use Rattle.layout.specs.Writes.{wrote_over}
use Rattle.layout.proofs.Writes.{wrote-stays, cond-stays}
use Rattle.text.specs.Text.{decimal_in, decimal, vote_name, name_of, event_name, heading_fields, reason_fields, then_fields, spaced, line_as, line_of, lines_of, longest_line, write_line_of}
use Rattle.text.specs.Quoted.{quoted}
use Rattle.text.specs.Lines.{field, event_text, heading_text, WordsPlain, LinesPlain, OlderPlain, LinesTogether, Ended, LinesEnd, LinesFit, LineReadBack, LineRefuses, LineStays}
use Rattle.entry.proofs.Booleans.{both}
use Rattle.entry.proofs.Refusals.{refuses}
use Rattle.text.proofs.Lines.{then-length, line-length}

pub words-plain : (t a s : ℕ) → WordsPlain t a s
unfolding quoted decimal_in
words-plain t a s = record { opens = refl; withdraws = refl; deposits = refl; closes = refl; heading = refl; number = refl }

event-text : (e : Event) (rest : List ℕ) → 32 ∷ (event_name e ++ (32 ∷ (decimal (amount_of e) ++ rest))) ≡ event_text e ++ rest
unfolding quoted
event-text (Open a) rest = refl
event-text (Withdraw a) rest = refl
event-text (Deposit a) rest = refl
event-text Close rest = refl

heading-text : (t a s : ℕ) → spaced (decimal t ∷ decimal a ∷ decimal s ∷ []) ≡ heading_text t a s
unfolding quoted
heading-text t a s = rw (append-nil (decimal s))

-- an event and the newline, or a number before it
event-line : (e : Event) → spaced (event_name e ∷ decimal (amount_of e) ∷ []) ++ (10 ∷ []) ≡ event_text e ++ quoted "\n"
unfolding quoted
event-line e = ap (λ (l : List ℕ). l ++ (10 ∷ [])) (event-text e [] ∙ append-nil (event_text e))

number-line : (e : Event) (n : ℕ) → spaced (event_name e ∷ decimal (amount_of e) ∷ decimal n ∷ []) ++ (10 ∷ []) ≡ event_text e ++ (field n ++ quoted "\n")
unfolding quoted
number-line e n =
    ap (λ (l : List ℕ). l ++ (10 ∷ [])) (event-text e (32 ∷ (decimal n ++ [])) ∙ ap (λ (l : List ℕ). event_text e ++ (32 ∷ l)) (append-nil (decimal n)))
    ∙ append_assoc (event_text e) (field n) (10 ∷ [])

reason-line : (e : Event) (n k : ℕ)
    → spaced (event_name e ∷ decimal (amount_of e) ∷ decimal n ∷ decimal k ∷ []) ++ (10 ∷ []) ≡ event_text e ++ (field n ++ (field k ++ quoted "\n"))
unfolding quoted
reason-line e n k =
    ap (λ (l : List ℕ). l ++ (10 ∷ []))
    (event-text e (32 ∷ (decimal n ++ (32 ∷ (decimal k ++ [])))) ∙ ap (λ (l : List ℕ). event_text e ++ (32 ∷ (decimal n ++ (32 ∷ l)))) (append-nil (decimal k)))
    ∙ append_assoc (event_text e) (field n ++ field k) (10 ∷ []) ∙ ap (λ (l : List ℕ). event_text e ++ l) (append_assoc (field n) (field k) (10 ∷ []))

-- a name, the heading, and what follows it
whole-line : (t a s : ℕ) (name x y : List ℕ) → x ≡ y → name ++ (spaced (decimal t ∷ decimal a ∷ decimal s ∷ []) ++ x) ≡ name ++ (heading_text t a s ++ y)
whole-line t a s name x y p = ap₂ (λ (h l : List ℕ). name ++ (h ++ l)) (heading-text t a s) p

pub lines-plain : LinesPlain
unfolding quoted line_as
lines-plain t a s e n k =
    let number = number-line e n in
    ap₂ ◌∷◌ (whole-line t a s (quoted "accepted") _ _ number)
    (ap₂ ◌∷◌ (whole-line t a s (quoted "rejected") _ _ (reason-line e n k))
    (ap₂ ◌∷◌ (whole-line t a s (quoted "held") _ _ number)
    (ap₂ ◌∷◌ (whole-line t a s (quoted "noted") _ _ refl)
    (ap₂ ◌∷◌ (whole-line t a s (quoted "applied") _ _ number) (ap₂ ◌∷◌ (whole-line t a s (quoted "dropped") _ _ (event-line e)) refl)))))

pub older-plain : OlderPlain
unfolding quoted line_as
older-plain t a s e n k =
    let number = number-line e n in
    ap₂ ◌∷◌ (whole-line t a s (quoted "accepted") _ _ number)
    (ap₂ ◌∷◌ (whole-line t a s (quoted "rejected") _ _ number)
    (ap₂ ◌∷◌ (whole-line t a s (quoted "held") _ _ number)
    (ap₂ ◌∷◌ (whole-line t a s (quoted "noted") _ _ refl)
    (ap₂ ◌∷◌ (whole-line t a s (quoted "applied") _ _ number) (ap₂ ◌∷◌ (whole-line t a s (quoted "dropped") _ _ (event-line e)) refl)))))

pub lines-together : LinesTogether
unfolding lines_of
lines-together account [] = refl
lines-together account (e ∷ es) = ap (λ (l : List ℕ). line_of account e ++ l) (lines-together account es)

-- ---- nothing below a space but the newline at the end

every_append : (test : ℕ → Bool) (xs ys : List ℕ) → every test xs ≡ true → every test ys ≡ true → every test (xs ++ ys) ≡ true
every_append test [] ys p q = q
every_append test (x ∷ xs) ys p q = let s = both (test x) (every test xs) p in rw s.0 (every_append test xs ys s.1 q)

digits-printed : (places number : ℕ) → every (leb 32) (decimal_in places number) ≡ true
unfolding decimal_in
digits-printed zero number = refl
digits-printed (suc places) number = go (ltb number 10) (digits-printed places (number / 10))
  where
    digit : (d : ℕ) → every (leb 32) ((48 + d) ∷ []) ≡ true
    digit d = rw (le-leb 32 (48 + d) (omega arith))

    go : (b : Bool) → every (leb 32) (decimal_in places (number / 10)) ≡ true
        → every (leb 32) (cond b ((48 + number) ∷ []) (decimal_in places (number / 10) ++ ((48 + number % 10) ∷ []))) ≡ true
    go true h = digit number
    go false h = every_append (leb 32) (decimal_in places (number / 10)) ((48 + number % 10) ∷ []) h (digit (number % 10))

-- fields that are printed, and the spaces before them
Printed : List (List ℕ) → Type 0
Printed [] = Unit {0}
Printed (x ∷ xs) = (every (leb 32) x ≡ true) × Printed xs

spaced-printed : (fields : List (List ℕ)) → Printed fields → every (leb 32) (spaced fields) ≡ true
unfolding Printed
spaced-printed [] p = refl
spaced-printed (x ∷ xs) p = every_append (leb 32) x (spaced xs) p.0 (spaced-printed xs p.1)

event-printed : (e : Event) (fields : List (List ℕ)) → Printed fields → Printed (event_name e ∷ decimal (amount_of e) ∷ fields)
unfolding Printed
event-printed (Open a) fields p = (refl, (digits-printed 10 a, p))
event-printed (Withdraw a) fields p = (refl, (digits-printed 10 a, p))
event-printed (Deposit a) fields p = (refl, (digits-printed 10 a, p))
event-printed Close fields p = (refl, (digits-printed 10 0, p))

reason-printed : (older : Bool) (v : Verdict) (reason : ℕ) → Printed (reason_fields older v reason)
unfolding Printed
reason-printed older Accepted reason = tt
reason-printed true Rejected reason = tt
reason-printed false Rejected reason = (digits-printed 10 reason, tt)
reason-printed older Held reason = tt

then-printed : (older : Bool) (told : Told) → Printed (then_fields older told)
unfolding Printed
then-printed older (Voted e weighing) =
    event-printed e (decimal weighing.weighed ∷ reason_fields older weighing.verdict weighing.reason)
    (digits-printed 10 weighing.weighed, reason-printed older weighing.verdict weighing.reason)
then-printed older Noted = tt
then-printed older (Applied e n) = event-printed e (decimal n ∷ []) (digits-printed 10 n, tt)
then-printed older (Dropped e) = event-printed e [] tt

vote-printed : (verdict : Verdict) → every (leb 32) (vote_name verdict) ≡ true
vote-printed Accepted = refl
vote-printed Rejected = refl
vote-printed Held = refl

name-printed : (told : Told) → every (leb 32) (name_of told) ≡ true
name-printed (Voted e weighing) = vote-printed weighing.verdict
name-printed Noted = refl
name-printed (Applied e n) = refl
name-printed (Dropped e) = refl

-- text that ends in a newline
ended : (text : List ℕ) → every (leb 32) text ≡ true → Ended (text ++ (10 ∷ []))
ended text h =
    let n : length (text ++ (10 ∷ [])) - 1 ≡ length text = rw length-append (omega arith) in
    record {
      last = rw n (drop_at text (10 ∷ []) (length text) refl);
      before = rw (n, take_at text (10 ∷ []) (length text) refl) h;
    }

pub lines_end : LinesEnd
unfolding line_as Printed
lines_end older account e =
    let name = name_of e.told in
    let fields = heading_fields e.transaction account e.filed in
    let first = spaced fields in
    let then = spaced (then_fields older e.told) in
    let p : every (leb 32) first ≡ true =
    spaced-printed fields (digits-printed 10 e.transaction, (digits-printed 10 account, (digits-printed 10 e.filed.second, tt))) in
    let q = every_append (leb 32) first then p (spaced-printed (then_fields older e.told) (then-printed older e.told)) in
    let l : name ++ (first ++ (then ++ (10 ∷ []))) ≡ (name ++ (first ++ then)) ++ (10 ∷ []) = simp append_assoc in
    rw l (ended (name ++ (first ++ then)) (every_append (leb 32) name (first ++ then) (name-printed e.told) q))

pub lines_fit : LinesFit
lines_fit older account e h k = line-length older account e h (then-length older e.told k)

pub line-read-back : LineReadBack
unfolding write_line_of
line-read-back e kind account buffer h =
    let line = line_as (eqb kind 18) account e in
    rw (le-ltb (length buffer) 72 h) (record { answer = refl; text = take_at line (drop (length line) buffer) (length line) refl })

pub line-refuses : LineRefuses
unfolding write_line_of
line-refuses e kind account buffer = refuses (ltb (length buffer) longest_line) (line_as (eqb kind 18) account e) buffer

pub line_stays : LineStays
unfolding write_line_of
line_stays e kind account buffer h k =
    let line = line_as (eqb kind 18) account e in
    cond-stays (ltb (length buffer) longest_line) NoRoom buffer (wrote_over line buffer)
    (λ b. wrote-stays line buffer (le_trans (lines_fit (eqb kind 18) account e h k) (ltb-false (length buffer) longest_line b)))
