-- The claim about the lines of a history. Line after line is one run of stores of all their calls' numbers, and a number of a call in
-- range is read back as the call, so the replay reads what the lines ask for. Assumes nothing.
use Prim.Native.Nat.{ℕ, zero, suc, ◌+◌, ◌-◌, ◌*◌, ◌/◌, ◌≤◌}
use mathlib.Core.Bool.{Bool, true, false, cond}
use mathlib.Core.List.{List, [], ◌∷◌, ◌++◌, map, append_assoc}
use mathlib.Core.Path.{◌≡◌, refl, ap, sym, ◌∙◌}
use native.Mathlib.Nat.{add-zero}
use native.Mathlib.Omega.{arith}
use borrow.Author.Tests.{ltb-false}
use lib.Dec.{ltb}
use lib.ListN.{length, take, drop, length-append, length-take}
use lib.Seq.{sets, sets-eq, length-sets, get_or-append-add, take_at}
use Rattle.lists.specs.Lists.{at}
use Rattle.lists.proofs.Stores.{sets-append}
use Rattle.lent.specs.Memory.{Memory}
use Rattle.lent.specs.Asked.{Outcome}
use Rattle.ledger.specs.Lists.{asked}
use Rattle.std.specs.Prelude.{Option}
use Rattle.time.specs.declared.Time.{Time}
use Rattle.grammar.specs.declared.Line.{Line}
use Rattle.grammar.specs.Grammar.{line_of}
use Rattle.lent.specs.declared.Asking.{Asking}
use Rattle.listing.specs.Calls.{word_of, call_at, asking}
use Rattle.listing.specs.Replaying.{stops, idle, asks_after, end_in, asks}
use Rattle.listing.proofs.Numbers.{word_back}
use Rattle.history.specs.History.{calls_of, time_after, calls_in, numbers_of, Waiting, taken, taken_all}
use Rattle.history.specs.Claim.{InTypes, read_from, Histories}
use Rattle.history.proofs.Range.{LineIn, nothing, call, look, wrong, line-in}

-- ---- numbers of calls

numbers-append : (xs ys : List Asking) → numbers_of (xs ++ ys) ≡ numbers_of xs ++ numbers_of ys
numbers-append [] ys = refl
numbers-append (x ∷ xs) ys = rw (numbers-append xs ys)

numbers-long : (xs : List Asking) → length (numbers_of xs) ≡ 3 * length xs
numbers-long [] = refl
numbers-long (x ∷ xs) = omega (arith, numbers-long xs)

-- ---- line after line

taken-count : (lines : List (List ℕ)) (s : Waiting) → (taken_all lines s).count ≡ s.count + length (calls_in s.before lines)
unfolding taken_all calls_in
taken-count [] s = omega arith
taken-count (line ∷ lines) s =
    taken-count lines (taken line s)
    ∙ rw (length-append (calls_of (line_of s.before line)) (calls_in (time_after s.before line) lines)) (omega arith)

taken-calls : (lines : List (List ℕ)) (s : Waiting) → (taken_all lines s).calls ≡ sets s.calls (3 * s.count) (numbers_of (calls_in s.before lines))
unfolding taken_all calls_in
taken-calls [] s = refl
taken-calls (line ∷ lines) s =
    let l = line_of s.before line in
    let n : 3 * (s.count + length (calls_of l)) ≡ 3 * s.count + length (numbers_of (calls_of l)) = omega (arith, numbers-long (calls_of l)) in
    taken-calls lines (taken line s) ∙ rw (n, numbers-append, sets-append)

-- ---- what the replay reads

pub line-typed : {b : Option Time} {l : Line} (rest : List Asking) → LineIn b l → InTypes rest → InTypes (calls_of l ++ rest)
line-typed rest nothing k = k
line-typed rest (call h fits) k = (h, fits, k)
line-typed rest look k = k
line-typed rest wrong k = k

calls-typed : (b : Option Time) (lines : List (List ℕ)) → InTypes (calls_in b lines)
unfolding calls_in
calls-typed b [] = tt
calls-typed b (line ∷ lines) = line-typed _ (line-in b line) (calls-typed (time_after b line) lines)

-- calls in range, whose numbers stand behind those of i calls
read_back : (xs : List Asking) (before after calls : List ℕ) (i : ℕ) → InTypes xs → length before ≡ 3 * i → calls ≡ before ++ (numbers_of xs ++ after)
    → read_from (length xs) i calls ≡ xs
unfolding read_from
read_back [] before after calls i h n e = refl
read_back (x ∷ xs) before after calls i h n e =
    let first : at calls (3 * i) ≡ word_of x.request = rw add-zero at (place 0) in
    let rest : read_from (length xs) (suc i) calls ≡ xs =
    read_back xs (before ++ numbers) after calls (suc i) h.2 (rw length-append (omega arith))
    (e ∙ sym (append_assoc before numbers (numbers_of xs ++ after))) in
    rw (first, place 1, place 2, word_back x.request h.0, rest)
  where
    numbers : List ℕ
    numbers = word_of x.request ∷ x.time.0 ∷ x.time.1 ∷ []

    place : (k : ℕ) → at calls (3 * i + k) ≡ at (numbers_of (x ∷ xs) ++ after) k
    place k = rw (e, ← n) (get_or-append-add before (numbers_of (x ∷ xs) ++ after) k 0)

-- ---- what the replay runs

module _ (calls : List ℕ) where
  ran : (n i : ℕ) (o : Outcome) → map asking (asks_after o n i calls) ≡ take (length (asks_after o n i calls)) (read_from n i calls)
  unfolding asks_after read_from
  ran zero i o = refl
  ran (suc n) i o =
      let q = call_at calls i o.events in
      let p = asked q o.memory in
      by (stops q.request p.number p.count) p (ran n (suc i) p)
    where
      by : (t : Bool) (p : Outcome) → map asking (asks_after p n (suc i) calls) ≡ take (length (asks_after p n (suc i) calls)) (read_from n (suc i) calls)
          → map asking (call_at calls i o.events ∷ cond t [] (asks_after p n (suc i) calls))
          ≡ take (suc (length (cond t [] (asks_after p n (suc i) calls)))) (asking (call_at calls i []) ∷ read_from n (suc i) calls)
      by true p h = refl
      by false p h = rw h

  read-later : (n i k : ℕ) → drop k (read_from n i calls) ≡ read_from (n - k) (i + k) calls
  unfolding read_from
  read-later n i zero = let e : n - 0 ≡ n = omega arith in rw (add-zero, e)
  read-later zero i (suc k) = let e : 0 - suc k ≡ 0 = omega arith in rw e
  read-later (suc n) i (suc k) = let e : i + suc k ≡ suc i + k = omega arith in let d : suc n - suc k ≡ n - k = omega arith in rw (e, d) (read-later n (suc i) k)

pub end_is : (to words : ℕ) → 3 * to ≤ words → end_in to words ≡ to
end_is to words h = by (ltb to (words / 3)) refl
  where
    by : (t : Bool) → ltb to (words / 3) ≡ t → cond t to (words / 3) ≡ to
    by true e = refl
    by false e = omega (arith, ltb-false to (words / 3) e)

-- ---- the claim

module _ (lines : List (List ℕ)) (s : Waiting) (room : 3 * (s.count + length (calls_in s.before lines)) ≤ length s.calls) where
  abbrev asked-for : List Asking
  asked-for = calls_in s.before lines

  abbrev left : Waiting
  left = taken_all lines s

  abbrev waited : List ℕ
  waited = take (3 * s.count) s.calls

  abbrev beyond : List ℕ
  beyond = drop (3 * s.count + length (numbers_of asked-for)) s.calls

  stored : left.calls ≡ waited ++ numbers_of asked-for ++ beyond
  stored = taken-calls lines s ∙ sets-eq (numbers_of asked-for) s.calls (3 * s.count) (omega (arith, numbers-long asked-for))

  waited-long : length waited ≡ 3 * s.count
  waited-long = simp length-take (omega arith)

  first_numbers : take (3 * left.count) left.calls ≡ waited ++ numbers_of asked-for
  first_numbers =
      let n : length (waited ++ numbers_of asked-for) ≡ 3 * left.count =
      rw length-append (omega (arith, waited-long, numbers-long asked-for, taken-count lines s)) in
      rw stored (take_at (waited ++ numbers_of asked-for) beyond (3 * left.count) n)

  read : read_from (length asked-for) s.count left.calls ≡ asked-for
  read =
      read_back asked-for waited beyond left.calls s.count (calls-typed s.before lines) waited-long
      (stored ∙ append_assoc waited (numbers_of asked-for) beyond)

  run : (k : ℕ) (lent : List ℕ) (m : Memory) → map asking (asks (s.count + k) left.count left.calls lent m)
      ≡ take (length (asks (s.count + k) left.count left.calls lent m)) (drop k asked-for)
  run k lent m =
      let long : length left.calls ≡ length s.calls = ap length (taken-calls lines s) ∙ simp length-sets in
      let end = end_is left.count (length left.calls) (omega (arith, taken-count lines s)) in
      let n : left.count - (s.count + k) ≡ length asked-for - k = omega (arith, taken-count lines s) in
      let later : read_from (length asked-for - k) (s.count + k) left.calls ≡ drop k asked-for = sym (read-later left.calls _ _ k) ∙ ap (drop k) read in
      rw (end, n) (rw later at (ran left.calls (length asked-for - k) (s.count + k) (idle lent m)))

pub histories : Histories
histories =
    record {
      typed = calls-typed;
      of_every_text = λ lines s room. record {
        count_is = taken-count lines s;
        calls_are = taken-calls lines s;
        first_numbers = first_numbers lines s room;
        read = read lines s room;
        run = run lines s room;
      };
    }
