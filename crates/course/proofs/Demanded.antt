-- From the text to demand 3: line after line, the calls done are the first of those asked for, and the flash is as they left it. So what is
-- claimed of every list of calls from some memory on is so of every text. Assumes nothing.
use Prim.Native.Nat.{ℕ}
use mathlib.Core.Bool.{Bool, true, false, cond}
use mathlib.Core.List.{List, [], ◌∷◌, ◌++◌, map, append_assoc, append-nil, map-append}
use mathlib.Core.Path.{◌≡◌, refl, sym, ap, subst, ◌∙◌}
use lib.Dec.{eqb}
use lib.ListN.{length}
use Rattle.refusal.specs.Refusal.{numbered}
use Rattle.lent.specs.Memory.{Memory}
use Rattle.lent.specs.Asked.{outcome}
use Rattle.ledger.specs.Lists.{Asked, Typed, memory_after}
use Rattle.ledger.specs.Claim.{Demand}
use Rattle.ledger.proofs.Demand.{onward, demand3}
use Rattle.ledger.proofs.Reached.{read-onward}
use Rattle.listing.proofs.Claimed.{replay3}
use Rattle.grammar.specs.Grammar.{line_of}
use Rattle.grammar.specs.declared.Line.{Line}
use Rattle.grammar.specs.declared.Line.TheVariants as line
use Rattle.lent.specs.declared.Asking.{Asking}
use Rattle.listing.specs.Calls.{asking}
use Rattle.history.specs.History.{calls_of}
use Rattle.history.specs.Claim.{InTypes}
use Rattle.history.proofs.Range.{line-in}
use Rattle.history.proofs.Kept.{line-typed}
use Rattle.settle.specs.Tallies.{raised}
use Rattle.course.specs.declared.Complaint.TheVariants as complaint
use Rattle.course.specs.declared.Manner.{Manner}
use Rattle.course.specs.Desk.{Desk, made, refused, noted, called, looked_refusal, looked_said, seen, left_out, looked, line_done}
use Rattle.course.specs.Reader.{Reader, starts_with, too_long, newline, parsed, line_ended, byte_kept, byte_read, all_read, text_read, calls_read, text_calls}
use Rattle.course.specs.Demand.{Done, OfTexts, DemandFrom, ReadInto, TextOnward, begun, TextDemand3}

-- ---- one line

module _ (m : Memory) (w : Manner) where
  -- nothing more is done after a run has ended early
  skipped : (asks : List Asking) (d : Desk) (more : List Asking) → d.course.stopped ≡ true → Done m asks d → Done m (asks ++ more) d
  skipped asks d more h k = record {
    done = k.done;
    left = k.left ++ more;
    calls_are = sym (append_assoc (map asking k.done) k.left more) ∙ ap (λ (xs : List Asking). xs ++ more) k.calls_are;
    all_done = λ live. let no : true ≡ false = sym h ∙ live in cc;
    memory_is = k.memory_is;
  }

  -- what leaves the flash as it is
  kept : (asks : List Asking) (d d' : Desk) → d.course.stopped ≡ false → d'.memory ≡ d.memory → Done m asks d → Done m asks d'
  kept asks d d' h same k = record {
    done = k.done;
    left = k.left;
    calls_are = k.calls_are;
    all_done = λ live. k.all_done h;
    memory_is = same ∙ k.memory_is;
  }

  call-done : (asks : List Asking) (d d' : Desk) (a : Asking) → d.course.stopped ≡ false
      → d'.memory ≡ (outcome a.request a.time d.events d.memory).memory → Done m asks d → Done m (asks ++ a ∷ []) d'
  unfolding memory_after
  call-done asks d d' a h after k =
      let q : Asked = record { request = a.request; time = a.time; lent = d.events } in
      let none = k.all_done h in
      record {
        done = k.done ++ q ∷ [];
        left = [];
        calls_are = rw (map-append, append-nil, ← k.calls_are, none, append-nil);
        all_done = λ live. refl;
        memory_is = after ∙ rw k.memory_is (sym (replay3.memory_pieces k.done (q ∷ []) m));
      }

  -- one of two desks by a test
  either : (asks : List Asking) (b : Bool) (x y : Desk) → Done m asks x → Done m asks y → Done m asks (cond b x y)
  either asks true x y p q = p
  either asks false x y p q = q

  -- a desk that goes on unless the run has ended early
  on : (asks more : List Asking) (d d' : Desk) → (d.course.stopped ≡ false → Done m (asks ++ more) d') → Done m asks d
      → Done m (asks ++ more) (cond d.course.stopped d d')
  on asks more d d' f k = by d.course.stopped refl
    where
      by : (b : Bool) → d.course.stopped ≡ b → Done m (asks ++ more) (cond b d d')
      by true h = skipped asks d more h k
      by false h = f h

  line-done : (n : ℕ) (l : Line) (asks : List Asking) (d : Desk) → Done m asks d → Done m (asks ++ calls_of l) (line_done w n l d)
  unfolding called
  line-done n line.Nothing asks d k = rw append-nil k
  line-done n (line.Call t q) asks d k =
      let a : Asking = record { request = q; time = t } in
      let o = outcome q t d.events d.memory in
      on asks (a ∷ []) d (noted w n a o d)
      (λ h. either (asks ++ a ∷ []) (eqb o.number 0) (made w n a o d) (refused w n o d) (call-done asks d (made w n a o d) a h refl k) (call-done asks d (refused w n o d) a h refl k)) k
  line-done n (line.Look t l) asks d k =
      let r = looked_refusal l t d.memory in
      let sees = seen (looked_said n l t d.memory) d in
      let out = left_out w (complaint.Unseen n (numbered r)) d in
      on asks [] d (looked w n l t r d) (λ h. rw append-nil (either asks (eqb r 0) sees out (kept asks d sees h refl k) (kept asks d out h refl k))) k
  line-done n (line.Wrong f) asks d k =
      let out = left_out w (complaint.Wrong n f) d in
      on asks [] d out (λ h. rw append-nil (kept asks d out h refl k)) k

  -- ---- a text

  end-done : (asks : List Asking) (r : Reader) → Done m asks r.desk → Done m (asks ++ calls_of (parsed r)) (line_ended w r).desk
  unfolding line_ended
  end-done asks r k = line-done (raised r.lines 1) (parsed r) asks r.desk k

  byte-done : (b : ℕ) (asks : List Asking) (r : Reader) → Done m asks r.desk
      → Done m (asks ++ cond (eqb b newline) (calls_of (parsed r)) []) (byte_read w b r).desk
  unfolding byte_kept
  byte-done b asks r k = by (eqb b newline)
    where
      by : (is : Bool) → Done m (asks ++ cond is (calls_of (parsed r)) []) (cond is (line_ended w r) (byte_kept b r)).desk
      by true = end-done asks r k
      by false = rw append-nil k

  all_done : (bs : List ℕ) (asks : List Asking) (r : Reader) → Done m asks r.desk → Done m (asks ++ calls_read w bs r) (all_read w bs r).desk
  unfolding all_read calls_read
  all_done [] asks r k = rw append-nil k
  all_done (b ∷ bs) asks r k =
      let here = cond (eqb b newline) (calls_of (parsed r)) [] in
      rw (append_assoc asks here) at (all_done bs (asks ++ here) (byte_read w b r) (byte-done b asks r k))

  text-done : (text : List ℕ) (r : Reader) → Done m [] r.desk → Done m (text_calls w text r) (text_read w text r).desk
  text-done text r k = by (eqb (length (all_read w text r).line) 0)
    where
      read : Done m (calls_read w text r) (all_read w text r).desk
      read = all_done text [] r k

      by : (b : Bool) → Done m (calls_read w text r ++ cond b [] (calls_of (parsed (all_read w text r)))) (cond b (all_read w text r) (line_ended w (all_read w text r))).desk
      by true = rw append-nil read
      by false = end-done (calls_read w text r) (all_read w text r) read

-- ---- what is parsed is in its types' ranges

parsed-typed : (r : Reader) (rest : List Asking) → InTypes rest → InTypes (calls_of (parsed r) ++ rest)
parsed-typed r rest k = by r.long
  where
    by : (b : Bool) → InTypes (calls_of (cond b (line.Wrong too_long) (line_of r.before r.line)) ++ rest)
    by true = k
    by false = line-typed rest (line-in r.before r.line) k

calls-typed : (w : Manner) (bs : List ℕ) (r : Reader) (rest : List Asking) → InTypes rest → InTypes (calls_read w bs r ++ rest)
unfolding calls_read
calls-typed w [] r rest k = k
calls-typed w (b ∷ bs) r rest k =
    rw append_assoc (by (eqb b newline) (calls_read w bs (byte_read w b r) ++ rest) (calls-typed w bs (byte_read w b r) rest k))
  where
    by : (is : Bool) (later : List Asking) → InTypes later → InTypes (cond is (calls_of (parsed r)) [] ++ later)
    by true later h = parsed-typed r later h
    by false later h = h

text-typed : (w : Manner) (text : List ℕ) (r : Reader) → InTypes (text_calls w text r)
text-typed w text r = calls-typed w text r _ (by (eqb (length (all_read w text r).line) 0))
  where
    by : (b : Bool) → InTypes (cond b [] (calls_of (parsed (all_read w text r))))
    by true = tt
    by false = rw append-nil at (parsed-typed (all_read w text r) [] tt)

first-typed : (qs : List Asked) (left : List Asking) → InTypes (map asking qs ++ left) → Typed qs
first-typed [] left h = tt
first-typed (q ∷ qs) left h = (h.0, h.1, first-typed qs left h.2)

-- ---- the claim

-- what is so of every list of calls from a desk's memory on is so of every text that is run there
of-texts : (claim : List Asked → Type 0) (d : Desk) → ((qs : List Asked) → Typed qs → claim qs) → OfTexts claim d
unfolding memory_after
of-texts claim d h w text =
    let r = starts_with d in
    let run = text-done d.memory w text r (record { done = []; left = []; calls_are = refl; all_done = λ live. refl; memory_is = refl }) in
    let typed : Typed run.done = first-typed run.done run.left (rw run.calls_are (text-typed w text r)) in
    record { run = run; typed = typed; claimed = h run.done typed }

read-demand : (m : Memory) → ReadInto m → (qs : List Asked) → Typed qs → DemandFrom m qs
read-demand m r qs t =
    let f = read-onward r.bytes r.before r.time r.are_bytes r.accepted in
    subst (λ (x : Memory). DemandFrom x qs) (sym r.memory_is) (f.booked qs t, λ n. f.shown n qs t)

pub text-onward : TextOnward
text-onward = record {
  good = λ d g. of-texts (DemandFrom d.memory) d (λ qs t. (onward.booked d.memory g qs t, λ n. onward.shown d.memory g n qs t));
  restored = λ d r. of-texts (DemandFrom d.memory) d (read-demand d.memory r);
}

pub text-demand : TextDemand3
text-demand = record {
  of_every_text = λ firmware charges long small store events t.
      of-texts (Demand firmware charges) (begun firmware charges events t) (demand3.of_every_list firmware charges long small store);
}
