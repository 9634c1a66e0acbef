-- The line after it was fed: its slice holds the bytes before the newline behind those that it had, as many as have room.
-- Assumes nothing.
use Prim.Native.Nat.{ℕ, suc, ◌+◌, ◌-◌, ◌≤◌, ◌<◌}
use mathlib.Core.Bool.{true, false, ◌||◌}
use mathlib.Core.List.{List, ◌++◌}
use mathlib.Core.Path.{◌≡◌, refl, sym, ap, ◌∙◌}
use native.Mathlib.Omega.{arith}
use borrow.Author.Tests.{lt-ltb, le-ltb}
use lib.Dec.{eqb, ltb}
use lib.ListN.{length, take, drop, length-append, length-take, length-drop}
use lib.Seq.{sets-eq, take_at, length-take-le}
use Rattle.byte_search.specs.Search.{index_of}
use Rattle.byte_search.proofs.Found.{here, nowhere}
use Rattle.std.specs.Prelude.{Some, None}
use Rattle.std.specs.List.{position}
use Rattle.std.proofs.lemmas.List.{take_all}
use Rattle.text.specs.Puts.{fitting, Puts}
use Rattle.course.specs.Bounds.{longest}
use Rattle.course.specs.declared.LineSoFar.{LineSoFar}
use Rattle.course.specs.declared.Manner.{Manner}
use Rattle.course.specs.declared.Place.{Place}
use Rattle.course.specs.Desk.{Desk}
use Rattle.course.specs.Reader.{newline, line_ended, all_read, reader_at}
use Rattle.feeding.specs.Feeding.{between, line_end, fed_to, Feeds}
use Rattle.feeding.proofs.Reading.{up_to, read-line, read-ended}

-- up to where a text ends that was put, a slice is what was before the text and what of it fits
puts_first : {text out left : List ℕ} {at end : ℕ} → Puts text at out left end → at ≤ length out → take end left ≡ take at out ++ fitting out at text
puts_first {text} {out} {left} {at} {end} put h =
    let fits = fitting out at text in
    let most : at + length fits ≤ length out = omega (arith, put.end_is, put.ends.within) in
    let long : length (take at out ++ fits) ≡ end = length-append (take at out) fits ∙ rw (length-take-le at out h) (sym put.end_is) in
    rw (put.left_is, sets-eq fits out at most) (take_at (take at out ++ fits) (drop (at + length fits) out) end long)

-- What was fed, where the line's bytes end at `end` in the piece, and the line so far is q.
module _ (l q : LineSoFar) (at : ℕ) (piece line left : List ℕ) (end : ℕ) (end_is : end ≡ line_end piece at)
    (bound : end ≤ length piece) (some : at < length piece) (whole : length line ≡ longest)
    (long_is : q.long ≡ (l.long || ltb (longest - l.length) (end - at))) (put : Puts (between at end piece) l.length line left q.length) where
  abbrev rest : List ℕ
  rest = drop at piece

  bytes-are : between at end piece ≡ up_to rest
  bytes-are = let e : end - at ≡ index_of newline rest = omega (arith, end_is) in rw e

  bytes-long : length (up_to rest) ≡ end - at
  bytes-long = omega (arith, end_is, length-take (index_of newline rest) rest, length-drop at piece)

  line_kept : (w : Manner) (d : Desk) (p : Place) (next : ℕ)
      → all_read w (up_to rest) (reader_at d (fed_to l at p) line) ≡ reader_at d (fed_to q next p) left
  line_kept w d p next =
      let had : length (take l.length line) + (longest - l.length) ≡ longest = let f = l.fits in rw (length-take-le l.length line (omega arith)) (omega arith) in
      read-line w rest (longest - l.length) (reader_at d (fed_to l at p) line) had
      ∙ rw (bytes-long, puts_first put (let f = l.fits in omega arith), bytes-are, whole, long_is)

  end_kept : (w : Manner) (d : Desk) (p : Place) (next : ℕ)
      → all_read w (between at (line_end piece at) piece) (reader_at d (fed_to l at p) line) ≡ reader_at d (fed_to q next p) left
  end_kept w d p next = let e : line_end piece at - at ≡ index_of newline rest = omega arith in rw e (line_kept w d p next)

  pub feeds-ended : end < length piece → Feeds l at piece line left (record { line = q; at = end + 1; ended = true })
  feeds-ended more = record {
    ended_is = sym (lt-ltb (line_end piece at) (length piece) (omega (arith, end_is)));
    at_is = omega (arith, end_is);
    onward = omega (arith, end_is);
    inside = omega arith;
    kept = λ w d p. end_kept w d p (end + 1);
    reads = λ w d p.
        rw next
        (read-ended w rest (reader_at d (fed_to l at p) line) (omega (arith, end_is, length-drop at piece)) ∙ ap (line_ended w) (line_kept w d p (end + 1)));
  }
    where
      next : end + 1 - at ≡ suc (index_of newline rest)
      next = omega (arith, end_is)

  pub feeds-more : length piece ≤ end → Feeds l at piece line left (record { line = q; at = length piece; ended = false })
  feeds-more none = record {
    ended_is = sym (le-ltb (line_end piece at) (length piece) (omega (arith, end_is)));
    at_is = refl;
    onward = omega arith;
    inside = omega arith;
    kept = λ w d p. end_kept w d p (length piece);
    reads = λ w d p. rw all (line_kept w d p (length piece));
  }
    where
      all : length piece - at ≡ index_of newline rest
      all = omega (arith, end_is)

-- What was fed, by where the newline is found among the bytes left.
module _ (l q : LineSoFar) (at : ℕ) (piece line left : List ℕ) (some : at < length piece) (whole : length line ≡ longest) where
  abbrev ahead : List ℕ
  ahead = take (length piece - at) (drop at piece)

  ahead-all : ahead ≡ drop at piece
  ahead-all = take_all (length piece - at) (drop at piece) (omega (arith, length-drop at piece))

  pub ended-at : (k : ℕ) → Some k ≡ position (λ b. eqb b 10) ahead
      → q.long ≡ (l.long || ltb (longest - l.length) (length (take k ahead)))
      → Puts (take k ahead) l.length line left q.length → Feeds l at piece line left (record { line = q; at = at + k + 1; ended = true })
  ended-at k found is put =
      let f = here 10 ahead k found in
      let first : k ≡ index_of newline (drop at piece) = rw ahead-all at f.0 in
      let within : at + k < length piece = omega (arith, f.1, ap length ahead-all, length-drop at piece) in
      let up : at + k - at ≡ k = omega arith in
      let bytes : take k ahead ≡ between at (at + k) piece = rw (up, ahead-all) in
      let long : length (take k ahead) ≡ at + k - at = rw up (length-take-le k ahead (omega (arith, f.1))) in
      let end_is : at + k ≡ line_end piece at = omega arith in
      feeds-ended l q at piece line left (at + k) end_is (omega arith) some whole (rw long at is) (rw bytes at put) within

  pub more-at : None ≡ position (λ b. eqb b 10) ahead
      → q.long ≡ (l.long || ltb (longest - l.length) (length ahead))
      → Puts ahead l.length line left q.length → Feeds l at piece line left (record { line = q; at = length piece; ended = false })
  more-at found is put =
      let none : index_of newline (drop at piece) ≡ length (drop at piece) = rw ahead-all at (nowhere 10 ahead found) in
      let long : length ahead ≡ length piece - at = ap length ahead-all ∙ length-drop at piece in
      let end_is : length piece ≡ line_end piece at = omega (arith, none, length-drop at piece) in
      feeds-more l q at piece line left (length piece) end_is (omega arith) some whole (rw long at is) put (omega arith)
