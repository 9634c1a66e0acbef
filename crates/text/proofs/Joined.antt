-- Texts that are put one after the other are one text that is put: nothing, a byte, and two texts side by side. What is cut off from
-- the first lies past the slice's end, so the second changes nothing there. Assumes nothing.
use mathlib.Core.Path.{◌≡◌, refl, sym, ap, ◌∙◌}
use mathlib.Core.List.{List, [], ◌∷◌, ◌++◌, append_assoc}
use Prim.Native.Nat.{ℕ, suc, min, ◌+◌, ◌-◌, ◌≤◌, ◌<◌}
use native.Mathlib.Nat.{add-zero, min_comm, min-eq_left}
use native.Mathlib.Omega.{arith}
use native.Mathlib.Decide.{dec_le}
use lib.ListN.{length, take, set, length-append, length-take, length-set}
use lib.Seq.{sets, length-sets, take-nil, take_all, drop-drop}
use borrow.Rule.Slice.PartMut.{put_mid}
use Rattle.std.proofs.lemmas.List.{take_min}
use Rattle.std.proofs.lemmas.List.Edits.{sets-eq}
use Rattle.lists.proofs.Stores.{sets-append, sets-out}
use Rattle.text.specs.declared.Text.{Text}
use Rattle.text.specs.Puts.{fitting, Ends, Puts}
use Rattle.text.specs.Says.{Says, SaysSome}

-- ---- runs of stores

-- what does not fit is not stored either
sets-fitting : (l : List ℕ) (i : ℕ) (vs : List ℕ) → sets l i (fitting l i vs) ≡ sets l i vs
sets-fitting l i [] = rw (take-nil {A = ℕ} (length l - i))
sets-fitting l i (v ∷ vs) = by (sets-fitting (set l i v) (suc i) vs) (dec_le (length l) i)
  where
    by : sets (set l i v) (suc i) (fitting (set l i v) (suc i) vs) ≡ sets (set l i v) (suc i) vs → Dec (length l ≤ i)
        → sets l i (fitting l i (v ∷ vs)) ≡ sets l i (v ∷ vs)
    by rest (yes h) = sets-out l i (fitting l i (v ∷ vs)) h ∙ sym (sets-out l i (v ∷ vs) h)
    by rest (no h) =
        let e : length l - i ≡ suc (length (set l i v) - suc i) = omega (arith, length-set l i v) in
        rw e rest

-- ---- where a text ends

-- A text that fits ends at its length further; one that does not, at the slice's end, or where it began past it.
end_fits : (out text : List ℕ) (at : ℕ) → length text ≤ length out - at → at + length (fitting out at text) ≡ at + length text
end_fits out text at h = rw (take_all (length out - at) text h)

end-cut : (out text : List ℕ) (at : ℕ) → length out - at ≤ length text → at + length (fitting out at text) ≡ at + (length out - at)
end-cut out text at h = rw (length-take, min-eq_left h)

-- ---- putting

ends_same : (at : ℕ) (out : List ℕ) → Ends at out at
ends_same at out = record { onward = omega arith; within = omega arith }

pub puts_none : (at : ℕ) (out : List ℕ) → Puts [] at out out at
puts_none at out =
    let none = take-nil {A = ℕ} (length out - at) in
    record { left_is = rw none; end_is = rw (none, add-zero); ends = ends_same at out }

-- past the slice's end all is cut off
pub puts-cut : (text : List ℕ) (at : ℕ) (out : List ℕ) → length out ≤ at → Puts text at out out at
puts-cut text at out h =
    let none : length out - at ≡ 0 = omega arith in
    record { left_is = rw none; end_is = rw (none, add-zero); ends = ends_same at out }

-- as many bytes are copied as have room
pub puts_copied : (text out ys : List ℕ) (at n k : ℕ) → at < length out → n ≡ min (length text) (length out - at) → k ≡ n → ys ≡ take k text
    → Puts text at out (put_mid at k out ys) (at + n)
puts_copied text out ys at n k room e f g = record {
  left_is = rw (fits, g, f) (sym (sets-eq (take n text) out at (omega (arith, long)) ∙ rw (long, ← drop-drop n at out, append_assoc)));
  end_is = rw (fits, long);
  ends = record { onward = omega arith; within = omega arith };
}
  where
    fits : fitting out at text ≡ take n text
    fits = rw (e, min_comm (length text) (length out - at)) (sym (take_min (length out - at) text))

    long : length (take n text) ≡ n
    long = rw length-take (omega arith)

pub puts-append : (xs ys : List ℕ) (at mid end : ℕ) (out half left : List ℕ)
    → Puts xs at out half mid → Puts ys mid half left end → Puts (xs ++ ys) at out left end
puts-append xs ys at mid end out half left p q = record {
  left_is = q.left_is ∙ sets-fitting half mid ys ∙ stores (dec_le (length xs) (length out - at)) ∙ sym (sets-fitting out at (xs ++ ys));
  end_is = q.end_is ∙ end_of (dec_le (length xs) (length out - at));
  ends = record {
    onward = let a = p.ends.onward in let b = q.ends.onward in omega arith;
    within = let a = p.ends.within in let b = q.ends.within in omega (arith, long);
  };
}
  where
    long : length half ≡ length out
    long = ap length p.left_is ∙ length-sets out at (fitting out at xs)

    first : half ≡ sets out at xs
    first = p.left_is ∙ sets-fitting out at xs

    past : length out - at < length xs → length half ≤ mid
    past h = omega (arith, long, p.end_is, end-cut out xs at (omega arith))

    stores : Dec (length xs ≤ length out - at) → sets half mid ys ≡ sets out at (xs ++ ys)
    stores (yes h) = rw (p.end_is, end_fits out xs at h, first) (sym (sets-append out at xs ys))
    stores (no h) =
        let m = past (omega arith) in
        sets-out half mid ys m ∙ sym (sets-append out at xs ys ∙ rw (← first) (sets-out half (at + length xs) ys (omega (arith, long))))

    end_of : Dec (length xs ≤ length out - at) → mid + length (fitting half mid ys) ≡ at + length (fitting out at (xs ++ ys))
    end_of (yes h) = both (dec_le (length ys) (length half - mid))
      where
        at_mid : mid ≡ at + length xs
        at_mid = p.end_is ∙ end_fits out xs at h

        both : Dec (length ys ≤ length half - mid) → mid + length (fitting half mid ys) ≡ at + length (fitting out at (xs ++ ys))
        both (yes i) = omega (arith, long, at_mid, length-append xs ys, end_fits half ys mid i, end_fits out (xs ++ ys) at (omega (arith, long, at_mid, length-append xs ys)))
        both (no i) = omega (arith, long, at_mid, length-append xs ys, end-cut half ys mid (omega arith), end-cut out (xs ++ ys) at (omega (arith, long, at_mid, length-append xs ys)))
    end_of (no h) = omega (arith, long, p.end_is, end-cut out xs at (omega arith), end-cut half ys mid (omega (arith, past (omega arith))), end-cut out (xs ++ ys) at (omega (arith, length-append xs ys)))

-- ---- by a cursor

pub says_none : (t : Text) → Says [] t t
says_none t = record { same = refl; puts = puts_none t.at t.out.now }

pub says-cut : (text : List ℕ) (t : Text) → length t.out.now ≤ t.at → Says text t t
says-cut text t h = record { same = refl; puts = puts-cut text t.at t.out.now h }

pub says_append : (xs ys : List ℕ) (a b c : Text) → Says xs a b → Says ys b c → Says (xs ++ ys) a c
says_append xs ys a b c p q = record {
  same = q.same ∙ p.same;
  puts = puts-append xs ys a.at b.at c.at a.out.now b.out.now c.out.now p.puts q.puts;
}

-- ---- some text

pub says_some : (text : List ℕ) (a b : Text) → Says text a b → SaysSome a b
says_some text a b p = record {
  same = p.same;
  long = ap length p.puts.left_is ∙ length-sets a.out.now a.at (fitting a.out.now a.at text);
  ends = p.puts.ends;
}

pub says_more : (a b c : Text) → SaysSome a b → SaysSome b c → SaysSome a c
says_more a b c p q = record {
  same = q.same ∙ p.same;
  long = q.long ∙ p.long;
  ends = record {
    onward = let a = p.ends.onward in let b = q.ends.onward in omega arith;
    within = let a = p.ends.within in let b = q.ends.within in omega (arith, p.long);
  };
}

-- whatever is put is some text, and so is one after the other
pub ruleset some_text = (says_some, says_more)
