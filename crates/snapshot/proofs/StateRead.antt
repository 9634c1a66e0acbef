-- The state read: its fields one after the other, each at its place, in the format's order. The numbers are joined as the places have them:
-- runs of bytes with limits, and ends of what has none. Assumes nothing.
use mathlib.Core.Path.{◌≡◌, refl, ap, ◌∙◌}
use mathlib.Core.Bool.{Bool, true, false, cond}
use mathlib.Core.List.{List, [], ◌∷◌}
use Prim.Native.Nat.{ℕ, ◌+◌, ◌-◌, ◌*◌, ◌^◌, ◌≤◌, ◌<◌}
use native.Mathlib.Nat.{add-zero, add_comm, mul_comm}
use native.Mathlib.Omega.{arith}
use lib.Dec.{eqb}
use Rattle.time.specs.Raw.{raw, instant}
use Rattle.time.proofs.Laws.{instant-raw}
use Rattle.control.specs.declared.PendingSense.{PendingSense}
use Rattle.std.specs.Prelude.{Option, Some, None}
use Rattle.lists.specs.Lists.{at}
use Rattle.rows.specs.Rows.{word, row, flag_of}
use Rattle.layout.specs.Layout.{supply_of, mode_of}
use Rattle.rows.proofs.Widths.{word_split, word_small}
use Rattle.borsh.specs.Borsh.{Borsh, int, bool, array, ◌then◌}
use Rattle.snapshot.specs.Snapshot.{State, time, pending_in, option_of, pending, supply, mode, controls, latched, supplies, instants, state, state_of}
use Rattle.snapshot.specs.Asked.{first}
use Rattle.snapshot.specs.Places.{end_number, bytes_number, control_limits, option_limits, state_length, state_number, time_at, pending_at, registers_at, flash_at}
use Rattle.snapshot.proofs.Fixed.{first-assoc, ends, Reads, int-reads, mapped-reads, then-reads, ends-then, bytes-then, byte_reads, enum-reads, bool-reads, option-reads, bytes_read}

-- the state at a place: what is read there is the flash that stands there
pub record StateRead (xs : List ℕ) (base : ℕ) : Type 0 where
  pub value : State
  pub reads : Reads xs base state 0 (state_number xs base) value (state_length xs base)
  pub flash : (index : List ℕ) → state_of value index ≡ flash_at xs base index

-- an instant's low half stands first
pub word-raw : (xs : List ℕ) (p : ℕ) → word 16 xs p ≡ raw (time_at xs p)
unfolding raw
word-raw xs p =
    let l = word 8 xs p in
    let h = word 8 xs (p + 8) in
    word_split 8 8 xs p ∙ add_comm l (2 ^ 64 * h) ∙ ap (λ n. n + l) (mul_comm (2 ^ 64) h)

module _ (xs : List ℕ) (small : (k : ℕ) → at xs k < 256) (base : ℕ) where
  time-reads : (a : ℕ) → Reads xs base time a (end_number xs (base + (a + 16))) (time_at xs (base + a)) (a + 16)
  unfolding time
  time-reads a =
      let p = base + a in
      rw (← (instant-raw (time_at xs p) (word_small 8 xs p small)), ← (word-raw xs p))
      (mapped-reads instant raw (int-reads xs base 16 a (omega arith)))

  sense-read : Reads xs base (int 2 then time) 252 (end_number xs (base + 270)) (word 2 xs (base + 252), time_at xs (base + 254)) 270
  sense-read = ends-then (base + 254) (base + 270) (omega arith) (int-reads xs base 2 252 (omega arith)) (time-reads 254)

  -- verify_pending and sensed
  rest_read : Reads xs base (pending then array 4 (int 1)) 251
      (first (bytes_number option_limits xs (base + 251)) (end_number xs (base + state_length xs base)))
      (pending_at xs base, row 4 1 (base + state_length xs base - 4) xs) (state_length xs base)
  unfolding pending state_length
  rest_read = by (eqb (at xs (base + 251)) 1) (bool-reads xs base 251)
    where
      n : ℕ
      n = bytes_number option_limits xs (base + 251)

      sense : Option PendingSense
      sense = Some (record { address = word 2 xs (base + 252); at = time_at xs (base + 254) })

      by : (b : Bool) → Reads xs base bool 251 n b 252
          → Reads xs base (pending then array 4 (int 1)) 251 (first n (end_number xs (base + cond b 274 256)))
          (cond b sense None, row 4 1 (base + cond b 274 256 - 4) xs) (cond b 274 256)
      by true h =
          let e : base + 274 - 4 ≡ base + 270 = omega arith in
          let i : ℕ = end_number xs (base + 270) in
          let j : ℕ = end_number xs (base + 274) in
          rw (e, ← (ends xs (base + 270) (base + 274) (omega arith)), ← (first-assoc n i j))
          (then-reads (mapped-reads pending_in option_of (option-reads h sense-read)) (λ z. bytes_read xs base 3 270))
      by false h =
          let e : base + 256 - 4 ≡ base + 252 = omega arith in
          rw (e, ← (first-assoc n 0 (end_number xs (base + 256))))
          (then-reads (mapped-reads pending_in option_of (option-reads h sense-read)) (λ z. bytes_read xs base 3 252))

  -- an instant before others
  time-then : {A : Type 0} {f : Borsh A} {v : A} (a : ℕ) → a + 16 ≤ 251 → Reads xs base f (a + 16) (end_number xs (base + 251)) v 251
      → Reads xs base (time then f) a (end_number xs (base + 251)) (time_at xs (base + a), v) 251
  time-then a l h = ends-then (base + (a + 16)) (base + 251) (omega arith) (time-reads a) h

  controls-read : Reads xs base controls 0 (bytes_number control_limits xs base)
      (at xs base, (flag_of (at xs (base + 1)), (at xs (base + 2), (flag_of (at xs (base + 3)), flag_of (at xs (base + 4)))))) 5
  unfolding controls
  controls-read =
      rw (add-zero base) at (bytes-then 255 (1 ∷ 255 ∷ 1 ∷ 1 ∷ []) 0 (byte_reads xs base 0 (small _))
      (bytes-then 1 (255 ∷ 1 ∷ 1 ∷ []) 1 (bool-reads xs base 1)
      (bytes-then 255 (1 ∷ 1 ∷ []) 2 (byte_reads xs base 2 (small _))
      (bytes-then 1 (1 ∷ []) 3 (bool-reads xs base 3) (bool-reads xs base 4)))))

  pub state-read : StateRead xs base
  unfolding state latched supplies instants supply mode state_number state_of flash_at registers_at
  state-read =
      record {
        value = _;
        reads = then-reads controls-read
            (λ z. then-reads
            (ends-then (base + 133) (base + 135) (omega arith) (bytes_read xs base 127 5) (int-reads xs base 2 133 (omega arith)))
            (λ z. then-reads
            (bytes-then 2 (1 ∷ 5 ∷ 1 ∷ []) 135 (enum-reads xs base 2 _ supply_of 135)
            (bytes-then 1 (5 ∷ 1 ∷ []) 136 (bool-reads xs base 136)
            (bytes-then 5 (1 ∷ []) 137 (enum-reads xs base 5 _ mode_of 137) (bool-reads xs base 138))))
            (λ z. then-reads
            (time-then 139 (omega arith) (time-then 155 (omega arith) (time-then 171 (omega arith) (time-then 187 (omega arith)
            (time-then 203 (omega arith) (time-then 219 (omega arith) (time-reads 235)))))))
            (λ z. rest_read))));
        flash = λ index. refl;
      }
