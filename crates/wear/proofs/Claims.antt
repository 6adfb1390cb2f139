-- The claims hold: `walks`.
use Prim.Native.Nat.{ℕ, zero, suc, ◌+◌, ◌≤◌}
use Rattle.block.specs.declared.Extent.{Extent}
use Rattle.refusal.specs.declared.Refusal.{Refusal}
use native.Mathlib.Decide.{dec_le}
use native.Mathlib.Nat.{zero-add}
use native.Mathlib.Omega.{arith}
use mathlib.Core.Path.{◌≡◌, refl, sym, ap, ◌∙◌}
use mathlib.Core.Bool.{Bool, true, false, cond, ◌||◌}
use mathlib.Core.List.{List, [], ◌∷◌, ◌++◌}
use Rattle.std.specs.Prelude.{Option, None, Some, Result, Ok}
use lib.Dec.{ltb}
use lib.ListN.{length}
use Rattle.lists.specs.Places.{first_from}
use Rattle.refusal.specs.declared.Causes.{Causes}
use Rattle.refusal.specs.declared.Reason.TheVariants.{WrongSize, NoStart, WrongCountdown, LostByte, WrongChecksum}
use Rattle.refusal.specs.Refusal.{refusal_at}
use Rattle.refusal.specs.Outcome.{Outcome, refused, accepted, refuse, refuse_there, refuse_first, mapped, of_block, and_then, outcome_of}
use Rattle.refusal.proofs.OutcomeLaws.{cond-accepted, and_then-accepted, if_room-accepted, mapped-accepted, of_block-accepted}
use Rattle.pulse.specs.declared.Class.{Class}
use Rattle.start.specs.Start.{start_of, start_at, find_start}
use Rattle.start.specs.Copies.{copy_two, end_of}
use Rattle.start.proofs.CopiesLaws.{locate_copies-cut_short, locate_copies-within}
use Rattle.block.specs.Block.{wrong_size}
use Rattle.block.specs.Reading.{is_miscounted, is_lost, causes_at, values_at, sum_holds, BlockRead, extent_of, block_at, read_copies, read_at, read_from, read_block, BlockPromise}
use Rattle.block.specs.Looking.{counted}
use Rattle.block.proofs.ReadingLaws.{read_block-room, read_at-accepted}
use Rattle.block.proofs.LookingLaws.{tally-whole, look-within, look-cut_short}
use Rattle.header.specs.Header.{fields_of}
use Rattle.file.specs.declared.Loaded.{Loaded}
use Rattle.file.specs.File.{measure_data}
use Rattle.file.specs.Reading.{loaded_of, file_read, read_data, read_file_by, read_file, FilePromise}
use Rattle.file.proofs.FileLaws.{measure_data-accepted, measure_data-size}
use Rattle.wear.specs.declared.Trial.{Trial}
use Rattle.wear.specs.declared.Trial.TheVariants.{Header, Data}
use Rattle.wear.specs.declared.Spot.{Spot}
use Rattle.wear.specs.declared.Totals.{Totals}
use Rattle.wear.specs.Walk.{size_of, block_of, spot, after_header, after_block, next_spot, beginning, Block, try_at, step_from, then_blocks, walk_for, blocks_from, blocks}
use Rattle.wear.specs.Report.{total, one_of, two_of, lost_of, bad_of, added, is_full, report_strip}
use Rattle.wear.specs.Claim.{is_cut, next_or, spot_after, report_strips, added_in_steps, report_in_steps, pulses_in, FileTold, Walks}
use Rattle.wear.proofs.ClassLaws.{classes-whole}
use Rattle.wear.proofs.WalkLaws.{step-told, walk-unfolds}
use Rattle.wear.proofs.Walking.{one-most, two-most, lost-most}

-- ---- The counts of a block

-- copies that lie on the strip are not refused with 4
not-cut : (causes : ℕ → Causes) (k n : ℕ) (counted lost : Option ℕ) (holds : Bool) (b : BlockRead)
    → is_cut (of_block k (mapped extent_of (refuse_first WrongCountdown counted (refuse_there (λ i. LostByte (causes i)) lost (cond holds (accepted b) (refuse WrongChecksum n)))))) ≡ false
not-cut causes k n (Some i) lost holds b = refl
not-cut causes k n None (Some i) holds b = refl
not-cut causes k n None None true b = refl
not-cut causes k n None None false b = refl

counts : (cs : List Class) (at : Spot) (b : Block) → step_from cs at ≡ accepted b → counted b.tally ≡ cond (is_cut b.outcome) 0 (b.n + 1)
unfolding try_at read_at read_copies
counts cs at b e =
    let t = step-told cs at b e in
    let n = size_of at.trial in
    let p = b.start in
    let k = block_of at.trial in
    rw (← t.tried) (elim (dec_le (end_of p n) (length cs)) [
      | yes h ↦
          let q = copy_two p n in
          rw (
            look-within cs p n t.size h,
            locate_copies-within (length cs) p n h,
            not-cut (causes_at cs p q) k n (first_from (is_miscounted cs p q) 9 0) (first_from (is_lost cs p q) (n + 1) 0) (sum_holds cs p q n) (block_at p n (values_at cs p q n)),
          )
          (tally-whole cs p q n)
      | no h ↦ rw (look-cut_short cs p n t.size (omega arith), locate_copies-cut_short (length cs) p n (omega arith))
    ])

-- ---- The block reader

read : (cs : List Class) (at : Spot) (b : Block) → step_from cs at ≡ accepted b → (out : List ℕ) → b.n ≤ length out
    → (r : Result Extent Refusal) (out' : List ℕ) → BlockPromise (read_block cs (length out) at.from b.n) out r out'
    → b.outcome ≡ of_block (block_of at.trial) (outcome_of r)
unfolding try_at read_from
read cs at b e out room r out' promised =
    let t = step-told cs at b e in
    let n = size_of at.trial in
    let same : n ≡ b.n = ap (λ (x : Block). x.n) t.tried in
    let reads : read_block cs (length out) at.from b.n ≡ read_at cs b.start n =
    rw (← same) (read_block-room cs (length out) at.from n t.size (rw same room) ∙ rw t.found)
    in
    sym (ap (λ (x : Block). x.outcome) t.tried)
    ∙ ap (of_block (block_of at.trial)) (ap (mapped extent_of) (sym reads) ∙ sym promised.0)

-- ---- A program file

-- a block that the rules read is the next one that the walk tells
record Next (cs : List Class) (from : ℕ) (trial : Trial) (b : BlockRead) : Type 0 where
  block : Block
  step : step_from cs (spot from trial) ≡ accepted block
  outcome : block.outcome ≡ accepted (record { n = size_of trial; start = block.start; end = b.extent.end })
  next : block.next ≡ spot b.extent.end (after_block trial b.payload)

module _ (cs : List Class) (from : ℕ) (trial : Trial) (b : BlockRead) (size : wrong_size (size_of trial) ≡ false) where
  step-at : (p : ℕ) → find_start cs from ≡ accepted p → read_at cs p (size_of trial) ≡ accepted b → Next cs from trial b
  unfolding step_from try_at
  step-at p f g =
      let w = (read_at-accepted cs (size_of trial) b p g).1 in
      record {
        block = try_at cs trial p;
        step = rw (size, f);
        outcome = rw (g, ← w);
        next = ap (next_spot trial p) g;
      }

  step-reads : read_from cs from (size_of trial) ≡ accepted b → Next cs from trial b
  unfolding read_from
  step-reads e = let s = and_then-accepted (find_start cs from) (λ p. read_at cs p (size_of trial)) b e in step-at s.0 s.1 s.2

-- the walk, where the next block is known
walk-next : (cs : List Class) (at : Spot) (b : Block) → step_from cs at ≡ accepted b → blocks_from cs at ≡ b ∷ blocks_from cs b.next
walk-next cs at b e = walk-unfolds cs at ∙ ap (λ (o : Outcome Block). then_blocks o (λ b. blocks_from cs b.next)) e

-- a header, and then its data block
two-told : (cs : List Class) (from n : ℕ) (h d : BlockRead) → measure_data (fields_of h.payload) ≡ accepted n
    → read_from cs from 192 ≡ accepted h → read_from cs h.extent.end n ≡ accepted d → FileTold cs from (record { fields = fields_of h.payload; stop = d.extent.end })
two-told cs from n h d m e f =
    let size = (measure_data-accepted (fields_of h.payload) n m).2 in
    let first = step-reads cs from Header h refl e in
    let second = step-reads cs h.extent.end (Data n) d (measure_data-size (fields_of h.payload) n m) f in
    let on : first.block.next ≡ spot h.extent.end (Data n) = first.next ∙ ap (λ o. spot h.extent.end (after_header o)) m in
    record {
      header = first.block;
      bytes = second.block;
      told =
          walk-next cs (spot from Header) first.block first.step
          ∙ ap (λ (bs : List Block). first.block ∷ bs)
          (ap (blocks_from cs) on ∙ walk-next cs (spot h.extent.end (Data n)) second.block second.step
          ∙ ap (λ (s : Spot). second.block ∷ blocks_from cs s) second.next);
      first = first.outcome ∙ ap (λ (s : Spot). accepted (record { n = 192; start = first.block.start; end = s.from })) (sym on);
      between = ap (λ (s : Spot). s.trial) on ∙ ap Data (sym size);
      second = rw size second.outcome;
    }

file : (cs : List Class) (from : ℕ) (h b : List ℕ) (loaded : Loaded) (h' b' : List ℕ)
    → FilePromise (read_file cs (length h) (length b) from) h b (Ok loaded) h' b' → FileTold cs from loaded
unfolding read_file_by read_data
file cs from h b loaded h' b' promised =
    let a = mapped-accepted loaded_of (read_file cs (length h) (length b) from) promised.0 in
    let t = and_then-accepted (read_from cs from 192) (λ x. read_data (read_from cs) (length h) (length b) x.extent.end x.payload) a.0 a.1 in
    let m = and_then-accepted (measure_data (fields_of t.0.payload)) _ a.0 t.2 in
    let room = if_room-accepted (length h) 192 _ a.0 m.2 in
    let room' = if_room-accepted (length b) m.0 _ a.0 room.1 in
    let d = mapped-accepted (file_read t.0.payload) (of_block 1 (read_from cs t.0.extent.end m.0)) (sym room'.1) in
    let same : record { fields = fields_of t.0.payload; stop = d.0.extent.end } ≡ loaded = ap loaded_of d.2 ∙ a.2 in
    rw (← same)
    (two-told cs from m.0 t.0 d.0 m.1 t.1 (of_block-accepted 1 (read_from cs t.0.extent.end m.0) d.0 d.1))

-- ---- Cut into steps

cut : (steps : ℕ) (cs : List Class) (at : Spot) → blocks_from cs at ≡ walk_for steps cs at ++ blocks_from cs (spot_after steps cs at)
unfolding walk_for spot_after
cut zero cs at = refl
cut (suc steps) cs at = go (cut steps cs) (step_from cs at) refl
  where
    go : ((on : Spot) → blocks_from cs on ≡ walk_for steps cs on ++ blocks_from cs (spot_after steps cs on)) → (o : Outcome Block) → step_from cs at ≡ o
        → blocks_from cs at ≡ then_blocks o (λ b. walk_for steps cs b.next) ++ blocks_from cs (next_or at o (λ b. spot_after steps cs b.next))
    go later (refused why) e = refl
    go later (accepted b) e = walk-next cs at b e ∙ ap (λ (bs : List Block). b ∷ bs) (later b.next)

report-full : (t : Totals) (cs : List Class) → (is_full t || ltb 1048576 (length cs)) ≡ true → report_strip t cs ≡ refuse WrongSize 0
unfolding report_strip
report-full t cs e = rw e

report-added : (t : Totals) (cs : List Class) → (is_full t || ltb 1048576 (length cs)) ≡ false → report_strip t cs ≡ accepted (added t cs)
unfolding report_strip
report-added t cs e = rw e

total-append : (count : Block → ℕ) (xs ys : List Block) → total count (xs ++ ys) ≡ total count xs + total count ys
unfolding total
total-append count [] ys = sym (zero-add (total count ys))
total-append count (x ∷ xs) ys = omega (arith, total-append count xs ys)

-- ---- The end

-- a walk that begins with a size that a block can have tries no other
next-size : (trial : Trial) (p : ℕ) (o : Outcome BlockRead) → wrong_size (size_of (next_spot trial p o).trial) ≡ false
next-size trial p (refused why) = refl
next-size (Data n) p (accepted b) = refl
next-size Header p (accepted b) = go (measure_data (fields_of b.payload)) refl
  where
    go : (m : Outcome ℕ) → measure_data (fields_of b.payload) ≡ m → wrong_size (size_of (after_header m)) ≡ false
    go (refused why) e = refl
    go (accepted n) e = measure_data-size (fields_of b.payload) n e

told-size : (cs : List Class) (at : Spot) (b : Block) → step_from cs at ≡ accepted b → wrong_size (size_of b.next.trial) ≡ false
unfolding try_at
told-size cs at b e = let t = step-told cs at b e in rw (← t.tried) (next-size at.trial b.start (read_at cs b.start (size_of at.trial)))

-- with such a size a step without a block is refused with 3
step-over : (cs : List Class) (at : Spot) → wrong_size (size_of at.trial) ≡ false → ((b : Block) → step_from cs at ≡ accepted b → ⊥) → step_from cs at ≡ refuse NoStart 0
unfolding step_from find_start
step-over cs at size none-found = rw size (go (start_of cs at.from) refl)
  where
    go : (o : Option ℕ) → start_of cs at.from ≡ o → mapped (try_at cs at.trial) (start_at o) ≡ refuse NoStart 0
    go None e = refl
    go (Some p) e = absurd (none-found (try_at cs at.trial p) (rw (size, e)))

ends-from : (cs : List Class) (k : ℕ) (at : Spot) → wrong_size (size_of at.trial) ≡ false → length cs ≤ at.from + k → step_from cs (spot_after k cs at) ≡ refuse NoStart 0
unfolding spot_after
ends-from cs zero at size h = step-over cs at size (λ b e. let t = step-told cs at b e in omega (arith, t.after, t.before, t.within))
ends-from cs (suc k) at size h = go (ends-from cs k) (step_from cs at) refl
  where
    go : ((on : Spot) → wrong_size (size_of on.trial) ≡ false → length cs ≤ on.from + k → step_from cs (spot_after k cs on) ≡ refuse NoStart 0)
        → (o : Outcome Block) → step_from cs at ≡ o → step_from cs (next_or at o (λ b. spot_after k cs b.next)) ≡ refuse NoStart 0
    go later (refused why) e = step-over cs at size (λ b f. cc)
    go later (accepted b) e = let t = step-told cs at b e in later b.next (told-size cs at b e) (omega (arith, t.after, t.before))

-- ---- The report

grown : (t u : Totals) (cs : List Class) → report_strip t cs ≡ accepted u → (u.strips ≡ t.strips + 1) × (pulses_in u ≡ pulses_in t + length cs)
unfolding report_strip added
grown t u cs e =
    let same = (cond-accepted (is_full t || ltb 1048576 (length cs)) (refusal_at WrongSize 0) (accepted (added t cs)) u e).1 in
    let w : added t cs ≡ u = cc in
    rw (← w) (refl, omega (arith, classes-whole cs))

in-steps : (steps : ℕ) (t : Totals) (cs : List Class) → added_in_steps steps t cs ≡ added t cs
unfolding added_in_steps added
in-steps steps t cs =
    let all : (count : Block → ℕ) (x : ℕ) → x + total count (walk_for steps cs beginning) + total count (blocks_from cs (spot_after steps cs beginning)) ≡ x + total count (blocks cs) =
    λ count x. omega (arith, ap (total count) (cut steps cs beginning), total-append count (walk_for steps cs beginning) (blocks_from cs (spot_after steps cs beginning)))
    in
    let b = t.bad in
    rw (
      all one_of t.one,
      all two_of t.two,
      all lost_of t.lost,
      all (bad_of 0) b.marker,
      all (bad_of 1) b.bit0,
      all (bad_of 2) b.bit1,
      all (bad_of 3) b.bit2,
      all (bad_of 4) b.bit3,
      all (bad_of 5) b.bit4,
      all (bad_of 6) b.bit5,
      all (bad_of 7) b.bit6,
      all (bad_of 8) b.bit7,
      all (bad_of 9) b.parity,
      all (bad_of 10) b.ones,
    )

totals : (steps : ℕ) (t : Totals) (strips : List (List Class)) → report_in_steps steps t strips ≡ report_strips t strips
unfolding report_in_steps report_strips
totals steps t [] = refl
totals steps t (cs ∷ strips) = go (is_full t || ltb 1048576 (length cs)) refl (λ u. totals steps u strips)
  where
    go : (full : Bool) → (is_full t || ltb 1048576 (length cs)) ≡ full → ((u : Totals) → report_in_steps steps u strips ≡ report_strips u strips)
        → and_then (mapped (λ _. added_in_steps steps t cs) (report_strip t cs)) (λ u. report_in_steps steps u strips) ≡ and_then (report_strip t cs) (λ u. report_strips u strips)
    go true e later = rw (report-full t cs e)
    go false e later = rw (report-added t cs e, in-steps steps t cs) (later (added t cs))

-- ---- All of them

pub walks : Walks
walks = record {
  pulses = classes-whole;
  grown = grown;
  counts = counts;
  grows = λ cs at b e. let t = step-told cs at b e in (omega (arith, t.after), t.before, t.within);
  unfolds = walk-unfolds;
  ends = λ cs. ends-from cs (length cs) beginning refl (omega arith);
  read = read;
  file = file;
  cut = cut;
  totals = totals;
  bounded = λ cs. (one-most cs, two-most cs, lost-most cs);
}
