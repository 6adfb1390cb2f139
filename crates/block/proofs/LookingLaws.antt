-- Laws of looking at a block: what it answers is what reading there gives, and what its counts add up to.
use Prim.Native.Nat.{ℕ, ◌+◌, ◌*◌, ◌≤◌, ◌<◌}
use native.Mathlib.Nat.{zero-add}
use native.Mathlib.Omega.{arith}
use mathlib.Core.Path.{◌≡◌, refl, ap, ◌∙◌}
use mathlib.Core.Bool.{false}
use mathlib.Core.List.{List}
use borrow.Author.Tests.{le-ltb}
use lib.ListN.{length, get_or-eq_default}
use Rattle.lists.specs.Places.{tabulate}
use Rattle.lists.proofs.PlaceLaws.{get_d_tabulate, table-most}
use Rattle.lists.proofs.CountLaws.{count_most}
use Rattle.refusal.specs.declared.Reason.TheVariants.{CutShort}
use Rattle.refusal.specs.Outcome.{Outcome, refused, accepted, refuse, mapped, and_then}
use Rattle.pulse.specs.declared.Class.{Class}
use Rattle.byte.specs.Byte.{byte_at, is_bad_by}
use Rattle.start.specs.declared.Copies.{Copies}
use Rattle.start.specs.Copies.{byte_place, copy_two, end_of, locate_copies}
use Rattle.start.proofs.CopiesLaws.{locate_copies-cut_short, locate_copies-within}
use Rattle.block.specs.declared.ByCause.{ByCause}
use Rattle.block.specs.Block.{wrong_size}
use Rattle.block.specs.Reading.{place_at, extent_of, read_copies, read_at}
use Rattle.block.specs.Looking.{each_cause, cause_numbers, for_cause, bad_by, tally_of, no_tally, counted, looked_at, copies_at, look_at, read_place}
use Rattle.block.proofs.Counting.{places-whole}

pub tally-whole : (cs : List Class) (one two n : ℕ) → counted (tally_of cs one two n) ≡ n + 1
unfolding tally_of
tally-whole cs one two n = places-whole cs one two n

module _ (cs : List Class) (p n : ℕ) (size : wrong_size n ≡ false) where
  by-copies : (o : Outcome Copies) → (looked_at o cs p n).outcome ≡ mapped extent_of (and_then o (λ copies. read_copies cs p n))
  by-copies (refused why) = refl
  by-copies (accepted copies) = refl

  -- what is answered is what reading at that start gives
  pub look-reads : (look_at cs p n).outcome ≡ mapped extent_of (read_at cs p n)
  unfolding look_at copies_at read_at
  look-reads = rw size (by-copies (locate_copies (length cs) p n))

  -- a block that lies on the strip has n + 1 places, all of them counted
  pub look-within : end_of p n ≤ length cs → (look_at cs p n).tally ≡ tally_of cs p (copy_two p n) n
  unfolding look_at copies_at
  look-within h = rw (size, locate_copies-within (length cs) p n h)

  -- of one that is cut short nothing is counted
  pub look-cut_short : length cs < end_of p n → look_at cs p n ≡ record { outcome = refuse CutShort p; tally = no_tally }
  unfolding look_at copies_at
  look-cut_short h = rw (size, locate_copies-cut_short (length cs) p n h)

  pub place-within : (i : ℕ) → end_of p n ≤ length cs → i ≤ n → read_place cs p n i ≡ accepted (place_at cs p (copy_two p n) i)
  unfolding read_place copies_at
  place-within i within h = rw (le-ltb n i h, size, locate_copies-within (length cs) p n within)

-- ---- A number for each cause

pub for-each : (f : ℕ → ℕ) (cause : ℕ) → cause < 11 → for_cause cause (each_cause f) ≡ f cause
unfolding tabulate
for-each f cause h = get_d_tabulate f 11 0 cause h ∙ ap f (zero-add cause)

pub for-none : (b : ByCause) (cause : ℕ) → 11 ≤ cause → for_cause cause b ≡ 0
for-none b cause h = get_or-eq_default (cause_numbers b) 0 h

pub for-most : (f : ℕ → ℕ) (bound : ℕ) → ((cause : ℕ) → f cause ≤ bound) → (cause : ℕ) → for_cause cause (each_cause f) ≤ bound
unfolding tabulate
for-most f bound most = table-most f 11 0 bound most

pub each_same : (f g : ℕ → ℕ) → ((cause : ℕ) → f cause ≡ g cause) → each_cause f ≡ each_cause g
each_same f g h = rw (h 0, h 1, h 2, h 3, h 4, h 5, h 6, h 7, h 8, h 9, h 10)

-- no number of a block is above twice the number of its places
pub tally-bad : (cs : List Class) (one two n cause : ℕ) → for_cause cause (tally_of cs one two n).bad ≤ 2 * (n + 1)
unfolding tally_of
tally-bad cs one two n =
    for-most (λ c. bad_by c cs one n + bad_by c cs two n) (2 * (n + 1))
    (λ c. omega (arith, count_most (λ i. is_bad_by c (byte_at cs (byte_place one (9 + i)))) (n + 1), count_most (λ i. is_bad_by c (byte_at cs (byte_place two (9 + i)))) (n + 1)))
