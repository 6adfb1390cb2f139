-- Laws of where the copies of a block lie.
use Prim.Native.Nat.{ℕ, ◌≤◌, ◌<◌}
use mathlib.Core.Path.{◌≡◌}
use borrow.Author.Tests.{lt-ltb, le-ltb, ltb-false}
use lib.Dec.{ltb}
use Rattle.refusal.specs.declared.Reason.TheVariants.{CutShort}
use Rattle.refusal.specs.Refusal.{refusal_at}
use Rattle.refusal.specs.Outcome.{accepted, refuse}
use Rattle.refusal.proofs.OutcomeLaws.{cond-accepted}
use Rattle.start.specs.declared.Copies.{Copies}
use Rattle.start.specs.Copies.{end_of, copies_of, locate_copies}

module _ (count p n : ℕ) where
  pub locate_copies-cut_short : count < end_of p n → locate_copies count p n ≡ refuse CutShort p
  unfolding locate_copies
  locate_copies-cut_short h = rw (lt-ltb count (end_of p n) h)

  pub locate_copies-within : end_of p n ≤ count → locate_copies count p n ≡ accepted (copies_of p n)
  unfolding locate_copies
  locate_copies-within h = rw (le-ltb count (end_of p n) h)

  pub locate_copies-accepted : (copies : Copies) → locate_copies count p n ≡ accepted copies → (end_of p n ≤ count) × (copies_of p n ≡ copies)
  unfolding locate_copies
  locate_copies-accepted copies e =
      let r = cond-accepted (ltb count (end_of p n)) (refusal_at CutShort p) (accepted (copies_of p n)) copies e in
      (ltb-false count (end_of p n) r.0, cc)
