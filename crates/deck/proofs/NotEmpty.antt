-- What the claims ask for can be had: a beginning, and a strip within the damage of a block.
use Prim.Native.Nat.{ℕ}
use mathlib.Core.Path.{◌≡◌, refl}
use mathlib.Core.List.{List, [], ◌∷◌, append-nil}
use lib.Dec.{lit<}
use lib.ListN.{length, replicate}
use Rattle.lists.specs.Places.{Below}
use Rattle.lists.proofs.PlaceLaws.{below_one}
use Rattle.pulse.specs.Pulse.{fixed}
use Rattle.block.specs.Block.{block_pulses}
use Rattle.block.specs.Damage.{Damaged}
use Rattle.block.proofs.DamageLaws.{undamaged}
use Rattle.deck.specs.Claim.{joined, Begins}

-- one payload byte, and buffers with just the room
pub begins-one : Begins 1 (replicate 22 0) (0 ∷ [])
begins-one = record { size = refl; room = refl }

-- n at its largest
pub begins-most : (work out : List ℕ) → length work ≡ 131088 → length out ≡ 65534 → Begins 65534 work out
begins-most work out e f = record { size = refl; room = rw (e, f) }

pub payload-one : Below 256 (0xa5 ∷ [])
payload-one = below_one 0xa5 (lit< tt)

-- the block as written, in one run
pub damaged-one : Damaged fixed 64 (0xa5 ∷ []) (joined (block_pulses 64 (0xa5 ∷ []) ∷ []))
unfolding joined
damaged-one = rw append-nil (undamaged 64 (0xa5 ∷ []))
