-- `block::write::checksum_of` meets its contract: the fold over the bytes so far is their XOR.
use mathlib.Core.Path.{◌≡◌, refl}
use Rattle.std.proofs.Common.{rules, subst}
use Rattle.std.proofs.lemmas.Fn.{fold_over, slice_gives, fronts}
use Rattle.block.specs.Block.{xor_from}
use Rattle.block.proofs.Summing.{xor-snoc}
use Rattle.block.proofs.write.checksum_of.Goals as goal

pub returns : goal.returns
unfolding xor_from
returns c =
    subst (λ bytes. c.fold.result ≡ xor_from 0x00 bytes) c.iter.ensures.rest
    (fold_over fronts (λ b. b.now) _ (λ bytes sum. sum ≡ xor_from 0x00 bytes) _ (λ bytes sum b next f' so_far k. rw (xor-snoc 0x00 bytes b.now, ← so_far) (search rules)) _ _ _ _ (slice_gives c.iter.result) refl c.fold.ensures.ran)
