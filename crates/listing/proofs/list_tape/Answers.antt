-- `listing::list_tape` meets its contract: the text of what was read is the listing, and every text fits.
use Prim.Native.Nat.{ℕ}
use native.Mathlib.Omega.{arith}
use mathlib.Core.Path.{◌∙◌}
use lib.ListN.{replicate, length-replicate}
use Rattle.listing.proofs.Listed.{listing-answer, listing-put}
use Rattle.listing.proofs.list_tape.Goals as goal

pub returns : goal.returns
returns c =
    let t = c.text_of-text.ensures ∙ listing-answer c.args.file.now (replicate 192 0) (length-replicate {A = ℕ} 192 0) c.load-answer.result c.load-answer.new.header (c.load-answer.ensures.answer, c.load-answer.ensures.header) in
    let w = c.copy_from_slice.ensures.after ∙ c.as_bytes.ensures.value ∙ c.deref.ensures.0 in
    let p = listing-put c.args.file.now c.args.out.now t c.len-n.ensures.value w (omega (arith, c.len-n.ensures, c.told-out)) in
    record { count = p.0; text = p.1.0; part = p.1.1 }
