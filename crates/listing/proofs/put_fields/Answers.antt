-- `listing::put_fields` meets its contract: the parts of the line, one after the other.
use Prim.Native.Nat.{◌<◌}
use Rattle.std.proofs.Common.{append_assoc, arith, refl}
use Rattle.listing.specs.Listing.{file_line}
use Rattle.listing.proofs.put_fields.Goals as goal

pub returns : goal.returns
unfolding file_line
returns c =
    let ascii : 0x0a < 128 = omega arith in
    rw (
      c.push.ensures.ascii ascii,
      c.put_printed.ensures.text,
      c.put_number-2.ensures.text,
      c.data_bytes.ensures,
      c.put_address-2.ensures.text,
      c.put_address.ensures.text,
      c.put_number.ensures.text,
      c.from.ensures,
    )
    (simp append_assoc refl)
