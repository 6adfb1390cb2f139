-- `tap::writer::put_group` meets its contract: units where all durations have the one-byte form, and else form by form.
use Prim.Native.Nat.{◌+◌}
use mathlib.Core.Path.{sym, ap, ◌∙◌}
use lib.ListN.{length, length-map}
use lib.Seq.{sets}
use Rattle.std.proofs.Common.{rules}
use Rattle.tap.specs.private.Forms.{byte_units}
use Rattle.tap.proofs.FormLaws.{tap_data-units}
use Rattle.tap.proofs.writer.put_group.Goals as goal

pub put_mapped-requires-clause-room : goal.put_mapped-requires-clause-room
put_mapped-requires-clause-room c =
    let units = tap_data-units c.args.version c.args.durations.now (sym c.all_bytes.ensures ∙ c.if-all_bytes.true) in
    rw (units, length-map) at c.requires

pub returns-then-all_bytes : goal.returns-then-all_bytes
returns-then-all_bytes c =
    let units = tap_data-units c.args.version c.args.durations.now (sym c.all_bytes.ensures ∙ c.if-all_bytes.true) in
    record {
      value = ap (λ n. c.args.at + n) (sym (ap length units ∙ length-map c.args.durations.now byte_units));
      put = c.put_mapped.ensures byte_units (λ d b q. search rules) ∙ ap (sets c.args.out.now c.args.at) (sym units);
    }
